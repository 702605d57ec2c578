-- Private: only contracts inside this crate cite this.
-- Writing a unit's text factor by factor.
use Rattle.std.specs.Prelude.{ℕ, ℤ, pos, List, [], ◌∷◌, ◌++◌, if◌then◌else◌}
use Rattle.std.specs.Ordering.{int_eq}
use Rattle.unit_signatures.specs.UnitTexts.{factor_text}

-- a piece after what is written, with `*` between them
abbrev pub behind : List ℕ → List ℕ → List ℕ
behind [] piece = piece
behind (c ∷ cs) piece = (c ∷ cs) ++ 42 ∷ piece

-- a base unit after what is written, unless its exponent is 0
abbrev pub with_factor : List ℕ → List ℕ → ℤ → List ℕ
with_factor done base e = if int_eq e (pos 0) then done else behind done (factor_text base e)
