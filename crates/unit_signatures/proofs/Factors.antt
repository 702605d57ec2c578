-- A unit's text factor by factor is the text of its factors joined.
use Rattle.std.proofs.Common.{◌≡◌, ℕ, true, false, cond, ℤ, pos, List, [], ◌∷◌, ◌++◌, length, get_or, refl, ap, sym, ◌∙◌, append_assoc, append-nil, arith}
use Rattle.std.specs.List.{join_with_byte}
use Rattle.std.specs.Ordering.{int_eq}
use Rattle.std.specs.Fmt.{signed_decimal}
use Rattle.unit_signatures.specs.UnitTexts.{factor_text, factors, base_units, unit_text}
use Rattle.unit_signatures.specs.Written.{with_factor}

-- all factors, one after another
abbrev written : List ℕ → List (List ℕ) → List ℤ → List ℕ
written done [] es = done
written done (base ∷ bases) [] = done
written done (base ∷ bases) (e ∷ es) = written (with_factor done base e) bases es

-- pieces, each behind `*`
abbrev starred : List (List ℕ) → List ℕ
starred [] = []
starred (p ∷ ps) = (42 ∷ p) ++ starred ps

joined : (p : List ℕ) (ps : List (List ℕ)) → join_with_byte 42 (p ∷ ps) ≡ p ++ starred ps
joined p [] = sym (append-nil p)
joined p (q ∷ ps) = ap (λ t. p ++ 42 ∷ t) (joined q ps)

written-some : (c : ℕ) (cs : List ℕ) (bases : List (List ℕ)) (es : List ℤ)
    → written (c ∷ cs) bases es ≡ (c ∷ cs) ++ starred (factors bases es)
written-some c cs [] es = sym (append-nil (c ∷ cs))
written-some c cs (base ∷ bases) [] = sym (append-nil (c ∷ cs))
written-some c cs (base ∷ bases) (e ∷ es) =
    elim (int_eq e (pos 0)) as (λ b. written (cond b (c ∷ cs) ((c ∷ cs) ++ 42 ∷ factor_text base e)) bases es
    ≡ (c ∷ cs) ++ starred (cond b (factors bases es) (factor_text base e ∷ factors bases es))) [
      | true ↦ written-some c cs bases es
      | false ↦ written-some c (cs ++ 42 ∷ factor_text base e) bases es
          ∙ append_assoc (c ∷ cs) (42 ∷ factor_text base e) (starred (factors bases es))
    ]

-- each base unit has a name
abbrev AllNamed : List (List ℕ) → Type 0
AllNamed [] = Unit {0}
AllNamed ([] ∷ bases) = ⊥
AllNamed ((c ∷ cs) ∷ bases) = AllNamed bases

-- a factor begins with its base unit
factor-some : (c : ℕ) (cs : List ℕ) (e : ℤ) → (rest : List ℕ) × (factor_text (c ∷ cs) e ≡ c ∷ rest)
factor-some c cs e =
    elim (int_eq e (pos 1)) as (λ b. (rest : List ℕ) × (cond b (c ∷ cs) ((c ∷ cs) ++ 94 ∷ signed_decimal e) ≡ c ∷ rest)) [
      | true ↦ (cs, refl)
      | false ↦ (cs ++ 94 ∷ signed_decimal e, refl)
    ]

written-none : (bases : List (List ℕ)) (es : List ℤ) → AllNamed bases → written [] bases es ≡ join_with_byte 42 (factors bases es)
written-none [] es named = refl
written-none ([] ∷ bases) es named = absurd named
written-none ((c ∷ cs) ∷ bases) [] named = refl
written-none ((c ∷ cs) ∷ bases) (e ∷ es) named =
    let first = factor-some c cs e in
    let some : written (factor_text (c ∷ cs) e) bases es ≡ join_with_byte 42 (factor_text (c ∷ cs) e ∷ factors bases es) =
    ap (λ t. written t bases es) first.1 ∙ written-some c first.0 bases es
    ∙ ap (λ t. t ++ starred (factors bases es)) (sym first.1) ∙ sym (joined (factor_text (c ∷ cs) e) (factors bases es)) in
    elim (int_eq e (pos 0)) as (λ b. written (cond b [] (factor_text (c ∷ cs) e)) bases es
    ≡ join_with_byte 42 (cond b (factors bases es) (factor_text (c ∷ cs) e ∷ factors bases es))) [
      | true ↦ written-none bases es named
      | false ↦ some
    ]

eight : (es : List ℤ) → length es ≡ 8
    → get_or es 0 (pos 0) ∷ get_or es 1 (pos 0) ∷ get_or es 2 (pos 0) ∷ get_or es 3 (pos 0) ∷ get_or es 4 (pos 0)
    ∷ get_or es 5 (pos 0) ∷ get_or es 6 (pos 0) ∷ get_or es 7 (pos 0) ∷ [] ≡ es
eight (a ∷ b ∷ c ∷ d ∷ e ∷ f ∷ g ∷ h ∷ []) long = refl
eight _ long = absurd (omega (arith, long))

-- the eight base units one after another give the text of the unit
pub written_text : (es : List ℤ) → length es ≡ 8 → written [] base_units es ≡ unit_text es
unfolding unit_text
written_text es long = written-none base_units es tt

pub written_parts : (es : List ℤ) → length es ≡ 8
    → written [] base_units (get_or es 0 (pos 0) ∷ get_or es 1 (pos 0) ∷ get_or es 2 (pos 0) ∷ get_or es 3 (pos 0) ∷ get_or es 4 (pos 0)
    ∷ get_or es 5 (pos 0) ∷ get_or es 6 (pos 0) ∷ get_or es 7 (pos 0) ∷ []) ≡ unit_text es
written_parts es long = ap (λ t. written [] base_units t) (eight es long) ∙ written_text es long

-- one factor written
pub step : (after before done base : List ℕ) (x e : ℤ) → after ≡ with_factor before base x → before ≡ done → x ≡ e → after ≡ with_factor done base e
step after before done base x e h same value = h ∙ ap (λ t. with_factor t base x) same ∙ ap (λ z. with_factor done base z) value
