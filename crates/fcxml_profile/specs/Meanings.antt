-- Private: only contracts inside this crate cite this.
-- What a character of an attribute's value means.
use Rattle.std.specs.Prelude.{ℕ, ◌==◌, List, [], ◌∷◌, Option, Some, if◌then◌else◌, encode_utf8}
use Rattle.fcxml_profile.specs.References.{reference_at, is_spacing, after_return}

-- the bytes that a character means with the text after it, and what follows; none where it is a `&` that begins no
-- reference
abbrev pub meaning_of : ℕ → List ℕ → Option (List ℕ × List ℕ)
meaning_of c text =
    if c == 38 then reference_at text
    else (if c == 13 then Some (32 ∷ [], after_return text)
    else Some (if is_spacing c then 32 ∷ [] else encode_utf8 c, text))
