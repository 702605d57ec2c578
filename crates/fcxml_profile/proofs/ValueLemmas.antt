-- What stands in front of something in a text is shorter than the text.
use Rattle.std.proofs.Common.{◌≡◌, ◌<◌, ◌+◌, ℕ, true, false, cond, List, [], ◌∷◌, length, codes, Option, None, Some, refl, subst, arith, eqb}
use Rattle.std.specs.List.{list_any}
use Rattle.fcxml_profile.specs.Fronts.{after, with_byte, split_at, cut_quoted, quoted_at, without_markup, value_at}
use Rattle.fcxml_profile.proofs.Shorter.{bind_some, cond_none, after-shorter}

with_byte-front : (c : ℕ) (cs : List ℕ) (q : Option (List ℕ × List ℕ)) (cut : List ℕ × List ℕ) → ((inner : List ℕ × List ℕ) → q ≡ Some inner → length inner.0 < length cs)
    → with_byte c q ≡ Some cut → length cut.0 < length (c ∷ cs)
with_byte-front c cs None cut shorter e = absurd (cc)
with_byte-front c cs (Some inner) cut shorter e =
    let same : (c ∷ inner.0, inner.1) ≡ cut = cc in
    let P : List ℕ × List ℕ → Type 0 = λ p. length p.0 < length (c ∷ cs) in
    subst P same (omega (arith, shorter inner refl))

split_at-front : (byte : ℕ) (text : List ℕ) (cut : List ℕ × List ℕ) → split_at byte text ≡ Some cut → length cut.0 < length text
unfolding split_at
split_at-front byte [] cut e = absurd (cc)
split_at-front byte (c ∷ cs) cut e =
    elim (eqb c byte) as (λ t. cond t (Some ([], cs)) (with_byte c (split_at byte cs)) ≡ Some cut → length cut.0 < length (c ∷ cs)) [
      | true ↦ λ found.
          let same : ([], cs) ≡ cut = cc in
          let P : List ℕ × List ℕ → Type 0 = λ p. length p.0 < length (c ∷ cs) in
          subst P same (omega arith)
      | false ↦ λ found. with_byte-front c cs (split_at byte cs) cut (λ inner e'. split_at-front byte cs inner e') found
    ] e

cut_quoted-front : (text : List ℕ) (double single : Option (List ℕ)) (cut : List ℕ × List ℕ) → ((rest : List ℕ) → double ≡ Some rest → length rest < length text)
    → ((rest : List ℕ) → single ≡ Some rest → length rest < length text) → cut_quoted double single ≡ Some cut → length cut.0 + 1 < length text
cut_quoted-front text (Some inner) single cut one other e = omega (arith, one inner refl, split_at-front 34 inner cut e)
cut_quoted-front text None (Some inner) cut one other e = omega (arith, other inner refl, split_at-front 39 inner cut e)
cut_quoted-front text None None cut one other e = absurd (cc)

-- a value is shorter than the text that it is cut out of, by its quotes at least
pub value_at-front : (text : List ℕ) (cut : List ℕ × List ℕ) → value_at text ≡ Some cut → length cut.0 + 1 < length text
unfolding quoted_at
value_at-front text cut e =
    let found = bind_some (quoted_at text) without_markup cut e in
    let same = cond_none (list_any (λ c. eqb c 60) found.0.0) found.0 cut found.2 in
    let P : List ℕ × List ℕ → Type 0 = λ p. length p.0 + 1 < length text in
    subst P same.1 (cut_quoted-front text (after (codes "\"") text) (after (codes "'") text) found.0
    (λ rest e'. omega (arith, after-shorter (codes "\"") text rest e')) (λ rest e'. omega (arith, after-shorter (codes "'") text rest e')) found.1)
