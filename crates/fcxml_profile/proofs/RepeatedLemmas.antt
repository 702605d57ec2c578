-- Names that are looked up among those seen, one after another, as a loop does.
use Rattle.std.proofs.Common.{◌≡◌, ◌∙◌, ℕ, Bool, true, false, cond, not, ◌||◌, List, [], ◌∷◌, ◌++◌, map, Option, Some, refl, sym, ap}
use Rattle.std.specs.Prelude.{nat_eq}
use Rattle.std.specs.Borrow.{Bor}
use Rattle.std.specs.List.{list_any}
use Rattle.std.specs.Ordering.{nat_cmp, match_ordering}
use Rattle.std.specs.declared.cmp.Ordering.{Ordering}
use Rattle.std.specs.declared.cmp.Ordering.TheVariants.{Less, Equal, Greater}
use Rattle.std.specs.Cmp.Lexicographic.{pointwise, slice_cmp, texts_ties}
use Rattle.std.specs.BTreeSet.{insert_key}
use Rattle.std.specs.BTreeMap.{is_at}
use Rattle.std.proofs.lemmas.List.Folds.{list_any-append}
use Rattle.fcxml_profile.proofs.Shorter.{not_true}
use Rattle.fcxml_profile.specs.Items.{Attribute}
use Rattle.fcxml_profile.specs.Standing.{is_among, repeated_behind}

-- the texts of names, and their order
abbrev pub texts : List (Bor (List ℕ)) → List (List ℕ)
texts names = map (λ k. k.now) names

abbrev pub text_order : Bor (List ℕ) → Bor (List ℕ) → Ordering
text_order a b = slice_cmp nat_cmp a.now b.now

or_comm : (a b : Bool) → (a || b) ≡ (b || a)
or_comm true true = refl
or_comm true false = refl
or_comm false true = refl
or_comm false false = refl

or_assoc : (a b c : Bool) → ((a || b) || c) ≡ (a || (b || c))
or_assoc true b c = refl
or_assoc false b c = refl

not_false : (b : Bool) → not b ≡ false → b ≡ true
not_false true e = refl
not_false false e = absurd (cc)

-- what a set of names contains is what its keys' texts are among
contains_among : (name : Bor (List ℕ)) (names : List (Bor (List ℕ))) → list_any (is_at (text_order name)) names ≡ is_among name.now (texts names)
contains_among name [] = refl
contains_among name (k ∷ ks) = ap (λ b. b || list_any (is_at (text_order name)) ks) (sym (texts_ties name.now k.now)) ∙ ap (λ b. pointwise nat_eq name.now k.now || b) (contains_among name ks)

among_last : (text name : List ℕ) (names : List (List ℕ)) → is_among text (names ++ name ∷ []) ≡ (is_among text (name ∷ []) || is_among text names)
among_last text name names = list_any-append (pointwise nat_eq text) names (name ∷ []) ∙ or_comm (is_among text names) (is_among text (name ∷ []))

-- a text is among the keys behind a new name where it was before, or is that name's
among_inserted : (name : Bor (List ℕ)) (names : List (Bor (List ℕ))) (text : List ℕ) → list_any (is_at (text_order name)) names ≡ false
    → is_among text (texts (insert_key text_order names name)) ≡ is_among text (texts names ++ name.now ∷ [])
among_inserted name [] text new = refl
among_inserted name (k ∷ ks) text new =
    elim (text_order name k) as (λ o. text_order name k ≡ o → (is_at (λ x. o) k || list_any (is_at (text_order name)) ks) ≡ false
    → is_among text (texts (match_ordering o (name ∷ k ∷ ks) (k ∷ ks) (k ∷ insert_key text_order ks name))) ≡ is_among text (texts (k ∷ ks) ++ name.now ∷ [])) [
      | Less ↦ λ _ new. sym (among_last text name.now (texts (k ∷ ks)) ∙ or_assoc (pointwise nat_eq text name.now) false (is_among text (texts (k ∷ ks))))
      | Equal ↦ λ _ new. absurd (cc)
      | Greater ↦ λ _ new. ap (λ b. pointwise nat_eq text k.now || b) (among_inserted name ks text new)
    ] refl new

-- names are found alike among lists with the same names
same_among : (seen others : List (List ℕ)) (later : List Attribute) → ((text : List ℕ) → is_among text seen ≡ is_among text others) → repeated_behind seen later ≡ repeated_behind others later
unfolding repeated_behind
same_among seen others [] same = refl
same_among seen others (a ∷ later) same =
    ap (λ b. cond b (Some a.place) (repeated_behind (seen ++ a.name ∷ []) later)) (same a.name)
    ∙ ap (cond (is_among a.name others) (Some a.place)) (same_among (seen ++ a.name ∷ []) (others ++ a.name ∷ []) later
    (λ text. among_last text a.name seen ∙ ap (λ b. is_among text (a.name ∷ []) || b) (same text) ∙ sym (among_last text a.name others)))

module _ (seen new : List (Bor (List ℕ))) (value : Bor (List ℕ)) (a : Attribute) (later : List Attribute) (all : Option ℕ) (added : Bool)
    (is_added : added ≡ not (list_any (is_at (text_order value)) seen)) (keys : new ≡ insert_key text_order seen value) (is_name : value.now ≡ a.name)
    (so_far : repeated_behind (texts seen) (a ∷ later) ≡ all) where
  among : (t : Bool) → list_any (is_at (text_order value)) seen ≡ t → is_among a.name (texts seen) ≡ t
  among t e = ap (λ (n : List ℕ). is_among n (texts seen)) (sym is_name) ∙ sym (contains_among value seen) ∙ e

  chosen : (t : Bool) → list_any (is_at (text_order value)) seen ≡ t → cond t (Some a.place) (repeated_behind (texts seen ++ a.name ∷ []) later) ≡ all
  unfolding repeated_behind
  chosen t e = ap (λ b. cond b (Some a.place) (repeated_behind (texts seen ++ a.name ∷ []) later)) (sym (among t e)) ∙ so_far

  -- the name was not seen
  pub adds : added ≡ true → repeated_behind (texts new) later ≡ all
  adds fresh =
      let none = not_true (list_any (is_at (text_order value)) seen) (sym is_added ∙ fresh) in
      ap (λ (ks : List (Bor (List ℕ))). repeated_behind (texts ks) later) keys
      ∙ same_among (texts (insert_key text_order seen value)) (texts seen ++ a.name ∷ []) later
      (λ text. among_inserted value seen text none ∙ ap (λ (n : List ℕ). is_among text (texts seen ++ n ∷ [])) is_name)
      ∙ chosen false none

  -- the name was seen
  pub repeats : added ≡ false → Some a.place ≡ all
  repeats old = chosen true (not_false (list_any (is_at (text_order value)) seen) (sym is_added ∙ old))
