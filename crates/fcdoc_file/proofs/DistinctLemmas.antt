-- Names that are distinct, told one after the other, as a loop does.
use Rattle.std.proofs.Common.{◌≡◌, ℕ, Bool, true, false, not, ◌&&◌, ◌||◌, List, [], ◌∷◌, ◌++◌, map, refl, sym, ap, ◌∙◌, arith, cond}
use Rattle.std.specs.Bool.{nat_eq}
use Rattle.std.specs.Borrow.{Bor}
use Rattle.std.proofs.lemmas.List.{map_push}
use Rattle.std.specs.List.{list_all, list_any}
use Rattle.std.specs.Cmp.Lexicographic.{pointwise}
use Rattle.std.proofs.lemmas.Bool.Decides.{nat_tests}
use Rattle.property_types.specs.Reserved.{is_among, are_distinct}

-- the names are distinct, and none was seen
abbrev pub distinct_beside : List (List ℕ) → List (List ℕ) → Bool
distinct_beside seen [] = true
distinct_beside seen (x ∷ xs) = not (is_among x seen) && distinct_beside (seen ++ x ∷ []) xs

nat_swapped : (x y : ℕ) → nat_eq x y ≡ nat_eq y x
nat_swapped x y = grind (arith, nat_tests)

or_nothing : (a : Bool) → (a || false) ≡ a
or_nothing true = refl
or_nothing false = refl

or_again : (a b c : Bool) → (a || (b || c)) ≡ ((a || b) || c)
or_again true b c = refl
or_again false b c = refl

regroup_tests : (a b c d : Bool) → (not (a || b) && (c && not d)) ≡ ((not a && c) && not (b || d))
regroup_tests true b c d = refl
regroup_tests false true true d = refl
regroup_tests false true false d = refl
regroup_tests false false c d = refl

regroup_all : (a b c d : Bool) → (a && ((b && c) && d)) ≡ ((a && b) && (c && d))
regroup_all true true c d = refl
regroup_all true false c d = refl
regroup_all false b c d = refl

-- texts are the same in either order
same_swapped : (xs ys : List ℕ) → pointwise nat_eq xs ys ≡ pointwise nat_eq ys xs
same_swapped [] [] = refl
same_swapped [] (y ∷ ys) = refl
same_swapped (x ∷ xs) [] = refl
same_swapped (x ∷ xs) (y ∷ ys) = rw (same_swapped xs ys, nat_swapped x y) refl

among_end : (x y : List ℕ) (seen : List (List ℕ)) → is_among y (seen ++ x ∷ []) ≡ (is_among y seen || pointwise nat_eq x y)
among_end x y [] = or_nothing (pointwise nat_eq y x) ∙ same_swapped y x
among_end x y (s ∷ seen) = ap (λ b. pointwise nat_eq y s || b) (among_end x y seen) ∙ or_again (pointwise nat_eq y s) (is_among y seen) (pointwise nat_eq x y)

-- none of the names was seen
abbrev unseen : List (List ℕ) → List (List ℕ) → Bool
unseen seen xs = list_all (λ x. not (is_among x seen)) xs

unseen_end : (x : List ℕ) (seen xs : List (List ℕ)) → unseen (seen ++ x ∷ []) xs ≡ (unseen seen xs && not (is_among x xs))
unseen_end x seen [] = refl
unseen_end x seen (y ∷ ys) = rw (among_end x y seen, unseen_end x seen ys) (regroup_tests (is_among y seen) (pointwise nat_eq x y) (unseen seen ys) (is_among x ys))

beside_is : (seen xs : List (List ℕ)) → distinct_beside seen xs ≡ (unseen seen xs && are_distinct xs)
beside_is seen [] = refl
beside_is seen (x ∷ xs) =
    ap (λ b. not (is_among x seen) && b) (beside_is (seen ++ x ∷ []) xs ∙ ap (λ b. b && are_distinct xs) (unseen_end x seen xs))
    ∙ regroup_all (not (is_among x seen)) (unseen seen xs) (not (is_among x xs)) (are_distinct xs)

all_unseen : (xs : List (List ℕ)) → unseen [] xs ≡ true
all_unseen [] = refl
all_unseen (x ∷ xs) = all_unseen xs

-- where nothing was seen the names are distinct
pub beside_nothing : (xs : List (List ℕ)) → distinct_beside [] xs ≡ are_distinct xs
beside_nothing xs = beside_is [] xs ∙ ap (λ b. b && are_distinct xs) (all_unseen xs)

-- what a set of texts contains is what its keys' texts are among
any_among : (text : List ℕ) (keys : List (Bor (List ℕ))) → list_any (λ k. pointwise nat_eq text k.now) keys ≡ is_among text (map (λ k. k.now) keys)
any_among text [] = refl
any_among text (k ∷ ks) = ap (λ b. pointwise nat_eq text k.now || b) (any_among text ks)

module _ (seen new : List (Bor (List ℕ))) (value : Bor (List ℕ)) (name : List ℕ) (names : List (List ℕ)) (all added : Bool)
    (is_added : added ≡ not (list_any (λ k. pointwise nat_eq value.now k.now) seen))
    (keys : new ≡ cond (list_any (λ k. pointwise nat_eq value.now k.now) seen) seen (seen ++ value ∷ [])) (is_name : value.now ≡ name)
    (so_far : distinct_beside (map (λ k. k.now) seen) (name ∷ names) ≡ all) where
  among : (t : Bool) → list_any (λ k. pointwise nat_eq value.now k.now) seen ≡ t → is_among name (map (λ k. k.now) seen) ≡ t
  among t e = ap (λ (n : List ℕ). is_among n (map (λ k. k.now) seen)) (sym is_name) ∙ sym (any_among value.now seen) ∙ e

  -- the name was not seen
  pub adds : added ≡ true → distinct_beside (map (λ k. k.now) new) names ≡ all
  adds fresh =
      elim (list_any (λ k. pointwise nat_eq value.now k.now) seen) as (λ t. list_any (λ k. pointwise nat_eq value.now k.now) seen ≡ t → distinct_beside (map (λ k. k.now) new) names ≡ all) [
        | true ↦ λ e. absurd (cc)
        | false ↦ λ e.
            let pushed : new ≡ seen ++ value ∷ [] = keys ∙ ap (λ t. cond t seen (seen ++ value ∷ [])) e in
            let texts : map (λ k. k.now) new ≡ map (λ k. k.now) seen ++ name ∷ [] =
            ap (map (λ k. k.now)) pushed ∙ map_push (λ (k : Bor (List ℕ)). k.now) seen value ∙ ap (λ (n : List ℕ). map (λ k. k.now) seen ++ n ∷ []) is_name in
            ap (λ (s : List (List ℕ)). distinct_beside s names) texts ∙ ap (λ t. not t && distinct_beside (map (λ k. k.now) seen ++ name ∷ []) names) (sym (among false e)) ∙ so_far
      ] refl

  -- the name was seen
  pub repeats : added ≡ false → all ≡ false
  repeats old =
      elim (list_any (λ k. pointwise nat_eq value.now k.now) seen) as (λ t. list_any (λ k. pointwise nat_eq value.now k.now) seen ≡ t → all ≡ false) [
        | true ↦ λ e. sym so_far ∙ ap (λ t. not t && distinct_beside (map (λ k. k.now) seen ++ name ∷ []) names) (among true e)
        | false ↦ λ e. absurd (cc)
      ] refl
