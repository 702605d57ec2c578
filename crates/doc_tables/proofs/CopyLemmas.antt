-- A key that comes later is not among those so far.
use Rattle.std.proofs.Common.{◌≡◌, ℕ, nat_eq, List, ◌∷◌, ◌++◌, map, None, sym, ap, subst, ◌∙◌}
use Rattle.std.specs.Cmp.Lexicographic.{pointwise, nat_list_eq_equiv}
use Rattle.std.specs.List.{IsDistinct}
use Rattle.std.specs.Map.{keys_of, lookup}
use Rattle.std.proofs.lemmas.List.{map-append}
use Rattle.std.proofs.lemmas.Simd.{map-map}
use Rattle.indexmap.proofs.MapLemmas.{absent_before}
use Rattle.doc_tables.specs.Shown.{Shown, shown}
use Rattle.doc_tables.proofs.HeldLemmas.{Owned}

pub later-property : {X : Type 0} (so_far rest all : List (List ℕ × X)) (e : List ℕ × X) → so_far ++ e ∷ rest ≡ all → IsDistinct (pointwise nat_eq) (keys_of all) → lookup (pointwise nat_eq e.0) so_far ≡ None
later-property {X} so_far rest all e same distinct =
    absent_before nat_list_eq_equiv so_far rest e (subst (λ (l : List (List ℕ × X)). IsDistinct (pointwise nat_eq) (keys_of l)) (sym same) distinct)

pub later-object : (so_far rest all : List Owned) (e : Owned) → map shown so_far ++ map shown (e ∷ rest) ≡ map shown all → IsDistinct (pointwise nat_eq) (keys_of all) → lookup (pointwise nat_eq e.0) so_far ≡ None
later-object so_far rest all e same distinct =
    let name : Shown → List ℕ = λ o. o.0 in
    let keys : keys_of all ≡ keys_of (so_far ++ e ∷ rest) =
    sym (map-map name shown all) ∙ ap (map name) (sym same ∙ sym (map-append shown so_far (e ∷ rest))) ∙ map-map name shown (so_far ++ e ∷ rest)
    in
    absent_before nat_list_eq_equiv so_far rest e (subst (IsDistinct (pointwise nat_eq)) keys distinct)
