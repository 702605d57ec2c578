-- Trees stay spelled where their references do, case by case.
use Rattle.std.proofs.Common.{ℕ, ◌+◌, ◌==◌, List, [], ◌∷◌, ◌++◌, Option, Some, None}
use Rattle.std.specs.List.{AllByRecursion}
use Rattle.std.proofs.lemmas.Bool.{cond_both}
use Rattle.fc_base.specs.Places.{Block}
use Rattle.object_paths.specs.Paths.{IsPath}
use Rattle.object_paths.specs.declared.path.Path.{Path}
use Rattle.expr_tree.specs.declared.renaming.NewReference.{NewReference}
use Rattle.expr_tree.specs.declared.renaming.NewReference.TheVariants.{ToPath, ToArea}
use Rattle.expr_tree.specs.Numbered.{with_numbered, with_numbered_arguments}
use Rattle.expr_tree.specs.References.{Reference, references, argument_references, reference_count, with_references, with_argument_references, on_reference}
use Rattle.expr_tree.specs.Renaming.{new_reference, path_or, area_or, renamed_path, renamed_area, renamed}
use Rattle.expr_tree.specs.Spelled.{IsArea, IsSpelled, AreSpelled}
use Rattle.expr_tree.specs.Tree.{Tree, literal, unit_one, flag, text, path, negate, binary, power, compare, conditional, function, modulo, aggregate, Arguments, no_more, tree, cells}
use Rattle.expression_laws.specs.Replaced.{IsSpelledReference, IsSpelledReplacement}

-- what all of two lists have, all of both together have, and the other way
module _ {X : Type 0} (P : X → Type 0) where
  both_of : (xs ys : List X) → AllByRecursion P (xs ++ ys) → AllByRecursion P xs × AllByRecursion P ys
  both_of [] ys h = (tt, h)
  both_of (x ∷ xs) ys h = let rest = both_of xs ys h.1 in ((h.0, rest.0), rest.1)

  all_of : (xs ys : List X) → AllByRecursion P xs → AllByRecursion P ys → AllByRecursion P (xs ++ ys)
  all_of [] ys h k = k
  all_of (x ∷ xs) ys h k = (h.0, all_of xs ys h.1 k)

-- ---- the references of a spelled tree

mutual
  pub references_spelled : (t : Tree) → IsSpelled t → AllByRecursion IsSpelledReference (references t)
  references_spelled (literal x u) h = tt
  references_spelled (unit_one u) h = tt
  references_spelled (flag b) h = tt
  references_spelled (text t) h = tt
  references_spelled (path p) h = (h, tt)
  references_spelled (negate a) h = references_spelled a h
  references_spelled (binary op a b) h = all_of IsSpelledReference (references a) (references b) (references_spelled a h.0) (references_spelled b h.1)
  references_spelled (power a n) h = references_spelled a h.0
  references_spelled (compare op a b) h = all_of IsSpelledReference (references a) (references b) (references_spelled a h.0) (references_spelled b h.1)
  references_spelled (conditional c a b) h =
      all_of IsSpelledReference (references c ++ references a) (references b)
      (all_of IsSpelledReference (references c) (references a) (references_spelled c h.0) (references_spelled a h.1)) (references_spelled b h.2)
  references_spelled (function op a) h = references_spelled a h
  references_spelled (modulo a b) h = all_of IsSpelledReference (references a) (references b) (references_spelled a h.0) (references_spelled b h.1)
  references_spelled (aggregate op no_more) h = absurd h
  references_spelled (aggregate op (tree t more)) h = all_of IsSpelledReference (references t) (argument_references more) (references_spelled t h.0) (argument_references_spelled more h.1)
  references_spelled (aggregate op (cells area more)) h = (h.0, argument_references_spelled more h.1)

  argument_references_spelled : (all : Arguments) → AreSpelled all → AllByRecursion IsSpelledReference (argument_references all)
  argument_references_spelled no_more h = tt
  argument_references_spelled (tree t more) h = all_of IsSpelledReference (references t) (argument_references more) (references_spelled t h.0) (argument_references_spelled more h.1)
  argument_references_spelled (cells area more) h = (h.0, argument_references_spelled more h.1)

-- ---- references changed

module _ (on_path : Path → Path) (on_area : Block → Block) where
  -- what takes the place of the reference can be spelled
  abbrev IsKept : Reference → Type 0
  IsKept r = IsSpelledReference (on_reference on_path on_area r)

  mutual
    pub changed_spelled : (t : Tree) → IsSpelled t → AllByRecursion IsKept (references t) → IsSpelled (with_references on_path on_area t)
    changed_spelled (literal x u) h k = h
    changed_spelled (unit_one u) h k = h
    changed_spelled (flag b) h k = h
    changed_spelled (text t) h k = h
    changed_spelled (path p) h k = k.0
    changed_spelled (negate a) h k = changed_spelled a h k
    changed_spelled (binary op a b) h k = let parts = both_of IsKept (references a) (references b) k in (changed_spelled a h.0 parts.0, changed_spelled b h.1 parts.1)
    changed_spelled (power a n) h k = (changed_spelled a h.0 k, h.1)
    changed_spelled (compare op a b) h k = let parts = both_of IsKept (references a) (references b) k in (changed_spelled a h.0 parts.0, changed_spelled b h.1 parts.1)
    changed_spelled (conditional c a b) h k =
        let parts = both_of IsKept (references c ++ references a) (references b) k in
        let front = both_of IsKept (references c) (references a) parts.0 in
        (changed_spelled c h.0 front.0, changed_spelled a h.1 front.1, changed_spelled b h.2 parts.1)
    changed_spelled (function op a) h k = changed_spelled a h k
    changed_spelled (modulo a b) h k = let parts = both_of IsKept (references a) (references b) k in (changed_spelled a h.0 parts.0, changed_spelled b h.1 parts.1)
    changed_spelled (aggregate op no_more) h k = h
    changed_spelled (aggregate op (tree t more)) h k = let parts = both_of IsKept (references t) (argument_references more) k in (changed_spelled t h.0 parts.0, changed_arguments_spelled more h.1 parts.1)
    changed_spelled (aggregate op (cells area more)) h k = (k.0, changed_arguments_spelled more h.1 k.1)

    changed_arguments_spelled : (all : Arguments) → AreSpelled all → AllByRecursion IsKept (argument_references all) → AreSpelled (with_argument_references on_path on_area all)
    changed_arguments_spelled no_more h k = tt
    changed_arguments_spelled (tree t more) h k = let parts = both_of IsKept (references t) (argument_references more) k in (changed_spelled t h.0 parts.0, changed_arguments_spelled more h.1 parts.1)
    changed_arguments_spelled (cells area more) h k = (k.0, changed_arguments_spelled more h.1 k.1)

-- ---- references changed by their numbers

module _ (on_path : ℕ → Path → Path) (on_area : ℕ → Block → Block)
    (paths : (k : ℕ) (p : Path) → IsPath p → IsPath (on_path k p)) (areas : (k : ℕ) (area : Block) → IsArea area → IsArea (on_area k area)) where
  mutual
    pub numbered_spelled : (k : ℕ) (t : Tree) → IsSpelled t → IsSpelled (with_numbered on_path on_area k t)
    numbered_spelled k (literal x u) h = h
    numbered_spelled k (unit_one u) h = h
    numbered_spelled k (flag b) h = h
    numbered_spelled k (text t) h = h
    numbered_spelled k (path p) h = paths k p h
    numbered_spelled k (negate a) h = numbered_spelled k a h
    numbered_spelled k (binary op a b) h = (numbered_spelled k a h.0, numbered_spelled (k + reference_count a) b h.1)
    numbered_spelled k (power a n) h = (numbered_spelled k a h.0, h.1)
    numbered_spelled k (compare op a b) h = (numbered_spelled k a h.0, numbered_spelled (k + reference_count a) b h.1)
    numbered_spelled k (conditional c a b) h =
        (numbered_spelled k c h.0, numbered_spelled (k + reference_count c) a h.1, numbered_spelled (k + reference_count c + reference_count a) b h.2)
    numbered_spelled k (function op a) h = numbered_spelled k a h
    numbered_spelled k (modulo a b) h = (numbered_spelled k a h.0, numbered_spelled (k + reference_count a) b h.1)
    numbered_spelled k (aggregate op no_more) h = h
    numbered_spelled k (aggregate op (tree t more)) h = (numbered_spelled k t h.0, numbered_arguments_spelled (k + reference_count t) more h.1)
    numbered_spelled k (aggregate op (cells area more)) h = (areas k area h.0, numbered_arguments_spelled (k + 1) more h.1)

    numbered_arguments_spelled : (k : ℕ) (all : Arguments) → AreSpelled all → AreSpelled (with_numbered_arguments on_path on_area k all)
    numbered_arguments_spelled k no_more h = tt
    numbered_arguments_spelled k (tree t more) h = (numbered_spelled k t h.0, numbered_arguments_spelled (k + reference_count t) more h.1)
    numbered_arguments_spelled k (cells area more) h = (areas k area h.0, numbered_arguments_spelled (k + 1) more h.1)

-- ---- references replaced by a list

-- what the list has for a number, if anything
abbrev IsSpelledNew : Option NewReference → Type 0
IsSpelledNew None = Unit {0}
IsSpelledNew (Some new) = IsSpelledReplacement new

new_spelled : (pairs : List (ℕ × NewReference)) → AllByRecursion (λ (pair : ℕ × NewReference). IsSpelledReplacement pair.1) pairs → (k : ℕ) → IsSpelledNew (new_reference pairs k)
new_spelled [] all k = tt
new_spelled (x ∷ pairs) all k = cond_both (x.0 == k) (Some x.1) (new_reference pairs k) IsSpelledNew (λ _. all.0) (λ _. new_spelled pairs all.1 k)

path_or_spelled : (new : Option NewReference) (p : Path) → IsSpelledNew new → IsPath p → IsPath (path_or new p)
path_or_spelled None p n h = h
path_or_spelled (Some (ToPath new)) p n h = n
path_or_spelled (Some (ToArea area)) p n h = h

area_or_spelled : (new : Option NewReference) (area : Block) → IsSpelledNew new → IsArea area → IsArea (area_or new area)
area_or_spelled None area n h = h
area_or_spelled (Some (ToPath p)) area n h = h
area_or_spelled (Some (ToArea new)) area n h = n

pub renamed_spelled : (pairs : List (ℕ × NewReference)) (t : Tree) → IsSpelled t → AllByRecursion (λ (pair : ℕ × NewReference). IsSpelledReplacement pair.1) pairs → IsSpelled (renamed pairs t)
renamed_spelled pairs t h all =
    numbered_spelled (renamed_path pairs) (renamed_area pairs)
    (λ k p spelled. path_or_spelled (new_reference pairs k) p (new_spelled pairs all k) spelled)
    (λ k area spelled. area_or_spelled (new_reference pairs k) area (new_spelled pairs all k) spelled) 0 t h
