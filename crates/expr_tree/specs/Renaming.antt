-- Trees with some of their references replaced, by their numbers.
use Rattle.std.specs.Prelude.{ℕ, ◌+◌, max, ◌==◌, nat_eq, if◌then◌else◌, List, [], ◌∷◌, map, slice_get, Option, Some, None}
use Rattle.std.specs.List.{AllByRecursion, IsDistinct}
use Rattle.fc_base.specs.Places.{Block}
use Rattle.object_paths.specs.declared.path.Path.{Path}
use Rattle.expr_tree.specs.declared.renaming.NewReference.{NewReference}
use Rattle.expr_tree.specs.declared.renaming.NewReference.TheVariants.{ToPath, ToArea}
use Rattle.expr_tree.specs.Numbered.{with_numbered}
use Rattle.expr_tree.specs.References.{Reference, to_path, to_area, references}
use Rattle.expr_tree.specs.Tree.{Tree}

-- what takes the place of the reference with that number, or nothing
abbrev pub new_reference : List (ℕ × NewReference) → ℕ → Option NewReference
new_reference [] number = None
new_reference (x ∷ pairs) number = if x.0 == number then Some x.1 else new_reference pairs number

-- a path takes the place of a path, and an area that of an area
abbrev pub path_or : Option NewReference → Path → Path
path_or None path = path
path_or (Some (ToPath new)) path = new
path_or (Some (ToArea area)) path = path

abbrev pub area_or : Option NewReference → Block → Block
area_or None area = area
area_or (Some (ToPath path)) area = area
area_or (Some (ToArea new)) area = new

-- the path, or the area, behind the change of those with the number
abbrev pub renamed_path : List (ℕ × NewReference) → ℕ → Path → Path
renamed_path pairs number path = path_or (new_reference pairs number) path

abbrev pub renamed_area : List (ℕ × NewReference) → ℕ → Block → Block
renamed_area pairs number area = area_or (new_reference pairs number) area

-- the tree behind the change: paths and areas are counted together from the left, from 0
abbrev pub renamed : List (ℕ × NewReference) → Tree → Tree
renamed pairs t = with_numbered (renamed_path pairs) (renamed_area pairs) 0 t

-- a path takes the place of a path, and an area that of an area
abbrev pub CanReplace : Option Reference → NewReference → Type 0
CanReplace None new = ⊥
CanReplace (Some (to_path old)) (ToPath new) = Unit {0}
CanReplace (Some (to_path old)) (ToArea new) = ⊥
CanReplace (Some (to_area old)) (ToPath new) = ⊥
CanReplace (Some (to_area old)) (ToArea new) = Unit {0}

-- each number is that of a reference of the tree and stands once, and each reference keeps its kind
pub record IsRenamingOf (pairs : List (ℕ × NewReference)) (t : Tree) : Type 0 where
  pub kinds : AllByRecursion (λ pair. CanReplace (slice_get (references t) pair.0) pair.1) pairs
  pub once : IsDistinct nat_eq (map (λ pair. pair.0) pairs)

-- one more than the greatest of the numbers
abbrev pub numbers_end : List (ℕ × NewReference) → ℕ
numbers_end [] = 0
numbers_end (x ∷ pairs) = max (x.0 + 1) (numbers_end pairs)
