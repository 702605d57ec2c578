-- The references of a tree: its paths and areas together, numbered from the left.
use Rattle.std.specs.Prelude.{◌≡◌, ℕ, ◌+◌, List, [], ◌∷◌, ◌++◌, length, map}
use Rattle.fc_base.specs.Places.{Block}
use Rattle.object_paths.specs.declared.path.Path.{Path}
use Rattle.expr_tree.specs.Tree.{Tree, literal, unit_one, flag, text, path, negate, binary, power, compare, conditional, function, modulo, aggregate, Arguments, no_more, tree, cells}

-- What a tree refers to: a slot by a path, or the filled cells of an area.
pub data Reference : Type 0 where
  to_path : Path → Reference
  to_area : Block → Reference

-- the references of a tree, and of its arguments, from the left
abbrev mutual
  pub references : Tree → List Reference
  references (literal x u) = []
  references (unit_one u) = []
  references (flag b) = []
  references (text t) = []
  references (path p) = to_path p ∷ []
  references (negate a) = references a
  references (binary op a b) = references a ++ references b
  references (power a n) = references a
  references (compare op a b) = references a ++ references b
  references (conditional c a b) = references c ++ references a ++ references b
  references (function op a) = references a
  references (modulo a b) = references a ++ references b
  references (aggregate op all) = argument_references all

  pub argument_references : Arguments → List Reference
  argument_references no_more = []
  argument_references (tree t more) = references t ++ argument_references more
  argument_references (cells area more) = to_area area ∷ argument_references more

-- how many references a tree has, and its arguments have
abbrev mutual
  pub reference_count : Tree → ℕ
  reference_count (literal x u) = 0
  reference_count (unit_one u) = 0
  reference_count (flag b) = 0
  reference_count (text t) = 0
  reference_count (path p) = 1
  reference_count (negate a) = reference_count a
  reference_count (binary op a b) = reference_count a + reference_count b
  reference_count (power a n) = reference_count a
  reference_count (compare op a b) = reference_count a + reference_count b
  reference_count (conditional c a b) = reference_count c + reference_count a + reference_count b
  reference_count (function op a) = reference_count a
  reference_count (modulo a b) = reference_count a + reference_count b
  reference_count (aggregate op all) = argument_reference_count all

  pub argument_reference_count : Arguments → ℕ
  argument_reference_count no_more = 0
  argument_reference_count (tree t more) = reference_count t + argument_reference_count more
  argument_reference_count (cells area more) = argument_reference_count more + 1

-- the tree with each path and each area changed, and all else as it was
abbrev mutual
  pub with_references : (Path → Path) → (Block → Block) → Tree → Tree
  with_references on_path on_area (literal x u) = literal x u
  with_references on_path on_area (unit_one u) = unit_one u
  with_references on_path on_area (flag b) = flag b
  with_references on_path on_area (text t) = text t
  with_references on_path on_area (path p) = path (on_path p)
  with_references on_path on_area (negate a) = negate (with_references on_path on_area a)
  with_references on_path on_area (binary op a b) = binary op (with_references on_path on_area a) (with_references on_path on_area b)
  with_references on_path on_area (power a n) = power (with_references on_path on_area a) n
  with_references on_path on_area (compare op a b) = compare op (with_references on_path on_area a) (with_references on_path on_area b)
  with_references on_path on_area (conditional c a b) =
      conditional (with_references on_path on_area c) (with_references on_path on_area a) (with_references on_path on_area b)
  with_references on_path on_area (function op a) = function op (with_references on_path on_area a)
  with_references on_path on_area (modulo a b) = modulo (with_references on_path on_area a) (with_references on_path on_area b)
  with_references on_path on_area (aggregate op all) = aggregate op (with_argument_references on_path on_area all)

  pub with_argument_references : (Path → Path) → (Block → Block) → Arguments → Arguments
  with_argument_references on_path on_area no_more = no_more
  with_argument_references on_path on_area (tree t more) =
      tree (with_references on_path on_area t) (with_argument_references on_path on_area more)
  with_argument_references on_path on_area (cells area more) = cells (on_area area) (with_argument_references on_path on_area more)

-- a reference, changed likewise
abbrev pub on_reference : (Path → Path) → (Block → Block) → Reference → Reference
on_reference on_path on_area (to_path p) = to_path (on_path p)
on_reference on_path on_area (to_area area) = to_area (on_area area)

-- the references are as many as are counted
abbrev pub ReferencesAreCounted : Type 0
ReferencesAreCounted = (t : Tree) → length (references t) ≡ reference_count t

-- the references of a changed tree are the changed references, in their order
abbrev pub ReferencesAreChanged : Type 0
ReferencesAreChanged =
    (on_path : Path → Path) (on_area : Block → Block) (t : Tree)
    → references (with_references on_path on_area t) ≡ map (on_reference on_path on_area) (references t)
