-- The references of a tree, counted and changed, case by case.
use Rattle.std.proofs.Common.{◌≡◌, ◌∷◌, List, length, map, refl, arith, length-append, ap}
use Rattle.std.proofs.lemmas.List.{map-append}
use Rattle.fc_base.specs.Places.{Block}
use Rattle.object_paths.specs.declared.path.Path.{Path}
use Rattle.expr_tree.specs.Tree.{Tree, literal, unit_one, flag, text, path, negate, binary, power, compare, conditional, function, modulo, aggregate, Arguments, no_more, tree, cells}
use Rattle.expr_tree.specs.References.{Reference, to_area, references, argument_references, reference_count, argument_reference_count, with_references, with_argument_references, on_reference}

mutual
  pub length-references : (t : Tree) → length (references t) ≡ reference_count t
  length-references (literal x u) = refl
  length-references (unit_one u) = refl
  length-references (flag b) = refl
  length-references (text t) = refl
  length-references (path p) = refl
  length-references (negate a) = length-references a
  length-references (binary op a b) = rw (length-append, length-references a, length-references b)
  length-references (power a n) = length-references a
  length-references (compare op a b) = rw (length-append, length-references a, length-references b)
  length-references (conditional c a b) = rw (length-append, length-append, length-references c, length-references a, length-references b)
  length-references (function op a) = length-references a
  length-references (modulo a b) = rw (length-append, length-references a, length-references b)
  length-references (aggregate op all) = length-argument_references all

  pub length-argument_references : (all : Arguments) → length (argument_references all) ≡ argument_reference_count all
  length-argument_references no_more = refl
  length-argument_references (tree t more) = rw (length-append, length-references t, length-argument_references more)
  length-argument_references (cells area more) = omega (arith, length-argument_references more)

module _ (on_path : Path → Path) (on_area : Block → Block) where
  mutual
    pub references-with : (t : Tree) → references (with_references on_path on_area t) ≡ map (on_reference on_path on_area) (references t)
    references-with (literal x u) = refl
    references-with (unit_one u) = refl
    references-with (flag b) = refl
    references-with (text t) = refl
    references-with (path p) = refl
    references-with (negate a) = references-with a
    references-with (binary op a b) = rw (map-append, references-with a, references-with b)
    references-with (power a n) = references-with a
    references-with (compare op a b) = rw (map-append, references-with a, references-with b)
    references-with (conditional c a b) = rw (map-append, map-append, references-with c, references-with a, references-with b)
    references-with (function op a) = references-with a
    references-with (modulo a b) = rw (map-append, references-with a, references-with b)
    references-with (aggregate op all) = argument_references-with all

    pub argument_references-with : (all : Arguments) → argument_references (with_argument_references on_path on_area all) ≡ map (on_reference on_path on_area) (argument_references all)
    argument_references-with no_more = refl
    argument_references-with (tree t more) = rw (map-append, references-with t, argument_references-with more)
    argument_references-with (cells area more) = ap (λ (rs : List Reference). to_area (on_area area) ∷ rs) (argument_references-with more)
