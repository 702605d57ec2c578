-- A tree that can be spelled stays one with other references in place of its own.
use Rattle.std.specs.Prelude.{ℕ, List}
use Rattle.std.specs.List.{AllByRecursion}
use Rattle.fc_base.specs.Places.{Block}
use Rattle.object_paths.specs.Paths.{IsPath}
use Rattle.object_paths.specs.declared.path.Path.{Path}
use Rattle.expr_tree.specs.declared.renaming.NewReference.{NewReference}
use Rattle.expr_tree.specs.declared.renaming.NewReference.TheVariants.{ToPath, ToArea}
use Rattle.expr_tree.specs.References.{Reference, to_path, to_area, references, with_references, on_reference}
use Rattle.expr_tree.specs.Renaming.{renamed}
use Rattle.expr_tree.specs.Spelled.{IsArea, IsSpelled}
use Rattle.expr_tree.specs.Tree.{Tree}

-- a path or an area that a text can spell
abbrev pub IsSpelledReference : Reference → Type 0
IsSpelledReference (to_path p) = IsPath p
IsSpelledReference (to_area area) = IsArea area

-- the same of what takes the place of a path or of an area
abbrev pub IsSpelledReplacement : NewReference → Type 0
IsSpelledReplacement (ToPath p) = IsPath p
IsSpelledReplacement (ToArea area) = IsArea area

-- the references of a tree that can be spelled can be spelled
abbrev pub ReferencesAreSpelled : Type 0
ReferencesAreSpelled = (t : Tree) → IsSpelled t → AllByRecursion IsSpelledReference (references t)

-- with each of them changed to one that can be spelled, the tree can be spelled
abbrev pub ChangedTreesAreSpelled : Type 0
ChangedTreesAreSpelled =
    (on_path : Path → Path) (on_area : Block → Block) (t : Tree) → IsSpelled t
    → AllByRecursion (λ (r : Reference). IsSpelledReference (on_reference on_path on_area r)) (references t)
    → IsSpelled (with_references on_path on_area t)

-- and so with those replaced that a list of numbers names
abbrev pub RenamedTreesAreSpelled : Type 0
RenamedTreesAreSpelled =
    (pairs : List (ℕ × NewReference)) (t : Tree) → IsSpelled t
    → AllByRecursion (λ (pair : ℕ × NewReference). IsSpelledReplacement pair.1) pairs → IsSpelled (renamed pairs t)
