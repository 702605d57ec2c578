-- How references are spelled makes no difference.
use Rattle.std.specs.Prelude.{◌≡◌, ℕ}
use Rattle.fc_base.specs.Places.{Block}
use Rattle.object_paths.specs.declared.path.Path.{Path}
use Rattle.expr_tree.specs.Tree.{Tree}
use Rattle.expr_tree.specs.References.{with_references}
use Rattle.expr_tree.specs.Numbered.{with_numbered}
use Rattle.expr_eval.specs.Sorts.{SortReading, sort_of}
use Rattle.expr_eval.specs.Outcomes.{Reading, outcome_of}
use Rattle.expr_eval.specs.Visited.{visited}

-- the outcome hangs on what the references give, and not on what they are
abbrev pub OutcomeIgnoresSpelling : Type 0
OutcomeIgnoresSpelling =
    (on_path : Path → Path) (on_area : Block → Block) (r : Reading) (k : ℕ) (t : Tree)
    → outcome_of r k (with_references on_path on_area t) ≡ outcome_of r k t

-- and so where each reference is changed by its number
abbrev pub OutcomeIgnoresRenaming : Type 0
OutcomeIgnoresRenaming =
    (on_path : ℕ → Path → Path) (on_area : ℕ → Block → Block) (n : ℕ) (r : Reading) (k : ℕ) (t : Tree)
    → outcome_of r k (with_numbered on_path on_area n t) ≡ outcome_of r k t

-- the sort hangs on the sorts behind the references
abbrev pub SortIgnoresSpelling : Type 0
SortIgnoresSpelling =
    (on_path : Path → Path) (on_area : Block → Block) (r : SortReading) (k : ℕ) (t : Tree)
    → sort_of r k (with_references on_path on_area t) ≡ sort_of r k t

abbrev pub SortIgnoresRenaming : Type 0
SortIgnoresRenaming =
    (on_path : ℕ → Path → Path) (on_area : ℕ → Block → Block) (n : ℕ) (r : SortReading) (k : ℕ) (t : Tree)
    → sort_of r k (with_numbered on_path on_area n t) ≡ sort_of r k t

-- how many nodes are visited hangs on what the references give
abbrev pub VisitsIgnoreSpelling : Type 0
VisitsIgnoreSpelling =
    (on_path : Path → Path) (on_area : Block → Block) (r : Reading) (k : ℕ) (t : Tree)
    → visited r k (with_references on_path on_area t) ≡ visited r k t

abbrev pub VisitsIgnoreRenaming : Type 0
VisitsIgnoreRenaming =
    (on_path : ℕ → Path → Path) (on_area : ℕ → Block → Block) (n : ℕ) (r : Reading) (k : ℕ) (t : Tree)
    → visited r k (with_numbered on_path on_area n t) ≡ visited r k t
