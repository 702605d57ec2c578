-- Private: only contracts inside this crate cite this.
-- How much there is to evaluate at the slots of numbers.
use Rattle.std.specs.Prelude.{ℕ, List, Option}
use Rattle.std.specs.Option.{option_map_or}
use Rattle.property_types.specs.Values.{Outcome}
use Rattle.document_outcomes.specs.Full.{Meanings}
use Rattle.doc_tables.specs.Accessors.{tree_at}
use Rattle.doc_tables.specs.Numbered.{Numbered, slot_at}
use Rattle.recompute.specs.Evaluated.{nodes_of, visits_with, visits}
use Rattle.recompute.specs.Kept.{kept_for}

-- the nodes of the expression of the slot of a number
abbrev pub nodes_at : Numbered → ℕ → ℕ
nodes_at t n = nodes_of (tree_at t n)

-- the nodes that are visited of it for what is kept
abbrev pub visits_kept : Numbered → List (Option Outcome) → ℕ → ℕ
visits_kept t values n = option_map_or (visits_with (kept_for t values) t.document) (slot_at t n) 0

-- and for the full outcomes
abbrev pub visits_at : Meanings → Numbered → ℕ → ℕ
visits_at m t n = option_map_or (visits m t.document) (slot_at t n) 0
