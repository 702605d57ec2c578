-- Which slots a recompute evaluates, and how many nodes it visits.
use Rattle.std.specs.Prelude.{◌≡◌, ◌↔◌, ℕ, ◌+◌, ◌-◌, ◌^◌, min, Bool, true, false, not, ◌&&◌, List, Option, Some, None, IsTrue, Ok, Err, is_some, filter}
use Rattle.std.specs.List.{sum_by, IsDistinct}
use Rattle.std.specs.Option.{option_and_then}
use Rattle.fc_base.specs.Graph.{IsIn}
use Rattle.object_paths.specs.Slots.{Slot, same_slot}
use Rattle.property_types.specs.declared.value.ValueFault.{ValueFault}
use Rattle.property_types.specs.declared.value.ValueFault.TheVariants.{Range, DivideByZero, NotWhole, OutOfType, EmptyAggregate}
use Rattle.property_types.specs.Values.{Outcome, same_value}
use Rattle.expr_eval.specs.Visited.{visited}
use Rattle.expr_tree.specs.Nodes.{node_count}
use Rattle.expr_tree.specs.Tree.{Tree}
use Rattle.document_model.specs.Document.{Document, Object, object_named}
use Rattle.document_model.specs.Slots.{slots, rule_of}
use Rattle.document_outcomes.specs.Full.{Meanings, full, reading}
use Rattle.doc_tables.specs.Accessors.{tree_by}
use Rattle.doc_tables.specs.Numbered.{Numbered, at_number, number_of}

-- the expression to which a slot is bound
abbrev pub expression_of : Document → Slot → Option Tree
expression_of d s = option_and_then tree_by (rule_of d s)

-- the nodes of an expression, if there is one
abbrev pub nodes_of : Option Tree → ℕ
nodes_of None = 0
nodes_of (Some e) = node_count e

-- the nodes of the expressions of these slots
abbrev pub nodes_of_slots : Document → List Slot → ℕ
nodes_of_slots d slots = sum_by (λ s. nodes_of (expression_of d s)) slots

-- the nodes that are visited of an expression of an object, if there are both
abbrev pub visits_of : (Slot → Outcome) → Document → Option Object → Option Tree → ℕ
visits_of w d None e = 0
visits_of w d (Some o) None = 0
visits_of w d (Some o) (Some e) = visited (reading d o e w) 0 e

-- the nodes that are visited of the expression of a slot, for what the slots have
abbrev pub visits_with : (Slot → Outcome) → Document → Slot → ℕ
visits_with w d s = visits_of w d (object_named d s.object) (expression_of d s)

-- and for the full outcomes
abbrev pub visits : Meanings → Document → Slot → ℕ
visits m d s = visits_with (full m d) d s

-- two faults that are the same
abbrev pub same_fault : ValueFault → ValueFault → Bool
same_fault Range Range = true
same_fault DivideByZero DivideByZero = true
same_fault NotWhole NotWhole = true
same_fault OutOfType OutOfType = true
same_fault EmptyAggregate EmptyAggregate = true
same_fault _ _ = false

-- two values or two faults that are the same
abbrev pub same_outcome : Outcome → Outcome → Bool
same_outcome (Ok v) (Ok w) = same_value v w
same_outcome (Err f) (Err g) = same_fault f g
same_outcome _ _ = false

-- the test of outcomes holds exactly between equal outcomes
abbrev pub SameOutcomeIsEquality : Type 0
SameOutcomeIsEquality = (a b : Outcome) → IsTrue (same_outcome a b) ↔ (a ≡ b)

-- an outcome is there, and it is this one
abbrev pub is_outcome : Option Outcome → Outcome → Bool
is_outcome None o = false
is_outcome (Some kept) o = same_outcome kept o

-- what is kept for a slot, if something is
abbrev pub kept_of : Numbered → List (Option Outcome) → Slot → Option Outcome
kept_of t values s = option_and_then (at_number values) (number_of t s)

-- a bound slot for which nothing is kept, or another outcome than its full one
abbrev pub is_stale : Meanings → Numbered → List (Option Outcome) → Slot → Bool
is_stale m t values s = is_some (expression_of t.document s) && not (is_outcome (kept_of t values s) (full m t.document s))

-- the stale slots of the document
abbrev pub stale_slots : Meanings → Numbered → List (Option Outcome) → List Slot
stale_slots m t values = filter (is_stale m t values) (slots t.document)

-- the slots that a recompute may work out: all of the document, since each recompute works out every
-- slot
abbrev pub to_be_done : Document → List Slot
to_be_done d = slots d

-- The slots that were worked out, each once: they are among those to be done, those that were stale
-- before are among them, and the steps that were taken are the nodes that are visited of their
-- expressions.
pub record Evaluated (m : Meanings) (t : Numbered) (before : List (Option Outcome)) (old new : ℕ) : Type 0 where
  pub slots : List Slot
  pub once : IsDistinct same_slot slots
  pub due : (s : Slot) → IsIn s slots → IsIn s (to_be_done t.document)
  pub stale : (s : Slot) → IsIn s (stale_slots m t before) → IsIn s slots
  pub steps : new ≡ min (old + sum_by (visits m t.document) slots) (2 ^ 64 - 1)
