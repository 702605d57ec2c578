-- What edits make of the content of a slot.
use Rattle.std.specs.Prelude.{ℕ, Bool, false, ◌&&◌, not, List, [], ◌∷◌, Option, Some, None, is_some, Result, Ok, Err}
use Rattle.std.specs.Option.{option_and_then}
use Rattle.object_paths.specs.Slots.{Slot}
use Rattle.property_types.specs.declared.value.Value.{Value}
use Rattle.property_types.specs.declared.value.ValueFault.TheVariants.{Range}
use Rattle.property_types.specs.Values.{Outcome}
use Rattle.expr_grammar.specs.declared.fault.ExprFault.{ExprFault}
use Rattle.expr_tree.specs.Tree.{Tree}
use Rattle.expr_eval.specs.declared.sort_cause.SortCause.{SortCause}
use Rattle.expr_eval.specs.declared.sort_cause.SortCause.TheVariants.{KindMismatch}
use Rattle.expr_eval.specs.Firsts.{on_one}
use Rattle.expr_eval.specs.Outcomes.{Reading, outcome_of}
use Rattle.expr_eval.specs.SortRows.{SortOutcome}
use Rattle.expr_eval.specs.Sorts.{SortReading, sort_of}
use Rattle.document_model.specs.declared.content.Content.TheVariants.{Own, Bound}
use Rattle.document_model.specs.Document.{Document}
use Rattle.document_model.specs.Edited.{with_content}
use Rattle.document_model.specs.Slots.{rule_of, type_of}
use Rattle.document_outcomes.specs.Faults.{number_of_cause}
use Rattle.document_outcomes.specs.Full.{Meanings, fitted, full}
use Rattle.document_outcomes.specs.RefusalNumbers.{expr_syntax, not_recomputed, out_of_range, wrong_type}
use Rattle.document_outcomes.specs.Sorts.{bound_sort}
use Rattle.doc_tables.specs.Accessors.{tree_by}
use Rattle.doc_rules.specs.declared.refusal.Refusal.{Refusal}
use Rattle.doc_rules.specs.Accepted.{Accepted, accepted, unless_any}
use Rattle.doc_rules.specs.Commanded.{refused}

-- an expression that cannot be read, with its place
abbrev pub refusal_of_text : ExprFault → Refusal
refusal_of_text f = record { number = expr_syntax; subject = None; place = Some f.place }

-- an expression without the sort that is wanted
abbrev pub refusal_of_sort : SortCause → Refusal
refusal_of_sort cause = refused (number_of_cause cause)

-- a slot bound to what was read
abbrev pub bound_to : Document → Slot → Result Tree ExprFault → Result Accepted Refusal
bound_to d s (Ok e) = accepted (with_content d s (Bound e))
bound_to d s (Err f) = Err (refusal_of_text f)

-- what stands behind the references of a closed expression: it has none, and nothing rests on these
abbrev pub no_sorts : SortReading
no_sorts = record { at = λ k. Err KindMismatch; inside = λ k. [] }

abbrev pub no_outcomes : Reading
no_outcomes = record { at = λ k. Err Range; inside = λ k. [] }

-- the value that a slot is given; a fault is outside its type
abbrev pub value_fitted : Outcome → Result Value Refusal
value_fitted (Ok v) = Ok v
value_fitted (Err fault) = Err (refused out_of_range)

-- the value of a closed expression in a slot, by the sort that it has there
abbrev pub value_sorted : Document → Slot → Tree → SortOutcome → Result Value Refusal
value_sorted d s e (Ok sort) = value_fitted (fitted (type_of d s) (outcome_of no_outcomes 0 e))
value_sorted d s e (Err cause) = Err (refusal_of_sort cause)

-- the value of a closed expression, as the slot's type has it
abbrev pub value_given : Document → Slot → Tree → Result Value Refusal
value_given d s e = value_sorted d s e (bound_sort (type_of d s) (sort_of no_sorts 0 e))

-- the same of what was read
abbrev pub value_read : Document → Slot → Result Tree ExprFault → Result Value Refusal
value_read d s (Ok e) = value_given d s e
value_read d s (Err f) = Err (refusal_of_text f)

-- a slot set to what was read
abbrev pub set_to : Document → Slot → Result Tree ExprFault → Result Accepted Refusal
set_to d s found = on_one (λ v. accepted (with_content d s (Own v))) (value_read d s found)

-- the slot has a type, and an expression gives its value
abbrev pub is_bound : Document → Slot → Bool
is_bound d s = is_some (type_of d s) && is_some (option_and_then tree_by (rule_of d s))

-- why a slot may not be unbound
abbrev pub tests_of_unbound : Bool → Document → Slot → List (Bool × ℕ)
tests_of_unbound clean d s = (not (is_bound d s), wrong_type) ∷ (not clean, not_recomputed) ∷ []

-- a bound slot set to its outcome, which is known of a clean document
abbrev pub unbound : Meanings → Bool → Document → Slot → Result Accepted Refusal
unbound m clean d s =
    unless_any (tests_of_unbound clean d s) (on_one (λ v. accepted (with_content d s (Own v))) (value_fitted (full m d s)))
