-- Outcomes of the sorts of their slots.
use Rattle.std.specs.Prelude.{◌≡◌, ℕ, true, List, [], Some, Ok, Err, slice_get}
use Rattle.fc_base.specs.Graph.{IsIn}
use Rattle.object_paths.specs.declared.slot_name.Component as c
use Rattle.object_paths.specs.Slots.{Slot}
use Rattle.property_types.specs.declared.plan.OutputPlan.{OutputPlan}
use Rattle.property_types.specs.declared.value.Value.{Value}
use Rattle.property_types.specs.declared.value.ValueFault.{ValueFault}
use Rattle.property_types.specs.declared.value.ValueFault.TheVariants.{Range}
use Rattle.property_types.specs.Plans.{Slots}
use Rattle.property_types.specs.Sorts.{sort_of_value}
use Rattle.property_types.specs.Types.{sort_of_type}
use Rattle.expr_tree.specs.Tree.{Tree}
use Rattle.expr_eval.specs.Kinds.{IsOfSort}
use Rattle.expr_eval.specs.Outcomes.{outcome_by}
use Rattle.document_model.specs.Document.{Document, Object, object_named}
use Rattle.document_model.specs.Slots.{slots, rule_of, bound}
use Rattle.document_model.specs.TypedSlots.{type_of_component}
use Rattle.document_outcomes.specs.Faults.{IsValid}
use Rattle.document_outcomes.specs.Full.{Meanings, numbered, reading, full, is_set, global_part}
use Rattle.document_outcomes.specs.Sorts.{sort}

-- What features give has the sorts of their outputs, and what placements compose has those of the
-- parts of a placement, or is Range in all four parts.
pub record GivesSorts (m : Meanings) : Type 0 where
  pub gives :
      (plan : Slots) (inputs : List Value) (k : ℕ) (out : OutputPlan) (v : Value)
      → slice_get plan.outputs k ≡ Some out → numbered (m.gives plan inputs) k ≡ Ok v → sort_of_value v ≡ sort_of_type out.prop
  pub composed :
      (own target : List Value) (k : c.Component) (v : Value)
      → m.composed own target k ≡ Ok v → sort_of_value v ≡ sort_of_type (type_of_component k)
  pub together :
      (own target : List Value) (k other : c.Component) (f : ValueFault)
      → m.composed own target k ≡ Err f → m.composed own target other ≡ Err Range

-- where a link takes its target's placement along, a fault of one part of its global placement is Range in all
-- four
abbrev pub PlacementsFaultTogether : Type 0
PlacementsFaultTogether =
    (m : Meanings) (k other : c.Component) (values : List Value) (f : ValueFault)
    → GivesSorts m → is_set (slice_get values 4) ≡ true → global_part m k values ≡ Err f → global_part m other values ≡ Err Range

-- no features, and placements that do not compose
abbrev pub no_features : Meanings
no_features = record { gives = λ plan inputs. []; composed = λ mine target k. Err Range }

-- what features give has its sorts for some of them
abbrev pub SortsCanBeGiven : Type 0
SortsCanBeGiven = GivesSorts no_features

-- in a valid document each outcome that is a value has the sort of its slot
abbrev pub OutcomesHaveSorts : Type 0
OutcomesHaveSorts =
    (m : Meanings) (d : Document) → GivesSorts m → IsValid d → (s : Slot) → IsIn s (slots d) → IsOfSort (sort d s) (full m d s)

-- and it makes no difference what an operation gives on operands that it does not want
abbrev pub NoSlotHasWrongOperands : Type 0
NoSlotHasWrongOperands =
    (m : Meanings) (d : Document) → GivesSorts m → IsValid d
    → (s : Slot) (o : Object) (e : Tree) → IsIn s (slots d) → object_named d s.object ≡ Some o → rule_of d s ≡ Some (bound e)
    → (wrong other : ValueFault) → outcome_by wrong (reading d o e (full m d)) 0 e ≡ outcome_by other (reading d o e (full m d)) 0 e
