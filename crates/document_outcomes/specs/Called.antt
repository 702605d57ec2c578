-- Which features have something new to work out.
use Rattle.std.specs.Prelude.{ℕ, Bool, not, ◌&&◌, List, [], map, filter, Option, Some, None, unwrap_or, Result, Ok, Err}
use Rattle.std.specs.Cmp.Lexicographic.{pointwise}
use Rattle.std.specs.List.{list_any, filter_map}
use Rattle.std.specs.Option.{option_and_then}
use Rattle.object_paths.specs.Slots.{same_text}
use Rattle.property_types.specs.declared.value.Value.{Value}
use Rattle.property_types.specs.declared.value.ValueFault.{ValueFault}
use Rattle.property_types.specs.Plans.{Slots}
use Rattle.property_types.specs.Values.{same_value}
use Rattle.expr_eval.specs.Firsts.{all_of}
use Rattle.document_model.specs.Document.{Document, Object}
use Rattle.document_model.specs.Ends.{plan_behind}
use Rattle.document_model.specs.Dependencies.{existing, inputs_of}
use Rattle.document_outcomes.specs.Full.{Meanings, full}

-- What a feature works out for an object: the object's name, the type of the plan, and the values of
-- the input list.
pub record Entry : Type 0 where
  pub object : List ℕ
  pub type_name : List ℕ
  pub inputs : List Value

-- the entry of an object by the values of its input list; none where there is a fault among them
abbrev pub entry_with : Object → Slots → Result (List Value) ValueFault → Option Entry
entry_with o plan (Ok inputs) = Some (record { object = o.name; type_name = plan.type_name; inputs = inputs })
entry_with o plan (Err fault) = None

-- the entry of a feature, or of a link whose end is one, by the full outcomes of its input list
abbrev pub entry_of : Meanings → Document → Object → Option Entry
entry_of m d o =
    option_and_then (λ plan. entry_with o plan (all_of (map (full m d) (filter_map (existing d) (unwrap_or (inputs_of d o) [])))))
    (plan_behind d o)

-- the entries of a document, in the order of its objects
unfoldable pub input_lists : Meanings → Document → List Entry
input_lists m d = filter_map (entry_of m d) d.objects

-- one object, plan and list of values
abbrev pub same_entry : Entry → Entry → Bool
same_entry a b = same_text a.object b.object && same_text a.type_name b.type_name && pointwise same_value a.inputs b.inputs

-- the entries of a document that are not among those of its last recompute
unfoldable pub called : Meanings → List Entry → Document → List Entry
called m last d = filter (λ e. not (list_any (same_entry e) last)) (input_lists m d)
