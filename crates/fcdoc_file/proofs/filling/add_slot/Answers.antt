use Rattle.std.proofs.Common.{◌≡◌, ◌≢◌, Bool, ◌&&◌, ◌||◌, not, List, ℕ, Option, Some, is_some, ap, subst}
use Rattle.fc_base.specs.Places.{looks_like_address}
use Rattle.document_model.specs.declared.kind.ObjectKind.TheVariants.{VarSet}
use Rattle.document_model.specs.Kinds.{is_sheet}
use Rattle.fc_base.specs.declared.ids.SlotId.{SlotId}
use Rattle.object_paths.specs.declared.slot_name.SlotName.{SlotName}
use Rattle.object_paths.specs.declared.slot_name.SlotName.TheVariants.{Plain}
use Rattle.property_types.specs.declared.prop_type.PropType.TheVariants.{Float, Placement}
use Rattle.document_model.specs.Document.{Object}
use Rattle.document_model.specs.Resolution.{slot_in}
use Rattle.std.specs.Option.{option_and_then}
use Rattle.doc_tables.specs.Accessors.{IsNumberOf}
use Rattle.doc_tables.specs.Numbered.{name_at, object_at}
use Rattle.doc_tables.proofs.AddedLemmas.{new-typed, number-kept, slot-numbered, slot-some}
use Rattle.doc_tables.proofs.TableLemmas.{some_of}
use Rattle.fcdoc_file.proofs.filling.add_slot.Goals as goal

not_placed : Float ≢ Placement
not_placed e = cc

pub slot_of-requires : goal.slot_of-requires
slot_of-requires c =
    let v = c.args.tables.now in
    let s = some_of (name_at v c.args.object.0) c.requires.live in
    ap is_some (number-kept v c.add_property.new.self c.args.object.0 s.0 c.args.name Float c.is_numbered.ensures c.holds_var_sets.ensures not_placed s.1 c.requires.new_name (c.in_ok-add_property.ensures.added s.0 s.1))

pub unwrap-requires : goal.unwrap-requires
unwrap-requires c =
    let v = c.args.tables.now in
    let w = c.add_property.new.self in
    let s = some_of (name_at v c.args.object.0) c.requires.live in
    slot-some v w c.args.object.0 s.0 c.args.name Float c.is_numbered.ensures c.holds_var_sets.ensures not_placed s.1 c.requires.new_name (c.in_ok-add_property.ensures.added s.0 s.1) c.slot_of.result
    (subst (λ (k : SlotName). IsNumberOf w c.slot_of.result (option_and_then (λ (o : Object). slot_in w.document o k) (object_at w c.args.object.0))) c.requires.same c.slot_of.ensures)

pub returns-clause-document : goal.returns-clause-document
returns-clause-document c = λ o at. (c.in_ok-add_property.ensures.added o at).document

pub returns-clause-number : goal.returns-clause-number
returns-clause-number c = λ o at.
    number-kept c.args.tables.now c.add_property.new.self c.args.object.0 o c.args.name Float c.is_numbered.ensures c.holds_var_sets.ensures not_placed at c.requires.new_name (c.in_ok-add_property.ensures.added o at)

pub returns-clause-slot : goal.returns-clause-slot
returns-clause-slot c = λ o at.
    let w = c.add_property.new.self in
    slot-numbered c.args.tables.now w c.args.object.0 o c.args.name Float c.is_numbered.ensures c.holds_var_sets.ensures not_placed at c.requires.new_name (c.in_ok-add_property.ensures.added o at) c.unwrap.result
    (subst (λ (id : Option SlotId). IsNumberOf w id (option_and_then (λ (x : Object). slot_in w.document x (Plain c.args.name)) (object_at w c.args.object.0))) c.unwrap.ensures
    (subst (λ (k : SlotName). IsNumberOf w c.slot_of.result (option_and_then (λ (x : Object). slot_in w.document x k) (object_at w c.args.object.0))) c.requires.same c.slot_of.ensures))

pub add_property-requires-clause-name : goal.add_property-requires-clause-name
add_property-requires-clause-name c = ap (λ (b : Bool). b && (not (is_sheet VarSet) || not (looks_like_address c.args.name))) c.requires.named

pub returns-clause-typed : goal.returns-clause-typed
returns-clause-typed c = λ o at.
    new-typed c.args.tables.now c.add_property.new.self c.args.object.0 o c.args.name Float c.is_numbered.ensures c.holds_var_sets.ensures not_placed at c.requires.new_name (c.in_ok-add_property.ensures.added o at)
