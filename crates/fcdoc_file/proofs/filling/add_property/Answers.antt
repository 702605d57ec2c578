use Rattle.std.proofs.Common.{◌≡◌, List, ℕ, ℤ, Some, is_some, refl, sym, ap, subst, ◌∙◌}
use Rattle.std.specs.Option.{option_and_then}
use Rattle.std.proofs.lemmas.Result.{on_ok_weaker}
use Rattle.object_paths.specs.declared.slot_name.SlotName.TheVariants.{Plain}
use Rattle.object_paths.specs.Slots.{Slot}
use Rattle.property_types.specs.declared.prop_type.PropType.{PropType}
use Rattle.property_types.specs.declared.prop_type.PropType.TheVariants.{Float}
use Rattle.property_types.specs.declared.value.Value.TheVariants.{Number}
use Rattle.document_model.specs.declared.content.Content.TheVariants.{Own}
use Rattle.document_model.specs.Contents.{IsContentOf}
use Rattle.document_model.specs.Document.{Document}
use Rattle.document_model.specs.Edited.{new_property, with_content, with_property}
use Rattle.document_model.specs.Slots.{type_of}
use Rattle.doc_tables.specs.Numbered.{name_at, slot_at}
use Rattle.doc_tables.proofs.AddedLemmas.{number-stays}
use Rattle.doc_tables.proofs.TableLemmas.{some_of}
use Rattle.fcdoc_file.proofs.filling.add_property.Goals as goal

pub set_rule-requires-clause-live : goal.set_rule-requires-clause-live
set_rule-requires-clause-live c =
    let s = some_of (name_at c.args.tables.now c.args.object.0) c.requires.live in
    ap is_some (c.in_ok-slot.ensures.slot s.0 s.1)

pub returns-clause-document : goal.returns-clause-document
returns-clause-document c =
    let v = c.args.tables.now in
    let amount = c.args.property.now.value in
    on_ok_weaker c.set_rule.result
    (λ set o at.
    let s : Slot = record { object = o; name = Plain c.in_ok-name.name } in
    (set s (c.in_ok-slot.ensures.slot o at)).document
    ∙ ap (λ (d : Document). with_content d s (Own (Number (record { amount = amount; unit = c.pure.result })))) (c.in_ok-slot.ensures.document o at)
    ∙ (λ j. with_content (with_property v.document o (new_property (c.in_ok-name.ensures j) Float)) (record { object = o; name = Plain (c.in_ok-name.ensures j) }) (Own (Number (record { amount = amount; unit = c.pure.ensures j })))))
    c.set_rule.ensures.set

pub returns-clause-number : goal.returns-clause-number
returns-clause-number c =
    let amount = c.args.property.now.value in
    on_ok_weaker c.set_rule.result
    (λ set o at.
    number-stays c.add_slot.new.tables c.set_rule.new.self c.is_numbered.ensures c.args.object.0 o (Plain c.in_ok-name.name) (Own (Number (record { amount = amount; unit = c.pure.result }))) (c.in_ok-slot.ensures.number o at)
    (set (record { object = o; name = Plain c.in_ok-name.name }) (c.in_ok-slot.ensures.slot o at)))
    c.set_rule.ensures.set

pub set_rule-requires-clause-content : goal.set_rule-requires-clause-content
set_rule-requires-clause-content c = λ type typed.
    let o = some_of (name_at c.args.tables.now c.args.object.0) c.requires.live in
    let w = c.add_slot.new.tables in
    let s : Slot = record { object = o.0; name = Plain c.in_ok-name.name } in
    let found : option_and_then (type_of w.document) (slot_at w c.in_ok-slot.slot.0) ≡ Some Float =
    ap (option_and_then (type_of w.document)) (c.in_ok-slot.ensures.slot o.0 o.1) ∙ c.in_ok-slot.ensures.typed o.0 o.1
    in
    let same : Float ≡ type = let both : Some Float ≡ Some type = sym found ∙ typed in cc in
    subst (λ (t : PropType). IsContentOf t (Own (Number (record { amount = c.args.property.now.value; unit = c.pure.result })))) same
    (subst (λ (u : List ℤ). IsContentOf Float (Own (Number (record { amount = c.args.property.now.value; unit = u })))) (sym c.pure.ensures)
    ((c.raw.ensures.bounded, record { eight = refl; each = refl }), refl))
