use Rattle.std.proofs.Common.{◌≡◌, List, map, take, is_some, length, length-take, ap, ◌∙◌, arith}
use Rattle.std.proofs.lemmas.List.{length-map}
use Rattle.document_model.specs.Document.{Document}
use Rattle.document_model.specs.Slots.{slots}
use Rattle.fcdoc_file.specs.Filled.{with_first, with_float}
use Rattle.fcdoc_file.specs.FirstForm.{FirstObject, FirstProperty}
use Rattle.fcdoc_file.specs.Rows.{property_of}
use Rattle.fcdoc_file.specs.declared.var_set.FloatProperty.{FloatProperty}
use Rattle.property_types.specs.SoundPlans.{is_property_name}
use Rattle.fcdoc_file.proofs.FillingLemmas.{all-item, lacks-last, float-last, property-new, properties-more, slots-more}
use Rattle.fcdoc_file.proofs.filling.add_object.Goals as goal

pub add_property-requires-clause-live : goal.add_property-requires-clause-live
add_property-requires-clause-live c = ap is_some c.loop-property.invariant.number

pub add_property-requires-clause-new_name : goal.add_property-requires-clause-new_name
add_property-requires-clause-new_name c =
    let x = c.property-item.result in
    let below = rw c.deref-property-items.ensures.value at c.loop-property-test.true in
    let is = rw c.deref-property-items.ensures.value at c.property-item.is in
    let o : FirstObject = record { name = c.args.object.now.name; properties = map property_of (take c.loop-property.property-index c.args.object.now.properties.items) } in
    lacks-last c.args.tables.now.document o c.requires.new_name c.loop-property.tables c.in_ok-number.number.0 c.loop-property.invariant.document c.loop-property.invariant.number x.name
    (property-new c.args.object.now.properties.items c.loop-property.property-index x below is c.requires.distinct)

pub add_property-requires-clause-few : goal.add_property-requires-clause-few
add_property-requires-clause-few c =
    let below = rw c.deref-property-items.ensures.value at c.loop-property-test.true in
    let so_far = take c.loop-property.property-index c.args.object.now.properties.items in
    let o : FirstObject = record { name = c.args.object.now.name; properties = map property_of so_far } in
    omega (
      arith,
      ap (λ (d : Document). length (slots d)) c.loop-property.invariant.document,
      slots-more c.args.tables.now.document o c.holds_var_sets.ensures,
      length-map so_far property_of,
      length-take c.loop-property.property-index c.args.object.now.properties.items,
    )

pub loop-property-preserved : goal.loop-property-preserved
loop-property-preserved c =
    let x = c.property-item.result in
    let below = rw c.deref-property-items.ensures.value at c.loop-property-test.true in
    let is = rw c.deref-property-items.ensures.value at c.property-item.is in
    let o : FirstObject = record { name = c.args.object.now.name; properties = map property_of (take c.loop-property.property-index c.args.object.now.properties.items) } in
    let new = property-new c.args.object.now.properties.items c.loop-property.property-index x below is c.requires.distinct in
    record {
      document =
          c.in_ok-add_property.ensures.document c.args.object.now.name c.loop-property.invariant.number
          ∙ ap (λ (d : Document). with_float d c.args.object.now.name (property_of x)) c.loop-property.invariant.document
          ∙ float-last c.args.tables.now.document o c.requires.new_name (property_of x) new
          ∙ ap (λ (ps : List FirstProperty). with_first c.args.tables.now.document (record { name = c.args.object.now.name; properties = ps }))
          (properties-more c.args.object.now.properties.items c.loop-property.property-index x below is);
      number = c.in_ok-add_property.ensures.number c.args.object.now.name c.loop-property.invariant.number;
    }

pub add_property-requires-clause-named : goal.add_property-requires-clause-named
add_property-requires-clause-named c =
    let x = c.property-item.result in
    let below = rw c.deref-property-items.ensures.value at c.loop-property-test.true in
    let is = rw c.deref-property-items.ensures.value at c.property-item.is in
    all-item (λ (p : FloatProperty). is_property_name p.name) c.args.object.now.properties.items c.loop-property.property-index x below is c.requires.named
