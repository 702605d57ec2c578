use Rattle.std.proofs.Common.{◌+◌, ◌<◌, ◌^◌, length, ap, ◌∙◌, arith}
use Rattle.document_model.specs.Document.{Document}
use Rattle.document_model.specs.Slots.{slots}
use Rattle.fcdoc_file.specs.Filled.{with_first}
use Rattle.fcdoc_file.specs.Rows.{object_of}
use Rattle.fcdoc_file.proofs.FillingLemmas.{object-new, objects-more, properties-distinct, properties-named, few-objects, few-slots}
use Rattle.fcdoc_file.proofs.filling.tables_of.Goals as goal

pub add_object-requires-clause-new_name : goal.add_object-requires-clause-new_name
add_object-requires-clause-new_name c =
    rw c.loop-object.invariant (object-new c.args.objects.now c.loop-object.object-index c.object-item.result c.loop-object-test.true c.object-item.is c.requires)

pub add_object-requires-clause-distinct : goal.add_object-requires-clause-distinct
add_object-requires-clause-distinct c =
    properties-distinct c.args.objects.now c.loop-object.object-index c.object-item.result c.loop-object-test.true c.object-item.is c.requires

pub add_object-requires-clause-few_objects : goal.add_object-requires-clause-few_objects
add_object-requires-clause-few_objects c =
    rw c.loop-object.invariant (few-objects c.args.objects.now c.loop-object.object-index c.object-item.result c.loop-object-test.true c.object-item.is c.requires)

pub add_object-requires-clause-few_slots : goal.add_object-requires-clause-few_slots
add_object-requires-clause-few_slots c =
    rw c.loop-object.invariant (few-slots c.args.objects.now c.loop-object.object-index c.object-item.result c.loop-object-test.true c.object-item.is c.requires)

pub loop-object-preserved : goal.loop-object-preserved
loop-object-preserved c =
    c.in_ok-add_object.ensures
    ∙ ap (λ (d : Document). with_first d (object_of c.object-item.result)) c.loop-object.invariant
    ∙ objects-more c.args.objects.now c.loop-object.object-index c.object-item.result c.loop-object-test.true c.object-item.is

pub add_object-requires-clause-named : goal.add_object-requires-clause-named
add_object-requires-clause-named c =
    properties-named c.args.objects.now c.loop-object.object-index c.object-item.result c.loop-object-test.true c.object-item.is c.requires
