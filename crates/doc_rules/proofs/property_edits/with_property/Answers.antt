use Rattle.std.proofs.Common.{◌+◌, ◌<◌, ◌^◌, length, subst, sym}
use Rattle.document_model.specs.Slots.{slots}
use Rattle.doc_tables.specs.Numbered.{Numbered}
use Rattle.doc_rules.proofs.FewLemmas.{few-slots}
use Rattle.doc_rules.proofs.property_edits.with_property.Goals as goal

pub add_property-requires-clause-few : goal.add_property-requires-clause-few
add_property-requires-clause-few c =
    subst (λ (t : Numbered). length (slots t.document) + 1 < 2 ^ 32) (sym c.in_ok-edited.ensures) (few-slots c.args.tables.now.document c.requires.valid)
