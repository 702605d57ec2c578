use Rattle.std.proofs.Common.{◌+◌, ◌<◌, ◌^◌, length, subst, sym}
use Rattle.doc_tables.specs.Numbered.{Numbered}
use Rattle.doc_rules.proofs.FewLemmas.{few-objects}
use Rattle.doc_rules.proofs.object_edits.with_object.Goals as goal

pub add_object-requires-clause-few : goal.add_object-requires-clause-few
add_object-requires-clause-few c =
    subst (λ (t : Numbered). length t.document.objects + 1 < 2 ^ 32) (sym c.in_ok-edited.ensures) (few-objects c.args.tables.now.document c.requires.valid)
