use Rattle.std.proofs.Common.{false}
use Rattle.doc_tables.proofs.LabelsHeld.{labels-parted}
use Rattle.doc_tables.proofs.PlaceLemmas.{labelled-number}
use Rattle.doc_tables.proofs.tables.Tables.object_labelled.Goals as goal

pub returns : goal.returns
returns c =
    labelled-number c.args.self.now c.self.inside c.self.invariant c.self.view_is c.args.label.now c.first_labelled.result (c.first_labelled.ensures (labels-parted c.self.inside c.self.invariant false c.args.label.now))
