use Rattle.std.proofs.Common.{Option, subst, sym, slice_get}
use Rattle.std.specs.List.{flat_map}
use Rattle.fc_base.specs.declared.ids.SlotId.{SlotId}
use Rattle.document_model.specs.Slots.{slots}
use Rattle.doc_tables.specs.Accessors.{IsNumberOf}
use Rattle.doc_tables.specs.Entries.{numbers_in}
use Rattle.doc_tables.proofs.HeldLemmas.{numbers-held}
use Rattle.doc_tables.proofs.PlaceLemmas.{number-at}
use Rattle.doc_tables.proofs.tables.Tables.slot_at.Goals as goal

pub returns : goal.returns
returns c =
    let v = c.args.self.now in
    subst (λ (id : Option SlotId). IsNumberOf v id (slice_get (slots v.document) c.args.place)) (sym c.number_at_place.ensures)
    (number-at v (flat_map numbers_in c.self.inside.objects.entries) (slots v.document) c.args.place
    (numbers-held v c.self.inside c.self.invariant c.self.view_is))
