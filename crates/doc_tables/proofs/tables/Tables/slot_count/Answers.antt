use Rattle.std.proofs.Common.{arith}
use Rattle.doc_tables.proofs.CountLemmas.{slots-counted}
use Rattle.doc_tables.proofs.tables.Tables.slot_count.Goals as goal

pub returns : goal.returns
returns c = omega (arith, slots-counted c.args.self.now c.self.inside c.self.invariant c.self.view_is, c.self.invariant.few_slots, c.properties_of_objects.ensures)
