use Rattle.std.proofs.Common.{◌∙◌}
use Rattle.doc_tables.proofs.HeldLemmas.{used-read}
use Rattle.doc_tables.proofs.tables.Tables.is_slot.Goals as goal

pub returns : goal.returns
returns c = c.is_used.ensures ∙ used-read c.args.self.now c.self.inside c.self.invariant c.self.view_is c.args.number
