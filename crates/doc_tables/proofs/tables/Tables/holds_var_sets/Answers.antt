use Rattle.doc_tables.proofs.VarSetsHeld.{var_sets-read}
use Rattle.doc_tables.proofs.tables.Tables.holds_var_sets.Goals as goal

pub returns : goal.returns
returns c = var_sets-read c.args.self.now c.self.inside c.self.invariant c.self.view_is
