use Rattle.std.proofs.Common.{ap, ◌∙◌, Some}
use Rattle.doc_tables.proofs.HeldLemmas.{name-used, name-read}
use Rattle.doc_tables.proofs.tables.Tables.key_for.Goals as goal

pub thing_at-requires : goal.thing_at-requires
thing_at-requires c = name-used c.args.self.now c.self.inside c.self.invariant c.self.view_is c.args.object.0 c.requires

pub returns-clause-object : goal.returns-clause-object
returns-clause-object c = ap Some c.in_ok-object.ensures ∙ name-read c.args.self.now c.self.inside c.self.invariant c.self.view_is c.args.object.0 c.thing_at.result.now c.thing_at.ensures
