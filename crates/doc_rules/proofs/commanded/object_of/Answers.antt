use Rattle.std.proofs.Common.{Some, refl}
use Rattle.doc_rules.proofs.NameLemmas.{object-told}
use Rattle.doc_rules.proofs.commanded.object_of.Goals as goal

pub returns-in-Some : goal.returns-in-Some
returns-in-Some c = object-told c.args.tables.now c.args.name.now (Some c.in-Some.object) c.in-Some.object c.in-Some.ensures refl
