use Rattle.std.proofs.Common.{Err, ap, sym, ◌∙◌}
use Rattle.doc_rules.specs.declared.fault.CheckFault.TheVariants.{Doc}
use Rattle.fcdoc_core.proofs.OpenLemmas.{fault-named, told-once}
use Rattle.fcdoc_core.proofs.session.Session.open.Goals as goal

pub returns-in-Err-Doc-clause-named : goal.returns-in-Err-Doc-clause-named
returns-in-Err-Doc-clause-named c = λ fault h.
    fault-named c.faults_are_named.ensures c.in-Ok.tables.document c.check.result fault c.check.ensures
    (c.in-Err-Doc.is ∙ ap Err (c.in-Err-Doc.field-0-is ∙ ap Doc (sym c.in-Err-Doc.fault-is ∙ told-once _ fault h)))
