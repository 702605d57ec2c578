use Rattle.std.proofs.Common.{◌≡◌, Err, subst, sym}
use Rattle.document_outcomes.specs.Faults.{first_fault}
use Rattle.doc_tables.specs.Numbered.{LeadsTo, Numbered}
use Rattle.doc_rules.specs.declared.fault.CheckFault.TheVariants.{Doc}
use Rattle.doc_rules.specs.Found.{MeetsFault}
use Rattle.doc_rules.proofs.EditLemmas.{checked-fault}
use Rattle.doc_rules.proofs.accepting.accepted.Goals as goal

pub returns-in-Err-Doc : goal.returns-in-Err-Doc
returns-in-Err-Doc c = λ before d leads.
    let w = c.resolve_references.new.self in
    let told : c.check.result ≡ Err (Doc c.in-Err-Doc.fault) = cc in
    checked-fault before w d c.in-Err-Doc.fault c.refused_by.result
    (subst (λ (t : Numbered). LeadsTo before t d) (sym c.resolve_references.ensures) leads)
    (subst (MeetsFault (first_fault w.document)) told c.check.ensures) c.refused_by.ensures
