use Rattle.std.proofs.Common.{subst, IfSome}
use Rattle.fcdoc_core.specs.declared.plan.Found.{Found}
use Rattle.fcdoc_core.specs.Plans.{IsFound, IsWithin}
use Rattle.fcdoc_core.proofs.FilesLemmas.{bytes_there, document_found, long_document, document_missing}
use Rattle.fcdoc_core.proofs.plan.plan_of_names.Goals as goal

pub returns-in-Ok-Bytes-clause-means : goal.returns-in-Ok-Bytes-clause-means
returns-in-Ok-Bytes-clause-means g c =
    let known = g.S.Store.holds c.args.store.now in
    document_found known (g.S.Store.holds c.find.new.store) _ c.deref.result.now c.plan_of_document.result c.find.ensures.holds
    (rw c.deref.ensures.value (bytes_there known c.args.document.now c.in-Ok-Bytes.bytes (subst (λ (f : Found). IfSome known (λ held. IsFound held c.args.document.now f)) c.in-Ok-Bytes.field-0-is c.in-Ok-Bytes.ensures.told)))
    (rw c.deref.ensures.value (subst IsWithin c.in-Ok-Bytes.field-0-is c.in-Ok-Bytes.ensures.within)) c.plan_of_document.ensures.means

pub returns-in-Ok-TooLong-clause-means : goal.returns-in-Ok-TooLong-clause-means
returns-in-Ok-TooLong-clause-means g c =
    let known = g.S.Store.holds c.args.store.now in
    long_document known _ (subst (λ (f : Found). IfSome known (λ held. IsFound held c.args.document.now f)) c.in-Ok-TooLong.field-0-is c.in-Ok-TooLong.ensures.told)

pub returns-in-Ok-Nothing-clause-means : goal.returns-in-Ok-Nothing-clause-means
returns-in-Ok-Nothing-clause-means g c =
    let known = g.S.Store.holds c.args.store.now in
    document_missing known _ c.missing.result (subst (λ (f : Found). IfSome known (λ held. IsFound held c.args.document.now f)) c.in-Ok-Nothing.field-0-is c.in-Ok-Nothing.ensures.told) c.missing.ensures.plan
