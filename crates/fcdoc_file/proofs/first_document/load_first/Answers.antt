use Rattle.std.proofs.Common.{map, Some, ap, sym, ◌∙◌}
use Rattle.std.specs.Option.{option_map}
use Rattle.std.proofs.lemmas.Result.{err_from_is_err_and}
use Rattle.fcdoc_file.specs.FirstDocument.{first_document}
use Rattle.fcdoc_file.specs.Rows.{object_of}
use Rattle.fcdoc_file.proofs.DocumentLaws.{document_of_some, first_form_of_some, refused}
use Rattle.fcdoc_file.proofs.first_document.load_first.Goals as goal

pub returns-in_err-objects-clause-not_built : goal.returns-in_err-objects-clause-not_built
returns-in_err-objects-clause-not_built c =
    let p = err_from_is_err_and c.from_residual.result c.from_residual.ensures.1 in
    rw (p.1, p.2) (λ same. refused c.args.bytes.now c.in_err-objects.field-0.0 c.in_err-objects.ensures same)

pub tables_of-requires : goal.tables_of-requires
tables_of-requires c = rw c.deref.ensures.value (first_form_of_some c.args.bytes.now (map object_of c.in_ok-objects.objects.items) c.in_ok-objects.ensures).form.together

pub returns-clause-found : goal.returns-clause-found
returns-clause-found c =
    document_of_some c.args.bytes.now c.in_ok-tables_of.field-0.document
    (ap (option_map first_document) c.in_ok-objects.ensures
    ∙ (λ j. Some (first_document (map object_of (sym c.deref.ensures.value j)))) ∙ ap Some (sym c.in_ok-tables_of.ensures))
