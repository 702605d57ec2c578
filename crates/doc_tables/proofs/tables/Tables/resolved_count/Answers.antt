use Rattle.std.proofs.Common.{◌≡◌, ◌+◌, ◌<◌, ◌≤◌, ℕ, List, [], Option, length, min, sum_by, take, get_or, ap, ◌∙◌, arith}
use Rattle.std.specs.Option.{option_map_or}
use Rattle.std.proofs.lemmas.List.{take_all}
use Rattle.std.proofs.lemmas.List.Sums.{sum_by_more}
use Rattle.std.proofs.lemmas.Option.{slice_get-get_or}
use Rattle.document_model.specs.declared.kind.ObjectKind.TheVariants.{VarSet}
use Rattle.document_model.specs.Document.{Object}
use Rattle.document_model.specs.Edited.{new_object}
use Rattle.doc_tables.specs.Counted.{dependencies_of_object}
use Rattle.doc_tables.proofs.CountLemmas.{document-counted}
use Rattle.doc_tables.proofs.tables.Tables.resolved_count.Goals as goal

pub loop-place-preserved : goal.loop-place-preserved
loop-place-preserved c =
    let document = c.args.self.now.document in
    let place = c.loop-place.place in
    let none : Object = new_object [] [] VarSet in
    let within : place < length document.objects = omega (arith, c.object_count-place-end.ensures) in
    let one : c.dependencies_of_object.result ≡ min (dependencies_of_object document (get_or document.objects place none)) 18446744073709551615 =
    c.dependencies_of_object.ensures
    ∙ ap (λ (q : Option Object). min (option_map_or (dependencies_of_object document) q 0) 18446744073709551615) (slice_get-get_or document.objects place none within)
    in
    let more : sum_by (dependencies_of_object document) (take (place + 1) document.objects)
    ≡ sum_by (dependencies_of_object document) (take place document.objects) + dependencies_of_object document (get_or document.objects place none) =
    sum_by_more (dependencies_of_object document) document.objects place none within
    in
    omega (arith, one, more, c.saturating_add-count.ensures)

pub returns : goal.returns
returns c =
    let document = c.args.self.now.document in
    let past : length document.objects ≤ c.loop-place.place = omega (arith, c.object_count-place-end.ensures) in
    c.loop-place.invariant
    ∙ ap (λ (objects : List Object). min (sum_by (dependencies_of_object document) objects) 18446744073709551615) (take_all c.loop-place.place document.objects past)
    ∙ ap (λ (n : ℕ). min n 18446744073709551615) (document-counted document)
