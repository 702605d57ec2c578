use Rattle.std.proofs.Common.{◌≡◌, [], false, is_some, List, ℕ, subst, sym, ap, ◌∙◌}
use Rattle.document_model.specs.declared.kind.ObjectKind.{ObjectKind}
use Rattle.document_model.specs.declared.kind.ObjectKind.TheVariants.{VarSet}
use Rattle.document_model.specs.Document.{object_named}
use Rattle.document_model.specs.Edited.{new_object, with_object}
use Rattle.document_model.specs.Kinds.{kind_of_type}
use Rattle.doc_rules.specs.Accepted.{accepted}
use Rattle.doc_rules.specs.Edits.{Becomes}
use Rattle.doc_rules.specs.ObjectEdits.{tests_of_new, with_new}
use Rattle.doc_rules.proofs.BecomesLemmas.{all-passed, kind-built, told-passed}
use Rattle.doc_rules.proofs.EditLemmas.{tests-passed}
use Rattle.doc_rules.proofs.object_edits.with_new.Goals as goal

pub with_object-requires-clause-new_name : goal.with_object-requires-clause-new_name
with_object-requires-clause-new_name c =
    let d = c.args.tables.now.document in
    let tests = tests_of_new [] d c.args.type_name.now c.args.name.now in
    subst (λ (n : List ℕ). is_some (object_named d n) ≡ false) (sym (told-passed tests c.args.name.now c.in_ok-name.name c.in_ok-name.ensures))
    (all-passed tests c.args.name.now c.in_ok-name.name c.in_ok-name.ensures).0

pub returns : goal.returns
returns c =
    let t = c.args.tables.now in
    let d = t.document in
    let type = c.args.type_name.now in
    let name = c.args.name.now in
    let tests = tests_of_new [] d type name in
    let told = told-passed tests name c.in_ok-name.name c.in_ok-name.ensures in
    let passed = all-passed tests name c.in_ok-name.name c.in_ok-name.ensures in
    let kind : kind_of_type [] type ≡ VarSet = kind-built type passed.1.1.1.0 c.requires.built in
    let answer = c.accepted.ensures t (with_object d (new_object c.in_ok-name.name c.in_ok-name.name VarSet)) c.in_ok-edited.ensures in
    let moved : Becomes t (accepted (with_object d (new_object name name (kind_of_type [] type)))) c.accepted.result =
    subst (λ (k : ObjectKind). Becomes t (accepted (with_object d (new_object name name k))) c.accepted.result) (sym kind)
    (subst (λ (n : List ℕ). Becomes t (accepted (with_object d (new_object n n VarSet))) c.accepted.result) told answer) in
    subst (λ x. Becomes t x c.accepted.result) (sym (tests-passed tests name c.in_ok-name.name c.in_ok-name.ensures (accepted (with_object d (new_object name name (kind_of_type [] type)))))) moved
