use Rattle.std.proofs.Common.{◌≡◌, List, ℕ, Bool, true, false, Option, None, Some, Err, refl, subst, sym, ap, ◌∙◌, not, IsTrue}
use Rattle.document_model.specs.declared.kind.ObjectKind.TheVariants.{VarSet}
use Rattle.document_model.specs.Kinds.{is_dynamic_name}
use Rattle.doc_tables.specs.Numbered.{object_at}
use Rattle.doc_tables.specs.Primitives.{lacks_property}
use Rattle.document_model.specs.declared.kind.ObjectKind.{ObjectKind}
use Rattle.document_model.specs.Edited.{new_property, with_property}
use Rattle.document_model.specs.Resolution.{has_dynamic}
use Rattle.property_types.specs.declared.prop_type.PropType.{PropType}
use Rattle.property_types.specs.Types.{type_named}
use Rattle.document_outcomes.specs.RefusalNumbers.{wrong_type}
use Rattle.doc_rules.specs.declared.edit_fault.EditFault.{EditFault}
use Rattle.doc_rules.specs.declared.edit_fault.EditFault.TheVariants.{Refused}
use Rattle.doc_rules.specs.Accepted.{accepted, unless_any}
use Rattle.doc_rules.specs.Commanded.{refused}
use Rattle.doc_rules.specs.Edits.{Becomes}
use Rattle.doc_rules.specs.PropertyEdits.{tests_of_added, with_added, with_typed}
use Rattle.doc_rules.proofs.BecomesLemmas.{all-passed, becomes-refused, not-false, residual-becomes, told-passed}
use Rattle.doc_rules.proofs.EditLemmas.{tests-passed}
use Rattle.doc_rules.proofs.NameLemmas.{is-there, lacks-none, object-name, set-at, set-kind, taken-dynamic}
use Rattle.doc_rules.proofs.property_edits.with_added.Goals as goal

pub returns-in_err-name : goal.returns-in_err-name
returns-in_err-name c = λ o at.
    let t = c.args.tables.now in
    let name = c.args.name.now in
    let y = with_typed t.document o name (type_named c.args.type_name.now) in
    residual-becomes t (unless_any (tests_of_added o name) y) c.in_err-name.field-0.0 c.from_residual.result c.from_residual.ensures
    (becomes-refused t (tests_of_added o name) name y c.in_err-name.field-0.0 (c.in_err-name.ensures o at))

pub returns-in_default : goal.returns-in_default
returns-in_default c = λ o at.
    let t = c.args.tables.now in
    let tests = tests_of_added o c.args.name.now in
    let none : type_named c.args.type_name.now ≡ None = cc in
    subst (λ x. Becomes t x (Err c.refused.result)) (sym (tests-passed tests c.args.name.now c.in_ok-name.name (c.in_ok-name.ensures o at) (with_typed t.document o c.args.name.now (type_named c.args.type_name.now))))
    (subst (λ (p : Option PropType). Becomes t (with_typed t.document o c.args.name.now p) (Err c.refused.result)) (sym none)
    (subst (λ (f : EditFault). Becomes t (Err (refused wrong_type)) (Err f)) (sym c.refused.ensures) refl))

pub with_property-requires-clause-name : goal.with_property-requires-clause-name
with_property-requires-clause-name c =
    let t = c.args.tables.now in
    let o = is-there (object_at t c.args.owner.0) c.requires.there in
    let tests = tests_of_added o.0 c.args.name.now in
    let passed = all-passed tests c.args.name.now c.in_ok-name.name (c.in_ok-name.ensures o.0 o.1) in
    let told = told-passed tests c.args.name.now c.in_ok-name.name (c.in_ok-name.ensures o.0 o.1) in
    let kind = set-kind t.document o.0 (set-at t c.args.owner o.0 o.1 c.holds_var_sets.ensures) in
    subst (λ (n : List ℕ). is_dynamic_name VarSet n ≡ true) (sym told)
    (subst (λ (k : ObjectKind). is_dynamic_name k c.args.name.now ≡ true) kind (not-false (is_dynamic_name (o.0).kind c.args.name.now) passed.1.1.0))

pub with_property-requires-clause-new_name : goal.with_property-requires-clause-new_name
with_property-requires-clause-new_name c =
    let t = c.args.tables.now in
    let o = is-there (object_at t c.args.owner.0) c.requires.there in
    let tests = tests_of_added o.0 c.args.name.now in
    let passed = all-passed tests c.args.name.now c.in_ok-name.name (c.in_ok-name.ensures o.0 o.1) in
    let told = told-passed tests c.args.name.now c.in_ok-name.name (c.in_ok-name.ensures o.0 o.1) in
    let set = set-at t c.args.owner o.0 o.1 c.holds_var_sets.ensures in
    let none : has_dynamic o.0 c.args.name.now ≡ false = sym (taken-dynamic t.document o.0 set c.args.name.now) ∙ passed.1.0 in
    subst (λ (n : List ℕ). lacks_property t c.args.owner.0 n ≡ true) (sym told) (lacks-none t c.args.owner o.0 o.1 c.args.name.now ∙ ap not none)

pub returns : goal.returns
returns c = λ o at.
    let t = c.args.tables.now in
    let tests = tests_of_added o c.args.name.now in
    let told = told-passed tests c.args.name.now c.in_ok-name.name (c.in_ok-name.ensures o at) in
    let some : type_named c.args.type_name.now ≡ Some c.in-Some.prop = cc in
    let answer = c.accepted.ensures t (with_property t.document o.name (new_property c.in_ok-name.name c.in-Some.prop)) (c.in_ok-edited.ensures o.name (object-name t c.args.owner o at)) in
    let named = subst (λ (n : List ℕ). Becomes t (accepted (with_property t.document o.name (new_property n c.in-Some.prop))) c.accepted.result) told answer in
    subst (λ x. Becomes t x c.accepted.result) (sym (tests-passed tests c.args.name.now c.in_ok-name.name (c.in_ok-name.ensures o at) (with_typed t.document o c.args.name.now (type_named c.args.type_name.now))))
    (subst (λ (p : Option PropType). Becomes t (with_typed t.document o c.args.name.now p) c.accepted.result) (sym some) named)
