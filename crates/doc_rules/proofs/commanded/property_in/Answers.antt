use Rattle.std.proofs.Common.{◌≡◌, true, false, Result, Ok, Err, is_some, sym, subst, ◌∙◌}
use Rattle.std.specs.Option.{option_and_then}
use Rattle.fc_base.specs.declared.ids.ObjectId.{ObjectId}
use Rattle.object_paths.specs.declared.slot_name.SlotName.{SlotName}
use Rattle.object_paths.specs.declared.slot_name.SlotName.TheVariants.{Plain}
use Rattle.property_types.specs.Reserved.{is_among}
use Rattle.document_model.specs.declared.kind.ObjectKind.TheVariants.{VarSet}
use Rattle.document_model.specs.Document.{Object, Property}
use Rattle.document_model.specs.Kinds.{known_names}
use Rattle.document_model.specs.Resolution.{slot_in}
use Rattle.document_outcomes.specs.RefusalNumbers.{no_property, not_dynamic}
use Rattle.doc_tables.specs.Accessors.{IsNumberOf}
use Rattle.doc_tables.specs.Numbered.{object_at}
use Rattle.doc_rules.specs.declared.refusal.Refusal.{Refusal}
use Rattle.doc_rules.specs.Commanded.{IsPropertyOf, property_in, refused}
use Rattle.doc_rules.proofs.NameLemmas.{property-lacking, property-told}
use Rattle.doc_rules.proofs.commanded.property_in.Goals as goal

pub returns-then-is_some : goal.returns-then-is_some
returns-then-is_some c = λ o p at same.
    let t = c.args.tables.now in
    let plain : c.args.slot.now ≡ Plain c.in-Plain.name = cc in
    let number : IsNumberOf t c.slot_of.result (option_and_then (λ (q : Object). slot_in t.document q (Plain c.in-Plain.name)) (object_at t c.args.object.0)) =
    subst (λ (n : SlotName). IsNumberOf t c.slot_of.result (option_and_then (λ (q : Object). slot_in t.document q n) (object_at t c.args.object.0))) plain c.slot_of.ensures in
    let some : is_some c.slot_of.result ≡ true = cc in
    subst (λ (n : SlotName). IsPropertyOf t p (property_in t.document n o) (Ok c.args.object)) (sym plain)
    (property-told t c.args.object o at c.holds_var_sets.ensures c.in-Plain.name c.slot_of.result number some p (same ∙ plain))

pub returns-then-is_known_name : goal.returns-then-is_known_name
returns-then-is_known_name c = λ o p at same.
    let t = c.args.tables.now in
    let plain : c.args.slot.now ≡ Plain c.in-Plain.name = cc in
    let number : IsNumberOf t c.slot_of.result (option_and_then (λ (q : Object). slot_in t.document q (Plain c.in-Plain.name)) (object_at t c.args.object.0)) =
    subst (λ (n : SlotName). IsNumberOf t c.slot_of.result (option_and_then (λ (q : Object). slot_in t.document q n) (object_at t c.args.object.0))) plain c.slot_of.ensures in
    let none : is_some c.slot_of.result ≡ false = cc in
    let known : true ≡ is_among c.in-Plain.name (known_names VarSet) = cc in
    let lacks : property_in t.document c.args.slot.now o ≡ Err (refused not_dynamic) =
    subst (λ (n : SlotName). property_in t.document n o ≡ Err (refused not_dynamic)) (sym plain)
    (property-lacking t c.args.object o at c.holds_var_sets.ensures c.in-Plain.name c.slot_of.result number none true known) in
    subst (λ (r : Result (Object × Property) Refusal). IsPropertyOf t p r (Err c.of-then-is_known_name.result)) (sym lacks) c.of-then-is_known_name.ensures

pub returns-else-is_known_name : goal.returns-else-is_known_name
returns-else-is_known_name c = λ o p at same.
    let t = c.args.tables.now in
    let plain : c.args.slot.now ≡ Plain c.in-Plain.name = cc in
    let number : IsNumberOf t c.slot_of.result (option_and_then (λ (q : Object). slot_in t.document q (Plain c.in-Plain.name)) (object_at t c.args.object.0)) =
    subst (λ (n : SlotName). IsNumberOf t c.slot_of.result (option_and_then (λ (q : Object). slot_in t.document q n) (object_at t c.args.object.0))) plain c.slot_of.ensures in
    let none : is_some c.slot_of.result ≡ false = cc in
    let known : false ≡ is_among c.in-Plain.name (known_names VarSet) = cc in
    let lacks : property_in t.document c.args.slot.now o ≡ Err (refused no_property) =
    subst (λ (n : SlotName). property_in t.document n o ≡ Err (refused no_property)) (sym plain)
    (property-lacking t c.args.object o at c.holds_var_sets.ensures c.in-Plain.name c.slot_of.result number none false known) in
    subst (λ (r : Result (Object × Property) Refusal). IsPropertyOf t p r (Err c.of-else-is_known_name.result)) (sym lacks) c.of-else-is_known_name.ensures
