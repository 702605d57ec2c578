use Rattle.std.proofs.Common.{◌≡◌, List, ℕ, Bool, true, false, ◌&&◌, not, is_some, Err, refl, sym, ap, subst, ◌∙◌}
use Rattle.std.specs.Option.{option_and_then}
use Rattle.fc_base.specs.Texts.{is_name}
use Rattle.object_paths.specs.declared.slot_name.SlotName.TheVariants.{Plain}
use Rattle.property_types.specs.Reserved.{is_reserved}
use Rattle.property_types.specs.SoundPlans.{is_property_name}
use Rattle.document_model.specs.Document.{Object}
use Rattle.document_model.specs.Resolution.{has_dynamic, slot_in}
use Rattle.doc_tables.specs.Accessors.{IsNumberOf}
use Rattle.doc_tables.specs.Numbered.{object_at}
use Rattle.doc_rules.proofs.NameLemmas.{added-bad, added-free, added-taken, no_name-dynamic, number-tells, object-in, set-at}
use Rattle.doc_rules.proofs.property_edits.added_name.Goals as goal

pub returns-in-Err-BadName : goal.returns-in-Err-BadName
returns-in-Err-BadName c = λ o at.
    let t = c.args.tables.now in
    let no_name : is_name c.args.name.now ≡ false = c.in-Err-BadName.ensures.refused.0 (ap Err c.in-Err-BadName.field-0-is) in
    added-bad o (set-at t c.args.owner o at c.holds_var_sets.ensures) t.document c.args.name.now
    (no_name-dynamic t.document o c.args.name.now c.is_well_formed.ensures (object-in t c.args.owner o at) no_name)
    (ap (λ (b : Bool). b && not (is_reserved c.args.name.now)) no_name) c.refused.result c.refused.ensures

pub returns-then-is_some : goal.returns-then-is_some
returns-then-is_some c = λ o at.
    let t = c.args.tables.now in
    let same : c.in_ok-copy.field-0 ≡ c.args.name.now = c.in_ok-copy.ensures ∙ c.in-Ok.ensures.found.0 in
    let number : IsNumberOf t c.slot_of.result (option_and_then (λ (q : Object). slot_in t.document q (Plain c.args.name.now)) (object_at t c.args.owner.0)) =
    subst (λ (n : List ℕ). IsNumberOf t c.slot_of.result (option_and_then (λ (q : Object). slot_in t.document q (Plain n)) (object_at t c.args.owner.0))) same c.slot_of.ensures in
    let some : is_some c.slot_of.result ≡ true = cc in
    added-taken o (set-at t c.args.owner o at c.holds_var_sets.ensures) t.document c.args.name.now
    (sym (number-tells t c.args.owner o at c.holds_var_sets.ensures c.args.name.now c.slot_of.result number) ∙ some)
    c.refused-then-is_some.result c.refused-then-is_some.ensures

pub returns-then-not-is_property_name : goal.returns-then-not-is_property_name
returns-then-not-is_property_name c = λ o at.
    let t = c.args.tables.now in
    let same : c.in_ok-copy.field-0 ≡ c.args.name.now = c.in_ok-copy.ensures ∙ c.in-Ok.ensures.found.0 in
    let number : IsNumberOf t c.slot_of.result (option_and_then (λ (q : Object). slot_in t.document q (Plain c.args.name.now)) (object_at t c.args.owner.0)) =
    subst (λ (n : List ℕ). IsNumberOf t c.slot_of.result (option_and_then (λ (q : Object). slot_in t.document q (Plain n)) (object_at t c.args.owner.0))) same c.slot_of.ensures in
    let none : is_some c.slot_of.result ≡ false = cc in
    let given : c.in-Ok.name ≡ c.args.name.now = c.in-Ok.ensures.found.0 in
    let told : is_property_name c.in-Ok.name ≡ false = cc in
    let bad : is_property_name c.args.name.now ≡ false = subst (λ (n : List ℕ). is_property_name n ≡ false) given told in
    added-bad o (set-at t c.args.owner o at c.holds_var_sets.ensures) t.document c.args.name.now
    (sym (number-tells t c.args.owner o at c.holds_var_sets.ensures c.args.name.now c.slot_of.result number) ∙ none) bad
    c.refused-then-not-is_property_name.result c.refused-then-not-is_property_name.ensures

pub returns : goal.returns
returns c = λ o at.
    let t = c.args.tables.now in
    let same : c.in_ok-copy.field-0 ≡ c.args.name.now = c.in_ok-copy.ensures ∙ c.in-Ok.ensures.found.0 in
    let number : IsNumberOf t c.slot_of.result (option_and_then (λ (q : Object). slot_in t.document q (Plain c.args.name.now)) (object_at t c.args.owner.0)) =
    subst (λ (n : List ℕ). IsNumberOf t c.slot_of.result (option_and_then (λ (q : Object). slot_in t.document q (Plain n)) (object_at t c.args.owner.0))) same c.slot_of.ensures in
    let none : is_some c.slot_of.result ≡ false = cc in
    let given : c.in-Ok.name ≡ c.args.name.now = c.in-Ok.ensures.found.0 in
    let told : is_property_name c.in-Ok.name ≡ true = cc in
    let good : is_property_name c.args.name.now ≡ true = subst (λ (n : List ℕ). is_property_name n ≡ true) given told in
    added-free o (set-at t c.args.owner o at c.holds_var_sets.ensures) t.document c.args.name.now
    (sym (number-tells t c.args.owner o at c.holds_var_sets.ensures c.args.name.now c.slot_of.result number) ∙ none) good c.in-Ok.name given
