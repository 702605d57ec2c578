use Rattle.std.proofs.Common.{◌≡◌, ◌≢◌, ◌+◌, ℕ, List, Option, None, Some, length, map, refl, sym, ap, ◌∙◌, arith}
use Rattle.std.proofs.lemmas.Result.{MatchResult-from_err}
use Rattle.property_types.specs.Types.{zero_value}
use Rattle.document_model.specs.declared.content.Content.TheVariants.{Own}
use Rattle.doc_tables.specs.Numbered.{at_number}
use Rattle.doc_tables.specs.Shown.{change_at, shown, with_entry}
use Rattle.doc_tables.specs.declared.entry.PropertyEntry.{PropertyEntry}
use Rattle.doc_tables.specs.declared.entry.SlotKey.{SlotKey}
use Rattle.doc_tables.proofs.ChangeHeld.{kept-held, kept-view, keys-few, keys-within, object-there, name-lacks, filled-held, filled-leads}
use Rattle.doc_tables.proofs.tables.Tables.add_property.Goals as goal

pub unwrap-place-requires : goal.unwrap-place-requires
unwrap-place-requires c = c.get_index_of.ensures.found ∙ object-there c.args.self.now c.self.inside c.self.invariant c.self.view_is c.args.object.0 c.in_ok-key.key.object c.in_ok-key.ensures.object

pub push_property-requires-clause-new_name : goal.push_property-requires-clause-new_name
push_property-requires-clause-new_name c =
    name-lacks c.args.self.now c.self.inside c.self.invariant c.self.view_is c.args.object.0 c.in_ok-key.key.object c.in_ok-key.ensures.object c.unwrap-place.result
    (sym c.get_index_of.ensures.index ∙ c.unwrap-place.ensures) c.args.name c.requires.new_name

pub put-requires-clause-within : goal.put-requires-clause-within
put-requires-clause-within c = omega (arith, keys-within c.args.self.now c.self.inside c.self.invariant c.self.view_is c.free_slot_number-slot.result.0 c.free_slot_number-slot.ensures.used, ap length c.reserve.ensures.items)

pub invariant_of-self-in_err-push_property : goal.invariant_of-self-in_err-push_property
invariant_of-self-in_err-push_property c =
    kept-held c.args.self.now c.self.inside c.self.invariant c.self.view_is (record c.self.inside { objects = c.push_property.new.objects; slot_keys = c.reserve.new.self; reached = None })
    c.in_err-push_property.ensures.unchanged refl c.reserve.ensures.items refl refl refl tt

pub returns-in_err-push_property-clause-unchanged : goal.returns-in_err-push_property-clause-unchanged
returns-in_err-push_property-clause-unchanged c =
    MatchResult-from_err c.from_residual-in_err-push_property.result _ _ c.from_residual-in_err-push_property.ensures.0
    (λ y. kept-view c.args.self.now c.self.inside c.self.invariant c.self.view_is (record c.self.inside { objects = c.push_property.new.objects; slot_keys = c.reserve.new.self; reached = None })
    c.in_err-push_property.ensures.unchanged refl c.reserve.ensures.items refl refl refl)

pub invariant_of-self-2 : goal.invariant_of-self-2
invariant_of-self-2 c =
    let t = c.self.inside in
    let n = c.free_slot_number-slot.result.0 in
    let entry : PropertyEntry = record { slot = c.free_slot_number-slot.result; prop = c.args.prop; content = Own (zero_value c.args.prop) } in
    let others : (m : ℕ) → m ≢ n → at_number c.put.new.table.items m ≡ at_number t.slot_keys.items m =
    λ m other. c.put.ensures.others m other ∙ ap (λ (l : List (Option SlotKey)). at_number l m) c.reserve.ensures.items
    in
    let here : at_number c.put.new.table.items n ≡ Some (record { object = c.in_ok-key.key.object; property = c.args.name }) =
    c.put.ensures.here ∙ (λ j. Some (record { object = c.in_ok-key.key.object; property = c.in_ok-key.ensures.property j }))
    in
    filled-held c.args.self.now c.self.inside c.self.invariant c.self.view_is c.args.object.0 c.in_ok-key.key.object c.in_ok-key.ensures.object c.unwrap-place.result
    (sym c.get_index_of.ensures.index ∙ c.unwrap-place.ensures) c.args.name c.requires.new_name
    (record t { objects = c.push_property.new.objects; slot_keys = c.put.new.table; free_slot = n + 1; reached = None }) entry
    (c.in_ok-push_property.ensures.added ∙ ap (λ (e : PropertyEntry). change_at (with_entry (c.args.name, e)) c.unwrap-place.result (map shown t.objects.entries)) c.in_ok-entry.ensures) c.requires.one_slot refl refl c.free_slot_number-slot.ensures.free here others
    c.free_slot_number-slot.ensures.used c.requires.few
    (omega (arith, keys-few c.args.self.now t c.self.invariant c.self.view_is, c.free_slot_number-slot.ensures.few, c.put.ensures.few 4294967295, ap length c.reserve.ensures.items)) refl refl
    c.requires.name c.requires.added_type refl tt

pub returns-clause-added : goal.returns-clause-added
returns-clause-added c =
    let t = c.self.inside in
    let n = c.free_slot_number-slot.result.0 in
    let entry : PropertyEntry = record { slot = c.free_slot_number-slot.result; prop = c.args.prop; content = Own (zero_value c.args.prop) } in
    let others : (m : ℕ) → m ≢ n → at_number c.put.new.table.items m ≡ at_number t.slot_keys.items m =
    λ m other. c.put.ensures.others m other ∙ ap (λ (l : List (Option SlotKey)). at_number l m) c.reserve.ensures.items
    in
    let here : at_number c.put.new.table.items n ≡ Some (record { object = c.in_ok-key.key.object; property = c.args.name }) =
    c.put.ensures.here ∙ (λ j. Some (record { object = c.in_ok-key.key.object; property = c.in_ok-key.ensures.property j }))
    in
    filled-leads c.args.self.now c.self.inside c.self.invariant c.self.view_is c.args.object.0 c.in_ok-key.key.object c.in_ok-key.ensures.object c.unwrap-place.result
    (sym c.get_index_of.ensures.index ∙ c.unwrap-place.ensures) c.args.name c.requires.new_name
    (record t { objects = c.push_property.new.objects; slot_keys = c.put.new.table; free_slot = n + 1; reached = None }) entry
    (c.in_ok-push_property.ensures.added ∙ ap (λ (e : PropertyEntry). change_at (with_entry (c.args.name, e)) c.unwrap-place.result (map shown t.objects.entries)) c.in_ok-entry.ensures) c.requires.one_slot refl refl c.free_slot_number-slot.ensures.free here others

pub invariant_of-self : goal.invariant_of-self
invariant_of-self c =
    kept-held c.args.self.now c.self.inside c.self.invariant c.self.view_is (record c.self.inside { slot_keys = c.reserve.new.self; reached = None })
    refl refl c.reserve.ensures.items refl refl refl tt
