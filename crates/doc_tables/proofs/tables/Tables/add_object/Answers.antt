use Rattle.std.proofs.Common.{◌≡◌, ◌≢◌, ◌+◌, ℕ, List, length, map, not, true, Option, None, Some, refl, ap, ◌∙◌, arith}
use Rattle.std.specs.List.{insert, position_or_len}
use Rattle.fc_base.specs.declared.ids.ObjectId.{ObjectId}
use Rattle.std.proofs.lemmas.Result.{MatchResult-from_err}
use Rattle.doc_tables.specs.Labels.{stands_before}
use Rattle.doc_tables.specs.Numbered.{at_number}
use Rattle.doc_tables.specs.Shown.{shown}
use Rattle.doc_tables.specs.declared.entry.ObjectEntry.{ObjectEntry}
use Rattle.doc_tables.proofs.LabelsHeld.{labels-more, labels-parted}
use Rattle.doc_tables.proofs.ChangeHeld.{kept-held, kept-view, not-got, shown-added, added-held, added-leads, names-within}
use Rattle.doc_tables.proofs.tables.Tables.add_object.Goals as goal

pub insert_object-requires : goal.insert_object-requires
insert_object-requires c = not-got c.args.self.now c.self.inside c.self.invariant c.self.view_is c.args.name c.requires.new_name

pub put-requires-clause-within : goal.put-requires-clause-within
put-requires-clause-within c = omega (arith, names-within c.args.self.now c.self.inside c.self.invariant c.self.view_is c.free_object_number-number.result.0 c.free_object_number-number.ensures.used, ap length c.reserve.ensures.items)

pub invariant_of-self-in_err-insert_object : goal.invariant_of-self-in_err-insert_object
invariant_of-self-in_err-insert_object c =
    let t = c.self.inside in
    kept-held c.args.self.now c.self.inside c.self.invariant c.self.view_is (record t { objects = c.insert_object.new.objects; object_names = c.reserve.new.self; by_label = c.reserve-2.new.self; reached = None })
    (ap (map shown) c.in_err-insert_object.ensures.unchanged) c.reserve.ensures.items refl refl refl c.reserve-2.ensures.items tt

pub returns-in_err-insert_object-clause-unchanged : goal.returns-in_err-insert_object-clause-unchanged
returns-in_err-insert_object-clause-unchanged c =
    let t = c.self.inside in
    MatchResult-from_err c.from_residual-in_err-insert_object.result _ _ c.from_residual-in_err-insert_object.ensures.0
    (λ y. kept-view c.args.self.now c.self.inside c.self.invariant c.self.view_is (record t { objects = c.insert_object.new.objects; object_names = c.reserve.new.self; by_label = c.reserve-2.new.self; reached = None })
    (ap (map shown) c.in_err-insert_object.ensures.unchanged) c.reserve.ensures.items refl refl refl c.reserve-2.ensures.items)

pub invariant_of-self-2 : goal.invariant_of-self-2
invariant_of-self-2 c =
    let t = c.self.inside in
    let n = c.free_object_number-number.result.0 in
    let entry : ObjectEntry = record { number = c.free_object_number-number.result; label = c.args.label; properties = c.new-properties.result } in
    let here : at_number c.put.new.table.items n ≡ Some c.args.name = c.put.ensures.here ∙ ap Some c.in_ok-own_name.ensures in
    let others : (m : ℕ) → m ≢ n → at_number c.put.new.table.items m ≡ at_number t.object_names.items m =
    λ m other. c.put.ensures.others m other ∙ ap (λ (l : List (Option (List ℕ))). at_number l m) c.reserve.ensures.items
    in
    added-held c.args.self.now c.self.inside c.self.invariant c.self.view_is (record t { objects = c.insert_object.new.objects; object_names = c.put.new.table; by_label = c.insert_number.new.by_label; free_object = n + 1; reached = None }) c.args.name c.args.label n
    (shown-added t.objects.entries c.insert_object.new.objects.entries c.args.name entry c.in_ok-insert_object.ensures.added c.new-properties.ensures.empty)
    c.requires.new_name c.free_object_number-number.ensures.free c.free_object_number-number.ensures.used here others refl
    c.requires.few (omega (arith, c.self.invariant.object_room.few, c.free_object_number-number.ensures.few, c.put.ensures.few 4294967295, ap length c.reserve.ensures.items)) refl refl
    c.as_str.ensures.name c.as_str-2.ensures.label
    (labels-more t c.self.invariant c.args.name c.args.label n c.insert_number.new.by_label.items
    (c.insert_number.ensures
    ∙ ap (λ (l : List ObjectId). insert l c.count_before-place.result c.free_object_number-number.result) c.reserve-2.ensures.items
    ∙ ap (λ (k : ℕ). insert t.by_label.items k c.free_object_number-number.result)
    (c.count_before-place.ensures.value (labels-parted t c.self.invariant true c.as_str-2.result.now)
    ∙ ap (λ (text : List ℕ). position_or_len (λ (id : ObjectId). not (stands_before t.object_names.items t.objects.entries true text id)) t.by_label.items) c.as_str-2.ensures.text)))
    tt

pub returns-clause-number : goal.returns-clause-number
returns-clause-number c = c.put.ensures.here ∙ ap Some c.in_ok-own_name.ensures

pub returns-clause-added : goal.returns-clause-added
returns-clause-added c =
    let t = c.self.inside in
    let n = c.free_object_number-number.result.0 in
    let entry : ObjectEntry = record { number = c.free_object_number-number.result; label = c.args.label; properties = c.new-properties.result } in
    let here : at_number c.put.new.table.items n ≡ Some c.args.name = c.put.ensures.here ∙ ap Some c.in_ok-own_name.ensures in
    let others : (m : ℕ) → m ≢ n → at_number c.put.new.table.items m ≡ at_number t.object_names.items m =
    λ m other. c.put.ensures.others m other ∙ ap (λ (l : List (Option (List ℕ))). at_number l m) c.reserve.ensures.items
    in
    added-leads c.args.self.now c.self.inside c.self.invariant c.self.view_is (record t { objects = c.insert_object.new.objects; object_names = c.put.new.table; by_label = c.insert_number.new.by_label; free_object = n + 1; reached = None }) c.args.name c.args.label n
    (shown-added t.objects.entries c.insert_object.new.objects.entries c.args.name entry c.in_ok-insert_object.ensures.added c.new-properties.ensures.empty)
    c.requires.new_name c.free_object_number-number.ensures.free c.free_object_number-number.ensures.used here others refl
