use Rattle.std.proofs.Common.{◌≡◌, Some, None, refl, sym, ap, ◌∙◌, Bor}
use Rattle.std.specs.Option.{option_map}
use Rattle.property_types.specs.declared.value.Value.{Value}
use Rattle.doc_tables.specs.Accessors.{tree_at}
use Rattle.doc_tables.specs.Numbered.{slot_at}
use Rattle.doc_tables.proofs.ShapeLemmas.{written-none, written-of}
use Rattle.doc_rules.specs.SortTables.{own_as, given_as, wanted_as, sort_by_number}
use Rattle.doc_rules.proofs.FirstLemmas.{some-in}
use Rattle.doc_rules.proofs.SortNumbers.{sort-own, sort-bound, sort-rest}
use Rattle.doc_rules.proofs.sorts.sort_of_slot.Goals as goal

pub returns-in-Some : goal.returns-in-Some
returns-in-Some c =
    let t = c.args.tables.now in
    sort-own t c.args.slot.0 (sort_by_number t c.args.sorts.now) c.in-Some.value.now (sym c.in-Some.ensures)
    ∙ ap Some ((λ i. own_as (sym c.wanted_sort-wanted.ensures i) c.in-Some.value.now) ∙ sym c.own_as.ensures)

pub returns-in_ok-found-in-Some-shape_of : goal.returns-in_ok-found-in-Some-shape_of
returns-in_ok-found-in-Some-shape_of c =
    let t = c.args.tables.now in
    let found = c.in_ok-found-in-Some-shape_of.found in
    let w = written-of (tree_at t c.args.slot.0) c.in-Some-shape_of.shape.now c.in-Some-shape_of.ensures.shape in
    sort-bound t c.args.slot.0 (sort_by_number t c.args.sorts.now) w.0 found w.1 (c.in_ok-found-in-Some-shape_of.ensures w.0 w.1)
    ∙ ap Some ((λ i. given_as (sym c.wanted_sort-wanted.ensures i) found) ∙ sym c.given_as.ensures)

pub returns-in-None : goal.returns-in-None
returns-in-None c =
    let t = c.args.tables.now in
    let s = some-in (slot_at t c.args.slot.0) c.requires in
    sort-rest t c.args.slot.0 (sort_by_number t c.args.sorts.now) s.0 s.1
    (sym c.own_value.ensures ∙ ap (option_map (λ (v : Bor Value). v.now)) c.in_default.is) (written-none (tree_at t c.args.slot.0) c.in-None.ensures.shape)
    ∙ ap Some (ap wanted_as (sym c.wanted_sort-wanted.ensures) ∙ sym c.wanted_as.ensures)
