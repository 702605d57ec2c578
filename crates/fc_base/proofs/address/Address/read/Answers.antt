use Rattle.std.proofs.Common.{Some, refl, sym, ap, ◌∙◌}
use Rattle.std.proofs.lemmas.Bool.{true≢false}
use Rattle.fc_base.proofs.AddressLemmas.{no_column, no_row, found_parts, address_of-iff}
use Rattle.fc_base.specs.Places.{address_of, Spells}
use Rattle.fc_base.specs.AddressParts.{is_marked}
use Rattle.fc_base.proofs.address.Address.read.Goals as goal

pub returns-in_err-column-clause-value : goal.returns-in_err-column-clause-value
returns-in_err-column-clause-value c =
    c.from_residual.ensures
    ∙ sym (no_column c.as_bytes-text.result.now c.after_mark.result.now c.after_mark.ensures (c.in_err-column.ensures.none.0 refl))
    ∙ ap address_of c.as_bytes-text.ensures.value

pub returns-in_err-row-clause-value : goal.returns-in_err-row-clause-value
returns-in_err-row-clause-value c =
    c.from_residual-in_err-row.ensures
    ∙ sym (no_row c.as_bytes-text.result.now c.after_mark.result.now c.in_ok-column.rest.now c.after_mark-2.result.now c.after_mark.ensures c.in_ok-column.ensures.rest c.after_mark-2.ensures (sym c.in_err-row.ensures))
    ∙ ap address_of c.as_bytes-text.ensures.value

-- what was read part by part spells the text
spells : (c : goal.After-is_marked-2) → Spells c.as_bytes-text.result.now (record { column = c.in_ok-column.column; row = c.in_ok-row.row; fixed_column = is_marked c.as_bytes-text.result.now; fixed_row = is_marked c.in_ok-column.rest.now })
spells c =
    found_parts c.as_bytes-text.result.now c.after_mark.result.now c.in_ok-column.rest.now c.after_mark-2.result.now c.in_ok-column.column c.in_ok-row.row
    c.after_mark.ensures (λ h. true≢false (c.in_ok-column.ensures.none.1 h)) c.in_ok-column.ensures.column c.in_ok-column.ensures.rest c.after_mark-2.ensures (sym c.in_ok-row.ensures)

pub invariant_of-result : goal.invariant_of-result
invariant_of-result c =
    let place = (spells c).place in
    record { column_low = place.column_low; column_high = place.column_high; row_low = place.row_low; row_high = place.row_high }

pub returns-clause-value : goal.returns-clause-value
returns-clause-value c =
    (λ i. Some (record { column = c.in_ok-column.column; row = c.in_ok-row.row; fixed_column = c.is_marked.ensures i; fixed_row = c.is_marked-2.ensures i }))
    ∙ sym ((address_of-iff c.as_bytes-text.result.now _).1 (spells c))
    ∙ ap address_of c.as_bytes-text.ensures.value

pub returns-in_err-column-clause-spelled : goal.returns-in_err-column-clause-spelled
returns-in_err-column-clause-spelled c = address_of-iff c.args.text.now

pub returns-in_err-row-clause-spelled : goal.returns-in_err-row-clause-spelled
returns-in_err-row-clause-spelled c = address_of-iff c.args.text.now

pub returns-clause-spelled : goal.returns-clause-spelled
returns-clause-spelled c = address_of-iff c.args.text.now
