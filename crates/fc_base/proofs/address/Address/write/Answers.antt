use Rattle.std.proofs.Common.{◌++◌, length, subst, ap, ◌∙◌, arith}
use Rattle.std.specs.Fmt.{decimal}
use Rattle.fc_base.proofs.AddressLemmas.{before_row-written, written-parts, length-parts, address_of-address_text}
use Rattle.fc_base.specs.Places.{Place, IsPlace, address_text}
use Rattle.fc_base.proofs.address.Address.write.Goals as goal

pub push_decimal-requires : goal.push_decimal-requires
push_decimal-requires c =
    let here : Place = record { column = c.self.inside.column; row = c.self.inside.row; fixed_column = c.self.inside.fixed_column; fixed_row = c.self.inside.fixed_row } in
    let written = before_row-written here _ _ _ _ c.requires c.push_mark.ensures c.push_column.ensures c.push_mark-2.ensures in
    omega (arith, ap length written, length-parts here c.self.invariant)

pub returns-clause-text : goal.returns-clause-text
returns-clause-text c =
    let here : Place = record { column = c.self.inside.column; row = c.self.inside.row; fixed_column = c.self.inside.fixed_column; fixed_row = c.self.inside.fixed_row } in
    let written = before_row-written here _ _ _ _ c.requires c.push_mark.ensures c.push_column.ensures c.push_mark-2.ensures in
    c.push_decimal.ensures ∙ ap (λ bytes. bytes ++ decimal c.self.inside.row) written ∙ written-parts here ∙ ap address_text c.self.view_is

pub returns-clause-reads_back : goal.returns-clause-reads_back
returns-clause-reads_back c =
    address_of-address_text c.args.self.now (subst (λ (p : Place). IsPlace p) c.self.view_is c.self.invariant)
