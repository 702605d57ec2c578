use Rattle.std.proofs.Common.{◌+◌, ◌/◌, ◌%◌, ◌++◌, ◌∷◌, [], length, sym, ap, ◌∙◌, arith}
use Rattle.std.specs.Fmt.{decimal}
use Rattle.std.proofs.lemmas.Fmt.{decimal_digit, decimal_step}
use Rattle.std.proofs.lemmas.List.{append_assoc, length-append}
use Rattle.fc_base.proofs.RowLemmas.{length-decimal_step}
use Rattle.fc_base.proofs.address.+push_decimal.Goals as goal

pub push_digit-requires-clause-room : goal.push_digit-requires-clause-room
push_digit-requires-clause-room t c =
    omega (arith, c.requires, ap length (decimal_digit c.args.number c.if-number-lt10.true))

pub push_decimal-requires : goal.push_decimal-requires
push_decimal-requires t c =
    (omega (arith, c.decreases), omega (arith, c.requires, length-decimal_step c.args.number c.if-number-lt10.false (omega arith)))

pub push_digit-requires-else-number-lt10-clause-room : goal.push_digit-requires-else-number-lt10-clause-room
push_digit-requires-else-number-lt10-clause-room t c =
    omega (arith, c.requires, length-decimal_step c.args.number c.if-number-lt10.false (omega arith), ap length c.push_decimal.ensures, length-append c.args.out.now.bytes (decimal (c.args.number / 10)))

pub returns-then-number-lt10 : goal.returns-then-number-lt10
returns-then-number-lt10 t c =
    c.push_digit.ensures ∙ ap (λ ds. c.args.out.now.bytes ++ ds) (sym (decimal_digit c.args.number c.if-number-lt10.true))

pub returns-else-number-lt10 : goal.returns-else-number-lt10
returns-else-number-lt10 t c =
    c.push_digit-else-number-lt10.ensures
    ∙ ap (λ bytes. bytes ++ (48 + c.args.number % 10) ∷ []) c.push_decimal.ensures
    ∙ append_assoc c.args.out.now.bytes (decimal (c.args.number / 10)) ((48 + c.args.number % 10) ∷ [])
    ∙ ap (λ ds. c.args.out.now.bytes ++ ds) (sym (decimal_step c.args.number c.if-number-lt10.false (omega arith)))
