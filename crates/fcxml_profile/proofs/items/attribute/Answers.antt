use Rattle.std.proofs.Common.{sym, arith}
use Rattle.fcxml_profile.proofs.ValueLemmas.{value_at-front}
use Rattle.fcxml_profile.proofs.items.attribute.Goals as goal

pub invariant_of-value : goal.invariant_of-value
invariant_of-value c =
    let front = value_at-front c.after_blanks-quoted.result.now (c.in_ok-value.value.now, c.in_ok-value.rest.now) (sym c.in_ok-value.ensures) in
    omega arith
