use Rattle.std.proofs.Common.{◌≡◌, ◌≤◌, drop}
use Rattle.expr_tokens.specs.Limits.{excess_from}
use Rattle.expr_tokens.proofs.limits.excess.Given as goal

-- what is left decides, with the brackets that are open by now
abbrev pub invariant-loop-count : goal.invariant-loop-count
invariant-loop-count l = record {
  left : excess_from l.count l.brackets (drop l.count l.lexemes) ≡ excess_from 0 0 l.lexemes;
  few : l.brackets ≤ 32;
}
