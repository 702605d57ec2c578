use Rattle.std.proofs.Common.{◌≡◌, ◌<◌, ◌+◌, ◌^◌, map, length, option_copied}
use Rattle.expr_tokens.specs.Misplaced.{misplaced, misplaced_from}
use Rattle.expr_tokens.proofs.misplaced.first_misplaced.Given as goal

-- what is left decides, with the token in front and the brackets that are open by now
abbrev pub invariant-loop-placed : goal.invariant-loop-placed
invariant-loop-placed l = record {
  left : misplaced_from (option_copied l.previous) l.brackets (map (λ x. x.place) l.placed-iterator.a.rest.now) l.placed-iterator.b.rest.now l.end
      ≡ misplaced (map (λ x. x.place) l.lexemes) l.tokens l.end;
  few : l.brackets + length l.placed-iterator.a.rest.now < 2 ^ 64;
}
