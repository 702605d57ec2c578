use Rattle.std.proofs.Common.{◌≡◌, ◌≤◌, length}
use Rattle.expr_grammar.specs.Descent.{parsed_exponents}
use Rattle.expr_grammar.proofs.parser.Parser.exponents.Given as goal

-- the powers of what is read so far are those of the base
abbrev pub invariant-loop-self : goal.invariant-loop-self
invariant-loop-self l = record {
  powers : parsed_exponents l.power l.self.tokens.now ≡ parsed_exponents l.fn.base l.initial.self.tokens.now;
  shorter : length l.self.tokens.now ≤ length l.initial.self.tokens.now;
}

abbrev pub decreases-loop-self : goal.decreases-loop-self
decreases-loop-self l = length l.self.tokens.now
