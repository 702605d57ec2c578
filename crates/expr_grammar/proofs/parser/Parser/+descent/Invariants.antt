use Rattle.std.proofs.Common.{◌≡◌, ◌+◌, ◌*◌, ◌≤◌, length}
use Rattle.expr_grammar.specs.Descent.{parsed, parsed_operands, parsed_arguments}
use Rattle.expr_grammar.specs.Grammar.{sum, term}
use Rattle.expr_grammar.specs.Reading.{behind_arguments}
use Rattle.expr_grammar.proofs.parser.Parser.+descent.Given as goal

-- A reader takes a token, or leaves the tokens to one below it.
abbrev pub decreases-aggregate : goal.decreases-aggregate
decreases-aggregate l = 16 * length l.self.now.tokens.now + 10

abbrev pub decreases-arguments : goal.decreases-arguments
decreases-arguments l = 16 * length l.self.now.tokens.now + 9

abbrev pub decreases-argument : goal.decreases-argument
decreases-argument l = 16 * length l.self.now.tokens.now + 8

abbrev pub decreases-bracketed : goal.decreases-bracketed
decreases-bracketed l = 16 * length l.self.now.tokens.now + 8

abbrev pub decreases-modulo : goal.decreases-modulo
decreases-modulo l = 16 * length l.self.now.tokens.now + 8

abbrev pub decreases-expression : goal.decreases-expression
decreases-expression l = 16 * length l.self.now.tokens.now + 7

abbrev pub decreases-arms : goal.decreases-arms
decreases-arms l = 16 * length l.self.now.tokens.now + 8

abbrev pub decreases-comparison : goal.decreases-comparison
decreases-comparison l = 16 * length l.self.now.tokens.now + 6

abbrev pub decreases-sum : goal.decreases-sum
decreases-sum l = 16 * length l.self.now.tokens.now + 5

abbrev pub decreases-term : goal.decreases-term
decreases-term l = 16 * length l.self.now.tokens.now + 4

abbrev pub decreases-unary : goal.decreases-unary
decreases-unary l = 16 * length l.self.now.tokens.now + 3

abbrev pub decreases-power : goal.decreases-power
decreases-power l = 16 * length l.self.now.tokens.now + 2

abbrev pub decreases-primary : goal.decreases-primary
decreases-primary l = 16 * length l.self.now.tokens.now + 1

abbrev pub decreases-call : goal.decreases-call
decreases-call l = 16 * length l.self.now.tokens.now + 1

-- the operands so far, with what follows them, are the sum
abbrev pub invariant-sum-loop-op : goal.invariant-sum-loop-op
invariant-sum-loop-op l = record {
  operands : parsed sum l.fn.self.tokens.now ≡ parsed_operands sum l.left l.self.tokens.now;
  shorter : length l.self.tokens.now + 1 ≤ length l.fn.self.tokens.now;
}

abbrev pub decreases-sum-loop-op : goal.decreases-sum-loop-op
decreases-sum-loop-op l = length l.self.tokens.now

-- the operands so far, with what follows them, are the term
abbrev pub invariant-term-loop-op : goal.invariant-term-loop-op
invariant-term-loop-op l = record {
  operands : parsed term l.fn.self.tokens.now ≡ parsed_operands term l.left l.self.tokens.now;
  shorter : length l.self.tokens.now + 1 ≤ length l.fn.self.tokens.now;
}

abbrev pub decreases-term-loop-op : goal.decreases-term-loop-op
decreases-term-loop-op l = length l.self.tokens.now

-- the arguments so far, and those that follow them, are all
abbrev pub invariant-arguments-loop-all : goal.invariant-arguments-loop-all
invariant-arguments-loop-all l = record {
  arguments : parsed_arguments l.fn.self.tokens.now ≡ behind_arguments l.all.items (parsed_arguments l.self.tokens.now);
  shorter : length l.self.tokens.now ≤ length l.fn.self.tokens.now;
}

abbrev pub decreases-arguments-loop-all : goal.decreases-arguments-loop-all
decreases-arguments-loop-all l = length l.self.tokens.now
