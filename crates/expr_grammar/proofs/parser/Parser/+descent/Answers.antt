use Rattle.std.proofs.Common.{◌∙◌, ◌≤◌, length, arith}
use Rattle.expr_grammar.proofs.ArgumentLemmas.{argument_last, argument_more}
use Rattle.expr_grammar.proofs.parser.Parser.+descent.Goals as goal

pub arguments-returns-then-not-skip_separator-clause-read :
    goal.arguments-returns-then-not-skip_separator-clause-read
arguments-returns-then-not-skip_separator-clause-read t c =
    rw (c.if-not-skip_separator.ensures.read.1, c.in_ok-push.ensures.items)
    (c.loop-all.invariant.arguments ∙ argument_last _ _ _ _ c.in_ok-argument.ensures.read c.if-not-skip_separator.ensures.read.0)

pub arguments-loop-all-preserved : goal.arguments-loop-all-preserved
arguments-loop-all-preserved t c =
    let shorter : length c.skip_separator.new.self.tokens.now ≤ length c.args.self.now.tokens.now =
    omega (arith, c.loop-all.invariant.shorter, c.in_ok-argument.ensures.shorter, c.if-not-skip_separator.ensures.shorter) in
    record {
      arguments = c.loop-all.invariant.arguments ∙ rw c.in_ok-push.ensures.items
          (argument_more _ _ _ _ _ c.in_ok-argument.ensures.read c.if-not-skip_separator.ensures.read);
      shorter = shorter;
    }
