use Rattle.std.proofs.Common.{◌≡◌, drop}
use Rattle.expr_eval.specs.Firsts.{all_of}
use Rattle.expr_eval.proofs.Gathering.{after}
use Rattle.expr_eval.proofs.all_of.all_of.Given as goal

-- the items so far, in front of what the other results give, are what all results give
abbrev pub invariant-loop-given : goal.invariant-loop-given
invariant-loop-given g l = after l.items.items (all_of (drop l.given-index l.results)) ≡ all_of l.results
