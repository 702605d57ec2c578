-- Private: only contracts inside this crate cite this.
-- The levels of the grammar as the code has them.
use Rattle.expr_grammar.specs.declared.tightness.Tightness.{Tightness}
use Rattle.expr_grammar.specs.declared.tightness.Tightness.TheVariants as tightness
use Rattle.expr_grammar.specs.Grammar.{Level, expression, comparison, sum, term, unary, powers, primary}

abbrev pub level : Tightness → Level
level tightness.Expression = expression
level tightness.Comparison = comparison
level tightness.Sum = sum
level tightness.Term = term
level tightness.Unary = unary
level tightness.Powers = powers
level tightness.Primary = primary
