use Rattle.std.proofs.Common.{◌≡◌, ◌-◌, ◌≤◌, length}
use denote.Shadow.{shadow}
use denote.Text.{Utf8}
use Rattle.expr_tokens.specs.Lexemes.{lexed, lexed_from}
use Rattle.expr_tokens.proofs.LexedLemmas.{with_front}
use Rattle.expr_tokens.proofs.lexing.lexemes.Given as goal

-- the lexemes so far, and those of what is left, are those of the whole text
abbrev pub invariant-loop-rest : goal.invariant-loop-rest
invariant-loop-rest l = record {
  text : shadow (Utf8 l.rest);
  within : length l.rest ≤ length l.text;
  so_far : with_front l.lexemes.items (lexed_from 0 (length l.text - length l.rest) l.rest) ≡ lexed l.text;
}

abbrev pub decreases-loop-rest : goal.decreases-loop-rest
decreases-loop-rest l = length l.rest
