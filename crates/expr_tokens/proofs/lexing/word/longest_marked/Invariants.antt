use Rattle.std.proofs.Common.{◌≡◌, ℕ, ◌<◌, ◌≤◌, length, take, false}
use Rattle.expr_tokens.specs.Lexemes.{is_marked_address}
use Rattle.expr_tokens.proofs.lexing.word.longest_marked.Given as goal

-- no longer front is a marked address
abbrev pub invariant-loop-length : goal.invariant-loop-length
invariant-loop-length l = (m : ℕ) → l.length < m → m ≤ length l.text → is_marked_address (take m l.text) ≡ false
