-- How many tokens an expression has, and how many of its brackets are open at once.
use Rattle.std.specs.Prelude.{ℕ, ◌+◌, ◌-◌, ◌||◌, nat_le, nat_lt, if◌then◌else◌, List, [], ◌∷◌, Option, None, Some}
use Rattle.expr_tokens.specs.declared.sign.Sign as s
use Rattle.expr_tokens.specs.declared.sign.Sign.TheVariants as sign
use Rattle.expr_tokens.specs.declared.token.Lexeme.{Lexeme}
use Rattle.expr_tokens.specs.declared.token.Lexeme.TheVariants as lexeme
use Rattle.expr_tokens.specs.declared.token.Placed.{Placed}

abbrev pub most_tokens : ℕ
most_tokens = 512

abbrev pub most_brackets : ℕ
most_brackets = 32

-- how many brackets are open behind a sign; a closing one with none open changes nothing
abbrev pub open_behind_sign : ℕ → s.Sign → ℕ
open_behind_sign brackets sign.Open = brackets + 1
open_behind_sign brackets sign.Close = brackets - 1
open_behind_sign brackets _ = brackets

abbrev pub open_behind : ℕ → Lexeme → ℕ
open_behind brackets (lexeme.Sign x) = open_behind_sign brackets x
open_behind brackets _ = brackets

-- the place of the first of the lexemes that is one too many, or opens a bracket too many, where so
-- many lexemes stand before them and so many brackets are open
unfoldable pub excess_from : ℕ → ℕ → List Placed → Option ℕ
excess_from count brackets [] = None
excess_from count brackets (x ∷ xs) =
    let now = open_behind brackets x.lexeme in
    if nat_le most_tokens count || nat_lt most_brackets now then Some x.place else excess_from (count + 1) now xs

-- the place of the first token too many, or none
abbrev pub excess : List Placed → Option ℕ
excess xs = excess_from 0 0 xs
