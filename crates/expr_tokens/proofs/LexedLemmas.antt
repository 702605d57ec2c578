-- The lexemes of a text, one after the other, as a loop reads them.
use Rattle.std.proofs.Common.{◌≡◌, ℕ, zero, suc, ◌+◌, ◌-◌, ◌<◌, ◌≤◌, true, List, [], ◌∷◌, ◌++◌, length, drop, Some, None, Result, Ok, Err, refl, sym, ap, ◌∙◌, append_assoc, append-nil, length-drop, arith}
use Rattle.std.proofs.lemmas.Bool.{false_from_ne_true, cond-true, cond-false}
use Rattle.object_paths.specs.PathParts.{is_blank}
use Rattle.expr_tokens.specs.Lexemes.{lexeme_at, lexed_from, lexed, in_front, with_lexeme}
use Rattle.expr_tokens.specs.declared.token.Lexeme.{Lexeme}
use Rattle.expr_tokens.specs.declared.token.Placed.{Placed}

-- the lexemes so far, before those of what is left
abbrev pub with_front : List Placed → Result (List Placed) ℕ → Result (List Placed) ℕ
with_front front (Ok xs) = Ok (front ++ xs)
with_front front (Err place) = Err place

regroup : (front : List Placed) (x : Placed) (read : Result (List Placed) ℕ) → with_front (front ++ x ∷ []) read ≡ with_front front (in_front x read)
regroup front x (Ok xs) = ap (λ (ys : List Placed). Ok ys) (append_assoc front (x ∷ []) xs)
regroup front x (Err place) = refl

-- bytes that belong to the lexeme before are passed over
skips : (n place : ℕ) (text : List ℕ) → n ≤ length text → lexed_from n place text ≡ lexed_from 0 (place + n) (drop n text)
unfolding lexed_from
skips zero place text within = let same : place ≡ place + 0 = omega arith in ap (λ p. lexed_from 0 p text) same
skips (suc n) place [] within = absurd (omega arith)
skips (suc n) place (c ∷ cs) within =
    let same : place + 1 + n ≡ place + suc n = omega arith in
    skips n (place + 1) cs (omega arith) ∙ ap (λ p. lexed_from 0 p (drop n cs)) same

-- nothing is read yet
pub begins : (text : List ℕ) (place : ℕ) → place ≡ 0 → with_front [] (lexed_from 0 place text) ≡ lexed text
begins text place e = ap (λ p. with_front [] (lexed_from 0 p text)) e ∙ alone (lexed_from 0 0 text)
  where
    alone : (read : Result (List Placed) ℕ) → with_front [] read ≡ read
    alone (Ok xs) = refl
    alone (Err place) = refl

-- a blank is passed over
blank-step : (place : ℕ) (text rest : List ℕ) (c : ℕ) → is_blank c ≡ true → text ≡ c ∷ rest → lexed_from 0 place text ≡ lexed_from 0 (place + 1) rest
unfolding lexed_from
blank-step place text rest c blank e =
    ap (lexed_from 0 place) e
    ∙ cond-true (is_blank c) (lexed_from 0 (place + 1) rest) (with_lexeme (lexeme_at (c ∷ rest)) place (λ n. lexed_from (n - 1) (place + 1) rest)) blank

pub passes_blank : (front : List Placed) (all : Result (List Placed) ℕ) (place next : ℕ) (text rest : List ℕ) (c : ℕ) → is_blank c ≡ true → text ≡ c ∷ rest → next ≡ place + 1
    → with_front front (lexed_from 0 place text) ≡ all → with_front front (lexed_from 0 next rest) ≡ all
passes_blank front all place next text rest c blank e at so_far =
    ap (λ p. with_front front (lexed_from 0 p rest)) at ∙ ap (with_front front) (sym (blank-step place text rest c blank e)) ∙ so_far

-- where no blank stands in front, a lexeme does or the text ends
lexeme-step : (place : ℕ) (text : List ℕ) → 0 < length text → ((c : ℕ) (rest : List ℕ) → is_blank c ≡ true → text ≡ c ∷ rest → ⊥)
    → lexed_from 0 place text ≡ with_lexeme (lexeme_at text) place (λ n. lexed_from (n - 1) (place + 1) (drop 1 text))
unfolding lexed_from
lexeme-step place [] some none = absurd (omega arith)
lexeme-step place (c ∷ cs) some none =
    cond-false (is_blank c) (lexed_from 0 (place + 1) cs) (with_lexeme (lexeme_at (c ∷ cs)) place (λ n. lexed_from (n - 1) (place + 1) cs))
    (false_from_ne_true (is_blank c) (λ blank. none c cs blank refl))

drop-one : (n : ℕ) (text : List ℕ) → 0 < n → drop (n - 1) (drop 1 text) ≡ drop n text
drop-one zero text some = absurd (omega arith)
drop-one (suc n) [] some = nothing (suc n - 1)
  where
    nothing : (k : ℕ) → drop {A = ℕ} k [] ≡ []
    nothing zero = refl
    nothing (suc k) = refl
drop-one (suc n) (c ∷ cs) some = let same : suc n - 1 ≡ n = omega arith in ap (λ k. drop k cs) same

-- one lexeme more is read
pub takes_lexeme : (front : List Placed) (all : Result (List Placed) ℕ) (place next n : ℕ) (text rest : List ℕ) (x : Lexeme)
    → 0 < length text → ((c : ℕ) (others : List ℕ) → is_blank c ≡ true → text ≡ c ∷ others → ⊥) → Some (x, n) ≡ lexeme_at text → 0 < n → n ≤ length text → rest ≡ drop n text → next ≡ place + n
    → with_front front (lexed_from 0 place text) ≡ all → with_front (front ++ (record { place = place; lexeme = x }) ∷ []) (lexed_from 0 next rest) ≡ all
takes_lexeme front all place next n text rest x some none found long within left at so_far =
    let step : lexed_from 0 place text ≡ in_front (record { place = place; lexeme = x }) (lexed_from (n - 1) (place + 1) (drop 1 text)) =
    lexeme-step place text some none ∙ ap (λ o. with_lexeme o place (λ k. lexed_from (k - 1) (place + 1) (drop 1 text))) (sym found) in
    let further : lexed_from (n - 1) (place + 1) (drop 1 text) ≡ lexed_from 0 next rest =
    skips (n - 1) (place + 1) (drop 1 text) (omega (arith, length-drop 1 text))
    ∙ (let same : place + 1 + (n - 1) ≡ next = omega arith in ap (λ p. lexed_from 0 p (drop (n - 1) (drop 1 text))) same)
    ∙ ap (lexed_from 0 next) (drop-one n text long ∙ sym left) in
    regroup front (record { place = place; lexeme = x }) (lexed_from 0 next rest)
    ∙ ap (λ r. with_front front (in_front (record { place = place; lexeme = x }) r)) (sym further)
    ∙ ap (with_front front) (sym step) ∙ so_far

-- no lexeme begins there
pub stops : (front : List Placed) (all : Result (List Placed) ℕ) (place : ℕ) (text : List ℕ) → 0 < length text → ((c : ℕ) (others : List ℕ) → is_blank c ≡ true → text ≡ c ∷ others → ⊥)
    → None ≡ lexeme_at text → with_front front (lexed_from 0 place text) ≡ all → all ≡ Err place
stops front all place text some none missing so_far =
    sym so_far ∙ ap (with_front front) (lexeme-step place text some none ∙ ap (λ o. with_lexeme o place (λ k. lexed_from (k - 1) (place + 1) (drop 1 text))) (sym missing))

-- nothing is left
pub ends : (front : List Placed) (all : Result (List Placed) ℕ) (place : ℕ) (text : List ℕ) → length text ≡ 0 → with_front front (lexed_from 0 place text) ≡ all → all ≡ Ok front
unfolding lexed_from
ends front all place [] none so_far = sym so_far ∙ ap (λ (xs : List Placed). Ok xs) (append-nil front)
ends front all place (c ∷ cs) none so_far = absurd (omega arith)
