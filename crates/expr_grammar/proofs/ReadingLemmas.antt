-- Texts that read as tokens, and how they are put together.
use Rattle.std.proofs.Common.{◌≡◌, ℕ, Bool, true, false, not, ◌&&◌, ◌||◌, List, [], ◌∷◌, ◌++◌, refl, sym, ap, subst, ◌∙◌, ⊎_elim, append_assoc}
use Rattle.std.specs.Prelude.{◌==◌}
use Rattle.std.proofs.lemmas.Bool.{and_parts, or_cases, not-true, not_from_false, eqb-true}
use Rattle.fc_base.specs.Texts.{is_name, is_name_byte}
use Rattle.expr_tokens.specs.declared.sign.Sign as s
use Rattle.expr_tokens.specs.declared.sign.Sign.TheVariants as sign
use Rattle.expr_tokens.specs.declared.token.Lexeme.{Lexeme}
use Rattle.expr_tokens.specs.declared.token.Lexeme.TheVariants.{Identifier, Sign}
use Rattle.expr_tokens.specs.declared.token.Token.{Token}
use Rattle.expr_tokens.specs.declared.token.Token.TheVariants as token
use Rattle.expr_tokens.specs.Kinds.{is_open, is_dot, bracket_follows, point_follows, kinds}
use Rattle.expr_grammar.specs.Printed.{bracketed, spaced, call_text}
use Rattle.expr_tokens.specs.Signs.{sign_text}
use Rattle.expr_grammar.specs.TreeTokens.{bracketed_tokens, call_tokens}
use Rattle.expr_tokens.proofs.AlphabetLemmas.{begins_past}
use Rattle.expr_tokens.proofs.ByteLemmas.{is_address_byte, is_decimal_byte}
use Rattle.expr_tokens.proofs.LexemeLemmas.{Lexes, gap, lexes_name, lexes_spaced, lexes_open, lexes_close, lexes_semicolon, lexes_minus}

-- ---- what may follow

-- a text is empty or begins with a space, `)`, `:`, `;` or `^`
abbrev pub ends : List ℕ → Bool
ends [] = true
ends (c ∷ cs) = (c == 32) || (c == 41) || (c == 58) || (c == 59) || (c == 94)

module _ (alphabet : ℕ → Bool) (space : alphabet 32 ≡ false) (close : alphabet 41 ≡ false) (colon : alphabet 58 ≡ false)
    (semicolon : alphabet 59 ≡ false) (caret : alphabet 94 ≡ false) where
  outside : (c : ℕ) → ((c == 32) || (c == 41) || (c == 58) || (c == 59) || (c == 94)) ≡ true → alphabet c ≡ false
  outside c h =
      let is : (d : ℕ) → alphabet d ≡ false → (c == d) ≡ true → alphabet c ≡ false = λ d none e. ap alphabet (eqb-true c d e) ∙ none in
      ⊎_elim
      (λ a. ⊎_elim
      (λ b. ⊎_elim
      (λ d. ⊎_elim (is 32 space) (is 41 close) (or_cases (c == 32) (c == 41) d))
      (is 58 colon) (or_cases ((c == 32) || (c == 41)) (c == 58) b))
      (is 59 semicolon) (or_cases ((c == 32) || (c == 41) || (c == 58)) (c == 59) a))
      (is 94 caret) (or_cases ((c == 32) || (c == 41) || (c == 58) || (c == 59)) (c == 94) h)

  past : (rest : List ℕ) → ends rest ≡ true → begins_past alphabet rest ≡ true
  past [] h = refl
  past (c ∷ cs) h = not_from_false _ (outside c h)

pub past_name : (rest : List ℕ) → ends rest ≡ true → begins_past is_name_byte rest ≡ true
past_name = past is_name_byte refl refl refl refl refl

pub past_address : (rest : List ℕ) → ends rest ≡ true → begins_past is_address_byte rest ≡ true
past_address = past is_address_byte refl refl refl refl refl

pub past_decimal : (rest : List ℕ) → ends rest ≡ true → begins_past is_decimal_byte rest ≡ true
past_decimal = past is_decimal_byte refl refl refl refl refl

-- neither `(` nor `.` comes first
abbrev pub plain : List Lexeme → Bool
plain xs = not (bracket_follows xs) && not (point_follows xs)

pub no_bracket : (xs : List Lexeme) → plain xs ≡ true → bracket_follows xs ≡ false
no_bracket xs h = not-true _ (and_parts (not (bracket_follows xs)) (not (point_follows xs)) h).0

pub no_point : (xs : List Lexeme) → plain xs ≡ true → point_follows xs ≡ false
no_point xs h = not-true _ (and_parts (not (bracket_follows xs)) (not (point_follows xs)) h).1

-- The text is these lexemes, and they are these tokens.
pub record Reads (w : List ℕ) (ls : List Lexeme) (ts : List Token) : Type 0 where
  pub lexemes : (rest : List ℕ) (xs : List Lexeme) → ends rest ≡ true → Lexes rest xs → Lexes (w ++ rest) (ls ++ xs)
  pub tokens : (xs : List Lexeme) → plain xs ≡ true → kinds false (ls ++ xs) ≡ ts ++ kinds false xs

-- The text may stand behind a part.
pub record Follows (w : List ℕ) (ls : List Lexeme) (ts : List Token) : Type 0 where
  pub reads : Reads w ls ts
  pub ended : (rest : List ℕ) → ends rest ≡ true → ends (w ++ rest) ≡ true
  pub plainly : (xs : List Lexeme) → plain xs ≡ true → plain (ls ++ xs) ≡ true

-- texts that are some lexemes
abbrev pub Readable : List ℕ → List Token → Type 0
Readable w ts = (ls : List Lexeme) × Reads w ls ts

abbrev pub Behind : List ℕ → List Token → Type 0
Behind w ts = (ls : List Lexeme) × Follows w ls ts

-- ---- put together

-- one text behind another
pub followed : {v w : List ℕ} {ts us : List Token} → Readable v ts → Behind w us → Readable (v ++ w) (ts ++ us)
followed {v} {w} {ts} {us} (ks, a) (ls, b) = (
  ks ++ ls,
  record {
    lexemes = λ rest xs end more.
        subst (λ t. Lexes t ((ks ++ ls) ++ xs)) (sym (append_assoc v w rest))
        (subst (λ ys. Lexes (v ++ (w ++ rest)) ys) (sym (append_assoc ks ls xs))
        (a.lexemes (w ++ rest) (ls ++ xs) (b.ended rest end) (b.reads.lexemes rest xs end more)));
    tokens = λ xs none.
        ap (kinds false) (append_assoc ks ls xs) ∙ a.tokens (ls ++ xs) (b.plainly xs none)
        ∙ ap (λ vs. ts ++ vs) (b.reads.tokens xs none) ∙ sym (append_assoc ts us (kinds false xs));
  },
)

pub nothing : Behind [] []
nothing = (
  [],
  record {
    reads = record { lexemes = λ rest xs end more. more; tokens = λ xs none. refl };
    ended = λ rest end. end;
    plainly = λ xs none. none;
  },
)

-- a sign with a space on both sides
pub behind_sign : (x : s.Sign) → is_open x ≡ false → is_dot x ≡ false → {w : List ℕ} {ts : List Token} → Readable w ts
    → Behind (spaced (sign_text x) ++ w) (token.Sign x ∷ ts)
behind_sign x bracket point {w} {ts} (ls, a) = (
  Sign x ∷ ls,
  record {
    reads = record {
      lexemes = λ rest xs end more.
          gap refl (subst (λ t. Lexes t (Sign x ∷ (ls ++ xs))) (sym (append_assoc (sign_text x ++ 32 ∷ []) w rest ∙ append_assoc (sign_text x) (32 ∷ []) (w ++ rest)))
          (lexes_spaced (w ++ rest) (a.lexemes rest xs end more) x));
      tokens = λ xs none. ap (λ b. token.Sign x ∷ kinds b (ls ++ xs)) point ∙ ap (λ vs. token.Sign x ∷ vs) (a.tokens xs none);
    };
    ended = λ rest end. refl;
    plainly = λ xs none. ap (λ b. not b && not (is_dot x)) bracket ∙ ap not point;
  },
)

-- further arguments
pub behind_semicolon : {w : List ℕ} {ts : List Token} → Readable w ts → Behind (59 ∷ 32 ∷ w) (token.Sign sign.Semicolon ∷ ts)
behind_semicolon {w} {ts} (ls, a) = (
  Sign sign.Semicolon ∷ ls,
  record {
    reads = record {
      lexemes = λ rest xs end more. lexes_semicolon (32 ∷ (w ++ rest)) (gap refl (a.lexemes rest xs end more));
      tokens = λ xs none. ap (λ vs. token.Sign sign.Semicolon ∷ vs) (a.tokens xs none);
    };
    ended = λ rest end. refl;
    plainly = λ xs none. refl;
  },
)

-- a minus in front
pub negated : {w : List ℕ} {ts : List Token} → Readable w ts → Readable (45 ∷ w) (token.Sign sign.Minus ∷ ts)
negated {w} {ts} (ls, a) = (
  Sign sign.Minus ∷ ls,
  record {
    lexemes = λ rest xs end more. lexes_minus (w ++ rest) (a.lexemes rest xs end more);
    tokens = λ xs none. ap (λ vs. token.Sign sign.Minus ∷ vs) (a.tokens xs none);
  },
)

-- in brackets
within : {w : List ℕ} {ls : List Lexeme} {ts : List Token} → Reads w ls ts
    → Reads (40 ∷ (w ++ 41 ∷ [])) (Sign sign.Open ∷ (ls ++ Sign sign.Close ∷ [])) (token.Sign sign.Open ∷ (ts ++ token.Sign sign.Close ∷ []))
within {w} {ls} {ts} a = record {
  lexemes = λ rest xs end more.
      lexes_open ((w ++ 41 ∷ []) ++ rest)
      (subst (λ t. Lexes t ((ls ++ Sign sign.Close ∷ []) ++ xs)) (sym (append_assoc w (41 ∷ []) rest))
      (subst (λ ys. Lexes (w ++ 41 ∷ rest) ys) (sym (append_assoc ls (Sign sign.Close ∷ []) xs))
      (a.lexemes (41 ∷ rest) (Sign sign.Close ∷ xs) refl (lexes_close rest more))));
  tokens = λ xs none.
      ap (λ ys. token.Sign sign.Open ∷ kinds false ys) (append_assoc ls (Sign sign.Close ∷ []) xs)
      ∙ ap (λ vs. token.Sign sign.Open ∷ vs) (a.tokens (Sign sign.Close ∷ xs) refl ∙ sym (append_assoc ts (token.Sign sign.Close ∷ []) (kinds false xs)));
}

-- as it is, or in brackets
pub in_place : (as_it_is : Bool) {w : List ℕ} {ts : List Token} → Readable w ts → Readable (bracketed as_it_is w) (bracketed_tokens as_it_is ts)
in_place true a = a
in_place false (ls, a) = (Sign sign.Open ∷ (ls ++ Sign sign.Close ∷ []), within a)

-- a function of a name
pub called : (name : List ℕ) → is_name name ≡ true → {w : List ℕ} {ts : List Token} → Readable w ts → Readable (call_text name w) (call_tokens name ts)
called name h {w} {ts} (ls, a) =
    let all = within a in (
      Identifier name ∷ Sign sign.Open ∷ (ls ++ Sign sign.Close ∷ []),
      record {
        lexemes = λ rest xs end more.
            subst (λ t. Lexes t (Identifier name ∷ Sign sign.Open ∷ ((ls ++ Sign sign.Close ∷ []) ++ xs))) (sym (append_assoc name (40 ∷ (w ++ 41 ∷ [])) rest))
            (lexes_name name ((40 ∷ (w ++ 41 ∷ [])) ++ rest) h refl refl (all.lexemes rest xs end more));
        tokens = λ xs none. ap (λ vs. token.Function name ∷ vs) (all.tokens xs none);
      },
    )
