-- What the descent reads has the tree that it gives: the parts that hold no trees.
use Rattle.std.proofs.Common.{◌≡◌, ℕ, ◌<◌, ℤ, pos, neg_ℤ, true, false, List, [], ◌∷◌, ◌++◌, Option, None, Some, refl, sym, ◌∙◌, ap, append_assoc, cond}
use Rattle.std.specs.Prelude.{nat_lt, ◌==◌, if◌then◌else◌}
use Rattle.std.proofs.lemmas.Bool.{eqb-true, ltb-true}
use Rattle.expr_tokens.specs.declared.sign.Sign as s
use Rattle.expr_tokens.specs.declared.sign.Sign.TheVariants as sign
use Rattle.expr_tokens.specs.declared.token.Token.{Token}
use Rattle.expr_tokens.specs.declared.token.Token.TheVariants as token
use Rattle.expr_grammar.specs.Descent.{Parsed, ◌>>=◌, behind_sign, sign_in_front, name_in_front, digits_in_front, signed_exponent, exponent_in_front}
use Rattle.expr_grammar.specs.Grammar.{IsExponent, plain, negative}
use Rattle.expr_tokens.specs.SignNumbers.{same_sign, sign_number}

-- what holds of the thing read and the tokens behind it, where something is read
abbrev pub AllParsed : {A : Type 0} → (A → List Token → Type 0) → Parsed A → Type 0
AllParsed P None = Unit {0}
AllParsed P (Some x) = P x.0 x.1

-- what holds of the rest, where there is one
abbrev pub AllRests : (List Token → Type 0) → Option (List Token) → Type 0
AllRests P None = Unit {0}
AllRests P (Some rest) = P rest

pub bind-all : {A B : Type 0} (P : A → List Token → Type 0) (Q : B → List Token → Type 0) (x : Parsed A) (next : A → List Token → Parsed B)
    → AllParsed P x → ((a : A) (rest : List Token) → P a rest → AllParsed Q (next a rest)) → AllParsed Q (x >>= next)
bind-all P Q None next all go = tt
bind-all P Q (Some x) next all go = go x.0 x.1 all

-- fronts joined
pub joined : (ts xs mid ys rest : List Token) → ts ≡ xs ++ mid → mid ≡ ys ++ rest → ts ≡ (xs ++ ys) ++ rest
joined ts xs mid ys rest a b = a ∙ (ap (λ (z : List Token). xs ++ z) b ∙ sym (append_assoc xs ys rest))

pub behind : (x : Token) (mid ts ys rest : List Token) → mid ≡ x ∷ ts → ts ≡ ys ++ rest → mid ≡ (x ∷ ys) ++ rest
behind x mid ts ys rest a b = a ∙ ap (λ (z : List Token). x ∷ z) b

-- signs of one number are one
abbrev sign_of : ℕ → s.Sign
sign_of n =
    if n == 0 then sign.Equal else (if n == 1 then sign.NotEqual else (if n == 2 then sign.LessOrEqual else (if n == 3 then sign.GreaterOrEqual
    else (if n == 4 then sign.Less else (if n == 5 then sign.Greater else (if n == 6 then sign.Plus else (if n == 7 then sign.Minus
    else (if n == 8 then sign.Asterisk else (if n == 9 then sign.Slash else (if n == 10 then sign.Percent else (if n == 11 then sign.Caret
    else (if n == 12 then sign.Question else (if n == 13 then sign.Colon else (if n == 14 then sign.Semicolon else (if n == 15 then sign.Comma
    else (if n == 16 then sign.Open else (if n == 17 then sign.Close else sign.Dot)))))))))))))))))

sign_of-number : (x : s.Sign) → sign_of (sign_number x) ≡ x
sign_of-number sign.Equal = refl
sign_of-number sign.NotEqual = refl
sign_of-number sign.LessOrEqual = refl
sign_of-number sign.GreaterOrEqual = refl
sign_of-number sign.Less = refl
sign_of-number sign.Greater = refl
sign_of-number sign.Plus = refl
sign_of-number sign.Minus = refl
sign_of-number sign.Asterisk = refl
sign_of-number sign.Slash = refl
sign_of-number sign.Percent = refl
sign_of-number sign.Caret = refl
sign_of-number sign.Question = refl
sign_of-number sign.Colon = refl
sign_of-number sign.Semicolon = refl
sign_of-number sign.Comma = refl
sign_of-number sign.Open = refl
sign_of-number sign.Close = refl
sign_of-number sign.Dot = refl

pub same_sign-is : (x y : s.Sign) → same_sign x y ≡ true → x ≡ y
same_sign-is x y h = sym (sign_of-number x) ∙ (ap sign_of (eqb-true (sign_number x) (sign_number y) h) ∙ sign_of-number y)

-- what follows a sign follows it
pub behind_sign-rest : (x : s.Sign) (ts : List Token) → AllRests (λ rest. ts ≡ token.Sign x ∷ rest) (behind_sign x ts)
behind_sign-rest x [] = tt
behind_sign-rest x (token.Sign y ∷ ts) =
    elim (same_sign x y) as (λ b. same_sign x y ≡ b → AllRests (λ rest. token.Sign y ∷ ts ≡ token.Sign x ∷ rest) (cond b (Some ts) None))
    [ true ↦ λ h. ap (λ (z : s.Sign). token.Sign z ∷ ts) (sym (same_sign-is x y h)) | false ↦ λ h. tt ] refl
behind_sign-rest x (token.Numeral amount number ∷ ts) = tt
behind_sign-rest x (token.Unit name ∷ ts) = tt
behind_sign-rest x (token.Flag b ∷ ts) = tt
behind_sign-rest x (token.Name name ∷ ts) = tt
behind_sign-rest x (token.Function name ∷ ts) = tt
behind_sign-rest x (token.Marked place ∷ ts) = tt
behind_sign-rest x (token.Text t ∷ ts) = tt

pub sign_in_front-rest : (ts : List Token) → AllParsed (λ x rest. ts ≡ token.Sign x ∷ rest) (sign_in_front ts)
sign_in_front-rest [] = tt
sign_in_front-rest (token.Sign y ∷ ts) = refl
sign_in_front-rest (token.Numeral amount number ∷ ts) = tt
sign_in_front-rest (token.Unit name ∷ ts) = tt
sign_in_front-rest (token.Flag b ∷ ts) = tt
sign_in_front-rest (token.Name name ∷ ts) = tt
sign_in_front-rest (token.Function name ∷ ts) = tt
sign_in_front-rest (token.Marked place ∷ ts) = tt
sign_in_front-rest (token.Text t ∷ ts) = tt

pub name_in_front-rest : (ts : List Token) → AllParsed (λ name rest. ts ≡ token.Name name ∷ rest) (name_in_front ts)
name_in_front-rest [] = tt
name_in_front-rest (token.Name name ∷ ts) = refl
name_in_front-rest (token.Sign y ∷ ts) = tt
name_in_front-rest (token.Numeral amount number ∷ ts) = tt
name_in_front-rest (token.Unit name ∷ ts) = tt
name_in_front-rest (token.Flag b ∷ ts) = tt
name_in_front-rest (token.Function name ∷ ts) = tt
name_in_front-rest (token.Marked place ∷ ts) = tt
name_in_front-rest (token.Text t ∷ ts) = tt

-- one or two digits in front
pub record BeginsWithDigits (ts : List Token) (n : ℕ) (rest : List Token) : Type 0 where
  pub amount : ℤ
  pub split : ts ≡ token.Numeral amount (Some n) ∷ rest
  pub below : n < 100

pub digits_in_front-rest : (ts : List Token) → AllParsed (BeginsWithDigits ts) (digits_in_front ts)
digits_in_front-rest [] = tt
digits_in_front-rest (token.Numeral amount None ∷ ts) = tt
digits_in_front-rest (token.Numeral amount (Some n) ∷ ts) =
    elim (nat_lt n 100) as (λ b. nat_lt n 100 ≡ b → AllParsed (BeginsWithDigits (token.Numeral amount (Some n) ∷ ts)) (cond b (Some (n, ts)) None))
    [ true ↦ λ h. record { amount = amount; split = refl; below = ltb-true n 100 h } | false ↦ λ h. tt ] refl
digits_in_front-rest (token.Sign y ∷ ts) = tt
digits_in_front-rest (token.Unit name ∷ ts) = tt
digits_in_front-rest (token.Flag b ∷ ts) = tt
digits_in_front-rest (token.Name name ∷ ts) = tt
digits_in_front-rest (token.Function name ∷ ts) = tt
digits_in_front-rest (token.Marked place ∷ ts) = tt
digits_in_front-rest (token.Text t ∷ ts) = tt

-- an exponent in front
pub record BeginsWithExponent (ts : List Token) (n : ℤ) (rest : List Token) : Type 0 where
  pub used : List Token
  pub split : ts ≡ used ++ rest
  pub exponent : IsExponent used n

signed_exponent-rest : (ts : List Token) (x : Option (List Token)) → AllRests (λ rest. ts ≡ token.Sign sign.Minus ∷ rest) x
    → AllParsed (BeginsWithExponent ts) (signed_exponent x ts)
signed_exponent-rest ts None h =
    bind-all (BeginsWithDigits ts) (BeginsWithExponent ts) (digits_in_front ts) (λ n rest. Some (pos n, rest)) (digits_in_front-rest ts)
    (λ n rest d. record { used = token.Numeral d.amount (Some n) ∷ []; split = d.split; exponent = plain d.amount n d.below })
signed_exponent-rest ts (Some mid) h =
    bind-all (BeginsWithDigits mid) (BeginsWithExponent ts) (digits_in_front mid) (λ n rest. Some (neg_ℤ (pos n), rest)) (digits_in_front-rest mid)
    (λ n rest d. record {
      used = token.Sign sign.Minus ∷ token.Numeral d.amount (Some n) ∷ [];
      split = behind (token.Sign sign.Minus) ts mid (token.Numeral d.amount (Some n) ∷ []) rest h d.split;
      exponent = negative d.amount n d.below;
    })

pub exponent_in_front-rest : (ts : List Token) → AllParsed (BeginsWithExponent ts) (exponent_in_front ts)
unfolding exponent_in_front
exponent_in_front-rest ts = signed_exponent-rest ts (behind_sign sign.Minus ts) (behind_sign-rest sign.Minus ts)
