-- The descent, without a count of its steps: what it reads is one step over itself.
use Rattle.std.proofs.Common.{◌≡◌, ℕ, zero, suc, ◌+◌, ◌*◌, ◌<◌, ◌≤◌, Bool, true, false, List, [], ◌∷◌, ◌++◌, length, length-append, Option, None, Some, refl, ◌∙◌, ap, arith, ◌-◌}
use Rattle.std.specs.Str.{bytes_eq}
use Rattle.fc_base.specs.Places.{Block}
use Rattle.expr_tree.specs.declared.operators.BinaryOp as b
use Rattle.expr_tree.specs.declared.operators.CompareOp as o
use Rattle.expr_tree.specs.declared.functions.FunctionOp as f
use Rattle.expr_tree.specs.declared.functions.AggregateOp as g
use Rattle.expr_tokens.specs.declared.sign.Sign as s
use Rattle.expr_tokens.specs.declared.sign.Sign.TheVariants as sign
use Rattle.expr_tokens.specs.declared.token.Token.{Token}
use Rattle.expr_tokens.specs.declared.token.Token.TheVariants as token
use Rattle.expr_grammar.specs.Descent.{Parsed, ◌>>=◌, Readers, behind_sign, exponent_in_front, with_bracket, behind_separator, second_argument, called, call, signed_primary, primary_step, unary_step, operation_in_front, comparison_in_front, operands_step, exponents_step, sides, other_arm, arms, level_step, area_in_front, further_arguments, arguments_step, next_readers, readers, height, level_steps, further_steps, argument_steps, parsed, parsed_operands, parsed_exponents, parsed_arguments, whole_readers}
use Rattle.expr_tree.specs.Functions.{function_named, modulo_name, aggregate_named}
use Rattle.expr_grammar.specs.Grammar.{Level, expression, comparison, sum, term, unary, powers, primary, compare_sign, right_level}
use Rattle.expr_tree.specs.Tree.{Tree, binary, power, aggregate, Arguments, tree, cells}
use Rattle.expr_grammar.proofs.FrontLemmas.{AllParsed, AllRests, behind_sign-rest, BeginsWithExponent, exponent_in_front-rest}
use Rattle.expr_grammar.proofs.DescentSound.{Separated, behind_separator-rest}
use Rattle.expr_grammar.proofs.StepsSound.{BeginsWithOperation, operation_in_front-rest, comparison_in_front-rest, BeginsWithArea, area_in_front-rest, readers-sound}
use Rattle.expr_grammar.proofs.DescentShorter.{Leaving, LeavesBelow, LeavesUpTo, sound-leaving}

-- one thing read in two ways, and behind it again one thing
bind-same : {A B : Type 0} (P : A → List Token → Type 0) (x y : Parsed A) (next other : A → List Token → Parsed B) → x ≡ y → AllParsed P y
    → ((a : A) (rest : List Token) → P a rest → next a rest ≡ other a rest) → (x >>= next) ≡ (y >>= other)
bind-same {A} {B} P x y next other same all go =
    ap (λ (z : Parsed A). z >>= next) same
    ∙ elim y as (λ (z : Parsed A). AllParsed P z → (z >>= next) ≡ (z >>= other)) [ None ↦ λ _. refl | Some a ↦ λ h. go a.0 a.1 h ] all

-- the readers read one thing where so many steps are enough
record Agree (k : ℕ) (r q : Readers) : Type 0 where
  of_level : (l : Level) (ts : List Token) → level_steps l ts ≤ k → r.of_level l ts ≡ q.of_level l ts
  operands : (l : Level) (left : Tree) (ts : List Token) → further_steps ts ≤ k → r.operands l left ts ≡ q.operands l left ts
  exponents : (base : Tree) (ts : List Token) → further_steps ts ≤ k → r.exponents base ts ≡ q.exponents base ts
  arguments : (ts : List Token) → argument_steps ts ≤ k → r.arguments ts ≡ q.arguments ts

-- the readers read one thing of fewer tokens
record AgreeBelow (n : ℕ) (r q : Readers) : Type 0 where
  of_level : (l : Level) (ts : List Token) → length ts < n → r.of_level l ts ≡ q.of_level l ts
  operands : (l : Level) (left : Tree) (ts : List Token) → length ts < n → r.operands l left ts ≡ q.operands l left ts
  exponents : (base : Tree) (ts : List Token) → length ts < n → r.exponents base ts ≡ q.exponents base ts
  arguments : (ts : List Token) → length ts < n → r.arguments ts ≡ q.arguments ts

height-le : (l : Level) → height l ≤ 7
height-le expression = omega arith
height-le comparison = omega arith
height-le sum = omega arith
height-le term = omega arith
height-le unary = omega arith
height-le powers = omega arith
height-le primary = omega arith

agree-below : (k n : ℕ) (r q : Readers) → Agree k r q → 9 * n ≤ k + 1 → AgreeBelow n r q
agree-below k n r q a h = record {
  of_level = λ l ts below. a.of_level l ts (omega (arith, h, below, height-le l));
  operands = λ l left ts below. a.operands l left ts (omega (arith, h, below));
  exponents = λ base ts below. a.exponents base ts (omega (arith, h, below));
  arguments = λ ts below. a.arguments ts (omega (arith, h, below));
}

-- what follows something is shorter

abbrev Below : ℕ → Option (List Token) → Type 0
Below n x = AllRests (λ rest. length rest < n) x

weaker-rests : (P Q : List Token → Type 0) (x : Option (List Token)) → ((rest : List Token) → P rest → Q rest) → AllRests P x → AllRests Q x
weaker-rests P Q None go h = tt
weaker-rests P Q (Some rest) go h = go rest h

sign-below : (n : ℕ) (x : s.Sign) (ts : List Token) → length ts ≤ n → Below n (behind_sign x ts)
sign-below n x ts le =
    weaker-rests (λ rest. ts ≡ token.Sign x ∷ rest) (λ rest. length rest < n) (behind_sign x ts) (λ rest e. omega (arith, ap length e, le)) (behind_sign-rest x ts)

separator-below : (n : ℕ) (ts : List Token) → length ts ≤ n → Below n (behind_separator ts)
separator-below n ts le =
    weaker-rests (Separated ts) (λ rest. length rest < n) (behind_separator ts) (λ rest d. omega (arith, ap length d.split, le)) (behind_separator-rest ts)

weaker-parsed : {A : Type 0} (P Q : A → List Token → Type 0) (x : Parsed A) → ((a : A) (rest : List Token) → P a rest → Q a rest) → AllParsed P x → AllParsed Q x
weaker-parsed P Q None go h = tt
weaker-parsed P Q (Some x) go h = go x.0 x.1 h

operation-below : (n : ℕ) (l : Level) (ts : List Token) → length ts ≤ n → LeavesBelow n (operation_in_front l ts)
operation-below n l ts le =
    weaker-parsed (BeginsWithOperation l ts) (λ _ rest. length rest < n) (operation_in_front l ts) (λ _ rest d. omega (arith, ap length d.split, le)) (operation_in_front-rest l ts)

comparison-below : (n : ℕ) (ts : List Token) → length ts ≤ n → LeavesBelow n (comparison_in_front ts)
comparison-below n ts le =
    weaker-parsed (λ op rest. ts ≡ token.Sign (compare_sign op) ∷ rest) (λ _ rest. length rest < n) (comparison_in_front ts)
    (λ _ rest e. omega (arith, ap length e, le)) (comparison_in_front-rest ts)

split-up_to : (ts used rest : List Token) → ts ≡ used ++ rest → length rest ≤ length ts
split-up_to ts used rest e = omega (arith, length-append used rest, ap length e)

exponent-up_to : (n : ℕ) (ts : List Token) → length ts ≤ n → LeavesUpTo n (exponent_in_front ts)
exponent-up_to n ts le =
    weaker-parsed (BeginsWithExponent ts) (λ _ rest. length rest ≤ n) (exponent_in_front ts)
    (λ _ rest d. omega (arith, split-up_to ts d.used rest d.split, le)) (exponent_in_front-rest ts)

-- steps over readers that agree

module _ (n : ℕ) (r q : Readers) (a : AgreeBelow n r q) (leaving : Leaving q) where
  -- a tree of fewer tokens, and behind it one thing
  then-same : {B : Type 0} (l : Level) (ts : List Token) (next other : Tree → List Token → Parsed B) → length ts < n
      → ((t : Tree) (rest : List Token) → length rest < n → next t rest ≡ other t rest) → (r.of_level l ts >>= next) ≡ (q.of_level l ts >>= other)
  then-same l ts next other below go =
      bind-same (λ _ rest. length rest < length ts) (r.of_level l ts) (q.of_level l ts) next other (a.of_level l ts below) (leaving.of_level l ts)
      (λ t rest h. go t rest (omega (arith, h, below)))

  other_arm-same : (c v : Tree) (x : Option (List Token)) → Below n x → other_arm r c v x ≡ other_arm q c v x
  other_arm-same c v None h = refl
  other_arm-same c v (Some ts) h = then-same expression ts _ _ h (λ t rest _. refl)

  arms-same : (c : Tree) (x : Option (List Token)) (mid : List Token) → Below n x → arms r c x mid ≡ arms q c x mid
  arms-same c None mid h = refl
  arms-same c (Some ts) mid h = then-same expression ts _ _ h (λ t rest below. other_arm-same c t (behind_sign sign.Colon rest) (sign-below n sign.Colon rest (omega (arith, below))))

  sides-same : (left : Tree) (x : Option (o.CompareOp × List Token)) (mid : List Token) → LeavesBelow n x → sides r left x mid ≡ sides q left x mid
  sides-same left None mid h = refl
  sides-same left (Some x) mid h = then-same sum x.1 _ _ h (λ t rest _. refl)

  operands_step-same : (l : Level) (left : Tree) (x : Option (b.BinaryOp × List Token)) (ts : List Token) → LeavesBelow n x
      → operands_step r l left x ts ≡ operands_step q l left x ts
  operands_step-same l left None ts h = refl
  operands_step-same l left (Some x) ts h = then-same (right_level x.0) x.1 _ _ h (λ t rest below. a.operands l (binary x.0 left t) rest below)

  exponents_step-same : (base : Tree) (x : Option (List Token)) (ts : List Token) → Below n x → exponents_step r base x ts ≡ exponents_step q base x ts
  exponents_step-same base None ts h = refl
  exponents_step-same base (Some mid) ts h =
      bind-same (λ _ rest. length rest ≤ length mid) (exponent_in_front mid) (exponent_in_front mid) _ _ refl (exponent-up_to (length mid) mid (omega arith))
      (λ m rest le. a.exponents (power base m) rest (omega (arith, le, h)))

  unary_step-same : (x : Option (List Token)) (ts : List Token) → Below n x → r.of_level powers ts ≡ q.of_level powers ts → unary_step r x ts ≡ unary_step q x ts
  unary_step-same None ts h e = e
  unary_step-same (Some mid) ts h e = then-same unary mid _ _ h (λ t rest _. refl)

  second_argument-same : (v : Tree) (x : Option (List Token)) → Below n x → second_argument r v x ≡ second_argument q v x
  second_argument-same v None h = refl
  second_argument-same v (Some ts) h = ap with_bracket (then-same expression ts _ _ h (λ t rest _. refl))

  called-same : (x : Option f.FunctionOp) (v : Bool) (y : Option g.AggregateOp) (ts : List Token) → length ts < n → called r x v y ts ≡ called q x v y ts
  called-same (Some op) v y ts h = ap with_bracket (then-same expression ts _ _ h (λ t rest _. refl))
  called-same None true y ts h =
      then-same expression ts _ _ h (λ t rest below. second_argument-same t (behind_separator rest) (separator-below n rest (omega (arith, below))))
  called-same None false (Some op) ts h =
      ap (λ (z : Parsed Arguments). with_bracket (z >>= λ all rest. Some (aggregate op all, rest))) (a.arguments ts h)
  called-same None false None ts h = refl

  call-same : (name : List ℕ) (x : Option (List Token)) → Below n x → call r name x ≡ call q name x
  call-same name None h = refl
  call-same name (Some ts) h = called-same (function_named name) (bytes_eq name modulo_name) (aggregate_named name) ts h

  signed_primary-same : (x : s.Sign) (ts : List Token) → length ts < n → signed_primary r x ts ≡ signed_primary q x ts
  signed_primary-same sign.Open ts h = ap with_bracket (a.of_level expression ts h)
  signed_primary-same sign.Dot ts h = refl
  signed_primary-same _ ts h = refl

  primary_step-same : (ts : List Token) → length ts ≤ n → primary_step r ts ≡ primary_step q ts
  primary_step-same [] h = refl
  primary_step-same (token.Numeral amount number ∷ ts) h = refl
  primary_step-same (token.Unit name ∷ ts) h = refl
  primary_step-same (token.Flag v ∷ ts) h = refl
  primary_step-same (token.Name name ∷ ts) h = refl
  primary_step-same (token.Function name ∷ ts) h = call-same name (behind_sign sign.Open ts) (sign-below n sign.Open ts (omega (arith, h)))
  primary_step-same (token.Marked place ∷ ts) h = refl
  primary_step-same (token.Text t ∷ ts) h = refl
  primary_step-same (token.Sign x ∷ ts) h = signed_primary-same x ts (omega (arith, h))

  further_arguments-same : (first : Arguments → Arguments) (x : Option (List Token)) (mid : List Token) → Below n x
      → further_arguments r first x mid ≡ further_arguments q first x mid
  further_arguments-same first None mid h = refl
  further_arguments-same first (Some ts) mid h = ap (λ (z : Parsed Arguments). z >>= λ all rest. Some (first all, rest)) (a.arguments ts h)

-- a tree of the same tokens, and behind it one thing
first-same : {B : Type 0} (r q : Readers) (l : Level) (ts : List Token) (next other : Tree → List Token → Parsed B) → Leaving q
    → r.of_level l ts ≡ q.of_level l ts → ((t : Tree) (rest : List Token) → length rest < length ts → next t rest ≡ other t rest)
    → (r.of_level l ts >>= next) ≡ (q.of_level l ts >>= other)
first-same r q l ts next other leaving same go =
    bind-same (λ _ rest. length rest < length ts) (r.of_level l ts) (q.of_level l ts) next other same (leaving.of_level l ts) go

level_step-same : (k : ℕ) (r q : Readers) → Agree k r q → Leaving q → (l : Level) (ts : List Token) → level_steps l ts ≤ suc k
    → level_step r l ts ≡ level_step q l ts
level_step-same k r q a leaving expression ts h =
    let below : AgreeBelow (length ts) r q = agree-below k (length ts) r q a (omega (arith, h)) in
    first-same r q comparison ts _ _ leaving (a.of_level comparison ts (omega (arith, h)))
    (λ c rest lt. arms-same (length ts) r q below leaving c (behind_sign sign.Question rest) rest (sign-below (length ts) sign.Question rest (omega (arith, lt))))
level_step-same k r q a leaving comparison ts h =
    let below : AgreeBelow (length ts) r q = agree-below k (length ts) r q a (omega (arith, h)) in
    first-same r q sum ts _ _ leaving (a.of_level sum ts (omega (arith, h)))
    (λ c rest lt. sides-same (length ts) r q below leaving c (comparison_in_front rest) rest (comparison-below (length ts) rest (omega (arith, lt))))
level_step-same k r q a leaving sum ts h =
    let below : AgreeBelow (length ts) r q = agree-below k (length ts) r q a (omega (arith, h)) in
    first-same r q term ts _ _ leaving (a.of_level term ts (omega (arith, h))) (λ c rest lt. below.operands sum c rest lt)
level_step-same k r q a leaving term ts h =
    let below : AgreeBelow (length ts) r q = agree-below k (length ts) r q a (omega (arith, h)) in
    first-same r q unary ts _ _ leaving (a.of_level unary ts (omega (arith, h))) (λ c rest lt. below.operands term c rest lt)
level_step-same k r q a leaving unary ts h =
    let below : AgreeBelow (length ts) r q = agree-below k (length ts) r q a (omega (arith, h)) in
    unary_step-same (length ts) r q below leaving (behind_sign sign.Minus ts) ts (sign-below (length ts) sign.Minus ts (omega arith))
    (a.of_level powers ts (omega (arith, h)))
level_step-same k r q a leaving powers ts h =
    let below : AgreeBelow (length ts) r q = agree-below k (length ts) r q a (omega (arith, h)) in
    first-same r q primary ts _ _ leaving (a.of_level primary ts (omega (arith, h))) (λ c rest lt. below.exponents c rest lt)
level_step-same k r q a leaving primary ts h =
    primary_step-same (length ts) r q (agree-below k (length ts) r q a (omega (arith, h))) leaving ts (omega arith)

arguments_step-same : (k : ℕ) (r q : Readers) → Agree k r q → Leaving q → (ts : List Token) → argument_steps ts ≤ suc k → (x : Parsed Block)
    → LeavesBelow (length ts) x → arguments_step r x ts ≡ arguments_step q x ts
arguments_step-same k r q a leaving ts h None hx =
    let below : AgreeBelow (length ts) r q = agree-below k (length ts) r q a (omega (arith, h)) in
    first-same r q expression ts _ _ leaving (a.of_level expression ts (omega (arith, h)))
    (λ t rest lt. further_arguments-same (length ts) r q below leaving (tree t) (behind_separator rest) rest (separator-below (length ts) rest (omega (arith, lt))))
arguments_step-same k r q a leaving ts h (Some x) hx =
    let below : AgreeBelow (length ts) r q = agree-below k (length ts) r q a (omega (arith, h)) in
    further_arguments-same (length ts) r q below leaving (cells x.0) (behind_separator x.1) x.1 (separator-below (length ts) x.1 (omega (arith, hx)))

area-below : (ts : List Token) → LeavesBelow (length ts) (area_in_front ts)
area-below ts =
    weaker-parsed (BeginsWithArea ts) (λ _ rest. length rest < length ts) (area_in_front ts) (λ _ rest d. omega (arith, ap length d.split)) (area_in_front-rest ts)

next_readers-agree : (k : ℕ) (r q : Readers) → Agree k r q → Leaving q → Agree (suc k) (next_readers r) (next_readers q)
next_readers-agree k r q a leaving = record {
  of_level = level_step-same k r q a leaving;
  operands = λ l left ts h. operands_step-same (length ts) r q (agree-below k (length ts) r q a (omega (arith, h))) leaving l left (operation_in_front l ts) ts
      (operation-below (length ts) l ts (omega arith));
  exponents = λ base ts h. exponents_step-same (length ts) r q (agree-below k (length ts) r q a (omega (arith, h))) leaving base (behind_sign sign.Caret ts) ts
      (sign-below (length ts) sign.Caret ts (omega arith));
  arguments = λ ts h. arguments_step-same k r q a leaving ts h (area_in_front ts) (area-below ts);
}

readers-leaving : (n : ℕ) → Leaving (readers n)
readers-leaving n = sound-leaving (readers n) (readers-sound n)

height-positive : (l : Level) → 1 ≤ height l
height-positive expression = omega arith
height-positive comparison = omega arith
height-positive sum = omega arith
height-positive term = omega arith
height-positive unary = omega arith
height-positive powers = omega arith
height-positive primary = omega arith

-- more steps than enough change nothing
readers-agree : (k n m : ℕ) → k ≤ n → k ≤ m → Agree k (readers n) (readers m)
unfolding readers
readers-agree zero n m hn hm = record {
  of_level = λ l ts h. absurd (omega (arith, h, height-positive l));
  operands = λ l left ts h. absurd (omega (arith, h));
  exponents = λ base ts h. absurd (omega (arith, h));
  arguments = λ ts h. absurd (omega (arith, h));
}
readers-agree (suc k) zero m hn hm = absurd (omega (arith, hn))
readers-agree (suc k) (suc n) zero hn hm = absurd (omega (arith, hm))
readers-agree (suc k) (suc n) (suc m) hn hm =
    next_readers-agree k (readers n) (readers m) (readers-agree k n m (omega (arith, hn)) (omega (arith, hm))) (readers-leaving m)

-- so many steps read what the descent as a whole reads
readers-whole : (n : ℕ) → Agree n (readers n) whole_readers
unfolding parsed parsed_operands parsed_exponents parsed_arguments
readers-whole n = record {
  of_level = λ l ts h. (readers-agree (level_steps l ts) n (level_steps l ts) h (omega arith)).of_level l ts (omega arith);
  operands = λ l left ts h. (readers-agree (further_steps ts) n (further_steps ts) h (omega arith)).operands l left ts (omega arith);
  exponents = λ base ts h. (readers-agree (further_steps ts) n (further_steps ts) h (omega arith)).exponents base ts (omega arith);
  arguments = λ ts h. (readers-agree (argument_steps ts) n (argument_steps ts) h (omega arith)).arguments ts (omega arith);
}

pub whole-leaving : Leaving whole_readers
unfolding parsed parsed_operands parsed_exponents parsed_arguments
whole-leaving = record {
  of_level = λ l ts. (readers-leaving (level_steps l ts)).of_level l ts;
  operands = λ l left ts. (readers-leaving (further_steps ts)).operands l left ts;
  exponents = λ base ts. (readers-leaving (further_steps ts)).exponents base ts;
  arguments = λ ts. (readers-leaving (argument_steps ts)).arguments ts;
}

-- one step more of so many readers is a step of the whole
next-whole : (n : ℕ) → Agree (suc n) (readers (suc n)) (next_readers whole_readers)
unfolding readers
next-whole n = next_readers-agree n (readers n) whole_readers (readers-whole n) whole-leaving

-- the descent is a step over itself

pub parsed-is : (l : Level) (ts : List Token) → parsed l ts ≡ level_step whole_readers l ts
unfolding parsed
parsed-is l ts =
    let n : ℕ = 9 * length ts + (height l - 1) in
    let steps : level_steps l ts ≡ suc n = omega (arith, height-positive l) in
    ap (λ (k : ℕ). (readers k).of_level l ts) steps ∙ (next-whole n).of_level l ts (omega (arith, steps))

pub operands-is : (l : Level) (left : Tree) (ts : List Token) → parsed_operands l left ts ≡ operands_step whole_readers l left (operation_in_front l ts) ts
unfolding parsed_operands
operands-is l left ts =
    let steps : further_steps ts ≡ suc (9 * length ts) = omega arith in
    ap (λ (k : ℕ). (readers k).operands l left ts) steps ∙ (next-whole (9 * length ts)).operands l left ts (omega arith)

pub exponents-is : (base : Tree) (ts : List Token) → parsed_exponents base ts ≡ exponents_step whole_readers base (behind_sign sign.Caret ts) ts
unfolding parsed_exponents
exponents-is base ts =
    let steps : further_steps ts ≡ suc (9 * length ts) = omega arith in
    ap (λ (k : ℕ). (readers k).exponents base ts) steps ∙ (next-whole (9 * length ts)).exponents base ts (omega arith)

pub arguments-is : (ts : List Token) → parsed_arguments ts ≡ arguments_step whole_readers (area_in_front ts) ts
unfolding parsed_arguments
arguments-is ts =
    let n : ℕ = 9 * length ts + 7 in
    let steps : argument_steps ts ≡ suc n = omega arith in
    ap (λ (k : ℕ). (readers k).arguments ts) steps ∙ (next-whole n).arguments ts (omega arith)
