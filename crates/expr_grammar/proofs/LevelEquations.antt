-- The equations of the descent, level by level.
use Rattle.std.proofs.Common.{◌≡◌, ℤ, List, Option, None, Some, refl}
use Rattle.expr_tokens.specs.declared.sign.Sign.TheVariants as sign
use Rattle.expr_tokens.specs.declared.token.Token.{Token}
use Rattle.expr_grammar.specs.Descent.{Parsed, ◌>>=◌, exponent_in_front, parsed, parsed_operands, parsed_exponents, parsed_arguments, operands_step, exponents_step, arguments_step, whole_readers, other_arm, arms, sides, unary_step, primary_step, operation_in_front, comparison_in_front, behind_sign, area_in_front}
use Rattle.expr_grammar.specs.Grammar.{Level, expression, comparison, sum, term, unary, powers, primary}
use Rattle.expr_grammar.specs.Reading.{arm_behind, with_other_arm, arms_in_front, raised_in_front}
use Rattle.expr_tree.specs.Tree.{Tree, power, conditional}
use Rattle.expr_grammar.proofs.DescentEquations.{parsed-is, operands-is, exponents-is, arguments-is}

pub expression_is : (ts : List Token) → parsed expression ts ≡ (parsed comparison ts >>= λ c rest. arms whole_readers c (behind_sign sign.Question rest) rest)
expression_is ts = parsed-is expression ts

-- both arms are read, and then the condition is put in front of them
abbrev pub with_condition : Tree → Parsed (Tree × Tree) → Parsed Tree
with_condition c both = both >>= λ arms rest. Some (conditional c arms.0 arms.1, rest)

second-arm : (c a : Tree) (b : Parsed Tree) → (b >>= λ b rest. Some (conditional c a b, rest)) ≡ with_condition c (with_other_arm a b)
second-arm c a None = refl
second-arm c a (Some x) = refl

behind-colon : (c a : Tree) (behind : Option (List Token)) → other_arm whole_readers c a behind ≡ with_condition c (with_other_arm a (arm_behind behind))
behind-colon c a None = refl
behind-colon c a (Some ts) = second-arm c a (parsed expression ts)

first-arm : (c : Tree) (a : Parsed Tree) → (a >>= λ a rest. other_arm whole_readers c a (behind_sign sign.Colon rest))
    ≡ with_condition c (a >>= λ a rest. with_other_arm a (arm_behind (behind_sign sign.Colon rest)))
first-arm c None = refl
first-arm c (Some x) = behind-colon c x.0 (behind_sign sign.Colon x.1)

pub arms_are : (c : Tree) (ts rest : List Token) → arms whole_readers c (Some ts) rest ≡ with_condition c (arms_in_front ts)
arms_are c ts rest = first-arm c (parsed expression ts)

pub comparison_is : (ts : List Token) → parsed comparison ts ≡ (parsed sum ts >>= λ a rest. sides whole_readers a (comparison_in_front rest) rest)
comparison_is ts = parsed-is comparison ts

pub sum_is : (ts : List Token) → parsed sum ts ≡ (parsed term ts >>= λ a rest. parsed_operands sum a rest)
sum_is ts = parsed-is sum ts

pub term_is : (ts : List Token) → parsed term ts ≡ (parsed unary ts >>= λ a rest. parsed_operands term a rest)
term_is ts = parsed-is term ts

pub unary_is : (ts : List Token) → parsed unary ts ≡ unary_step whole_readers (behind_sign sign.Minus ts) ts
unary_is ts = parsed-is unary ts

pub powers_is : (ts : List Token) → parsed powers ts ≡ (parsed primary ts >>= λ a rest. parsed_exponents a rest)
powers_is ts = parsed-is powers ts

pub primary_is : (ts : List Token) → parsed primary ts ≡ primary_step whole_readers ts
primary_is ts = parsed-is primary ts

pub operands_is : (l : Level) (left : Tree) (ts : List Token) → parsed_operands l left ts ≡ operands_step whole_readers l left (operation_in_front l ts) ts
operands_is = operands-is

pub exponents_is : (base : Tree) (ts : List Token) → parsed_exponents base ts ≡ exponents_step whole_readers base (behind_sign sign.Caret ts) ts
exponents_is = exponents-is

-- a base is raised, and then the power is one
one-power : (base : Tree) (n : Parsed ℤ) → (n >>= λ n rest. parsed_exponents (power base n) rest) ≡ ((n >>= λ n rest. Some (power base n, rest)) >>= λ t rest. parsed_exponents t rest)
one-power base None = refl
one-power base (Some x) = refl

pub exponents_are : (base : Tree) (ts rest : List Token) → exponents_step whole_readers base (Some ts) rest ≡ (raised_in_front base ts >>= λ t rest. parsed_exponents t rest)
exponents_are base ts rest = one-power base (exponent_in_front ts)

pub arguments_is : (ts : List Token) → parsed_arguments ts ≡ arguments_step whole_readers (area_in_front ts) ts
arguments_is = arguments-is
