-- A step of the descent over sound readers is sound.
use Rattle.std.proofs.Common.{◌≡◌, ℕ, zero, suc, List, [], ◌∷◌, ◌++◌, Option, None, Some, refl, sym, ◌∙◌, ap, subst, append_assoc}
use Rattle.std.specs.Prelude.{◌&&◌, nat_le}
use Rattle.std.proofs.lemmas.Bool.{and_parts, leb-true}
use Rattle.std.proofs.lemmas.List.{append-nil}
use Rattle.fc_base.specs.Places.{Place, Block, IsBlock, address_of}
use Rattle.expr_tree.specs.declared.operators.BinaryOp as b
use Rattle.expr_tree.specs.declared.operators.CompareOp as o
use Rattle.expr_tokens.specs.declared.sign.Sign as s
use Rattle.expr_tokens.specs.declared.sign.Sign.TheVariants as sign
use Rattle.expr_tokens.specs.declared.token.Token.{Token}
use Rattle.expr_tokens.specs.declared.token.Token.TheVariants as token
use Rattle.expr_grammar.specs.Descent.{Parsed, Readers, behind_sign, sign_in_front, exponent_in_front, behind_separator, primary_step, unary_step, compare_of, sum_of, product_of, operation_of, with_tokens, operation_in_front, comparison_in_front, operands_step, exponents_step, sides, other_arm, arms, level_step, corner_of, argument_ends, is_block, area_of, second_corner, area_in_front, further_arguments, arguments_behind, arguments_step, next_readers, readers}
use Rattle.expr_grammar.specs.Grammar.{Level, expression, comparison, sum, term, unary, powers, primary, binary_sign, compare_sign, binary_level, right_level, IsCorner, IsSeparator, HoldsExponent, HasTree, a_comparison, a_sum, a_term, a_unary, a_power, a_primary, a_conditional, a_compare, a_binary, a_negate, a_raised, HasArguments, one_tree, more_trees, one_area, more_areas}
use Rattle.expr_grammar.specs.Grammar.IsCorner.{named, marked}
use Rattle.expr_tree.specs.Tree.{Tree, negate, binary, power, compare, conditional, Arguments, no_more, tree, cells}
use Rattle.expr_grammar.proofs.FrontLemmas.{AllParsed, AllRests, bind-all, behind, joined, behind_sign-rest, sign_in_front-rest, BeginsWithExponent, exponent_in_front-rest}
use Rattle.expr_grammar.proofs.PathFrontLemmas.{AllSome, on_cond}
use Rattle.expr_grammar.proofs.DescentSound.{ReadsTree, ReadsBase, GoesOn, RaisesBase, ReadsArguments, Sound, weaker, Separated, behind_separator-rest, primary_step-sound}

-- signs of operations

sum_of-is : (x : s.Sign) → AllSome (λ op. (x ≡ binary_sign op) × (binary_level op ≡ sum)) (sum_of x)
sum_of-is sign.Plus = (refl, refl)
sum_of-is sign.Minus = (refl, refl)
sum_of-is _ = tt

product_of-is : (x : s.Sign) → AllSome (λ op. (x ≡ binary_sign op) × (binary_level op ≡ term)) (product_of x)
product_of-is sign.Asterisk = (refl, refl)
product_of-is sign.Slash = (refl, refl)
product_of-is sign.Percent = (refl, refl)
product_of-is _ = tt

operation_of-is : (l : Level) (x : s.Sign) → AllSome (λ op. (x ≡ binary_sign op) × (binary_level op ≡ l)) (operation_of l x)
operation_of-is sum x = sum_of-is x
operation_of-is term x = product_of-is x
operation_of-is expression x = tt
operation_of-is comparison x = tt
operation_of-is unary x = tt
operation_of-is powers x = tt
operation_of-is primary x = tt

compare_of-is : (x : s.Sign) → AllSome (λ op. x ≡ compare_sign op) (compare_of x)
compare_of-is sign.Equal = refl
compare_of-is sign.NotEqual = refl
compare_of-is sign.Less = refl
compare_of-is sign.LessOrEqual = refl
compare_of-is sign.Greater = refl
compare_of-is sign.GreaterOrEqual = refl
compare_of-is _ = tt

-- the tokens begin with the sign of an operation of the level
pub record BeginsWithOperation (l : Level) (ts : List Token) (op : b.BinaryOp) (rest : List Token) : Type 0 where
  pub split : ts ≡ token.Sign (binary_sign op) ∷ rest
  pub level : binary_level op ≡ l

meant_operation : (l : Level) (ts rest : List Token) (x : s.Sign) → ts ≡ token.Sign x ∷ rest → (r : Option b.BinaryOp)
    → AllSome (λ op. (x ≡ binary_sign op) × (binary_level op ≡ l)) r
    → AllParsed (BeginsWithOperation l ts) (with_tokens (λ _. r) (Some (x, rest)))
meant_operation l ts rest x e None h = tt
meant_operation l ts rest x e (Some op) h = record { split = e ∙ ap (λ (z : s.Sign). token.Sign z ∷ rest) h.0; level = h.1 }

operation_in_front-by : (l : Level) (ts : List Token) (x : Option (s.Sign × List Token)) → AllParsed (λ y rest. ts ≡ token.Sign y ∷ rest) x
    → AllParsed (BeginsWithOperation l ts) (with_tokens (operation_of l) x)
operation_in_front-by l ts None h = tt
operation_in_front-by l ts (Some x) h = meant_operation l ts x.1 x.0 h (operation_of l x.0) (operation_of-is l x.0)

pub operation_in_front-rest : (l : Level) (ts : List Token) → AllParsed (BeginsWithOperation l ts) (operation_in_front l ts)
operation_in_front-rest l ts = operation_in_front-by l ts (sign_in_front ts) (sign_in_front-rest ts)

meant_comparison : (ts rest : List Token) (x : s.Sign) → ts ≡ token.Sign x ∷ rest → (r : Option o.CompareOp) → AllSome (λ op. x ≡ compare_sign op) r
    → AllParsed (λ op after. ts ≡ token.Sign (compare_sign op) ∷ after) (with_tokens (λ _. r) (Some (x, rest)))
meant_comparison ts rest x e None h = tt
meant_comparison ts rest x e (Some op) h = e ∙ ap (λ (z : s.Sign). token.Sign z ∷ rest) h

comparison_in_front-by : (ts : List Token) (x : Option (s.Sign × List Token)) → AllParsed (λ y rest. ts ≡ token.Sign y ∷ rest) x
    → AllParsed (λ op rest. ts ≡ token.Sign (compare_sign op) ∷ rest) (with_tokens compare_of x)
comparison_in_front-by ts None h = tt
comparison_in_front-by ts (Some x) h = meant_comparison ts x.1 x.0 h (compare_of x.0) (compare_of-is x.0)

pub comparison_in_front-rest : (ts : List Token) → AllParsed (λ op rest. ts ≡ token.Sign (compare_sign op) ∷ rest) (comparison_in_front ts)
comparison_in_front-rest ts = comparison_in_front-by ts (sign_in_front ts) (sign_in_front-rest ts)

-- conditionals and comparisons

other_arm-sound : (r : Readers) → Sound r → (whole front mid xs rest : List Token) (c a : Tree) → whole ≡ front ++ mid → HasTree comparison front c
    → mid ≡ (token.Sign sign.Question ∷ xs) ++ rest → HasTree expression xs a
    → (x : Option (List Token)) → AllRests (λ after. rest ≡ token.Sign sign.Colon ∷ after) x → AllParsed (ReadsTree expression whole) (other_arm r c a x)
other_arm-sound r so whole front mid xs rest c a e hc d ha None h = tt
other_arm-sound r so whole front mid xs rest c a e hc d ha (Some ts) h =
    bind-all (ReadsTree expression ts) (ReadsTree expression whole) (r.of_level expression ts) (λ v after. Some (conditional c a v, after)) (so.of_level expression ts)
    (λ v after rv. record {
      used = front ++ token.Sign sign.Question ∷ (xs ++ token.Sign sign.Colon ∷ rv.used);
      split = joined whole front mid (token.Sign sign.Question ∷ (xs ++ token.Sign sign.Colon ∷ rv.used)) after e
          (joined mid (token.Sign sign.Question ∷ xs) rest (token.Sign sign.Colon ∷ rv.used) after d
          (behind (token.Sign sign.Colon) rest ts rv.used after h rv.split));
      tree = a_conditional hc ha rv.tree;
    })

arms-sound : (r : Readers) → Sound r → (whole front mid : List Token) (c : Tree) → whole ≡ front ++ mid → HasTree comparison front c
    → (x : Option (List Token)) → AllRests (λ rest. mid ≡ token.Sign sign.Question ∷ rest) x → AllParsed (ReadsTree expression whole) (arms r c x mid)
arms-sound r so whole front mid c e hc None h = record { used = front; split = e; tree = a_comparison hc }
arms-sound r so whole front mid c e hc (Some ts) h =
    bind-all (ReadsTree expression ts) (ReadsTree expression whole) (r.of_level expression ts) (λ a rest. other_arm r c a (behind_sign sign.Colon rest))
    (so.of_level expression ts)
    (λ a rest ra. other_arm-sound r so whole front mid ra.used rest c a e hc (behind (token.Sign sign.Question) mid ts ra.used rest h ra.split) ra.tree
    (behind_sign sign.Colon rest) (behind_sign-rest sign.Colon rest))

sides-sound : (r : Readers) → Sound r → (whole front mid : List Token) (a : Tree) → whole ≡ front ++ mid → HasTree sum front a
    → (x : Option (o.CompareOp × List Token)) → AllParsed (λ op rest. mid ≡ token.Sign (compare_sign op) ∷ rest) x
    → AllParsed (ReadsTree comparison whole) (sides r a x mid)
sides-sound r so whole front mid a e ha None h = record { used = front; split = e; tree = a_sum ha }
sides-sound r so whole front mid a e ha (Some x) h =
    bind-all (ReadsTree sum x.1) (ReadsTree comparison whole) (r.of_level sum x.1) (λ v rest. Some (compare x.0 a v, rest)) (so.of_level sum x.1)
    (λ v rest rv. record {
      used = front ++ token.Sign (compare_sign x.0) ∷ rv.used;
      split = joined whole front mid (token.Sign (compare_sign x.0) ∷ rv.used) rest e (behind (token.Sign (compare_sign x.0)) mid x.1 rv.used rest h rv.split);
      tree = a_compare x.0 ha rv.tree;
    })

-- operands and exponents

operands_step-sound : (r : Readers) → Sound r → (l : Level) (left : Tree) (ts : List Token) (x : Option (b.BinaryOp × List Token))
    → AllParsed (BeginsWithOperation l ts) x → AllParsed (GoesOn l left ts) (operands_step r l left x ts)
operands_step-sound r so l left ts None h = record {
  used = [];
  split = refl;
  tree = λ front has. subst (λ (z : List Token). HasTree l z left) (sym (append-nil front)) has;
}
operands_step-sound r so l left ts (Some x) h =
    let S : Token = token.Sign (binary_sign x.0) in
    bind-all (ReadsTree (right_level x.0) x.1) (GoesOn l left ts) (r.of_level (right_level x.0) x.1) (λ v rest. r.operands l (binary x.0 left v) rest)
    (so.of_level (right_level x.0) x.1)
    (λ v rest rv. weaker (GoesOn l (binary x.0 left v) rest) (GoesOn l left ts) (r.operands l (binary x.0 left v) rest)
    (λ t after d. record {
      used = S ∷ (rv.used ++ d.used);
      split = behind S ts x.1 (rv.used ++ d.used) after h.split (joined x.1 rv.used rest d.used after rv.split d.split);
      tree = λ front has. subst (λ (z : List Token). HasTree l z t) (append_assoc front (S ∷ rv.used) d.used)
          (d.tree (front ++ S ∷ rv.used)
          (subst (λ (m : Level). HasTree m (front ++ S ∷ rv.used) (binary x.0 left v)) h.level
          (a_binary x.0 (subst (λ (m : Level). HasTree m front left) (sym h.level) has) rv.tree)));
    })
    (so.operands l (binary x.0 left v) rest))

raised-not_held : (front ns : List Token) → HoldsExponent (front ++ token.Sign sign.Caret ∷ ns) → ⊥
raised-not_held [] ns h = h
raised-not_held (token.Numeral amount number ∷ []) ns h = h
raised-not_held (token.Numeral amount number ∷ token.Unit name ∷ []) ns h = h
raised-not_held (token.Numeral amount number ∷ token.Unit name ∷ y ∷ ys) ns h = h
raised-not_held (token.Numeral amount number ∷ token.Numeral a n ∷ ys) ns h = h
raised-not_held (token.Numeral amount number ∷ token.Flag v ∷ ys) ns h = h
raised-not_held (token.Numeral amount number ∷ token.Name v ∷ ys) ns h = h
raised-not_held (token.Numeral amount number ∷ token.Function v ∷ ys) ns h = h
raised-not_held (token.Numeral amount number ∷ token.Marked v ∷ ys) ns h = h
raised-not_held (token.Numeral amount number ∷ token.Text v ∷ ys) ns h = h
raised-not_held (token.Numeral amount number ∷ token.Sign v ∷ ys) ns h = h
raised-not_held (token.Unit name ∷ ys) ns h = h
raised-not_held (token.Flag v ∷ ys) ns h = h
raised-not_held (token.Name v ∷ ys) ns h = h
raised-not_held (token.Function v ∷ ys) ns h = h
raised-not_held (token.Marked v ∷ ys) ns h = h
raised-not_held (token.Text v ∷ ys) ns h = h
raised-not_held (token.Sign v ∷ ys) ns h = h

exponents_step-sound : (r : Readers) → Sound r → (base : Tree) (ts : List Token) (x : Option (List Token)) → behind_sign sign.Caret ts ≡ x
    → AllRests (λ rest. ts ≡ token.Sign sign.Caret ∷ rest) x → AllParsed (RaisesBase base ts) (exponents_step r base x ts)
exponents_step-sound r so base ts None e h = record {
  used = [];
  split = refl;
  tree = λ front has held. subst (λ (z : List Token). HasTree powers z base) (sym (append-nil front)) has;
}
exponents_step-sound r so base ts (Some mid) e h =
    let S : Token = token.Sign sign.Caret in
    bind-all (BeginsWithExponent mid) (RaisesBase base ts) (exponent_in_front mid) (λ n rest. r.exponents (power base n) rest) (exponent_in_front-rest mid)
    (λ n rest rn. weaker (RaisesBase (power base n) rest) (RaisesBase base ts) (r.exponents (power base n) rest)
    (λ t after d. record {
      used = S ∷ (rn.used ++ d.used);
      split = behind S ts mid (rn.used ++ d.used) after h (joined mid rn.used rest d.used after rn.split d.split);
      tree = λ front has held. subst (λ (z : List Token). HasTree powers z t) (append_assoc front (S ∷ rn.used) d.used)
          (d.tree (front ++ S ∷ rn.used) (a_raised has (λ i. absurd (let k : None ≡ Some mid = sym (held i) ∙ e in cc)) rn.exponent)
          (λ i. absurd (raised-not_held front rn.used i)));
    })
    (so.exponents (power base n) rest))

unary_step-sound : (r : Readers) → Sound r → (ts : List Token) (x : Option (List Token)) → AllRests (λ rest. ts ≡ token.Sign sign.Minus ∷ rest) x
    → AllParsed (ReadsTree unary ts) (unary_step r x ts)
unary_step-sound r so ts None h =
    weaker (ReadsTree powers ts) (ReadsTree unary ts) (r.of_level powers ts) (λ t rest d. record { used = d.used; split = d.split; tree = a_power d.tree })
    (so.of_level powers ts)
unary_step-sound r so ts (Some mid) h =
    bind-all (ReadsTree unary mid) (ReadsTree unary ts) (r.of_level unary mid) (λ a rest. Some (negate a, rest)) (so.of_level unary mid)
    (λ a rest d. record {
      used = token.Sign sign.Minus ∷ d.used;
      split = behind (token.Sign sign.Minus) ts mid d.used rest h d.split;
      tree = a_negate d.tree;
    })

-- levels

behind_operand : (r : Readers) → Sound r → (l : Level) (ts used rest : List Token) (a : Tree) → ts ≡ used ++ rest → HasTree l used a
    → AllParsed (ReadsTree l ts) (r.operands l a rest)
behind_operand r so l ts used rest a e has =
    weaker (GoesOn l a rest) (ReadsTree l ts) (r.operands l a rest)
    (λ t after d. record { used = used ++ d.used; split = joined ts used rest d.used after e d.split; tree = d.tree used has }) (so.operands l a rest)

base-of_level : (ts : List Token) (x : Parsed Tree) → AllParsed (ReadsBase ts) x → AllParsed (ReadsTree primary ts) x
base-of_level ts x = weaker (ReadsBase ts) (ReadsTree primary ts) x (λ t rest d. record { used = d.used; split = d.split; tree = d.tree })

level_step-sound : (r : Readers) → Sound r → (l : Level) (ts : List Token) → AllParsed (ReadsTree l ts) (level_step r l ts)
level_step-sound r so expression ts =
    bind-all (ReadsTree comparison ts) (ReadsTree expression ts) (r.of_level comparison ts) (λ c rest. arms r c (behind_sign sign.Question rest) rest)
    (so.of_level comparison ts)
    (λ c rest d. arms-sound r so ts d.used rest c d.split d.tree (behind_sign sign.Question rest) (behind_sign-rest sign.Question rest))
level_step-sound r so comparison ts =
    bind-all (ReadsTree sum ts) (ReadsTree comparison ts) (r.of_level sum ts) (λ a rest. sides r a (comparison_in_front rest) rest)
    (so.of_level sum ts)
    (λ a rest d. sides-sound r so ts d.used rest a d.split d.tree (comparison_in_front rest) (comparison_in_front-rest rest))
level_step-sound r so sum ts =
    bind-all (ReadsTree term ts) (ReadsTree sum ts) (r.of_level term ts) (λ a rest. r.operands sum a rest) (so.of_level term ts)
    (λ a rest d. behind_operand r so sum ts d.used rest a d.split (a_term d.tree))
level_step-sound r so term ts =
    bind-all (ReadsTree unary ts) (ReadsTree term ts) (r.of_level unary ts) (λ a rest. r.operands term a rest) (so.of_level unary ts)
    (λ a rest d. behind_operand r so term ts d.used rest a d.split (a_unary d.tree))
level_step-sound r so unary ts = unary_step-sound r so ts (behind_sign sign.Minus ts) (behind_sign-rest sign.Minus ts)
level_step-sound r so powers ts =
    bind-all (ReadsBase ts) (ReadsTree powers ts) (r.of_level primary ts) (λ a rest. r.exponents a rest) (so.base ts)
    (λ a rest d. weaker (RaisesBase a rest) (ReadsTree powers ts) (r.exponents a rest)
    (λ t after g. record {
      used = d.used ++ g.used;
      split = joined ts d.used rest g.used after d.split g.split;
      tree = g.tree d.used (a_primary d.tree) d.held;
    })
    (so.exponents a rest))
level_step-sound r so primary ts = base-of_level ts (primary_step r ts) (primary_step-sound r so ts)

-- arguments

-- an area in front
pub record BeginsWithArea (ts : List Token) (area : Block) (rest : List Token) : Type 0 where
  pub first : Token
  pub last : Token
  pub split : ts ≡ first ∷ token.Sign sign.Colon ∷ last ∷ rest
  pub from : IsCorner first area.from
  pub to : IsCorner last area.to
  pub block : IsBlock area

named_corner : (name : List ℕ) (x : Option Place) → address_of name ≡ x → AllSome (IsCorner (token.Name name)) x
named_corner name None e = tt
named_corner name (Some place) e = named name place e

corner_of-is : (x : Token) → AllSome (IsCorner x) (corner_of x)
corner_of-is (token.Name name) = named_corner name (address_of name) refl
corner_of-is (token.Marked place) = marked place
corner_of-is (token.Sign x) = tt
corner_of-is (token.Numeral amount number) = tt
corner_of-is (token.Unit name) = tt
corner_of-is (token.Flag v) = tt
corner_of-is (token.Function name) = tt
corner_of-is (token.Text t) = tt

area_of-rest : (ts rest : List Token) (x y : Token) → ts ≡ x ∷ token.Sign sign.Colon ∷ y ∷ rest → (p q : Option Place)
    → AllSome (IsCorner x) p → AllSome (IsCorner y) q → AllParsed (BeginsWithArea ts) (area_of p q rest)
area_of-rest ts rest x y e None q hp hq = tt
area_of-rest ts rest x y e (Some p) None hp hq = tt
area_of-rest ts rest x y e (Some p) (Some q) hp hq =
    on_cond (AllParsed (BeginsWithArea ts)) (is_block p q && argument_ends (sign_in_front rest)) (Some (record { from = p; to = q }, rest)) None
    (λ h. let parts = and_parts (is_block p q) (argument_ends (sign_in_front rest)) h in
    let corners = and_parts (nat_le p.column q.column) (nat_le p.row q.row) parts.0 in
    record {
      first = x;
      last = y;
      split = e;
      from = hp;
      to = hq;
      block = record { columns = leb-true p.column q.column corners.0; rows = leb-true p.row q.row corners.1 };
    })
    (λ _. tt)

second_corner-rest : (ts after : List Token) (x : Token) → ts ≡ x ∷ after → (r : Option (List Token)) → AllRests (λ rest. after ≡ token.Sign sign.Colon ∷ rest) r
    → AllParsed (BeginsWithArea ts) (second_corner (corner_of x) r)
second_corner-rest ts after x e None h = tt
second_corner-rest ts after x e (Some []) h = tt
second_corner-rest ts after x e (Some (y ∷ rest)) h =
    area_of-rest ts rest x y (e ∙ ap (λ (z : List Token). x ∷ z) h) (corner_of x) (corner_of y) (corner_of-is x) (corner_of-is y)

pub area_in_front-rest : (ts : List Token) → AllParsed (BeginsWithArea ts) (area_in_front ts)
area_in_front-rest [] = tt
area_in_front-rest (x ∷ ts) = second_corner-rest (x ∷ ts) ts x refl (behind_sign sign.Colon ts) (behind_sign-rest sign.Colon ts)

-- an argument in front, and whatever further ones follow
pub record FirstArgument (front : List Token) (first : Arguments → Arguments) : Type 0 where
  pub one : HasArguments front (first no_more)
  pub more : (x : s.Sign) → IsSeparator x → (us : List Token) (all : Arguments) → HasArguments us all → HasArguments (front ++ token.Sign x ∷ us) (first all)

further_arguments-sound : (r : Readers) → Sound r → (whole front mid : List Token) (first : Arguments → Arguments) → whole ≡ front ++ mid → FirstArgument front first
    → (x : Option (List Token)) → AllRests (Separated mid) x → AllParsed (ReadsArguments whole) (further_arguments r first x mid)
further_arguments-sound r so whole front mid first e f None h = record { used = front; split = e; arguments = f.one }
further_arguments-sound r so whole front mid first e f (Some ts) h =
    bind-all (ReadsArguments ts) (ReadsArguments whole) (r.arguments ts) (λ all rest. Some (first all, rest)) (so.arguments ts)
    (λ all rest d. record {
      used = front ++ token.Sign h.sign ∷ d.used;
      split = joined whole front mid (token.Sign h.sign ∷ d.used) rest e (behind (token.Sign h.sign) mid ts d.used rest h.split d.split);
      arguments = f.more h.sign h.separator d.used all d.arguments;
    })

arguments_step-sound : (r : Readers) → Sound r → (ts : List Token) (x : Parsed Block) → AllParsed (BeginsWithArea ts) x
    → AllParsed (ReadsArguments ts) (arguments_step r x ts)
arguments_step-sound r so ts None h =
    bind-all (ReadsTree expression ts) (ReadsArguments ts) (r.of_level expression ts) (λ t rest. arguments_behind r (tree t) rest) (so.of_level expression ts)
    (λ t rest d. further_arguments-sound r so ts d.used rest (tree t) d.split
    (record { one = one_tree d.tree; more = λ x sep us all ha. more_trees x sep d.tree ha }) (behind_separator rest) (behind_separator-rest rest))
arguments_step-sound r so ts (Some x) h =
    further_arguments-sound r so ts (h.first ∷ token.Sign sign.Colon ∷ h.last ∷ []) x.1 (cells x.0) h.split
    (record {
      one = one_area x.0 h.from h.to h.block;
      more = λ y sep us all ha. more_areas y sep x.0 h.from h.to h.block ha;
    })
    (behind_separator x.1) (behind_separator-rest x.1)

-- all readers

next_readers-sound : (r : Readers) → Sound r → Sound (next_readers r)
next_readers-sound r so = record {
  of_level = level_step-sound r so;
  base = primary_step-sound r so;
  operands = λ l left ts. operands_step-sound r so l left ts (operation_in_front l ts) (operation_in_front-rest l ts);
  exponents = λ base ts. exponents_step-sound r so base ts (behind_sign sign.Caret ts) refl (behind_sign-rest sign.Caret ts);
  arguments = λ ts. arguments_step-sound r so ts (area_in_front ts) (area_in_front-rest ts);
}

pub readers-sound : (n : ℕ) → Sound (readers n)
unfolding readers
readers-sound zero = record {
  of_level = λ l ts. tt;
  base = λ ts. tt;
  operands = λ l left ts. tt;
  exponents = λ base ts. tt;
  arguments = λ ts. tt;
}
readers-sound (suc n) = next_readers-sound (readers n) (readers-sound n)
