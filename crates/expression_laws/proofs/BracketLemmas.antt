-- A tree that does not stand at a level as it is stands there in brackets alone.
use Rattle.std.proofs.Common.{◌≡◌, ℕ, ℤ, zero, suc, ◌≤◌, ◌↔◌, false, nat_le, List, [], ◌∷◌, ◌++◌, Option, None, Some, IsTrue, refl, sym, ap, subst, ◌∙◌, arith, append_assoc, append-nil}
use Rattle.std.proofs.lemmas.Bool.{leb-false, lt-leb, le-leb, both_ways, true_from_ne_false}
use Rattle.fc_base.specs.Places.{Place}
use Rattle.expr_tree.specs.declared.expr.UnitPower.{UnitPower}
use Rattle.expr_tree.specs.declared.operators.BinaryOp.{BinaryOp}
use Rattle.expr_tree.specs.declared.operators.BinaryOp.TheVariants.{Plus, Minus, Times, Over, Modulo}
use Rattle.expr_tree.specs.declared.operators.CompareOp.{CompareOp}
use Rattle.expr_tree.specs.declared.operators.CompareOp.TheVariants.{Equal, NotEqual, Less, LessOrEqual, Greater, GreaterOrEqual}
use Rattle.expr_tokens.specs.declared.sign.Sign as s
use Rattle.expr_tokens.specs.declared.sign.Sign.TheVariants as sign
use Rattle.expr_tokens.specs.declared.token.Token.{Token}
use Rattle.expr_tokens.specs.declared.token.Token.TheVariants as token
use Rattle.object_paths.specs.declared.slot_name.Component.TheVariants.{X, Y, Z, Turn}
use Rattle.object_paths.specs.declared.slot_name.SlotName.{SlotName}
use Rattle.object_paths.specs.declared.slot_name.SlotName.TheVariants as slot
use Rattle.object_paths.specs.declared.path.Owner.{Owner}
use Rattle.object_paths.specs.declared.path.Owner.TheVariants.{Here, ByName, ByLabel}
use Rattle.object_paths.specs.declared.path.Path.{Path}
use Rattle.expr_grammar.specs.Grammar.{Level, expression, comparison, sum, term, unary, powers, primary, binary_level, right_level, binary_sign, compare_sign, IsExponent, plain, negative, IsUnit, alone, raised, IsCorner, named, marked, IsSeparator, semicolon, comma, HasTree, a_comparison, a_sum, a_term, a_unary, a_power, a_primary, a_conditional, a_compare, a_binary, a_negate, a_raised, a_numeral, a_measure, a_unit, a_flag, a_text, a_path, in_brackets, a_function, a_modulo, an_aggregate, HasArguments, one_tree, more_trees, one_area, more_areas}
use Rattle.expr_grammar.specs.PathTokens as p
use Rattle.expr_grammar.specs.PathTokens.{slot_tokens, owner_tokens, IsPathOf, behind_point}
use Rattle.expr_grammar.specs.Printed.{tightness, level_of, fits, fits_as_base}
use Rattle.expr_tree.specs.Spelled.{IsSpelled}
use Rattle.expr_tree.specs.Tree.{Tree, literal, unit_one, flag, text, path, negate, binary, power, compare, conditional, function, modulo, aggregate, Arguments}
use Rattle.expr_grammar.specs.TreeTokens.{bracketed_tokens, exponent_tokens, tree_tokens}
use Rattle.expr_grammar.proofs.TokenLemmas.{at_looser, operand, base, has_tree}

-- ---- open brackets

-- how many brackets are open behind a sign; none where it closes one that is not open
abbrev behind_sign : ℕ → s.Sign → Option ℕ
behind_sign n sign.Open = Some (suc n)
behind_sign zero sign.Close = None
behind_sign (suc n) sign.Close = Some n
behind_sign n _ = Some n

abbrev behind_token : ℕ → Token → Option ℕ
behind_token n (token.Sign x) = behind_sign n x
behind_token n _ = Some n

abbrev behind : Option ℕ → Token → Option ℕ
behind None x = None
behind (Some n) x = behind_token n x

-- how many are open behind the tokens, where so many were open before
abbrev open_from : Option ℕ → List Token → Option ℕ
open_from o [] = o
open_from o (x ∷ xs) = open_from (behind o x) xs

-- each bracket of the tokens is closed among them
abbrev IsBalanced : List Token → Type 0
IsBalanced ts = (n : ℕ) (rest : List Token) → open_from (Some n) (ts ++ rest) ≡ open_from (Some n) rest

-- a sign that is no bracket
abbrev IsNeutral : s.Sign → Type 0
IsNeutral x = (n : ℕ) → behind_sign n x ≡ Some n

binary_neutral : (op : BinaryOp) → IsNeutral (binary_sign op)
binary_neutral Plus n = refl
binary_neutral Minus n = refl
binary_neutral Times n = refl
binary_neutral Over n = refl
binary_neutral Modulo n = refl

compare_neutral : (op : CompareOp) → IsNeutral (compare_sign op)
compare_neutral Equal n = refl
compare_neutral NotEqual n = refl
compare_neutral Less n = refl
compare_neutral LessOrEqual n = refl
compare_neutral Greater n = refl
compare_neutral GreaterOrEqual n = refl

separator_neutral : {x : s.Sign} → IsSeparator x → IsNeutral x
separator_neutral semicolon n = refl
separator_neutral comma n = refl

-- two balanced parts round such a sign
joined : (xs ys : List Token) (x : s.Sign) → IsBalanced xs → IsNeutral x → IsBalanced ys → IsBalanced (xs ++ token.Sign x ∷ ys)
joined xs ys x h neutral k n rest =
    ap (open_from (Some n)) (append_assoc xs (token.Sign x ∷ ys) rest) ∙ h n (token.Sign x ∷ (ys ++ rest))
    ∙ ap (λ o. open_from o (ys ++ rest)) (neutral n) ∙ k n rest

closed : (ts : List Token) → IsBalanced ts → (n : ℕ) (rest : List Token) → open_from (Some (suc n)) ((ts ++ token.Sign sign.Close ∷ []) ++ rest) ≡ open_from (Some n) rest
closed ts h n rest = ap (open_from (Some (suc n))) (append_assoc ts (token.Sign sign.Close ∷ []) rest) ∙ h (suc n) (token.Sign sign.Close ∷ rest)

exponent_balanced : {ts : List Token} {m : ℤ} → IsExponent ts m → IsBalanced ts
exponent_balanced (plain amount m h) n rest = refl
exponent_balanced (negative amount m h) n rest = refl

unit_balanced : {ts : List Token} {u : UnitPower} → IsUnit ts u → IsBalanced ts
unit_balanced (alone name) n rest = refl
unit_balanced (raised name e) n rest = exponent_balanced e n rest

slot_balanced : (name : SlotName) → IsBalanced (slot_tokens name)
slot_balanced (slot.Plain name) n rest = refl
slot_balanced (slot.Component name X) n rest = refl
slot_balanced (slot.Component name Y) n rest = refl
slot_balanced (slot.Component name Z) n rest = refl
slot_balanced (slot.Component name Turn) n rest = refl
slot_balanced (slot.Marked place) n rest = refl

owned_balanced : (owner : Owner) (name : SlotName) → IsBalanced (owner_tokens owner ++ slot_tokens name)
owned_balanced Here name n rest = slot_balanced name n rest
owned_balanced (ByName owner) name n rest = slot_balanced name n rest
owned_balanced (ByLabel label) name n rest = slot_balanced name n rest

path_balanced : {ts : List Token} {q : Path} → IsPathOf ts q → IsBalanced ts
path_balanced (p.plain q k) n rest = owned_balanced q.owner q.slot n rest
path_balanced (behind_point name) n rest = slot_balanced name n rest

corner_neutral : {x : Token} {place : Place} → IsCorner x place → (n : ℕ) → behind_token n x ≡ Some n
corner_neutral (named name place e) n = refl
corner_neutral (marked place) n = refl

area_neutral : {x y : Token} {from to : Place} → IsCorner x from → IsCorner y to → (n : ℕ) (rest : List Token)
    → open_from (Some n) (x ∷ token.Sign sign.Colon ∷ y ∷ rest) ≡ open_from (Some n) rest
area_neutral {x} {y} a b n rest =
    ap (λ o. open_from (behind (behind o (token.Sign sign.Colon)) y) rest) (corner_neutral a n) ∙ ap (λ o. open_from o rest) (corner_neutral b n)

mutual
  balanced : {l : Level} {ts : List Token} {t : Tree} → HasTree l ts t → IsBalanced ts
  balanced (a_comparison h) n rest = balanced h n rest
  balanced (a_sum h) n rest = balanced h n rest
  balanced (a_term h) n rest = balanced h n rest
  balanced (a_unary h) n rest = balanced h n rest
  balanced (a_power h) n rest = balanced h n rest
  balanced (a_primary h) n rest = balanced h n rest
  balanced (a_conditional {xs} {ys} {zs} c a b) n rest =
      joined xs (ys ++ token.Sign sign.Colon ∷ zs) sign.Question (balanced c) (λ m. refl)
      (joined ys zs sign.Colon (balanced a) (λ m. refl) (balanced b)) n rest
  balanced (a_compare op {xs} {ys} a b) n rest = joined xs ys (compare_sign op) (balanced a) (compare_neutral op) (balanced b) n rest
  balanced (a_binary op {xs} {ys} a b) n rest = joined xs ys (binary_sign op) (balanced a) (binary_neutral op) (balanced b) n rest
  balanced (a_negate h) n rest = balanced h n rest
  balanced (a_raised {ts} {ns} h none e) n rest = joined ts ns sign.Caret (balanced h) (λ m. refl) (exponent_balanced e) n rest
  balanced (a_numeral x number) n rest = refl
  balanced (a_measure x number u) n rest = unit_balanced u n rest
  balanced (a_unit name) n rest = refl
  balanced (a_flag b) n rest = refl
  balanced (a_text t) n rest = refl
  balanced (a_path h) n rest = path_balanced h n rest
  balanced (in_brackets {ts} h) n rest = closed ts (balanced h) n rest
  balanced (a_function op {ts} h) n rest = closed ts (balanced h) n rest
  balanced (a_modulo between is {xs} {ys} a b) n rest =
      ap (open_from (Some (suc n))) (append_assoc xs (token.Sign between ∷ (ys ++ token.Sign sign.Close ∷ [])) rest)
      ∙ balanced a (suc n) (token.Sign between ∷ ((ys ++ token.Sign sign.Close ∷ []) ++ rest))
      ∙ ap (λ o. open_from o ((ys ++ token.Sign sign.Close ∷ []) ++ rest)) (separator_neutral is (suc n))
      ∙ closed ys (balanced b) n rest
  balanced (an_aggregate op {ts} {all} h) n rest = closed ts (arguments_balanced h) n rest

  arguments_balanced : {ts : List Token} {all : Arguments} → HasArguments ts all → IsBalanced ts
  arguments_balanced (one_tree h) n rest = balanced h n rest
  arguments_balanced (more_trees between is {ts} {us} h more) n rest = joined ts us between (balanced h) (separator_neutral is) (arguments_balanced more) n rest
  arguments_balanced (one_area area a b k) n rest = area_neutral a b n rest
  arguments_balanced (more_areas between is area {x} {y} {us} a b k more) n rest =
      area_neutral a b n (token.Sign between ∷ (us ++ rest))
      ∙ ap (λ o. open_from o (us ++ rest)) (separator_neutral is n) ∙ arguments_balanced more n rest

-- ---- a tree in brackets begins with a bracket that only the last one closes

none_open : (xs : List Token) → open_from None xs ≡ None
none_open [] = refl
none_open (x ∷ xs) = none_open xs

-- where brackets that were open are closed, they are not without them
too_many : (xs zs : List Token) (n : ℕ) → open_from (Some (suc n)) xs ≡ Some 0 → open_from (Some n) (xs ++ zs) ≡ None
too_many [] zs n h = cc
too_many (token.Sign sign.Open ∷ xs) zs n h = too_many xs zs (suc n) h
too_many (token.Sign sign.Close ∷ xs) zs zero h = none_open (xs ++ zs)
too_many (token.Sign sign.Close ∷ xs) zs (suc n) h = too_many xs zs n h
too_many (x ∷ xs) zs n h = too_many xs zs n h

never_empty : (xs ys : List Token) (x : Token) → xs ++ x ∷ ys ≡ [] → ⊥
never_empty [] ys x e = cc
never_empty (a ∷ xs) ys x e = cc

-- what stands before a token that is not the last stands in front of the last
front : (xs us ys : List Token) (x : Token) → xs ++ x ∷ ys ≡ us ++ token.Sign sign.Close ∷ [] → (zs : List Token) × (us ≡ xs ++ zs)
front [] us ys x e = (us, refl)
front (a ∷ xs) [] ys x e = let tail : xs ++ x ∷ ys ≡ [] = cc in absurd (never_empty xs ys x tail)
front (a ∷ xs) (u ∷ us) ys x e =
    let tail : xs ++ x ∷ ys ≡ us ++ token.Sign sign.Close ∷ [] = cc in
    let head : u ≡ a = cc in
    let found = front xs us ys x tail in
    (found.0, λ i. head i ∷ found.1 i)

opens_none : (x : s.Sign) → IsNeutral x → token.Sign x ≡ token.Sign sign.Open → ⊥
opens_none x neutral e =
    let is : x ≡ sign.Open = cc in
    let same : ◌≡◌ {A = Option ℕ} (Some 1) (Some 0) = subst (λ y. behind_sign 0 y ≡ Some 0) is (neutral 0) in
    cc

-- two parts with a sign between them are no part in brackets
not_enclosed : (xs ys us : List Token) (x : s.Sign) → IsBalanced xs → IsNeutral x → IsBalanced us
    → xs ++ token.Sign x ∷ ys ≡ token.Sign sign.Open ∷ (us ++ token.Sign sign.Close ∷ []) → ⊥
not_enclosed [] ys us x h neutral k e = let first : token.Sign x ≡ token.Sign sign.Open = cc in opens_none x neutral first
not_enclosed (a ∷ xs) ys us x h neutral k e =
    let first : a ≡ token.Sign sign.Open = cc in
    let tail : xs ++ token.Sign x ∷ ys ≡ us ++ token.Sign sign.Close ∷ [] = cc in
    let found = front xs us ys (token.Sign x) tail in
    let closes : open_from (Some 1) xs ≡ Some 0 =
    ap (open_from (Some 1)) (sym (append-nil xs)) ∙ ap (λ y. open_from (behind_token 0 y) (xs ++ [])) (sym first) ∙ h 0 [] in
    let never : open_from (Some 0) us ≡ None = ap (open_from (Some 0)) found.1 ∙ too_many xs found.0 0 closes in
    let some : open_from (Some 0) us ≡ Some 0 = ap (open_from (Some 0)) (sym (append-nil us)) ∙ k 0 [] in
    cc

-- ---- derivations

-- The tokens are a bracket, an expression and a bracket.
record IsEnclosed (ts : List Token) (t : Tree) : Type 0 where
  inside : List Token
  tokens : ts ≡ token.Sign sign.Open ∷ (inside ++ token.Sign sign.Close ∷ [])
  tree : HasTree expression inside t

same_level : (l : Level) → nat_le (tightness l) (tightness l) ≡ false → ⊥
same_level l h = both_ways _ h (le-leb (tightness l) (tightness l) (omega arith))

tighter : (m n k : ℕ) → m ≤ n → nat_le m k ≡ false → nat_le n k ≡ false
tighter m n k h e = let below = leb-false m k e in lt-leb n k (omega arith)

loosest : (k : ℕ) → nat_le 0 k ≡ false → ⊥
loosest k h = both_ways _ h (le-leb 0 k (omega arith))

-- a form that is looser than the level stands in brackets
enclosed : {l : Level} {ts : List Token} {t : Tree} → HasTree l ts t → nat_le (tightness l) (tightness (level_of t)) ≡ false → IsEnclosed ts t
enclosed (a_comparison {ts} {t} h) looser = absurd (loosest (tightness (level_of t)) looser)
enclosed (a_sum {ts} {t} h) looser = enclosed h (tighter 1 2 (tightness (level_of t)) (omega arith) looser)
enclosed (a_term {ts} {t} h) looser = enclosed h (tighter 2 3 (tightness (level_of t)) (omega arith) looser)
enclosed (a_unary {ts} {t} h) looser = enclosed h (tighter 3 4 (tightness (level_of t)) (omega arith) looser)
enclosed (a_power {ts} {t} h) looser = enclosed h (tighter 4 5 (tightness (level_of t)) (omega arith) looser)
enclosed (a_primary {ts} {t} h) looser = enclosed h (tighter 5 6 (tightness (level_of t)) (omega arith) looser)
enclosed (a_conditional c a b) looser = absurd (same_level expression looser)
enclosed (a_compare op a b) looser = absurd (same_level comparison looser)
enclosed (a_binary op a b) looser = absurd (same_level (binary_level op) looser)
enclosed (a_negate h) looser = absurd (same_level unary looser)
enclosed (a_raised h none e) looser = absurd (same_level powers looser)
enclosed (a_numeral x number) looser = absurd (same_level primary looser)
enclosed (a_measure x number u) looser = absurd (same_level primary looser)
enclosed (a_unit name) looser = absurd (same_level primary looser)
enclosed (a_flag b) looser = absurd (same_level primary looser)
enclosed (a_text t) looser = absurd (same_level primary looser)
enclosed (a_path h) looser = absurd (same_level primary looser)
enclosed (in_brackets {ts} h) looser = record { inside = ts; tokens = refl; tree = h }
enclosed (a_function op h) looser = absurd (same_level primary looser)
enclosed (a_modulo between is a b) looser = absurd (same_level primary looser)
enclosed (an_aggregate op h) looser = absurd (same_level primary looser)

tightness-le : (l : Level) → tightness l ≤ 6
tightness-le expression = omega arith
tightness-le comparison = omega arith
tightness-le sum = omega arith
tightness-le term = omega arith
tightness-le unary = omega arith
tightness-le powers = omega arith
tightness-le primary = omega arith

always_fits : (l : Level) → nat_le (tightness l) 6 ≡ false → ⊥
always_fits l h = both_ways _ h (le-leb (tightness l) 6 (tightness-le l))

-- so the tokens of a tree that does not fit do not have it
pub not_as_it_is : (l : Level) (t : Tree) → IsSpelled t → fits l t ≡ false → HasTree l (tree_tokens t) t → ⊥
not_as_it_is l (literal x u) h looser k = always_fits l looser
not_as_it_is l (unit_one name) h looser k = always_fits l looser
not_as_it_is l (flag b) h looser k = always_fits l looser
not_as_it_is l (text t) h looser k = always_fits l looser
not_as_it_is l (path q) h looser k = always_fits l looser
not_as_it_is l (negate a) h looser k =
    let found = enclosed k looser in
    let tokens : tree_tokens (negate a) ≡ token.Sign sign.Open ∷ (found.inside ++ token.Sign sign.Close ∷ []) = found.tokens in
    cc
not_as_it_is l (binary op a b) h looser k =
    let found = enclosed k looser in
    not_enclosed (bracketed_tokens (fits (binary_level op) a) (tree_tokens a)) (bracketed_tokens (fits (right_level op) b) (tree_tokens b)) found.inside
    (binary_sign op) (balanced (operand (binary_level op) a (has_tree a h.0))) (binary_neutral op) (balanced found.tree) found.tokens
not_as_it_is l (power a n) h looser k =
    let found = enclosed k looser in
    not_enclosed (bracketed_tokens (fits_as_base a) (tree_tokens a)) (exponent_tokens n) found.inside
    sign.Caret (balanced (base a (has_tree a h.0))) (λ m. refl) (balanced found.tree) found.tokens
not_as_it_is l (compare op a b) h looser k =
    let found = enclosed k looser in
    not_enclosed (bracketed_tokens (fits sum a) (tree_tokens a)) (bracketed_tokens (fits sum b) (tree_tokens b)) found.inside
    (compare_sign op) (balanced (operand sum a (has_tree a h.0))) (compare_neutral op) (balanced found.tree) found.tokens
not_as_it_is l (conditional c a b) h looser k =
    let found = enclosed k looser in
    not_enclosed (bracketed_tokens (fits comparison c) (tree_tokens c)) (tree_tokens a ++ token.Sign sign.Colon ∷ tree_tokens b) found.inside
    sign.Question (balanced (operand comparison c (has_tree c h.0))) (λ m. refl) (balanced found.tree) found.tokens
not_as_it_is l (function op a) h looser k = always_fits l looser
not_as_it_is l (modulo a b) h looser k = always_fits l looser
not_as_it_is l (aggregate op all) h looser k = always_fits l looser

-- a tree stands at a level without brackets exactly where it fits
pub fits_exactly : (l : Level) (t : Tree) → IsSpelled t → IsTrue (fits l t) ↔ HasTree l (tree_tokens t) t
fits_exactly l t h = (
  λ e. at_looser l (level_of t) e (has_tree t h),
  λ k. true_from_ne_false (fits l t) (λ looser. not_as_it_is l t h looser k),
)
