-- The tokens of spelled lexemes, and the trees that they have, can be spelled.
use Rattle.std.proofs.Common.{◌≡◌, ℕ, zero, suc, ◌<◌, ℤ, pos, neg_ℤ, Bool, true, false, ◌||◌, List, [], ◌∷◌, ◌++◌, map, Some, is_some, refl, subst, arith}
use Rattle.std.specs.Prelude.{codes}
use Rattle.std.specs.Str.{bytes_eq}
use Rattle.std.proofs.lemmas.Bool.{cond_both, le-leb}
use Rattle.std.proofs.lemmas.Bool.Decides.{nat_tests}
use Rattle.fc_base.specs.Places.{Place, IsPlace}
use Rattle.fc_base.specs.Texts.{is_name}
use Rattle.fc_base.proofs.AddressLemmas.{address_of-iff}
use Rattle.unit_signatures.specs.Table.{unit_named}
use Rattle.object_paths.specs.declared.slot_name.SlotName.{SlotName}
use Rattle.object_paths.specs.declared.slot_name.SlotName.TheVariants as slot
use Rattle.object_paths.specs.declared.path.Owner.{Owner}
use Rattle.object_paths.specs.declared.path.Owner.TheVariants.{Here, ByName, ByLabel}
use Rattle.object_paths.specs.declared.path.Path.{Path}
use Rattle.object_paths.specs.Paths.{IsSlotName, IsOwner, IsPath}
use Rattle.expr_tree.specs.declared.expr.UnitPower.{UnitPower}
use Rattle.expr_tree.specs.declared.functions.AggregateOp.{AggregateOp}
use Rattle.expr_tokens.specs.declared.sign.Sign.TheVariants as sign
use Rattle.expr_tokens.specs.declared.token.Lexeme.{Lexeme}
use Rattle.expr_tokens.specs.declared.token.Lexeme.TheVariants.{Numeral, Identifier, Marked, Text, Sign}
use Rattle.expr_tokens.specs.declared.token.Placed.{Placed}
use Rattle.expr_tokens.specs.declared.token.Token.{Token}
use Rattle.expr_tokens.specs.declared.token.Token.TheVariants as token
use Rattle.expr_grammar.specs.Grammar.{Level, binary_sign, compare_sign, IsExponent, plain, negative, IsUnit, alone, raised, IsCorner, named, marked, HasTree, a_comparison, a_sum, a_term, a_unary, a_power, a_primary, a_conditional, a_compare, a_binary, a_negate, a_raised, a_numeral, a_measure, a_unit, a_flag, a_text, a_path, in_brackets, a_function, a_modulo, an_aggregate, HasArguments, one_tree, more_trees, one_area, more_areas}
use Rattle.expr_tokens.specs.Kinds.{is_point, bracket_follows, point_follows, lone_word, word, kind_of, kinds}
use Rattle.expr_grammar.specs.PathTokens as p
use Rattle.expr_grammar.specs.PathTokens.{dot, component_tokens, slot_tokens, owner_tokens, path_tokens, CanOwn, IsPathOf, behind_point}
use Rattle.expr_grammar.specs.Parse.{Parses}
use Rattle.expr_tree.specs.Spelled.{is_exponent, is_unit_name, IsUnitPower, is_quotable, IsNumeral, IsSpelled, AreSpelled}
use Rattle.expr_tree.specs.Tree.{Tree, aggregate, Arguments, no_more, tree, cells}
use Rattle.expr_grammar.proofs.TokenLemmas.{HasSome}
use Rattle.expr_grammar.proofs.SpelledLemmas.{IsSpelledLexeme, AreSpelledLexemes, AreSpelledPlaced, lexed_from-spelled}

-- ---- tokens

abbrev IsSpelledToken : Token → Type 0
IsSpelledToken (token.Numeral x number) = IsNumeral x
IsSpelledToken (token.Unit w) = is_unit_name w ≡ true
IsSpelledToken (token.Flag b) = Unit {0}
IsSpelledToken (token.Name w) = is_name w ≡ true
IsSpelledToken (token.Function w) = Unit {0}
IsSpelledToken (token.Marked p) = IsPlace p × ((p.fixed_column || p.fixed_row) ≡ true)
IsSpelledToken (token.Text t) = is_quotable t ≡ true
IsSpelledToken (token.Sign x) = Unit {0}

abbrev AreSpelledTokens : List Token → Type 0
AreSpelledTokens [] = Unit {0}
AreSpelledTokens (x ∷ xs) = IsSpelledToken x × AreSpelledTokens xs

lone_word_spelled : (w : List ℕ) → is_name w ≡ true → IsSpelledToken (lone_word w)
lone_word_spelled w h =
    cond_both (bytes_eq w (codes "true")) (token.Flag true) _ IsSpelledToken (λ e. tt)
    (λ e. cond_both (bytes_eq w (codes "false")) (token.Flag false) _ IsSpelledToken (λ f. tt)
    (λ f. cond_both (is_some (unit_named w)) (token.Unit w) (token.Name w) IsSpelledToken (λ g. g) (λ g. h)))

word_spelled : (before beside : Bool) (w : List ℕ) → is_name w ≡ true → IsSpelledToken (word before beside w)
word_spelled true beside w h = tt
word_spelled false true w h = h
word_spelled false false w h = lone_word_spelled w h

kind_of-spelled : (behind : Bool) (x : Lexeme) (rest : List Lexeme) → IsSpelledLexeme x → IsSpelledToken (kind_of behind x rest)
kind_of-spelled behind (Numeral x number) rest h = h
kind_of-spelled behind (Identifier w) rest h = word_spelled (bracket_follows rest) (behind || point_follows rest) w h
kind_of-spelled behind (Marked place) rest h = h
kind_of-spelled behind (Text t) rest h = h
kind_of-spelled behind (Sign x) rest h = tt

kinds-spelled : (behind : Bool) (xs : List Lexeme) → AreSpelledLexemes xs → AreSpelledTokens (kinds behind xs)
kinds-spelled behind [] h = tt
kinds-spelled behind (x ∷ xs) h = (kind_of-spelled behind x xs h.0, kinds-spelled (is_point x) xs h.1)

-- the tokens of two parts
split : (xs ys : List Token) → AreSpelledTokens (xs ++ ys) → AreSpelledTokens xs × AreSpelledTokens ys
split [] ys h = (tt, h)
split (x ∷ xs) ys h = let rest = split xs ys h.1 in ((h.0, rest.0), rest.1)

-- ---- leaves

below_exponent : (n : ℕ) → n < 100 → is_exponent (pos n) ≡ true
below_exponent n h = le-leb n 99 (omega arith)

negative_exponent : (n : ℕ) → n < 100 → is_exponent (neg_ℤ (pos n)) ≡ true
negative_exponent zero h = refl
negative_exponent (suc n) h = grind (arith, nat_tests)

exponent_spelled : {ts : List Token} {n : ℤ} → IsExponent ts n → is_exponent n ≡ true
exponent_spelled (plain amount n h) = below_exponent n h
exponent_spelled (negative amount n h) = negative_exponent n h

unit_spelled : {ts : List Token} {u : UnitPower} → IsUnit ts u → AreSpelledTokens ts → IsUnitPower (Some u)
unit_spelled (alone name) h = (h.0, refl)
unit_spelled (raised name e) h = (h.0, exponent_spelled e)

slot_spelled : (name : SlotName) → AreSpelledTokens (slot_tokens name) → IsSlotName name
slot_spelled (slot.Plain name) h = h.0
slot_spelled (slot.Component name part) h = h.0
slot_spelled (slot.Marked place) h = h.0

owner_spelled : (owner : Owner) → CanOwn owner → AreSpelledTokens (owner_tokens owner) → IsOwner owner
owner_spelled Here k h = tt
owner_spelled (ByName name) k h = h.0
owner_spelled (ByLabel label) k h = k

path_spelled : {ts : List Token} {q : Path} → IsPathOf ts q → AreSpelledTokens ts → IsPath q
path_spelled (p.plain q k) h =
    record {
      owner = owner_spelled q.owner k (split (owner_tokens q.owner) (slot_tokens q.slot) h).0;
      slot = slot_spelled q.slot (split (owner_tokens q.owner) (slot_tokens q.slot) h).1;
    }
path_spelled (behind_point name) h = record { owner = tt; slot = slot_spelled name h.1 }

corner_place : {x : Token} {place : Place} → IsCorner x place → IsSpelledToken x → IsPlace place
corner_place (named name place e) h = ((address_of-iff name place).0 e).place
corner_place (marked place) h = h.0

-- ---- trees

first_argument : (op : AggregateOp) (all : Arguments) → HasSome all → AreSpelled all → IsSpelled (aggregate op all)
first_argument op no_more some h = absurd some
first_argument op (tree t more) some h = h
first_argument op (cells area more) some h = h

some_arguments : {ts : List Token} {all : Arguments} → HasArguments ts all → HasSome all
some_arguments (one_tree h) = tt
some_arguments (more_trees between k h more) = tt
some_arguments (one_area area x y k) = tt
some_arguments (more_areas between k area x y b more) = tt

mutual
  tree_spelled : {l : Level} {ts : List Token} {t : Tree} → HasTree l ts t → AreSpelledTokens ts → IsSpelled t
  tree_spelled (a_comparison h) k = tree_spelled h k
  tree_spelled (a_sum h) k = tree_spelled h k
  tree_spelled (a_term h) k = tree_spelled h k
  tree_spelled (a_unary h) k = tree_spelled h k
  tree_spelled (a_power h) k = tree_spelled h k
  tree_spelled (a_primary h) k = tree_spelled h k
  tree_spelled (a_conditional {xs} {ys} {zs} c a b) k =
      let outer = split xs (token.Sign sign.Question ∷ (ys ++ token.Sign sign.Colon ∷ zs)) k in
      let inner = split ys (token.Sign sign.Colon ∷ zs) outer.1.1 in
      (tree_spelled c outer.0, tree_spelled a inner.0, tree_spelled b inner.1.1)
  tree_spelled (a_compare op {xs} {ys} a b) k =
      let parts = split xs (token.Sign (compare_sign op) ∷ ys) k in
      (tree_spelled a parts.0, tree_spelled b parts.1.1)
  tree_spelled (a_binary op {xs} {ys} a b) k =
      let parts = split xs (token.Sign (binary_sign op) ∷ ys) k in
      (tree_spelled a parts.0, tree_spelled b parts.1.1)
  tree_spelled (a_negate h) k = tree_spelled h k.1
  tree_spelled (a_raised {ts} {ns} h none e) k = (tree_spelled h (split ts (token.Sign sign.Caret ∷ ns) k).0, exponent_spelled e)
  tree_spelled (a_numeral x number) k = (k.0, tt)
  tree_spelled (a_measure x number u) k = (k.0, unit_spelled u k.1)
  tree_spelled (a_unit name) k = k.0
  tree_spelled (a_flag b) k = tt
  tree_spelled (a_text t) k = k.0
  tree_spelled (a_path h) k = path_spelled h k
  tree_spelled (in_brackets {ts} h) k = tree_spelled h (split ts (token.Sign sign.Close ∷ []) k.1).0
  tree_spelled (a_function op {ts} h) k = tree_spelled h (split ts (token.Sign sign.Close ∷ []) k.1.1).0
  tree_spelled (a_modulo between is {xs} {ys} a b) k =
      let outer = split xs (token.Sign between ∷ (ys ++ token.Sign sign.Close ∷ [])) k.1.1 in
      (tree_spelled a outer.0, tree_spelled b (split ys (token.Sign sign.Close ∷ []) outer.1.1).0)
  tree_spelled (an_aggregate op {ts} {all} h) k =
      first_argument op all (some_arguments h) (arguments_spelled h (split ts (token.Sign sign.Close ∷ []) k.1.1).0)

  arguments_spelled : {ts : List Token} {all : Arguments} → HasArguments ts all → AreSpelledTokens ts → AreSpelled all
  arguments_spelled (one_tree h) k = (tree_spelled h k, tt)
  arguments_spelled (more_trees between is {ts} {us} h more) k =
      let parts = split ts (token.Sign between ∷ us) k in
      (tree_spelled h parts.0, arguments_spelled more parts.1.1)
  arguments_spelled (one_area area x y b) k = (record { from = corner_place x k.0; to = corner_place y k.1.1.0; corners = b }, tt)
  arguments_spelled (more_areas between is area x y b more) k =
      (record { from = corner_place x k.0; to = corner_place y k.1.1.0; corners = b }, arguments_spelled more k.1.1.1.1)

-- each tree of a text can be spelled
pub parsed_is_spelled : (w : List ℕ) (t : Tree) → Parses w t → IsSpelled t
parsed_is_spelled w t h =
    let lexemes : AreSpelledLexemes (map (λ (x : Placed). x.lexeme) h.lexemes) = subst AreSpelledPlaced h.spelled.lexemes (lexed_from-spelled w 0 0) in
    tree_spelled h.tree (kinds-spelled false (map (λ (x : Placed). x.lexeme) h.lexemes) lexemes)
