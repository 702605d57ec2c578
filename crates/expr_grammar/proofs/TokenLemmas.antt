-- The tokens of a tree's printed form have the tree.
use Rattle.std.proofs.Common.{◌≡◌, ℕ, suc, ◌*◌, ℤ, pos, negsuc, Bool, true, false, ◌||◌, nat_le, List, [], ◌∷◌, ◌++◌, Option, None, Some, refl, sym, subst, arith, append_assoc, append-nil}
use Rattle.std.specs.Prelude.{if◌then◌else◌}
use Rattle.std.specs.Ordering.{int_eq}
use Rattle.std.proofs.lemmas.Bool.{le-leb, cond_both, false≢true}
use Rattle.std.proofs.lemmas.Bool.Decides.{nat_tests, Decides-int_eq}
use Rattle.fc_base.specs.Places.{Place, Block, IsPlace, address_text}
use Rattle.fc_base.proofs.AddressLemmas.{address_of-address_text}
use Rattle.quantities.specs.Texts.{billion, decimal_text}
use Rattle.object_paths.specs.PathTexts.{is_word, needs_dot}
use Rattle.object_paths.specs.Paths.{IsOwner}
use Rattle.object_paths.specs.declared.slot_name.SlotName.{SlotName}
use Rattle.object_paths.specs.declared.slot_name.SlotName.TheVariants.{Plain, Component, Marked}
use Rattle.object_paths.specs.declared.path.Owner.{Owner}
use Rattle.object_paths.specs.declared.path.Owner.TheVariants.{Here, ByName, ByLabel}
use Rattle.expr_tree.specs.declared.expr.UnitPower.{UnitPower}
use Rattle.expr_tokens.specs.declared.sign.Sign as s
use Rattle.expr_tokens.specs.declared.sign.Sign.TheVariants as sign
use Rattle.expr_tokens.specs.declared.token.Token.{Token}
use Rattle.expr_tokens.specs.declared.token.Token.TheVariants as token
use Rattle.expr_tree.specs.declared.functions.AggregateOp.{AggregateOp}
use Rattle.expr_tree.specs.declared.operators.BinaryOp.TheVariants.{Plus, Minus, Times, Over, Modulo}
use Rattle.expr_grammar.specs.Grammar.{Level, expression, comparison, sum, term, unary, powers, primary, binary_level, right_level, IsExponent, plain, negative, IsUnit, alone, raised, IsCorner, named, marked, semicolon, HoldsExponent, HasTree, a_comparison, a_sum, a_term, a_unary, a_power, a_primary, a_conditional, a_compare, a_binary, a_negate, a_raised, a_numeral, a_measure, a_unit, a_flag, a_text, a_path, in_brackets, a_function, a_modulo, an_aggregate, HasArguments, one_tree, more_trees, one_area, more_areas}
use Rattle.expr_tree.specs.Functions.{modulo_name}
use Rattle.expr_tokens.specs.Lexemes.{short_number}
use Rattle.expr_grammar.specs.PathTokens as p
use Rattle.expr_grammar.specs.PathTokens.{dot, slot_tokens, IsPathOf, behind_point}
use Rattle.expr_grammar.specs.Printed.{tightness, level_of, fits, is_measure, fits_as_base}
use Rattle.expr_tree.specs.Spelled.{is_exponent, IsUnitPower, IsArea, IsSpelled, AreSpelled}
use Rattle.expr_tree.specs.Tree.{Tree, literal, unit_one, flag, text, path, negate, binary, power, compare, conditional, function, modulo, aggregate, Arguments, no_more, tree, cells}
use Rattle.expr_grammar.specs.TreeTokens.{bracketed_tokens, exponent_tokens, raised_tokens, measure_tokens, printed_path_tokens, corner_token, tree_tokens, argument_tokens}

-- ---- levels

-- what stands at a level stands at each looser one
module _ {ts : List Token} {t : Tree} where
  from_powers : HasTree powers ts t → (l : Level) → nat_le (tightness l) 5 ≡ true → HasTree l ts t
  from_powers h expression le = a_comparison (a_sum (a_term (a_unary (a_power h))))
  from_powers h comparison le = a_sum (a_term (a_unary (a_power h)))
  from_powers h sum le = a_term (a_unary (a_power h))
  from_powers h term le = a_unary (a_power h)
  from_powers h unary le = a_power h
  from_powers h powers le = h
  from_powers h primary le = cc

  from_primary : HasTree primary ts t → (l : Level) → HasTree l ts t
  from_primary h primary = h
  from_primary h powers = a_primary h
  from_primary h unary = a_power (a_primary h)
  from_primary h term = a_unary (a_power (a_primary h))
  from_primary h sum = a_term (a_unary (a_power (a_primary h)))
  from_primary h comparison = a_sum (a_term (a_unary (a_power (a_primary h))))
  from_primary h expression = a_comparison (a_sum (a_term (a_unary (a_power (a_primary h)))))

  from_unary : HasTree unary ts t → (l : Level) → nat_le (tightness l) 4 ≡ true → HasTree l ts t
  from_unary h expression le = a_comparison (a_sum (a_term (a_unary h)))
  from_unary h comparison le = a_sum (a_term (a_unary h))
  from_unary h sum le = a_term (a_unary h)
  from_unary h term le = a_unary h
  from_unary h unary le = h
  from_unary h powers le = cc
  from_unary h primary le = cc

  from_term : HasTree term ts t → (l : Level) → nat_le (tightness l) 3 ≡ true → HasTree l ts t
  from_term h expression le = a_comparison (a_sum (a_term h))
  from_term h comparison le = a_sum (a_term h)
  from_term h sum le = a_term h
  from_term h term le = h
  from_term h unary le = cc
  from_term h powers le = cc
  from_term h primary le = cc

  from_sum : HasTree sum ts t → (l : Level) → nat_le (tightness l) 2 ≡ true → HasTree l ts t
  from_sum h expression le = a_comparison (a_sum h)
  from_sum h comparison le = a_sum h
  from_sum h sum le = h
  from_sum h term le = cc
  from_sum h unary le = cc
  from_sum h powers le = cc
  from_sum h primary le = cc

  from_comparison : HasTree comparison ts t → (l : Level) → nat_le (tightness l) 1 ≡ true → HasTree l ts t
  from_comparison h expression le = a_comparison h
  from_comparison h comparison le = h
  from_comparison h sum le = cc
  from_comparison h term le = cc
  from_comparison h unary le = cc
  from_comparison h powers le = cc
  from_comparison h primary le = cc

  from_expression : HasTree expression ts t → (l : Level) → nat_le (tightness l) 0 ≡ true → HasTree l ts t
  from_expression h expression le = h
  from_expression h comparison le = cc
  from_expression h sum le = cc
  from_expression h term le = cc
  from_expression h unary le = cc
  from_expression h powers le = cc
  from_expression h primary le = cc

  pub at_looser : (l m : Level) → nat_le (tightness l) (tightness m) ≡ true → HasTree m ts t → HasTree l ts t
  at_looser l expression le h = from_expression h l le
  at_looser l comparison le h = from_comparison h l le
  at_looser l sum le h = from_sum h l le
  at_looser l term le h = from_term h l le
  at_looser l unary le h = from_unary h l le
  at_looser l powers le h = from_powers h l le
  at_looser l primary le h = from_primary h l

-- a part stands at a level as it is, or in brackets
pub at_level : (l : Level) (as_it_is : Bool) {ts : List Token} {t : Tree} → (as_it_is ≡ true → HasTree l ts t) → HasTree expression ts t
    → HasTree l (bracketed_tokens as_it_is ts) t
at_level l true fitting whole = fitting refl
at_level l false fitting whole = from_primary (in_brackets whole) l

pub operand : (l : Level) (t : Tree) {ts : List Token} → HasTree (level_of t) ts t → HasTree l (bracketed_tokens (fits l t) ts) t
operand l t h =
    at_level l (fits l t) (λ e. at_looser l (level_of t) e h)
    (at_looser expression (level_of t) (le-leb 0 (tightness (level_of t)) (omega arith)) h)

pub as_expression : (t : Tree) {ts : List Token} → HasTree (level_of t) ts t → HasTree expression ts t
as_expression t h = at_looser expression (level_of t) (le-leb 0 (tightness (level_of t)) (omega arith)) h

-- ---- leaves

two_digits : (n : ℤ) → is_exponent n ≡ true → IsExponent (exponent_tokens n) n
two_digits (pos n) h = plain (pos (n * billion)) n (grind (arith, nat_tests))
two_digits (negsuc n) h = negative (pos (suc n * billion)) (suc n) (grind (arith, nat_tests))

unit_tokens : (name : List ℕ) (n : ℤ) → is_exponent n ≡ true → IsUnit (token.Unit name ∷ raised_tokens n) (record { unit = name; exponent = n })
unit_tokens name n h =
    cond_both (int_eq n (pos 1)) [] (token.Sign sign.Caret ∷ exponent_tokens n)
    (λ ts. IsUnit (token.Unit name ∷ ts) (record { unit = name; exponent = n }))
    (λ e. subst (λ m. IsUnit (token.Unit name ∷ []) (record { unit = name; exponent = m })) (sym ((Decides-int_eq n (pos 1)).0 e)) (alone name))
    (λ e. raised name (two_digits n h))

literal_tokens : (x : ℤ) (number : Option ℕ) (u : Option UnitPower) → IsUnitPower u → HasTree primary (token.Numeral x number ∷ measure_tokens u) (literal x u)
literal_tokens x number None h = a_numeral x number
literal_tokens x number (Some u) h = a_measure x number (unit_tokens u.unit u.exponent h.1)

path_spelled : (owner : Owner) (slot : SlotName) → IsOwner owner → IsPathOf (printed_path_tokens (record { owner = owner; slot = slot })) (record { owner = owner; slot = slot })
path_spelled Here slot h =
    elim (needs_dot slot) as (λ b. IsPathOf ((if b then dot ∷ [] else []) ++ slot_tokens slot) (record { owner = Here; slot = slot }))
    [ true ↦ behind_point slot | false ↦ p.plain (record { owner = Here; slot = slot }) tt ]
path_spelled (ByName name) slot h = p.plain (record { owner = ByName name; slot = slot }) tt
path_spelled (ByLabel label) slot h = p.plain (record { owner = ByLabel label; slot = slot }) h

corner : (place : Place) → IsPlace place → IsCorner (corner_token place) place
corner place h =
    elim (place.fixed_column || place.fixed_row) as (λ b. IsCorner (if b then token.Marked place else token.Name (address_text place)) place)
    [ true ↦ marked place | false ↦ named (address_text place) place (address_of-address_text place h) ]

-- ---- bases of powers

-- a numeral and its unit, and nothing more
held : (ts : List Token) → HoldsExponent ts
    → (amount : ℤ) × ((number : Option ℕ) × ((name : List ℕ) × (ts ≡ token.Numeral amount number ∷ token.Unit name ∷ [])))
held (token.Numeral amount number ∷ token.Unit name ∷ []) h = (amount, (number, (name, refl)))
held _ h = absurd h

no_sign : (xs ys : List Token) (x : s.Sign) (amount : ℤ) (number : Option ℕ) (name : List ℕ)
    → xs ++ token.Sign x ∷ ys ≡ token.Numeral amount number ∷ token.Unit name ∷ [] → ⊥
no_sign [] ys x amount number name e = cc
no_sign (a ∷ []) ys x amount number name e = cc
no_sign (a ∷ b ∷ []) ys x amount number name e = cc
no_sign (a ∷ b ∷ c ∷ xs) ys x amount number name e = cc

not_held : (xs ys : List Token) (x : s.Sign) → HoldsExponent (xs ++ token.Sign x ∷ ys) → ⊥
not_held xs ys x h = let found = held (xs ++ token.Sign x ∷ ys) h in no_sign xs ys x found.0 found.1.0 found.1.1.0 found.1.1.1

path_not_held : (owner : Owner) (slot : SlotName) → HoldsExponent (printed_path_tokens (record { owner = owner; slot = slot })) → ⊥
path_not_held Here (Plain name) h =
    elim (is_word name) as (λ b. HoldsExponent ((if b then dot ∷ [] else []) ++ token.Name name ∷ []) → ⊥) [ true ↦ λ k. k | false ↦ λ k. k ] h
path_not_held Here (Component name part) h = h
path_not_held Here (Marked place) h = h
path_not_held (ByName name) slot h = h
path_not_held (ByLabel label) slot h = h

base_not_held : (t : Tree) → fits_as_base t ≡ true → HoldsExponent (tree_tokens t) → ⊥
base_not_held (literal x None) fitting h = h
base_not_held (literal x (Some u)) fitting h = cc
base_not_held (unit_one name) fitting h = h
base_not_held (flag b) fitting h = h
base_not_held (text t) fitting h = h
base_not_held (path p) fitting h = path_not_held p.owner p.slot h
base_not_held (negate a) fitting h = cc
base_not_held (binary Plus a b) fitting h = cc
base_not_held (binary Minus a b) fitting h = cc
base_not_held (binary Times a b) fitting h = cc
base_not_held (binary Over a b) fitting h = cc
base_not_held (binary Modulo a b) fitting h = cc
base_not_held (power a n) fitting h = not_held (bracketed_tokens (fits_as_base a) (tree_tokens a)) (exponent_tokens n) sign.Caret h
base_not_held (compare op a b) fitting h = cc
base_not_held (conditional c a b) fitting h = cc
base_not_held (function op a) fitting h = h
base_not_held (modulo a b) fitting h = h
base_not_held (aggregate op all) fitting h = h

fits_from_base : (t : Tree) → fits_as_base t ≡ true → fits powers t ≡ true
fits_from_base t h =
    elim (is_measure t) as (λ b. (if b then false else fits powers t) ≡ true → fits powers t ≡ true)
    [ true ↦ λ e. absurd (false≢true e) | false ↦ λ e. e ] h

pub base : (t : Tree) → HasTree (level_of t) (tree_tokens t) t → HasTree powers (bracketed_tokens (fits_as_base t) (tree_tokens t)) t
base t h = at_level powers (fits_as_base t) (λ e. at_looser powers (level_of t) (fits_from_base t e) h) (as_expression t h)

pub bare_base : (t : Tree) → HoldsExponent (bracketed_tokens (fits_as_base t) (tree_tokens t)) → ⊥
bare_base t =
    cond_both (fits_as_base t) (tree_tokens t) (token.Sign sign.Open ∷ (tree_tokens t ++ token.Sign sign.Close ∷ [])) (λ ts. HoldsExponent ts → ⊥)
    (λ e. base_not_held t e) (λ e h. h)

-- ---- arguments

abbrev pub HasSome : Arguments → Type 0
HasSome no_more = ⊥
HasSome (tree t more) = Unit {0}
HasSome (cells area more) = Unit {0}

-- an aggregate has an argument, and each is spelled
pub spelled_arguments : (op : AggregateOp) (all : Arguments) → IsSpelled (aggregate op all) → HasSome all × AreSpelled all
spelled_arguments op no_more h = absurd h
spelled_arguments op (tree t more) h = (tt, h)
spelled_arguments op (cells area more) h = (tt, h)

tree_first : (t : Tree) (more : Arguments) → HasTree expression (tree_tokens t) t → (HasSome more → HasArguments (argument_tokens more) more)
    → HasArguments (argument_tokens (tree t more)) (tree t more)
tree_first t no_more h k = subst (λ (ts : List Token). HasArguments ts (tree t no_more)) (sym (append-nil (tree_tokens t))) (one_tree h)
tree_first t (tree u more) h k = more_trees sign.Semicolon semicolon h (k tt)
tree_first t (cells area more) h k = more_trees sign.Semicolon semicolon h (k tt)

area_first : (area : Block) (more : Arguments) → IsArea area → (HasSome more → HasArguments (argument_tokens more) more)
    → HasArguments (argument_tokens (cells area more)) (cells area more)
area_first area no_more h k = one_area area (corner area.from h.from) (corner area.to h.to) h.corners
area_first area (tree u more) h k = more_areas sign.Semicolon semicolon area (corner area.from h.from) (corner area.to h.to) h.corners (k tt)
area_first area (cells other more) h k = more_areas sign.Semicolon semicolon area (corner area.from h.from) (corner area.to h.to) h.corners (k tt)

-- ---- trees

mutual
  -- the tokens have the tree, at the level of its form
  pub has_tree : (t : Tree) → IsSpelled t → HasTree (level_of t) (tree_tokens t) t
  has_tree (literal x u) h = literal_tokens x (short_number (decimal_text x)) u h.1
  has_tree (unit_one name) h = a_unit name
  has_tree (flag b) h = a_flag b
  has_tree (text t) h = a_text t
  has_tree (path p) h = a_path (path_spelled p.owner p.slot h.owner)
  has_tree (negate a) h = a_negate (operand unary a (has_tree a h))
  has_tree (binary op a b) h = a_binary op (operand (binary_level op) a (has_tree a h.0)) (operand (right_level op) b (has_tree b h.1))
  has_tree (power a n) h = a_raised (base a (has_tree a h.0)) (bare_base a) (two_digits n h.1)
  has_tree (compare op a b) h = a_compare op (operand sum a (has_tree a h.0)) (operand sum b (has_tree b h.1))
  has_tree (conditional c a b) h =
      a_conditional (operand comparison c (has_tree c h.0)) (as_expression a (has_tree a h.1)) (as_expression b (has_tree b h.2))
  has_tree (function op a) h = a_function op (as_expression a (has_tree a h))
  has_tree (modulo a b) h =
      let call = a_modulo sign.Semicolon semicolon (as_expression a (has_tree a h.0)) (as_expression b (has_tree b h.1)) in
      subst (λ (ts : List Token). HasTree primary (token.Function modulo_name ∷ token.Sign sign.Open ∷ ts) (modulo a b))
      (sym (append_assoc (tree_tokens a) (token.Sign sign.Semicolon ∷ tree_tokens b) (token.Sign sign.Close ∷ []))) call
  has_tree (aggregate op all) h =
      let spelled = spelled_arguments op all h in
      an_aggregate op (has_arguments all spelled.0 spelled.1)

  has_arguments : (all : Arguments) → HasSome all → AreSpelled all → HasArguments (argument_tokens all) all
  has_arguments no_more some h = absurd some
  has_arguments (tree t more) some h = tree_first t more (as_expression t (has_tree t h.0)) (λ k. has_arguments more k h.1)
  has_arguments (cells area more) some h = area_first area more h.0 (λ k. has_arguments more k h.1)
