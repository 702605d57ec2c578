-- In a text that parses, a token begins a path or an area exactly where its tree has references.
use Rattle.std.proofs.Common.{◌≡◌, ℕ, zero, suc, ◌+◌, Bool, true, false, List, [], ◌∷◌, ◌++◌, length, map, None, Some, refl, sym, ◌∙◌, ap, ◌||◌, arith}
use Rattle.std.proofs.Math.Bool.{or_assoc, or-false}
use Rattle.std.proofs.lemmas.Bool.{cond_both}
use Rattle.std.proofs.lemmas.List.{append_assoc, append-nil, length-map}
use Rattle.std.specs.Prelude.{ℤ}
use Rattle.fc_base.specs.Places.{Place}
use Rattle.object_paths.specs.declared.path.Path.{Path}
use Rattle.object_paths.specs.declared.path.Owner.TheVariants as owner
use Rattle.object_paths.specs.declared.path.Owner.{Owner}
use Rattle.object_paths.specs.declared.slot_name.SlotName.{SlotName}
use Rattle.object_paths.specs.declared.slot_name.SlotName.TheVariants as slot
use Rattle.expr_tokens.specs.declared.sign.Sign as s
use Rattle.expr_tokens.specs.declared.sign.Sign.TheVariants as sign
use Rattle.expr_tokens.specs.declared.token.Placed.{Placed}
use Rattle.expr_tokens.specs.declared.token.Token.{Token}
use Rattle.expr_tokens.specs.declared.token.Token.TheVariants as token
use Rattle.expr_tokens.specs.FirstReference.{dot_follows, begins_reference, first_reference_among}
use Rattle.expr_tokens.specs.Kinds.{is_dot, tokens_of}
use Rattle.expr_tree.specs.declared.expr.UnitPower.{UnitPower}
use Rattle.expr_tree.specs.declared.operators.BinaryOp.{BinaryOp}
use Rattle.expr_tree.specs.declared.operators.BinaryOp.TheVariants as binary_op
use Rattle.expr_tree.specs.declared.operators.CompareOp.{CompareOp}
use Rattle.expr_tree.specs.declared.operators.CompareOp.TheVariants as compare_op
use Rattle.expr_grammar.specs.Grammar.{Level, expression, binary_sign, compare_sign, IsExponent, plain, negative, IsUnit, alone, raised, IsCorner, named, marked, IsSeparator, semicolon, comma, HasTree, a_comparison, a_sum, a_term, a_unary, a_power, a_primary, a_conditional, a_compare, a_binary, a_negate, a_raised, a_numeral, a_measure, a_unit, a_flag, a_text, a_path, in_brackets, a_function, a_modulo, an_aggregate, HasArguments, one_tree, more_trees, one_area, more_areas}
use Rattle.expr_grammar.specs.Parse.{reference_place, first_reference, ClosedHasNoReferences}
use Rattle.expr_grammar.specs.PathTokens as p
use Rattle.expr_grammar.specs.PathTokens.{slot_tokens, IsPathOf, behind_point}
use Rattle.expr_tree.specs.References.{reference_count, argument_reference_count}
use Rattle.expr_tree.specs.Tree.{Tree, Arguments}
use Rattle.expr_grammar.proofs.ReferenceLimit.{length-tokens_of}

-- a path or an area begins with one of the tokens
abbrev refers : List Token → Bool
refers [] = false
refers (t ∷ ts) = begins_reference t ts || refers ts

-- more than none
abbrev some : ℕ → Bool
some zero = false
some (suc n) = true

some-add : (m n : ℕ) → some (m + n) ≡ (some m || some n)
some-add zero n = ap some (omega arith)
some-add (suc m) n = let e : suc m + n ≡ suc (m + n) = omega arith in ap some e

-- in front of tokens that begin with no point, one of these begins a reference or none does
abbrev Refers : List Token → Bool → Type 0
Refers ts some = (rest : List Token) → dot_follows rest ≡ false → refers (ts ++ rest) ≡ (some || refers rest)

-- a sign that is no point stands between the two
joined_by : (xs ys : List Token) (a b : Bool) (x : s.Sign) → is_dot x ≡ false → Refers xs a → Refers ys b → Refers (xs ++ token.Sign x ∷ ys) (a || b)
joined_by xs ys a b x no_dot left right rest h =
    ap refers (append_assoc xs (token.Sign x ∷ ys) rest)
    ∙ (left (token.Sign x ∷ (ys ++ rest)) no_dot
    ∙ (ap (λ (begins : Bool). a || (begins || refers (ys ++ rest))) no_dot
    ∙ (ap (λ (more : Bool). a || more) (right rest h)
    ∙ sym (or_assoc a b (refers rest)))))

-- a closing bracket behind them changes nothing
closed_by : (ts : List Token) (a : Bool) → Refers ts a → Refers (ts ++ token.Sign sign.Close ∷ []) a
closed_by ts a inside rest h = ap refers (append_assoc ts (token.Sign sign.Close ∷ []) rest) ∙ inside (token.Sign sign.Close ∷ rest) refl

-- nothing refers here
no_exponent : {ts : List Token} {n : ℤ} → IsExponent ts n → Refers ts false
no_exponent (plain amount n small) rest h = refl
no_exponent (negative amount n small) rest h = refl

no_unit : {ts : List Token} {u : UnitPower} → IsUnit ts u → Refers ts false
no_unit (alone name) rest h = refl
no_unit (raised name e) rest h = no_exponent e rest h

-- a slot and a path refer
slot-refers : (name : SlotName) → Refers (slot_tokens name) true
slot-refers (slot.Plain name) rest h = refl
slot-refers (slot.Component name part) rest h = refl
slot-refers (slot.Marked place) rest h = refl

owned-refers : (o : Owner) (name : SlotName) → Refers (p.owner_tokens o ++ slot_tokens name) true
owned-refers owner.Here name rest h = slot-refers name rest h
owned-refers (owner.ByName first) name rest h = refl
owned-refers (owner.ByLabel label) name rest h = refl

path-refers : {ts : List Token} {q : Path} → IsPathOf ts q → Refers ts true
path-refers (p.plain q k) rest h = owned-refers q.owner q.slot rest h
path-refers (behind_point name) rest h = refl

corner-refers : {x : Token} {place : Place} → IsCorner x place → (ts : List Token) → begins_reference x ts ≡ true
corner-refers (named name place e) ts = refl
corner-refers (marked place) ts = refl

binary-no_dot : (op : BinaryOp) → is_dot (binary_sign op) ≡ false
binary-no_dot binary_op.Plus = refl
binary-no_dot binary_op.Minus = refl
binary-no_dot binary_op.Times = refl
binary-no_dot binary_op.Over = refl
binary-no_dot binary_op.Modulo = refl

compare-no_dot : (op : CompareOp) → is_dot (compare_sign op) ≡ false
compare-no_dot compare_op.Equal = refl
compare-no_dot compare_op.NotEqual = refl
compare-no_dot compare_op.Less = refl
compare-no_dot compare_op.LessOrEqual = refl
compare-no_dot compare_op.Greater = refl
compare-no_dot compare_op.GreaterOrEqual = refl

separator-no_dot : {x : s.Sign} → IsSeparator x → is_dot x ≡ false
separator-no_dot semicolon = refl
separator-no_dot comma = refl

-- the same, told by another number
told : (ts : List Token) {a b : Bool} → Refers ts a → a ≡ b → Refers ts b
told ts here e rest h = here rest h ∙ ap (λ (x : Bool). x || refers rest) e

mutual
  tree-refers : {l : Level} {ts : List Token} {t : Tree} → HasTree l ts t → Refers ts (some (reference_count t))
  tree-refers (a_comparison h) = tree-refers h
  tree-refers (a_sum h) = tree-refers h
  tree-refers (a_term h) = tree-refers h
  tree-refers (a_unary h) = tree-refers h
  tree-refers (a_power h) = tree-refers h
  tree-refers (a_primary h) = tree-refers h
  tree-refers (a_conditional {xs} {ys} {zs} {c} {a} {b} h k j) =
      told (xs ++ token.Sign sign.Question ∷ (ys ++ token.Sign sign.Colon ∷ zs))
      (joined_by xs (ys ++ token.Sign sign.Colon ∷ zs) (some (reference_count c)) (some (reference_count a) || some (reference_count b)) sign.Question refl (tree-refers h)
      (joined_by ys zs (some (reference_count a)) (some (reference_count b)) sign.Colon refl (tree-refers k) (tree-refers j)))
      (sym (some-add (reference_count c + reference_count a) (reference_count b)
      ∙ (ap (λ (x : Bool). x || some (reference_count b)) (some-add (reference_count c) (reference_count a))
      ∙ or_assoc (some (reference_count c)) (some (reference_count a)) (some (reference_count b)))))
  tree-refers (a_compare op {xs} {ys} {a} {b} h k) =
      told (xs ++ token.Sign (compare_sign op) ∷ ys)
      (joined_by xs ys (some (reference_count a)) (some (reference_count b)) (compare_sign op) (compare-no_dot op) (tree-refers h) (tree-refers k))
      (sym (some-add (reference_count a) (reference_count b)))
  tree-refers (a_binary op {xs} {ys} {a} {b} h k) =
      told (xs ++ token.Sign (binary_sign op) ∷ ys)
      (joined_by xs ys (some (reference_count a)) (some (reference_count b)) (binary_sign op) (binary-no_dot op) (tree-refers h) (tree-refers k))
      (sym (some-add (reference_count a) (reference_count b)))
  tree-refers (a_negate h) = λ rest no_dot. tree-refers h rest no_dot
  tree-refers (a_raised {ts} {ns} {t} h none e) =
      told (ts ++ token.Sign sign.Caret ∷ ns)
      (joined_by ts ns (some (reference_count t)) false sign.Caret refl (tree-refers h) (no_exponent e)) (or-false (some (reference_count t)))
  tree-refers (a_numeral x number) = λ rest no_dot. refl
  tree-refers (a_measure x number u) = λ rest no_dot. no_unit u rest no_dot
  tree-refers (a_unit name) = λ rest no_dot. refl
  tree-refers (a_flag b) = λ rest no_dot. refl
  tree-refers (a_text t) = λ rest no_dot. ap (λ (x : Bool). x || refers rest) no_dot
  tree-refers (a_path h) = path-refers h
  tree-refers (in_brackets {ts} {t} h) = λ rest no_dot. closed_by ts (some (reference_count t)) (tree-refers h) rest no_dot
  tree-refers (a_function op {ts} {t} h) = λ rest no_dot. closed_by ts (some (reference_count t)) (tree-refers h) rest no_dot
  tree-refers (a_modulo between is {xs} {ys} {a} {b} h k) = λ rest no_dot.
      told (xs ++ token.Sign between ∷ (ys ++ token.Sign sign.Close ∷ []))
      (joined_by xs (ys ++ token.Sign sign.Close ∷ []) (some (reference_count a)) (some (reference_count b)) between (separator-no_dot is) (tree-refers h)
      (closed_by ys (some (reference_count b)) (tree-refers k)))
      (sym (some-add (reference_count a) (reference_count b))) rest no_dot
  tree-refers (an_aggregate op {ts} {all} h) = λ rest no_dot. closed_by ts (some (argument_reference_count all)) (arguments-refer h) rest no_dot

  arguments-refer : {ts : List Token} {all : Arguments} → HasArguments ts all → Refers ts (some (argument_reference_count all))
  arguments-refer (one_tree {ts} {t} h) =
      told ts (tree-refers h) (let e : reference_count t ≡ reference_count t + 0 = omega arith in ap some e)
  arguments-refer (more_trees between is {ts} {us} {t} {all} h more) =
      told (ts ++ token.Sign between ∷ us)
      (joined_by ts us (some (reference_count t)) (some (argument_reference_count all)) between (separator-no_dot is) (tree-refers h) (arguments-refer more))
      (sym (some-add (reference_count t) (argument_reference_count all)))
  arguments-refer (one_area area {x} {y} corner other b) = λ rest no_dot.
      ap (λ (z : Bool). z || refers (token.Sign sign.Colon ∷ y ∷ rest)) (corner-refers corner (token.Sign sign.Colon ∷ y ∷ rest))
  arguments-refer (more_areas between is area {x} {y} {us} {all} corner other b more) = λ rest no_dot.
      let counted : some (argument_reference_count all + 1) ≡ true = (let e : argument_reference_count all + 1 ≡ suc (argument_reference_count all) = omega arith in ap some e) in
      ap (λ (z : Bool). z || refers (token.Sign sign.Colon ∷ y ∷ token.Sign between ∷ (us ++ rest))) (corner-refers corner (token.Sign sign.Colon ∷ y ∷ token.Sign between ∷ (us ++ rest)))
      ∙ ap (λ (z : Bool). z || refers rest) (sym counted)

-- there is a first token that begins a reference exactly where there is one
none-first : (places : List ℕ) (ts : List Token) → length places ≡ length ts → first_reference_among places ts ≡ None → refers ts ≡ false
unfolding first_reference_among
none-first places [] same none = refl
none-first [] (t ∷ ts) same none = absurd (omega (arith, same))
none-first (place ∷ places) (t ∷ ts) same none =
    cond_both (begins_reference t ts) (Some place) (first_reference_among places ts) (λ v. v ≡ None → (begins_reference t ts || refers ts) ≡ false)
    (λ e none. absurd (cc))
    (λ e none. ap (λ (x : Bool). x || refers ts) e ∙ none-first places ts (omega (arith, same)) none)
    none

first-none : (places : List ℕ) (ts : List Token) → refers ts ≡ false → first_reference_among places ts ≡ None
unfolding first_reference_among
first-none [] ts none = refl
first-none (place ∷ places) [] none = refl
first-none (place ∷ places) (t ∷ ts) none =
    cond_both (begins_reference t ts) (Some place) (first_reference_among places ts) (λ v. v ≡ None)
    (λ e. absurd (let k : true ≡ false = sym (ap (λ (x : Bool). x || refers ts) e) ∙ none in cc))
    (λ e. first-none places ts (sym (ap (λ (x : Bool). x || refers ts) e) ∙ none))

none-counted : (n : ℕ) → some n ≡ false → n ≡ 0
none-counted zero e = refl
none-counted (suc n) e = absurd (cc)

tokens-refer : (ts : List Token) (t : Tree) (l : Level) → HasTree l ts t → refers ts ≡ some (reference_count t)
tokens-refer ts t l h = ap refers (sym (append-nil ts)) ∙ (tree-refers h [] refl ∙ or-false (some (reference_count t)))

pub closed_has_no_references : ClosedHasNoReferences
unfolding first_reference
closed_has_no_references text t h =
    let places : List ℕ = map (λ (x : Placed). x.place) h.lexemes in
    let is : first_reference text ≡ first_reference_among places (tokens_of h.lexemes) = ap reference_place h.spelled.lexemes in
    let same : length places ≡ length (tokens_of h.lexemes) = length-map h.lexemes (λ (x : Placed). x.place) ∙ sym (length-tokens_of h.lexemes) in
    let counted : refers (tokens_of h.lexemes) ≡ some (reference_count t) = tokens-refer (tokens_of h.lexemes) t expression h.tree in (
      λ e. none-counted (reference_count t) (sym counted ∙ none-first places (tokens_of h.lexemes) same (sym is ∙ e)),
      λ e. is ∙ first-none places (tokens_of h.lexemes) (counted ∙ ap some e),
    )
