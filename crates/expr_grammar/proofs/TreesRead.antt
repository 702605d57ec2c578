-- The descent gives each tree of the grammar, and so a list of tokens has one tree at most.
use Rattle.std.proofs.Common.{◌≡◌, ℤ, List, [], ◌∷◌, ◌++◌, Option, None, Some, refl, sym, ◌∙◌, ap, append_assoc}
use Rattle.fc_base.specs.Places.{Block}
use Rattle.expr_tree.specs.declared.operators.BinaryOp as b
use Rattle.expr_tree.specs.declared.operators.CompareOp as o
use Rattle.expr_tree.specs.declared.operators.CompareOp.TheVariants as compare_op
use Rattle.expr_tokens.specs.declared.sign.Sign.TheVariants as sign
use Rattle.expr_tokens.specs.declared.token.Token.{Token}
use Rattle.expr_tokens.specs.declared.token.Token.TheVariants as token
use Rattle.expr_grammar.specs.Descent.{Parsed, ◌>>=◌, behind_sign, text_or_label, with_bracket, behind_separator, second_argument, operation_in_front, comparison_in_front, operands_step, sides, other_arm, arms, further_arguments, arguments_behind, arguments_step, parsed, parsed_operands, parsed_exponents, parsed_arguments, whole_readers}
use Rattle.expr_tree.specs.Functions.{function_name, modulo_name, aggregate_name}
use Rattle.expr_grammar.specs.Grammar.{Level, expression, comparison, sum, term, unary, powers, primary, binary_sign, compare_sign, binary_level, right_level, HasTree, a_comparison, a_sum, a_term, a_unary, a_power, a_primary, a_conditional, a_compare, a_binary, a_negate, a_raised, a_numeral, a_measure, a_unit, a_flag, a_text, a_path, in_brackets, a_function, a_modulo, an_aggregate, HasArguments, one_tree, more_trees, one_area, more_areas}
use Rattle.expr_tree.specs.Tree.{Tree, negate, binary, power, compare, conditional, function, modulo, aggregate, Arguments, tree, cells}
use Rattle.expr_grammar.proofs.DescentEquations.{parsed-is, operands-is, exponents-is, arguments-is}
use Rattle.expr_grammar.proofs.FrontComplete.{exponent-read, numeral-read, measure-read, path-read}
use Rattle.expr_grammar.proofs.DescentComplete.{EndsSum, Ends, closing, ends-primary, unary-read, powers-read, term-read, sum-read, comparison-read, expression-read, operands-end, ends_at_colon, ends_at_close, ends_at_separator, ends_at_question, ends_at_comparison, comparison-in_front, ends_at_operation, operation-in_front, closing-operation, ends_right, right-closing, no_minus, called-aggregate, called-function, separator-in_front, EndsArgument, separator-ends, area-read, no_area}

-- lists in another grouping

pub grouped : (xs : List Token) (x : Token) (ys rest : List Token) → (xs ++ x ∷ ys) ++ rest ≡ xs ++ x ∷ (ys ++ rest)
grouped xs x ys rest = append_assoc xs (x ∷ ys) rest

grouped_twice : (xs : List Token) (x : Token) (ys : List Token) (y : Token) (zs rest : List Token)
    → (xs ++ x ∷ (ys ++ y ∷ zs)) ++ rest ≡ xs ++ x ∷ (ys ++ y ∷ (zs ++ rest))
grouped_twice xs x ys y zs rest = append_assoc xs (x ∷ (ys ++ y ∷ zs)) rest ∙ ap (λ (z : List Token). xs ++ x ∷ z) (append_assoc ys (y ∷ zs) rest)

-- what stands in front of a closing bracket

abbrev close : Token
close = token.Sign sign.Close

bracketed-read : (ts rest : List Token) (t u : Tree) (change : Tree → Tree) → parsed expression (ts ++ close ∷ rest) ≡ Some (t, close ∷ rest) → change t ≡ u
    → with_bracket (parsed expression ((ts ++ close ∷ []) ++ rest) >>= λ a r. Some (change a, r)) ≡ Some (u, rest)
bracketed-read ts rest t u change e same =
    ap (λ (z : List Token). with_bracket (parsed expression z >>= λ a r. Some (change a, r))) (append_assoc ts (close ∷ []) rest)
    ∙ (ap (λ (z : Parsed Tree). with_bracket (z >>= λ a r. Some (change a, r))) e ∙ ap (λ (z : Tree). Some (z, rest)) same)

pub sum-stops : (op : o.CompareOp) (rest : List Token) → operation_in_front sum (token.Sign (compare_sign op) ∷ rest) ≡ None
sum-stops compare_op.Equal rest = refl
sum-stops compare_op.NotEqual rest = refl
sum-stops compare_op.Less rest = refl
sum-stops compare_op.LessOrEqual rest = refl
sum-stops compare_op.Greater rest = refl
sum-stops compare_op.GreaterOrEqual rest = refl

close-ends : (rest : List Token) → EndsArgument (close ∷ rest)
close-ends rest = record { sign = sign.Close; after = rest; rest_is = refl; ends = refl }

-- a tree that is the first argument
tree-argument : (ts rest : List Token) (t : Tree) → parsed expression ts ≡ Some (t, rest) → EndsArgument rest
    → parsed_arguments ts ≡ further_arguments whole_readers (tree t) (behind_separator rest) rest
tree-argument ts rest t e ends =
    arguments-is ts
    ∙ (ap (λ (z : Parsed Block). arguments_step whole_readers z ts) (no_area ts rest t e ends)
    ∙ ap (λ (z : Parsed Tree). z >>= λ a r. arguments_behind whole_readers (tree a) r) e)

mutual
  pub tree-read : (l : Level) {ts : List Token} {t : Tree} → HasTree l ts t → (rest : List Token) → Ends l ts rest → parsed l (ts ++ rest) ≡ closing l t rest
  tree-read _ (a_comparison {ts} {t} h) rest ends = expression-read (ts ++ rest) rest t (tree-read comparison h rest ends.ends) ends
  tree-read _ (a_sum {ts} {t} h) rest ends = comparison-read (ts ++ rest) rest t (tree-read sum h rest ends.ends) ends
  tree-read _ (a_term {ts} {t} h) rest ends = sum-read (ts ++ rest) rest t (tree-read term h rest ends.ends) ends
  tree-read _ (a_unary {ts} {t} h) rest ends = term-read (ts ++ rest) rest t (tree-read unary h rest ends)
  tree-read _ (a_power {ts} {t} h) rest ends =
      unary-read (ts ++ rest) rest t (no_minus h tt rest) (tree-read powers h rest (ends-primary ts rest ends)) ends
  tree-read _ (a_primary {ts} {t} h) rest ends = powers-read (ts ++ rest) rest t (tree-read primary h rest ends)
  tree-read _ (a_conditional {xs} {ys} {zs} {c} {a = x} {b = y} hc hx hy) rest ends =
      let third : List Token = zs ++ rest in
      let second : List Token = ys ++ token.Sign sign.Colon ∷ third in
      ap (parsed expression) (grouped_twice xs (token.Sign sign.Question) ys (token.Sign sign.Colon) zs rest)
      ∙ (parsed-is expression (xs ++ token.Sign sign.Question ∷ second)
      ∙ (ap (λ (z : Parsed Tree). z >>= λ a r. arms whole_readers a (behind_sign sign.Question r) r)
      (tree-read comparison hc (token.Sign sign.Question ∷ second) (ends_at_question second))
      ∙ (ap (λ (z : Parsed Tree). z >>= λ a r. other_arm whole_readers c a (behind_sign sign.Colon r))
      (tree-read expression hx (token.Sign sign.Colon ∷ third) (ends_at_colon third))
      ∙ ap (λ (z : Parsed Tree). z >>= λ a r. Some (conditional c x a, r)) (tree-read expression hy rest ends))))
  tree-read _ (a_compare op {xs} {ys} {a = x} {b = y} hx hy) rest ends =
      let second : List Token = ys ++ rest in
      let sign_and_rest : List Token = token.Sign (compare_sign op) ∷ second in
      let inner : EndsSum rest = ends.ends in
      ap (parsed comparison) (grouped xs (token.Sign (compare_sign op)) ys rest)
      ∙ (parsed-is comparison (xs ++ sign_and_rest)
      ∙ (ap (λ (z : Parsed Tree). z >>= λ a r. sides whole_readers a (comparison_in_front r) r)
      (tree-read sum hx sign_and_rest (ends_at_comparison op second) ∙ operands-end sum x sign_and_rest (sum-stops op second))
      ∙ (ap (λ (z : Option (o.CompareOp × List Token)). sides whole_readers x z sign_and_rest) (comparison-in_front op second)
      ∙ ap (λ (z : Parsed Tree). z >>= λ a r. Some (compare op x a, r))
      (tree-read sum hy rest inner ∙ operands-end sum y rest ends.no_sum))))
  tree-read _ (a_binary op {xs} {ys} {a = x} {b = y} hx hy) rest ends =
      let l : Level = binary_level op in
      let second : List Token = ys ++ rest in
      let sign_and_rest : List Token = token.Sign (binary_sign op) ∷ second in
      ap (parsed l) (grouped xs (token.Sign (binary_sign op)) ys rest)
      ∙ (tree-read l hx sign_and_rest (ends_at_operation op xs second)
      ∙ (closing-operation op x sign_and_rest
      ∙ (operands-is l x sign_and_rest
      ∙ (ap (λ (z : Option (b.BinaryOp × List Token)). operands_step whole_readers l x z sign_and_rest) (operation-in_front op second)
      ∙ (ap (λ (z : Parsed Tree). z >>= λ a r. parsed_operands l (binary op x a) r)
      (tree-read (right_level op) hy rest (ends_right op (xs ++ token.Sign (binary_sign op) ∷ ys) ys rest ends)
      ∙ right-closing op (xs ++ token.Sign (binary_sign op) ∷ ys) rest y ends)
      ∙ sym (closing-operation op (binary op x y) rest))))))
  tree-read _ (a_negate {ts} {t} h) rest ends =
      parsed-is unary (token.Sign sign.Minus ∷ (ts ++ rest)) ∙ ap (λ (z : Parsed Tree). z >>= λ a r. Some (negate a, r)) (tree-read unary h rest ends)
  tree-read _ (a_raised {ts} {ns} {t} {n} h not_held e) rest ends =
      let after : List Token = ns ++ rest in
      let raised : List Token = token.Sign sign.Caret ∷ after in
      ap (parsed powers) (grouped ts (token.Sign sign.Caret) ns rest)
      ∙ (tree-read powers h raised (record { no_dot = refl; no_unit = refl; held = λ i. absurd (not_held i) })
      ∙ (exponents-is t raised ∙ ap (λ (z : Parsed ℤ). z >>= λ m r. parsed_exponents (power t m) r) (exponent-read e rest)))
  tree-read _ (a_numeral amount number) rest ends = parsed-is primary (token.Numeral amount number ∷ rest) ∙ numeral-read amount rest ends.no_unit
  tree-read _ (a_measure amount number {ts} {u} e) rest ends =
      parsed-is primary (token.Numeral amount number ∷ (ts ++ rest)) ∙ measure-read amount number e rest ends.held
  tree-read _ (a_unit name) rest ends = parsed-is primary (token.Unit name ∷ rest)
  tree-read _ (a_flag v) rest ends = parsed-is primary (token.Flag v ∷ rest)
  tree-read _ (a_text t) rest ends =
      parsed-is primary (token.Text t ∷ rest) ∙ ap (λ (z : Option (List Token)). text_or_label t z rest) ends.no_dot
  tree-read _ (a_path {ts} {p} h) rest ends = parsed-is primary (ts ++ rest) ∙ path-read whole_readers h rest ends.no_dot
  tree-read _ (in_brackets {ts} {t} h) rest ends =
      parsed-is primary (token.Sign sign.Open ∷ ((ts ++ close ∷ []) ++ rest))
      ∙ (ap (λ (z : List Token). with_bracket (parsed expression z)) (append_assoc ts (close ∷ []) rest)
      ∙ ap with_bracket (tree-read expression h (close ∷ rest) (ends_at_close rest)))
  tree-read _ (a_function op {ts} {t} h) rest ends =
      parsed-is primary (token.Function (function_name op) ∷ token.Sign sign.Open ∷ ((ts ++ close ∷ []) ++ rest))
      ∙ (called-function op ((ts ++ close ∷ []) ++ rest)
      ∙ bracketed-read ts rest t (function op t) (λ a. function op a) (tree-read expression h (close ∷ rest) (ends_at_close rest)) refl)
  tree-read _ (a_modulo between sep {xs} {ys} {a = x} {b = y} hx hy) rest ends =
      let inner : List Token = (ys ++ close ∷ []) ++ rest in
      let sign_and_rest : List Token = token.Sign between ∷ inner in
      parsed-is primary (token.Function modulo_name ∷ token.Sign sign.Open ∷ ((xs ++ token.Sign between ∷ (ys ++ close ∷ [])) ++ rest))
      ∙ (ap (λ (z : List Token). parsed expression z >>= λ a r. second_argument whole_readers a (behind_separator r))
      (append_assoc xs (token.Sign between ∷ (ys ++ close ∷ [])) rest)
      ∙ (ap (λ (z : Parsed Tree). z >>= λ a r. second_argument whole_readers a (behind_separator r))
      (tree-read expression hx sign_and_rest (ends_at_separator sep inner))
      ∙ (ap (λ (z : Option (List Token)). second_argument whole_readers x z) (separator-in_front sep inner)
      ∙ bracketed-read ys rest y (modulo x y) (λ a. modulo x a) (tree-read expression hy (close ∷ rest) (ends_at_close rest)) refl)))
  tree-read _ (an_aggregate op {ts} {all} h) rest ends =
      parsed-is primary (token.Function (aggregate_name op) ∷ token.Sign sign.Open ∷ ((ts ++ close ∷ []) ++ rest))
      ∙ (called-aggregate op ((ts ++ close ∷ []) ++ rest)
      ∙ (ap (λ (z : List Token). with_bracket (parsed_arguments z >>= λ a r. Some (aggregate op a, r))) (append_assoc ts (close ∷ []) rest)
      ∙ ap (λ (z : Parsed Arguments). with_bracket (z >>= λ a r. Some (aggregate op a, r))) (arguments-read h rest)))

  pub arguments-read : {ts : List Token} {all : Arguments} → HasArguments ts all → (rest : List Token)
      → parsed_arguments (ts ++ close ∷ rest) ≡ Some (all, close ∷ rest)
  arguments-read (one_tree {ts} {t} h) rest =
      let e : parsed expression (ts ++ close ∷ rest) ≡ Some (t, close ∷ rest) = tree-read expression h (close ∷ rest) (ends_at_close rest) in
      tree-argument (ts ++ close ∷ rest) (close ∷ rest) t e (close-ends rest)
  arguments-read (more_trees between sep {ts} {us} {t} {all} h more) rest =
      let inner : List Token = us ++ close ∷ rest in
      let sign_and_rest : List Token = token.Sign between ∷ inner in
      let e : parsed expression (ts ++ sign_and_rest) ≡ Some (t, sign_and_rest) = tree-read expression h sign_and_rest (ends_at_separator sep inner) in
      ap parsed_arguments (grouped ts (token.Sign between) us (close ∷ rest))
      ∙ (tree-argument (ts ++ sign_and_rest) sign_and_rest t e (separator-ends sep inner)
      ∙ (ap (λ (z : Option (List Token)). further_arguments whole_readers (tree t) z sign_and_rest) (separator-in_front sep inner)
      ∙ ap (λ (z : Parsed Arguments). z >>= λ a r. Some (tree t a, r)) (arguments-read more rest)))
  arguments-read (one_area area {x} {y} from to block) rest =
      arguments-is (x ∷ token.Sign sign.Colon ∷ y ∷ close ∷ rest)
      ∙ ap (λ (z : Parsed Block). arguments_step whole_readers z (x ∷ token.Sign sign.Colon ∷ y ∷ close ∷ rest))
      (area-read area from to block (close ∷ rest) (close-ends rest))
  arguments-read (more_areas between sep area {x} {y} {us} {all} from to block more) rest =
      let inner : List Token = us ++ close ∷ rest in
      let sign_and_rest : List Token = token.Sign between ∷ inner in
      arguments-is (x ∷ token.Sign sign.Colon ∷ y ∷ sign_and_rest)
      ∙ (ap (λ (z : Parsed Block). arguments_step whole_readers z (x ∷ token.Sign sign.Colon ∷ y ∷ sign_and_rest))
      (area-read area from to block sign_and_rest (separator-ends sep inner))
      ∙ (ap (λ (z : Option (List Token)). further_arguments whole_readers (cells area) z sign_and_rest) (separator-in_front sep inner)
      ∙ ap (λ (z : Parsed Arguments). z >>= λ a r. Some (cells area a, r)) (arguments-read more rest)))
