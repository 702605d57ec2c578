-- What has a tree is read, where nothing follows that goes on with it.
use Rattle.std.proofs.Common.{◌≡◌, Bool, true, false, List, [], ◌∷◌, ◌++◌, Option, None, Some, refl, sym, ◌∙◌, ap, subst, append_assoc, cond}
use Rattle.std.specs.Prelude.{nat_le}
use Rattle.std.proofs.lemmas.Bool.{and_from, le-leb}
use Rattle.fc_base.specs.Places.{Place, Block, IsBlock}
use Rattle.object_paths.specs.declared.slot_name.SlotName.{SlotName}
use Rattle.object_paths.specs.declared.slot_name.SlotName.TheVariants as slot
use Rattle.object_paths.specs.declared.path.Owner as w
use Rattle.object_paths.specs.declared.path.Path.{Path}
use Rattle.object_paths.specs.declared.path.Owner.TheVariants as owner
use Rattle.expr_tree.specs.declared.operators.BinaryOp as b
use Rattle.expr_tree.specs.declared.operators.BinaryOp.TheVariants as binary_op
use Rattle.expr_tree.specs.declared.operators.CompareOp as o
use Rattle.expr_tree.specs.declared.operators.CompareOp.TheVariants as compare_op
use Rattle.expr_tree.specs.declared.functions.FunctionOp as f
use Rattle.expr_tree.specs.declared.functions.FunctionOp.TheVariants as function_op
use Rattle.expr_tree.specs.declared.functions.AggregateOp as g
use Rattle.expr_tree.specs.declared.functions.AggregateOp.TheVariants as aggregate_op
use Rattle.expr_tokens.specs.declared.sign.Sign as s
use Rattle.expr_tokens.specs.declared.sign.Sign.TheVariants as sign
use Rattle.expr_tokens.specs.declared.token.Token.{Token}
use Rattle.expr_tokens.specs.declared.token.Token.TheVariants as token
use Rattle.expr_grammar.specs.Descent.{Parsed, ◌>>=◌, behind_sign, sign_in_front, with_bracket, behind_separator, called, primary_step, unary_step, operation_in_front, comparison_in_front, operands_step, exponents_step, sides, arms, corner_of, argument_ends, is_block, area_of, area_in_front, parsed, parsed_operands, parsed_exponents, whole_readers}
use Rattle.expr_tree.specs.Functions.{function_name, function_named, aggregate_name}
use Rattle.expr_grammar.specs.Grammar.{Level, expression, comparison, sum, term, unary, powers, primary, binary_sign, compare_sign, binary_level, right_level, IsCorner, named, marked, IsSeparator, semicolon, comma, HoldsExponent, HasTree, a_comparison, a_sum, a_term, a_unary, a_power, a_primary, a_conditional, a_compare, a_binary, a_negate, a_raised, a_numeral, a_measure, a_unit, a_flag, a_text, a_path, in_brackets, a_function, a_modulo, an_aggregate}
use Rattle.expr_grammar.specs.PathTokens.{slot_tokens, owner_tokens, IsPathOf, plain, behind_point}
use Rattle.expr_tree.specs.Tree.{Tree, flag, path, function}
use Rattle.expr_grammar.proofs.FrontLemmas.{AllParsed}
use Rattle.expr_grammar.proofs.StepsSound.{BeginsWithArea, area_in_front-rest}
use Rattle.expr_grammar.proofs.DescentEquations.{parsed-is, operands-is, exponents-is}
use Rattle.expr_grammar.proofs.FrontComplete.{begins_with_unit}

-- What stands behind a phrase does not go on with it.

-- behind a primary: no point, no unit, and no `^` where it would be the primary's
pub record EndsPrimary (ts rest : List Token) : Type 0 where
  pub no_dot : behind_sign sign.Dot rest ≡ None
  pub no_unit : begins_with_unit rest ≡ false
  pub held : HoldsExponent ts → behind_sign sign.Caret rest ≡ None

pub record EndsUnary (rest : List Token) : Type 0 where
  pub no_dot : behind_sign sign.Dot rest ≡ None
  pub no_unit : begins_with_unit rest ≡ false
  pub no_caret : behind_sign sign.Caret rest ≡ None

pub record EndsSum (rest : List Token) : Type 0 where
  pub ends : EndsUnary rest
  pub no_product : operation_in_front term rest ≡ None

pub record EndsComparison (rest : List Token) : Type 0 where
  pub ends : EndsSum rest
  pub no_sum : operation_in_front sum rest ≡ None
  pub no_comparison : comparison_in_front rest ≡ None

pub record EndsExpression (rest : List Token) : Type 0 where
  pub ends : EndsComparison rest
  pub no_question : behind_sign sign.Question rest ≡ None

abbrev pub Ends : Level → List Token → List Token → Type 0
Ends expression ts rest = EndsExpression rest
Ends comparison ts rest = EndsComparison rest
Ends sum ts rest = EndsSum rest
Ends term ts rest = EndsUnary rest
Ends unary ts rest = EndsUnary rest
Ends powers ts rest = EndsPrimary ts rest
Ends primary ts rest = EndsPrimary ts rest

-- a tree of the level, and whatever operands or exponents follow
abbrev pub closing : Level → Tree → List Token → Parsed Tree
closing expression t rest = Some (t, rest)
closing comparison t rest = Some (t, rest)
closing sum t rest = parsed_operands sum t rest
closing term t rest = parsed_operands term t rest
closing unary t rest = Some (t, rest)
closing powers t rest = parsed_exponents t rest
closing primary t rest = Some (t, rest)

pub ends-primary : (ts rest : List Token) → EndsUnary rest → EndsPrimary ts rest
ends-primary ts rest e = record { no_dot = e.no_dot; no_unit = e.no_unit; held = λ _. e.no_caret }

pub operands-end : (l : Level) (t : Tree) (rest : List Token) → operation_in_front l rest ≡ None → parsed_operands l t rest ≡ Some (t, rest)
operands-end l t rest e = operands-is l t rest ∙ ap (λ (x : Option (b.BinaryOp × List Token)). operands_step whole_readers l t x rest) e

exponents-end : (t : Tree) (rest : List Token) → behind_sign sign.Caret rest ≡ None → parsed_exponents t rest ≡ Some (t, rest)
exponents-end t rest e = exponents-is t rest ∙ ap (λ (x : Option (List Token)). exponents_step whole_readers t x rest) e

-- from one level to the next looser one

pub unary-read : (ts rest : List Token) (t : Tree) → behind_sign sign.Minus ts ≡ None → parsed powers ts ≡ parsed_exponents t rest → EndsUnary rest
    → parsed unary ts ≡ Some (t, rest)
unary-read ts rest t first e ends =
    parsed-is unary ts ∙ (ap (λ (x : Option (List Token)). unary_step whole_readers x ts) first ∙ (e ∙ exponents-end t rest ends.no_caret))

pub powers-read : (ts rest : List Token) (t : Tree) → parsed primary ts ≡ Some (t, rest) → parsed powers ts ≡ parsed_exponents t rest
powers-read ts rest t e = parsed-is powers ts ∙ ap (λ (z : Parsed Tree). z >>= λ a r. parsed_exponents a r) e

pub term-read : (ts rest : List Token) (t : Tree) → parsed unary ts ≡ Some (t, rest) → parsed term ts ≡ parsed_operands term t rest
term-read ts rest t e = parsed-is term ts ∙ ap (λ (z : Parsed Tree). z >>= λ a r. parsed_operands term a r) e

pub sum-read : (ts rest : List Token) (t : Tree) → parsed term ts ≡ parsed_operands term t rest → EndsSum rest → parsed sum ts ≡ parsed_operands sum t rest
sum-read ts rest t e ends =
    parsed-is sum ts ∙ ap (λ (z : Parsed Tree). z >>= λ a r. parsed_operands sum a r) (e ∙ operands-end term t rest ends.no_product)

pub comparison-read : (ts rest : List Token) (t : Tree) → parsed sum ts ≡ parsed_operands sum t rest → EndsComparison rest → parsed comparison ts ≡ Some (t, rest)
comparison-read ts rest t e ends =
    parsed-is comparison ts
    ∙ (ap (λ (z : Parsed Tree). z >>= λ a r. sides whole_readers a (comparison_in_front r) r) (e ∙ operands-end sum t rest ends.no_sum)
    ∙ ap (λ (x : Option (o.CompareOp × List Token)). sides whole_readers t x rest) ends.no_comparison)

pub expression-read : (ts rest : List Token) (t : Tree) → parsed comparison ts ≡ Some (t, rest) → EndsExpression rest → parsed expression ts ≡ Some (t, rest)
expression-read ts rest t e ends =
    parsed-is expression ts
    ∙ (ap (λ (z : Parsed Tree). z >>= λ c r. arms whole_readers c (behind_sign sign.Question r) r) e
    ∙ ap (λ (x : Option (List Token)). arms whole_readers t x rest) ends.no_question)

-- a primary alone is an expression
primary-expression : (ts rest : List Token) (t : Tree) → behind_sign sign.Minus ts ≡ None → parsed primary ts ≡ Some (t, rest) → EndsExpression rest
    → parsed expression ts ≡ Some (t, rest)
primary-expression ts rest t first e ends =
    let c : EndsComparison rest = ends.ends in
    let m : EndsSum rest = c.ends in
    expression-read ts rest t
    (comparison-read ts rest t
    (sum-read ts rest t (term-read ts rest t (unary-read ts rest t first (powers-read ts rest t e) m.ends)) m) c) ends

-- signs that end an expression, or an operand

pub ends_at_colon : (rest : List Token) → EndsExpression (token.Sign sign.Colon ∷ rest)
ends_at_colon rest = record {
  ends = record { ends = record { ends = record { no_dot = refl; no_unit = refl; no_caret = refl }; no_product = refl }; no_sum = refl; no_comparison = refl };
  no_question = refl;
}

pub ends_at_close : (rest : List Token) → EndsExpression (token.Sign sign.Close ∷ rest)
ends_at_close rest = record {
  ends = record { ends = record { ends = record { no_dot = refl; no_unit = refl; no_caret = refl }; no_product = refl }; no_sum = refl; no_comparison = refl };
  no_question = refl;
}

pub ends_at_separator : {x : s.Sign} → IsSeparator x → (rest : List Token) → EndsExpression (token.Sign x ∷ rest)
ends_at_separator semicolon rest = record {
  ends = record { ends = record { ends = record { no_dot = refl; no_unit = refl; no_caret = refl }; no_product = refl }; no_sum = refl; no_comparison = refl };
  no_question = refl;
}
ends_at_separator comma rest = record {
  ends = record { ends = record { ends = record { no_dot = refl; no_unit = refl; no_caret = refl }; no_product = refl }; no_sum = refl; no_comparison = refl };
  no_question = refl;
}

pub ends_at_question : (rest : List Token) → EndsComparison (token.Sign sign.Question ∷ rest)
ends_at_question rest = record {
  ends = record { ends = record { no_dot = refl; no_unit = refl; no_caret = refl }; no_product = refl };
  no_sum = refl;
  no_comparison = refl;
}

pub ends_at_comparison : (op : o.CompareOp) (rest : List Token) → EndsSum (token.Sign (compare_sign op) ∷ rest)
ends_at_comparison compare_op.Equal rest = record { ends = record { no_dot = refl; no_unit = refl; no_caret = refl }; no_product = refl }
ends_at_comparison compare_op.NotEqual rest = record { ends = record { no_dot = refl; no_unit = refl; no_caret = refl }; no_product = refl }
ends_at_comparison compare_op.Less rest = record { ends = record { no_dot = refl; no_unit = refl; no_caret = refl }; no_product = refl }
ends_at_comparison compare_op.LessOrEqual rest = record { ends = record { no_dot = refl; no_unit = refl; no_caret = refl }; no_product = refl }
ends_at_comparison compare_op.Greater rest = record { ends = record { no_dot = refl; no_unit = refl; no_caret = refl }; no_product = refl }
ends_at_comparison compare_op.GreaterOrEqual rest = record { ends = record { no_dot = refl; no_unit = refl; no_caret = refl }; no_product = refl }

pub comparison-in_front : (op : o.CompareOp) (rest : List Token) → comparison_in_front (token.Sign (compare_sign op) ∷ rest) ≡ Some (op, rest)
comparison-in_front compare_op.Equal rest = refl
comparison-in_front compare_op.NotEqual rest = refl
comparison-in_front compare_op.Less rest = refl
comparison-in_front compare_op.LessOrEqual rest = refl
comparison-in_front compare_op.Greater rest = refl
comparison-in_front compare_op.GreaterOrEqual rest = refl

pub ends_at_operation : (op : b.BinaryOp) (ts rest : List Token) → Ends (binary_level op) ts (token.Sign (binary_sign op) ∷ rest)
ends_at_operation binary_op.Plus ts rest = record { ends = record { no_dot = refl; no_unit = refl; no_caret = refl }; no_product = refl }
ends_at_operation binary_op.Minus ts rest = record { ends = record { no_dot = refl; no_unit = refl; no_caret = refl }; no_product = refl }
ends_at_operation binary_op.Times ts rest = record { no_dot = refl; no_unit = refl; no_caret = refl }
ends_at_operation binary_op.Over ts rest = record { no_dot = refl; no_unit = refl; no_caret = refl }
ends_at_operation binary_op.Modulo ts rest = record { no_dot = refl; no_unit = refl; no_caret = refl }

pub operation-in_front : (op : b.BinaryOp) (rest : List Token)
    → operation_in_front (binary_level op) (token.Sign (binary_sign op) ∷ rest) ≡ Some (op, rest)
operation-in_front binary_op.Plus rest = refl
operation-in_front binary_op.Minus rest = refl
operation-in_front binary_op.Times rest = refl
operation-in_front binary_op.Over rest = refl
operation-in_front binary_op.Modulo rest = refl

pub closing-operation : (op : b.BinaryOp) (t : Tree) (rest : List Token) → closing (binary_level op) t rest ≡ parsed_operands (binary_level op) t rest
closing-operation binary_op.Plus t rest = refl
closing-operation binary_op.Minus t rest = refl
closing-operation binary_op.Times t rest = refl
closing-operation binary_op.Over t rest = refl
closing-operation binary_op.Modulo t rest = refl

-- what ends an operation ends its right operand
pub ends_right : (op : b.BinaryOp) (ts us rest : List Token) → Ends (binary_level op) ts rest → Ends (right_level op) us rest
ends_right binary_op.Plus ts us rest e = e.ends
ends_right binary_op.Minus ts us rest e = e.ends
ends_right binary_op.Times ts us rest e = e
ends_right binary_op.Over ts us rest e = e
ends_right binary_op.Modulo ts us rest e = e

pub right-closing : (op : b.BinaryOp) (ts rest : List Token) (t : Tree) → Ends (binary_level op) ts rest → closing (right_level op) t rest ≡ Some (t, rest)
right-closing binary_op.Plus ts rest t e = operands-end term t rest e.no_product
right-closing binary_op.Minus ts rest t e = operands-end term t rest e.no_product
right-closing binary_op.Times ts rest t e = refl
right-closing binary_op.Over ts rest t e = refl
right-closing binary_op.Modulo ts rest t e = refl

-- a power does not begin with a minus

abbrev pub IsTight : Level → Type 0
IsTight powers = Unit {0}
IsTight primary = Unit {0}
IsTight _ = ⊥

operation-not_tight : (op : b.BinaryOp) → IsTight (binary_level op) → ⊥
operation-not_tight binary_op.Plus h = h
operation-not_tight binary_op.Minus h = h
operation-not_tight binary_op.Times h = h
operation-not_tight binary_op.Over h = h
operation-not_tight binary_op.Modulo h = h

parts-no_minus : (x : w.Owner) (y : SlotName) (rest : List Token) → behind_sign sign.Minus ((owner_tokens x ++ slot_tokens y) ++ rest) ≡ None
parts-no_minus owner.Here (slot.Plain name) rest = refl
parts-no_minus owner.Here (slot.Component name part) rest = refl
parts-no_minus owner.Here (slot.Marked place) rest = refl
parts-no_minus (owner.ByName name) y rest = refl
parts-no_minus (owner.ByLabel label) y rest = refl

path-no_minus : {ts : List Token} {p : Path} → IsPathOf ts p → (rest : List Token) → behind_sign sign.Minus (ts ++ rest) ≡ None
path-no_minus (plain p can) rest = parts-no_minus p.owner p.slot rest
path-no_minus (behind_point x) rest = refl

pub no_minus : {l : Level} {ts : List Token} {t : Tree} → HasTree l ts t → IsTight l → (rest : List Token) → behind_sign sign.Minus (ts ++ rest) ≡ None
no_minus (a_comparison h) tight rest = absurd tight
no_minus (a_sum h) tight rest = absurd tight
no_minus (a_term h) tight rest = absurd tight
no_minus (a_unary h) tight rest = absurd tight
no_minus (a_power h) tight rest = absurd tight
no_minus (a_primary h) tight rest = no_minus h tt rest
no_minus (a_conditional c x y) tight rest = absurd tight
no_minus (a_compare op x y) tight rest = absurd tight
no_minus (a_binary op x y) tight rest = absurd (operation-not_tight op tight)
no_minus (a_negate h) tight rest = absurd tight
no_minus (a_raised {ts} {ns} h not_held n) tight rest =
    ap (behind_sign sign.Minus) (append_assoc ts (token.Sign sign.Caret ∷ ns) rest) ∙ no_minus h tt (token.Sign sign.Caret ∷ (ns ++ rest))
no_minus (a_numeral amount number) tight rest = refl
no_minus (a_measure amount number u) tight rest = refl
no_minus (a_unit name) tight rest = refl
no_minus (a_flag v) tight rest = refl
no_minus (a_text t) tight rest = refl
no_minus (a_path p) tight rest = path-no_minus p rest
no_minus (in_brackets h) tight rest = refl
no_minus (a_function op h) tight rest = refl
no_minus (a_modulo between sep x y) tight rest = refl
no_minus (an_aggregate op h) tight rest = refl

-- calls

function-named : (op : f.FunctionOp) → function_named (function_name op) ≡ Some op
function-named function_op.Abs = refl
function-named function_op.Ceil = refl
function-named function_op.Floor = refl
function-named function_op.Round = refl
function-named function_op.Trunc = refl

pub called-aggregate : (op : g.AggregateOp) (ts : List Token)
    → primary_step whole_readers (token.Function (aggregate_name op) ∷ token.Sign sign.Open ∷ ts) ≡ called whole_readers None false (Some op) ts
called-aggregate aggregate_op.Sum ts = refl
called-aggregate aggregate_op.Average ts = refl
called-aggregate aggregate_op.Count ts = refl
called-aggregate aggregate_op.Min ts = refl
called-aggregate aggregate_op.Max ts = refl

pub called-function : (op : f.FunctionOp) (ts : List Token)
    → primary_step whole_readers (token.Function (function_name op) ∷ token.Sign sign.Open ∷ ts)
    ≡ with_bracket (parsed expression ts >>= λ a rest. Some (function op a, rest))
called-function function_op.Abs ts = refl
called-function function_op.Ceil ts = refl
called-function function_op.Floor ts = refl
called-function function_op.Round ts = refl
called-function function_op.Trunc ts = refl

pub separator-in_front : {x : s.Sign} → IsSeparator x → (rest : List Token) → behind_separator (token.Sign x ∷ rest) ≡ Some rest
separator-in_front semicolon rest = refl
separator-in_front comma rest = refl

-- areas

corner-of : {x : Token} {p : Place} → IsCorner x p → corner_of x ≡ Some p
corner-of (named name place e) = e
corner-of (marked place) = refl

-- an argument ends before these tokens
pub record EndsArgument (rest : List Token) : Type 0 where
  pub sign : s.Sign
  pub after : List Token
  pub rest_is : rest ≡ token.Sign sign ∷ after
  pub ends : argument_ends (Some (sign, after)) ≡ true

pub separator-ends : {x : s.Sign} → IsSeparator x → (after : List Token) → EndsArgument (token.Sign x ∷ after)
separator-ends {x} semicolon after = record { sign = sign.Semicolon; after = after; rest_is = refl; ends = refl }
separator-ends {x} comma after = record { sign = sign.Comma; after = after; rest_is = refl; ends = refl }

pub area-read : (area : Block) {x y : Token} → IsCorner x area.from → IsCorner y area.to → IsBlock area → (rest : List Token) → EndsArgument rest
    → area_in_front (x ∷ token.Sign sign.Colon ∷ y ∷ rest) ≡ Some (area, rest)
area-read area {x} {y} from to block rest e =
    let corners : is_block area.from area.to ≡ true =
    and_from (nat_le area.from.column area.to.column) (nat_le area.from.row area.to.row) (le-leb area.from.column area.to.column block.columns)
    (le-leb area.from.row area.to.row block.rows) in
    let ends : argument_ends (sign_in_front rest) ≡ true = ap (λ (z : List Token). argument_ends (sign_in_front z)) e.rest_is ∙ e.ends in
    ap (λ (z : Option Place). area_of z (corner_of y) rest) (corner-of from)
    ∙ (ap (λ (z : Option Place). area_of (Some area.from) z rest) (corner-of to)
    ∙ ap (λ (v : Bool). cond v (Some (area, rest)) None)
    (and_from (is_block area.from area.to) (argument_ends (sign_in_front rest)) corners ends))

-- a corner before a colon is a path, and the colon is left
corner-expression : {x : Token} {p : Place} → IsCorner x p → (rest : List Token)
    → (t : Tree) × (parsed expression (x ∷ token.Sign sign.Colon ∷ rest) ≡ Some (t, token.Sign sign.Colon ∷ rest))
corner-expression (named name place e) rest =
    let own : Path = record { owner = owner.Here; slot = slot.Plain name } in
    let ts : List Token = token.Name name ∷ token.Sign sign.Colon ∷ rest in
    (path own, primary-expression ts (token.Sign sign.Colon ∷ rest) (path own) refl (parsed-is primary ts) (ends_at_colon rest))
corner-expression (marked place) rest =
    let own : Path = record { owner = owner.Here; slot = slot.Marked place } in
    let ts : List Token = token.Marked place ∷ token.Sign sign.Colon ∷ rest in
    (path own, primary-expression ts (token.Sign sign.Colon ∷ rest) (path own) refl (parsed-is primary ts) (ends_at_colon rest))

-- where a tree ends at the end of an argument, no area stands in front
colon_ends : (after mid : List Token) (x : s.Sign) → argument_ends (Some (x, after)) ≡ true → token.Sign x ∷ after ≡ token.Sign sign.Colon ∷ mid → ⊥
colon_ends after mid x h e = let k : x ≡ sign.Colon = cc in let v : argument_ends (Some (sign.Colon, after)) ≡ true = subst (λ (z : s.Sign). argument_ends (Some (z, after)) ≡ true) k h in absurd (cc)

-- the rest, and the tree, of what is read

abbrev pub rest_of : Parsed Tree → List Token
rest_of None = []
rest_of (Some x) = x.1

abbrev pub tree_of : Parsed Tree → Tree
tree_of None = flag false
tree_of (Some x) = x.0

no_area-by : (ts rest : List Token) (t : Tree) → parsed expression ts ≡ Some (t, rest) → EndsArgument rest → (x : Parsed Block) → AllParsed (BeginsWithArea ts) x → x ≡ None
no_area-by ts rest t e ends None h = refl
no_area-by ts rest t e ends (Some x) h =
    let found : (u : Tree) × (parsed expression (h.first ∷ token.Sign sign.Colon ∷ h.last ∷ x.1) ≡ Some (u, token.Sign sign.Colon ∷ h.last ∷ x.1)) = corner-expression h.from (h.last ∷ x.1) in
    let same : Some (found.0, token.Sign sign.Colon ∷ h.last ∷ x.1) ≡ Some (t, rest) =
    sym found.1 ∙ (ap (λ (z : List Token). parsed expression z) (sym h.split) ∙ e) in
    let left : token.Sign sign.Colon ∷ h.last ∷ x.1 ≡ rest = ap rest_of same in
    absurd (colon_ends ends.after (h.last ∷ x.1) ends.sign ends.ends (sym (left ∙ ends.rest_is)))

pub no_area : (ts rest : List Token) (t : Tree) → parsed expression ts ≡ Some (t, rest) → EndsArgument rest → area_in_front ts ≡ None
no_area ts rest t e ends = no_area-by ts rest t e ends (area_in_front ts) (area_in_front-rest ts)
