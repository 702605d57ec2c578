-- Reading a tree from the front of a list of tokens: one step of it, over what reads the parts.
use Rattle.std.specs.Prelude.{ℕ, zero, suc, ◌+◌, ◌*◌, ℤ, pos, neg_ℤ, Bool, true, false, ◌&&◌, nat_le, nat_lt, if◌then◌else◌, List, [], ◌∷◌, length, Option, None, Some}
use Rattle.std.specs.Option.{option_map}
use Rattle.std.specs.Str.{bytes_eq}
use Rattle.fc_base.specs.Places.{Place, Block, address_of}
use Rattle.fc_base.specs.Texts.{is_label}
use Rattle.object_paths.specs.PathParts.{component_of}
use Rattle.object_paths.specs.declared.slot_name.Component as c
use Rattle.object_paths.specs.declared.slot_name.SlotName.{SlotName}
use Rattle.object_paths.specs.declared.slot_name.SlotName.TheVariants as slot
use Rattle.object_paths.specs.declared.path.Owner.TheVariants as owner
use Rattle.object_paths.specs.declared.path.Path.{Path}
use Rattle.expr_tree.specs.declared.operators.BinaryOp as b
use Rattle.expr_tree.specs.declared.operators.BinaryOp.TheVariants as binary_op
use Rattle.expr_tree.specs.declared.operators.CompareOp as o
use Rattle.expr_tree.specs.declared.operators.CompareOp.TheVariants as compare_op
use Rattle.expr_tree.specs.declared.functions.FunctionOp as f
use Rattle.expr_tree.specs.declared.functions.AggregateOp as g
use Rattle.expr_tokens.specs.declared.sign.Sign as s
use Rattle.expr_tokens.specs.declared.sign.Sign.TheVariants as sign
use Rattle.expr_tokens.specs.declared.token.Token.{Token}
use Rattle.expr_tokens.specs.declared.token.Token.TheVariants as token
use Rattle.expr_tree.specs.Functions.{function_named, modulo_name, aggregate_named}
use Rattle.expr_grammar.specs.Grammar.{Level, expression, comparison, sum, term, unary, powers, primary, right_level}
use Rattle.expr_tokens.specs.SignNumbers.{same_sign}
use Rattle.expr_tree.specs.Tree.{Tree, literal, unit_one, flag, text, path, negate, binary, power, compare, conditional, function, modulo, aggregate, Arguments, no_more, tree, cells}

-- something read, and the tokens behind it
abbrev pub Parsed : Type 0 → Type 0
Parsed A = Option (A × List Token)

-- goes on behind what was read
infixl 10 ◌>>=◌
abbrev pub ◌>>=◌ : {A B : Type 0} → Parsed A → (A → List Token → Parsed B) → Parsed B
None >>= next = None
(Some x) >>= next = next x.0 x.1

-- What reads the parts of a phrase: a tree of a level, the rest of a sum or a product behind its
-- first operands, further powers behind a base, and a list of arguments.
pub record Readers : Type 0 where
  pub of_level : Level → List Token → Parsed Tree
  pub operands : Level → Tree → List Token → Parsed Tree
  pub exponents : Tree → List Token → Parsed Tree
  pub arguments : List Token → Parsed Arguments

-- what follows the sign, where the tokens begin with it
abbrev pub behind_sign : s.Sign → List Token → Option (List Token)
behind_sign x [] = None
behind_sign x (token.Sign y ∷ ts) = if same_sign x y then Some ts else None
behind_sign x (token.Numeral amount number ∷ ts) = None
behind_sign x (token.Unit name ∷ ts) = None
behind_sign x (token.Flag b ∷ ts) = None
behind_sign x (token.Name name ∷ ts) = None
behind_sign x (token.Function name ∷ ts) = None
behind_sign x (token.Marked place ∷ ts) = None
behind_sign x (token.Text t ∷ ts) = None

-- the sign in front, and what follows it
abbrev pub sign_in_front : List Token → Option (s.Sign × List Token)
sign_in_front [] = None
sign_in_front (token.Sign x ∷ ts) = Some (x, ts)
sign_in_front (token.Numeral amount number ∷ ts) = None
sign_in_front (token.Unit name ∷ ts) = None
sign_in_front (token.Flag b ∷ ts) = None
sign_in_front (token.Name name ∷ ts) = None
sign_in_front (token.Function name ∷ ts) = None
sign_in_front (token.Marked place ∷ ts) = None
sign_in_front (token.Text t ∷ ts) = None

-- the name in front, and what follows it
abbrev pub name_in_front : List Token → Option (List ℕ × List Token)
name_in_front [] = None
name_in_front (token.Name name ∷ ts) = Some (name, ts)
name_in_front (token.Sign x ∷ ts) = None
name_in_front (token.Numeral amount number ∷ ts) = None
name_in_front (token.Unit name ∷ ts) = None
name_in_front (token.Flag b ∷ ts) = None
name_in_front (token.Function name ∷ ts) = None
name_in_front (token.Marked place ∷ ts) = None
name_in_front (token.Text t ∷ ts) = None

-- the number that one or two digits in front write, and what follows it
abbrev pub digits_in_front : List Token → Option (ℕ × List Token)
digits_in_front [] = None
digits_in_front (token.Numeral amount None ∷ ts) = None
digits_in_front (token.Numeral amount (Some n) ∷ ts) = if nat_lt n 100 then Some (n, ts) else None
digits_in_front (token.Name name ∷ ts) = None
digits_in_front (token.Sign x ∷ ts) = None
digits_in_front (token.Unit name ∷ ts) = None
digits_in_front (token.Flag b ∷ ts) = None
digits_in_front (token.Function name ∷ ts) = None
digits_in_front (token.Marked place ∷ ts) = None
digits_in_front (token.Text t ∷ ts) = None

-- an exponent
abbrev pub signed_exponent : Option (List Token) → List Token → Parsed ℤ
signed_exponent None ts = digits_in_front ts >>= λ n rest. Some (pos n, rest)
signed_exponent (Some ts) whole = digits_in_front ts >>= λ n rest. Some (neg_ℤ (pos n), rest)

unfoldable pub exponent_in_front : List Token → Parsed ℤ
exponent_in_front ts = signed_exponent (behind_sign sign.Minus ts) ts

-- a number whose unit has an exponent behind `^`, or none
abbrev pub measured : ℤ → List ℕ → Option (List Token) → List Token → Parsed Tree
measured amount name None ts = Some (literal amount (Some (record { unit = name; exponent = pos 1 })), ts)
measured amount name (Some rest) ts =
    exponent_in_front rest >>= λ n rest. Some (literal amount (Some (record { unit = name; exponent = n })), rest)

-- a number, with what stands behind it
abbrev pub numeral_behind : ℤ → List Token → Parsed Tree
numeral_behind amount [] = Some (literal amount None, [])
numeral_behind amount (token.Unit name ∷ ts) = measured amount name (behind_sign sign.Caret ts) ts
numeral_behind amount (token.Name name ∷ ts) = Some (literal amount None, token.Name name ∷ ts)
numeral_behind amount (token.Sign x ∷ ts) = Some (literal amount None, token.Sign x ∷ ts)
numeral_behind amount (token.Numeral second number ∷ ts) = Some (literal amount None, token.Numeral second number ∷ ts)
numeral_behind amount (token.Flag b ∷ ts) = Some (literal amount None, token.Flag b ∷ ts)
numeral_behind amount (token.Function name ∷ ts) = Some (literal amount None, token.Function name ∷ ts)
numeral_behind amount (token.Marked place ∷ ts) = Some (literal amount None, token.Marked place ∷ ts)
numeral_behind amount (token.Text t ∷ ts) = Some (literal amount None, token.Text t ∷ ts)

-- the last name of a component, of that group
abbrev pub part_of : List ℕ → Option (List ℕ × List Token) → Parsed c.Component
part_of group None = None
part_of group (Some x) = option_map (λ part. (part, x.1)) (component_of group x.0)

-- a component, of what follows its placement's name and a point
abbrev pub part_behind : List ℕ → Option (List Token) → Parsed c.Component
part_behind group None = None
part_behind group (Some ts) = part_of group (name_in_front ts)

abbrev pub component_of_group : Option (List ℕ × List Token) → Parsed c.Component
component_of_group None = None
component_of_group (Some x) = part_behind x.0 (behind_sign sign.Dot x.1)

-- a slot that begins with that name
abbrev pub slot_behind_name : List ℕ → Option (List Token) → List Token → Parsed SlotName
slot_behind_name name None ts = Some (slot.Plain name, ts)
slot_behind_name name (Some rest) ts = component_of_group (name_in_front rest) >>= λ part rest. Some (slot.Component name part, rest)

-- a slot
abbrev pub slot_in_front : List Token → Parsed SlotName
slot_in_front [] = None
slot_in_front (token.Name name ∷ ts) = slot_behind_name name (behind_sign sign.Dot ts) ts
slot_in_front (token.Marked place ∷ ts) = Some (slot.Marked place, ts)
slot_in_front (token.Sign x ∷ ts) = None
slot_in_front (token.Numeral amount number ∷ ts) = None
slot_in_front (token.Unit name ∷ ts) = None
slot_in_front (token.Flag b ∷ ts) = None
slot_in_front (token.Function name ∷ ts) = None
slot_in_front (token.Text t ∷ ts) = None

-- three names joined by points are a component of the object itself, and four one of an owner
abbrev pub behind_third_name : List ℕ → List ℕ → List ℕ → Option (List Token) → List Token → Parsed Path
behind_third_name first second third None ts =
    option_map (λ part. (record { owner = owner.Here; slot = slot.Component first part }, ts)) (component_of second third)
behind_third_name first second third (Some rest) ts =
    part_of third (name_in_front rest) >>= λ part rest. Some (record { owner = owner.ByName first; slot = slot.Component second part }, rest)

abbrev pub third_name : List ℕ → List ℕ → Option (List ℕ × List Token) → Parsed Path
third_name first second None = None
third_name first second (Some x) = behind_third_name first second x.0 (behind_sign sign.Dot x.1) x.1

-- two names joined by a point are an owner and a slot
abbrev pub behind_second_name : List ℕ → List ℕ → Option (List Token) → List Token → Parsed Path
behind_second_name first second None ts = Some (record { owner = owner.ByName first; slot = slot.Plain second }, ts)
behind_second_name first second (Some rest) ts = third_name first second (name_in_front rest)

-- what follows a name and a point
abbrev pub behind_owner : List ℕ → List Token → Parsed Path
behind_owner name [] = None
behind_owner name (token.Name second ∷ ts) = behind_second_name name second (behind_sign sign.Dot ts) ts
behind_owner name (token.Marked place ∷ ts) = Some (record { owner = owner.ByName name; slot = slot.Marked place }, ts)
behind_owner name (token.Sign x ∷ ts) = None
behind_owner name (token.Numeral amount number ∷ ts) = None
behind_owner name (token.Unit second ∷ ts) = None
behind_owner name (token.Flag b ∷ ts) = None
behind_owner name (token.Function second ∷ ts) = None
behind_owner name (token.Text t ∷ ts) = None

-- a path that begins with that name
abbrev pub named_path : List ℕ → Option (List Token) → List Token → Parsed Path
named_path name None ts = Some (record { owner = owner.Here; slot = slot.Plain name }, ts)
named_path name (Some rest) ts = behind_owner name rest

-- a path as a tree
abbrev pub as_tree : Parsed Path → Parsed Tree
as_tree p = p >>= λ p rest. Some (path p, rest)

-- a path of that owner, or of the object itself
abbrev pub slot_of_label : List ℕ → List Token → Parsed Tree
slot_of_label label ts = slot_in_front ts >>= λ slot rest. Some (path (record { owner = owner.ByLabel label; slot = slot }), rest)

abbrev pub own_slot : List Token → Parsed Tree
own_slot ts = slot_in_front ts >>= λ slot rest. Some (path (record { owner = owner.Here; slot = slot }), rest)

-- a text, or a label with a slot behind a point
abbrev pub text_or_label : List ℕ → Option (List Token) → List Token → Parsed Tree
text_or_label t None ts = Some (text t, ts)
text_or_label t (Some rest) ts = if is_label t then slot_of_label t rest else None

-- a tree, where a closing bracket follows it
abbrev pub closed : Tree → Option (List Token) → Parsed Tree
closed t None = None
closed t (Some rest) = Some (t, rest)

abbrev pub with_bracket : Parsed Tree → Parsed Tree
with_bracket t = t >>= λ t rest. closed t (behind_sign sign.Close rest)

-- a sign between arguments
abbrev pub separates : s.Sign → Bool
separates sign.Semicolon = true
separates sign.Comma = true
separates _ = false

abbrev pub behind_separating : Option (s.Sign × List Token) → Option (List Token)
behind_separating None = None
behind_separating (Some x) = if separates x.0 then Some x.1 else None

-- what follows a `;` or `,`
abbrev pub behind_separator : List Token → Option (List Token)
behind_separator ts = behind_separating (sign_in_front ts)

-- the second argument of `mod`
abbrev pub second_argument : Readers → Tree → Option (List Token) → Parsed Tree
second_argument r a None = None
second_argument r a (Some ts) = with_bracket (r.of_level expression ts >>= λ b rest. Some (modulo a b, rest))

-- a call, by what its function is, of what follows the opening bracket
abbrev pub called : Readers → Option f.FunctionOp → Bool → Option g.AggregateOp → List Token → Parsed Tree
called r (Some op) two many ts = with_bracket (r.of_level expression ts >>= λ a rest. Some (function op a, rest))
called r None true many ts = r.of_level expression ts >>= λ a rest. second_argument r a (behind_separator rest)
called r None false (Some op) ts = with_bracket (r.arguments ts >>= λ all rest. Some (aggregate op all, rest))
called r None false None ts = None

-- a call of that name
abbrev pub call : Readers → List ℕ → Option (List Token) → Parsed Tree
call r name None = None
call r name (Some ts) = called r (function_named name) (bytes_eq name modulo_name) (aggregate_named name) ts

-- what begins with a sign: brackets, or a path of the object itself
abbrev pub signed_primary : Readers → s.Sign → List Token → Parsed Tree
signed_primary r sign.Open ts = with_bracket (r.of_level expression ts)
signed_primary r sign.Dot ts = own_slot ts
signed_primary r _ ts = None

-- what stands without an operation round it
abbrev pub primary_step : Readers → List Token → Parsed Tree
primary_step r [] = None
primary_step r (token.Numeral amount number ∷ ts) = numeral_behind amount ts
primary_step r (token.Unit name ∷ ts) = Some (unit_one name, ts)
primary_step r (token.Flag b ∷ ts) = Some (flag b, ts)
primary_step r (token.Name name ∷ ts) = as_tree (named_path name (behind_sign sign.Dot ts) ts)
primary_step r (token.Function name ∷ ts) = call r name (behind_sign sign.Open ts)
primary_step r (token.Marked place ∷ ts) = Some (path (record { owner = owner.Here; slot = slot.Marked place }), ts)
primary_step r (token.Text t ∷ ts) = text_or_label t (behind_sign sign.Dot ts) ts
primary_step r (token.Sign x ∷ ts) = signed_primary r x ts

-- behind a minus its operand, else a power
abbrev pub unary_step : Readers → Option (List Token) → List Token → Parsed Tree
unary_step r None ts = r.of_level powers ts
unary_step r (Some rest) ts = r.of_level unary rest >>= λ a rest. Some (negate a, rest)

-- the comparison of a sign
abbrev pub compare_of : s.Sign → Option o.CompareOp
compare_of sign.Equal = Some compare_op.Equal
compare_of sign.NotEqual = Some compare_op.NotEqual
compare_of sign.Less = Some compare_op.Less
compare_of sign.LessOrEqual = Some compare_op.LessOrEqual
compare_of sign.Greater = Some compare_op.Greater
compare_of sign.GreaterOrEqual = Some compare_op.GreaterOrEqual
compare_of _ = None

-- the operation of a sign between operands of a level
abbrev pub sum_of : s.Sign → Option b.BinaryOp
sum_of sign.Plus = Some binary_op.Plus
sum_of sign.Minus = Some binary_op.Minus
sum_of _ = None

abbrev pub product_of : s.Sign → Option b.BinaryOp
product_of sign.Asterisk = Some binary_op.Times
product_of sign.Slash = Some binary_op.Over
product_of sign.Percent = Some binary_op.Modulo
product_of _ = None

abbrev pub operation_of : Level → s.Sign → Option b.BinaryOp
operation_of sum x = sum_of x
operation_of term x = product_of x
operation_of _ x = None

-- the operation in front, and what follows it
abbrev pub with_tokens : {A : Type 0} → (s.Sign → Option A) → Option (s.Sign × List Token) → Option (A × List Token)
with_tokens meaning None = None
with_tokens meaning (Some x) = option_map (λ op. (op, x.1)) (meaning x.0)

abbrev pub operation_in_front : Level → List Token → Option (b.BinaryOp × List Token)
operation_in_front l ts = with_tokens (operation_of l) (sign_in_front ts)

abbrev pub comparison_in_front : List Token → Option (o.CompareOp × List Token)
comparison_in_front ts = with_tokens compare_of (sign_in_front ts)

-- behind the left operand: the sign and the right operand, and whatever further ones follow
abbrev pub operands_step : Readers → Level → Tree → Option (b.BinaryOp × List Token) → List Token → Parsed Tree
operands_step r l left None ts = Some (left, ts)
operands_step r l left (Some x) ts = r.of_level (right_level x.0) x.1 >>= λ right rest. r.operands l (binary x.0 left right) rest

-- behind a base: an exponent, and whatever further ones follow
abbrev pub exponents_step : Readers → Tree → Option (List Token) → List Token → Parsed Tree
exponents_step r base None ts = Some (base, ts)
exponents_step r base (Some rest) ts = exponent_in_front rest >>= λ n rest. r.exponents (power base n) rest

-- behind the left side: the sign and the right side, or nothing
abbrev pub sides : Readers → Tree → Option (o.CompareOp × List Token) → List Token → Parsed Tree
sides r left None ts = Some (left, ts)
sides r left (Some x) ts = r.of_level sum x.1 >>= λ right rest. Some (compare x.0 left right, rest)

-- behind a condition and `?`: both arms, with `:` between them
abbrev pub other_arm : Readers → Tree → Tree → Option (List Token) → Parsed Tree
other_arm r c a None = None
other_arm r c a (Some ts) = r.of_level expression ts >>= λ b rest. Some (conditional c a b, rest)

abbrev pub arms : Readers → Tree → Option (List Token) → List Token → Parsed Tree
arms r c None ts = Some (c, ts)
arms r c (Some rest) ts = r.of_level expression rest >>= λ a rest. other_arm r c a (behind_sign sign.Colon rest)

-- a tree of a level
abbrev pub level_step : Readers → Level → List Token → Parsed Tree
level_step r expression ts = r.of_level comparison ts >>= λ c rest. arms r c (behind_sign sign.Question rest) rest
level_step r comparison ts = r.of_level sum ts >>= λ a rest. sides r a (comparison_in_front rest) rest
level_step r sum ts = r.of_level term ts >>= λ a rest. r.operands sum a rest
level_step r term ts = r.of_level unary ts >>= λ a rest. r.operands term a rest
level_step r unary ts = unary_step r (behind_sign sign.Minus ts) ts
level_step r powers ts = r.of_level primary ts >>= λ a rest. r.exponents a rest
level_step r primary ts = primary_step r ts

-- a corner of an area
abbrev pub corner_of : Token → Option Place
corner_of (token.Name name) = address_of name
corner_of (token.Marked place) = Some place
corner_of (token.Sign x) = None
corner_of (token.Numeral amount number) = None
corner_of (token.Unit name) = None
corner_of (token.Flag b) = None
corner_of (token.Function name) = None
corner_of (token.Text t) = None

-- an argument may end before the sign
abbrev pub ends_argument : s.Sign → Bool
ends_argument sign.Semicolon = true
ends_argument sign.Comma = true
ends_argument sign.Close = true
ends_argument _ = false

abbrev pub argument_ends : Option (s.Sign × List Token) → Bool
argument_ends None = false
argument_ends (Some x) = ends_argument x.0

abbrev pub is_block : Place → Place → Bool
is_block p q = nat_le p.column q.column && nat_le p.row q.row

-- an area of these corners, where the argument ends behind it
abbrev pub area_of : Option Place → Option Place → List Token → Parsed Block
area_of None q rest = None
area_of (Some p) None rest = None
area_of (Some p) (Some q) rest = if is_block p q && argument_ends (sign_in_front rest) then Some (record { from = p; to = q }, rest) else None

abbrev pub second_corner : Option Place → Option (List Token) → Parsed Block
second_corner p None = None
second_corner p (Some []) = None
second_corner p (Some (y ∷ rest)) = area_of p (corner_of y) rest

-- an area that is an argument
abbrev pub area_in_front : List Token → Parsed Block
area_in_front [] = None
area_in_front (x ∷ ts) = second_corner (corner_of x) (behind_sign sign.Colon ts)

-- further arguments behind a separator, or none
abbrev pub further_arguments : Readers → (Arguments → Arguments) → Option (List Token) → List Token → Parsed Arguments
further_arguments r first None ts = Some (first no_more, ts)
further_arguments r first (Some rest) ts = r.arguments rest >>= λ all rest. Some (first all, rest)

abbrev pub arguments_behind : Readers → (Arguments → Arguments) → List Token → Parsed Arguments
arguments_behind r first ts = further_arguments r first (behind_separator ts) ts

-- an area or a tree, and further arguments
abbrev pub arguments_step : Readers → Parsed Block → List Token → Parsed Arguments
arguments_step r (Some x) ts = arguments_behind r (cells x.0) x.1
arguments_step r None ts = r.of_level expression ts >>= λ t rest. arguments_behind r (tree t) rest

-- readers made of readers of the parts
abbrev pub next_readers : Readers → Readers
next_readers r = record {
  of_level = λ l ts. level_step r l ts;
  operands = λ l left ts. operands_step r l left (operation_in_front l ts) ts;
  exponents = λ base ts. exponents_step r base (behind_sign sign.Caret ts) ts;
  arguments = λ ts. arguments_step r (area_in_front ts) ts;
}

-- readers that read nothing
abbrev pub no_readers : Readers
no_readers = record {
  of_level = λ l ts. None;
  operands = λ l left ts. None;
  exponents = λ base ts. None;
  arguments = λ ts. None;
}

-- readers that descend so many steps
unfoldable pub readers : ℕ → Readers
readers zero = no_readers
readers (suc n) = next_readers (readers n)

-- how many steps a level and all tighter ones take at one place
abbrev pub height : Level → ℕ
height expression = 7
height comparison = 6
height sum = 5
height term = 4
height unary = 3
height powers = 2
height primary = 1

-- enough steps for the tokens
abbrev pub level_steps : Level → List Token → ℕ
level_steps l ts = 9 * length ts + height l

abbrev pub further_steps : List Token → ℕ
further_steps ts = 9 * length ts + 1

abbrev pub argument_steps : List Token → ℕ
argument_steps ts = 9 * length ts + 8

-- readers that descend as far as the tokens go
unfoldable pub parsed : Level → List Token → Parsed Tree
parsed l ts = (readers (level_steps l ts)).of_level l ts

unfoldable pub parsed_operands : Level → Tree → List Token → Parsed Tree
parsed_operands l left ts = (readers (further_steps ts)).operands l left ts

unfoldable pub parsed_exponents : Tree → List Token → Parsed Tree
parsed_exponents base ts = (readers (further_steps ts)).exponents base ts

unfoldable pub parsed_arguments : List Token → Parsed Arguments
parsed_arguments ts = (readers (argument_steps ts)).arguments ts

abbrev pub whole_readers : Readers
whole_readers = record {
  of_level = λ l ts. parsed l ts;
  operands = λ l left ts. parsed_operands l left ts;
  exponents = λ base ts. parsed_exponents base ts;
  arguments = λ ts. parsed_arguments ts;
}

-- a tree of all tokens
abbrev pub of_all : Parsed Tree → Option Tree
of_all None = None
of_all (Some (t, [])) = Some t
of_all (Some (t, x ∷ ts)) = None
