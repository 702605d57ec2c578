-- What the descent leaves is shorter than what it was given.
use Rattle.std.proofs.Common.{◌≡◌, ℕ, ◌<◌, ◌≤◌, List, ◌++◌, length, None, Some, ap, arith, length-append}
use Rattle.object_paths.specs.declared.slot_name.SlotName.{SlotName}
use Rattle.object_paths.specs.declared.slot_name.SlotName.TheVariants as slot
use Rattle.object_paths.specs.declared.path.Owner as w
use Rattle.object_paths.specs.declared.path.Owner.TheVariants as owner
use Rattle.object_paths.specs.declared.path.Path.{Path}
use Rattle.expr_tokens.specs.declared.token.Token.{Token}
use Rattle.expr_grammar.specs.Descent.{Parsed, Readers}
use Rattle.expr_grammar.specs.Grammar.{Level, HasTree, a_comparison, a_sum, a_term, a_unary, a_power, a_primary, a_conditional, a_compare, a_binary, a_negate, a_raised, a_numeral, a_measure, a_unit, a_flag, a_text, a_path, in_brackets, a_function, a_modulo, an_aggregate, HasArguments, one_tree, more_trees, one_area, more_areas}
use Rattle.expr_grammar.specs.PathTokens.{owner_tokens, slot_tokens, IsPathOf, plain, behind_point}
use Rattle.expr_tree.specs.Tree.{Tree, Arguments}
use Rattle.expr_grammar.proofs.FrontLemmas.{AllParsed}
use Rattle.expr_grammar.proofs.DescentSound.{ReadsTree, GoesOn, RaisesBase, ReadsArguments, Sound}

path_parts-long : (o : w.Owner) (x : SlotName) → 0 < length (owner_tokens o ++ slot_tokens x)
path_parts-long owner.Here (slot.Plain name) = omega arith
path_parts-long owner.Here (slot.Component name part) = omega arith
path_parts-long owner.Here (slot.Marked place) = omega arith
path_parts-long (owner.ByName name) x = omega arith
path_parts-long (owner.ByLabel label) x = omega arith

path-long : {ts : List Token} {p : Path} → IsPathOf ts p → 0 < length ts
path-long (plain p can) = path_parts-long p.owner p.slot
path-long (behind_point slot) = omega arith

front-long : (xs ys : List Token) → 0 < length xs → 0 < length (xs ++ ys)
front-long xs ys h = omega (arith, length-append xs ys, h)

-- each tree has a token
mutual
  pub tree-long : {l : Level} {ts : List Token} {t : Tree} → HasTree l ts t → 0 < length ts
  tree-long (a_comparison h) = tree-long h
  tree-long (a_sum h) = tree-long h
  tree-long (a_term h) = tree-long h
  tree-long (a_unary h) = tree-long h
  tree-long (a_power h) = tree-long h
  tree-long (a_primary h) = tree-long h
  tree-long (a_conditional {xs} {ys} {zs} c a b) = front-long xs _ (tree-long c)
  tree-long (a_compare op {xs} {ys} a b) = front-long xs _ (tree-long a)
  tree-long (a_binary op {xs} {ys} a b) = front-long xs _ (tree-long a)
  tree-long (a_negate h) = omega arith
  tree-long (a_raised {ts} {ns} h not_held n) = front-long ts _ (tree-long h)
  tree-long (a_numeral amount number) = omega arith
  tree-long (a_measure amount number u) = omega arith
  tree-long (a_unit name) = omega arith
  tree-long (a_flag b) = omega arith
  tree-long (a_text t) = omega arith
  tree-long (a_path p) = path-long p
  tree-long (in_brackets h) = omega arith
  tree-long (a_function op h) = omega arith
  tree-long (a_modulo between sep a b) = omega arith
  tree-long (an_aggregate op h) = omega arith

  pub arguments-long : {ts : List Token} {all : Arguments} → HasArguments ts all → 0 < length ts
  arguments-long (one_tree h) = tree-long h
  arguments-long (more_trees between sep {ts} {us} h more) = front-long ts _ (tree-long h)
  arguments-long (one_area area x y block) = omega arith
  arguments-long (more_areas between sep area x y block more) = omega arith

-- something read leaves fewer tokens, or no more
abbrev pub LeavesBelow : {A : Type 0} → ℕ → Parsed A → Type 0
LeavesBelow {A} n x = AllParsed (λ (a : A) rest. length rest < n) x

abbrev pub LeavesUpTo : {A : Type 0} → ℕ → Parsed A → Type 0
LeavesUpTo {A} n x = AllParsed (λ (a : A) rest. length rest ≤ n) x

below_split : (ts used rest : List Token) → ts ≡ used ++ rest → 0 < length used → length rest < length ts
below_split ts used rest e h = omega (arith, length-append used rest, ap length e, h)

up_to_split : (ts used rest : List Token) → ts ≡ used ++ rest → length rest ≤ length ts
up_to_split ts used rest e = omega (arith, length-append used rest, ap length e)

tree-leaves : (l : Level) (ts : List Token) (x : Parsed Tree) → AllParsed (ReadsTree l ts) x → LeavesBelow (length ts) x
tree-leaves l ts None h = tt
tree-leaves l ts (Some x) h = below_split ts h.used x.1 h.split (tree-long h.tree)

operands-leaves : (l : Level) (left : Tree) (ts : List Token) (x : Parsed Tree) → AllParsed (GoesOn l left ts) x → LeavesUpTo (length ts) x
operands-leaves l left ts None h = tt
operands-leaves l left ts (Some x) h = up_to_split ts h.used x.1 h.split

exponents-leaves : (base : Tree) (ts : List Token) (x : Parsed Tree) → AllParsed (RaisesBase base ts) x → LeavesUpTo (length ts) x
exponents-leaves base ts None h = tt
exponents-leaves base ts (Some x) h = up_to_split ts h.used x.1 h.split

arguments-leaves : (ts : List Token) (x : Parsed Arguments) → AllParsed (ReadsArguments ts) x → LeavesBelow (length ts) x
arguments-leaves ts None h = tt
arguments-leaves ts (Some x) h = below_split ts h.used x.1 h.split (arguments-long h.arguments)

-- readers that leave less
pub record Leaving (r : Readers) : Type 0 where
  pub of_level : (l : Level) (ts : List Token) → LeavesBelow (length ts) (r.of_level l ts)
  pub operands : (l : Level) (left : Tree) (ts : List Token) → LeavesUpTo (length ts) (r.operands l left ts)
  pub exponents : (base : Tree) (ts : List Token) → LeavesUpTo (length ts) (r.exponents base ts)
  pub arguments : (ts : List Token) → LeavesBelow (length ts) (r.arguments ts)

pub sound-leaving : (r : Readers) → Sound r → Leaving r
sound-leaving r so = record {
  of_level = λ l ts. tree-leaves l ts (r.of_level l ts) (so.of_level l ts);
  operands = λ l left ts. operands-leaves l left ts (r.operands l left ts) (so.operands l left ts);
  exponents = λ base ts. exponents-leaves base ts (r.exponents base ts) (so.exponents base ts);
  arguments = λ ts. arguments-leaves ts (r.arguments ts) (so.arguments ts);
}
