-- Arguments are read one by one.
use Rattle.std.proofs.Common.{◌≡◌, List, [], ◌∷◌, ◌++◌, Some, None, refl, ap, sym, ◌∙◌}
use Rattle.fc_base.specs.Places.{Block}
use Rattle.expr_tree.specs.declared.expr.Argument.{Argument}
use Rattle.expr_tree.specs.declared.expr.Argument.TheVariants as argument
use Rattle.expr_tokens.specs.declared.token.Token.{Token}
use Rattle.expr_grammar.specs.Descent.{Parsed, ◌>>=◌, parsed, parsed_arguments, whole_readers, arguments_step, arguments_behind, behind_separator, area_in_front}
use Rattle.expr_grammar.specs.Grammar.{expression}
use Rattle.expr_tree.specs.NodesAsTrees.{arguments_of}
use Rattle.expr_tree.specs.Joined.{with_argument}
use Rattle.expr_grammar.specs.Reading.{area_or_tree, argument_in_front, behind_arguments}
use Rattle.expr_tree.specs.Tree.{Tree, Arguments, no_more, tree}
use Rattle.expr_tree.proofs.JoinedLemmas.{joined-append, joined-no_more}
use Rattle.expr_grammar.proofs.LevelEquations.{arguments_is}

-- a tree, as an argument, and what follows it
tree_step : (p : Parsed Tree) → (p >>= λ t rest. arguments_behind whole_readers (tree t) rest) ≡ (p >>= (λ t rest. Some (argument.Tree t, rest)) >>= λ x rest. arguments_behind whole_readers (with_argument x) rest)
tree_step None = refl
tree_step (Some x) = refl

-- an argument, and what follows it
front_step : (p : Parsed Block) (ts : List Token) → arguments_step whole_readers p ts ≡ (area_or_tree p ts >>= λ x rest. arguments_behind whole_readers (with_argument x) rest)
front_step (Some x) ts = refl
front_step None ts = tree_step (parsed expression ts)

arguments_front : (ts : List Token) → parsed_arguments ts ≡ (argument_in_front ts >>= λ x rest. arguments_behind whole_readers (with_argument x) rest)
arguments_front ts = arguments_is ts ∙ front_step (area_in_front ts) ts

pub argument_none : (xs : List Argument) (ts : List Token) → argument_in_front ts ≡ None → behind_arguments xs (parsed_arguments ts) ≡ None
argument_none xs ts h = rw (arguments_front ts, h)

pub argument_last : (xs : List Argument) (x : Argument) (ts rest : List Token) → argument_in_front ts ≡ Some (x, rest) → behind_separator rest ≡ None
    → behind_arguments xs (parsed_arguments ts) ≡ Some (arguments_of (xs ++ x ∷ []), rest)
argument_last xs x ts rest h e = rw (arguments_front ts, h, e, ← joined-append xs x no_more, joined-no_more (xs ++ x ∷ []))

append_further : (xs : List Argument) (x : Argument) (p : Parsed Arguments)
    → behind_arguments xs (p >>= λ all rest. Some (with_argument x all, rest)) ≡ behind_arguments (xs ++ x ∷ []) p
append_further xs x None = refl
append_further xs x (Some a) = ap (λ (all : Arguments). Some (all, a.1)) (sym (joined-append xs x a.0))

pub argument_more : (xs : List Argument) (x : Argument) (ts between rest : List Token) → argument_in_front ts ≡ Some (x, between) → behind_separator between ≡ Some rest
    → behind_arguments xs (parsed_arguments ts) ≡ behind_arguments (xs ++ x ∷ []) (parsed_arguments rest)
argument_more xs x ts between rest h e = rw (arguments_front ts, h, e) (append_further xs x (parsed_arguments rest))
