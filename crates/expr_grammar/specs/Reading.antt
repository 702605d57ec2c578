-- Private: only contracts inside this crate cite this.
-- What a reader of tokens answers, against what stands in front of them.
use Rattle.std.specs.Prelude.{◌≡◌, Bool, true, false, List, [], ◌∷◌, Option, None, Some, Result, Ok, Err}
use Rattle.expr_tokens.specs.declared.sign.Sign.TheVariants as sign
use Rattle.expr_tokens.specs.declared.token.Token.{Token}
use Rattle.expr_grammar.specs.declared.no_tree.NoTree.{NoTree}
use Rattle.expr_grammar.specs.declared.no_tree.NoTree.TheVariants.{Syntax, Memory}
use Rattle.fc_base.specs.Places.{Block}
use Rattle.expr_tree.specs.declared.expr.Argument.{Argument}
use Rattle.expr_tree.specs.declared.expr.Argument.TheVariants as argument
use Rattle.expr_tree.specs.declared.functions.AggregateOp.{AggregateOp}
use Rattle.expr_grammar.specs.Descent.{Parsed, ◌>>=◌, parsed, parsed_arguments, whole_readers, second_argument, with_bracket, behind_sign, exponent_in_front, behind_separator, area_in_front, of_all}
use Rattle.expr_grammar.specs.Grammar.{expression}
use Rattle.expr_tree.specs.Joined.{joined}
use Rattle.expr_tree.specs.Tree.{Tree, power, aggregate, Arguments}

-- it read what there is to read, and left the tokens behind it; Syntax comes where there is none
abbrev pub Gives : {A : Type 0} → Result A NoTree → List Token → Parsed A → Type 0
Gives (Ok x) rest p = p ≡ Some (x, rest)
Gives (Err Syntax) rest p = p ≡ None
Gives (Err (Memory e)) rest p = Unit {0}

-- the same, of what the answer stands for
abbrev pub GivesBy : {A B : Type 0} → (A → B) → Result A NoTree → List Token → Parsed B → Type 0
GivesBy meaning (Ok x) rest p = p ≡ Some (meaning x, rest)
GivesBy meaning (Err Syntax) rest p = p ≡ None
GivesBy meaning (Err (Memory e)) rest p = Unit {0}

-- it found something and went past it, or found nothing and left the tokens as they were
abbrev pub Finds : {A : Type 0} → Option A → List Token → List Token → Option (A × List Token) → Type 0
Finds (Some x) rest ts p = p ≡ Some (x, rest)
Finds None rest ts p = (p ≡ None) × (rest ≡ ts)

-- it went on to what follows, or nothing does and the tokens are as they were
abbrev pub Passes : Bool → List Token → List Token → Option (List Token) → Type 0
Passes true rest ts p = p ≡ Some rest
Passes false rest ts p = (p ≡ None) × (rest ≡ ts)

-- it went past the first token, or there was none
abbrev pub Advances : Option Token → List Token → List Token → Type 0
Advances (Some x) rest ts = ts ≡ x ∷ rest
Advances None rest ts = (ts ≡ []) × (rest ≡ [])

-- the other arm of a condition, where a `:` stands in front of it
abbrev pub arm_behind : Option (List Token) → Parsed Tree
arm_behind None = None
arm_behind (Some ts) = parsed expression ts

abbrev pub with_other_arm : Tree → Parsed Tree → Parsed (Tree × Tree)
with_other_arm a other = other >>= λ b rest. Some ((a, b), rest)

-- both arms of a condition, with `:` between them
abbrev pub arms_in_front : List Token → Parsed (Tree × Tree)
arms_in_front ts = parsed expression ts >>= λ a rest. with_other_arm a (arm_behind (behind_sign sign.Colon rest))

-- the power of a base by an exponent
abbrev pub raised_in_front : Tree → List Token → Parsed Tree
raised_in_front base ts = exponent_in_front ts >>= λ n rest. Some (power base n, rest)

-- the two arguments of a remainder, and a closing bracket
abbrev pub modulo_in_front : List Token → Parsed Tree
modulo_in_front ts = parsed expression ts >>= λ a rest. second_argument whole_readers a (behind_separator rest)

-- the arguments of a function of many numbers, and a closing bracket
abbrev pub aggregate_in_front : AggregateOp → List Token → Parsed Tree
aggregate_in_front op ts = with_bracket (parsed_arguments ts >>= λ all rest. Some (aggregate op all, rest))

-- an area, or else an expression
abbrev pub area_or_tree : Parsed Block → List Token → Parsed Argument
area_or_tree (Some x) ts = Some (argument.Cells x.0, x.1)
area_or_tree None ts = parsed expression ts >>= λ t rest. Some (argument.Tree t, rest)

abbrev pub argument_in_front : List Token → Parsed Argument
argument_in_front ts = area_or_tree (area_in_front ts) ts

-- arguments in front of others
abbrev pub behind_arguments : List Argument → Parsed Arguments → Parsed Arguments
behind_arguments xs p = p >>= λ more rest. Some (joined xs more, rest)

-- the tokens, all of them, are the tree; Syntax comes where they are none
abbrev pub GivesWhole : Result Tree NoTree → List Token → Type 0
GivesWhole (Ok t) ts = of_all (parsed expression ts) ≡ Some t
GivesWhole (Err Syntax) ts = of_all (parsed expression ts) ≡ None
GivesWhole (Err (Memory e)) ts = Unit {0}
