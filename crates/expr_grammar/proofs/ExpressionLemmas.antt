-- The expression of a text is the tree that it parses as, and its fault the first cause.
use Rattle.std.proofs.Common.{◌≡◌, ℕ, List, Option, None, Some, map, length, refl, sym, ◌∙◌, ap, subst}
use Rattle.std.specs.Prelude.{IfOk, IsErr, Result, Ok, Err}
use Rattle.expr_tokens.specs.declared.token.Placed.{Placed}
use Rattle.expr_tokens.specs.declared.token.Token.{Token}
use Rattle.expr_tokens.specs.FirstReference.{first_reference_among}
use Rattle.expr_tokens.specs.Kinds.{tokens_of}
use Rattle.expr_tokens.specs.Lexemes.{lexed}
use Rattle.expr_tokens.specs.Limits.{excess}
use Rattle.expr_grammar.specs.declared.fault.ExprCause.TheVariants as cause
use Rattle.expr_grammar.specs.declared.fault.ExprCause as c
use Rattle.expr_grammar.specs.declared.fault.ExprFault.{ExprFault}
use Rattle.expr_grammar.specs.declared.fault.ParseFault.{ParseFault}
use Rattle.expr_grammar.specs.declared.fault.ParseFault.TheVariants as fault
use Rattle.expr_grammar.specs.Descent.{of_all, parsed}
use Rattle.expr_grammar.specs.Grammar.{HasTree, expression}
use Rattle.expr_grammar.specs.Parse.{IsLexed, Parses, HasCause, HasSyntaxAlone, MeetsGrammar, MeetsParse, reference_place, tree_or_misplaced, within_limits, of_lexemes, expression_in, first_reference, without_reference, closed_expression_in, Tells, ExpressionParses, FaultIsCause}
use Rattle.expr_tree.specs.Tree.{Tree}
use Rattle.expr_grammar.proofs.OneTree.{whole-read, of_all-sound, of_all-none}

-- what a text with these lexemes has
lexed-is : (text : List ℕ) (xs : List Placed) → IsLexed text xs
    → expression_in text ≡ tree_or_misplaced xs (length text) (of_all (parsed expression (tokens_of xs)))
unfolding expression_in
lexed-is text xs h = ap (of_lexemes (length text)) h.lexemes ∙ ap (within_limits xs (length text)) h.within

pub parses-found : (text : List ℕ) (t : Tree) → Parses text t → expression_in text ≡ Ok t
parses-found text t h =
    lexed-is text h.lexemes h.spelled
    ∙ ap (λ (x : Option Tree). tree_or_misplaced h.lexemes (length text) x) (ap of_all (whole-read expression (tokens_of h.lexemes) t h.tree))

-- no tree of all tokens is read where there is none
none-read : (xs : List Placed) → ((t : Tree) → HasTree expression (tokens_of xs) t → ⊥)
    → (x : Option Tree) → of_all (parsed expression (tokens_of xs)) ≡ x → x ≡ None
none-read xs none None e = refl
none-read xs none (Some t) e = absurd (none t (of_all-sound (tokens_of xs) t e))

pub cause-found : (text : List ℕ) (why : c.ExprCause) (place : ℕ) → HasCause text why place
    → expression_in text ≡ Err (record { place = place; cause = why })
unfolding expression_in
cause-found text cause.Lexical place h = ap (of_lexemes (length text)) h.first
cause-found text cause.TooLarge place h =
    ap (of_lexemes (length text)) h.spelled ∙ ap (within_limits h.lexemes (length text)) h.first
cause-found text cause.Syntax place h =
    lexed-is text h.lexemes h.spelled
    ∙ (ap (λ (x : Option Tree). tree_or_misplaced h.lexemes (length text) x) (none-read h.lexemes h.no_tree (of_all (parsed expression (tokens_of h.lexemes))) refl)
    ∙ ap (λ (place : ℕ). Err (record { place = place; cause = cause.Syntax })) (sym h.first))

-- what is found of a text, by the relation
abbrev Means : List ℕ → Result Tree ExprFault → Type 0
Means text (Ok t) = Parses text t
Means text (Err f) = HasCause text f.cause f.place

tree-means : (text : List ℕ) (xs : List Placed) → IsLexed text xs → (x : Option Tree) → of_all (parsed expression (tokens_of xs)) ≡ x
    → Means text (tree_or_misplaced xs (length text) x)
tree-means text xs h (Some t) e = record { lexemes = xs; spelled = h; tree = of_all-sound (tokens_of xs) t e }
tree-means text xs h None e = record { lexemes = xs; spelled = h; no_tree = of_all-none (tokens_of xs) e; first = refl }

limits-mean : (text : List ℕ) (xs : List Placed) → lexed text ≡ Ok xs → (x : Option ℕ) → excess xs ≡ x → Means text (within_limits xs (length text) x)
limits-mean text xs h (Some place) e = record { lexemes = xs; spelled = h; first = e }
limits-mean text xs h None e = tree-means text xs (record { lexemes = h; within = e }) (of_all (parsed expression (tokens_of xs))) refl

lexemes-mean : (text : List ℕ) (x : Result (List Placed) ℕ) → lexed text ≡ x → Means text (of_lexemes (length text) x)
lexemes-mean text (Ok xs) e = limits-mean text xs e (excess xs) refl
lexemes-mean text (Err place) e = record { first = e }

means : (text : List ℕ) → Means text (expression_in text)
unfolding expression_in
means text = lexemes-mean text (lexed text) refl

pub found-parses : (text : List ℕ) (t : Tree) → expression_in text ≡ Ok t → Parses text t
found-parses text t e = subst (Means text) e (means text)

pub expression_parses : ExpressionParses
expression_parses text t = (found-parses text t, parses-found text t)

pub fault_is_cause : FaultIsCause
fault_is_cause text f = (λ e. subst (Means text) e (means text), cause-found text f.cause f.place)

syntax-alone : (text : List ℕ) (xs : List Placed) → IsLexed text xs → (why : c.ExprCause) (place : ℕ) → HasSyntaxAlone xs (length text) why place
    → HasCause text why place
syntax-alone text xs h cause.Lexical place none = absurd none
syntax-alone text xs h cause.TooLarge place none = absurd none
syntax-alone text xs h cause.Syntax place none = record { lexemes = xs; spelled = h; no_tree = none.no_tree; first = none.first }

-- an answer on lexemes within the limits, as one on their text
pub meets : (text : List ℕ) (xs : List Placed) → IsLexed text xs → (r : Result Tree ParseFault) → MeetsGrammar xs (length text) r → MeetsParse text r
meets text xs h (Ok t) tree = record { lexemes = xs; spelled = h; tree = tree }
meets text xs h (Err (fault.Expr f)) none = syntax-alone text xs h f.cause f.place none
meets text xs h (Err (fault.Memory e)) none = tt

-- what meets the relation is what is found
pub tells : (text : List ℕ) (r : Result Tree ParseFault) → MeetsParse text r → Tells (expression_in text) r
tells text (Ok t) h = parses-found text t h
tells text (Err (fault.Expr f)) h = cause-found text f.cause f.place h
tells text (Err (fault.Memory e)) h = tt

-- a fault stays, whether there is a reference or none
fault-stays : (place : Option ℕ) (f : ExprFault) → without_reference place (Err f) ≡ Err f
fault-stays None f = refl
fault-stays (Some place) f = refl

closed-fault : (text : List ℕ) (e : ParseFault) → MeetsParse text (Err e) → Tells (closed_expression_in text) (Err e)
unfolding closed_expression_in
closed-fault text (fault.Expr f) h =
    ap (without_reference (first_reference text)) (cause-found text f.cause f.place h) ∙ fault-stays (first_reference text) f
closed-fault text (fault.Memory e) h = tt

pub closed-error : (text : List ℕ) (r : Result Tree ParseFault) → IsErr r → MeetsParse text r → Tells (closed_expression_in text) r
closed-error text (Ok t) is h = absurd (cc)
closed-error text (Err e) is h = closed-fault text e h

-- what is found of lexemes within the limits that have a tree
pub closed-found : (text : List ℕ) (xs : List Placed) (ts : List Token) (t : Tree) (place : Option ℕ) → IsLexed text xs → ts ≡ tokens_of xs
    → HasTree expression (tokens_of xs) t → place ≡ first_reference_among (map (λ x. x.place) xs) ts
    → closed_expression_in text ≡ without_reference place (Ok t)
unfolding closed_expression_in first_reference
closed-found text xs ts t place h same tree at =
    let first : first_reference text ≡ place =
    ap reference_place h.lexemes ∙ sym (at ∙ ap (first_reference_among (map (λ x. x.place) xs)) same) in
    let found : expression_in text ≡ Ok t = parses-found text t (record { lexemes = xs; spelled = h; tree = tree }) in
    ap (λ (found : Result Tree ExprFault). without_reference (first_reference text) found) found ∙ ap (λ (place : Option ℕ). without_reference place (Ok t)) first

-- where a tree is left, it is that of the text, and there is no reference
pub record IsClosed (text : List ℕ) (t : Tree) : Type 0 where
  pub parses : Parses text t
  pub none : first_reference text ≡ None

kept : (text : List ℕ) (t : Tree) (place : Option ℕ) → first_reference text ≡ place → (found : Result Tree ExprFault) → expression_in text ≡ found
    → without_reference place found ≡ Ok t → IsClosed text t
kept text t None none found e is = record { parses = found-parses text t (e ∙ is); none = none }
kept text t (Some place) none (Ok u) e is = absurd (cc)
kept text t (Some place) none (Err f) e is = absurd (cc)

pub closed_is : (text : List ℕ) (r : Result Tree ParseFault) → Tells (closed_expression_in text) r → IfOk r (IsClosed text)
unfolding closed_expression_in
closed_is text (Ok t) h = kept text t (first_reference text) refl (expression_in text) refl h
closed_is text (Err (fault.Expr f)) h = tt
closed_is text (Err (fault.Memory e)) h = tt
