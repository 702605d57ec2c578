use Rattle.std.proofs.Common.{◌≡◌, ◌≤◌, ℕ, List, map, length, rules, arith, sym, subst}
use Rattle.std.proofs.lemmas.Grind.{common_steps}
use Rattle.std.specs.Prelude.{IfOk, Result, Ok, Err}
use Rattle.expr_tokens.specs.FirstReference.{first_reference_among}
use Rattle.expr_tokens.specs.Kinds.{tokens_of}
use Rattle.expr_grammar.specs.declared.fault.ExprFault.{ExprFault}
use Rattle.expr_grammar.specs.declared.fault.ParseFault.{ParseFault}
use Rattle.expr_grammar.specs.Grammar.{HasTree, expression}
use Rattle.expr_grammar.specs.Parse.{IsLexed, MeetsGrammar, MeetsParse, closed_expression_in, Tells}
use Rattle.expr_tree.specs.References.{reference_count}
use Rattle.expr_tree.specs.Spelled.{IsSpelled}
use Rattle.expr_tree.specs.Tree.{Tree}
use Rattle.expr_grammar.proofs.ClosedLemmas.{closed_has_no_references}
use Rattle.expr_grammar.proofs.ExpressionLemmas.{IsClosed, meets, closed-error, closed-found, closed_is}
use Rattle.expr_grammar.proofs.ReferenceLimit.{parsed_references}
use Rattle.expr_grammar.proofs.SpelledTrees.{parsed_is_spelled}
use Rattle.expr_grammar.proofs.closed.parse_closed.Goals as goal

pub returns-in_err-lexemes-clause-found : goal.returns-in_err-lexemes-clause-found
returns-in_err-lexemes-clause-found c =
    let meets : MeetsParse c.args.text.now c.from_residual.result = search rules in
    closed-error c.args.text.now c.from_residual.result (search rules) meets

pub returns-in_err-tree-clause-found : goal.returns-in_err-tree-clause-found
returns-in_err-tree-clause-found c =
    let h : IsLexed c.args.text.now c.in_ok-lexemes.lexemes.items = search rules in
    let grammar : MeetsGrammar c.in_ok-lexemes.lexemes.items (length c.args.text.now) c.from_residual-in_err-tree.result = search rules in
    closed-error c.args.text.now c.from_residual-in_err-tree.result (search rules)
    (meets c.args.text.now c.in_ok-lexemes.lexemes.items h c.from_residual-in_err-tree.result grammar)

pub returns-clause-found : goal.returns-clause-found
returns-clause-found c =
    let h : IsLexed c.args.text.now c.in_ok-lexemes.lexemes.items = search rules in
    let same : c.in_ok-tokens.tokens.items ≡ tokens_of c.in_ok-lexemes.lexemes.items = grind (arith, common_steps) in
    let tree : HasTree expression (tokens_of c.in_ok-lexemes.lexemes.items) c.in_ok-tree.tree = search rules in
    let at : c.place_of_reference.result ≡ first_reference_among (map (λ x. x.place) c.in_ok-lexemes.lexemes.items) c.in_ok-tokens.tokens.items = grind (arith, common_steps) in
    subst (λ (found : Result Tree ExprFault). Tells found c.without_reference.result)
    (sym (closed-found c.args.text.now c.in_ok-lexemes.lexemes.items c.in_ok-tokens.tokens.items c.in_ok-tree.tree c.place_of_reference.result h same tree at))
    c.without_reference.ensures

closed-spelled : (text : List ℕ) (r : Result Tree ParseFault) → Tells (closed_expression_in text) r → IfOk r IsSpelled
closed-spelled text (Ok t) h = parsed_is_spelled text t (closed_is text (Ok t) h).parses
closed-spelled text (Err e) h = tt

closed-references : (text : List ℕ) (r : Result Tree ParseFault) → Tells (closed_expression_in text) r → IfOk r (λ t. reference_count t ≤ 512)
closed-references text (Ok t) h = parsed_references text t (closed_is text (Ok t) h).parses
closed-references text (Err e) h = tt

without-references : (text : List ℕ) (r : Result Tree ParseFault) → Tells (closed_expression_in text) r → IfOk r (λ t. reference_count t ≡ 0)
without-references text (Ok t) h =
    let is : IsClosed text t = closed_is text (Ok t) h in
    (closed_has_no_references text t is.parses).0 is.none
without-references text (Err e) h = tt

pub returns-clause-spelled : goal.returns-clause-spelled
returns-clause-spelled c = closed-spelled c.args.text.now c.without_reference.result (returns-clause-found c)

pub returns-clause-references : goal.returns-clause-references
returns-clause-references c = closed-references c.args.text.now c.without_reference.result (returns-clause-found c)

pub returns-clause-closed : goal.returns-clause-closed
returns-clause-closed c = without-references c.args.text.now c.without_reference.result (returns-clause-found c)
