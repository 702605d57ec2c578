use Rattle.std.proofs.Common.{◌≡◌, ℕ, List, map, subst, ap, ◌∙◌, sym, None, arith, Err}
use Rattle.std.proofs.lemmas.Grind.{common_steps}
use Rattle.expr_grammar.specs.Descent.{of_all, parsed}
use Rattle.expr_grammar.specs.Grammar.{HasTree, expression}
use Rattle.expr_tokens.specs.Kinds.{tokens_of}
use Rattle.expr_tokens.specs.Misplaced.{misplaced}
use Rattle.expr_grammar.specs.Parse.{HasNoTree, MeetsGrammar}
use Rattle.expr_grammar.specs.declared.fault.ParseFault.{ParseFault}
use Rattle.expr_tokens.specs.declared.token.Token.{Token}
use Rattle.expr_tokens.specs.declared.token.Placed.{Placed}
use Rattle.expr_grammar.proofs.OneTree.{of_all-sound, of_all-none}
use Rattle.expr_grammar.proofs.parsing.tree_of.Goals as goal

pub returns-in-Ok : goal.returns-in-Ok
returns-in-Ok c =
    subst (λ (ts : List Token). HasTree expression ts c.in-Ok.tree) c.requires (of_all-sound c.args.tokens.now c.in-Ok.tree c.in-Ok.ensures)

-- no tree of the tokens, at the place found by neighbours
no-tree : (xs : List Placed) (ts : List Token) (end place : ℕ) → ts ≡ tokens_of xs → of_all (parsed expression ts) ≡ None
    → place ≡ misplaced (map (λ x. x.place) xs) ts end → HasNoTree xs end place
no-tree xs ts end place same none at = record {
  no_tree = λ t h. of_all-none ts none t (subst (λ (z : List Token). HasTree expression z t) (sym same) h);
  first = at ∙ ap (λ (z : List Token). misplaced (map (λ x. x.place) xs) z end) same;
}

pub returns-in-Err-Syntax : goal.returns-in-Err-Syntax
returns-in-Err-Syntax c =
    let none : of_all (parsed expression c.args.tokens.now) ≡ None = grind (arith, common_steps) in
    subst (λ (f : ParseFault). MeetsGrammar c.args.lexemes.now c.args.end (Err f)) (sym c.fault.ensures)
    (no-tree c.args.lexemes.now c.args.tokens.now c.args.end c.first_misplaced.result c.requires none c.first_misplaced.ensures)
