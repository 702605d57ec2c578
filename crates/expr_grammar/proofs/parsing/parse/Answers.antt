use Rattle.std.proofs.Common.{ℕ, List, rules}
use Rattle.std.specs.Prelude.{IfOk, Result, Ok, Err}
use Rattle.expr_grammar.specs.declared.fault.ParseFault.{ParseFault}
use Rattle.expr_grammar.specs.declared.fault.ParseFault.TheVariants as fault
use Rattle.expr_grammar.specs.Parse.{MeetsParse}
use Rattle.expr_tree.specs.Spelled.{IsSpelled}
use Rattle.expr_tree.specs.Tree.{Tree}
use Rattle.expr_grammar.proofs.ExpressionLemmas.{tells}
use Rattle.expr_grammar.proofs.ReferenceLimit.{answer_references}
use Rattle.expr_grammar.proofs.SpelledTrees.{parsed_is_spelled}
use Rattle.expr_grammar.proofs.parsing.parse.Goals as goal

-- the tree of an answer can be spelled
answer-spelled : (text : List ℕ) (r : Result Tree ParseFault) → MeetsParse text r → IfOk r IsSpelled
answer-spelled text (Ok t) h = parsed_is_spelled text t h
answer-spelled text (Err (fault.Expr f)) h = tt
answer-spelled text (Err (fault.Memory e)) h = tt

pub returns-in_err-lexemes-clause-found : goal.returns-in_err-lexemes-clause-found
returns-in_err-lexemes-clause-found c =
    let meets : MeetsParse c.args.text.now c.from_residual.result = search rules in
    tells c.args.text.now c.from_residual.result meets

pub returns-clause-found : goal.returns-clause-found
returns-clause-found c =
    let meets : MeetsParse c.args.text.now c.tree_of.result = search rules in
    tells c.args.text.now c.tree_of.result meets

pub returns-clause-spelled : goal.returns-clause-spelled
returns-clause-spelled c =
    let meets : MeetsParse c.args.text.now c.tree_of.result = search rules in
    answer-spelled c.args.text.now c.tree_of.result meets

pub returns-clause-references : goal.returns-clause-references
returns-clause-references c =
    let meets : MeetsParse c.args.text.now c.tree_of.result = search rules in
    answer_references c.args.text.now c.tree_of.result meets
