use Rattle.document_model.specs.declared.content.Content.TheVariants.{Bound}
use Rattle.document_model.specs.Edited.{with_content}
use Rattle.expr_grammar.specs.Parse.{expression_in}
use Rattle.doc_rules.proofs.BecomesLemmas.{becomes-bound}
use Rattle.doc_rules.proofs.slot_edits.with_binding.Goals as goal

pub returns : goal.returns
returns c = λ s at.
    let t = c.args.tables.now in
    becomes-bound t t.document s (expression_in c.args.text.now) c.in_ok-tree.tree c.accepted.result c.in_ok-tree.ensures.found
    (c.accepted.ensures t (with_content t.document s (Bound c.in_ok-tree.tree)) (c.in_ok-edited.ensures s at))
