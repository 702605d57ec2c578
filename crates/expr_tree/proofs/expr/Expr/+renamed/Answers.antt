use Rattle.std.proofs.Common.{◌≡◌, ◌∙◌, ◌++◌, ◌∷◌, [], arith}
use Rattle.expr_tree.specs.declared.expr.Argument.TheVariants as argument
use Rattle.expr_tree.proofs.RenamingLemmas.{next_tree, next_area, next_tree_count, next_area_count, fewer_nodes, all_renamed}
use Rattle.expr_tree.proofs.expr.Expr.+renamed.Goals as goal
use Rattle.expr_tree.proofs.expr.Expr.+renamed.Goals.{renamed_arguments-in-Tree+in_ok-renamed-in-Tree+in_ok-push-in-Tree, renamed_arguments-in-Cells+in_ok-push-in-Cells}

pub renamed_arguments-loop-argument-preserved : goal.renamed_arguments-loop-argument-preserved
renamed_arguments-loop-argument-preserved t c =
    let pairs = c.args.listed.now.pairs.now in
    let items = c.args.arguments.now in
    let i = c.loop-argument.argument-index in
    let item = c.argument-item.result in
    elim c.match-argument.branch [
      | renamed_arguments-in-Tree+in_ok-renamed-in-Tree+in_ok-push-in-Tree w ↦
          let number = w.number-is ∙ w.in_ok-renamed-in-Tree.ensures.number in
          let pushed : c.match-argument.copies.items ≡ c.loop-argument.copies.items ++ argument.Tree w.in_ok-renamed-in-Tree.field-0 ∷ [] =
          rw (w.copies-is, w.in_ok-push-in-Tree.ensures.items) in
          record {
            arguments = c.loop-argument.invariant.arguments
                ∙ next_tree pairs items c.loop-argument.copies.items c.match-argument.copies.items i c.loop-argument.number c.match-argument.number
                item _ _ c.loop-argument-test.true c.argument-item.is w.in-Tree.is w.in_ok-renamed-in-Tree.ensures.tree number pushed;
            counted = next_tree_count pairs items i c.loop-argument.number c.match-argument.number
                item _ c.loop-argument-test.true c.argument-item.is w.in-Tree.is number ∙ c.loop-argument.invariant.counted;
            low = omega (arith, number);
            left = omega (arith, fewer_nodes i items);
          }
      | renamed_arguments-in-Cells+in_ok-push-in-Cells w ↦
          let number = w.number-is ∙ w.area.ensures.number in
          let pushed : c.match-argument.copies.items ≡ c.loop-argument.copies.items ++ argument.Cells w.area.result ∷ [] =
          rw (w.copies-is, w.in_ok-push-in-Cells.ensures.items) in
          record {
            arguments = c.loop-argument.invariant.arguments
                ∙ next_area pairs items c.loop-argument.copies.items c.match-argument.copies.items i c.loop-argument.number c.match-argument.number
                item _ _ c.loop-argument-test.true c.argument-item.is w.in-Cells.is w.area.ensures.area number pushed;
            counted = next_area_count pairs items i c.loop-argument.number c.match-argument.number
                item _ c.loop-argument-test.true c.argument-item.is w.in-Cells.is number ∙ c.loop-argument.invariant.counted;
            low = omega (arith, number);
            left = omega (arith, fewer_nodes i items);
          }
    ]

pub renamed_arguments-returns-clause-arguments : goal.renamed_arguments-returns-clause-arguments
renamed_arguments-returns-clause-arguments t c =
    all_renamed c.args.listed.now.pairs.now c.args.arguments.now c.loop-argument.copies.items c.loop-argument.argument-index
    c.args.number.now c.loop-argument.number c.loop-argument-test.false c.loop-argument.invariant.arguments
