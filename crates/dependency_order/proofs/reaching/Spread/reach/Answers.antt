use Rattle.std.proofs.Common.{false, sym, ◌∙◌}
use Rattle.std.proofs.lemmas.List.{get_or_read}
use Rattle.dependency_order.proofs.SpreadLemmas.{takes_new}
use Rattle.dependency_order.proofs.reaching.Spread.reach.Goals as goal

pub returns-in_ok-push : goal.returns-in_ok-push
returns-in_ok-push c =
    rw c.in_ok-push.ensures.items
    (takes_new c.args.self.now.reached.items c.args.self.now.pending.items c.args.node c.requires
    (sym (get_or_read c.args.self.now.reached.items c.args.node c.index.result.now c.requires c.index.ensures false) ∙ c.if-not-index.true))
