use Rattle.std.proofs.Common.{ap, ◌∙◌, subst, ◌≤◌, length}
use Rattle.fcxml_profile.specs.Items.{run_length}
use Rattle.fcxml_profile.proofs.ItemLemmas.{cut-run}
use Rattle.fcxml_profile.proofs.items.front_item.Goals as goal

pub split_at-requires : goal.split_at-requires
split_at-requires c =
    let same = c.as_bytes-in_default.ensures.value in
    cut-run c.args.text.now c.run_length.result (c.run_length.ensures.count ∙ ap run_length same) (subst (λ t. c.run_length.result ≤ length t) same c.run_length.ensures.within)
