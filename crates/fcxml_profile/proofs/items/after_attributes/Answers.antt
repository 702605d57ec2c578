use Rattle.std.proofs.Common.{rules, sym, ap, ◌∙◌}
use Rattle.fcxml_profile.proofs.Shorter.{behind_blanks-shorter}
use Rattle.fcxml_profile.proofs.AttributeLemmas.{attributes-more, attributes-end}
use Rattle.fcxml_profile.proofs.items.after_attributes.Goals as goal

pub loop-after-smaller : goal.loop-after-smaller
loop-after-smaller c = behind_blanks-shorter c.args.size c.loop-after.rest.now _ (sym c.in-Some.ensures)

pub loop-after-preserved : goal.loop-after-preserved
loop-after-preserved c = record {
  text = search rules;
  same = sym (ap (λ m. m.1) (attributes-more c.args.size c.loop-after.rest.now _ (sym c.in-Some.ensures))) ∙ c.loop-after.invariant.same;
}

pub returns : goal.returns
returns c = sym (ap (λ m. m.1) (attributes-end c.args.size c.loop-after.rest.now (sym c.in_default.ensures))) ∙ c.loop-after.invariant.same
