use Rattle.std.proofs.Common.{rules, [], map, sym, ap, ◌∙◌}
use Rattle.fcxml_profile.specs.Items.{attributes_at}
use Rattle.fcxml_profile.specs.Standing.{repeated_behind}
use Rattle.fcxml_profile.specs.ToldAttributes.{attribute_told}
use Rattle.fcxml_profile.proofs.Shorter.{behind_blanks-shorter}
use Rattle.fcxml_profile.proofs.AttributeLemmas.{attributes-more, attributes-end}
use Rattle.fcxml_profile.proofs.RepeatedLemmas.{adds, repeats}
use Rattle.fcxml_profile.proofs.repeated.repeated.Goals as goal

pub loop-attribute-smaller : goal.loop-attribute-smaller
loop-attribute-smaller c = behind_blanks-shorter c.args.size c.loop-attribute.rest.now _ (sym c.in-Some.ensures)

pub loop-attribute-preserved : goal.loop-attribute-preserved
loop-attribute-preserved c =
    let later = (attributes_at c.args.size c.in-Some.after.now).0 in
    let left = ap (λ m. m.0) (attributes-more c.args.size c.loop-attribute.rest.now (attribute_told c.in-Some.attribute, c.in-Some.after.now) (sym c.in-Some.ensures)) in
    record {
      text = search rules;
      so_far = adds c.loop-attribute.seen.keys c.insert.new.self.keys c.as_str.result (attribute_told c.in-Some.attribute) later
          (repeated_behind [] (attributes_at c.args.size c.args.text.now).0) c.in_ok-insert.field-0 c.in_ok-insert.ensures.added c.in_ok-insert.ensures.keys c.as_str.ensures
          (rw left at c.loop-attribute.invariant.so_far) c.if-not-branch.false;
    }

pub returns-then-not-branch : goal.returns-then-not-branch
returns-then-not-branch c =
    let later = (attributes_at c.args.size c.in-Some.after.now).0 in
    let left = ap (λ m. m.0) (attributes-more c.args.size c.loop-attribute.rest.now (attribute_told c.in-Some.attribute, c.in-Some.after.now) (sym c.in-Some.ensures)) in
    repeats c.loop-attribute.seen.keys c.insert.new.self.keys c.as_str.result (attribute_told c.in-Some.attribute) later
    (repeated_behind [] (attributes_at c.args.size c.args.text.now).0) c.in_ok-insert.field-0 c.in_ok-insert.ensures.added c.in_ok-insert.ensures.keys c.as_str.ensures
    (rw left at c.loop-attribute.invariant.so_far) c.if-not-branch.true

pub returns : goal.returns
unfolding repeated_behind
returns c = ap (λ m. repeated_behind (map (λ k. k.now) c.loop-attribute.seen.keys) m.0) (sym (attributes-end c.args.size c.loop-attribute.rest.now (sym c.in_default.ensures))) ∙ c.loop-attribute.invariant.so_far
