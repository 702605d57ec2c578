use Rattle.std.proofs.Common.{rules, sym, ap, ◌∙◌, ◌∷◌, [], map, arith}
use Rattle.std.proofs.lemmas.List.{map-append, append-nil}
use Rattle.fcxml_profile.specs.Items.{attributes_at}
use Rattle.fcxml_profile.specs.ToldAttributes.{attribute_told}
use Rattle.fcxml_profile.proofs.Shorter.{behind_blanks-shorter}
use Rattle.fcxml_profile.proofs.AttributeLemmas.{behind_attributes, attributes-step, attributes-end}
use Rattle.fcxml_profile.proofs.items.attributes.Goals as goal

pub loop-attribute-smaller : goal.loop-attribute-smaller
loop-attribute-smaller c =
    let less = behind_blanks-shorter c.args.size c.loop-attribute.rest.now (attribute_told c.in-Some.attribute, c.in-Some.after.now) (sym c.in-Some.ensures) in
    omega arith

pub loop-attribute-preserved : goal.loop-attribute-preserved
loop-attribute-preserved c =
    let front = c.loop-attribute.items.items in
    record {
      text = search rules;
      so_far = rw (c.in_ok-push.ensures.items, map-append attribute_told front (c.in-Some.attribute ∷ []))
          (attributes-step (map attribute_told front) c.args.size c.loop-attribute.rest.now (attribute_told c.in-Some.attribute, c.in-Some.after.now)
          (attributes_at c.args.size c.args.text.now) (sym c.in-Some.ensures) c.loop-attribute.invariant.so_far);
    }

pub returns : goal.returns
returns c =
    let front = map attribute_told c.loop-attribute.items.items in
    sym (append-nil front) ∙ ap (λ m. (behind_attributes front m).0) (sym (attributes-end c.args.size c.loop-attribute.rest.now (sym c.in_default.ensures)))
    ∙ ap (λ m. m.0) c.loop-attribute.invariant.so_far
