use Rattle.std.proofs.Common.{subst, sym, ap, ◌∙◌}
use Rattle.std.specs.List.{prefix_len}
use Rattle.std.specs.Str.{IsCharBoundary}
use Rattle.fcxml_profile.specs.Fronts.{is_blank}
use Rattle.fcxml_profile.proofs.FrontLemmas.{cut-blanks}
use Rattle.fcxml_profile.proofs.fronts.after_blanks.Goals as goal

pub range_from-requires : goal.range_from-requires
range_from-requires c = λ _.
    subst (IsCharBoundary c.args.text.now) (sym (c.blank_count.ensures.count ∙ ap (prefix_len is_blank) c.as_bytes.ensures.value)) (cut-blanks c.args.text.now c.utf8.text)
