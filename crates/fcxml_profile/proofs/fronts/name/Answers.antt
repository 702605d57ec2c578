use Rattle.std.proofs.Common.{subst, sym, ap, ◌∙◌}
use Rattle.std.specs.Str.{IsCharBoundary}
use Rattle.fcxml_profile.specs.Fronts.{name_length}
use Rattle.fcxml_profile.proofs.FrontLemmas.{cut-name}
use Rattle.fcxml_profile.proofs.fronts.name.Goals as goal

pub split_at-requires : goal.split_at-requires
split_at-requires c =
    subst (IsCharBoundary c.args.text.now) (sym (c.name_length-length.ensures.count ∙ ap name_length c.as_bytes.ensures.value)) (cut-name c.args.text.now c.utf8.text)
