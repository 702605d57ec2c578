use Rattle.std.proofs.Common.{◌-◌, length, ap, ◌∙◌}
use Rattle.std.specs.List.{slice_get}
use Rattle.fcxml_profile.specs.Standing.{is_innermost}
use Rattle.fcxml_profile.proofs.ElementLemmas.{innermost}
use Rattle.fcxml_profile.proofs.elements.Elements.is_innermost.Goals as goal

pub returns-in-Some : goal.returns-in-Some
returns-in-Some c =
    c.eq.ensures ∙ innermost c.self.inside.names.items c.args.name.now c.in-Some.inner.now
    (c.in-Some.ensures.value ∙ ap (λ names. slice_get names (length names - 1)) c.deref.ensures.value)
    ∙ ap (λ s. is_innermost c.args.name.now s.elements) c.self.view_is
