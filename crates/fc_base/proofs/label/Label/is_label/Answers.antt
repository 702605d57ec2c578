use Rattle.std.proofs.Common.{◌≡◌, true, arith}
use Rattle.std.proofs.lemmas.Grind.{common_steps}
use Rattle.std.proofs.lemmas.Str.{is_utf8-from_IsUtf8}
use Rattle.std.specs.Str.{is_utf8}
use Rattle.fc_base.proofs.label.Label.is_label.Goals as goal

pub returns-then-not-has_control : goal.returns-then-not-has_control
returns-then-not-has_control c =
    let utf8 : is_utf8 c.args.text.now ≡ true = is_utf8-from_IsUtf8 _ c.utf8.text in
    rw utf8 (grind (arith, common_steps))
