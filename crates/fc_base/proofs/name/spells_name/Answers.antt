use Rattle.std.proofs.Common.{◌≡◌, ◌∷◌, ◌++◌, arith}
use Rattle.std.proofs.lemmas.Grind.{common_steps}
use Rattle.std.proofs.lemmas.Str.{chars_past_char}
use Rattle.std.specs.Char.{encode_utf8}
use Rattle.std.specs.Str.{chars}
use Rattle.fc_base.proofs.name.spells_name.Goals as goal

pub returns-then-begins_name : goal.returns-then-begins_name
returns-then-begins_name c =
    let split : c.args.text.now ≡ encode_utf8 c.in-Some.first ++ c.as_str.result.now = cc c.in-Some.ensures.steps.0 in
    let spelled : chars c.args.text.now ≡ c.in-Some.first ∷ chars c.as_str.result.now = chars_past_char _ _ _ c.utf8.text split in
    rw spelled (grind (arith, common_steps))
