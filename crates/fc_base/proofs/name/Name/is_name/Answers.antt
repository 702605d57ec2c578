use Rattle.std.proofs.Common.{◌≡◌, true, sym, ◌∙◌, arith}
use Rattle.std.proofs.lemmas.Grind.{common_steps}
use Rattle.std.proofs.lemmas.Str.{is_utf8-from_IsUtf8}
use Rattle.std.specs.Str.{is_utf8}
use Rattle.fc_base.proofs.NameLemmas.{is_name-length, is_name-bytes}
use Rattle.fc_base.proofs.name.Name.is_name.Goals as goal

pub returns-then-text-le-MOST_BYTES-clause-value : goal.returns-then-text-le-MOST_BYTES-clause-value
returns-then-text-le-MOST_BYTES-clause-value c =
    let utf8 : is_utf8 c.args.text.now ≡ true = is_utf8-from_IsUtf8 _ c.utf8.text in
    rw utf8 (grind (arith, common_steps))

pub returns-then-text-le-MOST_BYTES-clause-nonempty : goal.returns-then-text-le-MOST_BYTES-clause-nonempty
returns-then-text-le-MOST_BYTES-clause-nonempty c h =
    is_name-length _ (sym (returns-then-text-le-MOST_BYTES-clause-value c) ∙ h)

pub returns-then-text-le-MOST_BYTES-clause-bytes : goal.returns-then-text-le-MOST_BYTES-clause-bytes
returns-then-text-le-MOST_BYTES-clause-bytes c h =
    is_name-bytes _ (sym (returns-then-text-le-MOST_BYTES-clause-value c) ∙ h)
