use Rattle.std.proofs.Common.{◌≡◌, ◌≤◌, length, false, sym, refl, ◌∙◌, arith}
use Rattle.fc_base.proofs.TextLemmas.{is_text_value-short}
use Rattle.fc_base.specs.Texts.{is_text_value}
use Rattle.fc_base.proofs.text_value.TextValue.read.Goals as goal

pub returns-then-not-is_text_value-clause-bad : goal.returns-then-not-is_text_value-clause-bad
returns-then-not-is_text_value-clause-bad c =
    let short : length c.args.text.now ≤ 1024 = omega arith in
    let none : is_text_value c.args.text.now ≡ false = cc in
    (λ _. (short, sym (is_text_value-short _ c.utf8.text short) ∙ none), λ _. refl)
