use Rattle.std.proofs.Common.{sym, ◌∙◌, arith}
use Rattle.fc_base.proofs.TextLemmas.{is_text_value-short}
use Rattle.fc_base.proofs.text_value.TextValue.is_text_value.Goals as goal

pub returns-then-text-le-MOST_BYTES : goal.returns-then-text-le-MOST_BYTES
returns-then-text-le-MOST_BYTES c =
    c.has_text_bytes.ensures ∙ sym (is_text_value-short _ c.utf8.text (omega arith))
