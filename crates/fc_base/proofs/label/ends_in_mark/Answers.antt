use Rattle.std.proofs.Common.{sym, ◌∙◌, arith}
use Rattle.fc_base.proofs.TextLemmas.{ends_in_mark-last}
use Rattle.fc_base.proofs.label.ends_in_mark.Goals as goal

pub returns : goal.returns
returns c = c.ends_with.ensures.byte (omega arith) (omega arith) (λ w o r. r) ∙ sym (ends_in_mark-last c.args.text.now)
