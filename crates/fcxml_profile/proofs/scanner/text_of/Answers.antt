use Rattle.std.proofs.Common.{Some, sym, ap, ◌∙◌, arith}
use Rattle.fcxml_profile.proofs.ScannerLemmas.{control-found, control-none}
use Rattle.fcxml_profile.proofs.scanner.text_of.Goals as goal

pub returns-in-Ok : goal.returns-in-Ok
returns-in-Ok c = control-found c.args.bytes.now c.allowed_count-allowed.result c.in-Ok.ensures.cases.1 c.allowed_count-allowed.ensures c.if-allowed-bytes.true ∙ ap Some (sym c.at.ensures)

pub returns-in-Ok-2 : goal.returns-in-Ok-2
returns-in-Ok-2 c =
    let is = c.allowed_count-allowed.ensures in
    let past = c.if-allowed-bytes.false in
    (c.in-Ok.ensures.cases.0, control-none c.args.bytes.now c.in-Ok.ensures.cases.1 (omega arith))
