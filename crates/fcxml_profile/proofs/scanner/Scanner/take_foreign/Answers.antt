use Rattle.std.proofs.Common.{sym, ap, ◌∙◌, subst}
use Rattle.fcxml_profile.specs.Answers.{CanTake}
use Rattle.fcxml_profile.specs.Reading.{scan_of_scanner}
use Rattle.fcxml_profile.proofs.ScannerLemmas.{fresh}
use Rattle.fcxml_profile.proofs.scanner.Scanner.take_foreign.Goals as goal

pub unreachable-requires : goal.unreachable-requires
unreachable-requires c =
    let bytes = c.self.inside.bytes.now in
    fresh bytes (subst CanTake (sym c.self.view_is ∙ ap (scan_of_scanner bytes) c.in-None.is) c.requires)
