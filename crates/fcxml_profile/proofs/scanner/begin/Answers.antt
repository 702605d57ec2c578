use Rattle.std.proofs.Common.{sym, ap, ◌∙◌}
use Rattle.fcxml_profile.specs.Scanning.{without_mark, scan_of, scan_by}
use Rattle.fcxml_profile.proofs.ScannerLemmas.{begins, begins-whole, begins-balanced}
use Rattle.fcxml_profile.proofs.scanner.begin.Goals as goal

pub returns-in_ok-examined-in-Ok-clause-gives : goal.returns-in_ok-examined-in-Ok-clause-gives
returns-in_ok-examined-in-Ok-clause-gives c =
    begins c.args.bytes.now c.without_mark-rest.result.now c.in_ok-examined-in-Ok.examined.count c.in_ok-examined-in-Ok.examined.fault c.in-Ok.ensures.1
    (c.without_mark-rest.ensures ∙ ap without_mark c.in-Ok.ensures.0) c.in_ok-examined-in-Ok.ensures.exact

pub returns-in_ok-examined-in-Ok-clause-sound : goal.returns-in_ok-examined-in-Ok-clause-sound
returns-in_ok-examined-in-Ok-clause-sound c =
    let rest = c.without_mark-rest.result.now in
    let e = c.in_ok-examined-in-Ok.examined in
    record {
      whole = begins-whole c.args.bytes.now rest e.count e.fault c.in_ok-examined-in-Ok.ensures.exact;
      small = c.in_ok-examined-in-Ok.ensures.fits;
      failed = λ f. absurd (cc);
      balanced = begins-balanced c.args.bytes.now rest e.count e.fault c.in_ok-examined-in-Ok.ensures.exact;
    }

pub returns-in-Err-clause-gives : goal.returns-in-Err-clause-gives
unfolding scan_of
returns-in-Err-clause-gives c = sym (ap (λ f. scan_by f c.args.bytes.now) c.in-Err.ensures)
