use Rattle.std.proofs.Common.{◌≡◌, ℕ, Some, sym, ap, ◌∙◌, arith}
use Rattle.std.specs.Result.{result_ok}
use Rattle.std.proofs.lemmas.Slice.Eq.{bytes_eq-Decides}
use Rattle.fcdoc_file.specs.Cursor.{numeral}
use Rattle.fcdoc_file.proofs.CursorLemmas.{parse-numeral, numeral-fails, numeral-differs, numeral-decimal}
use Rattle.fcdoc_file.proofs.cursor.numeral.Goals as goal
use Rattle.fcdoc_file.proofs.cursor.numeral.Goals.{After-ok, else-number-gt0-via-then-number-gt0+else-eq, else-number-gt0-via-else-number-gt0}

-- what the digits spell is what they parse as
parses : (c : After-ok) (n : ℕ) → numeral c.args.digits.now ≡ Some n → c.ok.result ≡ Some n
parses c n found = c.ok.ensures.value ∙ ap result_ok (parse-numeral c.args.digits.now c.parse.result n c.parse.ensures.value.0 found)

pub returns-in_err-number : goal.returns-in_err-number
returns-in_err-number c = c.from_residual.ensures ∙ numeral-fails c.args.digits.now c.ok.result (parses (goal.at.returns-in_err-number c).After-ok) c.in_err-number.was

pub returns-then-eq : goal.returns-then-eq
returns-then-eq c =
    let digits = sym ((bytes_eq-Decides c.format.result.now c.args.digits.now).0 (sym c.eq.ensures ∙ c.if-eq.true)) ∙ c.format.ensures.text in
    sym (ap numeral digits ∙ numeral-decimal c.in_ok-number.number c.if-number-gt0.true (omega arith))

pub returns-else-number-gt0 : goal.returns-else-number-gt0
returns-else-number-gt0 c = numeral-differs c.args.digits.now c.ok.result c.in_ok-number.number (parses (goal.at.returns-else-number-gt0 c).After-ok) c.in_ok-number.was (λ digits positive. elim c.else-number-gt0.branch [
  | else-number-gt0-via-then-number-gt0+else-eq w ↦
      let equal = (bytes_eq-Decides w.format.result.now c.args.digits.now).1 (w.format.ensures.text ∙ sym digits) in
      let compared = w.eq.ensures in
      cc
  | else-number-gt0-via-else-number-gt0 w ↦ absurd (omega arith)
])
