use Rattle.std.proofs.Common.{◌≡◌, false, get_or, nat_eq, sym, ap, ◌∙◌}
use Rattle.std.specs.List.{starts_with}
use Rattle.std.proofs.lemmas.Str.Pattern.{starts_text}
use Rattle.expr_tokens.specs.Signs.{sign_text, signs}
use Rattle.expr_tokens.specs.declared.sign.Sign.TheVariants.{Equal}
use Rattle.expr_tokens.proofs.LongestFronts.{find-drop_no}
use Rattle.expr_tokens.proofs.lexing.signs.sign_at.Goals as goal

pub loop-sign-preserved : goal.loop-sign-preserved
loop-sign-preserved c =
    let told = starts_text c.starts_with.result c.sign_text.result.now c.args.text.now c.starts_with.ensures.cases in
    let fails : starts_with nat_eq c.args.text.now (sign_text (get_or signs c.loop-sign.sign-index Equal)) ≡ false =
    ap (starts_with nat_eq c.args.text.now) (sym c.sign_text.ensures) ∙ sym told ∙ c.if-starts_with.false in
    find-drop_no (λ s. starts_with nat_eq c.args.text.now (sign_text s)) signs c.loop-sign.sign-index Equal c.loop-sign-test.true fails
    ∙ c.loop-sign.invariant
