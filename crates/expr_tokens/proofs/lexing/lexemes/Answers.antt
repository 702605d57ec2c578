use Rattle.std.proofs.Common.{◌≡◌, ◌-◌, ◌<◌, length, ap, sym, ◌∙◌, arith, rules}
use Rattle.std.proofs.lemmas.Bool.Decides.{nat_tests}
use Rattle.expr_tokens.specs.Lexemes.{lexed}
use Rattle.expr_tokens.proofs.LexedLemmas.{passes_blank, takes_lexeme, stops, ends}
use Rattle.expr_tokens.proofs.LexemeFronts.{lexeme-front}
use Rattle.expr_tokens.proofs.lexing.lexemes.Goals as goal

pub loop-rest-preserved-in-Some : goal.loop-rest-preserved-in-Some
loop-rest-preserved-in-Some c =
    let text = c.args.text.now in
    let here = c.loop-rest.rest.now in
    let after = c.in-Some.after.now in
    let blank = c.in-Some.ensures in
    let one = ap length blank.2 in
    record {
      text = search rules;
      within = omega arith;
      so_far = passes_blank c.loop-rest.lexemes.items (lexed text) (length text - length here) (length text - length after) here after blank.0 blank.1 blank.2
          (omega arith) c.loop-rest.invariant.so_far;
    }

pub returns-in_default-2 : goal.returns-in_default-2
returns-in_default-2 c =
    let text = c.args.text.now in
    let here = c.loop-rest.rest.now in
    let some : 0 < length here = grind (arith, nat_tests) in
    stops c.loop-rest.lexemes.items (lexed text) (length text - length here) here some c.in_default.ensures (sym c.in_default-2.is ∙ c.in_ok-lexeme.ensures) c.loop-rest.invariant.so_far

pub range_from-rest-requires : goal.range_from-rest-requires
range_from-rest-requires c = λ _.
    (lexeme-front c.loop-rest.rest.now (c.in-Some-2.lexeme, c.in-Some-2.length) c.loop-rest.invariant.text (sym c.in-Some-2.is ∙ c.in_ok-lexeme.ensures)).boundary

pub loop-rest-smaller : goal.loop-rest-smaller
loop-rest-smaller c =
    let some = (lexeme-front c.loop-rest.rest.now (c.in-Some-2.lexeme, c.in-Some-2.length) c.loop-rest.invariant.text (sym c.in-Some-2.is ∙ c.in_ok-lexeme.ensures)).some in
    let size = c.range_from-rest.ensures.len in
    omega arith

pub loop-rest-preserved : goal.loop-rest-preserved
loop-rest-preserved c =
    let text = c.args.text.now in
    let here = c.loop-rest.rest.now in
    let after = c.range_from-rest.result.now in
    let n = c.in-Some-2.length in
    let front = lexeme-front here (c.in-Some-2.lexeme, n) c.loop-rest.invariant.text (sym c.in-Some-2.is ∙ c.in_ok-lexeme.ensures) in
    let some : 0 < length here = grind (arith, nat_tests) in
    let size = c.range_from-rest.ensures.len in
    record {
      text = c.range_from-rest.utf8;
      within = omega arith;
      so_far = rw c.in_ok-push.ensures.items (takes_lexeme c.loop-rest.lexemes.items (lexed text) (length text - length here) (length text - length after) n here after c.in-Some-2.lexeme
          some c.in_default.ensures (sym c.in-Some-2.is ∙ c.in_ok-lexeme.ensures) front.some front.boundary.0 c.range_from-rest.ensures.value (omega arith) c.loop-rest.invariant.so_far);
    }

pub returns : goal.returns
returns c =
    let text = c.args.text.now in
    let here = c.loop-rest.rest.now in
    let none : length here ≡ 0 = grind (arith, nat_tests) in
    ends c.loop-rest.lexemes.items (lexed text) (length text - length here) here none c.loop-rest.invariant.so_far
