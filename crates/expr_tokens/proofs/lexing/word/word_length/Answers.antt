use Rattle.std.proofs.Common.{◌-◌, length, sym, ap, ◌∙◌, arith}
use Rattle.expr_tokens.proofs.WordLemmas.{no_word-empty, no_word-cut, word_front-begins, word_front-more, word_front-short, word_front-ends, word_front-cut}
use Rattle.expr_tokens.proofs.lexing.word.word_length.Goals as goal

pub returns-in_default : goal.returns-in_default
returns-in_default c =
    no_word-cut c.args.text.now c.next.new.self.rest.now c.in-Some.first c.utf8.text
    (sym c.chars-rest.ensures.rest ∙ c.in-Some.ensures.steps.0) (sym c.begins_name.ensures ∙ c.if-begins_name.false)

pub returns-in_default-2 : goal.returns-in_default-2
returns-in_default-2 c = no_word-empty c.args.text.now (ap length (sym c.chars-rest.ensures.rest) ∙ c.in_default.ensures.steps.0.0)

pub loop-next-init : goal.loop-next-init
loop-next-init c =
    word_front-begins c.args.text.now c.next.new.self.rest.now c.in-Some.first c.utf8.text
    (sym c.chars-rest.ensures.rest ∙ c.in-Some.ensures.steps.0) (sym c.begins_name.ensures ∙ c.if-begins_name.true)

pub overflow_sub-length : goal.overflow_sub-length
overflow_sub-length c =
    omega (arith, ap length c.as_str.ensures, word_front-short c.args.text.now c.loop-next.rest.rest.now c.loop-next.invariant)

pub loop-next-preserved : goal.loop-next-preserved
loop-next-preserved c =
    word_front-more c.args.text.now c.loop-next.rest.rest.now c.next-in-loop-next.new.self.rest.now c.in-Some-next.next
    c.in-Some-next.ensures.steps.0 (sym c.is_xid_continue.ensures.value ∙ c.if-is_xid_continue.true) c.loop-next.invariant

pub returns-in_default-next : goal.returns-in_default-next
returns-in_default-next c =
    ap (λ t. length c.args.text.now - length t) c.as_str.ensures
    ∙ word_front-cut c.args.text.now c.loop-next.rest.rest.now c.next-in-loop-next.new.self.rest.now c.in-Some-next.next
    c.in-Some-next.ensures.steps.0 (sym c.is_xid_continue.ensures.value ∙ c.if-is_xid_continue.false) c.loop-next.invariant

pub returns-in_default-next-2 : goal.returns-in_default-next-2
returns-in_default-next-2 c =
    ap (λ t. length c.args.text.now - length t) c.as_str.ensures
    ∙ word_front-ends c.args.text.now c.loop-next.rest.rest.now c.in_default-next.ensures.steps.0.0 c.loop-next.invariant
