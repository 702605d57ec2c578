use Rattle.std.proofs.Common.{sym}
use Rattle.fcdoc_core.proofs.RepliesLemmas.{replies_so_far-start, replies_so_far-goes_on, replies_so_far-stops}
use Rattle.fcdoc_core.proofs.delivery.reply_to_all.Goals as goal

pub loop-line-init : goal.loop-line-init
loop-line-init g c = replies_so_far-start _ _ _ _

pub returns-in-Err : goal.returns-in-Err
returns-in-Err g c =
    replies_so_far-stops c.args.session.now _ c.args.lines.now c.loop-line.line-index c.line-item.result c.as_str-line.result.now c.loop-line.refused
    _ _ _ _ _ _ c.loop-line-test.true c.line-item.is c.as_str-line.ensures.value (sym c.if-is_skipped.ensures) c.loop-line.invariant c.in-Err.stop c.in-Err.ensures.told

pub loop-line-preserved : goal.loop-line-preserved
loop-line-preserved g c =
    replies_so_far-goes_on c.args.session.now _ c.args.lines.now c.loop-line.line-index c.line-item.result c.as_str-line.result.now c.loop-line.refused
    _ _ _ _ _ _ c.loop-line-test.true c.line-item.is c.as_str-line.ensures.value (sym c.if-is_skipped.ensures) c.loop-line.invariant c.in-Ok.is_refusal c.in-Ok.ensures.told _ c.in-Ok.ensures.state
