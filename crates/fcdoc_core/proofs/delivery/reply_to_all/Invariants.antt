use Rattle.fcdoc_core.proofs.RepliesLemmas.{RepliesSoFar}
use Rattle.fcdoc_core.proofs.delivery.reply_to_all.Given as goal

abbrev pub invariant-loop-line : goal.invariant-loop-line
invariant-loop-line g l =
    RepliesSoFar l.fn.session l.session l.lines l.line-index l.refused (g.K.Sink.written l.fn.out) (g.K.Sink.written l.out)
    (g.K.Sink.faults l.fn.out) (g.K.Sink.faults l.out)
