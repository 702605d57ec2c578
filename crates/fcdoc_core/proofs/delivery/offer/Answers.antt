use Rattle.std.proofs.Common.{◌∙◌, ◌<◌, length, rules}
use Rattle.std.proofs.lemmas.Result.{err_from_is_err_and}
use Rattle.fcdoc_core.proofs.DeliveryLemmas.{so_far-goes_on, delivers-stops}
use Rattle.fcdoc_core.proofs.delivery.offer.Goals as goal

pub returns-in_err-taken : goal.returns-in_err-taken
returns-in_err-taken g c =
    let p = err_from_is_err_and c.from_residual.result c.from_residual.ensures.1 in
    let more : 0 < length c.loop-rest.rest.now = search rules in
    rw (p.1, p.2) (delivers-stops c.args.piece.now c.loop-rest.rest.now _ _ _ _ _ _ c.in_err-taken.field-0.0 c.loop-rest.invariant.so_far c.loop-rest.invariant.same_count
    c.in_err-taken.ensures.written c.in_err-taken.ensures.cause more)

pub loop-rest-preserved : goal.loop-rest-preserved
loop-rest-preserved g c = record {
  so_far = rw c.split_at.ensures.back (so_far-goes_on _ _ _ _ _ _ c.loop-rest.invariant.so_far c.in_ok-taken.ensures.written);
  same_count = c.in_ok-taken.ensures.cause ∙ c.loop-rest.invariant.same_count;
}
