use Rattle.std.proofs.Common.{◌≡◌, ◌+◌, ◌-◌, arith, rules}
use Rattle.std.proofs.lemmas.Result.{err_from_is_err_and}
use Rattle.fcdoc_file.specs.Cursor.{each, numbers}
use Rattle.fcdoc_file.specs.Reading.{declared_at}
use Rattle.fcdoc_file.proofs.ReadingLemmas.{goes_on, ends, is_done, numbers_left}
use Rattle.fcdoc_file.proofs.reading.read_list.Goals as goal

pub returns-in_err-name : goal.returns-in_err-name
returns-in_err-name c =
    let p = err_from_is_err_and c.from_residual.result c.from_residual.ensures.1 in
    rw (p.1, p.2) (ends declared_at c.in_err-name.field-0.0 c.loop-place.names.items (1 + c.loop-place.place)
    (numbers (1 + (c.loop-place.place + 1)) (c.args.count - (c.loop-place.place + 1))) c.loop-place.rest.now (each declared_at (numbers 1 c.args.count) c.args.text.now)
    c.in_err-name.ensures (rw (numbers_left 1 c.args.count c.loop-place.place c.loop-place-test.true) at c.loop-place.invariant.so_far))

pub loop-place-preserved : goal.loop-place-preserved
loop-place-preserved c =
    let p = c.in_ok-name.name in
    record {
      text = search rules;
      so_far = rw c.in_ok-push.ensures.items (goes_on declared_at c.loop-place.names.items (1 + c.loop-place.place)
          (numbers (1 + (c.loop-place.place + 1)) (c.args.count - (c.loop-place.place + 1))) c.loop-place.rest.now p c.in_ok-name.after.now
          (each declared_at (numbers 1 c.args.count) c.args.text.now) c.in_ok-name.ensures
          (rw (numbers_left 1 c.args.count c.loop-place.place c.loop-place-test.true) at c.loop-place.invariant.so_far));
    }

pub returns : goal.returns
returns c =
    let over : c.args.count - c.loop-place.place ≡ 0 = omega arith in
    is_done declared_at c.loop-place.names.items c.loop-place.rest.now (each declared_at (numbers 1 c.args.count) c.args.text.now)
    (rw over at c.loop-place.invariant.so_far)
