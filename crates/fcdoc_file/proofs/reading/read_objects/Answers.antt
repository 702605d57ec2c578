use Rattle.std.proofs.Common.{◌+◌, List, map, ℕ, drop, rules}
use Rattle.std.proofs.lemmas.Result.{err_from_is_err_and}
use Rattle.std.proofs.lemmas.List.{map_push, at_drop_all}
use Rattle.fcdoc_file.specs.Cursor.{each}
use Rattle.fcdoc_file.specs.Reading.{object_at}
use Rattle.fcdoc_file.specs.Rows.{object_of}
use Rattle.fcdoc_file.proofs.ReadingLemmas.{with_front, goes_on, ends, is_done, keys_left}
use Rattle.fcdoc_file.proofs.reading.read_objects.Goals as goal

pub returns-in_err-object : goal.returns-in_err-object
returns-in_err-object c =
    let p = err_from_is_err_and c.from_residual-in_err-object.result c.from_residual-in_err-object.ensures.1 in
    let left = keys_left c.args.names.now c.loop-name.name-index c.name-item.result c.in_ok-copy.field-0 c.loop-name-test.true c.name-item.is c.in_ok-copy.ensures in
    rw (p.1, p.2) (ends object_at c.in_err-object.field-0.0 (map object_of c.loop-name.objects.items) c.in_ok-copy.field-0
    (drop (c.loop-name.name-index + 1) c.args.names.now) c.loop-name.rest.now (each object_at c.args.names.now c.args.text.now)
    c.in_err-object.ensures (rw left at c.loop-name.invariant.so_far))

pub loop-name-preserved : goal.loop-name-preserved
loop-name-preserved c =
    let o = c.in_ok-object.object in
    let e = map_push object_of c.loop-name.objects.items o in
    let left = keys_left c.args.names.now c.loop-name.name-index c.name-item.result c.in_ok-copy.field-0 c.loop-name-test.true c.name-item.is c.in_ok-copy.ensures in
    record {
      text = search rules;
      so_far = rw (c.in_ok-push.ensures.items, e) (goes_on object_at (map object_of c.loop-name.objects.items) c.in_ok-copy.field-0
          (drop (c.loop-name.name-index + 1) c.args.names.now) c.loop-name.rest.now (object_of o) c.in_ok-object.after.now
          (each object_at c.args.names.now c.args.text.now) c.in_ok-object.ensures (rw left at c.loop-name.invariant.so_far));
    }

pub returns : goal.returns
returns c = is_done object_at (map object_of c.loop-name.objects.items) c.loop-name.rest.now (each object_at c.args.names.now c.args.text.now)
    (rw (at_drop_all (λ (keys : List (List ℕ)). with_front (map object_of c.loop-name.objects.items) (each object_at keys c.loop-name.rest.now)) c.args.names.now c.loop-name.name-index c.loop-name-test.false) at c.loop-name.invariant.so_far)
