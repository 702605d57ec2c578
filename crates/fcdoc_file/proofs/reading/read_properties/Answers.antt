use Rattle.std.proofs.Common.{◌≡◌, ◌+◌, ◌-◌, map, arith, rules}
use Rattle.std.proofs.lemmas.Result.{err_from_is_err_and}
use Rattle.std.proofs.lemmas.List.{map_push}
use Rattle.fcdoc_file.specs.Cursor.{each, numbers}
use Rattle.fcdoc_file.specs.Reading.{property_at}
use Rattle.fcdoc_file.specs.Rows.{property_of}
use Rattle.fcdoc_file.proofs.ReadingLemmas.{goes_on, ends, is_done, numbers_left}
use Rattle.fcdoc_file.proofs.reading.read_properties.Goals as goal

pub returns-in_err-property : goal.returns-in_err-property
returns-in_err-property c =
    let p = err_from_is_err_and c.from_residual.result c.from_residual.ensures.1 in
    rw (p.1, p.2) (ends (λ _. property_at) c.in_err-property.field-0.0 (map property_of c.loop.properties.items) (1 + c.loop.counter)
    (numbers (1 + (c.loop.counter + 1)) (c.args.count - (c.loop.counter + 1))) c.loop.rest.now (each (λ _. property_at) (numbers 1 c.args.count) c.args.text.now)
    c.in_err-property.ensures (rw (numbers_left 1 c.args.count c.loop.counter c.loop-test.true) at c.loop.invariant.so_far))

pub loop-preserved : goal.loop-preserved
loop-preserved c =
    let p = c.in_ok-property.property in
    let e = map_push property_of c.loop.properties.items p in
    record {
      text = search rules;
      so_far = rw (c.in_ok-push.ensures.items, e) (goes_on (λ _. property_at) (map property_of c.loop.properties.items) (1 + c.loop.counter)
          (numbers (1 + (c.loop.counter + 1)) (c.args.count - (c.loop.counter + 1))) c.loop.rest.now (property_of p) c.in_ok-property.after.now
          (each (λ _. property_at) (numbers 1 c.args.count) c.args.text.now) c.in_ok-property.ensures
          (rw (numbers_left 1 c.args.count c.loop.counter c.loop-test.true) at c.loop.invariant.so_far));
    }

pub returns : goal.returns
returns c =
    let over : c.args.count - c.loop.counter ≡ 0 = omega arith in
    is_done (λ _. property_at) (map property_of c.loop.properties.items) c.loop.rest.now (each (λ _. property_at) (numbers 1 c.args.count) c.args.text.now)
    (rw over at c.loop.invariant.so_far)
