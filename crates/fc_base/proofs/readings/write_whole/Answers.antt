use Rattle.std.proofs.Common.{◌≡◌, ◌++◌, List, ℕ, take, drop, ap, ◌∙◌, sym, append_assoc, take-append-drop}
use Rattle.std.proofs.lemmas.List.{take_rest}
use Rattle.fc_base.proofs.ReadingLemmas.{Appends_both, Appends_kept}
use Rattle.fc_base.proofs.readings.write_whole.Goals as goal
use Rattle.fc_base.proofs.readings.write_whole.Goals.{in-Ok, in-Err+else-ne}

-- what stands before the rest grows by the bytes that the writer took
parts_moved : (all front rest left : List ℕ) (n : ℕ) → all ≡ front ++ rest → left ≡ drop n rest → all ≡ (front ++ take n rest) ++ left
parts_moved all front rest left n p q =
    p ∙ ap (λ l. front ++ l) (sym (take-append-drop n rest)) ∙ sym (append_assoc front (take n rest) (drop n rest)) ∙ ap (λ l. (front ++ take n rest) ++ l) (sym q)

pub loop-preserved : goal.loop-preserved
loop-preserved g c =
    let before = c.loop.invariant in
    elim c.match-write.branch [
      | in-Ok w ↦
          let left : c.match-write.rest.now ≡ drop w.in-Ok.count c.loop.rest.now = ap (λ r. r.now) w.rest-is ∙ take_rest c.loop.rest.now w.in-Ok.count in (
            before.0 ++ take w.in-Ok.count c.loop.rest.now,
            parts_moved _ before.0 c.loop.rest.now _ w.in-Ok.count before.1 left,
            Appends_both _ _ _ _ _ before.2 w.in-Ok.ensures.bytes,
          )
      | in-Err+else-ne w ↦ (
        before.0,
        before.1 ∙ ap (λ r. before.0 ++ r.now) (sym w.rest-is),
        Appends_kept _ _ _ _ before.2 w.in-Err.ensures.bytes,
      )
    ]
