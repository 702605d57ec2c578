use Rattle.std.proofs.Common.{List, None, cond, map, is_some, sym, ap, ◌∙◌, arith}
use Rattle.doc_tables.specs.Numbered.{at_number}
use Rattle.doc_tables.specs.Table.{freed_at}
use Rattle.doc_tables.proofs.HeldLemmas.{Named}
use Rattle.doc_tables.proofs.TableLemmas.{freed-step, nat_eq-below}
use Rattle.doc_tables.proofs.removals.release_slots.Goals as goal

pub loop-entry-preserved : goal.loop-entry-preserved
loop-entry-preserved c =
    let slot = c.in-Some.entry.now.slot.0 in
    let old = c.loop-entry.keys.items in
    record {
      freed = λ n.
          freed-step slot (map (λ (e : Named). e.1.slot.0) c.next.new.self) n (at_number old n) (at_number c.release.new.table.items n) (c.release.ensures.freed n)
          ∙ sym (ap (λ (l : List Named). freed_at (map (λ (e : Named). e.1.slot.0) l) n (at_number old n)) c.in-Some.ensures.steps)
          ∙ c.loop-entry.invariant.freed n;
      used = λ n below.
          ap is_some (c.release.ensures.freed n ∙ ap (λ b. cond b None (at_number old n)) (nat_eq-below n slot (omega (arith, c.lower-first.ensures))))
          ∙ c.loop-entry.invariant.used n (omega (arith, c.lower-first.ensures));
      len = c.release.ensures.len ∙ c.loop-entry.invariant.len;
    }
