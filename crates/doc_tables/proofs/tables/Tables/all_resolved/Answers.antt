use Rattle.std.proofs.Common.{◌≡◌, ◌++◌, [], ◌∷◌, ℕ, List, Option, IsSome, Vec, Global, map, length, sym, subst, ap, ◌∙◌, arith}
use Rattle.std.proofs.lemmas.List.{map-append, length-map}
use Rattle.fc_base.specs.declared.ids.SlotId.{SlotId}
use Rattle.doc_tables.specs.Accessors.{AreReached, reached_at}
use Rattle.doc_tables.specs.Numbered.{slot_at}
use Rattle.doc_tables.specs.DependencyLists.{list_at}
use Rattle.doc_tables.specs.Reached.{lists_of}
use Rattle.doc_tables.proofs.ListLemmas.{lists-more}
use Rattle.doc_tables.proofs.ReachedLemmas.{used-below}
use Rattle.doc_tables.proofs.tables.Tables.all_resolved.Goals as goal

pub loop-number-preserved : goal.loop-number-preserved
loop-number-preserved c =
    let t = c.args.self.now in
    let k : ℕ = c.loop-number.number in
    let seen : Vec (Option SlotId) Global → List (Option SlotId) = λ list. list.items in
    let old = c.loop-number.lists in
    let one = c.in_ok-resolved_at.field-0 in
    let grown : lists_of c.push.new.self.items ≡ lists_of old.items ++ one.items ∷ [] = ap (map seen) c.in_ok-push.ensures.items ∙ map-append seen old.items (one ∷ []) in
    let count : length (lists_of old.items) ≡ k = omega (arith, length-map old.items seen, c.loop-number.invariant.count) in
    record {
      count = omega (arith, c.in_ok-push.ensures.len, c.loop-number.invariant.count);
      each = λ n h.
          subst (λ (ls : List (List (Option SlotId))). IsSome (slot_at t n) → AreReached t (list_at ls n) (reached_at t n)) (sym grown)
          (lists-more (λ (m : ℕ) (l : List (Option SlotId)). IsSome (slot_at t m) → AreReached t l (reached_at t m)) (lists_of old.items) one.items k count c.loop-number.invariant.each c.in_ok-resolved_at.ensures n h);
    }

pub returns : goal.returns
returns c = λ n used.
    let t = c.args.self.now in
    let below = used-below t n used in
    c.loop-number.invariant.each n (omega (arith, below, c.slot_limit-number-end.ensures, c.loop-number-test.false)) used
