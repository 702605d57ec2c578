use Rattle.std.proofs.Common.{◌≡◌, ◌++◌, [], ◌∷◌, ℕ, List, Some, Vec, Global, map, length, sym, subst, ap, ◌∙◌, arith}
use Rattle.std.proofs.lemmas.List.{map-append, length-map}
use Rattle.doc_tables.specs.Accessors.{deps_at}
use Rattle.doc_tables.specs.DependencyLists.{list_at}
use Rattle.doc_tables.specs.Numbered.{slot_at}
use Rattle.doc_tables.proofs.ListLemmas.{lists-more}
use Rattle.doc_tables.proofs.tables.Tables.dependency_lists.Goals as goal

pub loop-number-preserved : goal.loop-number-preserved
loop-number-preserved c =
    let t = c.args.self.now in
    let k : ℕ = c.loop-number.number in
    let seen : Vec ℕ Global → List ℕ = λ list. list.items in
    let old = c.loop-number.lists in
    let one = c.in_ok-dependencies_at.field-0 in
    let pushed = c.in_ok-push.ensures.items in
    let grown : map seen c.push.new.self.items ≡ map seen old.items ++ one.items ∷ [] = ap (map seen) pushed ∙ map-append seen old.items (one ∷ []) in
    let count : length (map seen old.items) ≡ k = omega (arith, length-map old.items seen, c.loop-number.invariant.count) in
    record {
      count = omega (arith, c.in_ok-push.ensures.len, c.loop-number.invariant.count);
      each = λ n h.
          subst (λ (ls : List (List ℕ)). map (slot_at t) (list_at ls n) ≡ map Some (deps_at t n)) (sym grown)
          (lists-more (λ (m : ℕ) (l : List ℕ). map (slot_at t) l ≡ map Some (deps_at t m)) (map seen old.items) one.items k count c.loop-number.invariant.each c.in_ok-dependencies_at.ensures n h);
    }
