use Rattle.std.proofs.Common.{◌≡◌, [], Some, map, sym, ap, ◌∙◌}
use Rattle.std.proofs.Common.{arith}
use Rattle.std.proofs.lemmas.Grind.{common_steps}
use Rattle.std.proofs.lemmas.Result.{IfOk-weaker}
use Rattle.std.proofs.lemmas.Simd.{map-map}
use Rattle.fc_base.specs.declared.ids.SlotId.{SlotId}
use Rattle.doc_tables.specs.Numbered.{slot_at}
use Rattle.doc_tables.proofs.ListLemmas.{none-depend}
use Rattle.doc_tables.proofs.tables.Tables.dependencies_at.Goals as goal

pub returns-in_ok-found : goal.returns-in_ok-found
returns-in_ok-found c =
    let t = c.args.self.now in
    IfOk-weaker c.numbers.result _ _
    (λ all e.
    ap (map (slot_at t)) (e ∙ ap (map (λ (id : SlotId). id.0)) c.deref.ensures.value)
    ∙ map-map (slot_at t) (λ (id : SlotId). id.0) c.in_ok-found.found.items ∙ c.in_ok-found.ensures)
    c.numbers.ensures

pub returns-else-is_slot : goal.returns-else-is_slot
returns-else-is_slot c =
    let t = c.args.self.now in
    let none : c.new.result.items ≡ [] = grind (arith, common_steps) in
    ap (map (slot_at t)) none ∙ sym (ap (map Some) (none-depend c.args.self.now c.args.number (cc)))
