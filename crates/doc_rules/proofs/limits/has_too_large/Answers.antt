use Rattle.std.proofs.Common.{◌≡◌, ◌≤◌, ℕ, true, false, length, get_or, sym, ◌∙◌, subst, add-one}
use Rattle.std.proofs.lemmas.Option.{slice_get-get_or}
use Rattle.fc_base.specs.declared.ids.SlotId.{SlotId}
use Rattle.document_model.specs.Slots.{slots}
use Rattle.doc_rules.specs.KindFaults.{has_large_tree}
use Rattle.doc_rules.proofs.FirstLemmas.{slot_numbered, same_length, live_at, list_any-skip, list_any-here, list_any-past}
use Rattle.doc_rules.proofs.VarSetFaults.{has_too_large-slots, large_at}
use Rattle.doc_rules.proofs.limits.has_too_large.Goals as goal

pub has_large_tree-requires : goal.has_large_tree-requires
has_large_tree-requires c =
    live_at c.args.tables.now c.args.listed.now (slots c.args.tables.now.document) c.requires c.loop-slot.slot-index (record { 0 = 0 }) c.loop-slot-test.true

pub returns-then-branch : goal.returns-then-branch
returns-then-branch c =
    let t = c.args.tables.now in
    let k = c.loop-slot.slot-index in
    let first : SlotId = record { 0 = 0 } in
    let m = slot_numbered t c.args.listed.now (slots t.document) c.requires k (get_or c.args.listed.now k first) (slice_get-get_or c.args.listed.now k first c.loop-slot-test.true) in
    let large : has_large_tree t.document m.0 ≡ true =
    sym (large_at t (get_or c.args.listed.now k first).0 m.0 m.2) ∙ sym c.in_ok-has_large_tree.ensures ∙ c.if-branch.true in
    sym (has_too_large-slots t.document c.holds_var_sets.ensures ∙ sym c.loop-slot.invariant ∙ list_any-here (has_large_tree t.document) (slots t.document) k m.0 m.1 large)

pub loop-slot-preserved : goal.loop-slot-preserved
loop-slot-preserved c =
    let t = c.args.tables.now in
    let k = c.loop-slot.slot-index in
    let first : SlotId = record { 0 = 0 } in
    let m = slot_numbered t c.args.listed.now (slots t.document) c.requires k (get_or c.args.listed.now k first) (slice_get-get_or c.args.listed.now k first c.loop-slot-test.true) in
    let small : has_large_tree t.document m.0 ≡ false =
    sym (large_at t (get_or c.args.listed.now k first).0 m.0 m.2) ∙ sym c.in_ok-has_large_tree.ensures ∙ c.if-branch.false in
    rw add-one (sym (list_any-skip (has_large_tree t.document) (slots t.document) k m.0 m.1 small) ∙ c.loop-slot.invariant)

pub returns : goal.returns
returns c =
    let t = c.args.tables.now in
    let k = c.loop-slot.slot-index in
    let past : length (slots t.document) ≤ k =
    subst (λ (n : ℕ). n ≤ k) (same_length t c.args.listed.now (slots t.document) c.requires) c.loop-slot-test.false in
    sym (has_too_large-slots t.document c.holds_var_sets.ensures ∙ sym c.loop-slot.invariant ∙ list_any-past (has_large_tree t.document) (slots t.document) k past)
