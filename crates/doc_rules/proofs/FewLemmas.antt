-- A valid document is small enough for one more object or slot to have a number.
use Rattle.std.proofs.Common.{◌≡◌, ℕ, ◌+◌, ◌<◌, ◌≤◌, ◌^◌, ◌||◌, length, arith}
use Rattle.std.specs.Prelude.{nat_lt}
use Rattle.std.proofs.lemmas.Bool.{ltb-false}
use Rattle.document_model.specs.Counts.{dependencies_of_document, nodes_of_document, slots_and_empty_cells}
use Rattle.document_model.specs.Document.{Document}
use Rattle.document_model.specs.Limits.{most_objects, most_slots, most_nodes, most_dependencies}
use Rattle.document_model.specs.Slots.{slots}
use Rattle.document_outcomes.specs.Faults.{IsValid}
use Rattle.document_outcomes.proofs.FaultLemmas.{valid-no_fault}
use Rattle.document_outcomes.proofs.SearchLemmas.{or_false}

module _ (d : Document) (valid : IsValid d) where
  within : (length d.objects ≤ 4096) × (slots_and_empty_cells d ≤ 65536)
  within =
      let objects = nat_lt most_objects (length d.objects) in
      let all = nat_lt most_slots (slots_and_empty_cells d) in
      let nodes = nat_lt most_nodes (nodes_of_document d) in
      let three = or_false (objects || all || nodes) (nat_lt most_dependencies (dependencies_of_document d)) (valid-no_fault d valid).counts in
      let two = or_false (objects || all) nodes three.0 in
      let one = or_false objects all two.0 in
      (ltb-false 4096 (length d.objects) one.0, ltb-false 65536 (slots_and_empty_cells d) one.1)

  pub few-objects : length d.objects + 1 < 2 ^ 32
  few-objects = let most : length d.objects ≤ 4096 = within.0 in omega arith

  pub few-slots : length (slots d) + 1 < 2 ^ 32
  few-slots = let most : slots_and_empty_cells d ≤ 65536 = within.1 in omega arith
