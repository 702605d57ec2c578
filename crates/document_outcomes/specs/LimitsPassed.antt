-- Which limits a document may not pass, in numbers.
use Rattle.std.specs.Prelude.{◌≡◌, ◌<◌, ◌↔◌, ◌⊎◌, true, false, [], length, Some, IsTrue}
use Rattle.document_model.specs.Counts.{slots_and_empty_cells, nodes_of_document, dependencies_of_document}
use Rattle.document_model.specs.Document.{Document}
use Rattle.document_outcomes.specs.Faults.{first_fault, fault_within_limits}
use Rattle.document_outcomes.specs.Limits.{has_too_many, has_too_large}

-- more than 4,096 objects, 65,536 slots and empty cells, 262,144 nodes or 4,194,304 dependencies
abbrev pub IsPastLimit : Document → Type 0
IsPastLimit d =
    (4096 < length d.objects) ⊎ ((65536 < slots_and_empty_cells d)
    ⊎ ((262144 < nodes_of_document d) ⊎ (4194304 < dependencies_of_document d)))

-- One more than a limit is the first fault of every document, and the limits themselves are within.
pub record LimitsAreExact (d : Document) : Type 0 where
  pub counted : IsTrue (has_too_many d) ↔ IsPastLimit d
  pub first : IsPastLimit d → first_fault d ≡ Some (record { number = 29; subject = [] })
  pub large : has_too_large d ≡ true → first_fault d ≡ Some (record { number = 29; subject = [] })
  pub within : (IsPastLimit d → ⊥) → has_too_large d ≡ false → first_fault d ≡ fault_within_limits d
