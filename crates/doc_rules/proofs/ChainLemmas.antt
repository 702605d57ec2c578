-- The kinds of faults, one after another.
use Rattle.std.proofs.Common.{◌≡◌, None}
use Rattle.std.specs.Prelude.{Option, Result, Err}
use Rattle.std.specs.Option.{option_or}
use Rattle.document_model.specs.Document.{Document}
use Rattle.doc_tables.specs.VarSets.{HoldsVarSets}
use Rattle.document_outcomes.specs.Faults.{Fault, limit_faults, label_faults, link_faults, reference_faults, cycle_faults, sort_faults, range_faults, fault_within_limits, first_fault}
use Rattle.doc_rules.specs.declared.fault.CheckFault.{CheckFault}
use Rattle.doc_rules.specs.Found.{MeetsFault}
use Rattle.doc_rules.proofs.FirstLemmas.{or-stops, or-past}
use Rattle.doc_rules.proofs.VarSetFaults.{link_faults-none}

module _ (d : Document) where
  -- what comes behind references, and behind labels
  abbrev pub behind_references : Option Fault
  behind_references = option_or (cycle_faults d) (option_or (sort_faults d) (range_faults d))

  abbrev pub behind_labels : Option Fault
  behind_labels = option_or (reference_faults d) behind_references

  module _ (e : CheckFault) where
    pub limits-stop : MeetsFault (limit_faults d) (Err e) → MeetsFault (first_fault d) (Err e)
    unfolding first_fault
    limits-stop told = or-stops (limit_faults d) (fault_within_limits d) e told

    pub labels-stop : MeetsFault (label_faults d) (Err e) → MeetsFault (fault_within_limits d) (Err e)
    unfolding fault_within_limits
    labels-stop told = or-stops (label_faults d) (option_or (link_faults d) behind_labels) e told

    pub references-stop : MeetsFault (reference_faults d) (Err e) → MeetsFault behind_labels (Err e)
    references-stop told = or-stops (reference_faults d) behind_references e told

    pub cycles-stop : MeetsFault (cycle_faults d) (Err e) → MeetsFault behind_references (Err e)
    cycles-stop told = or-stops (cycle_faults d) (option_or (sort_faults d) (range_faults d)) e told

    pub sorts-stop : MeetsFault (sort_faults d) (Err e) → MeetsFault (option_or (sort_faults d) (range_faults d)) (Err e)
    sorts-stop told = or-stops (sort_faults d) (range_faults d) e told

  module _ (r : Result (Unit {0}) CheckFault) where
    pub limits-past : limit_faults d ≡ None → MeetsFault (fault_within_limits d) r → MeetsFault (first_fault d) r
    unfolding first_fault
    limits-past none told = or-past (limit_faults d) (fault_within_limits d) r none told

    pub labels-past : HoldsVarSets d → label_faults d ≡ None → MeetsFault behind_labels r → MeetsFault (fault_within_limits d) r
    unfolding fault_within_limits
    labels-past holds none told =
        or-past (label_faults d) (option_or (link_faults d) behind_labels) r none (or-past (link_faults d) behind_labels r (link_faults-none d holds) told)

    pub references-past : reference_faults d ≡ None → MeetsFault behind_references r → MeetsFault behind_labels r
    references-past none told = or-past (reference_faults d) behind_references r none told

    pub cycles-past : cycle_faults d ≡ None → MeetsFault (option_or (sort_faults d) (range_faults d)) r → MeetsFault behind_references r
    cycles-past none told = or-past (cycle_faults d) (option_or (sort_faults d) (range_faults d)) r none told

    pub sorts-past : sort_faults d ≡ None → MeetsFault (range_faults d) r → MeetsFault (option_or (sort_faults d) (range_faults d)) r
    sorts-past none told = or-past (sort_faults d) (range_faults d) r none told
