-- Private: only contracts inside this crate cite this.
-- What a reading answers, by what there is to read.
use Rattle.std.specs.Prelude.{◌≡◌, Option, None, Some, Result, Ok, Err, ⊤}
use Rattle.fc_base.specs.declared.name.NameFault.{NameFault}
use Rattle.fc_base.specs.declared.name.NameFault.TheVariants.{BadName, Memory as NameMemory}
use Rattle.fcdoc_file.specs.declared.fault.FormFault.{FormFault}
use Rattle.fcdoc_file.specs.declared.fault.FormFault.TheVariants.{NotBuilt, Memory}

-- a text that is no name is part of no document
abbrev pub form_fault_of : NameFault → FormFault
form_fault_of BadName = NotBuilt
form_fault_of (NameMemory e) = Memory e

-- what was found, seen by view, is what there is; NotBuilt where there is nothing. Of memory nothing is said
abbrev pub Gives : {X Y : Type 0} → (X → Y) → Result X FormFault → Option Y → Type 0
Gives view (Ok x) there = there ≡ Some (view x)
Gives view (Err NotBuilt) there = there ≡ None
Gives view (Err (Memory e)) there = ⊤
