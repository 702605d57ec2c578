-- The paths that a text can spell.
use Rattle.std.specs.Prelude.{◌||◌, IsTrue}
use Rattle.fc_base.specs.Places.{IsPlace}
use Rattle.fc_base.specs.Texts.{is_name, is_label}
use Rattle.object_paths.specs.declared.slot_name.SlotName.{SlotName}
use Rattle.object_paths.specs.declared.slot_name.SlotName.TheVariants.{Plain, Component, Marked}
use Rattle.object_paths.specs.declared.path.Owner.{Owner}
use Rattle.object_paths.specs.declared.path.Owner.TheVariants.{Here, ByName, ByLabel}
use Rattle.object_paths.specs.declared.path.Path.{Path}

-- a name, or a place of a sheet with at least one mark
abbrev pub IsSlotName : SlotName → Type 0
IsSlotName (Plain n) = IsTrue (is_name n)
IsSlotName (Component n c) = IsTrue (is_name n)
IsSlotName (Marked p) = IsPlace p × IsTrue (p.fixed_column || p.fixed_row)

-- a name, or a place of a sheet, marked or not
abbrev pub HasParts : SlotName → Type 0
HasParts (Plain n) = IsTrue (is_name n)
HasParts (Component n c) = IsTrue (is_name n)
HasParts (Marked p) = IsPlace p

-- the object itself, a name or a label
abbrev pub IsOwner : Owner → Type 0
IsOwner Here = Unit {0}
IsOwner (ByName n) = IsTrue (is_name n)
IsOwner (ByLabel l) = IsTrue (is_label l)

-- a path whose parts can be spelled
pub record IsPath (p : Path) : Type 0 where
  pub owner : IsOwner p.owner
  pub slot : IsSlotName p.slot
