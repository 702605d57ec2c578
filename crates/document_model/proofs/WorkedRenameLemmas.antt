-- The worked renames hold by computation.
use Rattle.std.proofs.Common.{refl}
use Rattle.std.specs.Fmt.{digits}
use Rattle.fc_base.specs.Places.{address_of, address_text}
use Rattle.document_model.specs.Resolution.{resolve}
use Rattle.document_model.specs.WorkedRenames.{AliasRenamesWork, PropertyRenamesWork, RelabellingsWork}

pub relabellings_work : RelabellingsWork
unfolding resolve address_of address_text digits
relabellings_work = record {
  document = refl;
  count = refl;
  other = refl;
  other_count = refl;
  unnamed = refl;
  unnamed_count = refl;
  slot = refl;
  label = refl;
}

pub property_renames_work : PropertyRenamesWork
unfolding resolve address_of address_text digits
property_renames_work = record {
  document = refl;
  count = refl;
  linked = refl;
  linked_count = refl;
  linked_slots = refl;
  placed = refl;
  placed_count = refl;
  status = refl;
}

pub alias_renames_work : AliasRenamesWork
unfolding resolve address_of address_text digits
alias_renames_work = record {
  document = refl;
  count = refl;
  other = refl;
}
