-- The worked rows hold by computation.
use Rattle.std.proofs.Common.{refl}
use Rattle.std.specs.Fmt.{digits}
use Rattle.fc_base.specs.Places.{address_of, address_text}
use Rattle.document_model.specs.Dependencies.{deps}
use Rattle.document_model.specs.Resolution.{resolve}
use Rattle.document_model.specs.WorkedRows.{CompoundsWork, RemovalsWork, SheetsWork, UnplacedWork}

pub unplaced_work : UnplacedWork
unfolding resolve deps address_of address_text digits
unplaced_work = record {
  own = refl;
  link = refl;
  inputs = refl;
  bounds = refl;
  known = refl;
  member = refl;
  first_inputs = refl;
}

pub compounds_work : CompoundsWork
unfolding resolve deps address_of address_text digits
compounds_work = record {
  inputs_of_box = refl;
  box = refl;
  inputs = refl;
  mirrored = refl;
  foreign_end = refl;
  known = refl;
}

pub sheets_work : SheetsWork
unfolding resolve deps address_of address_text digits
sheets_work = record {
  marked = refl;
  component = refl;
  no_address = refl;
  name_alone = refl;
  label_alone = refl;
  of_link = refl;
  mixed = refl;
  mirrored = refl;
  listed = refl;
  third_link = refl;
}

pub removals_work : RemovalsWork
unfolding resolve deps address_of address_text digits
removals_work = record {
  object = refl;
  by_name = refl;
  last_object = refl;
  property = refl;
  last_property = refl;
  changed = refl;
}
