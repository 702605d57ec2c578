use Rattle.document_model.proofs.FormLemmas.{IsObject-new_object, IsProperty-new_property}
use Rattle.document_model.proofs.laws.new_objects_are_well_formed.Goals as goal

pub returns : goal.returns
returns c = record { objects = IsObject-new_object; properties = IsProperty-new_property }
