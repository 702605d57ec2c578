use Rattle.document_model.proofs.WorkedObjectLemmas.{ill_formed_objects_work, ill_formed_parts_work, well_formed_objects_work}
use Rattle.document_model.proofs.laws.well_formed_objects_work.Goals as goal

pub returns : goal.returns
returns c = record { well_formed = well_formed_objects_work; objects = ill_formed_objects_work; parts = ill_formed_parts_work }
