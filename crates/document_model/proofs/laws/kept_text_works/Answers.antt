use Rattle.document_model.proofs.WorkedLemmas.{attributes_work, pieces_work, foreign_properties_work, places_work}
use Rattle.document_model.proofs.laws.kept_text_works.Goals as goal

pub returns : goal.returns
returns c = record { attributes = attributes_work; pieces = pieces_work; properties = foreign_properties_work; places = places_work }
