use Rattle.document_model.proofs.WorkedRenameLemmas.{alias_renames_work, property_renames_work, relabellings_work}
use Rattle.document_model.proofs.laws.renames_work.Goals as goal

pub returns : goal.returns
returns c = record { labels = relabellings_work; properties = property_renames_work; aliases = alias_renames_work }
