use Rattle.document_outcomes.proofs.WorkedMoreLemmas.{members_work, entries_work, hidden_aliases_work, placements_work, faulted_inputs_work}
use Rattle.document_outcomes.proofs.laws.members_and_names_work.Goals as goal

pub returns : goal.returns
returns c = record { members = members_work; entries = entries_work; aliases = hidden_aliases_work; placements = placements_work; faulted = faulted_inputs_work }
