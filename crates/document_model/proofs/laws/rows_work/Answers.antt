use Rattle.document_model.proofs.WorkedRowLemmas.{compounds_work, removals_work, sheets_work, unplaced_work}
use Rattle.document_model.proofs.laws.rows_work.Goals as goal

pub returns : goal.returns
returns c = record { unplaced = unplaced_work; compounds = compounds_work; sheets = sheets_work; removals = removals_work }
