use Rattle.expression_laws.proofs.ReplacedLemmas.{references_spelled, changed_spelled, renamed_spelled}
use Rattle.expression_laws.proofs.laws.renaming_keeps_spelling.Goals as goal

pub returns : goal.returns
returns c = record { references = references_spelled; changed = changed_spelled; renamed = renamed_spelled }
