use Rattle.document_outcomes.proofs.RenameLemmas.{relabelling-dependencies, relabelling-outcomes, relabelling-slots}
use Rattle.document_outcomes.proofs.laws.relabellings_keep_outcomes.Goals as goal

pub returns : goal.returns
returns c = record {
  outcomes = λ d name new is valid can. relabelling-outcomes d name new is valid can;
  dependencies = λ d name new is valid can. relabelling-dependencies d name new is valid can;
  slots = λ d name new. relabelling-slots d name new;
}
