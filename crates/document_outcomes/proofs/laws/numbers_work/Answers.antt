use Rattle.document_outcomes.proofs.WorkedLemmas as lemma
use Rattle.document_outcomes.proofs.laws.numbers_work.Goals as goal

pub returns-clause-chain : goal.returns-clause-chain
returns-clause-chain c = λ m. lemma.chain_works m

pub returns-clause-faulted : goal.returns-clause-faulted
returns-clause-faulted c = λ m. lemma.faulted_works m
