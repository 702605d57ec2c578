use Rattle.fcxml_profile.proofs.ItemLemmas.{run_length-found, run_length-none}
use Rattle.fcxml_profile.proofs.items.run_length.Goals as goal

pub returns-in-Some-clause-count : goal.returns-in-Some-clause-count
returns-in-Some-clause-count c = run_length-found c.args.bytes.now c.in-Some.place c.in-Some.ensures

pub returns-in-None-clause-count : goal.returns-in-None-clause-count
returns-in-None-clause-count c = run_length-none c.args.bytes.now c.in-None.ensures
