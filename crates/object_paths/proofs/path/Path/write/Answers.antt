use Rattle.std.proofs.Common.{arith}
use Rattle.std.proofs.lemmas.Grind.{common_steps}
use Rattle.object_paths.specs.PathTexts.{path_text}
use Rattle.object_paths.proofs.PathLemmas.{path_of-path_text}
use Rattle.object_paths.proofs.path.Path.write.Goals as goal

pub returns-clause-text : goal.returns-clause-text
unfolding path_text
returns-clause-text c = grind (arith, common_steps)

pub returns-clause-reads_back : goal.returns-clause-reads_back
returns-clause-reads_back c = path_of-path_text c.args.self.now

pub returns-in_err-push_owner-clause-reads_back : goal.returns-in_err-push_owner-clause-reads_back
returns-in_err-push_owner-clause-reads_back c = path_of-path_text c.args.self.now

pub returns-in_err-push_slot-clause-reads_back : goal.returns-in_err-push_slot-clause-reads_back
returns-in_err-push_slot-clause-reads_back c = path_of-path_text c.args.self.now
