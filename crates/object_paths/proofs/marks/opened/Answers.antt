use Rattle.object_paths.proofs.ReadLemmas.{opened-by}
use Rattle.object_paths.proofs.marks.opened.Goals as goal

pub returns : goal.returns
returns c = opened-by c.args.text.now c.strip_prefix.result c.strip_prefix.ensures.cases
