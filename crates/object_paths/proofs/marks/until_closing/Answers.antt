use Rattle.object_paths.proofs.ReadLemmas.{until_closing-by}
use Rattle.object_paths.proofs.marks.until_closing.Goals as goal

pub returns : goal.returns
returns c = until_closing-by c.args.text.now c.split_once.result c.split_once.ensures.cases
