use Rattle.std.proofs.Common.{lit<}
use Rattle.fcxml_profile.proofs.FrontLemmas.{split_at-splits}
use Rattle.fcdoc_file.proofs.cursor.quoted.Goals as goal

pub returns : goal.returns
returns c = split_at-splits 34 c.args.text.now c.split_once.result (lit< tt) c.split_once.ensures.cases
