use Rattle.fcxml_profile.proofs.FrontLemmas.{after-strips}
use Rattle.fcdoc_file.proofs.cursor.after.Goals as goal

pub returns : goal.returns
returns c = after-strips c.args.literal.now c.args.text.now c.strip_prefix.result c.strip_prefix.ensures.cases
