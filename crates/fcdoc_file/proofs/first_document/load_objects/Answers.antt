use Rattle.fcdoc_file.proofs.TextLaws.{no_text}
use Rattle.fcdoc_file.proofs.first_document.load_objects.Goals as goal

pub returns-in_default : goal.returns-in_default
returns-in_default c = no_text c.args.bytes.now c.in_default.ensures.cases.0
