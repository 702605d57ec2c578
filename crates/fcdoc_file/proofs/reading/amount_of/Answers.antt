use Rattle.std.proofs.Common.{ap, ◌∙◌}
use Rattle.fcdoc_file.specs.Reading.{amount_of}
use Rattle.fcdoc_file.proofs.AmountLemmas.{amount_of-exact}
use Rattle.fcdoc_file.proofs.reading.amount_of.Goals as goal

pub returns : goal.returns
returns c = amount_of-exact c.as_bytes.result.now c.read_nine.result c.read_nine.ensures.found c.read_nine.ensures.only ∙ ap amount_of c.as_bytes.ensures.value
