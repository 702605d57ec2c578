use Rattle.fcdoc_core.proofs.SpellingLemmas.{line_is_read, read_is_line}
use Rattle.fcdoc_core.proofs.laws.lines_spell_commands.Goals as goal

pub returns-clause-read : goal.returns-clause-read
returns-clause-read c = line_is_read

pub returns-clause-spelled : goal.returns-clause-spelled
returns-clause-spelled c = read_is_line
