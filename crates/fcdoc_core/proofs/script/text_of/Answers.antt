use Rattle.std.proofs.Common.{arith}
use Rattle.fcdoc_core.proofs.ScriptLemmas.{line_fault-not_utf8, line_fault-long, line_fault-none}
use Rattle.fcdoc_core.proofs.script.text_of.Goals as goal

pub returns-in_default : goal.returns-in_default
returns-in_default c = line_fault-not_utf8 c.args.number c.args.line.now c.in_default.ensures.cases.0

pub returns-then-line-gt-MOST_LINE_BYTES : goal.returns-then-line-gt-MOST_LINE_BYTES
returns-then-line-gt-MOST_LINE_BYTES c = line_fault-long c.args.number c.args.line.now c.in-Ok.ensures.cases.1 (omega arith)

pub returns : goal.returns
returns c = (c.in-Ok.ensures.cases.0, line_fault-none c.args.number c.args.line.now c.in-Ok.ensures.cases.1 (omega arith))
