use Rattle.std.proofs.Common.{◌+◌, ◌-◌, length, drop, arith, sym, length-drop, rules}
use Rattle.std.proofs.lemmas.List.{take_all}
use Rattle.fcdoc_core.proofs.ScriptLemmas.{lines-cut, lines-last}
use Rattle.fcdoc_core.proofs.script.first_line.Goals as goal

pub returns-in-Some-clause-cut : goal.returns-in-Some-clause-cut
returns-in-Some-clause-cut c =
    rw (take_all (length c.args.bytes.now - (c.in-Some.end + 1)) (drop (c.in-Some.end + 1) c.args.bytes.now) (omega (arith, length-drop (c.in-Some.end + 1) c.args.bytes.now)), c.before_carriage_return.ensures)
    (lines-cut c.args.bytes.now c.in-Some.end (sym c.in-Some.ensures))

pub returns-in-None-clause-cut : goal.returns-in-None-clause-cut
returns-in-None-clause-cut c = lines-last c.args.bytes.now (sym c.in-None.ensures) (search rules)
