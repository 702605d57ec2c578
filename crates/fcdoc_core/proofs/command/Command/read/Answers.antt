use Rattle.std.proofs.Common.{rules}
use Rattle.fcdoc_core.specs.Commands.{Reads, command_of}
use Rattle.fcdoc_core.proofs.SpellingLemmas.{told_is_line, not_built_is_none}
use Rattle.fcdoc_core.proofs.command.Command.read.Goals as goal

pub returns-clause-spelled : goal.returns-clause-spelled
returns-clause-spelled c =
    let exact : Reads (command_of c.args.line.now) c.command_of_line.result = search rules in
    told_is_line c.args.line.now c.command_of_line.result exact

pub returns-clause-not_built : goal.returns-clause-not_built
returns-clause-not_built c =
    let exact : Reads (command_of c.args.line.now) c.command_of_line.result = search rules in
    not_built_is_none c.args.line.now c.command_of_line.result exact
