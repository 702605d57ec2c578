-- The exit status of a run.
use Rattle.std.specs.Prelude.{ℕ}
use Rattle.fcdoc_core.specs.declared.status.Status.{Status}
use Rattle.fcdoc_core.specs.declared.status.Status.TheVariants.{Done, SomeRefused, Usage, Missing, DocumentRefused, ScriptRefused, StoreFault, SinkFault, Memory}

abbrev pub exit_code : Status → ℕ
exit_code Done = 0
exit_code SomeRefused = 1
exit_code Usage = 2
exit_code Missing = 3
exit_code DocumentRefused = 4
exit_code ScriptRefused = 5
exit_code StoreFault = 6
exit_code SinkFault = 7
exit_code Memory = 8
