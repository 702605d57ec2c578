-- The counts of faults of the store over files and the sink over a writer.
use Rattle.std.specs.Prelude.{ℕ}
use Rattle.fc_base.specs.declared.file_store.FileStore.{FileStore}
use Rattle.fc_base.specs.declared.standard_sink.StdSink.{StdSink}

-- how often the store failed
abbrev pub store_faults : {R File Dir : Type 0} → FileStore R File Dir → ℕ
store_faults s = s.faults

-- how often the sink failed
abbrev pub sink_faults : {W : Type 0} → StdSink W → ℕ
sink_faults s = s.faults
