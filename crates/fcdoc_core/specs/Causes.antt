-- Which device may be blamed.
use Rattle.std.specs.Prelude.{◌≡◌, ◌≢◌, ◌⊎◌, ℕ}
use Rattle.fc_base.specs.Devices.{HasRisen, last_count}
use Rattle.fcdoc_core.specs.declared.status.Status.{Status}
use Rattle.fcdoc_core.specs.declared.status.Status.TheVariants.{Done, SomeRefused, Usage, Missing, DocumentRefused, ScriptRefused, StoreFault, SinkFault, Memory}

-- The counts of faults of a store and of a sink, before and after.
pub record Counts : Type 0 where
  pub store_before : ℕ
  pub store_after : ℕ
  pub sink_before : ℕ
  pub sink_after : ℕ

abbrev pub counts : ℕ → ℕ → ℕ → ℕ → Counts
counts store_before store_after sink_before sink_after =
    record { store_before = store_before; store_after = store_after; sink_before = sink_before; sink_after = sink_after }

-- no count rose
pub record NoneFailed (c : Counts) : Type 0 where
  pub store : c.store_after ≡ c.store_before
  pub sink : c.sink_after ≡ c.sink_before

-- the store failed, and not the sink
pub record StoreFailed (c : Counts) : Type 0 where
  pub store : HasRisen c.store_before c.store_after
  pub sink : c.sink_after ≡ c.sink_before

-- the sink failed, and not the store
pub record SinkFailed (c : Counts) : Type 0 where
  pub store : c.store_after ≡ c.store_before
  pub sink : HasRisen c.sink_before c.sink_after

-- a device is blamed only where its count of faults rose in this run, or stands at its last value
abbrev pub HasCauses : Status → Counts → Type 0
HasCauses Done c = NoneFailed c
HasCauses SomeRefused c = NoneFailed c
HasCauses Usage c = NoneFailed c
HasCauses Missing c = NoneFailed c
HasCauses DocumentRefused c = NoneFailed c
HasCauses ScriptRefused c = NoneFailed c
HasCauses StoreFault c = StoreFailed c
HasCauses SinkFault c = SinkFailed c
HasCauses Memory c = NoneFailed c

-- neither device failed, and neither has counted to its end
pub record AreHonest (c : Counts) : Type 0 where
  pub store : c.store_after ≡ c.store_before
  pub store_end : c.store_after ≢ last_count
  pub sink : c.sink_after ≡ c.sink_before
  pub sink_end : c.sink_after ≢ last_count

-- how a run ends whose words have no form: the store is never blamed
pub record EndsAsUsage (status : Status) (c : Counts) : Type 0 where
  pub ends : (status ≡ Usage) ⊎ ((status ≡ SinkFault) ⊎ (status ≡ Memory))
  pub store : c.store_after ≡ c.store_before
