-- The calls of a device in memory, some of which are to fail.
use Rattle.std.specs.Prelude.{◌≡◌, ℕ, ◌+◌, min, Bool, IsTrue, if◌then◌else◌, List, Contains, ◌↔◌}
use Rattle.fc_base.specs.Devices.{last_count}
use Rattle.fc_base.specs.declared.call_counter.CallCounter.{CallCounter}

-- The numbers of the calls that are to fail, counted from 1, how many calls were made, and how many failed.
pub record Calls : Type 0 where
  pub failing : List ℕ
  pub made : ℕ
  pub failed : ℕ

abbrev pub calls : CallCounter → Calls
calls c = record { failing = c.failing.items; made = c.made; failed = c.failed }

-- one more, where the count has not reached its last value
abbrev pub next_count : ℕ → ℕ
next_count n = min (n + 1) last_count

-- a call was made. It failed exactly where its number is one of those that are to fail
pub record CountsCall (before after : Calls) (fails : Bool) : Type 0 where
  pub failing : after.failing ≡ before.failing
  pub made : after.made ≡ next_count before.made
  pub exactly : IsTrue fails ↔ Contains before.failing after.made
  pub failed : after.failed ≡ (if fails then next_count before.failed else before.failed)
