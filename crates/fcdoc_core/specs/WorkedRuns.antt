-- What runs leave that call features and put a document, worked out.
use Rattle.std.specs.Prelude.{◌≡◌, ◌≢◌, ℕ, false, List, [], ◌∷◌, ◌++◌, Option, Some, None, codes}
use Rattle.std.specs.FinMap.{get, insert}
use Rattle.fc_base.specs.Devices.{Held, last_count}
use Rattle.property_types.specs.Plans.{Slots}
use Rattle.fcdoc_core.specs.declared.status.Status.{Status}
use Rattle.fcdoc_core.specs.declared.status.Status.TheVariants.{Done, SomeRefused, StoreFault, SinkFault, Memory}
use Rattle.fcdoc_core.specs.Causes.{Counts, counts}
use Rattle.fcdoc_core.specs.FeatureRuns.{FeatureRuns, RanFor, RanAtMostFor}
use Rattle.fcdoc_core.specs.Headline.{Leaves, Run}
use Rattle.fcdoc_core.specs.Top.{Top}

-- a plan of that type, without slots
abbrev pub plan_of_type : List ℕ → Slots
plan_of_type name = record { type_name = name; inputs = []; outputs = []; placed = false; members = false }

-- the features B and C, which were run so often
abbrev pub ran : ℕ → ℕ → List FeatureRuns
ran b c = record { plan = plan_of_type (codes "B"); runs = b } ∷ record { plan = plan_of_type (codes "C"); runs = c } ∷ []

-- three replies, for which B, then B and C, then C are called; B is called once more behind them, and a
-- document is put under the name N
abbrev pub saving : Top
saving = record {
  pieces =
      record { text = codes "a\n"; calls = codes "B" ∷ [] }
      ∷ record { text = codes "bc\n"; calls = codes "B" ∷ codes "C" ∷ [] }
      ∷ record { text = codes "d\n"; calls = codes "C" ∷ [] }
      ∷ [];
  closing = codes "B" ∷ [];
  status = Done;
  put = Some (codes "N", codes "x");
}

-- a run that found a store that holds this, a sink that was given `w`, and features that ran 5 and 7 times
abbrev pub left_by : Status → Held → Option Held → List ℕ → Counts → ℕ → ℕ → Run
left_by status held held_after text faults b c = record {
  status = status;
  held = Some held;
  held_after = held_after;
  written = Some (codes "w");
  written_after = Some (codes "w" ++ text);
  faults = faults;
  runs = ran 5 7;
  runs_after = ran b c;
}

abbrev pub all : List ℕ
all = codes "a\nbc\nd\n"

abbrev pub put : Held → Option Held
put held = Some (insert held (codes "N") (codes "x"))

abbrev pub none_failed : Counts
none_failed = counts 0 0 0 0

abbrev pub store_failed : Counts
store_failed = counts 0 1 0 0

abbrev pub sink_failed : Counts
sink_failed = counts 0 0 0 1

pub record RunsWork (held : Held) : Type 0 where
  pub whole : Leaves saving (left_by Done held (put held) all none_failed 8 9)
  pub nothing_put : insert held (codes "N") (codes "x") ≢ held → Leaves saving (left_by Done held (Some held) all none_failed 8 9) → ⊥
  pub half_written : Leaves saving (left_by Done held (put held) (codes "a\n") none_failed 8 9) → ⊥
  pub other_status : Leaves saving (left_by SomeRefused held (put held) all none_failed 8 9) → ⊥
  pub closing_left_out : Leaves saving (left_by Done held (put held) all none_failed 7 9) → ⊥
  pub called_twice : Leaves saving (left_by Done held (put held) all none_failed 8 10) → ⊥
  pub failed_unseen : Leaves saving (left_by Done held (put held) all store_failed 8 9) → ⊥
  -- the sink took the first reply and one byte of the second, so two commands were begun
  pub sink : Leaves saving (left_by SinkFault held (Some held) (codes "a\nb") sink_failed 7 8)
  pub next_not_called : Leaves saving (left_by SinkFault held (Some held) (codes "a\nb") sink_failed 6 7) → ⊥
  pub third_called : Leaves saving (left_by SinkFault held (Some held) (codes "a\nb") sink_failed 7 9) → ⊥
  -- one byte of the last reply: all commands were begun, and what comes behind the last reply was not
  pub last : Leaves saving (left_by SinkFault held (Some held) (codes "a\nbc\nd") sink_failed 7 9)
  pub closing_too_soon : Leaves saving (left_by SinkFault held (Some held) (codes "a\nbc\nd") sink_failed 8 9) → ⊥
  pub sink_took_all : Leaves saving (left_by SinkFault held (Some held) all sink_failed 8 9) → ⊥
  pub put_all_the_same : insert held (codes "N") (codes "x") ≢ held → Leaves saving (left_by SinkFault held (put held) (codes "a\nb") sink_failed 7 8) → ⊥
  pub fetch : Leaves saving (left_by StoreFault held (Some held) [] store_failed 5 7)
  pub called_before : Leaves saving (left_by StoreFault held (Some held) [] store_failed 6 7) → ⊥
  pub failed_put : Leaves saving (left_by StoreFault held (Some held) all store_failed 8 9)
  pub failed_put_lost_another :
      (after : Held) (name : List ℕ) → name ≢ codes "N" → get after name ≢ get held name
      → Leaves saving (left_by StoreFault held (Some after) all store_failed 8 9) → ⊥
  pub failed_put_without_closing : Leaves saving (left_by StoreFault held (Some held) all store_failed 7 9) → ⊥
  pub no_put : Leaves (record saving { put = None }) (left_by StoreFault held (Some held) all store_failed 8 9) → ⊥
  pub memory : Leaves saving (left_by Memory held (Some held) (codes "a\n") none_failed 6 7)
  pub memory_called_twice : Leaves saving (left_by Memory held (Some held) (codes "a\n") none_failed 7 9) → ⊥
  pub memory_at_the_end : Leaves saving (left_by Memory held (Some held) all none_failed 8 9)
  -- a count stops at its last value, and a feature stays what it is
  pub run_too_often : RanAtMostFor (codes "B" ∷ []) (ran 5 7) (ran 7 7) → ⊥
  pub run_less : RanAtMostFor (codes "B" ∷ []) (ran 5 7) (ran 4 7) → ⊥
  pub stops : RanFor (codes "B" ∷ []) (ran last_count 0) (ran last_count 0)
  pub other_plan : RanFor [] (record { plan = plan_of_type (codes "B"); runs = 0 } ∷ []) (record { plan = plan_of_type (codes "C"); runs = 0 } ∷ []) → ⊥
