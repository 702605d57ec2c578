-- What a run leaves, by the way in which it ended.
use Rattle.std.specs.Prelude.{◌≡◌, ◌⊎◌, ℕ, List, [], map, Option, Some, None, Ok, Err, IfSome}
use Rattle.std.specs.Io.KnownBytes.{Appends, Keeps}
use Rattle.fc_base.specs.Devices.{Held, Puts}
use Rattle.fc_base.specs.declared.faults.DeviceFault.TheVariants.{Failed}
use Rattle.property_types.specs.Plans.{Slots}
use Rattle.document_outcomes.specs.Typed.{no_features}
use Rattle.fcdoc_core.specs.declared.status.Status.{Status}
use Rattle.fcdoc_core.specs.declared.status.Status.TheVariants.{Done, SomeRefused, Usage, Missing, DocumentRefused, ScriptRefused, StoreFault, SinkFault, Memory}
use Rattle.fcdoc_core.specs.Causes.{Counts, NoneFailed, StoreFailed, SinkFailed, AreHonest, counts}
use Rattle.fcdoc_core.specs.Delivery.{GaveLess, GaveFront, calls_begun}
use Rattle.fcdoc_core.specs.FeatureRuns.{FeatureRuns, RanFor, RanAtMostFor}
use Rattle.fcdoc_core.specs.Top.{Files, Top, all_calls, files_in, text_of, top, top_of_form}
use Rattle.fcdoc_core.specs.Words.{form_of}

-- What a run found and left: its status; what the store tells that it holds, and the sink that it was
-- given, before and after; the counts of faults of both; and how often each feature at hand was run.
pub record Run : Type 0 where
  pub status : Status
  pub held : Option Held
  pub held_after : Option Held
  pub written : Option (List ℕ)
  pub written_after : Option (List ℕ)
  pub faults : Counts
  pub runs : List FeatureRuns
  pub runs_after : List FeatureRuns

-- a run by its status, and then before and after: what was held, what was written, and the counts of faults
-- of the store and of the sink. No feature is handed in yet.
abbrev pub run_of : Status → Option Held → Option Held → Option (List ℕ) → Option (List ℕ) → ℕ → ℕ → ℕ → ℕ → Run
run_of status held held_after written written_after store store_after sink sink_after = record {
  status = status;
  held = held;
  held_after = held_after;
  written = written;
  written_after = written_after;
  faults = counts store store_after sink sink_after;
  runs = [];
  runs_after = [];
}

-- the plans of the features at hand
abbrev pub plans_of : Run → List Slots
plans_of r = map (λ (f : FeatureRuns). f.plan) r.runs

-- the store holds what it held, and the put where there is one
abbrev pub HasPut : Option (List ℕ × List ℕ) → Option Held → Option Held → Type 0
HasPut None before after = after ≡ before
HasPut (Some p) before after = Puts before p.0 p.1 (Ok tt) after

-- there is a put, and it failed: under every other name stands what stood there
abbrev pub HasFailedPut : Option (List ℕ × List ℕ) → Option Held → Option Held → Type 0
HasFailedPut None before after = ⊥
HasFailedPut (Some p) before after = Puts before p.0 p.1 (Err Failed) after

-- all was written and put, and the status is the defined one
pub record WroteAll (t : Top) (r : Run) : Type 0 where
  pub status_is : r.status ≡ t.status
  pub text : Appends r.written r.written_after (text_of t.pieces)
  pub held : HasPut t.put r.held r.held_after
  pub faults : NoneFailed r.faults
  pub runs : RanFor (all_calls t) r.runs r.runs_after

-- The sink failed: it was given a proper front of the pieces, and the calls of that same front were made.
pub record SinkStopped (t : Top) (r : Run) : Type 0 where
  pub gave : GaveLess t.pieces r.written r.written_after
  pub held : r.held_after ≡ r.held
  pub faults : SinkFailed r.faults
  pub runs : RanFor (calls_begun t gave.front) r.runs r.runs_after

-- the store failed at a fetch, before anything was written or called
pub record FetchStopped (r : Run) : Type 0 where
  pub text : Keeps r.written r.written_after
  pub held : r.held_after ≡ r.held
  pub faults : StoreFailed r.faults
  pub runs : r.runs_after ≡ r.runs

-- the store failed at the put, when all was written
pub record PutStopped (t : Top) (r : Run) : Type 0 where
  pub text : Appends r.written r.written_after (text_of t.pieces)
  pub held : HasFailedPut t.put r.held r.held_after
  pub faults : StoreFailed r.faults
  pub runs : RanFor (all_calls t) r.runs r.runs_after

-- Memory ran out: a front of the pieces was written, and no more calls were made than those of that same
-- front.
pub record RanOut (t : Top) (r : Run) : Type 0 where
  pub gave : GaveFront t.pieces r.written r.written_after
  pub held : r.held_after ≡ r.held
  pub faults : NoneFailed r.faults
  pub runs : RanAtMostFor (calls_begun t gave.front) r.runs r.runs_after

-- what is left of a run that means this, by its status
abbrev pub LeavesAt : Status → Top → Run → Type 0
LeavesAt Done t r = WroteAll t r
LeavesAt SomeRefused t r = WroteAll t r
LeavesAt Usage t r = WroteAll t r
LeavesAt Missing t r = WroteAll t r
LeavesAt DocumentRefused t r = WroteAll t r
LeavesAt ScriptRefused t r = WroteAll t r
LeavesAt StoreFault t r = FetchStopped r ⊎ PutStopped t r
LeavesAt SinkFault t r = SinkStopped t r
LeavesAt Memory t r = RanOut t r

abbrev pub Leaves : Top → Run → Type 0
Leaves t r = LeavesAt r.status t r

-- a run of these words leaves what their meaning says, where the store tells what it holds
abbrev pub Headline : List (List ℕ) → Run → Type 0
Headline words r = IfSome r.held (λ held. Leaves (top (plans_of r) no_features words held) r)

-- there are files for which a run of these words leaves what their meaning says, whatever the store tells
pub record ForFiles (words : List (List ℕ)) (r : Run) : Type 0 where
  pub files : Files
  pub leaves : Leaves (top_of_form (plans_of r) no_features (form_of words) files) r

-- honest devices get the defined status, or there was no memory
abbrev pub IsComplete : Top → Run → Type 0
IsComplete t r = AreHonest r.faults → (r.status ≡ t.status) ⊎ (r.status ≡ Memory)

-- the same of the meaning of the words, where the store tells what it holds
abbrev pub Complete : List (List ℕ) → Run → Type 0
Complete words r = IfSome r.held (λ held. IsComplete (top (plans_of r) no_features words held) r)
