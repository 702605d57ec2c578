-- Private: only contracts inside this crate cite this.
-- What a run is to write once its document and script are there, and why it stops before.
use Rattle.std.specs.Prelude.{◌≡◌, ℕ, ◌<◌, ◌≤◌, Bool, true, false, List, [], length, take, Option, None, Some, Result, Ok, Err, IfSome, string_bytes}
use Rattle.std.specs.Io.KnownBytes.{Appends}
use Rattle.fc_base.specs.Devices.{Held, HasRisen, HoldsBeyond}
use Rattle.fc_base.specs.declared.faults.DeviceFault.{DeviceFault}
use Rattle.fc_base.specs.declared.faults.DeviceFault.TheVariants as device
use Rattle.property_types.specs.Plans.{Slots}
use Rattle.document_outcomes.specs.Typed.{no_features}
use Rattle.fcdoc_core.specs.declared.status.Status.{Status}
use Rattle.fcdoc_core.specs.declared.status.Status.TheVariants as status
use Rattle.fcdoc_core.specs.declared.plan.Plan.{Plan}
use Rattle.fcdoc_core.specs.declared.plan.Plan.TheVariants.{Usage, Missing, DocumentTooLong, DocumentRefused, ScriptTooLong, ScriptRefused, Replies}
use Rattle.fcdoc_core.specs.declared.stop.Stop.{Stop}
use Rattle.fcdoc_core.specs.declared.stop.Stop.TheVariants.{Store, Sink, Memory}
use Rattle.std.specs.FinMap.{get}
use Rattle.fcdoc_core.specs.declared.plan.Found.{Found}
use Rattle.fcdoc_core.specs.declared.plan.Found.TheVariants.{Bytes, TooLong, Nothing}
use Rattle.fcdoc_core.specs.Scripts.{most_bytes, with_replies}
use Rattle.fcdoc_core.specs.Delivery.{GaveLess, GaveFront}
use Rattle.fcdoc_core.specs.Headline.{Leaves, Run, plans_of}
use Rattle.fcdoc_core.specs.Machine.{State, stepped}
use Rattle.fcdoc_core.specs.Opening.{Unopened}
use Rattle.fcdoc_core.specs.Top.{Files, Top, files_in, text_of, one_piece, usage, missing, document_too_long, script_too_long, replies_of, top_of_form, top_of_state}
use Rattle.fcdoc_core.specs.Words.{Form}

-- what is to be written: one line, or the replies to a script
abbrev pub top_of_plan : Plan → Top
top_of_plan Usage = usage
top_of_plan (Missing name) = missing (string_bytes name)
top_of_plan DocumentTooLong = document_too_long
top_of_plan (DocumentRefused line) = one_piece status.DocumentRefused line.items
top_of_plan ScriptTooLong = script_too_long
top_of_plan (ScriptRefused line) = one_piece status.ScriptRefused (string_bytes line)
top_of_plan (Replies session script) = replies_of (stepped session.plans no_features session.state (with_replies script))

-- The plan is the meaning for what stands under the script's name; where the store tells what it holds,
-- that is what it holds there.
pub record MeansScript (plans : List Slots) (known : Option Held) (name : List ℕ) (opened : Result State Unopened) (plan : Plan) : Type 0 where
  pub script : Option (List ℕ)
  pub found : IfSome known (λ held. get held name ≡ script)
  pub means : top_of_state plans no_features name script opened ≡ top_of_plan plan

-- The plan is the meaning of the form for the files under its names; where the store tells what it holds,
-- these are what it holds there.
pub record MeansForm (known : Option Held) (form : Option Form) (plan : Plan) : Type 0 where
  pub files : Files
  pub found : IfSome known (λ held. files_in held form ≡ files)
  pub means : top_of_form [] no_features form files ≡ top_of_plan plan

-- A run of the form left what it means for the files under its names; where the store tells what it holds,
-- these are what it held there.
pub record Ends (form : Option Form) (r : Run) : Type 0 where
  pub files : Files
  pub found : IfSome r.held (λ held. files_in held form ≡ files)
  pub leaves : Leaves (top_of_form (plans_of r) no_features form files) r

-- how a fetch ended: only the store's failure raised its count
abbrev pub CountsStop : {X : Type 0} → Result X Stop → ℕ → ℕ → Type 0
CountsStop (Ok x) before after = after ≡ before
CountsStop (Err Store) before after = HasRisen before after
CountsStop (Err Sink) before after = ⊥
CountsStop (Err Memory) before after = after ≡ before

-- a front of a text was given, and not all of it
pub record GavePart (text : List ℕ) (before after : Option (List ℕ)) : Type 0 where
  pub taken : ℕ
  pub proper : taken < length text
  pub given : Appends before after (take taken text)

-- a front of a text was given, perhaps all of it
pub record GaveSome (text : List ℕ) (before after : Option (List ℕ)) : Type 0 where
  pub taken : ℕ
  pub within : taken ≤ length text
  pub given : Appends before after (take taken text)

-- What an offer of a text leaves, by what it answers: all of it was given and no count rose; or the
-- sink failed and a proper front was given; or memory ran out behind a proper front.
abbrev pub Delivers : List ℕ → Result (Unit {0}) DeviceFault → Option (List ℕ) → Option (List ℕ) → ℕ → ℕ → Type 0
Delivers text (Ok u) before after old new = Appends before after text × (new ≡ old)
Delivers text (Err device.Failed) before after old new = GavePart text before after × HasRisen old new
Delivers text (Err (device.Memory e)) before after old new = GavePart text before after × (new ≡ old)

-- What an attempt to write a text leaves in the sink, and its count of faults, by how it ended: all of
-- the text was given, and the value answered is right; the sink failed behind a proper front; or no
-- memory was left behind some front.
abbrev pub Tells : {X : Type 0} → List ℕ → (X → Type 0) → Result X Stop → Option (List ℕ) → Option (List ℕ) → ℕ → ℕ → Type 0
Tells text P (Ok x) before after old new = P x × Appends before after text × (new ≡ old)
Tells text P (Err Store) before after old new = ⊥
Tells text P (Err Sink) before after old new = GavePart text before after × HasRisen old new
Tells text P (Err Memory) before after old new = GaveSome text before after × (new ≡ old)

-- the same of the pieces of a meaning, with its status
abbrev pub Speaks : Top → Result Status Stop → Option (List ℕ) → Option (List ℕ) → ℕ → ℕ → Type 0
Speaks t (Ok status) before after old new = (status ≡ t.status) × Appends before after (text_of t.pieces) × (new ≡ old)
Speaks t (Err Store) before after old new = ⊥
Speaks t (Err Sink) before after old new = GaveLess t.pieces before after × HasRisen old new
Speaks t (Err Memory) before after old new = GaveFront t.pieces before after × (new ≡ old)

-- a status with which a whole text goes: no device failed, and there was memory
abbrev pub is_end : Status → Bool
is_end status.Done = true
is_end status.SomeRefused = true
is_end status.Usage = true
is_end status.Missing = true
is_end status.DocumentRefused = true
is_end status.ScriptRefused = true
is_end status.StoreFault = false
is_end status.SinkFault = false
is_end status.Memory = false

-- what was found under a name is what the store holds there, where that is within the limit
abbrev pub IsFound : Held → List ℕ → Found → Type 0
IsFound held name (Bytes v) = (get held name ≡ Some v.items) × (length v.items ≤ most_bytes)
IsFound held name TooLong = HoldsBeyond held name most_bytes
IsFound held name Nothing = get held name ≡ None

-- bytes that were found are within the limit
abbrev pub IsWithin : Found → Type 0
IsWithin (Bytes v) = length v.items ≤ most_bytes
IsWithin TooLong = Unit {0}
IsWithin Nothing = Unit {0}
