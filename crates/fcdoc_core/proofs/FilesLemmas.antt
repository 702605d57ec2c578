-- The files for which a plan is the meaning.
use Rattle.std.proofs.Common.{◌≡◌, ℕ, zero, suc, ◌<◌, ◌≤◌, List, [], ◌∷◌, length, Option, None, Some, Result, Ok, Err, IfOk, IfSome, refl, subst, sym, ap, ◌∙◌, arith, Vec, Global}
use Rattle.std.proofs.lemmas.Bool.{le-leb, lt-leb}
use Rattle.std.specs.FinMap.{get}
use Rattle.fc_base.specs.Devices.{Held, HoldsBeyond}
use Rattle.property_types.specs.Plans.{Slots}
use Rattle.document_outcomes.specs.Full.{Meanings}
use Rattle.document_outcomes.specs.Typed.{no_features}
use Rattle.fcdoc_core.specs.declared.status.Status.TheVariants.{DocumentRefused}
use Rattle.fcdoc_core.specs.declared.open_fault.OpenFault.{OpenFault}
use Rattle.fcdoc_core.specs.declared.open_fault.OpenFault.TheVariants as opening
use Rattle.fcdoc_core.specs.declared.open_fault.OpenFault.TheVariants.{NotBuilt, Load, Doc}
use Rattle.fcdoc_core.specs.declared.plan.Found.{Found}
use Rattle.fcdoc_core.specs.declared.plan.Found.TheVariants.{Bytes, TooLong, Nothing}
use Rattle.fcdoc_core.specs.declared.plan.Plan.{Plan}
use Rattle.fcdoc_core.specs.declared.plan.Plan.TheVariants.{Usage, DocumentTooLong, ScriptTooLong}
use Rattle.fcdoc_core.specs.declared.stop.Stop.{Stop}
use Rattle.fcdoc_core.specs.Machine.{State, SessionView}
use Rattle.fcdoc_core.specs.Opening.{Unopened, unloaded, faulty, Opens, opened_of}
use Rattle.fcdoc_file.specs.Loading.{malformed, not_built}
use Rattle.fcdoc_core.specs.OpenFaults.{HasLine, open_fault_text}
use Rattle.fcdoc_core.specs.Plans.{IsFound, MeansForm, MeansScript, top_of_plan}
use Rattle.fcdoc_core.specs.Replies.{unopened_text}
use Rattle.fcdoc_core.specs.Scripts.{most_bytes, script_of}
use Rattle.fcdoc_core.specs.Top.{Files, files_in, missing, one_piece, top_of_form, top_of_lines, top_of_state}
use Rattle.fcdoc_core.specs.Words.{Form, Names, run}

-- bytes above a length
pub record Longer (limit : ℕ) : Type 0 where
  pub bytes : List ℕ
  pub beyond : limit < length bytes

abbrev zeros : ℕ → List ℕ
zeros zero = []
zeros (suc n) = zero ∷ zeros n

zeros_length : (n : ℕ) → length (zeros n) ≡ n
zeros_length zero = refl
zeros_length (suc n) = ap suc (zeros_length n)

pub longer : (limit : ℕ) → Longer limit
longer limit = record { bytes = zeros (suc limit); beyond = rw (zeros_length (suc limit)) (omega arith) }

-- ---- the script

pub bytes_there : (known : Option Held) (name : List ℕ) (v : Vec ℕ Global) → IfSome known (λ held. IsFound held name (Bytes v)) → IfSome known (λ held. get held name ≡ Some v.items)
bytes_there None name v found = tt
bytes_there (Some held) name v found = found.0

pub script_found : (plans : List Slots) (known : Option Held) (name bytes : List ℕ) (s : State) (result : Result Plan Stop)
    → IfSome known (λ held. get held name ≡ Some bytes) → length bytes ≤ most_bytes
    → IfOk result (λ plan. top_of_plan plan ≡ top_of_lines plans no_features s (script_of bytes))
    → IfOk result (MeansScript plans known name (Ok s))
script_found plans known name bytes s (Ok plan) there within is = record { script = Some bytes; found = there; means = rw (le-leb (length bytes) most_bytes within) (sym is) }
script_found plans known name bytes s (Err stop) there within is = tt

pub long_script : (plans : List Slots) (known : Option Held) (name : List ℕ) (s : State) → IfSome known (λ held. HoldsBeyond held name most_bytes) → MeansScript plans known name (Ok s) ScriptTooLong
long_script plans None name s there = record { script = Some (longer most_bytes).bytes; found = tt; means = rw (lt-leb (length (longer most_bytes).bytes) most_bytes (longer most_bytes).beyond) refl }
long_script plans (Some held) name s there = record { script = Some there.bytes; found = there.found; means = rw (lt-leb (length there.bytes) most_bytes there.beyond) refl }

pub script_missing : (plans : List Slots) (known : Option Held) (name : List ℕ) (s : State) (result : Result Plan Stop)
    → IfSome known (λ held. get held name ≡ None) → IfOk result (λ plan. top_of_plan plan ≡ missing name)
    → IfOk result (MeansScript plans known name (Ok s))
script_missing plans known name s (Ok plan) there is = record { script = None; found = there; means = sym is }
script_missing plans known name s (Err stop) there is = tt

-- a document that is not opened has the line of its fault, whatever stands under the script's name
unopened_line : (u : Result State Unopened) (fault : OpenFault) → Opens u (Err fault) → HasLine fault → (plans : List Slots) (m : Meanings) (name : List ℕ) (found : Option (List ℕ))
    → top_of_state plans m name found u ≡ one_piece DocumentRefused (open_fault_text fault)
unopened_line (Ok s) NotBuilt o h plans m name found = absurd o
unopened_line (Ok s) (Load told) o h plans m name found = absurd o
unopened_line (Ok s) (Doc told) o h plans m name found = absurd o
unopened_line (Ok s) (opening.Memory e) o h plans m name found = absurd h
unopened_line (Err (unloaded not_built)) NotBuilt o h plans m name found = refl
unopened_line (Err (unloaded not_built)) (Load told) o h plans m name found = absurd o
unopened_line (Err (unloaded not_built)) (Doc told) o h plans m name found = absurd o
unopened_line (Err (unloaded not_built)) (opening.Memory e) o h plans m name found = absurd h
unopened_line (Err (unloaded (malformed f))) NotBuilt o h plans m name found = absurd o
unopened_line (Err (unloaded (malformed f))) (Load told) o h plans m name found = ap (λ x. one_piece DocumentRefused (unopened_text (unloaded (malformed x)))) (sym o)
unopened_line (Err (unloaded (malformed f))) (Doc told) o h plans m name found = absurd o
unopened_line (Err (unloaded (malformed f))) (opening.Memory e) o h plans m name found = absurd h
unopened_line (Err (faulty f)) NotBuilt o h plans m name found = absurd o
unopened_line (Err (faulty f)) (Load told) o h plans m name found = absurd o
unopened_line (Err (faulty f)) (Doc told) o h plans m name found =
    ap (λ n. one_piece DocumentRefused (unopened_text (faulty (record { number = n; subject = f.subject })))) o.number
    ∙ ap (λ s. one_piece DocumentRefused (unopened_text (faulty (record { number = told.number; subject = s })))) o.subject
unopened_line (Err (faulty f)) (opening.Memory e) o h plans m name found = absurd h

-- what stands under a name, where the store tells it
abbrev there_for : Option Held → List ℕ → Option (List ℕ)
there_for None name = None
there_for (Some held) name = get held name

there_is : (known : Option Held) (name : List ℕ) → IfSome known (λ held. get held name ≡ there_for known name)
there_is None name = tt
there_is (Some held) name = refl

pub refused_means : (known : Option Held) (name : List ℕ) (u : Result State Unopened) (fault : OpenFault) (result : Result Plan Stop) → Opens u (Err fault) → HasLine fault
    → IfOk result (λ plan. top_of_plan plan ≡ one_piece DocumentRefused (open_fault_text fault))
    → IfOk result (MeansScript [] known name u)
refused_means known name u fault (Err stop) o h is = tt
refused_means known name u fault (Ok plan) o h is = record {
  script = there_for known name;
  found = there_is known name;
  means = unopened_line u fault o h [] no_features name (there_for known name) ∙ sym is;
}

-- a document that was opened is that of the session, which has no features
pub opened_means : (known : Option Held) (name : List ℕ) (u : Result State Unopened) (v : SessionView) (result : Result Plan Stop) → Opens u (Ok v)
    → IfOk result (MeansScript v.plans known name (Ok v.state)) → IfOk result (MeansScript [] known name u)
opened_means known name u v (Err stop) o m = tt
opened_means known name (Ok s) v (Ok plan) o m = subst (λ (w : SessionView). MeansScript w.plans known name (Ok w.state) plan) o m
opened_means known name (Err cause) v (Ok plan) o m = absurd o

-- ---- the form

-- what a store holds under both names
held-files : (known : Option Held) (names : Names) (document script : Option (List ℕ)) → IfSome known (λ held. get held names.document ≡ document) → IfSome known (λ held. get held names.script ≡ script)
    → IfSome known (λ held. files_in held (Some (run names)) ≡ record { document = document; script = script })
held-files None names document script d s = tt
held-files (Some held) names document script d s =
    ap (λ (x : Option (List ℕ)). record { document = x; script = get held names.script }) d ∙ ap (λ (x : Option (List ℕ)). record { document = document; script = x }) s

pub document_found : (known later : Option Held) (names : Names) (bytes : List ℕ) (result : Result Plan Stop) → later ≡ known
    → IfSome known (λ held. get held names.document ≡ Some bytes) → length bytes ≤ most_bytes
    → IfOk result (MeansScript [] later names.script (opened_of bytes))
    → IfOk result (MeansForm known (Some (run names)))
document_found known later names bytes (Ok plan) same there within m =
    let n : MeansScript [] known names.script (opened_of bytes) plan = subst (λ (k : Option Held). MeansScript [] k names.script (opened_of bytes) plan) same m in
    record {
      files = record { document = Some bytes; script = n.script };
      found = held-files known names (Some bytes) n.script there n.found;
      means = rw (le-leb (length bytes) most_bytes within) n.means;
    }
document_found known later names bytes (Err stop) same there within m = tt

pub long_document : (known : Option Held) (names : Names) → IfSome known (λ held. HoldsBeyond held names.document most_bytes) → MeansForm known (Some (run names)) DocumentTooLong
long_document None names there = record {
  files = record { document = Some (longer most_bytes).bytes; script = None };
  found = tt;
  means = rw (lt-leb (length (longer most_bytes).bytes) most_bytes (longer most_bytes).beyond) refl;
}
long_document (Some held) names there = record {
  files = record { document = Some there.bytes; script = get held names.script };
  found = ap (λ (x : Option (List ℕ)). record { document = x; script = get held names.script }) there.found;
  means = rw (lt-leb (length there.bytes) most_bytes there.beyond) refl;
}

pub document_missing : (known : Option Held) (names : Names) (result : Result Plan Stop) → IfSome known (λ held. get held names.document ≡ None)
    → IfOk result (λ plan. top_of_plan plan ≡ missing names.document)
    → IfOk result (MeansForm known (Some (run names)))
document_missing known names (Ok plan) there is = record {
  files = record { document = None; script = there_for known names.script };
  found = held-files known names None (there_for known names.script) there (there_is known names.script);
  means = sym is;
}
document_missing known names (Err stop) there is = tt

-- words without a form
pub usage_means : (known : Option Held) (form : Option Form) → form ≡ None → MeansForm known form Usage
usage_means known form none = subst (λ (f : Option Form). MeansForm known f Usage) (sym none) (record {
  files = record { document = None; script = None };
  found = same known;
  means = refl;
})
  where
    same : (k : Option Held) → IfSome k (λ held. files_in held None ≡ record { document = None; script = None })
    same None = tt
    same (Some held) = refl
