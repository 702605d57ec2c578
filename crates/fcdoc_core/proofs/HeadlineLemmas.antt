-- What a run left, from what was planned and what was written.
use Rattle.std.proofs.Common.{◌≡◌, ◌≢◌, ◌⊎◌, inl, inr, ℕ, ◌<◌, true, List, [], Option, None, Some, Ok, Err, IfSome, refl, subst, sym, ap, ◌∙◌, arith}
use Rattle.std.proofs.KnownBytes.{Keeps-refl}
use Rattle.fc_base.specs.Devices.{Held, HasRisen, last_count}
use Rattle.document_outcomes.specs.Typed.{no_features}
use Rattle.fcdoc_core.specs.declared.plan.Plan.{Plan}
use Rattle.fcdoc_core.specs.declared.plan.Plan.TheVariants as plan
use Rattle.fcdoc_core.specs.declared.status.Status.{Status}
use Rattle.fcdoc_core.specs.declared.status.Status.TheVariants.{Done, SomeRefused, Usage, Missing, DocumentRefused, ScriptRefused, StoreFault, SinkFault, Memory}
use Rattle.fcdoc_core.specs.declared.stop.Stop.TheVariants as stop
use Rattle.fcdoc_core.specs.Causes.{AreHonest, HasCauses}
use Rattle.fcdoc_core.specs.Headline.{Run, run_of, HasPut, WroteAll, SinkStopped, FetchStopped, PutStopped, RanOut, LeavesAt, Leaves, Headline, ForFiles, IsComplete, Complete, plans_of}
use Rattle.fcdoc_core.specs.Plans.{Ends, MeansForm, Speaks, is_end, top_of_plan}
use Rattle.fcdoc_core.specs.Top.{Files, Top, files_in, top, top_of_form}
use Rattle.fcdoc_core.specs.Words.{Form, form_of}
use Rattle.fcdoc_core.proofs.DeliveryLemmas.{appends_nothing}

-- ---- from what is written to what is left

leaves-end : (status : Status) (t : Top) (r : Run) → is_end status ≡ true → WroteAll t r → LeavesAt status t r
leaves-end Done t r e w = w
leaves-end SomeRefused t r e w = w
leaves-end Usage t r e w = w
leaves-end Missing t r e w = w
leaves-end DocumentRefused t r e w = w
leaves-end ScriptRefused t r e w = w
leaves-end StoreFault t r e w = absurd (cc)
leaves-end SinkFault t r e w = absurd (cc)
leaves-end Memory t r e w = absurd (cc)

-- no plan puts anything
no_put : (p : Plan) → (top_of_plan p).put ≡ None
no_put plan.Usage = refl
no_put (plan.Missing name) = refl
no_put plan.DocumentTooLong = refl
no_put (plan.DocumentRefused line) = refl
no_put plan.ScriptTooLong = refl
no_put (plan.ScriptRefused line) = refl
no_put (plan.Replies session script) = refl

module _ (form : Option Form) (held held_after : Option Held) (before after : Option (List ℕ)) (s s_after k k_after : ℕ) (kept : held_after ≡ held) where
  -- the plan was written to its end
  pub ends-written : (p : Plan) (status : Status) → MeansForm held form p → is_end status ≡ true → s_after ≡ s → Speaks (top_of_plan p) (Ok status) before after k k_after
      → Ends form (run_of status held held_after before after s s_after k k_after)
  ends-written p status m e same told =
      let r = run_of status held held_after before after s s_after k k_after in
      let put : HasPut (top_of_plan p).put held held_after = subst (λ (x : Option (List ℕ × List ℕ)). HasPut x held held_after) (sym (no_put p)) kept in
      record {
        files = m.files;
        found = m.found;
        leaves = subst (λ (t : Top). LeavesAt status t r) (sym m.means)
            (leaves-end status (top_of_plan p) r e (record { status_is = told.0; text = told.1; held = put; faults = record { store = same; sink = told.2 }; runs = tt }));
      }

  -- the sink failed
  pub ends-sink : (p : Plan) → MeansForm held form p → s_after ≡ s → Speaks (top_of_plan p) (Err stop.Sink) before after k k_after
      → Ends form (run_of SinkFault held held_after before after s s_after k k_after)
  ends-sink p m same told =
      let r = run_of SinkFault held held_after before after s s_after k k_after in
      record {
        files = m.files;
        found = m.found;
        leaves = subst (λ (t : Top). SinkStopped t r) (sym m.means) (record { gave = told.0; held = kept; faults = record { store = same; sink = told.1 }; runs = tt });
      }

  -- memory ran out while it was written
  pub ends-memory : (p : Plan) → MeansForm held form p → s_after ≡ s → Speaks (top_of_plan p) (Err stop.Memory) before after k k_after
      → Ends form (run_of Memory held held_after before after s s_after k k_after)
  ends-memory p m same told =
      let r = run_of Memory held held_after before after s s_after k k_after in
      record {
        files = m.files;
        found = m.found;
        leaves = subst (λ (t : Top). RanOut t r) (sym m.means) (record { gave = told.0; held = kept; faults = record { store = same; sink = told.1 }; runs = tt });
      }

-- what stands under the names of a form, where the store tells it
abbrev files_for : Option Held → Option Form → Files
files_for None form = record { document = None; script = None }
files_for (Some held) form = files_in held form

found-there : (known : Option Held) (form : Option Form) → IfSome known (λ held. files_in held form ≡ files_for known form)
found-there None form = tt
found-there (Some held) form = refl

-- the store failed before anything was written
pub ends-fetch : (form : Option Form) (held held_after : Option Held) (written : Option (List ℕ)) (s s_after k : ℕ) → held_after ≡ held → HasRisen s s_after
    → Ends form (run_of StoreFault held held_after written written s s_after k k)
ends-fetch form held held_after written s s_after k kept risen = record {
  files = files_for held form;
  found = found-there held form;
  leaves = inl (record { text = Keeps-refl written; held = kept; faults = record { store = risen; sink = refl }; runs = refl });
}

-- memory ran out before anything was written
pub ends-planless : (form : Option Form) (held held_after : Option Held) (written : Option (List ℕ)) (s s_after k : ℕ) → held_after ≡ held → s_after ≡ s
    → Ends form (run_of Memory held held_after written written s s_after k k)
ends-planless form held held_after written s s_after k kept same = record {
  files = files_for held form;
  found = found-there held form;
  leaves = record {
    gave = record { front = record { whole = 0; part = 0 }; within = omega arith; given = appends_nothing written };
    held = kept;
    faults = record { store = same; sink = refl };
    runs = tt;
  };
}

-- ---- from what is left to the clauses

-- what holds for the files that were found holds for those that are held
for_held : (known : Option Held) (form : Option Form) (files : Files) (P : Files → Type 0) → IfSome known (λ held. files_in held form ≡ files) → P files → IfSome known (λ held. P (files_in held form))
for_held None form files P found p = tt
for_held (Some held) form files P found p = subst P (sym found) p

pub headline_of : (words : List (List ℕ)) (r : Run) → Ends (form_of words) r → Headline words r
unfolding top
headline_of words r e = for_held r.held (form_of words) e.files (λ files. Leaves (top_of_form (plans_of r) no_features (form_of words) files) r) e.found e.leaves

pub for_files_of : (words : List (List ℕ)) (r : Run) → Ends (form_of words) r → ForFiles words r
for_files_of words r e = record { files = e.files; leaves = e.leaves }

causes-at : (status : Status) (t : Top) (r : Run) → LeavesAt status t r → HasCauses status r.faults
causes-at Done t r l = l.faults
causes-at SomeRefused t r l = l.faults
causes-at Usage t r l = l.faults
causes-at Missing t r l = l.faults
causes-at DocumentRefused t r l = l.faults
causes-at ScriptRefused t r l = l.faults
causes-at StoreFault t r (inl l) = l.faults
causes-at StoreFault t r (inr l) = l.faults
causes-at SinkFault t r l = l.faults
causes-at Memory t r l = l.faults

pub causes_of : (form : Option Form) (r : Run) → Ends form r → HasCauses r.status r.faults
causes_of form r e = causes-at r.status (top_of_form (plans_of r) no_features form e.files) r e.leaves

-- a count that rose, or stands at its end, is no honest one
not_honest : (before after : ℕ) → HasRisen before after → after ≡ before → after ≢ last_count → ⊥
not_honest before after risen same end = elim risen.rose [ inl less ↦ let same = same in omega arith | inr last ↦ end last ]

complete-at : (status : Status) (t : Top) (r : Run) → r.status ≡ status → LeavesAt status t r → AreHonest r.faults → (r.status ≡ t.status) ⊎ (r.status ≡ Memory)
complete-at Done t r is l h = inl l.status_is
complete-at SomeRefused t r is l h = inl l.status_is
complete-at Usage t r is l h = inl l.status_is
complete-at Missing t r is l h = inl l.status_is
complete-at DocumentRefused t r is l h = inl l.status_is
complete-at ScriptRefused t r is l h = inl l.status_is
complete-at StoreFault t r is (inl l) h = absurd (not_honest r.faults.store_before r.faults.store_after l.faults.store h.store h.store_end)
complete-at StoreFault t r is (inr l) h = absurd (not_honest r.faults.store_before r.faults.store_after l.faults.store h.store h.store_end)
complete-at SinkFault t r is l h = absurd (not_honest r.faults.sink_before r.faults.sink_after l.faults.sink h.sink h.sink_end)
complete-at Memory t r is l h = inr is

pub complete_of : (words : List (List ℕ)) (r : Run) → Ends (form_of words) r → Complete words r
unfolding top
complete_of words r e =
    for_held r.held (form_of words) e.files (λ files. IsComplete (top_of_form (plans_of r) no_features (form_of words) files) r) e.found
    (complete-at r.status (top_of_form (plans_of r) no_features (form_of words) e.files) r refl e.leaves)
