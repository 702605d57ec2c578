-- What a session stands for behind a recompute.
use Rattle.std.proofs.Common.{◌≡◌, ℕ, Bool, true, List, length, Ok, sym, ap, ◌∙◌}
use Rattle.document_model.specs.Document.{Document}
use Rattle.document_outcomes.specs.Called.{Entry, called}
use Rattle.document_outcomes.specs.Typed.{no_features}
use Rattle.recompute.specs.Kept.{Given, AreLast, entries, faults_of}
use Rattle.recompute.specs.declared.values.Report.{Report}
use Rattle.fcdoc_core.specs.declared.reply.Reply.TheVariants as reply
use Rattle.fcdoc_core.specs.Machine.{State, SessionView, moved_to, recomputed}
use Rattle.fcdoc_core.specs.Stepping.{MeetsStep}

-- what a recompute leads to
pub recompute-meets :
    (before : SessionView) (d : Document) (clean : Bool) (old new : List Given) → AreLast no_features d new → (report : Report)
    → report.calls ≡ length (called no_features (entries old) d) → report.faults ≡ faults_of no_features d
    → MeetsStep before (moved_to before (record { now = d; last = entries new; clean = true })) (recomputed no_features (record { now = d; last = entries old; clean = clean })) (Ok (reply.Recomputed report))
recompute-meets before d clean old new last report calls faults = (
  ap (λ (es : List Entry). moved_to before (record { now = d; last = es; clean = true })) last.entries,
  ap (λ (n : ℕ). Ok (reply.Recomputed (record { calls = n; faults = faults_of no_features d }))) (sym calls)
      ∙ ap (λ (n : ℕ). Ok (reply.Recomputed (record { calls = report.calls; faults = n }))) (sym faults),
)
