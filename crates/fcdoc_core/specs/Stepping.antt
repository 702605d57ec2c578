-- What a step tells.
use Rattle.std.specs.Prelude.{◌≡◌, Result, Ok, Err}
use Rattle.fcdoc_core.specs.declared.reply.Reply.{Reply}
use Rattle.fcdoc_core.specs.declared.step_fault.StepFault.{StepFault}
use Rattle.fcdoc_core.specs.declared.step_fault.StepFault.TheVariants.{Refused, Memory}
use Rattle.doc_rules.specs.declared.refusal.Refusal.{Refusal}
use Rattle.fcdoc_core.specs.Machine.{SessionView, Stepped, moved_to}

-- The session stands for the state behind the step, and tells its reply or its refusal. Without
-- memory it stands for the state that it stood for. Its features are the same in any case.
abbrev pub MeetsStep : SessionView → SessionView → Stepped → Result Reply StepFault → Type 0
MeetsStep before after t (Ok told) = (after ≡ moved_to before t.state) × (t.answer ≡ Ok told)
MeetsStep before after t (Err (Refused told)) = (after ≡ moved_to before t.state) × (t.answer ≡ Err told)
MeetsStep before after t (Err (Memory e)) = after ≡ before

-- an answer alone, as a call tells it; want of memory says nothing of it
abbrev pub Answers : Result Reply Refusal → Result Reply StepFault → Type 0
Answers found (Ok told) = found ≡ Ok told
Answers found (Err (Refused told)) = found ≡ Err told
Answers found (Err (Memory e)) = Unit {0}
