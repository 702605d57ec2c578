-- A session over a document with a feature and a link to it, command by command.
use Rattle.std.specs.Prelude.{◌≡◌, ℕ, true, false, List, [], ◌∷◌, map, take, None, Result, Ok, Err, codes}
use Rattle.object_paths.specs.declared.slot_name.SlotName.TheVariants.{Plain}
use Rattle.document_model.specs.declared.content.Content.TheVariants.{Own}
use Rattle.document_model.specs.Document.{Document}
use Rattle.document_model.specs.Edited.{with_content}
use Rattle.document_model.specs.LinkedBox.{box_plan, mm, named}
use Rattle.document_outcomes.specs.Called.{input_lists}
use Rattle.document_outcomes.specs.RefusalNumbers.{not_built, not_recomputed, unit_mismatch}
use Rattle.document_outcomes.specs.WorkedLinks.{box_and_link, echo}
use Rattle.doc_rules.specs.declared.refusal.Refusal.{Refusal}
use Rattle.doc_rules.specs.Commanded.{refused}
use Rattle.fcdoc_core.specs.declared.reply.Reply.{Reply}
use Rattle.fcdoc_core.specs.declared.reply.Reply.TheVariants as reply
use Rattle.fcdoc_core.specs.Machine.{State, Stepped, first_state, stepped, state_behind}

-- a box, and a link to it with another Width; the link takes the box's placement along
abbrev pub boxed : Document
boxed = box_and_link true

-- the same with a Width of 3 mm for the box
abbrev pub narrowed : Document
narrowed = with_content boxed (named (codes "Box") (codes "Width")) (Own (mm 3000000000))

-- the Area of a box is its second input, its Width, for features that give their inputs back
abbrev pub lines : List (List ℕ)
lines =
    codes "recompute"
    ∷ codes "get Box.Area"
    ∷ codes "set Box.Width 3 mm"
    ∷ codes "get Box.Area"
    ∷ codes "recompute"
    ∷ codes "get Box.Area"
    ∷ codes "set Box.Width 3 s"
    ∷ codes "get L.Area"
    ∷ codes "recompute"
    ∷ codes "expr Box.Width"
    ∷ codes "widen Box"
    ∷ codes "set Box.Width 10 mm"
    ∷ codes "recompute"
    ∷ []

abbrev pub steps : List Stepped
steps = stepped (box_plan ∷ []) echo (first_state boxed) lines

abbrev pub behind : ℕ → State
behind n = state_behind (box_plan ∷ []) echo (first_state boxed) (take n lines)

-- both are asked at first; behind an edit of the box the link is not asked again, since its Width is its
-- own; behind a refused edit, which leaves the document clean, none is; and where the Width of before
-- comes back the box is, since only the last recompute counts. The last output has no input, so it is a
-- fault of each.
pub record SessionWorks : Type 0 where
  pub answers :
      map (λ (t : Stepped). t.answer) steps
      ≡ Ok (reply.Recomputed (record { calls = 2; faults = 2 }))
      ∷ Ok (reply.Value (Ok (mm 10000000000)))
      ∷ Ok reply.Ok
      ∷ Err (refused not_recomputed)
      ∷ Ok (reply.Recomputed (record { calls = 1; faults = 2 }))
      ∷ Ok (reply.Value (Ok (mm 3000000000)))
      ∷ Err (refused unit_mismatch)
      ∷ Ok (reply.Value (Ok (mm 5000000000)))
      ∷ Ok (reply.Recomputed (record { calls = 0; faults = 2 }))
      ∷ Ok (reply.Expression None)
      ∷ Err (refused not_built)
      ∷ Ok reply.Ok
      ∷ Ok (reply.Recomputed (record { calls = 1; faults = 2 }))
      ∷ []
  pub calls :
      map (λ (t : Stepped). t.calls) steps
      ≡ (codes "Part::Box" ∷ codes "Part::Box" ∷ []) ∷ [] ∷ [] ∷ [] ∷ (codes "Part::Box" ∷ []) ∷ [] ∷ [] ∷ [] ∷ [] ∷ [] ∷ [] ∷ [] ∷ (codes "Part::Box" ∷ []) ∷ []
  pub behind_recompute : behind 2 ≡ record { now = boxed; last = input_lists echo boxed; clean = true }
  pub behind_edit : behind 4 ≡ record { now = narrowed; last = input_lists echo boxed; clean = false }
  pub behind_third : behind 9 ≡ record { now = narrowed; last = input_lists echo narrowed; clean = true }
  pub behind_all : behind 13 ≡ record { now = boxed; last = input_lists echo boxed; clean = true }
