-- Replying line by line gives the replies to all lines that are not skipped.
use Rattle.std.proofs.Common.{◌≡◌, ℕ, suc, ◌+◌, ◌<◌, ◌≤◌, Bool, true, false, cond, not, ◌||◌, List, [], ◌∷◌, ◌++◌, length, map, take, drop, drop-cons, get_or, add-one, Option, Some, Result, Ok, Err, refl, subst, sym, ap, ◌∙◌, append_assoc, append-nil, arith, slice_get, string_bytes, String, Global}
use Rattle.std.specs.List.{flat_map, list_any}
use Rattle.std.specs.Io.KnownBytes.{Appends}
use Rattle.std.proofs.lemmas.List.{take_at}
use Rattle.fc_base.specs.Devices.{HasRisen}
use Rattle.fcdoc_core.specs.declared.stop.Stop.{Stop}
use Rattle.fcdoc_core.specs.declared.stop.Stop.TheVariants.{Store, Sink, Memory}
use Rattle.fcdoc_core.specs.Delivery.{Front, GaveLess, GaveFront, text_at, text_within}
use Rattle.document_outcomes.specs.Typed.{no_features}
use Rattle.fcdoc_core.specs.Machine.{SessionView, Stepped, step_line, stepped, moved_to, is_refused}
use Rattle.fcdoc_core.specs.Replies.{answer_text}
use Rattle.fcdoc_core.specs.Plans.{GavePart, GaveSome, Tells, Speaks}
use Rattle.fcdoc_core.specs.Scripts.{is_skipped, with_replies}
use Rattle.fcdoc_core.specs.Top.{Piece, one_piece, piece_of, replies_of, status_of, text_of}
use Rattle.fcdoc_core.specs.declared.status.Status.{Status}
use Rattle.fcdoc_core.proofs.DeliveryLemmas.{appends_more, appends_nothing}

-- ---- fronts of pieces

-- the text of pieces behind others
text_of_append : (a b : List Piece) → text_of (a ++ b) ≡ text_of a ++ text_of b
text_of_append [] b = refl
text_of_append (p ∷ a) b = ap (λ (l : List ℕ). p.text ++ l) (text_of_append a b) ∙ sym (append_assoc p.text (text_of a) (text_of b))

text_of_one : (a : List Piece) (p : Piece) → text_of (a ++ p ∷ []) ≡ text_of a ++ p.text
text_of_one a p = text_of_append a (p ∷ []) ∙ ap (λ (l : List ℕ). text_of a ++ l) (append-nil p.text)

-- the text of the piece that stands behind others
text_there : (a : List Piece) (p : Piece) (rest : List Piece) → text_at (a ++ p ∷ rest) (length a) ≡ p.text
text_there [] p rest = refl
text_there (q ∷ a) p rest = text_there a p rest

-- the text of a front that is those others, and so many bytes of that piece
text_of_front : (a : List Piece) (p : Piece) (rest : List Piece) (n : ℕ)
    → text_within (a ++ p ∷ rest) (record { whole = length a; part = n }) ≡ text_of a ++ take n p.text
text_of_front a p rest n =
    ap (λ (l : List Piece). text_of l ++ take n (text_at (a ++ p ∷ rest) (length a))) (take_at a (p ∷ rest) (length a) refl)
    ∙ ap (λ (t : List ℕ). text_of a ++ take n t) (text_there a p rest)

-- pieces were given whole, and a part of the next
given-less : (a : List Piece) (p : Piece) (rest : List Piece) (before mid after : Option (List ℕ)) → Appends before mid (text_of a) → GavePart p.text mid after → GaveLess (a ++ p ∷ rest) before after
given-less a p rest before mid after h g = record {
  front = record { whole = length a; part = g.taken };
  proper = subst (λ (t : List ℕ). g.taken < length t) (sym (text_there a p rest)) g.proper;
  given = subst (λ (t : List ℕ). Appends before after t) (sym (text_of_front a p rest g.taken)) (appends_more before mid after (text_of a) (take g.taken p.text) h g.given);
}

given-front : (a : List Piece) (p : Piece) (rest : List Piece) (before mid after : Option (List ℕ)) → Appends before mid (text_of a) → GaveSome p.text mid after → GaveFront (a ++ p ∷ rest) before after
given-front a p rest before mid after h g = record {
  front = record { whole = length a; part = g.taken };
  within = subst (λ (t : List ℕ). g.taken ≤ length t) (sym (text_there a p rest)) g.within;
  given = subst (λ (t : List ℕ). Appends before after t) (sym (text_of_front a p rest g.taken)) (appends_more before mid after (text_of a) (take g.taken p.text) h g.given);
}

-- ---- one line

pub one-spoken : {X : Type 0} (status : Status) (text : List ℕ) (P : X → Type 0) (x : X) (before after : Option (List ℕ)) (old new : ℕ) → Tells text P (Ok x) before after old new → Speaks (one_piece status text) (Ok status) before after old new
one-spoken status text P x before after old new told = (refl, subst (λ (t : List ℕ). Appends before after t) (sym (append-nil text)) told.1, told.2)

pub one-stopped : {X : Type 0} (status : Status) (text : List ℕ) (P : X → Type 0) (stop : Stop) (before after : Option (List ℕ)) (old new : ℕ) → Tells text P (Err stop) before after old new → Speaks (one_piece status text) (Err stop) before after old new
one-stopped status text P Store before after old new told = told
one-stopped status text P Sink before after old new told = (given-less [] (record { text = text; calls = [] }) [] before before after (appends_nothing before) told.0, told.1)
one-stopped status text P Memory before after old new told = (given-front [] (record { text = text; calls = [] }) [] before before after (appends_nothing before) told.0, told.1)

-- nothing was written, since memory ran out before
pub nothing-spoken : (status : Status) (text : List ℕ) (known : Option (List ℕ)) (count : ℕ) → Speaks (one_piece status text) (Err Memory) known known count count
nothing-spoken status text known count = (record { front = record { whole = 0; part = 0 }; within = omega arith; given = appends_nothing known }, refl)

-- ---- a script

-- what the machine without features does at a line, and at the lines that are not skipped; and the session
-- behind a line
abbrev pub step_at : SessionView → List ℕ → Stepped
step_at v line = step_line v.plans no_features v.state line

abbrev pub steps_to : SessionView → List (List ℕ) → List Stepped
steps_to v lines = stepped v.plans no_features v.state (with_replies lines)

abbrev pub view_behind : SessionView → List ℕ → SessionView
view_behind v line = moved_to v (step_at v line).state

abbrev pub pieces_to : SessionView → List (List ℕ) → List Piece
pieces_to v lines = map piece_of (steps_to v lines)

-- the lines that are left begin with this one
lines_left : (lines : List (String Global)) (i : ℕ) (line : String Global) → i < length lines → line ≡ get_or lines i line → drop i lines ≡ line ∷ drop (i + 1) lines
lines_left lines i line below is = rw add-one (drop-cons lines i line below ∙ ap (λ l. l ∷ drop (suc i) lines) (sym is))

-- the steps that are left, at a line that is not skipped
steps_left : (v : SessionView) (lines : List (String Global)) (i : ℕ) (line : String Global) → i < length lines → line ≡ get_or lines i line → is_skipped (string_bytes line) ≡ false
    → steps_to v (map string_bytes (drop i lines))
    ≡ step_at v (string_bytes line) ∷ steps_to (view_behind v (string_bytes line)) (map string_bytes (drop (i + 1) lines))
steps_left v lines i line below is kept =
    let rest : List (List ℕ) = with_replies (map string_bytes (drop (i + 1) lines)) in
    ap (λ ls. steps_to v (map string_bytes ls)) (lines_left lines i line below is) ∙ ap (λ b. stepped v.plans no_features v.state (cond (not b) (string_bytes line ∷ rest) rest)) kept

-- a reply more was looked at
pub refusals-step : (so_far is left next all : Bool) → (so_far || left) ≡ all → left ≡ (is || next) → ((so_far || is) || next) ≡ all
refusals-step true is left next all h e = h
refusals-step false is left next all h e = sym e ∙ h

-- the pieces so far, and those of the lines from i on, are the pieces of all lines; refused tells of a
-- refusal so far, and the sink's count of faults did not change
pub record RepliesSoFar (v w : SessionView) (lines : List (String Global)) (i : ℕ) (refused : Bool) (before mid : Option (List ℕ)) (first old : ℕ) : Type 0 where
  pub done : List Piece
  pub pieces : pieces_to v (map string_bytes lines) ≡ done ++ pieces_to w (map string_bytes (drop i lines))
  pub appended : Appends before mid (text_of done)
  pub refusals : (refused || list_any is_refused (steps_to w (map string_bytes (drop i lines)))) ≡ list_any is_refused (steps_to v (map string_bytes lines))
  pub same_count : old ≡ first

pub replies_so_far-start : (v : SessionView) (lines : List (String Global)) (known : Option (List ℕ)) (count : ℕ) → RepliesSoFar v v lines 0 false known known count count
replies_so_far-start v lines known count = record { done = []; pieces = refl; appended = appends_nothing known; refusals = refl; same_count = refl }

module _ (v w : SessionView) (lines : List (String Global)) (i : ℕ) (line : String Global) (text : List ℕ) (refused : Bool)
    (before mid after : Option (List ℕ)) (first old new : ℕ)
    (below : i < length lines) (is : line ≡ get_or lines i line) (same : text ≡ string_bytes line) (kept : is_skipped text ≡ false) (r : RepliesSoFar v w lines i refused before mid first old) where
  steps_are : steps_to w (map string_bytes (drop i lines)) ≡ step_at w text ∷ steps_to (view_behind w text) (map string_bytes (drop (i + 1) lines))
  steps_are = rw same (steps_left w lines i line below is (rw same at kept))

  abbrev rest : List Piece
  rest = pieces_to (view_behind w text) (map string_bytes (drop (i + 1) lines))

  pieces_are : pieces_to v (map string_bytes lines) ≡ r.done ++ piece_of (step_at w text) ∷ rest
  pieces_are = r.pieces ∙ ap (λ (steps : List Stepped). r.done ++ map piece_of steps) steps_are

  -- a reply more was written
  pub replies_so_far-goes_on : (is_one : Bool) → Tells (answer_text (step_at w text).answer) (λ b. b ≡ is_refused (step_at w text)) (Ok is_one) mid after old new
      → (then : SessionView) → then ≡ view_behind w text → RepliesSoFar v then lines (i + 1) (refused || is_one) before after first new
  replies_so_far-goes_on is_one told then behind = rw behind (record {
    done = r.done ++ piece_of (step_at w text) ∷ [];
    pieces = pieces_are ∙ sym (append_assoc r.done (piece_of (step_at w text) ∷ []) rest);
    appended = subst (λ (t : List ℕ). Appends before after t) (sym (text_of_one r.done (piece_of (step_at w text)))) (appends_more before mid after (text_of r.done) (answer_text (step_at w text).answer) r.appended told.1);
    refusals = refusals-step refused is_one _ (list_any is_refused (steps_to (view_behind w text) (map string_bytes (drop (i + 1) lines)))) _ r.refusals
        (ap (list_any is_refused) steps_are ∙ ap (λ b. b || list_any is_refused (steps_to (view_behind w text) (map string_bytes (drop (i + 1) lines)))) (sym told.0));
    same_count = told.2 ∙ r.same_count;
  })

  -- a reply was not written
  pub replies_so_far-stops : (stop : Stop) → Tells {X = Bool} (answer_text (step_at w text).answer) (λ b. b ≡ is_refused (step_at w text)) (Err stop) mid after old new
      → Speaks (replies_of (steps_to v (map string_bytes lines))) (Err stop) before after first new
  replies_so_far-stops Store told = told
  replies_so_far-stops Sink told = (
    subst (λ (all : List Piece). GaveLess all before after) (sym pieces_are) (given-less r.done (piece_of (step_at w text)) rest before mid after r.appended told.0),
    subst (λ (n : ℕ). HasRisen n new) r.same_count told.1,
  )
  replies_so_far-stops Memory told = (
    subst (λ (all : List Piece). GaveFront all before after) (sym pieces_are) (given-front r.done (piece_of (step_at w text)) rest before mid after r.appended told.0),
    told.1 ∙ r.same_count,
  )

-- all replies were written
pub replies_so_far-end : (v w : SessionView) (lines : List (String Global)) (i : ℕ) (refused : Bool) (before mid : Option (List ℕ)) (first old : ℕ) → RepliesSoFar v w lines i refused before mid first old
    → drop i lines ≡ [] → (refused ≡ list_any is_refused (steps_to v (map string_bytes lines))) × Appends before mid (text_of (pieces_to v (map string_bytes lines))) × (old ≡ first)
replies_so_far-end v w lines i refused before mid first old r none = (
  or_nothing refused _ (ap (λ (ls : List (String Global)). refused || list_any is_refused (steps_to w (map string_bytes ls))) (sym none) ∙ r.refusals),
  subst (λ (t : List ℕ). Appends before mid t) (ap text_of (sym (r.pieces ∙ ap (λ (ls : List (String Global)). r.done ++ pieces_to w (map string_bytes ls)) none ∙ append-nil r.done))) r.appended,
  r.same_count,
)
  where
    or_nothing : (a b : Bool) → (a || false) ≡ b → a ≡ b
    or_nothing true b h = h
    or_nothing false b h = h
