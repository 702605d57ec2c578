-- What a sink was given of the pieces of a run.
use Rattle.std.specs.Prelude.{◌≡◌, ℕ, ◌+◌, ◌<◌, ◌≤◌, List, [], ◌++◌, length, take, nat_le, Option, slice_get, if◌then◌else◌}
use Rattle.std.specs.Option.{option_map_or}
use Rattle.std.specs.Io.KnownBytes.{Appends}
use Rattle.fcdoc_core.specs.Top.{Piece, Top, text_of, calls_for}

-- the text of the piece with that number, counted from 0; empty past the last
abbrev pub text_at : List Piece → ℕ → List ℕ
text_at pieces k = option_map_or (λ (p : Piece). p.text) (slice_get pieces k) []

-- A front of pieces: so many stand whole, and so many bytes of the next.
pub record Front : Type 0 where
  pub whole : ℕ
  pub part : ℕ

-- the text of a front
abbrev pub text_within : List Piece → Front → List ℕ
text_within pieces f = text_of (take f.whole pieces) ++ take f.part (text_at pieces f.whole)

-- a front of which the next piece is not all there
abbrev pub IsProper : List Piece → Front → Type 0
IsProper pieces f = f.part < length (text_at pieces f.whole)

-- The calls of a front: those for the pieces that stand whole, and for the next, since these come before
-- its text. The calls behind the last piece are made once all stand.
abbrev pub calls_begun : Top → Front → List (List ℕ)
calls_begun t f = calls_for (take (f.whole + 1) t.pieces) ++ (if nat_le (length t.pieces) f.whole then t.closing else [])

-- a front was given, and not all: of the next piece a proper front
pub record GaveLess (pieces : List Piece) (before after : Option (List ℕ)) : Type 0 where
  pub front : Front
  pub proper : IsProper pieces front
  pub given : Appends before after (text_within pieces front)

-- a front was given, perhaps all
pub record GaveFront (pieces : List Piece) (before after : Option (List ℕ)) : Type 0 where
  pub front : Front
  pub within : front.part ≤ length (text_at pieces front.whole)
  pub given : Appends before after (text_within pieces front)

-- what remains of the whole text behind a front: something, where of the next piece not all is in it
pub record Remains (pieces : List Piece) (f : Front) : Type 0 where
  pub rest : List ℕ
  pub whole : text_of pieces ≡ text_within pieces f ++ rest
  pub proper : IsProper pieces f → 0 < length rest

-- the text of a front of pieces is a front of their text, and a proper front is told by its text
pub record FrontsAreOfTheText : Type 0 where
  pub remains : (pieces : List Piece) (f : Front) → Remains pieces f
  pub one : (pieces : List Piece) (f g : Front) → IsProper pieces f → IsProper pieces g → text_within pieces f ≡ text_within pieces g → f ≡ g
