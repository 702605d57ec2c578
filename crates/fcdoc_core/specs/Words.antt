-- The words of a run.
use Rattle.std.specs.Prelude.{ℕ, List, [], ◌∷◌, Option, None, Some, if◌then◌else◌, codes}
use Rattle.std.specs.Str.{bytes_eq}

-- The names of the document and of the script.
pub record Names : Type 0 where
  pub document : List ℕ
  pub script : List ℕ

-- The forms of a run. The one of today is `run DOC SCRIPT`.
pub data Form : Type 0 where
  run : Names → Form

-- three words, of which the first names the form
abbrev pub form_of_three : List ℕ → List ℕ → List ℕ → Option Form
form_of_three verb a b = if bytes_eq verb (codes "run") then Some (run (record { document = a; script = b })) else None

-- the form that the words have, or none
abbrev pub form_of : List (List ℕ) → Option Form
form_of [] = None
form_of (a ∷ []) = None
form_of (a ∷ b ∷ []) = None
form_of (a ∷ b ∷ c ∷ []) = form_of_three a b c
form_of (a ∷ b ∷ c ∷ d ∷ more) = None
