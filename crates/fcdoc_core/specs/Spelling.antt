-- How lines spell commands: words and paths with spaces between them, and as many spaces round them as one likes.
use Rattle.std.specs.Prelude.{◌≡◌, ℕ, zero, suc, ◌==◌, ◌<◌, ◌⊎◌, Bool, false, List, [], ◌∷◌, ◌++◌, length, reverse, codes, Some}
use Rattle.std.specs.List.{list_any}
use Rattle.fc_base.specs.Texts.{has_closing_mark, ends_in_mark}
use Rattle.doc_rules.specs.declared.edit.Edit.TheVariants.{SetValue, Bind}
use Rattle.fcdoc_core.specs.declared.command.Command.{Command}
use Rattle.fcdoc_core.specs.declared.command.Command.TheVariants as command
use Rattle.fcdoc_core.specs.Commands.{property_of, is_control}

-- so many spaces
abbrev pub spaces : ℕ → List ℕ
spaces zero = []
spaces (suc n) = 32 ∷ spaces n

-- a text in which no space stands
abbrev pub IsWord : List ℕ → Type 0
IsWord text = list_any (λ c. c == 32) text ≡ false

abbrev pub begins_with_space : List ℕ → Bool
begins_with_space [] = false
begins_with_space (c ∷ cs) = c == 32

-- a word that does not begin with `<<`
pub record IsPlainWord (text : List ℕ) : Type 0 where
  pub word : IsWord text
  pub plain : (rest : List ℕ) → text ≡ codes "<<" ++ rest → ⊥

-- `<<`, a label, `>>` and a text without a space. The label may have spaces, but its end is the first
-- `>>`: none stands in it, and none begins in it by a `>` at its end.
pub record IsLabelled (text : List ℕ) : Type 0 where
  pub label : List ℕ
  pub behind : List ℕ
  pub stands : text ≡ codes "<<" ++ (label ++ (codes ">>" ++ behind))
  pub inside : has_closing_mark label ≡ false
  pub end : ends_in_mark label ≡ false
  pub word : IsWord behind

-- what a path is spelled by in a line
abbrev pub IsTarget : List ℕ → Type 0
IsTarget text = IsPlainWord text ⊎ IsLabelled text

-- a text that neither begins nor ends with a space
pub record IsUnspaced (text : List ℕ) : Type 0 where
  pub front : begins_with_space text ≡ false
  pub back : begins_with_space (reverse text) ≡ false

-- a line of one word
pub record IsOneWord (line verb : List ℕ) : Type 0 where
  pub before : ℕ
  pub behind : ℕ
  pub text : line ≡ spaces before ++ (verb ++ spaces behind)

-- a line of a word and a path
pub record IsWordAndPath (line verb target : List ℕ) : Type 0 where
  pub before : ℕ
  pub between : ℕ
  pub behind : ℕ
  pub text : line ≡ spaces before ++ (verb ++ 32 ∷ (spaces between ++ (target ++ spaces behind)))
  pub path : IsTarget target

-- a line of a word, a path and a text, which may have spaces inside
pub record IsPathAndText (line verb target tail : List ℕ) : Type 0 where
  pub before : ℕ
  pub between : ℕ
  pub further : ℕ
  pub behind : ℕ
  pub text : line ≡ spaces before ++ (verb ++ 32 ∷ (spaces between ++ (target ++ 32 ∷ (spaces further ++ (tail ++ spaces behind)))))
  pub path : IsTarget target
  pub unspaced : IsUnspaced tail
  pub some : 0 < length tail

-- the line spells the command; no line spells any other edit
abbrev pub Spells : List ℕ → Command → Type 0
Spells line (command.Get path) = (target : List ℕ) × IsWordAndPath line (codes "get") target × (property_of target ≡ Some path)
Spells line (command.Expression path) = (target : List ℕ) × IsWordAndPath line (codes "expr") target × (property_of target ≡ Some path)
Spells line (command.Edit (SetValue path expr)) = (target : List ℕ) × IsPathAndText line (codes "set") target expr × (property_of target ≡ Some path)
Spells line (command.Edit (Bind path expr)) = (target : List ℕ) × IsPathAndText line (codes "bind") target expr × (property_of target ≡ Some path)
Spells line command.Recompute = IsOneWord line (codes "recompute")
Spells line (command.Edit edit) = ⊥

-- the line has no control character other than tab, and spells the command
pub record IsLineOf (line : List ℕ) (c : Command) : Type 0 where
  pub plain : list_any is_control line ≡ false
  pub spelled : Spells line c
