-- Reading the text of a script.
use Rattle.std.proofs.Common.{◌≡◌, ℕ, ◌+◌, ◌<◌, ◌≤◌, Bool, true, false, cond, not, ltb, leb, eqb, List, [], ◌∷◌, ◌++◌, length, take, drop, get_or, None, Some, refl, ap, ◌∙◌, arith}
use Rattle.std.specs.List.{position, position_or_len, slice_split}
use Rattle.std.specs.Str.{IsUtf8, is_utf8}
use Rattle.std.specs.Str.Lines.{lines, lines_of_parts, strip_carriage_return}
use Rattle.std.proofs.lemmas.Bool.{le-leb, lt-leb, ltb-true, ltb-false, ne_eqb}
use Rattle.std.proofs.lemmas.List.Elements.{All-from_get_or}
use Rattle.std.proofs.lemmas.List.Splits.{length-slice_split, slice_split_first, slice_split_none}
use Rattle.std.proofs.lemmas.List.Sums.{prefix_len_passes}
use Rattle.std.proofs.lemmas.Str.{IsUtf8-from_is_utf8, is_utf8-from_IsUtf8}
use Rattle.fcdoc_core.specs.Scripts.{not_utf8, line_too_long, most_lines, most_line_bytes, line_fault, first_line_fault}

-- ---- one line

pub line_fault-not_utf8 : (number : ℕ) (line : List ℕ) → ¬ (IsUtf8 line) → line_fault number line ≡ Some (not_utf8 number)
line_fault-not_utf8 number line h =
    elim (is_utf8 line) as (λ b. is_utf8 line ≡ b → cond b (cond (leb (length line) most_line_bytes) None (Some (line_too_long number))) (Some (not_utf8 number)) ≡ Some (not_utf8 number)) [
      | true ↦ λ passes. absurd (h (IsUtf8-from_is_utf8 line passes))
      | false ↦ λ _. refl
    ] refl

pub line_fault-long : (number : ℕ) (line : List ℕ) → IsUtf8 line → most_line_bytes < length line → line_fault number line ≡ Some (line_too_long number)
line_fault-long number line h long = rw (is_utf8-from_IsUtf8 line h, lt-leb (length line) most_line_bytes long) refl

pub line_fault-none : (number : ℕ) (line : List ℕ) → IsUtf8 line → length line ≤ most_line_bytes → line_fault number line ≡ None
line_fault-none number line h short = rw (is_utf8-from_IsUtf8 line h, le-leb (length line) most_line_bytes short) refl

-- ---- lines, cut off one after another

lines_of_parts-cons : (part : List ℕ) (parts : List (List ℕ)) → 0 < length parts → lines_of_parts (part ∷ parts) ≡ strip_carriage_return part ∷ lines_of_parts parts
lines_of_parts-cons part [] more = absurd (omega arith)
lines_of_parts-cons part (next ∷ parts) more = refl

-- the first line ends at the first LF
pub lines-cut : (bytes : List ℕ) (end : ℕ) → position (λ c. eqb c 10) bytes ≡ Some end
    → lines bytes ≡ strip_carriage_return (take end bytes) ∷ lines (drop (end + 1) bytes)
lines-cut bytes end =
    let p : ℕ → Bool = λ c. eqb c 10 in
    elim (ltb (position_or_len p bytes) (length bytes))
    as (λ b. ltb (position_or_len p bytes) (length bytes) ≡ b → cond b (Some (position_or_len p bytes)) None ≡ Some end → lines bytes ≡ strip_carriage_return (take end bytes) ∷ lines (drop (end + 1) bytes)) [
      | true ↦ λ below is.
          let same : position_or_len p bytes ≡ end = cc in
          rw (← same) (ap lines_of_parts (slice_split_first p bytes 0 (ltb-true _ _ below))
          ∙ lines_of_parts-cons (take (position_or_len p bytes) bytes) (slice_split p (drop (position_or_len p bytes + 1) bytes)) (omega (arith, length-slice_split p (drop (position_or_len p bytes + 1) bytes))))
      | false ↦ λ _ is. absurd (cc)
    ] refl

false_from_not : (b : Bool) → not b ≡ true → b ≡ false
false_from_not true e = absurd (cc)
false_from_not false e = refl

-- without LF all bytes are the last line
pub lines-last : (bytes : List ℕ) → position (λ c. eqb c 10) bytes ≡ None → 0 < length bytes → lines bytes ≡ bytes ∷ []
lines-last bytes none some =
    let p : ℕ → Bool = λ c. eqb c 10 in
    elim (ltb (position_or_len p bytes) (length bytes))
    as (λ b. ltb (position_or_len p bytes) (length bytes) ≡ b → cond b (Some (position_or_len p bytes)) None ≡ None → lines bytes ≡ bytes ∷ []) [
      | true ↦ λ _ is. absurd (cc)
      | false ↦ λ past _.
          let no_place : length bytes ≤ position_or_len p bytes = ltb-false _ _ past in
          ap lines_of_parts (slice_split_none p bytes (All-from_get_or (λ x. p x ≡ false) bytes 0
          (λ i h. false_from_not (p (get_or bytes i 0)) (prefix_len_passes (λ x. not (p x)) bytes i 0 (omega arith)))))
          ∙ ap (λ t. cond t [] (bytes ∷ [])) (ne_eqb (length bytes) 0 (λ z. omega arith))
    ] refl none

-- ---- the loop over the lines

-- What was read so far: this many lines, and the rest follows them. None of them is wrong, and all of
-- them are kept where they are few enough.
pub record ReadSoFar (bytes rest : List ℕ) (number : ℕ) (kept : List (List ℕ)) : Type 0 where
  pub faults : first_line_fault 1 (lines bytes) ≡ first_line_fault (number + 1) (lines rest)
  pub count : length (lines bytes) ≡ number + length (lines rest)
  pub whole : number ≤ most_lines → lines bytes ≡ kept ++ lines rest
  pub left : number + length rest ≤ length bytes
