-- Addresses with a mark: they are short, and their bytes are ASCII.
use Rattle.std.proofs.Common.{◌≡◌, ℕ, zero, suc, ◌+◌, ◌-◌, ◌/◌, ◌%◌, ◌<◌, ◌≤◌, Bool, true, false, List, [], ◌∷◌, ◌++◌, length, take, Some, None, refl, sym, ap, subst, ◌∙◌, ⊎_elim, length-append, nat_le, arith}
use Rattle.std.specs.Fmt.{decimal}
use Rattle.std.specs.Str.{IsUtf8, IsAscii, IsCharBoundary}
use Rattle.std.proofs.lemmas.Bool.{false≢true, cases_Bool, cases_lt, leb-true, cond-true, cond-false}
use Rattle.std.proofs.lemmas.Fmt.{IsAscii-decimal}
use Rattle.std.proofs.lemmas.Str.{IsAscii-append, IsUtf8-from_ascii, IsCharBoundary-start, IsCharBoundary-from_take}
use Rattle.fc_base.specs.Places.{Place, Spells, address_of, mark_text, column_text}
use Rattle.fc_base.proofs.AddressLemmas.{address_of-iff, before_row, written-parts, length-parts}
use Rattle.expr_tokens.specs.Lexemes.{has_mark, is_marked_address}
use Rattle.expr_tokens.specs.Longest.{longest}
use Rattle.expr_tokens.proofs.LongestFronts.{longest-le, longest-passes}

-- a marked address spells a place
marked-place : (text : List ℕ) → is_marked_address text ≡ true → (p : Place) × Spells text p
marked-place text marked =
    elim (address_of text) as (λ o. address_of text ≡ o → has_mark o ≡ true → (p : Place) × Spells text p) [
      | None ↦ λ e none. absurd (false≢true none)
      | Some p ↦ λ e some. (p, (address_of-iff text p).0 e)
    ] refl marked

-- so it has at most nine bytes
pub marked-short : (text : List ℕ) → is_marked_address text ≡ true → length text ≤ 9
marked-short text marked =
    let spells = marked-place text marked in
    let parts : before_row spells.0 ++ decimal spells.0.row ≡ text = written-parts spells.0 ∙ spells.1.spelling in
    omega (arith, ap length parts, length-append (before_row spells.0) (decimal spells.0.row), length-parts spells.0 spells.1.place)

pub ascii-nil : IsAscii []
ascii-nil i = omega arith

pub ascii-cons : (c : ℕ) (cs : List ℕ) → c < 128 → IsAscii cs → IsAscii (c ∷ cs)
ascii-cons c cs low rest zero = low
ascii-cons c cs low rest (suc i) = rest i

ascii-mark : (marked : Bool) → IsAscii (mark_text marked)
ascii-mark true = ascii-cons 36 [] (omega arith) ascii-nil
ascii-mark false = ascii-nil

ascii-column : (column : ℕ) → column ≤ 702 → IsAscii (column_text column)
ascii-column column high = ⊎_elim
    (λ e.
    let low : column ≤ 26 = leb-true column 26 e in
    subst IsAscii (sym (cond-true (nat_le column 26) ((column + 64) ∷ []) (((column - 1) / 26 + 64) ∷ ((column - 1) % 26 + 65) ∷ []) e))
    (ascii-cons (column + 64) [] (omega arith) ascii-nil))
    (λ e. subst IsAscii (sym (cond-false (nat_le column 26) ((column + 64) ∷ []) (((column - 1) / 26 + 64) ∷ ((column - 1) % 26 + 65) ∷ []) e))
    (ascii-cons ((column - 1) / 26 + 64) (((column - 1) % 26 + 65) ∷ []) (omega arith) (ascii-cons ((column - 1) % 26 + 65) [] (omega arith) ascii-nil)))
    (cases_Bool (nat_le column 26))

-- and each of them is ASCII
pub marked-utf8 : (text : List ℕ) → is_marked_address text ≡ true → IsUtf8 text
marked-utf8 text marked =
    let spells = marked-place text marked in
    let p = spells.0 in
    let parts : before_row p ++ decimal p.row ≡ text = written-parts p ∙ spells.1.spelling in
    let high : p.row ≤ 16384 = spells.1.place.row_high in
    let front : IsAscii (before_row p) =
    IsAscii-append (mark_text p.fixed_column ++ column_text p.column) (mark_text p.fixed_row)
    (IsAscii-append (mark_text p.fixed_column) (column_text p.column) (ascii-mark p.fixed_column) (ascii-column p.column spells.1.place.column_high))
    (ascii-mark p.fixed_row) in
    subst IsUtf8 parts (IsUtf8-from_ascii (before_row p ++ decimal p.row) (IsAscii-append (before_row p) (decimal p.row) front (IsAscii-decimal p.row (omega arith))))

-- a text may be cut behind the marked address in front
pub marked-cut : (text : List ℕ) (n : ℕ) → IsUtf8 text → n ≤ length text → is_marked_address (take n text) ≡ true → IsCharBoundary text n
marked-cut text n utf8 within marked = IsCharBoundary-from_take text n utf8 within (marked-utf8 (take n text) marked)

pub marked-boundary : (text : List ℕ) → IsUtf8 text → IsCharBoundary text (longest is_marked_address text)
marked-boundary text utf8 = ⊎_elim
    (λ some. marked-cut text (longest is_marked_address text) utf8 (longest-le is_marked_address text) (longest-passes is_marked_address text some))
    (λ none. let zero : 0 ≡ longest is_marked_address text = omega arith in subst (IsCharBoundary text) zero (IsCharBoundary-start text utf8))
    (cases_lt 0 (longest is_marked_address text))
