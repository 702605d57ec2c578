-- Labels and text values: what their tests mean.
use Rattle.std.proofs.Common.{◌≡◌, ℕ, suc, ◌-◌, ◌≤◌, List, [], ◌∷◌, ◌++◌, true, ◌==◌, ◌&&◌, length, get_or, refl, sym, ap, subst, ◌∙◌, ⊎_elim, arith}
use Rattle.std.specs.List.{list_all}
use Rattle.std.specs.Str.{IsUtf8}
use Rattle.std.specs.Str.Iter.{HasSubslice}
use Rattle.std.proofs.lemmas.Bool.{and_parts, or_cases, or_right, eqb-true, le-leb, false≢true}
use Rattle.std.proofs.lemmas.Str.{is_utf8-from_IsUtf8, IsUtf8-string_bytes}
use Rattle.std.specs.String.{string_bytes}
use Rattle.std.specs.Prelude.{String}
use Rattle.fc_base.specs.Texts.{is_text_byte, is_text_value, has_closing_mark, ends_in_mark}

-- of a text that is short enough, the bytes alone decide
pub is_text_value-short : (text : List ℕ) → IsUtf8 text → length text ≤ 1024 → is_text_value text ≡ list_all is_text_byte text
is_text_value-short text utf8 short = rw (is_utf8-from_IsUtf8 text utf8, le-leb (length text) 1024 short)

-- a String is UTF-8, so its length and its bytes decide
pub string_is_text_value : {Z : Type 0} (s : String Z) → length (string_bytes s) ≤ 1024 → list_all is_text_byte (string_bytes s) ≡ true → is_text_value (string_bytes s) ≡ true
string_is_text_value s short bytes = is_text_value-short (string_bytes s) (IsUtf8-string_bytes s) short ∙ bytes

-- the two bytes `>>`
abbrev marks : List ℕ
marks = 62 ∷ 62 ∷ []

pub has_closing_mark-found : (text : List ℕ) → has_closing_mark text ≡ true → HasSubslice text marks
has_closing_mark-found [] h = absurd (false≢true h)
has_closing_mark-found (a ∷ []) h = absurd (false≢true h)
has_closing_mark-found (a ∷ b ∷ rest) h =
    ⊎_elim
    (λ here. let parts = and_parts (a == 62) (b == 62) here in
    ([], rest, λ i. eqb-true a 62 parts.0 i ∷ eqb-true b 62 parts.1 i ∷ rest))
    (λ later. let found = has_closing_mark-found (b ∷ rest) later in
    (a ∷ found.0, found.1, ap (λ xs. a ∷ xs) found.2))
    (or_cases ((a == 62) && (b == 62)) (has_closing_mark (b ∷ rest)) h)

has_closing_mark-later : (x : ℕ) (xs : List ℕ) → has_closing_mark xs ≡ true → has_closing_mark (x ∷ xs) ≡ true
has_closing_mark-later x [] h = absurd (false≢true h)
has_closing_mark-later x (y ∷ ys) h = or_right _ _ h

-- a front before the marks, whatever follows them
pub has_closing_mark-at : (front back : List ℕ) → has_closing_mark (front ++ (marks ++ back)) ≡ true
has_closing_mark-at [] back = refl
has_closing_mark-at (x ∷ front) back = has_closing_mark-later x _ (has_closing_mark-at front back)

pub has_closing_mark-from : (text : List ℕ) → HasSubslice text marks → has_closing_mark text ≡ true
has_closing_mark-from text h = subst (λ xs. has_closing_mark xs ≡ true) (sym h.2) (has_closing_mark-at h.0 h.1)

pub ends_in_mark-last : (text : List ℕ) → ends_in_mark text ≡ (get_or text (length text - 1) 0 == 62)
ends_in_mark-last [] = refl
ends_in_mark-last (a ∷ []) = refl
ends_in_mark-last (a ∷ b ∷ rest) =
    let before : suc (suc (length rest)) - 1 ≡ suc (length rest) = omega arith in
    let last : suc (length rest) - 1 ≡ length rest = omega arith in
    ends_in_mark-last (b ∷ rest) ∙ ap (λ n. get_or (b ∷ rest) n 0 == 62) last ∙ ap (λ n. get_or (a ∷ b ∷ rest) n 0 == 62) (sym before)
