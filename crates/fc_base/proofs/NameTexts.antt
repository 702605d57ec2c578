-- A name is a label, and its bytes can stand in a text value.
use Rattle.std.proofs.Common.{◌≡◌, ℕ, ◌≤◌, List, [], ◌∷◌, true, false, ◌==◌, length, refl, arith}
use Rattle.std.specs.List.{list_all}
use Rattle.std.proofs.lemmas.Bool.{and_parts, le-leb, leb-true, lt-ltb}
use Rattle.std.proofs.lemmas.Bool.Decides.{nat_tests}
use Rattle.std.proofs.lemmas.List.Elements.{All-weaker}
use Rattle.std.proofs.lemmas.List.Folds.{list_any_none}
use Rattle.std.proofs.lemmas.List.Sums.{list_all-from_AllPass}
use Rattle.std.proofs.lemmas.Str.{is_utf8-from_IsUtf8}
use Rattle.fc_base.specs.Texts.{is_name, is_name_byte, is_control, is_text_byte, is_label, has_closing_mark, ends_in_mark}
use Rattle.fc_base.proofs.NameLemmas.{is_name-utf8, is_name-length, is_name-bytes}

-- a byte of a name is no control character
is_control-name_byte : (b : ℕ) → is_name_byte b ≡ true → is_control b ≡ false
is_control-name_byte b h = grind (arith, nat_tests)

-- nor is it `>`
is_mark-name_byte : (b : ℕ) → is_name_byte b ≡ true → (b == 62) ≡ false
is_mark-name_byte b h = grind (arith, nat_tests)

is_text_byte-name_byte : (b : ℕ) → is_name_byte b ≡ true → is_text_byte b ≡ true
is_text_byte-name_byte b h = rw (is_control-name_byte b h)

has_closing_mark-name_bytes : (text : List ℕ) → list_all is_name_byte text ≡ true → has_closing_mark text ≡ false
has_closing_mark-name_bytes [] h = refl
has_closing_mark-name_bytes (a ∷ []) h = refl
has_closing_mark-name_bytes (a ∷ b ∷ rest) h =
    let parts = and_parts (is_name_byte a) (list_all is_name_byte (b ∷ rest)) h in
    rw (is_mark-name_byte a parts.0, has_closing_mark-name_bytes (b ∷ rest) parts.1)

ends_in_mark-name_bytes : (text : List ℕ) → list_all is_name_byte text ≡ true → ends_in_mark text ≡ false
ends_in_mark-name_bytes [] h = refl
ends_in_mark-name_bytes (a ∷ []) h = is_mark-name_byte a (and_parts (is_name_byte a) true h).0
ends_in_mark-name_bytes (a ∷ b ∷ rest) h =
    ends_in_mark-name_bytes (b ∷ rest) (and_parts (is_name_byte a) (list_all is_name_byte (b ∷ rest)) h).1

-- a name has at most 64 bytes
pub name_length : (text : List ℕ) → is_name text ≡ true → length text ≤ 64
name_length text name = leb-true (length text) 64 (and_parts _ _ (and_parts _ _ name).0).1

-- each byte of a name can stand in a text value
pub name_text_bytes : (text : List ℕ) → is_name text ≡ true → list_all is_text_byte text ≡ true
name_text_bytes text name =
    list_all-from_AllPass is_text_byte text (All-weaker (λ b. is_name_byte b ≡ true) (λ b. is_text_byte b ≡ true) is_text_byte-name_byte text (is_name-bytes text name))

pub name_is_label : (text : List ℕ) → is_name text ≡ true → is_label text ≡ true
name_is_label text name =
    let all = list_all-from_AllPass is_name_byte text (is_name-bytes text name) in
    rw
    (is_utf8-from_IsUtf8 text (is_name-utf8 text name), lt-ltb 0 (length text) (is_name-length text name), le-leb (length text) 255 (omega (arith, name_length text name)), has_closing_mark-name_bytes text all, list_any_none is_control text (All-weaker (λ b. is_name_byte b ≡ true) (λ b. is_control b ≡ false) is_control-name_byte text (is_name-bytes text name)), ends_in_mark-name_bytes text all)
