-- What the bytes of a name are, for those who look for a delimiter in a text that holds names.
use Rattle.std.proofs.Common.{◌≡◌, ℕ, ◌<◌, List, [], ◌∷◌, true, false, not, ◌||◌, ◌==◌, length, get_or, nat_le, sym, subst, ap, ◌∙◌, ⊎_elim, Bool, arith}
use Rattle.std.specs.List.{list_all, AllPass, Contains}
use Rattle.std.specs.Char.{is_ascii_alphanumeric}
use Rattle.std.specs.Str.{chars, IsUtf8, NonePass, NoCharPasses}
use Rattle.std.proofs.lemmas.Bool.{and_parts, or_cases, or_left, or_right, not_from_true, not-false, eqb-true, le-leb, cases_lt, false≢true, both_ways}
use Rattle.std.proofs.lemmas.Str.{IsUtf8-from_is_utf8, NoCharPasses-byte, encodes-chars, chars-nil}
use Rattle.std.proofs.lemmas.List.Elements.{All-from_get_or, All-contains}
use Rattle.unicode_ident.specs.Ident.{is_xid_continue}
use Rattle.unicode_ident.proofs.IdentLemmas.{is_xid_continue-ascii, is_xid_start-is_xid_continue}
use Rattle.fc_base.specs.Texts.{begins_name, spells_name, is_name, is_name_byte}

-- a name is UTF-8, and its characters spell a name
pub is_name-utf8 : (text : List ℕ) → is_name text ≡ true → IsUtf8 text
is_name-utf8 text name = IsUtf8-from_is_utf8 text (and_parts _ _ (and_parts _ _ name).0).0

pub is_name-spells : (text : List ℕ) → is_name text ≡ true → spells_name (chars text) ≡ true
is_name-spells text name = (and_parts _ _ name).1

-- a name is not empty
pub is_name-length : (text : List ℕ) → is_name text ≡ true → 0 < length text
is_name-length [] name = absurd (false≢true (ap spells_name (sym chars-nil) ∙ is_name-spells [] name))
is_name-length (x ∷ xs) name = omega arith

-- what may begin a name may go on in it
begins_name-continues : (c : ℕ) → begins_name c ≡ true → is_xid_continue c ≡ true
begins_name-continues c begins =
    ⊎_elim (is_xid_start-is_xid_continue c) (λ e. subst (λ d. is_xid_continue d ≡ true) (sym (eqb-true c 95 e)) (is_xid_continue-ascii 95 (omega arith))) (or_cases _ _ begins)

none_other : (cs : List ℕ) → list_all is_xid_continue cs ≡ true → NonePass (λ c. not (is_xid_continue c)) cs
none_other [] continues = tt
none_other (c ∷ cs) continues =
    let parts = and_parts (is_xid_continue c) (list_all is_xid_continue cs) continues in
    (not_from_true _ parts.0, none_other cs parts.1)

spells_name-none_other : (cs : List ℕ) → spells_name cs ≡ true → NonePass (λ c. not (is_xid_continue c)) cs
spells_name-none_other [] spells = absurd (false≢true spells)
spells_name-none_other (c ∷ cs) spells =
    let parts = and_parts (begins_name c) (list_all is_xid_continue cs) spells in
    (not_from_true _ (begins_name-continues c parts.0), none_other cs parts.1)

or_from_ascii : (b : ℕ) → (is_ascii_alphanumeric b || (b == 95)) ≡ true → is_name_byte b ≡ true
or_from_ascii b ascii =
    ⊎_elim (λ e. or_left _ _ (or_right _ _ e)) (λ e. or_right (nat_le 128 b || is_ascii_alphanumeric b) _ e) (or_cases _ _ ascii)

-- each byte of a name below 128 is an ASCII letter, a digit or `_`
pub is_name-byte : (text : List ℕ) → is_name text ≡ true → (i : ℕ) → i < length text → is_name_byte (get_or text i 0) ≡ true
is_name-byte text name i within =
    let p : ℕ → Bool = λ c. not (is_xid_continue c) in
    let none : NoCharPasses p text = (chars text, encodes-chars text (is_name-utf8 text name), spells_name-none_other (chars text) (is_name-spells text name)) in
    ⊎_elim
    (λ low. or_from_ascii (get_or text i 0) (sym (is_xid_continue-ascii _ low) ∙ not-false _ (NoCharPasses-byte p text i none within low)))
    (λ high. or_left _ _ (or_left _ _ (le-leb 128 _ high)))
    (cases_lt (get_or text i 0) 128)

pub is_name-bytes : (text : List ℕ) → is_name text ≡ true → AllPass is_name_byte text
is_name-bytes text name = All-from_get_or (λ b. is_name_byte b ≡ true) text 0 (is_name-byte text name)

-- so a name does not contain `"`, `.`, a space or any other byte that fails the test
pub is_name-lacks : (text : List ℕ) (b : ℕ) → is_name text ≡ true → is_name_byte b ≡ false → Contains text b → ⊥
is_name-lacks text b name other contains =
    both_ways _ other (All-contains (λ x. is_name_byte x ≡ true) text b (is_name-bytes text name) contains)
