-- Names of ASCII letters and digits are names, without a look into Unicode's tables.
use Rattle.std.proofs.Common.{◌≡◌, ℕ, ◌<◌, Bool, true, false, ◌&&◌, ◌||◌, ◌==◌, nat_lt, List, [], ◌∷◌, refl}
use Rattle.std.specs.List.{list_all}
use Rattle.std.specs.Char.{is_ascii_alphabetic, is_ascii_alphanumeric}
use Rattle.std.proofs.lemmas.Bool.{and_parts, ltb-true}
use Rattle.unicode_ident.specs.Ident.{is_xid_continue}
use Rattle.unicode_ident.proofs.IdentLemmas.{is_xid_start-ascii, is_xid_continue-ascii}
use Rattle.fc_base.specs.Texts.{begins_name, spells_name}

-- a letter, a digit or `_` of ASCII
abbrev pub is_word_byte : ℕ → Bool
is_word_byte c = nat_lt c 128 && (is_ascii_alphanumeric c || (c == 95))

-- a letter of ASCII, and then such bytes
abbrev pub is_word : List ℕ → Bool
is_word [] = false
is_word (c ∷ cs) = (nat_lt c 128 && is_ascii_alphabetic c) && list_all is_word_byte cs

begins_word : (c : ℕ) → (nat_lt c 128 && is_ascii_alphabetic c) ≡ true → begins_name c ≡ true
begins_word c h =
    let parts = and_parts (nat_lt c 128) (is_ascii_alphabetic c) h in
    let small : c < 128 = ltb-true c 128 parts.0 in
    rw (is_xid_start-ascii c small, parts.1)

continues_word : (cs : List ℕ) → list_all is_word_byte cs ≡ true → list_all is_xid_continue cs ≡ true
continues_word [] h = refl
continues_word (c ∷ cs) h =
    let parts = and_parts (is_word_byte c) (list_all is_word_byte cs) h in
    let byte = and_parts (nat_lt c 128) (is_ascii_alphanumeric c || (c == 95)) parts.0 in
    let small : c < 128 = ltb-true c 128 byte.0 in
    rw (is_xid_continue-ascii c small, byte.1, continues_word cs parts.1)

pub spells_word : (text : List ℕ) → is_word text ≡ true → spells_name text ≡ true
spells_word [] h = h
spells_word (c ∷ cs) h =
    let parts = and_parts (nat_lt c 128 && is_ascii_alphabetic c) (list_all is_word_byte cs) h in
    rw (begins_word c parts.0, continues_word cs parts.1)
