-- The printed form of a tree reads as its tokens.
use Rattle.std.proofs.Common.{◌≡◌, ℕ, ℤ, pos, negsuc, Bool, true, false, not, ◌&&◌, ◌||◌, nat_le, List, [], ◌∷◌, ◌++◌, Option, Some, None, is_some, refl, sym, ap, subst, ◌∙◌, append_assoc, append-nil, length, arith}
use Rattle.std.specs.Prelude.{◌==◌, nat_lt, codes, if◌then◌else◌}
use Rattle.std.specs.Fmt.{signed_decimal}
use Rattle.std.specs.Ordering.{int_eq}
use Rattle.std.specs.Str.{bytes_eq}
use Rattle.std.specs.List.{list_all, list_any}
use Rattle.std.specs.Str.{is_utf8}
use Rattle.std.proofs.lemmas.Bool.{and_parts, and_from, or_parts, or_left, not-true, not_from_false, le-leb, leb-true, false_from_ne_true, both_ways}
use Rattle.std.proofs.lemmas.Slice.Eq.{bytes_eq-Decides}
use Rattle.fc_base.specs.Places.{Place, Block, IsPlace, address_text}
use Rattle.fc_base.specs.Texts.{is_name, is_label, is_control, is_text_byte, is_text_value, has_closing_mark, ends_in_mark}
use Rattle.unit_signatures.specs.Table.{unit_named}
use Rattle.quantities.specs.Texts.{decimal_text}
use Rattle.object_paths.specs.PathTexts.{component_text, slot_text, is_word, needs_dot, owner_text}
use Rattle.object_paths.specs.Paths.{IsSlotName, IsOwner}
use Rattle.object_paths.specs.declared.slot_name.Component as c
use Rattle.object_paths.specs.declared.slot_name.Component.TheVariants.{X, Y, Z, Turn}
use Rattle.object_paths.specs.declared.slot_name.SlotName.{SlotName}
use Rattle.object_paths.specs.declared.slot_name.SlotName.TheVariants as slot
use Rattle.object_paths.specs.declared.path.Owner.{Owner}
use Rattle.object_paths.specs.declared.path.Owner.TheVariants.{Here, ByName, ByLabel}
use Rattle.expr_tree.specs.declared.expr.UnitPower.{UnitPower}
use Rattle.expr_tokens.specs.declared.sign.Sign.TheVariants as sign
use Rattle.expr_tokens.specs.declared.token.Lexeme.{Lexeme}
use Rattle.expr_tokens.specs.declared.token.Lexeme.TheVariants.{Numeral, Identifier, Marked, Text, Sign}
use Rattle.expr_tokens.specs.declared.token.Token.{Token}
use Rattle.expr_tokens.specs.declared.token.Token.TheVariants as token
use Rattle.expr_tokens.specs.Kinds.{bracket_follows, point_follows, lone_word, word, kinds}
use Rattle.expr_tokens.specs.Lexemes.{short_number}
use Rattle.expr_grammar.specs.PathTokens.{dot, component_tokens, slot_tokens}
use Rattle.expr_grammar.specs.Printed.{exponent_text, measure_text, flag_text, area_text}
use Rattle.expr_tree.specs.Spelled.{is_exponent, is_unit_name, IsUnitPower, is_quotable, IsNumeral, IsArea}
use Rattle.expr_grammar.specs.TreeTokens.{exponent_tokens, raised_tokens, measure_tokens, front_tokens, corner_token, area_tokens}
use Rattle.expr_tokens.proofs.AsciiNames.{ascii_name, unit_name, digit_no_word, address_name, address_digit}
use Rattle.expr_tokens.proofs.LexemeLemmas.{Lexes, gap, lexes_name, lexes_marked, lexes_text, lexes_colon, lexes_caret, lexes_dot}
use Rattle.expr_grammar.proofs.NumeralLemmas.{exponent_lexemes, lexes_exponent, lexes_amount}
use Rattle.expr_grammar.proofs.ReadingLemmas.{ends, past_name, past_address, past_decimal, plain, no_bracket, no_point, Readable, Behind, followed, nothing}

-- ---- lone words

lone_name : (w : List ℕ) → is_word w ≡ false → lone_word w ≡ token.Name w
lone_name w h =
    let outer = or_parts (is_some (unit_named w) || bytes_eq w (codes "true")) (bytes_eq w (codes "false")) h in
    let inner = or_parts (is_some (unit_named w)) (bytes_eq w (codes "true")) outer.0 in
    rw (inner.1, outer.1, inner.0) refl

no_flag : (w : List ℕ) (flag : List ℕ) → is_some (unit_named flag) ≡ false → is_some (unit_named w) ≡ true → bytes_eq w flag ≡ false
no_flag w flag none h =
    false_from_ne_true _ (λ e. both_ways _ none (subst (λ t. is_some (unit_named t) ≡ true) ((bytes_eq-Decides w flag).0 e) h))

lone_unit : (w : List ℕ) → is_some (unit_named w) ≡ true → lone_word w ≡ token.Unit w
unfolding unit_named
lone_unit w h = rw (no_flag w (codes "true") refl h, no_flag w (codes "false") refl h, h) refl

word_alone : (xs : List Lexeme) (w : List ℕ) → plain xs ≡ true → word (bracket_follows xs) (point_follows xs) w ≡ lone_word w
word_alone xs w h = rw (no_bracket xs h, no_point xs h) refl

word_beside : (xs : List Lexeme) (w : List ℕ) → plain xs ≡ true → word (bracket_follows xs) true w ≡ token.Name w
word_beside xs w h = rw (no_bracket xs h) refl

-- an identifier by itself
one_word : (w : List ℕ) → is_name w ≡ true → {t : Token} → lone_word w ≡ t → Readable w (t ∷ [])
one_word w h {t} is = (
  Identifier w ∷ [],
  record {
    lexemes = λ rest xs end more. lexes_name w rest h (past_name rest end) (past_address rest end) more;
    tokens = λ xs none. ap (λ u. u ∷ kinds false xs) (word_alone xs w none ∙ is);
  },
)

pub unit_reads : (w : List ℕ) → is_unit_name w ≡ true → Readable w (token.Unit w ∷ [])
unit_reads w h = one_word w (unit_name w h) (lone_unit w h)

pub flag_reads : (b : Bool) → Readable (flag_text b) (token.Flag b ∷ [])
flag_reads true = one_word (codes "true") (ascii_name (codes "true") refl) refl
flag_reads false = one_word (codes "false") (ascii_name (codes "false") refl) refl

-- ---- numbers

pub behind_caret : (n : ℤ) → is_exponent n ≡ true → Behind (94 ∷ signed_decimal n) (token.Sign sign.Caret ∷ exponent_tokens n)
behind_caret n h = (
  Sign sign.Caret ∷ exponent_lexemes n,
  record {
    reads = record {
      lexemes = λ rest xs end more. lexes_caret (signed_decimal n ++ rest) (lexes_exponent n h rest (past_decimal rest end) more);
      tokens = λ xs none. ap (λ vs. token.Sign sign.Caret ∷ vs) (exponent_told n xs);
    };
    ended = λ rest end. refl;
    plainly = λ xs none. refl;
  },
)
  where
    exponent_told : (m : ℤ) (xs : List Lexeme) → kinds false (exponent_lexemes m ++ xs) ≡ exponent_tokens m ++ kinds false xs
    exponent_told (pos m) xs = refl
    exponent_told (negsuc m) xs = refl

raised : (n : ℤ) → is_exponent n ≡ true → Behind (exponent_text n) (raised_tokens n)
raised n h = elim (int_eq n (pos 1)) as (λ b. Behind (if b then [] else 94 ∷ signed_decimal n) (if b then [] else token.Sign sign.Caret ∷ exponent_tokens n))
    [ true ↦ nothing | false ↦ behind_caret n h ]

amount_reads : (x : ℤ) → IsNumeral x → Readable (decimal_text x) (token.Numeral x (short_number (decimal_text x)) ∷ [])
amount_reads x h = (
  Numeral x (short_number (decimal_text x)) ∷ [],
  record {
    lexemes = λ rest xs end more. lexes_amount x h rest (past_decimal rest end) more;
    tokens = λ xs none. refl;
  },
)

measured : (x : ℤ) → IsNumeral x → {w : List ℕ} {ts : List Token} → Readable w ts
    → Readable (decimal_text x ++ 32 ∷ w) (token.Numeral x (short_number (decimal_text x)) ∷ ts)
measured x h {w} {ts} (ls, a) = (
  Numeral x (short_number (decimal_text x)) ∷ ls,
  record {
    lexemes = λ rest xs end more.
        subst (λ t. Lexes t (Numeral x (short_number (decimal_text x)) ∷ (ls ++ xs))) (sym (append_assoc (decimal_text x) (32 ∷ w) rest))
        (lexes_amount x h (32 ∷ (w ++ rest)) refl (gap refl (a.lexemes rest xs end more)));
    tokens = λ xs none. ap (λ vs. token.Numeral x (short_number (decimal_text x)) ∷ vs) (a.tokens xs none);
  },
)

pub literal_reads : (x : ℤ) (u : Option UnitPower) → IsNumeral x → IsUnitPower u
    → Readable (decimal_text x ++ measure_text u) (token.Numeral x (short_number (decimal_text x)) ∷ measure_tokens u)
literal_reads x None h k =
    subst (λ w. Readable w (token.Numeral x (short_number (decimal_text x)) ∷ [])) (sym (append-nil (decimal_text x))) (amount_reads x h)
literal_reads x (Some u) h k = measured x h (followed (unit_reads u.unit k.0) (raised u.exponent k.1))

-- ---- texts

pub text_reads : (t : List ℕ) → is_text_value t ≡ true → has_closing_mark t ≡ false → ends_in_mark t ≡ false
    → Readable (60 ∷ 60 ∷ (t ++ 62 ∷ 62 ∷ [])) (token.Text t ∷ [])
text_reads t value closing ends = (
  Text t ∷ [],
  record {
    lexemes = λ rest xs end more. lexes_text t rest value closing ends more;
    tokens = λ xs none. refl;
  },
)

pub quoted_reads : (t : List ℕ) → is_quotable t ≡ true → Readable (60 ∷ 60 ∷ (t ++ 62 ∷ 62 ∷ [])) (token.Text t ∷ [])
quoted_reads t h =
    let outer = and_parts (is_text_value t && not (has_closing_mark t)) (not (ends_in_mark t)) h in
    let inner = and_parts (is_text_value t) (not (has_closing_mark t)) outer.0 in
    text_reads t inner.0 (not-true _ inner.1) (not-true _ outer.1)

no_control : (t : List ℕ) → list_any is_control t ≡ false → list_all is_text_byte t ≡ true
no_control [] h = refl
no_control (x ∷ xs) h =
    let parts = or_parts (is_control x) (list_any is_control xs) h in
    and_from (is_text_byte x) (list_all is_text_byte xs)
    (or_left (not (is_control x) || (x == 9) || (x == 10)) (x == 13) (or_left (not (is_control x) || (x == 9)) (x == 10) (or_left (not (is_control x)) (x == 9) (not_from_false _ parts.0))))
    (no_control xs parts.1)

-- a label is a text that can be quoted
record IsQuoted (t : List ℕ) : Type 0 where
  value : is_text_value t ≡ true
  closing : has_closing_mark t ≡ false
  ending : ends_in_mark t ≡ false

label_quoted : (t : List ℕ) → is_label t ≡ true → IsQuoted t
label_quoted t h =
    let ending = and_parts (is_utf8 t && nat_lt 0 (length t) && nat_le (length t) 255 && not (has_closing_mark t) && not (list_any is_control t)) (not (ends_in_mark t)) h in
    let control = and_parts (is_utf8 t && nat_lt 0 (length t) && nat_le (length t) 255 && not (has_closing_mark t)) (not (list_any is_control t)) ending.0 in
    let closing = and_parts (is_utf8 t && nat_lt 0 (length t) && nat_le (length t) 255) (not (has_closing_mark t)) control.0 in
    let short = and_parts (is_utf8 t && nat_lt 0 (length t)) (nat_le (length t) 255) closing.0 in
    record {
      value = and_from (is_utf8 t && nat_le (length t) 1024) (list_all is_text_byte t)
          (and_from (is_utf8 t) (nat_le (length t) 1024) (and_parts (is_utf8 t) (nat_lt 0 (length t)) short.0).0
          (le-leb (length t) 1024 (omega (arith, leb-true (length t) 255 short.1))))
          (no_control t (not-true _ control.1));
      closing = not-true _ closing.1;
      ending = not-true _ ending.1;
    }

-- ---- paths

abbrev component_lexemes : c.Component → List Lexeme
component_lexemes X = Identifier (codes "Base") ∷ Sign sign.Dot ∷ Identifier (codes "x") ∷ []
component_lexemes Y = Identifier (codes "Base") ∷ Sign sign.Dot ∷ Identifier (codes "y") ∷ []
component_lexemes Z = Identifier (codes "Base") ∷ Sign sign.Dot ∷ Identifier (codes "z") ∷ []
component_lexemes Turn = Identifier (codes "Rotation") ∷ Sign sign.Dot ∷ Identifier (codes "Turn") ∷ []

abbrev slot_lexemes : SlotName → List Lexeme
slot_lexemes (slot.Plain name) = Identifier name ∷ []
slot_lexemes (slot.Component name part) = Identifier name ∷ Sign sign.Dot ∷ component_lexemes part
slot_lexemes (slot.Marked p) = Marked p ∷ []

module _ (rest : List ℕ) {xs : List Lexeme} (end : ends rest ≡ true) (more : Lexes rest xs) where
  last_word : (w : List ℕ) → is_name w ≡ true → Lexes (w ++ rest) (Identifier w ∷ xs)
  last_word w h = lexes_name w rest h (past_name rest end) (past_address rest end) more

  in_base : (w : List ℕ) → is_name w ≡ true → Lexes (codes "Base" ++ 46 ∷ (w ++ rest)) (Identifier (codes "Base") ∷ Sign sign.Dot ∷ Identifier w ∷ xs)
  in_base w h = lexes_name (codes "Base") (46 ∷ (w ++ rest)) (ascii_name (codes "Base") refl) refl refl (lexes_dot (w ++ rest) (last_word w h))

  component_lexes : (part : c.Component) → Lexes (component_text part ++ rest) (component_lexemes part ++ xs)
  component_lexes X = in_base (codes "x") (ascii_name (codes "x") refl)
  component_lexes Y = in_base (codes "y") (ascii_name (codes "y") refl)
  component_lexes Z = in_base (codes "z") (ascii_name (codes "z") refl)
  component_lexes Turn =
      lexes_name (codes "Rotation") (46 ∷ (codes "Turn" ++ rest)) (ascii_name (codes "Rotation") refl) refl refl
      (lexes_dot (codes "Turn" ++ rest) (last_word (codes "Turn") (ascii_name (codes "Turn") refl)))

  slot_lexes : (name : SlotName) → IsSlotName name → Lexes (slot_text name ++ rest) (slot_lexemes name ++ xs)
  slot_lexes (slot.Plain name) h = last_word name h
  slot_lexes (slot.Component name part) h =
      subst (λ t. Lexes t (Identifier name ∷ Sign sign.Dot ∷ (component_lexemes part ++ xs))) (sym (append_assoc name (46 ∷ component_text part) rest))
      (lexes_name name (46 ∷ (component_text part ++ rest)) h refl refl (lexes_dot (component_text part ++ rest) (component_lexes part)))
  slot_lexes (slot.Marked p) h = lexes_marked p h.0 h.1 rest (past_address rest end) more

-- behind a point each identifier is a name
module _ (xs : List Lexeme) (none : plain xs ≡ true) where
  component_told : (part : c.Component) → kinds true (component_lexemes part ++ xs) ≡ component_tokens part ++ kinds false xs
  component_told X = ap (λ t. token.Name (codes "Base") ∷ dot ∷ t ∷ kinds false xs) (word_beside xs (codes "x") none)
  component_told Y = ap (λ t. token.Name (codes "Base") ∷ dot ∷ t ∷ kinds false xs) (word_beside xs (codes "y") none)
  component_told Z = ap (λ t. token.Name (codes "Base") ∷ dot ∷ t ∷ kinds false xs) (word_beside xs (codes "z") none)
  component_told Turn = ap (λ t. token.Name (codes "Rotation") ∷ dot ∷ t ∷ kinds false xs) (word_beside xs (codes "Turn") none)

  slot_told : (name : SlotName) → kinds true (slot_lexemes name ++ xs) ≡ slot_tokens name ++ kinds false xs
  slot_told (slot.Plain name) = ap (λ t. t ∷ kinds false xs) (word_beside xs name none)
  slot_told (slot.Component name part) = ap (λ ts. token.Name name ∷ dot ∷ ts) (component_told part)
  slot_told (slot.Marked p) = refl

  alone_told : (name : SlotName) → needs_dot name ≡ false → kinds false (slot_lexemes name ++ xs) ≡ slot_tokens name ++ kinds false xs
  alone_told (slot.Plain name) h = ap (λ t. t ∷ kinds false xs) (word_alone xs name none ∙ lone_name name h)
  alone_told (slot.Component name part) h = ap (λ ts. token.Name name ∷ dot ∷ ts) (component_told part)
  alone_told (slot.Marked p) h = refl

pub path_reads : (owner : Owner) (name : SlotName) → IsOwner owner → IsSlotName name
    → Readable (owner_text owner name ++ slot_text name) (front_tokens owner name ++ slot_tokens name)
path_reads Here name h k =
    elim (needs_dot name) as (λ b. needs_dot name ≡ b → Readable ((if b then 46 ∷ [] else []) ++ slot_text name) ((if b then dot ∷ [] else []) ++ slot_tokens name)) [
      | true ↦ λ e. (
        Sign sign.Dot ∷ slot_lexemes name,
        record {
          lexemes = λ rest xs end more. lexes_dot (slot_text name ++ rest) (slot_lexes rest end more name k);
          tokens = λ xs none. ap (λ ts. dot ∷ ts) (slot_told xs none name);
        },
      )
      | false ↦ λ e. (
        slot_lexemes name,
        record {
          lexemes = λ rest xs end more. slot_lexes rest end more name k;
          tokens = λ xs none. alone_told xs none name e;
        },
      )
    ] refl
path_reads (ByName owner) name h k = (
  Identifier owner ∷ Sign sign.Dot ∷ slot_lexemes name,
  record {
    lexemes = λ rest xs end more.
        subst (λ t. Lexes t (Identifier owner ∷ Sign sign.Dot ∷ (slot_lexemes name ++ xs)))
        (sym (append_assoc (owner ++ 46 ∷ []) (slot_text name) rest ∙ append_assoc owner (46 ∷ []) (slot_text name ++ rest)))
        (lexes_name owner (46 ∷ (slot_text name ++ rest)) h refl refl (lexes_dot (slot_text name ++ rest) (slot_lexes rest end more name k)));
    tokens = λ xs none. ap (λ ts. token.Name owner ∷ dot ∷ ts) (slot_told xs none name);
  },
)
path_reads (ByLabel label) name h k =
    let quoted = label_quoted label h in (
      Text label ∷ Sign sign.Dot ∷ slot_lexemes name,
      record {
        lexemes = λ rest xs end more.
            subst (λ t. Lexes (60 ∷ 60 ∷ t) (Text label ∷ Sign sign.Dot ∷ (slot_lexemes name ++ xs)))
            (append_assoc label (62 ∷ 62 ∷ []) (46 ∷ (slot_text name ++ rest))
            ∙ sym (append_assoc label (62 ∷ 62 ∷ 46 ∷ []) (slot_text name ++ rest))
            ∙ sym (append_assoc (label ++ 62 ∷ 62 ∷ 46 ∷ []) (slot_text name) rest))
            (lexes_text label (46 ∷ (slot_text name ++ rest)) quoted.value quoted.closing quoted.ending
            (lexes_dot (slot_text name ++ rest) (slot_lexes rest end more name k)));
        tokens = λ xs none. ap (λ ts. token.Text label ∷ dot ∷ ts) (slot_told xs none name);
      },
    )

-- ---- areas

abbrev corner_lexeme : Place → Lexeme
corner_lexeme p = if p.fixed_column || p.fixed_row then Marked p else Identifier (address_text p)

corner_lexes : (p : Place) → IsPlace p → (rest : List ℕ) {xs : List Lexeme} → ends rest ≡ true → Lexes rest xs → Lexes (address_text p ++ rest) (corner_lexeme p ∷ xs)
corner_lexes p place rest {xs} end more =
    elim (p.fixed_column || p.fixed_row) as (λ b. (p.fixed_column || p.fixed_row) ≡ b → Lexes (address_text p ++ rest) ((if b then Marked p else Identifier (address_text p)) ∷ xs)) [
      | true ↦ λ e. lexes_marked p place e rest (past_address rest end) more
      | false ↦ λ e. lexes_name (address_text p) rest (address_name p place e) (past_name rest end) (past_address rest end) more
    ] refl

corner_told : (p : Place) → IsPlace p → (xs : List Lexeme) → plain xs ≡ true → kinds false (corner_lexeme p ∷ xs) ≡ corner_token p ∷ kinds false xs
corner_told p place xs none =
    elim (p.fixed_column || p.fixed_row) as (λ b. kinds false ((if b then Marked p else Identifier (address_text p)) ∷ xs)
    ≡ (if b then token.Marked p else token.Name (address_text p)) ∷ kinds false xs) [
      | true ↦ refl
      | false ↦ ap (λ t. t ∷ kinds false xs) (word_alone xs (address_text p) none ∙ lone_name (address_text p) (digit_no_word (address_text p) (address_digit p place)))
    ]

pub area_reads : (area : Block) → IsArea area → Readable (area_text area) (area_tokens area)
area_reads area h = (
  corner_lexeme area.from ∷ Sign sign.Colon ∷ corner_lexeme area.to ∷ [],
  record {
    lexemes = λ rest xs end more.
        subst (λ t. Lexes t (corner_lexeme area.from ∷ Sign sign.Colon ∷ corner_lexeme area.to ∷ xs))
        (sym (append_assoc (address_text area.from) (58 ∷ address_text area.to) rest))
        (corner_lexes area.from h.from (58 ∷ (address_text area.to ++ rest)) refl
        (lexes_colon (address_text area.to ++ rest) (corner_lexes area.to h.to rest end more)));
    tokens = λ xs none.
        corner_told area.from h.from (Sign sign.Colon ∷ corner_lexeme area.to ∷ xs) refl
        ∙ ap (λ ts. corner_token area.from ∷ token.Sign sign.Colon ∷ ts) (corner_told area.to h.to xs none);
  },
)
