-- What has the tokens of a path is read as the path.
use Rattle.std.proofs.Common.{◌≡◌, ℕ, Bool, true, false, ◌&&◌, ◌||◌, ◌==◌, List, [], ◌∷◌, ◌++◌, length, get_or, map, is_some, Some, None, refl, sym, ap, subst, ◌∙◌, arith, append_assoc, append-nil, codes, bytes_eq}
use Rattle.std.specs.Prelude.{if◌then◌else◌}
use Rattle.std.specs.List.{list_all, AllPass}
use Rattle.std.specs.Option.{option_and_then}
use Rattle.std.proofs.lemmas.Bool.{and_parts, and_right, or_from, not_from_false, ne_eqb, both_ways, false_from_ne_true, false≢true, cond-true, cond-false, or_parts}
use Rattle.std.proofs.lemmas.List.Sums.{list_all-from_AllPass}
use Rattle.std.proofs.lemmas.Slice.Eq.{bytes_eq-Decides}
use Rattle.fc_base.specs.Places.{Place, address_of}
use Rattle.fc_base.specs.Texts.{is_name, is_name_byte, is_label, has_closing_mark, ends_in_mark}
use Rattle.fc_base.proofs.NameLemmas.{is_name-length, is_name-bytes}
use Rattle.unit_signatures.specs.Table.{unit_named}
use Rattle.object_paths.specs.PathTexts.{is_word}
use Rattle.object_paths.specs.PathParts.{is_blank, trimmed, parts_of, marked_slot, single_slot, component_slot, slot_of, owned, named_path, fronted_path, plain_path, until_closing, labelled_slot, labelled_path, opened, path_behind, path_of}
use Rattle.object_paths.specs.declared.slot_name.Component as c
use Rattle.object_paths.specs.declared.slot_name.Component.TheVariants.{X, Y, Z, Turn}
use Rattle.object_paths.specs.declared.slot_name.SlotName.{SlotName}
use Rattle.object_paths.specs.declared.slot_name.SlotName.TheVariants as slot
use Rattle.object_paths.specs.declared.path.Owner.{Owner}
use Rattle.object_paths.specs.declared.path.Owner.TheVariants.{Here, ByName, ByLabel}
use Rattle.object_paths.specs.declared.path.Path.{Path}
use Rattle.expr_tokens.specs.declared.sign.Sign.TheVariants as sign
use Rattle.expr_tokens.specs.declared.token.Lexeme.{Lexeme}
use Rattle.expr_tokens.specs.declared.token.Lexeme.TheVariants.{Numeral, Identifier, Marked, Text, Sign}
use Rattle.expr_tokens.specs.declared.token.Placed.{Placed}
use Rattle.expr_tokens.specs.declared.token.Token.{Token}
use Rattle.expr_tokens.specs.declared.token.Token.TheVariants as token
use Rattle.expr_tokens.specs.Kinds.{is_dot, is_point, lone_word, word, kind_of, kinds}
use Rattle.expr_tokens.specs.Lexemes.{has_mark, is_marked_address}
use Rattle.expr_tokens.proofs.ByteLemmas.{is_address_byte, is_marked_address-bytes}
use Rattle.expr_grammar.specs.PathTokens.{slot_tokens, owner_tokens, CanOwn, IsPathOf, plain, behind_point}
use Rattle.expr_grammar.proofs.PathFrontLemmas.{on_cond}
use Rattle.expression_laws.specs.PathsRead.{HasPathTokens}
use Rattle.expression_laws.proofs.PartLemmas.{AreBlanks, is_inner, IsInner, inner_parts, IsPadded, before_blanks, trimmed-blanks, trimmed-behind, trimmed-first, parts_of-one, parts_of-more, parts_of-before_blanks, parts_of-trimmed}
use Rattle.expression_laws.proofs.PathLexemes.{slot_lexemes, label_quoted}
use Rattle.expression_laws.proofs.LexedFronts.{Spells, is_of_path, marked_some, some_bytes, IsLexedAs, begins, blanks_from}

-- ---- tokens tell their lexemes

abbrev pub lexeme_of : Token → Lexeme
lexeme_of (token.Numeral amount number) = Numeral amount number
lexeme_of (token.Unit name) = Identifier name
lexeme_of (token.Flag true) = Identifier (codes "true")
lexeme_of (token.Flag false) = Identifier (codes "false")
lexeme_of (token.Name name) = Identifier name
lexeme_of (token.Function name) = Identifier name
lexeme_of (token.Marked place) = Marked place
lexeme_of (token.Text t) = Text t
lexeme_of (token.Sign x) = Sign x

abbrev Back : List ℕ → Token → Type 0
Back w t = lexeme_of t ≡ Identifier w

lone_back : (w : List ℕ) → Back w (lone_word w)
lone_back w =
    on_cond (Back w) (bytes_eq w (codes "true")) (token.Flag true) (if bytes_eq w (codes "false") then token.Flag false else (if is_some (unit_named w) then token.Unit w else token.Name w))
    (λ e. ap Identifier (sym ((bytes_eq-Decides w (codes "true")).0 e)))
    (λ _. on_cond (Back w) (bytes_eq w (codes "false")) (token.Flag false) (if is_some (unit_named w) then token.Unit w else token.Name w)
    (λ e. ap Identifier (sym ((bytes_eq-Decides w (codes "false")).0 e)))
    (λ _. on_cond (Back w) (is_some (unit_named w)) (token.Unit w) (token.Name w) (λ _. refl) (λ _. refl)))

word_back : (bracket point : Bool) (w : List ℕ) → Back w (word bracket point w)
word_back true point w = refl
word_back false true w = refl
word_back false false w = lone_back w

pub kind_back : (point : Bool) (x : Lexeme) (rest : List Lexeme) → lexeme_of (kind_of point x rest) ≡ x
kind_back point (Numeral amount number) rest = refl
kind_back point (Identifier w) rest = word_back _ _ w
kind_back point (Marked p) rest = refl
kind_back point (Text t) rest = refl
kind_back point (Sign x) rest = refl

pub kinds_back : (point : Bool) (ls : List Lexeme) → map lexeme_of (kinds point ls) ≡ ls
kinds_back point [] = refl
kinds_back point (x ∷ xs) = λ i. kind_back point x xs i ∷ kinds_back (is_point x) xs i

slot_back : (s : SlotName) → map lexeme_of (slot_tokens s) ≡ slot_lexemes s
slot_back (slot.Plain name) = refl
slot_back (slot.Component name X) = refl
slot_back (slot.Component name Y) = refl
slot_back (slot.Component name Z) = refl
slot_back (slot.Component name Turn) = refl
slot_back (slot.Marked p) = refl

-- a word that is a name by itself
lone_none : (w : List ℕ) → lone_word w ≡ token.Name w → is_word w ≡ false
lone_none w h = or_from (is_some (unit_named w) || bytes_eq w (codes "true")) (bytes_eq w (codes "false")) (or_from (is_some (unit_named w)) (bytes_eq w (codes "true")) no_unit no_true) no_false
  where
    third : Token
    third = if is_some (unit_named w) then token.Unit w else token.Name w

    second : Token
    second = if bytes_eq w (codes "false") then token.Flag false else (if is_some (unit_named w) then token.Unit w else token.Name w)

    no_true : bytes_eq w (codes "true") ≡ false
    no_true = false_from_ne_true _ (λ e. let bad : token.Flag true ≡ token.Name w = sym (cond-true (bytes_eq w (codes "true")) _ _ e) ∙ h in absurd (cc))

    after_true : (if bytes_eq w (codes "false") then token.Flag false else (if is_some (unit_named w) then token.Unit w else token.Name w)) ≡ token.Name w
    after_true = sym (cond-false (bytes_eq w (codes "true")) _ _ no_true) ∙ h

    no_false : bytes_eq w (codes "false") ≡ false
    no_false = false_from_ne_true _ (λ e. let bad : token.Flag false ≡ token.Name w = sym (cond-true (bytes_eq w (codes "false")) _ _ e) ∙ after_true in absurd (cc))

    after_false : (if is_some (unit_named w) then token.Unit w else token.Name w) ≡ token.Name w
    after_false = sym (cond-false (bytes_eq w (codes "false")) _ _ no_false) ∙ after_true

    no_unit : is_some (unit_named w) ≡ false
    no_unit = false_from_ne_true _ (λ e. let bad : token.Unit w ≡ token.Name w = sym (cond-true (is_some (unit_named w)) _ _ e) ∙ after_false in absurd (cc))

-- ---- words and points

abbrev is_word_or_mark : Lexeme → Bool
is_word_or_mark (Identifier w) = true
is_word_or_mark (Marked p) = true
is_word_or_mark _ = false

word_of_path : (x : Lexeme) → is_word_or_mark x ≡ true → is_of_path x ≡ true
word_of_path (Numeral amount number) h = absurd (false≢true h)
word_of_path (Identifier w) h = refl
word_of_path (Marked p) h = refl
word_of_path (Text t) h = absurd (false≢true h)
word_of_path (Sign x) h = absurd (false≢true h)

module _ (alphabet : ℕ → Bool) (space : alphabet 32 ≡ false) (tab : alphabet 9 ≡ false) (point : alphabet 46 ≡ false) (angle : alphabet 60 ≡ false) where
  other : (c d : ℕ) → alphabet c ≡ true → alphabet d ≡ false → (c == d) ≡ false
  other c d inside outside = ne_eqb c d (λ e. both_ways _ outside (subst (λ k. alphabet k ≡ true) e inside))

  inner_byte : (c : ℕ) → alphabet c ≡ true → is_inner c ≡ true
  inner_byte c h = not_from_false _ (or_from (is_blank c) (c == 46) (or_from (c == 32) (c == 9) (other c 32 h space) (other c 9 h tab)) (other c 46 h point))

  inner_word : (w : List ℕ) → AllPass alphabet w → IsInner w
  inner_word w h = list_all-from_AllPass is_inner w (λ k d within. inner_byte (get_or w k d) (h k d within))

  no_angle : (d : ℕ) (v : List ℕ) → AllPass alphabet (d ∷ v) → (d == 60) ≡ false
  no_angle d v h = other d 60 (h 0 0 (omega arith)) angle

word_inner : (x : Lexeme) (w : List ℕ) → is_word_or_mark x ≡ true → Spells x w → IsInner w
word_inner (Numeral amount number) w fits h = absurd (false≢true fits)
word_inner (Identifier u) w fits h = inner_word is_name_byte refl refl refl refl w (is_name-bytes w h.1)
word_inner (Marked p) w fits h = inner_word is_address_byte refl refl refl refl w (is_marked_address-bytes w h.1)
word_inner (Text t) w fits h = absurd (false≢true fits)
word_inner (Sign x) w fits h = absurd (false≢true fits)

-- a word, a mark or a point begins with no `<`
abbrev is_plain_lexeme : Lexeme → Bool
is_plain_lexeme (Identifier w) = true
is_plain_lexeme (Marked p) = true
is_plain_lexeme (Sign x) = is_dot x
is_plain_lexeme _ = false

plain_of_path : (x : Lexeme) → is_plain_lexeme x ≡ true → is_of_path x ≡ true
plain_of_path (Numeral amount number) h = absurd (false≢true h)
plain_of_path (Identifier w) h = refl
plain_of_path (Marked p) h = refl
plain_of_path (Text t) h = absurd (false≢true h)
plain_of_path (Sign x) h = h

plain_first : (x : Lexeme) (d : ℕ) (v : List ℕ) → is_plain_lexeme x ≡ true → Spells x (d ∷ v) → (is_blank d ≡ false) × ((d == 60) ≡ false)
plain_first (Numeral amount number) d v fits h = absurd (false≢true fits)
plain_first (Identifier u) d v fits h =
    let inner : IsInner (d ∷ v) = word_inner (Identifier u) (d ∷ v) refl h in
    ((inner_parts d (and_parts (is_inner d) (list_all is_inner v) inner).0).0, no_angle is_name_byte refl refl refl refl d v (is_name-bytes (d ∷ v) h.1))
plain_first (Marked p) d v fits h =
    let inner : IsInner (d ∷ v) = word_inner (Marked p) (d ∷ v) refl h in
    ((inner_parts d (and_parts (is_inner d) (list_all is_inner v) inner).0).0, no_angle is_address_byte refl refl refl refl d v (is_marked_address-bytes (d ∷ v) h.1))
plain_first (Text t) d v fits h = absurd (false≢true fits)
plain_first (Sign sign.Dot) d v fits h = let is : d ≡ 46 = cc in (ap is_blank is, ap (λ c. c == 60) is)
plain_first (Sign x) d v fits h = absurd (cc)

opened-other : (c : ℕ) (cs : List ℕ) → (c == 60) ≡ false → opened (c ∷ cs) ≡ None
opened-other c [] h = refl
opened-other c (d ∷ cs) h = rw h refl

not_opened : {text : List ℕ} {ls : List Lexeme} (x : Lexeme) → is_plain_lexeme x ≡ true → IsLexedAs text (x ∷ ls) → opened (trimmed text) ≡ None
not_opened {text} x fits h =
    let b = begins x (plain_of_path x fits) h in
    let bytes = some_bytes x b.word (plain_of_path x fits) b.spells in
    let first = plain_first x bytes.0 bytes.1.0 fits (subst (Spells x) bytes.1.1 b.spells) in
    ap (λ t. opened (trimmed t)) b.whole
    ∙ ap opened (trimmed-blanks b.blanks (b.word ++ b.rest) b.blank ∙ ap (λ u. trimmed (u ++ b.rest)) bytes.1.1 ∙ trimmed-first bytes.0 (bytes.1.0 ++ b.rest) first.0)
    ∙ opened-other bytes.0 (before_blanks (bytes.1.0 ++ b.rest)) first.1

-- ---- parts

-- one word and nothing else
record IsLast (text : List ℕ) (x : Lexeme) : Type 0 where
  word : List ℕ
  spells : Spells x word
  parts : parts_of text ≡ word ∷ []

last : {text : List ℕ} (x : Lexeme) → is_word_or_mark x ≡ true → IsLexedAs text (x ∷ []) → IsLast text x
last {text} x fits h =
    let b = begins x (word_of_path x fits) h in
    let pad : IsPadded text b.word = record { front = b.blanks; back = b.rest; blank_front = b.blank; blank_back = blanks_from b.rest b.later.place b.later.placed b.later.lexed b.later.lexemes; whole = b.whole } in
    record { word = b.word; spells = b.spells; parts = parts_of-one text b.word pad (word_inner x b.word fits b.spells) }

-- a point behind blanks
record IsPoint (text : List ℕ) (ls : List Lexeme) : Type 0 where
  blanks : List ℕ
  blank : AreBlanks blanks
  rest : List ℕ
  whole : text ≡ blanks ++ 46 ∷ rest
  later : IsLexedAs rest ls

point_first : {text : List ℕ} {ls : List Lexeme} → IsLexedAs text (Sign sign.Dot ∷ ls) → IsPoint text ls
point_first h =
    let b = begins (Sign sign.Dot) refl h in
    record { blanks = b.blanks; blank = b.blank; rest = b.rest; whole = b.whole ∙ ap (λ u. b.blanks ++ (u ++ b.rest)) b.spells; later = b.later }

-- nothing before a point
record IsEmptyPart (text : List ℕ) (ls : List Lexeme) : Type 0 where
  rest : List ℕ
  later : IsLexedAs rest ls
  parts : parts_of text ≡ [] ∷ parts_of rest

empty_part : {text : List ℕ} {ls : List Lexeme} → IsLexedAs text (Sign sign.Dot ∷ ls) → IsEmptyPart text ls
empty_part {text} h =
    let p = point_first h in
    record {
      rest = p.rest;
      later = p.later;
      parts = ap parts_of p.whole ∙ parts_of-more p.blanks [] p.rest (record { front = p.blanks; back = []; blank_front = p.blank; blank_back = refl; whole = sym (append-nil p.blanks) }) refl;
    }

-- one word, a point and more
record IsNext (text : List ℕ) (x : Lexeme) (ls : List Lexeme) : Type 0 where
  word : List ℕ
  spells : Spells x word
  rest : List ℕ
  later : IsLexedAs rest ls
  parts : parts_of text ≡ word ∷ parts_of rest

next : {text : List ℕ} {ls : List Lexeme} (x : Lexeme) → is_word_or_mark x ≡ true → IsLexedAs text (x ∷ Sign sign.Dot ∷ ls) → IsNext text x ls
next {text} x fits h =
    let b = begins x (word_of_path x fits) h in
    let p = point_first b.later in
    let front : List ℕ = b.blanks ++ (b.word ++ p.blanks) in
    let whole : text ≡ front ++ 46 ∷ p.rest =
    b.whole ∙ ap (λ u. b.blanks ++ (b.word ++ u)) p.whole ∙ ap (λ u. b.blanks ++ u) (sym (append_assoc b.word p.blanks (46 ∷ p.rest))) ∙ sym (append_assoc b.blanks (b.word ++ p.blanks) (46 ∷ p.rest)) in
    record {
      word = b.word;
      spells = b.spells;
      rest = p.rest;
      later = p.later;
      parts = ap parts_of whole ∙ parts_of-more front b.word p.rest (record { front = b.blanks; back = p.blanks; blank_front = b.blank; blank_back = p.blank; whole = refl }) (word_inner x b.word fits b.spells);
    }

-- ---- slots

marked_no_name : (w : List ℕ) (p : Place) → address_of w ≡ Some p → is_marked_address w ≡ true → is_name w ≡ false
marked_no_name w p e mark =
    let found = marked_some w p e mark in
    false_from_ne_true _ (λ name. both_ways (is_name_byte 36) refl (ap is_name_byte (sym found.1.1) ∙ is_name-bytes w name found.0 0 found.1.0))

single_name : (w : List ℕ) → is_name w ≡ true → single_slot w ≡ Some (slot.Plain w)
single_name w name = cond-true (is_name w) (Some (slot.Plain w)) (marked_slot (address_of w)) name

single_mark : (w : List ℕ) (p : Place) → address_of w ≡ Some p → is_marked_address w ≡ true → single_slot w ≡ Some (slot.Marked p)
single_mark w p e mark =
    let marks : (p.fixed_column || p.fixed_row) ≡ true = sym (ap has_mark e) ∙ mark in
    cond-false (is_name w) (Some (slot.Plain w)) (marked_slot (address_of w)) (marked_no_name w p e mark) ∙ ap marked_slot e ∙ cond-true (p.fixed_column || p.fixed_row) (Some (slot.Marked p)) None marks

-- three words with points between them
record IsThree (text name group part : List ℕ) : Type 0 where
  named : is_name name ≡ true
  parts : parts_of text ≡ name ∷ group ∷ part ∷ []

three : {text : List ℕ} (name group part : List ℕ) → IsLexedAs text (Identifier name ∷ Sign sign.Dot ∷ Identifier group ∷ Sign sign.Dot ∷ Identifier part ∷ []) → IsThree text name group part
three name group part h =
    let first = next (Identifier name) refl h in
    let second = next (Identifier group) refl first.later in
    let third = last (Identifier part) refl second.later in
    record {
      named = ap is_name first.spells.0 ∙ first.spells.1;
      parts = first.parts ∙ (λ i. sym first.spells.0 i ∷ (second.parts ∙ (λ j. sym second.spells.0 j ∷ (third.parts ∙ (λ k. sym third.spells.0 k ∷ [])) j)) i);
    }

-- the parts of a component
record IsComponent (text name : List ℕ) (x : c.Component) : Type 0 where
  group : List ℕ
  part : List ℕ
  parts : parts_of text ≡ name ∷ group ∷ part ∷ []
  slot : component_slot name group part ≡ Some (slot.Component name x)

component_read : (x : c.Component) (name text : List ℕ) → IsLexedAs text (slot_lexemes (slot.Component name x)) → IsComponent text name x
component_read X name text h = let t = three name (codes "Base") (codes "x") h in record { group = codes "Base"; part = codes "x"; parts = t.parts; slot = cond-true (is_name name) (Some (slot.Component name X)) None t.named }
component_read Y name text h = let t = three name (codes "Base") (codes "y") h in record { group = codes "Base"; part = codes "y"; parts = t.parts; slot = cond-true (is_name name) (Some (slot.Component name Y)) None t.named }
component_read Z name text h = let t = three name (codes "Base") (codes "z") h in record { group = codes "Base"; part = codes "z"; parts = t.parts; slot = cond-true (is_name name) (Some (slot.Component name Z)) None t.named }
component_read Turn name text h = let t = three name (codes "Rotation") (codes "Turn") h in record { group = codes "Rotation"; part = codes "Turn"; parts = t.parts; slot = cond-true (is_name name) (Some (slot.Component name Turn)) None t.named }

name_spelled : (name w : List ℕ) → Spells (Identifier name) w → single_slot w ≡ Some (slot.Plain name)
name_spelled name w h = single_name w h.1 ∙ ap (λ u. Some (slot.Plain u)) (sym h.0)

slot_read : (s : SlotName) (text : List ℕ) → IsLexedAs text (slot_lexemes s) → slot_of (parts_of text) ≡ Some s
slot_read (slot.Plain name) text h = let l = last (Identifier name) refl h in ap slot_of l.parts ∙ name_spelled name l.word l.spells
slot_read (slot.Component name x) text h = let k = component_read x name text h in ap slot_of k.parts ∙ k.slot
slot_read (slot.Marked p) text h = let l = last (Marked p) refl h in ap slot_of l.parts ∙ single_mark l.word p l.spells.0 l.spells.1

-- ---- paths

lone_read : (w : List ℕ) (s : SlotName) → (is_word w && is_name w) ≡ false → single_slot w ≡ Some s → plain_path (w ∷ []) ≡ Some (record { owner = Here; slot = s })
lone_read w s none is = cond-false (is_word w && is_name w) None (owned Here (single_slot w)) none ∙ ap (owned Here) is

here_read : (s : SlotName) (text : List ℕ) → IsLexedAs text (slot_lexemes s) → kinds false (slot_lexemes s) ≡ slot_tokens s → plain_path (parts_of text) ≡ Some (record { owner = Here; slot = s })
here_read (slot.Plain name) text h told =
    let l = last (Identifier name) refl h in
    let alone : lone_word name ≡ token.Name name = cc in
    let none : is_word l.word ≡ false = ap is_word (sym l.spells.0) ∙ lone_none name alone in
    ap plain_path l.parts ∙ lone_read l.word (slot.Plain name) (ap (λ b. b && is_name l.word) none) (name_spelled name l.word l.spells)
here_read (slot.Component name x) text h told = let k = component_read x name text h in ap plain_path k.parts ∙ ap (owned Here) k.slot
here_read (slot.Marked p) text h told =
    let l = last (Marked p) refl h in
    ap plain_path l.parts
    ∙ lone_read l.word (slot.Marked p) (and_right (is_word l.word) (is_name l.word) (marked_no_name l.word p l.spells.0 l.spells.1)) (single_mark l.word p l.spells.0 l.spells.1)

fronted : (front : List ℕ) (parts : List (List ℕ)) (s : SlotName) → slot_of parts ≡ Some s → plain_path (front ∷ parts) ≡ fronted_path front parts
fronted front [] s h = absurd (cc)
fronted front (u ∷ []) s h = refl
fronted front (u ∷ v ∷ []) s h = absurd (cc)
fronted front (u ∷ v ∷ w ∷ []) s h = refl
fronted front (u ∷ v ∷ w ∷ x ∷ more) s h = absurd (cc)

named_read : (name : List ℕ) (s : SlotName) (text : List ℕ) → IsLexedAs text (Identifier name ∷ Sign sign.Dot ∷ slot_lexemes s) → plain_path (parts_of text) ≡ Some (record { owner = ByName name; slot = s })
named_read name s text h =
    let n = next (Identifier name) refl h in
    let slot = slot_read s n.rest n.later in
    let some : bytes_eq n.word [] ≡ false =
    false_from_ne_true _ (λ e. absurd (omega (arith, is_name-length n.word n.spells.1, ap length ((bytes_eq-Decides n.word []).0 e)))) in
    ap plain_path n.parts ∙ fronted n.word (parts_of n.rest) s slot
    ∙ cond-false (bytes_eq n.word []) (owned Here (slot_of (parts_of n.rest))) (named_path n.word (parts_of n.rest)) some
    ∙ cond-true (is_name n.word) (owned (ByName n.word) (slot_of (parts_of n.rest))) None n.spells.1
    ∙ ap (owned (ByName n.word)) slot ∙ ap (λ u. Some (record { owner = ByName u; slot = s })) (sym n.spells.0)

point_read : (s : SlotName) (text : List ℕ) → IsLexedAs text (Sign sign.Dot ∷ slot_lexemes s) → plain_path (parts_of text) ≡ Some (record { owner = Here; slot = s })
point_read s text h =
    let e = empty_part h in
    let slot = slot_read s e.rest e.later in
    ap plain_path e.parts ∙ fronted [] (parts_of e.rest) s slot ∙ ap (owned Here) slot

-- a path without a label
unlabelled : {text : List ℕ} {ls : List Lexeme} (x : Lexeme) (p : Path) → is_plain_lexeme x ≡ true → IsLexedAs text (x ∷ ls) → plain_path (parts_of text) ≡ Some p → path_of text ≡ Some p
unfolding path_of
unlabelled {text} x p fits h is = ap (λ o. path_behind o (trimmed text)) (not_opened x fits h) ∙ ap plain_path (parts_of-trimmed text) ∙ is

until_closing-behind : (t rest : List ℕ) → has_closing_mark t ≡ false → ends_in_mark t ≡ false → until_closing (t ++ 62 ∷ 62 ∷ rest) ≡ Some (t, rest)
until_closing-behind [] rest closing ends = refl
until_closing-behind (a ∷ []) rest closing ends = rw ends
until_closing-behind (a ∷ b ∷ more) rest closing ends =
    let parts = or_parts ((a == 62) && (b == 62)) (has_closing_mark (b ∷ more)) closing in
    rw (parts.0, until_closing-behind (b ∷ more) rest parts.1 ends)

label_read : (label : List ℕ) (s : SlotName) (text : List ℕ) → is_label label ≡ true → IsLexedAs text (Text label ∷ Sign sign.Dot ∷ slot_lexemes s) → path_of text ≡ Some (record { owner = ByLabel label; slot = s })
unfolding path_of
label_read label s text name h =
    let b = begins (Text label) refl h in
    let e = empty_part b.later in
    let slot = slot_read s e.rest e.later in
    let after : List ℕ = before_blanks b.rest in
    let quoted = label_quoted label name in
    let inner : (60 ∷ (label ++ 62 ∷ [])) ++ 62 ∷ after ≡ 60 ∷ (label ++ 62 ∷ 62 ∷ after) = ap (λ (u : List ℕ). 60 ∷ u) (append_assoc label (62 ∷ []) (62 ∷ after)) in
    let shape : b.word ++ b.rest ≡ 60 ∷ ((60 ∷ (label ++ 62 ∷ [])) ++ 62 ∷ b.rest) =
    ap (λ u. u ++ b.rest) b.spells ∙ ap (λ (u : List ℕ). 60 ∷ 60 ∷ u) (append_assoc label (62 ∷ 62 ∷ []) b.rest ∙ sym (append_assoc label (62 ∷ []) (62 ∷ b.rest))) in
    let cut : trimmed text ≡ 60 ∷ 60 ∷ (label ++ 62 ∷ 62 ∷ after) =
    ap trimmed b.whole ∙ trimmed-blanks b.blanks (b.word ++ b.rest) b.blank ∙ ap trimmed shape
    ∙ trimmed-behind 60 (60 ∷ (label ++ 62 ∷ [])) 62 b.rest refl refl ∙ ap (λ (u : List ℕ). 60 ∷ u) inner in
    ap (λ t. path_behind (opened t) t) cut
    ∙ ap (option_and_then labelled_path) (until_closing-behind label after quoted.closing quoted.ending)
    ∙ cond-true (is_label label) (owned (ByLabel label) (labelled_slot (parts_of after))) None name
    ∙ ap (λ ps. owned (ByLabel label) (labelled_slot ps)) (parts_of-before_blanks b.rest ∙ e.parts)
    ∙ ap (owned (ByLabel label)) slot

-- the first lexeme of a slot is no text
slot_unlabelled : (s : SlotName) (p : Path) (text : List ℕ) → IsLexedAs text (slot_lexemes s) → plain_path (parts_of text) ≡ Some p → path_of text ≡ Some p
slot_unlabelled (slot.Plain name) p text h is = unlabelled (Identifier name) p refl h is
slot_unlabelled (slot.Component name x) p text h is = unlabelled (Identifier name) p refl h is
slot_unlabelled (slot.Marked place) p text h is = unlabelled (Marked place) p refl h is

told_read : (text : List ℕ) (ls : List Lexeme) (ts : List Token) (p : Path) → IsLexedAs text ls → kinds false ls ≡ ts → IsPathOf ts p → path_of text ≡ Some p
told_read text ls ts p h told (plain q own) = by_owner q.owner q.slot own h told
  where
    by_owner : (o : Owner) (s : SlotName) → CanOwn o → IsLexedAs text ls → kinds false ls ≡ owner_tokens o ++ slot_tokens s → path_of text ≡ Some (record { owner = o; slot = s })
    by_owner Here s own h told =
        let same : ls ≡ slot_lexemes s = sym (kinds_back false ls) ∙ ap (map lexeme_of) told ∙ slot_back s in
        let read : IsLexedAs text (slot_lexemes s) = subst (IsLexedAs text) same h in
        slot_unlabelled s (record { owner = Here; slot = s }) text read (here_read s text read (ap (kinds false) (sym same) ∙ told))
    by_owner (ByName name) s own h told =
        let same : ls ≡ Identifier name ∷ Sign sign.Dot ∷ slot_lexemes s = sym (kinds_back false ls) ∙ ap (map lexeme_of) told ∙ ap (λ (xs : List Lexeme). Identifier name ∷ Sign sign.Dot ∷ xs) (slot_back s) in
        let read : IsLexedAs text (Identifier name ∷ Sign sign.Dot ∷ slot_lexemes s) = subst (IsLexedAs text) same h in
        unlabelled (Identifier name) (record { owner = ByName name; slot = s }) refl read (named_read name s text read)
    by_owner (ByLabel label) s own h told =
        let same : ls ≡ Text label ∷ Sign sign.Dot ∷ slot_lexemes s = sym (kinds_back false ls) ∙ ap (map lexeme_of) told ∙ ap (λ (xs : List Lexeme). Text label ∷ Sign sign.Dot ∷ xs) (slot_back s) in
        label_read label s text own (subst (IsLexedAs text) same h)
told_read text ls ts p h told (behind_point s) =
    let same : ls ≡ Sign sign.Dot ∷ slot_lexemes s = sym (kinds_back false ls) ∙ ap (map lexeme_of) told ∙ ap (λ (xs : List Lexeme). Sign sign.Dot ∷ xs) (slot_back s) in
    let read : IsLexedAs text (Sign sign.Dot ∷ slot_lexemes s) = subst (IsLexedAs text) same h in
    unlabelled (Sign sign.Dot) (record { owner = Here; slot = s }) refl read (point_read s text read)

-- what has the tokens of a path is read as the path
pub tokens_are_read : (text : List ℕ) (p : Path) → HasPathTokens text p → path_of text ≡ Some p
tokens_are_read text p h =
    told_read text (map (λ (x : Placed). x.lexeme) h.lexemes) (kinds false (map (λ (x : Placed). x.lexeme) h.lexemes)) p
    (record { place = 0; placed = h.lexemes; lexed = h.spelled; lexemes = refl }) refl h.path
