-- What is read as a path has the tokens of the path.
use Rattle.std.proofs.Common.{◌≡◌, ℕ, Bool, true, false, not, ◌&&◌, ◌||◌, ◌==◌, nat_le, nat_lt, List, [], ◌∷◌, ◌++◌, length, map, is_some, Option, Some, None, refl, sym, ap, subst, ◌∙◌, ⊎_elim, arith, append_assoc, append-nil, codes, bytes_eq}
use Rattle.std.specs.List.{list_all, list_any, join_with_byte, slice_split}
use Rattle.std.specs.Option.{option_map, option_and_then}
use Rattle.std.specs.Str.{is_utf8}
use Rattle.std.proofs.lemmas.Bool.{and_parts, and_from, or_parts, or_cases, or_left, not-true, not_from_false, eqb-true, le-leb, leb-true}
use Rattle.std.proofs.lemmas.Slice.Eq.{bytes_eq-Decides}
use Rattle.std.proofs.lemmas.List.Splits.{join_with_byte-slice_split}
use Rattle.fc_base.specs.Places.{Place, address_of}
use Rattle.fc_base.specs.Texts.{is_name, is_name_byte, is_label, is_control, is_text_byte, is_text_value, has_closing_mark, ends_in_mark}
use Rattle.fc_base.proofs.AddressLemmas.{address_of-iff}
use Rattle.unit_signatures.specs.Table.{unit_named}
use Rattle.object_paths.specs.PathTexts.{is_word}
use Rattle.object_paths.specs.PathParts.{is_blank, trimmed, parts_of, marked_slot, single_slot, component_of, component_slot, slot_of, owned, named_path, fronted_path, plain_path, until_closing, labelled_slot, labelled_path, opened, path_behind, path_of}
use Rattle.object_paths.specs.declared.slot_name.Component as c
use Rattle.object_paths.specs.declared.slot_name.Component.TheVariants.{X, Y, Z, Turn}
use Rattle.object_paths.specs.declared.slot_name.SlotName.{SlotName}
use Rattle.object_paths.specs.declared.slot_name.SlotName.TheVariants as slot
use Rattle.object_paths.specs.declared.path.Owner.TheVariants.{Here, ByName, ByLabel}
use Rattle.object_paths.specs.declared.path.Path.{Path}
use Rattle.expr_tokens.specs.declared.sign.Sign.TheVariants as sign
use Rattle.expr_tokens.specs.declared.token.Lexeme.{Lexeme}
use Rattle.expr_tokens.specs.declared.token.Lexeme.TheVariants.{Identifier, Marked, Text, Sign}
use Rattle.expr_tokens.specs.declared.token.Token.TheVariants as token
use Rattle.expr_tokens.specs.Kinds.{lone_word, kinds}
use Rattle.expr_tokens.proofs.AlphabetLemmas.{begins_past}
use Rattle.expr_tokens.proofs.AsciiNames.{ascii_name}
use Rattle.expr_tokens.proofs.ByteLemmas.{is_address_byte}
use Rattle.expr_tokens.proofs.LexemeLemmas.{Lexes, finished, gap, lexes_name, lexes_marked, lexes_text, lexes_dot, placed_from}
use Rattle.expr_grammar.specs.PathTokens.{dot, component_tokens, slot_tokens, IsPathOf, plain, behind_point}
use Rattle.expr_grammar.proofs.PathFrontLemmas.{AllSome, on_cond, component_of-names}
use Rattle.expression_laws.specs.PathsRead.{HasPathTokens}
use Rattle.expression_laws.proofs.PartLemmas.{AreBlanks, padded}

-- ---- the lexemes of slots

abbrev pub component_lexemes : c.Component → List Lexeme
component_lexemes X = Identifier (codes "Base") ∷ Sign sign.Dot ∷ Identifier (codes "x") ∷ []
component_lexemes Y = Identifier (codes "Base") ∷ Sign sign.Dot ∷ Identifier (codes "y") ∷ []
component_lexemes Z = Identifier (codes "Base") ∷ Sign sign.Dot ∷ Identifier (codes "z") ∷ []
component_lexemes Turn = Identifier (codes "Rotation") ∷ Sign sign.Dot ∷ Identifier (codes "Turn") ∷ []

abbrev pub slot_lexemes : SlotName → List Lexeme
slot_lexemes (slot.Plain name) = Identifier name ∷ []
slot_lexemes (slot.Component name part) = Identifier name ∷ Sign sign.Dot ∷ component_lexemes part
slot_lexemes (slot.Marked p) = Marked p ∷ []

-- behind a point they are the slot
pub slot_told : (s : SlotName) → kinds true (slot_lexemes s) ≡ slot_tokens s
slot_told (slot.Plain name) = refl
slot_told (slot.Component name X) = refl
slot_told (slot.Component name Y) = refl
slot_told (slot.Component name Z) = refl
slot_told (slot.Component name Turn) = refl
slot_told (slot.Marked p) = refl

component_told : (name : List ℕ) (part : c.Component) → kinds false (slot_lexemes (slot.Component name part)) ≡ slot_tokens (slot.Component name part)
component_told name X = refl
component_told name Y = refl
component_told name Z = refl
component_told name Turn = refl

lone_name : (w : List ℕ) → is_word w ≡ false → lone_word w ≡ token.Name w
lone_name w h =
    let outer = or_parts (is_some (unit_named w) || bytes_eq w (codes "true")) (bytes_eq w (codes "false")) h in
    let inner = or_parts (is_some (unit_named w)) (bytes_eq w (codes "true")) outer.0 in
    rw (inner.1, outer.1, inner.0) refl

-- ---- parts and their lexemes

-- nothing, a name or a marked address
data IsPart : List ℕ → List Lexeme → Type 0 where
  no_part : IsPart [] []
  a_name : (w : List ℕ) → is_name w ≡ true → IsPart w (Identifier w ∷ [])
  a_mark : (w : List ℕ) (p : Place) → address_of w ≡ Some p → (p.fixed_column || p.fixed_row) ≡ true → IsPart w (Marked p ∷ [])

-- parts with dots between them
abbrev ArePartsOf : List (List ℕ) → List Lexeme → Type 0
ArePartsOf [] ls = ⊥
ArePartsOf (w ∷ []) ls = IsPart w ls
ArePartsOf (w ∷ v ∷ more) ls = (front : List Lexeme) × (behind : List Lexeme) × IsPart w front × ArePartsOf (v ∷ more) behind × (ls ≡ front ++ Sign sign.Dot ∷ behind)

-- a text is empty, or begins with a blank or a dot
abbrev ends : List ℕ → Bool
ends [] = true
ends (c ∷ cs) = (c == 32) || (c == 9) || (c == 46)

module _ (alphabet : ℕ → Bool) (space : alphabet 32 ≡ false) (tab : alphabet 9 ≡ false) (point : alphabet 46 ≡ false) where
  past : (rest : List ℕ) → ends rest ≡ true → begins_past alphabet rest ≡ true
  past [] h = refl
  past (c ∷ cs) h =
      let is : (d : ℕ) → alphabet d ≡ false → (c == d) ≡ true → alphabet c ≡ false = λ d none e. ap alphabet (eqb-true c d e) ∙ none in
      not_from_false (alphabet c) (⊎_elim (λ a. ⊎_elim (is 32 space) (is 9 tab) (or_cases (c == 32) (c == 9) a)) (is 46 point) (or_cases ((c == 32) || (c == 9)) (c == 46) h))

lexes_part : {w rest : List ℕ} {ls xs : List Lexeme} → IsPart w ls → ends rest ≡ true → Lexes rest xs → Lexes (w ++ rest) (ls ++ xs)
lexes_part no_part end more = more
lexes_part {rest = rest} (a_name w name) end more = lexes_name w rest name (past is_name_byte refl refl refl rest end) (past is_address_byte refl refl refl rest end) more
lexes_part {rest = rest} {xs = xs} (a_mark w p address mark) end more =
    let spells = (address_of-iff w p).0 address in
    subst (λ t. Lexes (t ++ rest) (Marked p ∷ xs)) spells.spelling (lexes_marked p spells.place mark rest (past is_address_byte refl refl refl rest end) more)

lexes_blanks : (blanks rest : List ℕ) {xs : List Lexeme} → AreBlanks blanks → Lexes rest xs → Lexes (blanks ++ rest) xs
lexes_blanks [] rest h more = more
lexes_blanks (b ∷ bs) rest h more = let parts = and_parts (is_blank b) (list_all is_blank bs) h in gap parts.0 (lexes_blanks bs rest parts.1 more)

ends_blanks : (blanks rest : List ℕ) → AreBlanks blanks → ends rest ≡ true → ends (blanks ++ rest) ≡ true
ends_blanks [] rest h end = end
ends_blanks (b ∷ bs) rest h end = or_left (is_blank b) (b == 46) (and_parts (is_blank b) (list_all is_blank bs) h).0

lexes_padded : (t rest : List ℕ) {ls xs : List Lexeme} → IsPart (trimmed t) ls → ends rest ≡ true → Lexes rest xs → Lexes (t ++ rest) (ls ++ xs)
lexes_padded t rest {ls} {xs} part end more =
    let pad = padded t in
    let w : List ℕ = trimmed t in
    let whole : pad.front ++ (w ++ (pad.back ++ rest)) ≡ t ++ rest =
    sym (ap (λ u. u ++ rest) pad.whole ∙ append_assoc pad.front (w ++ pad.back) rest ∙ ap (λ u. pad.front ++ u) (append_assoc w pad.back rest)) in
    subst (λ u. Lexes u (ls ++ xs)) whole
    (lexes_blanks pad.front (w ++ (pad.back ++ rest)) pad.blank_front
    (lexes_part part (ends_blanks pad.back rest pad.blank_back end) (lexes_blanks pad.back rest pad.blank_back more)))

-- blanks alone are no lexemes
lexes_none : (blanks : List ℕ) → AreBlanks blanks → Lexes blanks []
lexes_none blanks h = subst (λ t. Lexes t []) (append-nil blanks) (lexes_blanks blanks [] h finished)

lexes_joined : (ts : List (List ℕ)) (back : List ℕ) (ls : List Lexeme) → ArePartsOf (map trimmed ts) ls → AreBlanks back → Lexes (join_with_byte 46 ts ++ back) ls
lexes_joined [] back ls parts blank = absurd parts
lexes_joined (t ∷ []) back ls parts blank =
    subst (Lexes (t ++ back)) (append-nil ls) (lexes_padded t back parts (subst (λ u. ends u ≡ true) (append-nil back) (ends_blanks back [] blank refl)) (lexes_none back blank))
lexes_joined (t ∷ u ∷ more) back ls (front, behind, first, rest, is) blank =
    let tail : List ℕ = join_with_byte 46 (u ∷ more) in
    subst (λ v. Lexes v ls) (sym (append_assoc t (46 ∷ tail) back))
    (subst (Lexes (t ++ 46 ∷ (tail ++ back))) (sym is)
    (lexes_padded t (46 ∷ (tail ++ back)) first refl (lexes_dot (tail ++ back) (lexes_joined (u ∷ more) back behind rest blank))))

-- a text whose parts are lexemes is those lexemes, and blanks may follow
lexes_text_of : (text back : List ℕ) (ls : List Lexeme) → ArePartsOf (parts_of text) ls → AreBlanks back → Lexes (text ++ back) ls
lexes_text_of text back ls parts blank =
    subst (λ t. Lexes (t ++ back) ls) (join_with_byte-slice_split 46 text) (lexes_joined (slice_split (λ c. c == 46) text) back ls parts blank)

-- ---- the slots of parts

map_some : {A B : Type 0} (P : B → Type 0) (f : A → B) (o : Option A) → AllSome (λ x. P (f x)) o → AllSome P (option_map f o)
map_some P f None h = h
map_some P f (Some x) h = h

marked_parts : (text : List ℕ) → AllSome (λ s. IsPart text (slot_lexemes s) × (kinds false (slot_lexemes s) ≡ slot_tokens s)) (marked_slot (address_of text))
marked_parts text =
    elim (address_of text) as (λ o. address_of text ≡ o → AllSome (λ s. IsPart text (slot_lexemes s) × (kinds false (slot_lexemes s) ≡ slot_tokens s)) (marked_slot o)) [
      | None ↦ λ e. tt
      | Some p ↦ λ e. on_cond (AllSome (λ s. IsPart text (slot_lexemes s) × (kinds false (slot_lexemes s) ≡ slot_tokens s))) (p.fixed_column || p.fixed_row) (Some (slot.Marked p)) None
          (λ mark. (a_mark text p e mark, refl)) (λ _. tt)
    ] refl

single_parts : (text : List ℕ) → AllSome (λ s. IsPart text (slot_lexemes s)) (single_slot text)
single_parts text =
    on_cond (AllSome (λ s. IsPart text (slot_lexemes s))) (is_name text) (Some (slot.Plain text)) (marked_slot (address_of text)) (λ name. a_name text name)
    (λ _. elim (marked_slot (address_of text)) as (λ o. AllSome (λ s. IsPart text (slot_lexemes s) × (kinds false (slot_lexemes s) ≡ slot_tokens s)) o → AllSome (λ s. IsPart text (slot_lexemes s)) o)
    [ None ↦ λ h. tt | Some s ↦ λ h. h.0 ] (marked_parts text))

named_part : (w v : List ℕ) → w ≡ v → is_name v ≡ true → IsPart w (Identifier v ∷ [])
named_part w v e name = subst (λ u. IsPart u (Identifier v ∷ [])) (sym e) (a_name v name)

two_parts : (group part g x : List ℕ) → group ≡ g → part ≡ x → is_name g ≡ true → is_name x ≡ true
    → ArePartsOf (group ∷ part ∷ []) (Identifier g ∷ Sign sign.Dot ∷ Identifier x ∷ [])
two_parts group part g x e d first second = (Identifier g ∷ [], Identifier x ∷ [], named_part group g e first, named_part part x d second, refl)

abbrev IsNamed : List ℕ → List ℕ → c.Component → Type 0
IsNamed group part x = component_tokens x ≡ token.Name group ∷ dot ∷ token.Name part ∷ []

component_parts : (group part : List ℕ) (x : c.Component) → IsNamed group part x → ArePartsOf (group ∷ part ∷ []) (component_lexemes x)
component_parts group part X h = two_parts group part (codes "Base") (codes "x") (cc) (cc) (ascii_name (codes "Base") refl) (ascii_name (codes "x") refl)
component_parts group part Y h = two_parts group part (codes "Base") (codes "y") (cc) (cc) (ascii_name (codes "Base") refl) (ascii_name (codes "y") refl)
component_parts group part Z h = two_parts group part (codes "Base") (codes "z") (cc) (cc) (ascii_name (codes "Base") refl) (ascii_name (codes "z") refl)
component_parts group part Turn h = two_parts group part (codes "Rotation") (codes "Turn") (cc) (cc) (ascii_name (codes "Rotation") refl) (ascii_name (codes "Turn") refl)

-- the parts are the slot, which its own lexemes tell
abbrev AreSlot : List (List ℕ) → SlotName → Type 0
AreSlot parts s = ArePartsOf parts (slot_lexemes s) × (kinds false (slot_lexemes s) ≡ slot_tokens s)

component_slot-parts : (name group part : List ℕ) → AllSome (AreSlot (name ∷ group ∷ part ∷ [])) (component_slot name group part)
component_slot-parts name group part =
    on_cond (AllSome (AreSlot (name ∷ group ∷ part ∷ []))) (is_name name) (option_map (slot.Component name) (component_of group part)) None
    (λ named. elim (component_of group part) as (λ o. AllSome (IsNamed group part) o → AllSome (AreSlot (name ∷ group ∷ part ∷ [])) (option_map (slot.Component name) o)) [
      | None ↦ λ h. tt
      | Some x ↦ λ h. ((Identifier name ∷ [], component_lexemes x, a_name name named, component_parts group part x h, refl), component_told name x)
    ] (component_of-names group part))
    (λ _. tt)

slot_of-parts : (parts : List (List ℕ)) → AllSome (λ s. ArePartsOf parts (slot_lexemes s)) (slot_of parts)
slot_of-parts [] = tt
slot_of-parts (text ∷ []) = single_parts text
slot_of-parts (name ∷ group ∷ []) = tt
slot_of-parts (name ∷ group ∷ part ∷ []) =
    elim (component_slot name group part) as (λ o. AllSome (AreSlot (name ∷ group ∷ part ∷ [])) o → AllSome (λ s. ArePartsOf (name ∷ group ∷ part ∷ []) (slot_lexemes s)) o)
    [ None ↦ λ h. tt | Some s ↦ λ h. h.0 ] (component_slot-parts name group part)
slot_of-parts (a ∷ b ∷ c ∷ d ∷ more) = tt

-- ---- the paths of parts

-- the parts are lexemes whose tokens are the path
abbrev ArePath : List (List ℕ) → Path → Type 0
ArePath parts p = (ls : List Lexeme) × ArePartsOf parts ls × IsPathOf (kinds false ls) p

here_path : (parts : List (List ℕ)) (s : SlotName) → AreSlot parts s → ArePath parts (record { owner = Here; slot = s })
here_path parts s h = (slot_lexemes s, h.0, subst (λ ts. IsPathOf ts (record { owner = Here; slot = s })) (sym h.1) (plain (record { owner = Here; slot = s }) tt))

owned_here : (parts : List (List ℕ)) (o : Option SlotName) → AllSome (AreSlot parts) o → AllSome (ArePath parts) (owned Here o)
owned_here parts None h = tt
owned_here parts (Some s) h = here_path parts s h

-- one part alone, which is no unit and no flag
lone_parts : (text : List ℕ) → (is_word text && is_name text) ≡ false → AllSome (AreSlot (text ∷ [])) (single_slot text)
lone_parts text none =
    on_cond (AllSome (AreSlot (text ∷ []))) (is_name text) (Some (slot.Plain text)) (marked_slot (address_of text))
    (λ name. (a_name text name, ap (λ t. t ∷ []) (lone_name text (no_word name))))
    (λ _. marked_parts text)
  where
    no_word : is_name text ≡ true → is_word text ≡ false
    no_word name = elim (is_word text) as (λ b. (b && is_name text) ≡ false → b ≡ false) [ true ↦ λ h. sym name ∙ h | false ↦ λ _. refl ] none

-- parts behind an empty one, or behind a name
behind_parts : (front : List ℕ) (fs : List Lexeme) (parts : List (List ℕ)) (s : SlotName) → IsPart front fs → ArePartsOf parts (slot_lexemes s)
    → ArePartsOf (front ∷ parts) (fs ++ Sign sign.Dot ∷ slot_lexemes s)
behind_parts front fs [] s first h = absurd h
behind_parts front fs (v ∷ more) s first h = (fs, slot_lexemes s, first, h, refl)

empty_front : (front : List ℕ) → bytes_eq front [] ≡ true → IsPart front []
empty_front front e = subst (λ u. IsPart u []) (sym ((bytes_eq-Decides front []).0 e)) no_part

fronted_parts : (front : List ℕ) (rest : List (List ℕ)) → AllSome (ArePath (front ∷ rest)) (fronted_path front rest)
fronted_parts front rest =
    on_cond (AllSome (ArePath (front ∷ rest))) (bytes_eq front []) (owned Here (slot_of rest)) (named_path front rest)
    (λ empty. map_some (ArePath (front ∷ rest)) (λ s. record { owner = Here; slot = s }) (slot_of rest)
    (each (slot_of rest) (λ s h. (
      Sign sign.Dot ∷ slot_lexemes s,
      behind_parts front [] rest s (empty_front front empty) h,
      subst (λ ts. IsPathOf (dot ∷ ts) (record { owner = Here; slot = s })) (sym (slot_told s)) (behind_point s),
    )) (slot_of-parts rest)))
    (λ _. on_cond (AllSome (ArePath (front ∷ rest))) (is_name front) (owned (ByName front) (slot_of rest)) None
    (λ name. map_some (ArePath (front ∷ rest)) (λ s. record { owner = ByName front; slot = s }) (slot_of rest)
    (each (slot_of rest) (λ s h. (
      Identifier front ∷ Sign sign.Dot ∷ slot_lexemes s,
      behind_parts front (Identifier front ∷ []) rest s (a_name front name) h,
      subst (λ ts. IsPathOf (token.Name front ∷ dot ∷ ts) (record { owner = ByName front; slot = s })) (sym (slot_told s)) (plain (record { owner = ByName front; slot = s }) tt),
    )) (slot_of-parts rest)))
    (λ _. tt))
  where
    each : {Q : SlotName → Type 0} (o : Option SlotName) → ((s : SlotName) → ArePartsOf rest (slot_lexemes s) → Q s) → AllSome (λ s. ArePartsOf rest (slot_lexemes s)) o → AllSome Q o
    each None f h = tt
    each (Some s) f h = f s h

plain_parts : (parts : List (List ℕ)) → AllSome (ArePath parts) (plain_path parts)
plain_parts [] = tt
plain_parts (text ∷ []) =
    on_cond (AllSome (ArePath (text ∷ []))) (is_word text && is_name text) None (owned Here (single_slot text)) (λ _. tt)
    (λ none. owned_here (text ∷ []) (single_slot text) (lone_parts text none))
plain_parts (name ∷ part ∷ []) = fronted_parts name (part ∷ [])
plain_parts (name ∷ group ∷ part ∷ []) = owned_here (name ∷ group ∷ part ∷ []) (component_slot name group part) (component_slot-parts name group part)
plain_parts (front ∷ a ∷ b ∷ c ∷ more) = fronted_parts front (a ∷ b ∷ c ∷ more)

-- ---- labels

no_control : (t : List ℕ) → list_any is_control t ≡ false → list_all is_text_byte t ≡ true
no_control [] h = refl
no_control (x ∷ xs) h =
    let parts = or_parts (is_control x) (list_any is_control xs) h in
    and_from (is_text_byte x) (list_all is_text_byte xs)
    (or_left (not (is_control x) || (x == 9) || (x == 10)) (x == 13) (or_left (not (is_control x) || (x == 9)) (x == 10) (or_left (not (is_control x)) (x == 9) (not_from_false _ parts.0))))
    (no_control xs parts.1)

-- a label may stand between `<<` and `>>`
pub record IsQuoted (t : List ℕ) : Type 0 where
  pub value : is_text_value t ≡ true
  pub closing : has_closing_mark t ≡ false
  pub ending : ends_in_mark t ≡ false

pub label_quoted : (t : List ℕ) → is_label t ≡ true → IsQuoted t
label_quoted t h =
    let ending = and_parts (is_utf8 t && nat_lt 0 (length t) && nat_le (length t) 255 && not (has_closing_mark t) && not (list_any is_control t)) (not (ends_in_mark t)) h in
    let control = and_parts (is_utf8 t && nat_lt 0 (length t) && nat_le (length t) 255 && not (has_closing_mark t)) (not (list_any is_control t)) ending.0 in
    let closing = and_parts (is_utf8 t && nat_lt 0 (length t) && nat_le (length t) 255) (not (has_closing_mark t)) control.0 in
    let short = and_parts (is_utf8 t && nat_lt 0 (length t)) (nat_le (length t) 255) closing.0 in
    record {
      value = and_from (is_utf8 t && nat_le (length t) 1024) (list_all is_text_byte t)
          (and_from (is_utf8 t) (nat_le (length t) 1024) (and_parts (is_utf8 t) (nat_lt 0 (length t)) short.0).0
          (le-leb (length t) 1024 (omega (arith, leb-true (length t) 255 short.1))))
          (no_control t (not-true _ control.1));
      closing = not-true _ closing.1;
      ending = not-true _ ending.1;
    }

-- what stands behind the marks in front, and where the closing ones are
pub opened-found : (text : List ℕ) → AllSome (λ rest. text ≡ 60 ∷ 60 ∷ rest) (opened text)
opened-found [] = tt
opened-found (a ∷ []) = tt
opened-found (a ∷ b ∷ rest) =
    on_cond (AllSome (λ r. a ∷ b ∷ rest ≡ 60 ∷ 60 ∷ r)) ((a == 60) && (b == 60)) (Some rest) None
    (λ e. let parts = and_parts (a == 60) (b == 60) e in λ i. eqb-true a 60 parts.0 i ∷ eqb-true b 60 parts.1 i ∷ rest) (λ _. tt)

pub closing-found : (text : List ℕ) → AllSome (λ cut. text ≡ cut.0 ++ 62 ∷ 62 ∷ cut.1) (until_closing text)
closing-found [] = tt
closing-found (a ∷ []) = tt
closing-found (a ∷ b ∷ rest) =
    on_cond (AllSome (λ (cut : List ℕ × List ℕ). a ∷ b ∷ rest ≡ cut.0 ++ 62 ∷ 62 ∷ cut.1)) ((a == 62) && (b == 62)) (Some ([], rest)) (option_map (λ p. (a ∷ p.0, p.1)) (until_closing (b ∷ rest)))
    (λ e. let parts = and_parts (a == 62) (b == 62) e in λ i. eqb-true a 62 parts.0 i ∷ eqb-true b 62 parts.1 i ∷ rest)
    (λ _. elim (until_closing (b ∷ rest)) as (λ o. AllSome (λ (cut : List ℕ × List ℕ). b ∷ rest ≡ cut.0 ++ 62 ∷ 62 ∷ cut.1) o
    → AllSome (λ (cut : List ℕ × List ℕ). a ∷ b ∷ rest ≡ cut.0 ++ 62 ∷ 62 ∷ cut.1) (option_map (λ p. (a ∷ p.0, p.1)) o))
    [ None ↦ λ h. tt | Some cut ↦ λ h. ap (λ (u : List ℕ). a ∷ u) h ] (closing-found (b ∷ rest)))

labelled_parts : (parts : List (List ℕ)) → AllSome (λ s. ArePartsOf parts (Sign sign.Dot ∷ slot_lexemes s)) (labelled_slot parts)
labelled_parts [] = tt
labelled_parts (front ∷ parts) =
    on_cond (AllSome (λ s. ArePartsOf (front ∷ parts) (Sign sign.Dot ∷ slot_lexemes s))) (bytes_eq front []) (slot_of parts) None
    (λ empty. elim (slot_of parts) as (λ o. AllSome (λ s. ArePartsOf parts (slot_lexemes s)) o → AllSome (λ s. ArePartsOf (front ∷ parts) (Sign sign.Dot ∷ slot_lexemes s)) o)
    [ None ↦ λ h. tt | Some s ↦ λ h. behind_parts front [] parts s (empty_front front empty) h ] (slot_of-parts parts))
    (λ _. tt)

-- ---- texts

-- the text is lexemes whose tokens are the path
abbrev IsPathText : List ℕ → Path → Type 0
IsPathText text p = (ls : List Lexeme) × Lexes text ls × IsPathOf (kinds false ls) p

label_text : (label after back : List ℕ) (s : SlotName) → is_label label ≡ true → AreBlanks back → ArePartsOf (parts_of after) (Sign sign.Dot ∷ slot_lexemes s)
    → IsPathText ((60 ∷ 60 ∷ (label ++ 62 ∷ 62 ∷ after)) ++ back) (record { owner = ByLabel label; slot = s })
label_text label after back s name blank parts =
    let quoted = label_quoted label name in
    let whole : (60 ∷ 60 ∷ (label ++ 62 ∷ 62 ∷ [])) ++ (after ++ back) ≡ (60 ∷ 60 ∷ (label ++ 62 ∷ 62 ∷ after)) ++ back =
    ap (λ (u : List ℕ). 60 ∷ 60 ∷ u) (append_assoc label (62 ∷ 62 ∷ []) (after ++ back) ∙ sym (append_assoc label (62 ∷ 62 ∷ after) back)) in (
      Text label ∷ Sign sign.Dot ∷ slot_lexemes s,
      subst (λ t. Lexes t (Text label ∷ Sign sign.Dot ∷ slot_lexemes s)) whole
          (lexes_text label (after ++ back) quoted.value quoted.closing quoted.ending (lexes_text_of after back (Sign sign.Dot ∷ slot_lexemes s) parts blank)),
      subst (λ ts. IsPathOf (token.Text label ∷ dot ∷ ts) (record { owner = ByLabel label; slot = s })) (sym (slot_told s)) (plain (record { owner = ByLabel label; slot = s }) name),
    )

labelled_text : (text rest back : List ℕ) (cut : Option (List ℕ × List ℕ)) → AreBlanks back → text ≡ 60 ∷ 60 ∷ rest → AllSome (λ (cut : List ℕ × List ℕ). rest ≡ cut.0 ++ 62 ∷ 62 ∷ cut.1) cut
    → AllSome (IsPathText (text ++ back)) (option_and_then labelled_path cut)
labelled_text text rest back None blank opens h = tt
labelled_text text rest back (Some cut) blank opens h =
    let whole : (60 ∷ 60 ∷ (cut.0 ++ 62 ∷ 62 ∷ cut.1)) ++ back ≡ text ++ back = sym (ap (λ u. u ++ back) (opens ∙ ap (λ (u : List ℕ). 60 ∷ 60 ∷ u) h)) in
    on_cond (AllSome (IsPathText (text ++ back))) (is_label cut.0) (owned (ByLabel cut.0) (labelled_slot (parts_of cut.1))) None
    (λ label. elim (labelled_slot (parts_of cut.1)) as (λ o. AllSome (λ s. ArePartsOf (parts_of cut.1) (Sign sign.Dot ∷ slot_lexemes s)) o → AllSome (IsPathText (text ++ back)) (owned (ByLabel cut.0) o)) [
      | None ↦ λ k. tt
      | Some s ↦ λ k. subst (λ u. IsPathText u (record { owner = ByLabel cut.0; slot = s })) whole (label_text cut.0 cut.1 back s label blank k)
    ] (labelled_parts (parts_of cut.1)))
    (λ _. tt)

plain_text : (text back : List ℕ) → AreBlanks back → AllSome (IsPathText (text ++ back)) (plain_path (parts_of text))
plain_text text back blank =
    elim (plain_path (parts_of text)) as (λ o. AllSome (ArePath (parts_of text)) o → AllSome (IsPathText (text ++ back)) o)
    [ None ↦ λ h. tt | Some p ↦ λ h. (h.0, lexes_text_of text back h.0 h.1 blank, h.2) ] (plain_parts (parts_of text))

path_text_found : (text back : List ℕ) → AreBlanks back → AllSome (IsPathText (text ++ back)) (path_behind (opened text) text)
path_text_found text back blank =
    elim (opened text) as (λ o. AllSome (λ rest. text ≡ 60 ∷ 60 ∷ rest) o → AllSome (IsPathText (text ++ back)) (path_behind o text))
    [ None ↦ λ h. plain_text text back blank | Some rest ↦ λ h. labelled_text text rest back (until_closing rest) blank h (closing-found rest) ] (opened-found text)

path_lexes : (text : List ℕ) → AllSome (IsPathText text) (path_of text)
unfolding path_of
path_lexes text =
    let pad = padded text in
    elim (path_behind (opened (trimmed text)) (trimmed text)) as (λ o. AllSome (IsPathText (trimmed text ++ pad.back)) o → AllSome (IsPathText text) o) [
      | None ↦ λ h. tt
      | Some p ↦ λ h. (h.0, subst (λ t. Lexes t h.0) (sym pad.whole) (lexes_blanks pad.front (trimmed text ++ pad.back) pad.blank_front h.1), h.2)
    ] (path_text_found (trimmed text) pad.back pad.blank_back)

-- what is read as a path has the tokens of the path
pub path_has_tokens : (text : List ℕ) (p : Path) → path_of text ≡ Some p → HasPathTokens text p
path_has_tokens text p e =
    let found : IsPathText text p = subst (AllSome (IsPathText text)) e (path_lexes text) in
    let told = placed_from found.1 0 in
    record { lexemes = told.placed; spelled = told.lexed; path = subst (λ ls. IsPathOf (kinds false ls) p) (sym told.lexemes) found.2 }
