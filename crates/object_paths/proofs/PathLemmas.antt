-- A written path is read as itself.
use Rattle.std.proofs.Common.{◌≡◌, ◌≢◌, ℕ, ◌+◌, ◌-◌, ◌/◌, ◌%◌, ◌<◌, ◌≤◌, List, [], ◌∷◌, ◌++◌, Bool, true, false, cond, not, ◌&&◌, ◌||◌, ◌==◌, nat_le, length, get_or, map, reverse, Some, None, refl, sym, ap, subst, ◌∙◌, ⊎_elim, arith}
use Rattle.std.specs.List.{list_all, All, Contains}
use Rattle.std.specs.Prelude.{codes, if◌then◌else◌}
use Rattle.std.specs.Fmt.{decimal}
use Rattle.std.specs.Str.Parse.{AllDigits}
use Rattle.std.proofs.lemmas.Fmt.{decimal_is_IsNumeral}
use Rattle.std.proofs.lemmas.Str.Parse.{digit_from_value}
use Rattle.std.proofs.lemmas.List.Folds.{list_all-append}
use Rattle.std.specs.Option.{option_and_then}
use Rattle.std.proofs.lemmas.Bool.{and_parts, and_from, or_from, and_right, cond_both, leb-false, false_from_ne_true, or_cases, or_parts, not-true, not-false, not_from_false, eqb-true, ne_eqb, false≢true, both_ways, true_from_ne_false}
use Rattle.std.proofs.lemmas.List.{get_or-reverse, get_or_at, get_or-append-add, length-append, reverse-reverse, append_assoc}
use Rattle.std.proofs.lemmas.List.Splits.{slice_split_none, slice_split_at}
use Rattle.std.proofs.lemmas.List.Sums.{AllPass-from_list_all, list_all-from_AllPass}
use Rattle.fc_base.specs.Texts.{is_name, is_name_byte, is_label, has_closing_mark, ends_in_mark}
use Rattle.fc_base.specs.Places.{Place, IsPlace, mark_text, column_text, address_text}
use Rattle.fc_base.proofs.NameLemmas.{is_name-bytes, is_name-length, is_name-lacks}
use Rattle.fc_base.proofs.AddressLemmas.{address_of-address_text}
use Rattle.object_paths.specs.PathTexts.{component_text, slot_text, is_word, needs_dot, owner_text, path_text}
use Rattle.object_paths.specs.Paths.{IsSlotName, IsOwner, IsPath}
use Rattle.object_paths.specs.declared.slot_name.Component as c
use Rattle.object_paths.specs.declared.slot_name.Component.TheVariants.{X, Y, Z, Turn}
use Rattle.object_paths.specs.declared.slot_name.SlotName.{SlotName}
use Rattle.object_paths.specs.declared.slot_name.SlotName.TheVariants.{Plain, Component, Marked}
use Rattle.object_paths.specs.declared.path.Owner.{Owner}
use Rattle.object_paths.specs.declared.path.Owner.TheVariants.{Here, ByName, ByLabel}
use Rattle.object_paths.specs.declared.path.Path.{Path}
use Rattle.object_paths.specs.PathParts.{is_blank, after_blanks, trimmed, parts_of, single_slot, slot_of, owned, fronted_path, plain_path, until_closing, labelled_slot, labelled_path, opened, path_behind, path_of}

-- a byte that ends no part: no dot, no blank and no `<`
abbrev is_plain : ℕ → Bool
is_plain b = not ((b == 46) || is_blank b || (b == 60))

abbrev IsPlain : List ℕ → Type 0
IsPlain text = list_all is_plain text ≡ true

plain_parts : (b : ℕ) → is_plain b ≡ true → ((b == 46) ≡ false) × (is_blank b ≡ false) × ((b == 60) ≡ false)
plain_parts b h =
    let outer = or_parts ((b == 46) || is_blank b) (b == 60) (not-true _ h) in
    let inner = or_parts (b == 46) (is_blank b) outer.0 in
    (inner.0, inner.1, outer.1)

plain_at : (text : List ℕ) → IsPlain text → (k : ℕ) → k < length text → is_plain (get_or text k 0) ≡ true
plain_at text plain k within = AllPass-from_list_all is_plain text plain k 0 within

-- every byte of a name is plain
name_byte_plain : (b : ℕ) → is_name_byte b ≡ true → is_plain b ≡ true
name_byte_plain b h = true_from_ne_false _ (λ e. ⊎_elim
    (λ f. ⊎_elim (λ dot. clash 46 dot refl) (λ blank. ⊎_elim (λ space. clash 32 space refl) (λ tab. clash 9 tab refl) (or_cases (b == 32) (b == 9) blank)) (or_cases (b == 46) (is_blank b) f))
    (λ angle. clash 60 angle refl) (or_cases ((b == 46) || is_blank b) (b == 60) (not-false _ e)))
  where
    clash : (d : ℕ) → (b == d) ≡ true → is_name_byte d ≡ false → ⊥
    clash d same none = both_ways _ none (subst (λ (x : ℕ). is_name_byte x ≡ true) (eqb-true b d same) h)

name_plain : (text : List ℕ) → is_name text ≡ true → IsPlain text
name_plain text name = list_all-from_AllPass is_plain text (λ k d within. name_byte_plain (get_or text k d) (is_name-bytes text name k d within))

-- no blank anywhere
abbrev NoBlank : List ℕ → Type 0
NoBlank text = list_all (λ b. not (is_blank b)) text ≡ true

none_at : (text : List ℕ) → NoBlank text → (k : ℕ) → k < length text → is_blank (get_or text k 0) ≡ false
none_at text none k within = not-true _ (AllPass-from_list_all (λ b. not (is_blank b)) text none k 0 within)

plain_none : (text : List ℕ) → IsPlain text → NoBlank text
plain_none text plain = list_all-from_AllPass (λ b. not (is_blank b)) text (λ k d within. not_from_false _ (plain_parts (get_or text k d) (AllPass-from_list_all is_plain text plain k d within)).1)

none_append : (xs ys : List ℕ) → NoBlank xs → NoBlank ys → NoBlank (xs ++ ys)
none_append xs ys none more = list_all-append (λ b. not (is_blank b)) xs ys ∙ and_from _ _ none more

-- no blank in front
abbrev NoBlankFirst : List ℕ → Type 0
NoBlankFirst text = is_blank (get_or text 0 0) ≡ false

after_blanks-first : (text : List ℕ) → NoBlankFirst text → after_blanks text ≡ text
after_blanks-first [] h = refl
after_blanks-first (c ∷ rest) h = rw h

-- a text that ends in a plain part, and has no blank in front, is trimmed already
trimmed-ends : (front part : List ℕ) → NoBlankFirst (front ++ part) → 0 < length part → NoBlank part → trimmed (front ++ part) ≡ front ++ part
trimmed-ends front part first some none =
    let whole : ℕ = length (front ++ part) in
    let size : length (front ++ part) ≡ length front + length part = length-append front part in
    let last : get_or (reverse (front ++ part)) 0 0 ≡ get_or (front ++ part) (length (front ++ part) - 1 - 0) 0 = get_or-reverse (front ++ part) 0 0 (omega (arith, size)) in
    let index : length (front ++ part) - 1 - 0 ≡ length front + (length part - 1) = omega (arith, size) in
    let here : get_or (front ++ part) (length front + (length part - 1)) 0 ≡ get_or part (length part - 1) 0 = get_or-append-add front part (length part - 1) 0 in
    let no_blank : NoBlankFirst (reverse (front ++ part)) =
    ap is_blank (last ∙ ap (λ k. get_or (front ++ part) k 0) index ∙ here) ∙ none_at part none (length part - 1) (omega arith) in
    ap (λ t. reverse (after_blanks (reverse t))) (after_blanks-first (front ++ part) first)
    ∙ ap reverse (after_blanks-first (reverse (front ++ part)) no_blank)
    ∙ reverse-reverse (front ++ part)

trimmed-plain : (part : List ℕ) → IsPlain part → trimmed part ≡ part
trimmed-plain [] plain = refl
trimmed-plain (b ∷ bs) plain =
    trimmed-ends [] (b ∷ bs) (plain_parts b (plain_at (b ∷ bs) plain 0 (omega arith))).1 (omega arith) (plain_none (b ∷ bs) plain)

no_dots : (part : List ℕ) → IsPlain part → All (λ c. (c == 46) ≡ false) part
no_dots part plain = λ k d within. (plain_parts (get_or part k d) (AllPass-from_list_all is_plain part plain k d within)).0

-- one part, and a part before a dot
parts_one : (part : List ℕ) → IsPlain part → parts_of part ≡ part ∷ []
parts_one part plain =
    ap (map trimmed) (slice_split_none (λ c. c == 46) part (no_dots part plain)) ∙ ap (λ t. t ∷ []) (trimmed-plain part plain)

parts_more : (part rest : List ℕ) → IsPlain part → parts_of (part ++ 46 ∷ rest) ≡ part ∷ parts_of rest
parts_more part rest plain =
    ap (map trimmed) (slice_split_at (λ c. c == 46) part 46 rest (no_dots part plain) refl) ∙ ap (λ t. t ∷ parts_of rest) (trimmed-plain part plain)

-- ---- the spellings of names, components and addresses

plain_from : (b : ℕ) → 48 ≤ b → b ≢ 60 → is_plain b ≡ true
plain_from b low other =
    not_from_false _ (or_from ((b == 46) || is_blank b) (b == 60)
    (or_from (b == 46) (is_blank b) (ne_eqb b 46 (λ e. omega arith)) (or_from (b == 32) (b == 9) (ne_eqb b 32 (λ e. omega arith)) (ne_eqb b 9 (λ e. omega arith))))
    (ne_eqb b 60 other))

plain_append : (xs ys : List ℕ) → IsPlain xs → IsPlain ys → IsPlain (xs ++ ys)
plain_append xs ys plain more = list_all-append is_plain xs ys ∙ and_from _ _ plain more

digits_plain : (ds : List ℕ) → AllDigits 10 ds → IsPlain ds
digits_plain [] h = refl
digits_plain (d ∷ ds) h =
    let range : (48 ≤ d) × (d ≤ 57) = digit_from_value d h.0 in
    and_from (is_plain d) (list_all is_plain ds) (plain_from d range.0 (λ e. omega arith)) (digits_plain ds h.1)

mark_plain : (marked : Bool) → IsPlain (mark_text marked)
mark_plain true = refl
mark_plain false = refl

column_plain : (column : ℕ) → 1 ≤ column → column ≤ 702 → IsPlain (column_text column)
column_plain column low high =
    cond_both (nat_le column 26) ((column + 64) ∷ []) (((column - 1) / 26 + 64) ∷ ((column - 1) % 26 + 65) ∷ []) IsPlain
    (λ e. and_from (is_plain (column + 64)) true (plain_from (column + 64) (omega arith) (λ f. omega arith)) refl)
    (λ e. let large : 26 < column = leb-false column 26 e in
    and_from (is_plain ((column - 1) / 26 + 64)) _ (plain_from ((column - 1) / 26 + 64) (omega arith) (λ f. omega arith))
    (and_from (is_plain ((column - 1) % 26 + 65)) true (plain_from ((column - 1) % 26 + 65) (omega arith) (λ f. omega arith)) refl))

address_plain : (p : Place) → IsPlace p → IsPlain (address_text p)
unfolding address_text
address_plain p place =
    plain_append (mark_text p.fixed_column) _ (mark_plain p.fixed_column)
    (plain_append (column_text p.column) _ (column_plain p.column place.column_low place.column_high)
    (plain_append (mark_text p.fixed_row) (decimal p.row) (mark_plain p.fixed_row) (digits_plain (decimal p.row) (decimal_is_IsNumeral p.row (omega (arith, place.row_high))).0.1)))

mark_in : (m n : Bool) (column digits : List ℕ) → (m || n) ≡ true → Contains (mark_text m ++ (column ++ (mark_text n ++ digits))) 36
mark_in true n column digits h = (0, omega arith, refl)
mark_in false true column digits h = (length column, omega (arith, length-append column (36 ∷ digits)), get_or_at column 36 digits 36 (length column) refl)
mark_in false false column digits h = absurd (false≢true h)

marked_not_name : (p : Place) → (p.fixed_column || p.fixed_row) ≡ true → is_name (address_text p) ≡ false
unfolding address_text
marked_not_name p marked =
    false_from_ne_true _ (λ name. is_name-lacks _ 36 name refl (mark_in p.fixed_column p.fixed_row (column_text p.column) (decimal p.row) marked))

-- the parts of a slot's own name
abbrev component_parts : c.Component → List (List ℕ)
component_parts X = codes "Base" ∷ codes "x" ∷ []
component_parts Y = codes "Base" ∷ codes "y" ∷ []
component_parts Z = codes "Base" ∷ codes "z" ∷ []
component_parts Turn = codes "Rotation" ∷ codes "Turn" ∷ []

abbrev slot_parts : SlotName → List (List ℕ)
slot_parts (Plain name) = name ∷ []
slot_parts (Component name part) = name ∷ component_parts part
slot_parts (Marked p) = address_text p ∷ []

parts_component : (part : c.Component) → parts_of (component_text part) ≡ component_parts part
parts_component X = refl
parts_component Y = refl
parts_component Z = refl
parts_component Turn = refl

parts_slot : (s : SlotName) → IsSlotName s → parts_of (slot_text s) ≡ slot_parts s
parts_slot (Plain name) h = parts_one name (name_plain name h)
parts_slot (Component name part) h = parts_more name (component_text part) (name_plain name h) ∙ ap (λ ps. name ∷ ps) (parts_component part)
parts_slot (Marked p) h = parts_one (address_text p) (address_plain p h.0)

component_slot-parts : (name : List ℕ) (part : c.Component) → is_name name ≡ true → slot_of (name ∷ component_parts part) ≡ Some (Component name part)
component_slot-parts name X h = rw h
component_slot-parts name Y h = rw h
component_slot-parts name Z h = rw h
component_slot-parts name Turn h = rw h

single_slot-name : (name : List ℕ) → is_name name ≡ true → single_slot name ≡ Some (Plain name)
single_slot-name name h = rw h

single_slot-marked : (p : Place) → IsPlace p → (p.fixed_column || p.fixed_row) ≡ true → single_slot (address_text p) ≡ Some (Marked p)
single_slot-marked p place marked = rw (marked_not_name p marked, address_of-address_text p place, marked)

slot_of-parts : (s : SlotName) → IsSlotName s → slot_of (slot_parts s) ≡ Some s
slot_of-parts (Plain name) h = single_slot-name name h
slot_of-parts (Component name part) h = component_slot-parts name part h
slot_of-parts (Marked p) h = single_slot-marked p h.0 h.1

-- ---- the whole spelling

component_none : (part : c.Component) → NoBlank (46 ∷ component_text part)
component_none X = refl
component_none Y = refl
component_none Z = refl
component_none Turn = refl

slot_none : (s : SlotName) → IsSlotName s → NoBlank (slot_text s)
slot_none (Plain name) h = plain_none name (name_plain name h)
slot_none (Component name part) h = none_append name (46 ∷ component_text part) (plain_none name (name_plain name h)) (component_none part)
slot_none (Marked p) h = plain_none (address_text p) (address_plain p h.0)

address_some : (p : Place) → (p.fixed_column || p.fixed_row) ≡ true → 0 < length (address_text p)
unfolding address_text
address_some p marked =
    let mark = mark_in p.fixed_column p.fixed_row (column_text p.column) (decimal p.row) marked in
    omega (arith, mark.1)

slot_some : (s : SlotName) → IsSlotName s → 0 < length (slot_text s)
slot_some (Plain name) h = is_name-length name h
slot_some (Component name part) h = omega (arith, is_name-length name h, length-append name (46 ∷ component_text part))
slot_some (Marked p) h = address_some p h.1

none_first : (text : List ℕ) → NoBlank text → NoBlankFirst text
none_first [] none = refl
none_first (b ∷ bs) none = none_at (b ∷ bs) none 0 (omega arith)

-- no `<` in front
abbrev NoAngle : List ℕ → Type 0
NoAngle text = (get_or text 0 0 == 60) ≡ false

opened-none_first : (text : List ℕ) → NoAngle text → opened text ≡ None
opened-none_first [] h = refl
opened-none_first (a ∷ []) h = refl
opened-none_first (a ∷ b ∷ rest) h = rw h

name_angle : (name rest : List ℕ) → is_name name ≡ true → NoAngle (name ++ rest)
name_angle [] rest h = absurd (omega (arith, is_name-length [] h))
name_angle (b ∷ bs) rest h = (plain_parts b (plain_at (b ∷ bs) (name_plain (b ∷ bs) h) 0 (omega arith))).2

plain_angle : (text : List ℕ) → IsPlain text → NoAngle text
plain_angle [] plain = refl
plain_angle (b ∷ bs) plain = (plain_parts b (plain_at (b ∷ bs) plain 0 (omega arith))).2

slot_angle : (s : SlotName) → IsSlotName s → NoAngle (slot_text s)
slot_angle (Plain name) h = plain_angle name (name_plain name h)
slot_angle (Component name part) h = name_angle name (46 ∷ component_text part) h
slot_angle (Marked p) h = plain_angle (address_text p) (address_plain p h.0)

fronted_named : (name : List ℕ) (parts : List (List ℕ)) → is_name name ≡ true → fronted_path name parts ≡ owned (ByName name) (slot_of parts)
fronted_named [] parts h = absurd (omega (arith, is_name-length [] h))
fronted_named (b ∷ bs) parts h = rw h

lone : (text : List ℕ) {s : SlotName} → is_word text ≡ false → single_slot text ≡ Some s → plain_path (text ∷ []) ≡ Some (record { owner = Here; slot = s })
lone text {s} word slot = ap (λ b. cond (b && is_name text) None (owned Here (single_slot text))) word ∙ ap (owned Here) slot

not_lone : (text : List ℕ) → is_name text ≡ false → plain_path (text ∷ []) ≡ owned Here (single_slot text)
not_lone text other = ap (λ b. cond b None (owned Here (single_slot text))) (and_right (is_word text) (is_name text) other)

by_component : (name : List ℕ) (part : c.Component) → is_name name ≡ true → plain_path (name ∷ component_parts part) ≡ Some (record { owner = Here; slot = Component name part })
by_component name X h = ap (owned Here) (component_slot-parts name X h)
by_component name Y h = ap (owned Here) (component_slot-parts name Y h)
by_component name Z h = ap (owned Here) (component_slot-parts name Z h)
by_component name Turn h = ap (owned Here) (component_slot-parts name Turn h)

named_parts : (name : List ℕ) (s : SlotName) → is_name name ≡ true → plain_path (name ∷ slot_parts s) ≡ owned (ByName name) (slot_of (slot_parts s))
named_parts name (Plain slot) n = fronted_named name (slot ∷ []) n
named_parts name (Component slot X) n = fronted_named name (slot ∷ component_parts X) n
named_parts name (Component slot Y) n = fronted_named name (slot ∷ component_parts Y) n
named_parts name (Component slot Z) n = fronted_named name (slot ∷ component_parts Z) n
named_parts name (Component slot Turn) n = fronted_named name (slot ∷ component_parts Turn) n
named_parts name (Marked p) n = fronted_named name (address_text p ∷ []) n

-- the parts of a path of the object itself, with a dot in front where it needs one
here_path : (s : SlotName) → IsSlotName s → plain_path (parts_of (owner_text Here s ++ slot_text s)) ≡ Some (record { owner = Here; slot = s })
here_path (Plain name) h =
    elim (is_word name) as (λ b. is_word name ≡ b → plain_path (parts_of (cond b (46 ∷ []) [] ++ name)) ≡ Some (record { owner = Here; slot = Plain name })) [
      | true ↦ λ _. ap plain_path (parts_more [] name refl ∙ ap (λ ps. [] ∷ ps) (parts_one name (name_plain name h))) ∙ ap (owned Here) (single_slot-name name h)
      | false ↦ λ e. ap plain_path (parts_one name (name_plain name h)) ∙ lone name e (single_slot-name name h)
    ] refl
here_path (Component name part) h = ap plain_path (parts_slot (Component name part) h) ∙ by_component name part h
here_path (Marked p) h =
    ap plain_path (parts_one (address_text p) (address_plain p h.0)) ∙ not_lone (address_text p) (marked_not_name p h.1) ∙ ap (owned Here) (single_slot-marked p h.0 h.1)

named_path-spelled : (name : List ℕ) (s : SlotName) → is_name name ≡ true → IsSlotName s → plain_path (parts_of (owner_text (ByName name) s ++ slot_text s)) ≡ Some (record { owner = ByName name; slot = s })
named_path-spelled name s n h =
    ap (λ t. plain_path (parts_of t)) (append_assoc name (46 ∷ []) (slot_text s))
    ∙ ap plain_path (parts_more name (slot_text s) (name_plain name n) ∙ ap (λ ps. name ∷ ps) (parts_slot s h))
    ∙ named_parts name s n
    ∙ ap (owned (ByName name)) (slot_of-parts s h)

-- a label ends where its closing marks begin
until_closing-label : (label rest : List ℕ) → has_closing_mark label ≡ false → ends_in_mark label ≡ false → until_closing (label ++ 62 ∷ 62 ∷ rest) ≡ Some (label, rest)
until_closing-label [] rest closing ends = refl
until_closing-label (a ∷ []) rest closing ends = rw ends
until_closing-label (a ∷ b ∷ more) rest closing ends =
    let parts = or_parts ((a == 62) && (b == 62)) (has_closing_mark (b ∷ more)) closing in
    rw (parts.0, until_closing-label (b ∷ more) rest parts.1 ends)

label_closing : (label : List ℕ) → is_label label ≡ true → has_closing_mark label ≡ false
label_closing label h = not-true _ (and_parts _ _ (and_parts _ _ (and_parts _ _ h).0).0).1

label_end : (label : List ℕ) → is_label label ≡ true → ends_in_mark label ≡ false
label_end label h = not-true _ (and_parts _ _ h).1

labelled-parts : (label : List ℕ) (s : SlotName) → is_label label ≡ true → IsSlotName s → labelled_path (label, 46 ∷ slot_text s) ≡ Some (record { owner = ByLabel label; slot = s })
labelled-parts label s l h =
    ap (λ b. cond b (owned (ByLabel label) (labelled_slot (parts_of (46 ∷ slot_text s)))) None) l
    ∙ ap (λ ps. owned (ByLabel label) (labelled_slot ps)) (parts_more [] (slot_text s) refl ∙ ap (λ ps. [] ∷ ps) (parts_slot s h))
    ∙ ap (owned (ByLabel label)) (slot_of-parts s h)

label_path : (label : List ℕ) (s : SlotName) → is_label label ≡ true → IsSlotName s
    → option_and_then labelled_path (until_closing ((label ++ 62 ∷ 62 ∷ 46 ∷ []) ++ slot_text s)) ≡ Some (record { owner = ByLabel label; slot = s })
label_path label s l h =
    ap (λ t. option_and_then labelled_path (until_closing t)) (append_assoc label (62 ∷ 62 ∷ 46 ∷ []) (slot_text s))
    ∙ ap (option_and_then labelled_path) (until_closing-label label (46 ∷ slot_text s) (label_closing label l) (label_end label l))
    ∙ labelled-parts label s l h

-- a path without a label in front
plain_read : (o : Owner) (s : SlotName) → NoAngle (owner_text o s ++ slot_text s) → plain_path (parts_of (owner_text o s ++ slot_text s)) ≡ Some (record { owner = o; slot = s })
    → path_behind (opened (owner_text o s ++ slot_text s)) (owner_text o s ++ slot_text s) ≡ Some (record { owner = o; slot = s })
plain_read o s angle parts =
    ap (λ front. path_behind front (owner_text o s ++ slot_text s)) (opened-none_first (owner_text o s ++ slot_text s) angle) ∙ parts

dot_none : (b : Bool) → NoBlank (if b then 46 ∷ [] else [])
dot_none true = refl
dot_none false = refl

dot_angle : (b : Bool) (text : List ℕ) → NoAngle text → NoAngle ((if b then 46 ∷ [] else []) ++ text)
dot_angle true text h = refl
dot_angle false text h = h

-- no blank in front of a spelled path
first_blank : (o : Owner) (s : SlotName) → IsOwner o → IsSlotName s → NoBlankFirst (owner_text o s ++ slot_text s)
first_blank Here s o h = none_first (owner_text Here s ++ slot_text s) (none_append (owner_text Here s) (slot_text s) (dot_none (needs_dot s)) (slot_none s h))
first_blank (ByName name) s o h =
    none_first ((name ++ 46 ∷ []) ++ slot_text s) (none_append (name ++ 46 ∷ []) (slot_text s) (none_append name (46 ∷ []) (plain_none name (name_plain name o)) refl) (slot_none s h))
first_blank (ByLabel label) s o h = refl

trimmed_read : (o : Owner) (s : SlotName) → IsOwner o → IsSlotName s → path_behind (opened (owner_text o s ++ slot_text s)) (owner_text o s ++ slot_text s) ≡ Some (record { owner = o; slot = s })
trimmed_read Here s o h = plain_read Here s (dot_angle (needs_dot s) (slot_text s) (slot_angle s h)) (here_path s h)
trimmed_read (ByName name) s o h =
    plain_read (ByName name) s (subst NoAngle (sym (append_assoc name (46 ∷ []) (slot_text s))) (name_angle name (46 ∷ slot_text s) o)) (named_path-spelled name s o h)
trimmed_read (ByLabel label) s o h = label_path label s o h

-- a written path reads as itself
pub path_of-path_text : (p : Path) → IsPath p → path_of (path_text p) ≡ Some p
unfolding path_of path_text
path_of-path_text p h =
    ap (λ t. path_behind (opened t) t) (trimmed-ends (owner_text p.owner p.slot) (slot_text p.slot) (first_blank p.owner p.slot h.owner h.slot) (slot_some p.slot h.slot) (slot_none p.slot h.slot))
    ∙ trimmed_read p.owner p.slot h.owner h.slot
