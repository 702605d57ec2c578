-- The document that is found is the one whose text the bytes are, and that document is found.
use Rattle.std.proofs.Common.{◌≡◌, ◌⊎◌, inl, inr, ℕ, zero, suc, ◌+◌, ◌<◌, ◌≤◌, ◌^◌, Bool, true, false, cond, ◌&&◌, ◌||◌, eqb, leb, List, [], ◌∷◌, ◌++◌, length, map, codes, Option, None, Some, Result, Err, refl, sym, ap, ◌∙◌, subst, append_assoc, arith}
use Rattle.std.specs.Prelude.{sum_by}
use Rattle.std.specs.Fmt.{decimal}
use Rattle.std.specs.List.{flat_map, list_all, AllByRecursion}
use Rattle.std.specs.Option.{option_map}
use Rattle.std.specs.Str.{bytes_eq}
use Rattle.std.proofs.lemmas.Bool.{eqb-true, leb-true}
use Rattle.std.proofs.lemmas.List.{nil_from_length, length-map}
use Rattle.std.proofs.lemmas.List.Sums.{sum_by-cons}
use Rattle.std.proofs.lemmas.Option.{cond_some}
use Rattle.std.proofs.lemmas.Slice.Eq.{bytes_eq-Decides}
use Rattle.fc_base.specs.Texts.{is_name}
use Rattle.property_types.specs.Reserved.{are_distinct}
use Rattle.document_model.specs.Document.{Document}
use Rattle.fcdoc_file.specs.declared.fault.FormFault.{FormFault}
use Rattle.fcdoc_file.specs.declared.fault.FormFault.TheVariants.{NotBuilt, Memory}
use Rattle.fcdoc_file.proofs.ReadingLemmas.{Fails}
use Rattle.fcxml_profile.specs.Fronts.{◌>>=◌, after, split_at}
use Rattle.fcxml_profile.proofs.FrontLemmas.{after-append, after_some}
use Rattle.fcdoc_file.specs.Cursor.{quoted, numeral, each, numbers}
use Rattle.fcdoc_file.specs.FirstForm.{FirstObject, names_text, object_text, content_text, document_start, first_text, empty_text, has_own_names, is_within_limits, stands_together, IsFirstObject, IsFirstForm}
use Rattle.fcdoc_file.specs.FirstDocument.{first_document, ReadsFirst}
use Rattle.fcdoc_file.specs.Reading.{quoted_at, name_at, count_at, known_at, declared_at, names_at, object_at, content_at, first_form_of, document_of}
use Rattle.fcdoc_file.proofs.CursorLemmas.{both_tests}
use Rattle.fcdoc_file.proofs.FieldLaws.{then_some, goes, some_is, known_at-append, known_at_some, name_at-append, name_at_some, count_at-append, count_at_some}
use Rattle.fcdoc_file.proofs.ObjectLaws.{IsCounted, name_of, objects-append, objects_some}

-- the literals
abbrev pub declared_mark : List ℕ
declared_mark = codes "<Object type=\"App::VarSet\" name=\""

abbrev pub id_mark : List ℕ
id_mark = codes " id=\""

abbrev pub row_end : List ℕ
row_end = codes "/>\n"

abbrev pub start_mark : List ℕ
start_mark = codes "<?xml version='1.0' encoding='utf-8'?>\n<Document SchemaVersion=\"4\">\n<Objects Count=\""

abbrev pub opened_line : List ℕ
opened_line = codes ">\n"

abbrev pub data_mark : List ℕ
data_mark = codes "</Objects>\n<ObjectData Count=\""

abbrev pub content_end : List ℕ
content_end = codes "</ObjectData>\n</Document>\n"

-- ---- the list of names

abbrev IsNames : List (List ℕ) → Type 0
IsNames names = AllByRecursion (λ n. is_name n ≡ true) names

-- a name with its number, and what follows
abbrev pub declared_text : List ℕ → ℕ → List ℕ → List ℕ
declared_text name number rest = declared_mark ++ (name ++ 34 ∷ (id_mark ++ (decimal number ++ 34 ∷ (row_end ++ rest))))

declared_at-append : (name : List ℕ) (number : ℕ) (rest : List ℕ) → is_name name ≡ true → declared_at number (declared_text name number rest) ≡ Some (name, rest)
unfolding declared_at
declared_at-append name number rest is =
    let t2 : List ℕ = row_end ++ rest in
    let t1 : List ℕ = id_mark ++ (decimal number ++ 34 ∷ t2) in
    goes (name_at declared_mark (declared_mark ++ (name ++ 34 ∷ t1))) _ (name, t1) _ (name_at-append declared_mark name t1 is)
    (goes (known_at id_mark (decimal number) t1) _ t2 _ (known_at-append id_mark (decimal number) t2) (goes (after row_end t2) _ rest _ (after-append row_end rest) refl))

declared_at_some : (number : ℕ) (text : List ℕ) (x : List ℕ × List ℕ) → declared_at number text ≡ Some x → (text ≡ declared_text x.0 number x.1) × (is_name x.0 ≡ true)
unfolding declared_at
declared_at_some number text x e =
    let name = then_some (name_at declared_mark text) _ x e in
    let numbered = then_some (known_at id_mark (decimal number) name.0.1) _ x name.2 in
    let rest = then_some (after row_end numbered.0) _ x numbered.2 in
    let named = name_at_some declared_mark text name.0 name.1 in
    let stands : text ≡ declared_text name.0.0 number rest.0 =
    named.0 ∙ ap (λ t. declared_mark ++ (name.0.0 ++ 34 ∷ t)) (known_at_some id_mark (decimal number) name.0.1 numbered.0 numbered.1
    ∙ ap (λ t. id_mark ++ (decimal number ++ 34 ∷ t)) (after_some row_end numbered.0 rest.0 rest.1)) in
    subst (λ (y : List ℕ × List ℕ). (text ≡ declared_text y.0 number y.1) × (is_name y.0 ≡ true)) (some_is (name.0.0, rest.0) x rest.2) (stands, named.1)

regroup_row : (a n b d c ns rest : List ℕ) → (a ++ (n ++ 34 ∷ (b ++ (d ++ 34 ∷ (c ++ ns))))) ++ rest ≡ a ++ (n ++ 34 ∷ (b ++ (d ++ 34 ∷ (c ++ (ns ++ rest)))))
regroup_row a n b d c ns rest = simp append_assoc

pub names_grouped : (name : List ℕ) (number : ℕ) (names : List (List ℕ)) (rest : List ℕ)
    → names_text number (name ∷ names) ++ rest ≡ declared_text name number (names_text (number + 1) names ++ rest)
names_grouped name number names rest = regroup_row declared_mark name id_mark (decimal number) row_end (names_text (number + 1) names) rest

list-append : (first : ℕ) (names : List (List ℕ)) (rest : List ℕ) → IsNames names → each declared_at (numbers first (length names)) (names_text first names ++ rest) ≡ Some (names, rest)
unfolding each
list-append first [] rest all = refl
list-append first (name ∷ names) rest all =
    let tail : List ℕ = names_text (first + 1) names ++ rest in
    ap (each declared_at (first ∷ numbers (first + 1) (length names))) (names_grouped name first names rest)
    ∙ goes (declared_at first (declared_text name first tail)) _ (name, tail) _ (declared_at-append name first tail all.0)
    (goes (each declared_at (numbers (first + 1) (length names)) tail) _ (names, rest) _ (list-append (first + 1) names rest all.1) refl)

-- the names stand at the front, numbered, and there are so many
record HasList (first n : ℕ) (text : List ℕ) (x : List (List ℕ) × List ℕ) : Type 0 where
  pub stands : text ≡ names_text first x.0 ++ x.1
  pub count : length x.0 ≡ n
  pub all : IsNames x.0

list_some : (first n : ℕ) (text : List ℕ) (x : List (List ℕ) × List ℕ) → each declared_at (numbers first n) text ≡ Some x → HasList first n text x
unfolding each
list_some first zero text x e = subst (HasList first 0 text) (some_is ([], text) x e) (record { stands = refl; count = refl; all = tt })
list_some first (suc n) text x e =
    let name = then_some (declared_at first text) _ x e in
    let more = then_some (each declared_at (numbers (first + 1) n) name.0.1) _ x name.2 in
    let front = declared_at_some first text name.0 name.1 in
    let tail = list_some (first + 1) n name.0.1 more.0 more.1 in
    let stands : text ≡ names_text first (name.0.0 ∷ more.0.0) ++ more.0.1 =
    front.0 ∙ ap (declared_text name.0.0 first) tail.stands ∙ sym (names_grouped name.0.0 first more.0.0 more.0.1) in
    subst (HasList first (suc n) text) (some_is (name.0.0 ∷ more.0.0, more.0.1) x more.2) (record { stands = stands; count = ap suc tail.count; all = (front.1, tail.all) })

-- ---- what stands before the data

abbrev pub head_text : ℕ → List (List ℕ) → List ℕ → List ℕ
head_text n names rest =
    start_mark ++ (decimal n ++ 34 ∷ (opened_line ++ (names_text 1 names ++ (data_mark ++ (decimal n ++ 34 ∷ (opened_line ++ rest))))))

names_at-append : (names : List (List ℕ)) (rest : List ℕ) → IsNames names → 0 < length names → length names < 2 ^ 32 → names_at (head_text (length names) names rest) ≡ Some (names, rest)
unfolding names_at
names_at-append names rest all some small =
    let n : ℕ = length names in
    let t4 : List ℕ = opened_line ++ rest in
    let t3 : List ℕ = data_mark ++ (decimal n ++ 34 ∷ t4) in
    let t2 : List ℕ = names_text 1 names ++ t3 in
    let t1 : List ℕ = opened_line ++ t2 in
    goes (count_at start_mark (start_mark ++ (decimal n ++ 34 ∷ t1))) _ (n, t1) _ (count_at-append start_mark n t1 some small)
    (goes (after opened_line t1) _ t2 _ (after-append opened_line t2)
    (goes (each declared_at (numbers 1 n) t2) _ (names, t3) _ (list-append 1 names t3 all)
    (goes (known_at data_mark (decimal n) t3) _ t4 _ (known_at-append data_mark (decimal n) t4)
    (goes (after opened_line t4) _ rest _ (after-append opened_line rest) refl))))

record HasNames (text : List ℕ) (x : List (List ℕ) × List ℕ) : Type 0 where
  pub stands : text ≡ head_text (length x.0) x.0 x.1
  pub some : 0 < length x.0
  pub all : IsNames x.0

names_at_some : (text : List ℕ) (x : List (List ℕ) × List ℕ) → names_at text ≡ Some x → HasNames text x
unfolding names_at
names_at_some text x e =
    let count = then_some (count_at start_mark text) _ x e in
    let opened = then_some (after opened_line count.0.1) _ x count.2 in
    let names = then_some (each declared_at (numbers 1 count.0.0) opened.0) _ x opened.2 in
    let counted = then_some (known_at data_mark (decimal count.0.0) names.0.1) _ x names.2 in
    let rest = then_some (after opened_line counted.0) _ x counted.2 in
    let number = count_at_some start_mark text count.0 count.1 in
    let has = list_some 1 count.0.0 opened.0 names.0 names.1 in
    let behind : names.0.1 ≡ data_mark ++ (decimal count.0.0 ++ 34 ∷ (opened_line ++ rest.0)) =
    known_at_some data_mark (decimal count.0.0) names.0.1 counted.0 counted.1
    ∙ ap (λ t. data_mark ++ (decimal count.0.0 ++ 34 ∷ t)) (after_some opened_line counted.0 rest.0 rest.1) in
    let stands : text ≡ head_text count.0.0 names.0.0 rest.0 =
    number.0 ∙ ap (λ t. start_mark ++ (decimal count.0.0 ++ 34 ∷ t)) (after_some opened_line count.0.1 opened.0 opened.1
    ∙ ap (λ t. opened_line ++ t) (has.stands ∙ ap (λ t. names_text 1 names.0.0 ++ t) behind)) in
    let some : 0 < length names.0.0 = subst (λ (k : ℕ). 0 < k) (sym has.count) number.1 in
    subst (HasNames text) (some_is (names.0.0, rest.0) x rest.2)
    (record { stands = stands ∙ ap (λ (k : ℕ). head_text k names.0.0 rest.0) (sym has.count); some = some; all = has.all })

-- ---- the whole text of a document that has objects

names_of_objects : (os : List FirstObject) → AllByRecursion IsFirstObject os → IsNames (map name_of os)
names_of_objects [] all = tt
names_of_objects (o ∷ os) all = (all.0.0, names_of_objects os all.1)

nothing_left : (rest : List ℕ) (x y : List FirstObject) → cond (eqb (length rest) 0) (Some x) None ≡ Some y → (rest ≡ []) × (x ≡ y)
nothing_left rest x y e = let tested = cond_some (eqb (length rest) 0) x y e in (nil_from_length rest (eqb-true (length rest) 0 tested.0), tested.1)

content_at-text : (os : List FirstObject) → AllByRecursion IsFirstObject os → AllByRecursion IsCounted os → 0 < length os → length os < 2 ^ 32
    → content_at (document_start ++ content_text os) ≡ Some os
unfolding content_at
content_at-text os all counted some small =
    let names : List (List ℕ) = map name_of os in
    let count : length names ≡ length os = length-map os name_of in
    let t1 : List ℕ = flat_map object_text os ++ content_end in
    goes (names_at (head_text (length os) names t1)) _ (names, t1) _
    (ap (λ (k : ℕ). names_at (head_text k names t1)) (sym count) ∙ names_at-append names t1 (names_of_objects os all) (omega (arith, count)) (omega (arith, count)))
    (goes (each object_at names t1) _ (os, content_end) _ (objects-append os content_end all counted) (goes (after content_end content_end) _ [] _ (after-append content_end []) refl))

record HasContent (text : List ℕ) (os : List FirstObject) : Type 0 where
  pub stands : text ≡ document_start ++ content_text os
  pub some : 0 < length os
  pub all : AllByRecursion IsFirstObject os

content_at_some : (text : List ℕ) (os : List FirstObject) → content_at text ≡ Some os → HasContent text os
unfolding content_at
content_at_some text os e =
    let names = then_some (names_at text) _ os e in
    let objects = then_some (each object_at names.0.0 names.0.1) _ os names.2 in
    let rest = then_some (after content_end objects.0.1) _ os objects.2 in
    let over = nothing_left rest.0 objects.0.0 os rest.2 in
    let named = names_at_some text names.0 names.1 in
    let has = objects_some names.0.0 names.0.1 objects.0 named.all objects.1 in
    let same : length names.0.0 ≡ length objects.0.0 = ap length (sym has.named) ∙ length-map objects.0.0 name_of in
    let listed : names.0.1 ≡ flat_map object_text objects.0.0 ++ content_end =
    has.stands ∙ ap (λ t. flat_map object_text objects.0.0 ++ t) (after_some content_end objects.0.1 rest.0 rest.1 ∙ ap (λ t. content_end ++ t) over.0) in
    let stands : text ≡ document_start ++ content_text objects.0.0 =
    named.stands ∙ ap (λ (k : ℕ). head_text k names.0.0 names.0.1) same ∙ ap (λ (ns : List (List ℕ)). head_text (length objects.0.0) ns names.0.1) (sym has.named)
    ∙ ap (head_text (length objects.0.0) (map name_of objects.0.0)) listed in
    subst (HasContent text) over.1 (record { stands = stands; some = subst (λ (k : ℕ). 0 < k) same named.some; all = has.all })

-- ---- documents of the first form

-- within the limits each object has few properties
counted_within : (os : List FirstObject) → sum_by (λ o. length o.properties) os ≤ 65536 → AllByRecursion IsCounted os
counted_within [] few = tt
counted_within (o ∷ os) few =
    let split = sum_by-cons (λ (q : FirstObject). length q.properties) o os in
    (omega (arith, split), counted_within os (omega (arith, split)))

-- what standing together says of the counts
pub few_objects : (os : List FirstObject) → stands_together os ≡ true → length os ≤ 4096
few_objects os together =
    let within = (both_tests (are_distinct (map name_of os) && list_all has_own_names os) (is_within_limits os) together).1 in
    leb-true (length os) 4096 (both_tests (leb (length os) 4096) (leb (sum_by (λ o. length o.properties) os) 65536) within).0

pub together_counted : (os : List FirstObject) → stands_together os ≡ true → AllByRecursion IsCounted os × (length os < 2 ^ 32)
together_counted os together =
    let within = (both_tests (are_distinct (map name_of os) && list_all has_own_names os) (is_within_limits os) together).1 in
    let limits = both_tests (leb (length os) 4096) (leb (sum_by (λ o. length o.properties) os) 65536) within in
    let few = few_objects os together in
    (counted_within os (leb-true (sum_by (λ o. length o.properties) os) 65536 limits.1), omega arith)

chosen : {A : Type 0} (a b : Bool) (x y z : A) → cond (a || b) x y ≡ z → ((a ≡ true) × (x ≡ z)) ⊎ (((b ≡ true) × (x ≡ z)) ⊎ (y ≡ z))
chosen true b x y z e = inl (refl, e)
chosen false true x y z e = inr (inl (refl, e))
chosen false false x y z e = inr (inr e)

-- the texts of the objects
abbrev pub IsTextOf : List ℕ → List FirstObject → Type 0
IsTextOf bytes os = (bytes ≡ first_text os) ⊎ ((bytes ≡ empty_text) × (os ≡ []))

no_objects : IsFirstForm []
no_objects = record { each = tt; together = refl }

pub record HasFirstForm (bytes : List ℕ) (os : List FirstObject) : Type 0 where
  pub form : IsFirstForm os
  pub text : IsTextOf bytes os

some_text : (bytes : List ℕ) (os : List FirstObject) → 0 < length os → bytes ≡ document_start ++ content_text os → bytes ≡ first_text os
some_text bytes [] some e = absurd (omega arith)
some_text bytes (o ∷ os) some e = e

pub first_form_of_some : (bytes : List ℕ) (os : List FirstObject) → first_form_of bytes ≡ Some os → HasFirstForm bytes os
unfolding first_form_of
first_form_of_some bytes os e =
    elim (chosen (bytes_eq bytes empty_text) (bytes_eq bytes (first_text [])) (Some []) (content_at bytes >>= λ objects. cond (stands_together objects) (Some objects) None) (Some os) e) [
      | inl short ↦
          let none = some_is [] os short.1 in
          subst (HasFirstForm bytes) none (record { form = no_objects; text = inr ((bytes_eq-Decides bytes empty_text).0 short.0, refl) })
      | inr (inl long) ↦
          let none = some_is [] os long.1 in
          subst (HasFirstForm bytes) none (record { form = no_objects; text = inl ((bytes_eq-Decides bytes (first_text [])).0 long.0) })
      | inr (inr more) ↦
          let objects = then_some (content_at bytes) _ os more in
          let tested = cond_some (stands_together objects.0) objects.0 os objects.2 in
          let has = content_at_some bytes objects.0 objects.1 in
          subst (HasFirstForm bytes) tested.1 (record { form = record { each = has.all; together = tested.0 }; text = inl (some_text bytes objects.0 has.some has.stands) })
    ]

-- the texts without objects have no content
content_at-short : content_at empty_text ≡ None
unfolding content_at names_at count_at quoted_at after
content_at-short = refl

content_at-none : content_at (first_text []) ≡ None
unfolding content_at names_at count_at quoted_at after split_at numeral
content_at-none = refl

-- a text with content is none of those without
has_content : (bytes other : List ℕ) (os : List FirstObject) → content_at other ≡ None → content_at bytes ≡ Some os → bytes_eq bytes other ≡ false
has_content bytes other os none some =
    elim (bytes_eq bytes other) as (λ t. bytes_eq bytes other ≡ t → t ≡ false) [
      | true ↦ λ e. let same = ap content_at ((bytes_eq-Decides bytes other).0 e) in absurd (cc)
      | false ↦ λ _. refl
    ] refl

taken_first : {A : Type 0} (a b : Bool) (x y : A) → a ≡ true → cond (a || b) x y ≡ x
taken_first a b x y e = rw e refl

taken_second : {A : Type 0} (a b : Bool) (x y : A) → b ≡ true → cond (a || b) x y ≡ x
taken_second true b x y e = refl
taken_second false b x y e = rw e refl

taken_neither : {A : Type 0} (a b : Bool) (x y : A) → a ≡ false → b ≡ false → cond (a || b) x y ≡ y
taken_neither a b x y e f = rw (e, f) refl

pub first_form_of-text : (bytes : List ℕ) (os : List FirstObject) → IsFirstForm os → IsTextOf bytes os → first_form_of bytes ≡ Some os
unfolding first_form_of
first_form_of-text bytes [] form (inl long) = taken_second (bytes_eq bytes empty_text) (bytes_eq bytes (first_text [])) (Some []) _ ((bytes_eq-Decides bytes (first_text [])).1 long)
first_form_of-text bytes [] form (inr short) = taken_first (bytes_eq bytes empty_text) (bytes_eq bytes (first_text [])) (Some []) _ ((bytes_eq-Decides bytes empty_text).1 short.0)
first_form_of-text bytes (o ∷ os) form (inr short) = let impossible = short.1 in absurd (cc)
first_form_of-text bytes (o ∷ os) form (inl stands) =
    let counts = together_counted (o ∷ os) form.together in
    let found : content_at bytes ≡ Some (o ∷ os) = ap content_at stands ∙ content_at-text (o ∷ os) form.each counts.0 (omega arith) counts.1 in
    taken_neither (bytes_eq bytes empty_text) (bytes_eq bytes (first_text [])) (Some []) _
    (has_content bytes empty_text (o ∷ os) content_at-short found) (has_content bytes (first_text []) (o ∷ os) content_at-none found)
    ∙ goes (content_at bytes) _ (o ∷ os) _ found (ap (λ b. cond b (Some (o ∷ os)) None) form.together)

-- ---- the document

pub document_of_some : (bytes : List ℕ) (d : Document) → document_of bytes ≡ Some d → ReadsFirst bytes d
document_of_some bytes d e = of (first_form_of bytes) refl e
  where
    of : (o : Option (List FirstObject)) → first_form_of bytes ≡ o → option_map first_document o ≡ Some d → ReadsFirst bytes d
    of None found e = absurd (cc)
    of (Some os) found e =
        let has = first_form_of_some bytes os found in
        record { objects = os; form = has.form; document = sym (some_is (first_document os) d e); text = has.text }

pub document_of-text : (bytes : List ℕ) (d : Document) → ReadsFirst bytes d → document_of bytes ≡ Some d
document_of-text bytes d reads = ap (option_map first_document) (first_form_of-text bytes reads.objects reads.form reads.text) ∙ ap Some (sym reads.document)

-- bytes are the text of one document at most
pub reads_one : (bytes : List ℕ) (d e : Document) → ReadsFirst bytes d → ReadsFirst bytes e → d ≡ e
reads_one bytes d e first second = some_is d e (sym (document_of-text bytes d first) ∙ document_of-text bytes e second)

-- where nothing was read the bytes are the text of no document
pub refused : {A : Type 0} (bytes : List ℕ) (e : FormFault) → Fails e (first_form_of bytes) → ◌≡◌ {A = Result A FormFault} (Err e) (Err NotBuilt) → (d : Document) → ReadsFirst bytes d → ⊥
refused bytes NotBuilt fails same d reads =
    let there = document_of-text bytes d reads in
    let nothing : document_of bytes ≡ None = ap (option_map first_document) fails in
    absurd (cc)
refused bytes (Memory m) fails same d reads = absurd (cc)
