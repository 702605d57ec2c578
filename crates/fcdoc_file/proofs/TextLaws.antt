-- What holds of the parts of a text of the first form holds of the whole: that it is UTF-8, and that XML forbids none of its characters.
use Rattle.std.proofs.Common.{◌≡◌, inl, inr, ℕ, ℤ, zero, suc, ◌+◌, ◌<◌, ◌≤◌, ◌^◌, Bool, true, not, ◌&&◌, List, [], ◌∷◌, ◌++◌, length, map, codes, nat_lt, None, refl, sym, subst, arith}
use Rattle.std.specs.Fmt.{decimal}
use Rattle.std.specs.List.{flat_map, list_all, AllByRecursion}
use Rattle.std.specs.Str.{IsUtf8, IsAscii}
use Rattle.std.specs.Cmp.Derive.{both_true}
use Rattle.std.proofs.lemmas.Bool.{ltb-true, and_parts}
use Rattle.std.proofs.lemmas.Bool.Decides.{nat_tests}
use Rattle.std.proofs.lemmas.Fmt.{IsAscii-decimal_wide}
use Rattle.std.proofs.lemmas.List.Concat.{flat_map-cons}
use Rattle.std.proofs.lemmas.Str.{IsUtf8-append, IsUtf8-from_ascii}
use Rattle.fc_base.specs.Texts.{is_name}
use Rattle.fc_base.proofs.NameLemmas.{is_name-utf8}
use Rattle.quantities.specs.Amounts.{IsAmount}
use Rattle.quantities.specs.Texts.{nine_text}
use Rattle.quantities.proofs.TextLemmas.{list_all-append, list_all-nine_text}
use Rattle.fcxml_profile.specs.Faults.{is_forbidden}
use Rattle.fcdoc_file.specs.FirstForm.{FirstProperty, FirstObject, property_text, object_text, fixed_text, names_text, content_text, document_start, first_text, empty_text, IsFirstProperty, IsFirstObject, IsFirstForm}
use Rattle.fcdoc_file.specs.Reading.{first_form_of}
use Rattle.fcdoc_file.proofs.CursorLemmas.{none_unless}
use Rattle.fcdoc_file.proofs.DocumentLaws.{IsTextOf, few_objects, together_counted, first_form_of_some}
use Rattle.fcdoc_file.proofs.ObjectLaws.{IsCounted, name_of}
use Rattle.fcdoc_file.proofs.ValueLemmas.{is_value_byte, value_test, name_value, decimal_value, amount_value}

-- a byte of a literal: one of ASCII that XML allows
abbrev is_literal_byte : ℕ → Bool
is_literal_byte b = nat_lt b 128 && not (is_forbidden b)

module _ (P : List ℕ → Type 0) (join : (xs ys : List ℕ) → P xs → P ys → P (xs ++ ys)) (literal : (bs : List ℕ) → list_all is_literal_byte bs ≡ true → P bs)
    (name : (text : List ℕ) → is_name text ≡ true → P text) (count : (n : ℕ) → n < 2 ^ 32 → P (decimal n)) (amount : (a : ℤ) → IsAmount a → P (nine_text a)) where
  -- text behind a literal
  behind : (front rest : List ℕ) → list_all is_literal_byte front ≡ true → P rest → P (front ++ rest)
  behind front rest e h = join front rest (literal front e) h

  -- a text in quotes
  quoted : (text rest : List ℕ) → P text → P rest → P (34 ∷ (text ++ 34 ∷ rest))
  quoted text rest h k = behind (34 ∷ []) (text ++ 34 ∷ rest) refl (join text (34 ∷ rest) h (behind (34 ∷ []) rest refl k))

  property : (p : FirstProperty) → IsFirstProperty p → P (property_text p)
  property p is =
      behind (codes "<Property name=") _ refl (quoted p.name _ (name p.name is.0)
      (behind (codes " type=\"App::PropertyFloat\" group=\"Base\" doc=\"\" ro=\"0\" hide=\"0\">\n<Float value=") _ refl
      (quoted (nine_text p.value) _ (amount p.value is.1) (literal (codes "/>\n</Property>\n") refl))))

  properties : (ps : List FirstProperty) → AllByRecursion IsFirstProperty ps → P (flat_map property_text ps)
  properties [] all = literal [] refl
  properties (p ∷ ps) all = rw flat_map-cons (join (property_text p) (flat_map property_text ps) (property p all.0) (properties ps all.1))

  fixed : (text : List ℕ) → P text → P (fixed_text text)
  fixed text h =
      behind (codes ">\n<Property name=\"Label\" type=\"App::PropertyString\">\n<String value=") _ refl (quoted text _ h
      (literal (codes "/>\n</Property>\n<Property name=\"ExpressionEngine\" type=\"App::PropertyExpressionEngine\">\n<ExpressionEngine count=\"0\"/>\n</Property>\n") refl))

  object : (o : FirstObject) → IsFirstObject o → IsCounted o → P (object_text o)
  object o is counted =
      behind (codes "<Object name=") _ refl (quoted o.name _ (name o.name is.0)
      (behind (codes ">\n<Properties Count=") _ refl (quoted (decimal (length o.properties + 2)) _ (count (length o.properties + 2) (omega (arith, counted)))
      (join (fixed_text o.name) _ (fixed o.name (name o.name is.0))
      (join (flat_map property_text o.properties) _ (properties o.properties is.1) (literal (codes "</Properties>\n</Object>\n") refl))))))

  objects : (os : List FirstObject) → AllByRecursion IsFirstObject os → AllByRecursion IsCounted os → P (flat_map object_text os)
  objects [] all counted = literal [] refl
  objects (o ∷ os) all counted = rw flat_map-cons (join (object_text o) (flat_map object_text os) (object o all.0 counted.0) (objects os all.1 counted.1))

  rows : (number : ℕ) (os : List FirstObject) → AllByRecursion IsFirstObject os → number + length os < 2 ^ 32 → P (names_text number (map name_of os))
  rows number [] all small = literal [] refl
  rows number (o ∷ os) all small =
      behind (codes "<Object type=\"App::VarSet\" name=") _ refl (quoted o.name _ (name o.name all.0.0)
      (behind (codes " id=") _ refl (quoted (decimal number) _ (count number (omega arith))
      (behind (codes "/>\n") _ refl (rows (number + 1) os all.1 (omega arith))))))

  content : (os : List FirstObject) → AllByRecursion IsFirstObject os → AllByRecursion IsCounted os → length os ≤ 4096 → P (content_text os)
  content os all counted few =
      let counts = count (length os) (omega arith) in
      quoted (decimal (length os)) _ counts
      (behind (codes ">\n") _ refl (join (names_text 1 (map name_of os)) _ (rows 1 os all (omega arith))
      (behind (codes "</Objects>\n<ObjectData Count=") _ refl (quoted (decimal (length os)) _ counts
      (behind (codes ">\n") _ refl (join (flat_map object_text os) _ (objects os all counted) (literal (codes "</ObjectData>\n</Document>\n") refl)))))))

  whole : (bytes : List ℕ) (os : List FirstObject) → IsFirstForm os → IsTextOf bytes os → P bytes
  whole bytes os form (inr short) = subst P (sym short.0) (literal empty_text refl)
  whole bytes [] form (inl none) = subst P (sym none) (literal (first_text []) refl)
  whole bytes (o ∷ os) form (inl some) =
      let counts = together_counted (o ∷ os) form.together in
      subst P (sym some) (behind document_start (content_text (o ∷ os)) refl (content (o ∷ os) form.each counts.0 (few_objects (o ∷ os) form.together)))

-- a test that each byte passes which passes another
weaker : (p q : ℕ → Bool) → ((b : ℕ) → p b ≡ true → q b ≡ true) → (bs : List ℕ) → list_all p bs ≡ true → list_all q bs ≡ true
weaker p q h [] e = refl
weaker p q h (b ∷ bs) e =
    let parts = and_parts (p b) (list_all p bs) e in
    both_true (h b parts.0) (weaker p q h bs parts.1)

-- ---- UTF-8

ascii : (bs : List ℕ) → list_all (λ b. nat_lt b 128) bs ≡ true → IsAscii bs
ascii [] e i = omega arith
ascii (b ∷ bs) e zero = ltb-true b 128 (and_parts (nat_lt b 128) (list_all (λ c. nat_lt c 128) bs) e).0
ascii (b ∷ bs) e (suc i) = ascii bs (and_parts (nat_lt b 128) (list_all (λ c. nat_lt c 128) bs) e).1 i

literal_utf8 : (bs : List ℕ) → list_all is_literal_byte bs ≡ true → IsUtf8 bs
literal_utf8 bs e = IsUtf8-from_ascii bs (ascii bs (weaker is_literal_byte (λ b. nat_lt b 128) (λ b f. (and_parts (nat_lt b 128) (not (is_forbidden b)) f).0) bs e))

amount_utf8 : (a : ℤ) → IsAmount a → IsUtf8 (nine_text a)
amount_utf8 a within = IsUtf8-from_ascii (nine_text a) (ascii (nine_text a) (list_all-nine_text (λ b. nat_lt b 128) (λ d below. grind (arith, nat_tests)) refl refl a within))

pub text_utf8 : (bytes : List ℕ) (os : List FirstObject) → IsFirstForm os → IsTextOf bytes os → IsUtf8 bytes
text_utf8 =
    whole IsUtf8 IsUtf8-append literal_utf8 is_name-utf8
    (λ n small. IsUtf8-from_ascii (decimal n) (IsAscii-decimal_wide n (omega arith))) amount_utf8

-- bytes that are no UTF-8 are the text of no document
pub no_text : (bytes : List ℕ) → (IsUtf8 bytes → ⊥) → first_form_of bytes ≡ None
no_text bytes other = sym (none_unless (first_form_of bytes) (λ os e. let has = first_form_of_some bytes os e in other (text_utf8 bytes os has.form has.text)))

-- ---- characters

-- XML forbids none of the bytes
abbrev pub IsAllowed : List ℕ → Type 0
IsAllowed text = list_all (λ b. not (is_forbidden b)) text ≡ true

value_allowed : (text : List ℕ) → list_all is_value_byte text ≡ true → IsAllowed text
value_allowed text e = weaker is_value_byte (λ b. not (is_forbidden b)) (λ b f. (value_test b f).2) text e

pub text_allowed : (bytes : List ℕ) (os : List FirstObject) → IsFirstForm os → IsTextOf bytes os → IsAllowed bytes
text_allowed =
    whole IsAllowed (list_all-append (λ b. not (is_forbidden b))) (λ bs e. weaker is_literal_byte (λ b. not (is_forbidden b)) (λ b f. (and_parts (nat_lt b 128) (not (is_forbidden b)) f).1) bs e)
    (λ t is. value_allowed t (name_value t is)) (λ n small. value_allowed (decimal n) (decimal_value n small)) (λ a within. value_allowed (nine_text a) (amount_value a within))
