-- A text of the first form has no fault of XML.
use Rattle.std.proofs.Common.{◌≡◌, ◌≤◌, inl, inr, ℕ, ◌+◌, ◌-◌, ◌<◌, ◌^◌, Bool, true, false, cond, not, ◌||◌, ltb, List, [], ◌∷◌, ◌++◌, length, map, codes, None, refl, ap, ◌∙◌, append_assoc, arith}
use Rattle.std.specs.Fmt.{decimal}
use Rattle.std.specs.List.{flat_map, list_all, position_or_len, AllByRecursion}
use Rattle.std.proofs.lemmas.List.Concat.{flat_map-cons}
use Rattle.quantities.specs.Texts.{nine_text}
use Rattle.fcxml_profile.specs.Fronts.{after, behind, split_at, quoted_at}
use Rattle.fcxml_profile.specs.Items.{declaration, closing, run, items_within, attribute_at, attribute_behind_blanks, attributes_within, tag_at, end_tag_at, markup_at, item_at}
use Rattle.fcxml_profile.specs.Standing.{Standing, at_start, repeated_behind}
use Rattle.fcxml_profile.specs.Scanning.{fault_of, without_mark, scan_of}
use Rattle.fcxml_profile.proofs.SpelledLemmas.{HasAttributes, attribute_more, HasTag, IsTagFront, takes_tag, repeats, item_leads, tag_leads, valued_tag}
use Rattle.fcdoc_file.specs.FirstForm.{IsFirstForm, FirstProperty, FirstObject, property_text, object_text, names_text, content_text, document_start, first_text, empty_text, IsFirstProperty, IsFirstObject}
use Rattle.document_model.specs.Document.{Document}
use Rattle.fcdoc_file.specs.FirstDocument.{ReadsFirst}
use Rattle.std.specs.Str.{IsUtf8}
use Rattle.std.proofs.lemmas.Bool.{le-ltb}
use Rattle.std.proofs.lemmas.Str.{utf8_valid_len-IsUtf8}
use Rattle.fcdoc_file.proofs.CursorLemmas.{both_tests}
use Rattle.fcxml_profile.specs.Faults.{character_fault, is_forbidden}
use Rattle.fcdoc_file.proofs.TextLaws.{IsAllowed, text_utf8, text_allowed}
use Rattle.fcdoc_file.proofs.ValueLemmas.{IsValue, plain, name_value, decimal_value, amount_value}
use Rattle.fcdoc_file.proofs.ObjectLaws.{name_of, IsCounted, object_grouped, property_grouped, property_mark, property_end, object_mark, label_mark, engine, object_end}
use Rattle.fcdoc_file.proofs.DocumentLaws.{IsTextOf, few_objects, together_counted, names_grouped, declared_mark, id_mark, data_mark, content_end}

-- ---- the elements

abbrev inside : List (List ℕ) → Standing
inside elements = record { begun = true; rooted = true; elements = elements }

abbrev document_open : List (List ℕ)
document_open = codes "Document" ∷ []

abbrev objects_open : List (List ℕ)
objects_open = codes "Document" ∷ codes "Objects" ∷ []

abbrev data_open : List (List ℕ)
data_open = codes "Document" ∷ codes "ObjectData" ∷ []

abbrev object_open : List (List ℕ)
object_open = codes "Document" ∷ codes "ObjectData" ∷ codes "Object" ∷ []

abbrev properties_open : List (List ℕ)
properties_open = codes "Document" ∷ codes "ObjectData" ∷ codes "Object" ∷ codes "Properties" ∷ []

abbrev property_open : List (List ℕ)
property_open = codes "Document" ∷ codes "ObjectData" ∷ codes "Object" ∷ codes "Properties" ∷ codes "Property" ∷ []

-- a line feed inside an element, in front of a tag
newline : (elements : List (List ℕ)) (n : ℕ) (rest : List ℕ) → ltb 0 (length elements) ≡ true → fault_of (inside elements) n (10 ∷ 60 ∷ rest) ≡ fault_of (inside elements) n (60 ∷ rest)
unfolding item_at
newline elements n rest some = item_leads (inside elements) n (10 ∷ 60 ∷ rest) (run (10 ∷ [])) (60 ∷ rest) refl (ap (λ b. b || true) some)

-- ---- lines

-- a line of a tag
line_tag : (elements : List (List ℕ)) (n : ℕ) (inner name : List ℕ) (names : List (List ℕ)) (empty : Bool) (rest : List ℕ) → IsTagFront (60 ∷ inner) → HasTag n inner name names empty rest
    → takes_tag (inside elements) ≡ true → repeats [] names ≡ false → ltb 0 (length elements) ≡ true
    → fault_of (inside elements) n (10 ∷ 60 ∷ inner) ≡ fault_of (inside (cond empty elements (elements ++ name ∷ []))) n rest
line_tag elements n inner name names empty rest front has takes once some = newline elements n inner some ∙ tag_leads (inside elements) n inner name names empty rest front has takes once

-- each, on a line of its own, leads to what stands behind it
opens_property : (n : ℕ) (name rest : List ℕ) → IsValue name
    → fault_of (inside properties_open) n (10 ∷ (property_mark ++ (name ++ 34 ∷ (codes " type=\"App::PropertyFloat\" group=\"Base\" doc=\"\" ro=\"0\" hide=\"0\">" ++ rest)))) ≡ fault_of (inside property_open) n rest
unfolding attributes_within attribute_behind_blanks attribute_at quoted_at split_at after
opens_property n name rest is =
    line_tag properties_open n _ (codes "Property") _ false rest (refl, refl, refl)
    (valued_tag n (codes "Property") (codes "name") name (codes " type=\"App::PropertyFloat\" group=\"Base\" doc=\"\" ro=\"0\" hide=\"0\">" ++ rest) rest
    (codes "type" ∷ codes "group" ∷ codes "doc" ∷ codes "ro" ∷ codes "hide" ∷ []) (62 ∷ rest) false (λ _. refl) (λ _. refl) (λ _. refl) (plain name is) (record { named = refl; follows = refl }) refl)
    refl refl refl

float_stands : (n : ℕ) (value rest : List ℕ) → IsValue value → fault_of (inside property_open) n (codes "\n<Float value=\"" ++ (value ++ 34 ∷ (codes "/>" ++ rest))) ≡ fault_of (inside property_open) n rest
unfolding attributes_within attribute_behind_blanks attribute_at quoted_at split_at after
float_stands n value rest is =
    line_tag property_open n _ (codes "Float") _ true rest (refl, refl, refl)
    (valued_tag n (codes "Float") (codes "value") value (codes "/>" ++ rest) rest [] (codes "/>" ++ rest) true (λ _. refl) (λ _. refl) (λ _. refl) (plain value is) (record { named = refl; follows = refl }) refl)
    refl refl refl

string_stands : (n : ℕ) (value rest : List ℕ) → IsValue value → fault_of (inside property_open) n (codes "\n<String value=\"" ++ (value ++ 34 ∷ (codes "/>" ++ rest))) ≡ fault_of (inside property_open) n rest
unfolding attributes_within attribute_behind_blanks attribute_at quoted_at split_at after
string_stands n value rest is =
    line_tag property_open n _ (codes "String") _ true rest (refl, refl, refl)
    (valued_tag n (codes "String") (codes "value") value (codes "/>" ++ rest) rest [] (codes "/>" ++ rest) true (λ _. refl) (λ _. refl) (λ _. refl) (plain value is) (record { named = refl; follows = refl }) refl)
    refl refl refl

closes_property : (n : ℕ) (rest : List ℕ) → fault_of (inside property_open) n (codes "\n</Property>" ++ rest) ≡ fault_of (inside properties_open) n rest
unfolding item_at markup_at end_tag_at after
closes_property n rest = newline property_open n (codes "/Property>" ++ rest) refl ∙ item_leads (inside property_open) n (codes "</Property>" ++ rest) (closing (codes "Property") (n - length rest)) rest refl refl

opens_object : (n : ℕ) (name rest : List ℕ) → IsValue name → fault_of (inside data_open) n (10 ∷ (object_mark ++ (name ++ 34 ∷ 62 ∷ rest))) ≡ fault_of (inside object_open) n rest
unfolding attributes_within attribute_behind_blanks attribute_at quoted_at split_at after
opens_object n name rest is =
    line_tag data_open n _ (codes "Object") _ false rest (refl, refl, refl)
    (valued_tag n (codes "Object") (codes "name") name (62 ∷ rest) rest [] (62 ∷ rest) false (λ _. refl) (λ _. refl) (λ _. refl) (plain name is) (record { named = refl; follows = refl }) refl)
    refl refl refl

opens_properties : (n : ℕ) (count rest : List ℕ) → IsValue count → fault_of (inside object_open) n (codes "\n<Properties Count=\"" ++ (count ++ 34 ∷ 62 ∷ rest)) ≡ fault_of (inside properties_open) n rest
unfolding attributes_within attribute_behind_blanks attribute_at quoted_at split_at after
opens_properties n count rest is =
    line_tag object_open n _ (codes "Properties") _ false rest (refl, refl, refl)
    (valued_tag n (codes "Properties") (codes "Count") count (62 ∷ rest) rest [] (62 ∷ rest) false (λ _. refl) (λ _. refl) (λ _. refl) (plain count is) (record { named = refl; follows = refl }) refl)
    refl refl refl

closes_properties : (n : ℕ) (rest : List ℕ) → fault_of (inside properties_open) n (codes "\n</Properties>" ++ rest) ≡ fault_of (inside object_open) n rest
unfolding item_at markup_at end_tag_at after
closes_properties n rest = newline properties_open n (codes "/Properties>" ++ rest) refl ∙ item_leads (inside properties_open) n (codes "</Properties>" ++ rest) (closing (codes "Properties") (n - length rest)) rest refl refl

closes_object : (n : ℕ) (rest : List ℕ) → fault_of (inside object_open) n (codes "\n</Object>" ++ rest) ≡ fault_of (inside data_open) n rest
unfolding item_at markup_at end_tag_at after
closes_object n rest = newline object_open n (codes "/Object>" ++ rest) refl ∙ item_leads (inside object_open) n (codes "</Object>" ++ rest) (closing (codes "Object") (n - length rest)) rest refl refl

opens_label : (n : ℕ) (rest : List ℕ) → fault_of (inside properties_open) n (codes "\n<Property name=\"Label\" type=\"App::PropertyString\">" ++ rest) ≡ fault_of (inside property_open) n rest
unfolding attributes_within attribute_behind_blanks attribute_at quoted_at split_at after
opens_label n rest =
    line_tag properties_open n (codes "Property name=\"Label\" type=\"App::PropertyString\">" ++ rest) (codes "Property") (codes "name" ∷ codes "type" ∷ []) false rest (refl, refl, refl)
    (record { behind_name = codes " name=\"Label\" type=\"App::PropertyString\">" ++ rest; behind_attributes = 62 ∷ rest; named = refl; attributes = record { named = refl; follows = refl }; ended = refl })
    refl refl refl

opens_engine : (n : ℕ) (rest : List ℕ) → fault_of (inside properties_open) n (codes "\n<Property name=\"ExpressionEngine\" type=\"App::PropertyExpressionEngine\">" ++ rest) ≡ fault_of (inside property_open) n rest
unfolding attributes_within attribute_behind_blanks attribute_at quoted_at split_at after
opens_engine n rest =
    line_tag properties_open n (codes "Property name=\"ExpressionEngine\" type=\"App::PropertyExpressionEngine\">" ++ rest) (codes "Property") (codes "name" ∷ codes "type" ∷ []) false rest
    (refl, refl, refl)
    (record { behind_name = codes " name=\"ExpressionEngine\" type=\"App::PropertyExpressionEngine\">" ++ rest; behind_attributes = 62 ∷ rest; named = refl; attributes = record { named = refl; follows = refl }; ended = refl })
    refl refl refl

engine_stands : (n : ℕ) (rest : List ℕ) → fault_of (inside property_open) n (codes "\n<ExpressionEngine count=\"0\"/>" ++ rest) ≡ fault_of (inside property_open) n rest
unfolding attributes_within attribute_behind_blanks attribute_at quoted_at split_at after
engine_stands n rest =
    line_tag property_open n (codes "ExpressionEngine count=\"0\"/>" ++ rest) (codes "ExpressionEngine") (codes "count" ∷ []) true rest (refl, refl, refl)
    (record { behind_name = codes " count=\"0\"/>" ++ rest; behind_attributes = codes "/>" ++ rest; named = refl; attributes = record { named = refl; follows = refl }; ended = refl })
    refl refl refl

row_stands : (n : ℕ) (name number rest : List ℕ) → IsValue name → IsValue number
    → fault_of (inside objects_open) n (10 ∷ (declared_mark ++ (name ++ 34 ∷ (id_mark ++ (number ++ 34 ∷ (codes "/>" ++ rest)))))) ≡ fault_of (inside objects_open) n rest
unfolding attributes_within attribute_behind_blanks attribute_at quoted_at split_at after
row_stands n name number rest named numbered =
    let id : HasAttributes n (id_mark ++ (number ++ 34 ∷ (codes "/>" ++ rest))) (codes "id" ∷ []) (codes "/>" ++ rest) =
    attribute_more n (codes "id=\"" ++ (number ++ 34 ∷ (codes "/>" ++ rest))) (codes "id") number (codes "/>" ++ rest) [] (codes "/>" ++ rest) refl refl (plain number numbered) (record { named = refl; follows = refl }) in
    let more : HasAttributes n (codes " name=\"" ++ (name ++ 34 ∷ (id_mark ++ (number ++ 34 ∷ (codes "/>" ++ rest))))) (codes "name" ∷ codes "id" ∷ []) (codes "/>" ++ rest) =
    attribute_more n (codes "name=\"" ++ (name ++ 34 ∷ (id_mark ++ (number ++ 34 ∷ (codes "/>" ++ rest))))) (codes "name") name (id_mark ++ (number ++ 34 ∷ (codes "/>" ++ rest))) (codes "id" ∷ []) (codes "/>" ++ rest)
    refl refl (plain name named) id in
    line_tag objects_open n _ (codes "Object") _ true rest (refl, refl, refl)
    (valued_tag n (codes "Object") (codes "type") (codes "App::VarSet") (codes " name=\"" ++ (name ++ 34 ∷ (id_mark ++ (number ++ 34 ∷ (codes "/>" ++ rest))))) rest
    (codes "name" ∷ codes "id" ∷ []) (codes "/>" ++ rest) true (λ _. refl) (λ _. refl) (λ _. refl) (plain (codes "App::VarSet") refl) more refl)
    refl refl refl

opens_objects : (n : ℕ) (count rest : List ℕ) → IsValue count → fault_of (inside document_open) n (codes "\n<Objects Count=\"" ++ (count ++ 34 ∷ 62 ∷ rest)) ≡ fault_of (inside objects_open) n rest
unfolding attributes_within attribute_behind_blanks attribute_at quoted_at split_at after
opens_objects n count rest is =
    line_tag document_open n _ (codes "Objects") _ false rest (refl, refl, refl)
    (valued_tag n (codes "Objects") (codes "Count") count (62 ∷ rest) rest [] (62 ∷ rest) false (λ _. refl) (λ _. refl) (λ _. refl) (plain count is) (record { named = refl; follows = refl }) refl)
    refl refl refl

closes_objects : (n : ℕ) (rest : List ℕ) → fault_of (inside objects_open) n (codes "\n</Objects>" ++ rest) ≡ fault_of (inside document_open) n rest
unfolding item_at markup_at end_tag_at after
closes_objects n rest = newline objects_open n (codes "/Objects>" ++ rest) refl ∙ item_leads (inside objects_open) n (codes "</Objects>" ++ rest) (closing (codes "Objects") (n - length rest)) rest refl refl

opens_data : (n : ℕ) (count rest : List ℕ) → IsValue count → fault_of (inside document_open) n (codes "\n<ObjectData Count=\"" ++ (count ++ 34 ∷ 62 ∷ rest)) ≡ fault_of (inside data_open) n rest
unfolding attributes_within attribute_behind_blanks attribute_at quoted_at split_at after
opens_data n count rest is =
    line_tag document_open n _ (codes "ObjectData") _ false rest (refl, refl, refl)
    (valued_tag n (codes "ObjectData") (codes "Count") count (62 ∷ rest) rest [] (62 ∷ rest) false (λ _. refl) (λ _. refl) (λ _. refl) (plain count is) (record { named = refl; follows = refl }) refl)
    refl refl refl

-- the declaration and the root's tag in front
begins : (n : ℕ) (rest : List ℕ) → fault_of at_start n (codes "<?xml version='1.0' encoding='utf-8'?>\n<Document SchemaVersion=\"4\">" ++ rest) ≡ fault_of (inside document_open) n rest
unfolding item_at markup_at behind attributes_within attribute_behind_blanks attribute_at quoted_at split_at after
begins n rest =
    item_leads at_start n (codes "<?xml version='1.0' encoding='utf-8'?>\n<Document SchemaVersion=\"4\">" ++ rest) declaration (codes "\n<Document SchemaVersion=\"4\">" ++ rest) refl refl
    ∙ item_leads (record { begun = true; rooted = false; elements = [] }) n (codes "\n<Document SchemaVersion=\"4\">" ++ rest) (run (10 ∷ [])) (codes "<Document SchemaVersion=\"4\">" ++ rest) refl refl
    ∙ tag_leads (record { begun = true; rooted = false; elements = [] }) n (codes "Document SchemaVersion=\"4\">" ++ rest) (codes "Document") (codes "SchemaVersion" ∷ []) false rest (refl, refl, refl)
    (record { behind_name = codes " SchemaVersion=\"4\">" ++ rest; behind_attributes = 62 ∷ rest; named = refl; attributes = record { named = refl; follows = refl }; ended = refl })
    refl refl

-- the end of a document
ends : (n : ℕ) → fault_of (inside data_open) n (10 ∷ content_end) ≡ None
unfolding item_at markup_at end_tag_at after items_within
ends n =
    newline data_open n (codes "/ObjectData>\n</Document>\n") refl
    ∙ item_leads (inside data_open) n content_end (closing (codes "ObjectData") (n - 13)) (codes "\n</Document>\n") refl refl
    ∙ newline document_open n (codes "/Document>\n") refl
    ∙ item_leads (inside document_open) n (codes "</Document>\n") (closing (codes "Document") (n - 1)) (codes "\n") refl refl
    ∙ item_leads (inside []) n (codes "\n") (run (10 ∷ [])) [] refl refl

-- ---- the first form

-- a property's text, and what follows it; the line feed before it stands for the one at its end
property_leads : (n : ℕ) (p : FirstProperty) (rest : List ℕ) → IsFirstProperty p → fault_of (inside properties_open) n (10 ∷ (property_text p ++ rest)) ≡ fault_of (inside properties_open) n (10 ∷ rest)
property_leads n p rest is =
    ap (λ (t : List ℕ). fault_of (inside properties_open) n (10 ∷ t)) (property_grouped p rest)
    ∙ opens_property n p.name (codes "\n<Float value=\"" ++ (nine_text p.value ++ 34 ∷ (property_end ++ rest))) (name_value p.name is.0)
    ∙ float_stands n (nine_text p.value) (codes "\n</Property>\n" ++ rest) (amount_value p.value is.1)
    ∙ closes_property n (10 ∷ rest)

properties_lead : (n : ℕ) (ps : List FirstProperty) (rest : List ℕ) → AllByRecursion IsFirstProperty ps
    → fault_of (inside properties_open) n (10 ∷ (flat_map property_text ps ++ rest)) ≡ fault_of (inside properties_open) n (10 ∷ rest)
properties_lead n [] rest all = refl
properties_lead n (p ∷ ps) rest all =
    ap (λ (t : List ℕ). fault_of (inside properties_open) n (10 ∷ t)) (ap (λ t. t ++ rest) (flat_map-cons property_text p ps) ∙ append_assoc (property_text p) (flat_map property_text ps) rest)
    ∙ property_leads n p (flat_map property_text ps ++ rest) all.0
    ∙ properties_lead n ps rest all.1

object_leads : (n : ℕ) (o : FirstObject) (rest : List ℕ) → IsFirstObject o → IsCounted o → fault_of (inside data_open) n (10 ∷ (object_text o ++ rest)) ≡ fault_of (inside data_open) n (10 ∷ rest)
object_leads n o rest is counted =
    let t : List ℕ = flat_map property_text o.properties ++ (object_end ++ rest) in
    let count : List ℕ = decimal (length o.properties + 2) in
    let named : IsValue o.name = name_value o.name is.0 in
    ap (λ (t : List ℕ). fault_of (inside data_open) n (10 ∷ t)) (object_grouped o rest)
    ∙ opens_object n o.name (codes "\n<Properties Count=\"" ++ (count ++ 34 ∷ (label_mark ++ (o.name ++ 34 ∷ (engine ++ t))))) named
    ∙ opens_properties n count (codes "\n<Property name=\"Label\" type=\"App::PropertyString\">\n<String value=\"" ++ (o.name ++ 34 ∷ (engine ++ t))) (decimal_value (length o.properties + 2) (omega (arith, counted)))
    ∙ opens_label n (codes "\n<String value=\"" ++ (o.name ++ 34 ∷ (engine ++ t)))
    ∙ string_stands n o.name (codes "\n</Property>\n<Property name=\"ExpressionEngine\" type=\"App::PropertyExpressionEngine\">\n<ExpressionEngine count=\"0\"/>\n</Property>\n" ++ t) named
    ∙ closes_property n (codes "\n<Property name=\"ExpressionEngine\" type=\"App::PropertyExpressionEngine\">\n<ExpressionEngine count=\"0\"/>\n</Property>\n" ++ t)
    ∙ opens_engine n (codes "\n<ExpressionEngine count=\"0\"/>\n</Property>\n" ++ t)
    ∙ engine_stands n (codes "\n</Property>\n" ++ t)
    ∙ closes_property n (10 ∷ t)
    ∙ properties_lead n o.properties (object_end ++ rest) is.1
    ∙ closes_properties n (codes "\n</Object>\n" ++ rest)
    ∙ closes_object n (10 ∷ rest)

objects_lead : (n : ℕ) (os : List FirstObject) (rest : List ℕ) → AllByRecursion IsFirstObject os → AllByRecursion IsCounted os
    → fault_of (inside data_open) n (10 ∷ (flat_map object_text os ++ rest)) ≡ fault_of (inside data_open) n (10 ∷ rest)
objects_lead n [] rest all counted = refl
objects_lead n (o ∷ os) rest all counted =
    ap (λ (t : List ℕ). fault_of (inside data_open) n (10 ∷ t)) (ap (λ t. t ++ rest) (flat_map-cons object_text o os) ∙ append_assoc (object_text o) (flat_map object_text os) rest)
    ∙ object_leads n o (flat_map object_text os ++ rest) all.0 counted.0
    ∙ objects_lead n os rest all.1 counted.1

rows_lead : (n number : ℕ) (os : List FirstObject) (rest : List ℕ) → AllByRecursion IsFirstObject os → number + length os < 2 ^ 32
    → fault_of (inside objects_open) n (10 ∷ (names_text number (map name_of os) ++ rest)) ≡ fault_of (inside objects_open) n (10 ∷ rest)
rows_lead n number [] rest all small = refl
rows_lead n number (o ∷ os) rest all small =
    let t : List ℕ = names_text (number + 1) (map name_of os) ++ rest in
    ap (λ (t : List ℕ). fault_of (inside objects_open) n (10 ∷ t)) (names_grouped o.name number (map name_of os) rest)
    ∙ row_stands n o.name (decimal number) (10 ∷ t) (name_value o.name all.0.0) (decimal_value number (omega arith))
    ∙ rows_lead n (number + 1) os rest all.1 (omega arith)

-- a document with objects
content_leads : (n : ℕ) (os : List FirstObject) → AllByRecursion IsFirstObject os → AllByRecursion IsCounted os → length os ≤ 4096 → fault_of at_start n (document_start ++ content_text os) ≡ None
content_leads n os all counted few =
    let count : List ℕ = decimal (length os) in
    let listed : List ℕ = flat_map object_text os ++ content_end in
    let is : IsValue count = decimal_value (length os) (omega arith) in
    begins n (codes "\n<Objects Count=\"" ++ (count ++ 34 ∷ 62 ∷ 10 ∷ (names_text 1 (map name_of os) ++ (data_mark ++ (count ++ 34 ∷ 62 ∷ 10 ∷ listed)))))
    ∙ opens_objects n count (10 ∷ (names_text 1 (map name_of os) ++ (data_mark ++ (count ++ 34 ∷ 62 ∷ 10 ∷ listed)))) is
    ∙ rows_lead n 1 os (data_mark ++ (count ++ 34 ∷ 62 ∷ 10 ∷ listed)) all (omega arith)
    ∙ closes_objects n (codes "\n<ObjectData Count=\"" ++ (count ++ 34 ∷ 62 ∷ 10 ∷ listed))
    ∙ opens_data n count (10 ∷ listed) is
    ∙ objects_lead n os content_end all counted
    ∙ ends n

-- the two texts without objects
none_leads : (n : ℕ) → fault_of at_start n (first_text []) ≡ None
unfolding item_at markup_at behind tag_at end_tag_at items_within attributes_within attribute_behind_blanks attribute_at quoted_at split_at after repeated_behind
none_leads n = refl

short_leads : (n : ℕ) → fault_of at_start n empty_text ≡ None
unfolding item_at markup_at behind tag_at end_tag_at items_within attributes_within attribute_behind_blanks attribute_at quoted_at split_at after repeated_behind
short_leads n = refl

-- bytes of the first form are well-formed
items_lead : (n : ℕ) (bytes : List ℕ) (os : List FirstObject) → IsFirstForm os → IsTextOf bytes os → fault_of at_start n (without_mark bytes) ≡ None
unfolding after
items_lead n bytes os form (inr short) = ap (λ (t : List ℕ). fault_of at_start n (without_mark t)) short.0 ∙ short_leads n
items_lead n bytes [] form (inl none) = ap (λ (t : List ℕ). fault_of at_start n (without_mark t)) none ∙ none_leads n
items_lead n bytes (o ∷ os) form (inl some) =
    ap (λ (t : List ℕ). fault_of at_start n (without_mark t)) some
    ∙ content_leads n (o ∷ os) form.each (together_counted (o ∷ os) form.together).0 (few_objects (o ∷ os) form.together)

none_forbidden : (bytes : List ℕ) → IsAllowed bytes → position_or_len is_forbidden bytes ≡ length bytes
none_forbidden [] allowed = refl
none_forbidden (b ∷ bs) allowed =
    let parts = both_tests (not (is_forbidden b)) (list_all (λ c. not (is_forbidden c)) bs) allowed in
    rw (parts.0, none_forbidden bs parts.1) (omega arith)

no_less : (n : ℕ) → ltb n n ≡ false
no_less n = le-ltb n n (omega arith)

no_character_fault : (bytes : List ℕ) → IsUtf8 bytes → IsAllowed bytes → character_fault bytes ≡ None
no_character_fault bytes utf8 allowed = rw (utf8_valid_len-IsUtf8 bytes utf8, none_forbidden bytes allowed, no_less (length bytes)) refl

pub first_is_well_formed : (bytes : List ℕ) (os : List FirstObject) → IsFirstForm os → IsTextOf bytes os → (scan_of bytes).fault ≡ None
unfolding scan_of
first_is_well_formed bytes os form text =
    rw (no_character_fault bytes (text_utf8 bytes os form text) (text_allowed bytes os form text)) (items_lead (length bytes) bytes os form text)

pub document_is_well_formed : (bytes : List ℕ) (d : Document) → ReadsFirst bytes d → (scan_of bytes).fault ≡ None
document_is_well_formed bytes d reads = first_is_well_formed bytes reads.objects reads.form reads.text
