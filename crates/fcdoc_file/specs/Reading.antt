-- Reading a document of the first form from the front of its text.
use Rattle.std.specs.Prelude.{ℕ, ◌-◌, ◌==◌, if◌then◌else◌, ◌&&◌, ◌||◌, ℤ, nat_le, nat_lt, List, [], ◌∷◌, length, codes, unsigned_abs, Option, None, Some}
use Rattle.std.specs.Option.{option_map}
use Rattle.std.specs.Str.{bytes_eq}
use Rattle.std.specs.Fmt.{decimal}
use Rattle.fc_base.specs.Texts.{is_name}
use Rattle.fcxml_profile.specs.Fronts.{◌>>=◌, after}
use Rattle.fcdoc_file.specs.Cursor.{quoted, numeral, each, numbers}
use Rattle.document_model.specs.Document.{Document}
use Rattle.fcdoc_file.specs.FirstDocument.{first_document}
use Rattle.fcdoc_file.specs.FirstForm.{FirstProperty, FirstObject, first_text, empty_text, stands_together}
use Rattle.quantities.specs.Amounts.{greatest, signed}
use Rattle.quantities.specs.Digits.{number_after, begins_with_minus}
use Rattle.quantities.specs.Texts.{nine_text}

-- what stands in quotes behind the literal, and what follows
unfoldable pub quoted_at : List ℕ → List ℕ → Option (List ℕ × List ℕ)
quoted_at literal text = do
  opened ← after literal text
  quoted opened

-- a name in quotes behind the literal, and what follows
unfoldable pub name_at : List ℕ → List ℕ → Option (List ℕ × List ℕ)
name_at literal text = do
  cut ← quoted_at literal text
  if is_name cut.0 then Some cut else None

-- a count in quotes behind the literal, and what follows
unfoldable pub count_at : List ℕ → List ℕ → Option (ℕ × List ℕ)
count_at literal text = do
  cut ← quoted_at literal text
  n ← numeral cut.0
  Some (n, cut.1)

-- the amount whose text with nine decimals this is
unfoldable pub amount_of : List ℕ → Option ℤ
amount_of text =
    let a = signed (begins_with_minus text) (number_after 0 text) in
    if nat_le (unsigned_abs a) greatest && bytes_eq (nine_text a) text then Some a else None

-- what follows a text that is known, in quotes behind the literal
unfoldable pub known_at : List ℕ → List ℕ → List ℕ → Option (List ℕ)
known_at literal known text = do
  opened ← after literal text
  closed ← after known opened
  after (34 ∷ []) closed

-- a property, and what follows
unfoldable pub property_at : List ℕ → Option (FirstProperty × List ℕ)
property_at text = do
  name ← name_at (codes "<Property name=\"") text
  number ← quoted_at (codes " type=\"App::PropertyFloat\" group=\"Base\" doc=\"\" ro=\"0\" hide=\"0\">\n<Float value=\"") name.1
  value ← amount_of number.0
  rest ← after (codes "/>\n</Property>\n") number.1
  Some (record { name = name.0; value = value }, rest)

-- what follows the fixed properties of the object with this name
unfoldable pub fixed_at : List ℕ → List ℕ → Option (List ℕ)
fixed_at name text = do
  labelled ← known_at (codes ">\n<Property name=\"Label\" type=\"App::PropertyString\">\n<String value=\"") name text
  after (codes "/>\n</Property>\n<Property name=\"ExpressionEngine\" type=\"App::PropertyExpressionEngine\">\n<ExpressionEngine count=\"0\"/>\n</Property>\n") labelled

-- the count of the object's own properties, and what follows the fixed ones
unfoldable pub start_at : List ℕ → List ℕ → Option (ℕ × List ℕ)
start_at name text = do
  named ← known_at (codes "<Object name=\"") name text
  count ← count_at (codes ">\n<Properties Count=\"") named
  opened ← fixed_at name count.1
  if nat_lt count.0 2 then None else Some (count.0 - 2, opened)

-- the data of the object with this name, and what follows
unfoldable pub object_at : List ℕ → List ℕ → Option (FirstObject × List ℕ)
object_at name text = do
  start ← start_at name text
  properties ← each (λ _. property_at) (numbers 1 start.0) start.1
  rest ← after (codes "</Properties>\n</Object>\n") properties.1
  Some (record { name = name; properties = properties.0 }, rest)

-- one of the numbered names, and what follows
unfoldable pub declared_at : ℕ → List ℕ → Option (List ℕ × List ℕ)
declared_at number text = do
  name ← name_at (codes "<Object type=\"App::VarSet\" name=\"") text
  numbered ← known_at (codes " id=\"") (decimal number) name.1
  rest ← after (codes "/>\n") numbered
  Some (name.0, rest)

-- the names of the objects, and what follows their list
unfoldable pub names_at : List ℕ → Option (List (List ℕ) × List ℕ)
names_at text = do
  count ← count_at (codes "<?xml version='1.0' encoding='utf-8'?>\n<Document SchemaVersion=\"4\">\n<Objects Count=\"") text
  opened ← after (codes ">\n") count.1
  names ← each declared_at (numbers 1 count.0) opened
  counted ← known_at (codes "</Objects>\n<ObjectData Count=\"") (decimal count.0) names.1
  rest ← after (codes ">\n") counted
  Some (names.0, rest)

-- the objects of a text that has some
unfoldable pub content_at : List ℕ → Option (List FirstObject)
content_at text = do
  names ← names_at text
  objects ← each object_at names.0 names.1
  rest ← after (codes "</ObjectData>\n</Document>\n") objects.1
  if length rest == 0 then Some objects.0 else None

-- the objects of a document of the first form that the bytes are the text of
unfoldable pub first_form_of : List ℕ → Option (List FirstObject)
first_form_of bytes =
    if bytes_eq bytes empty_text || bytes_eq bytes (first_text []) then Some [] else (do
      objects ← content_at bytes
      if stands_together objects then Some objects else None)

-- the document that the bytes are the text of, of the first form; text that is no UTF-8 is that of none
abbrev pub document_of : List ℕ → Option Document
document_of bytes = option_map first_document (first_form_of bytes)
