-- Documents of the first form: VarSets of Float properties with own values. What their text is.
use Rattle.std.specs.Prelude.{ℕ, ◌+◌, ℤ, Bool, ◌&&◌, nat_le, List, [], ◌∷◌, ◌++◌, length, map, sum_by, codes, IsTrue}
use Rattle.std.specs.List.{flat_map, list_all, AllByRecursion}
use Rattle.std.specs.Fmt.{decimal}
use Rattle.fc_base.specs.Texts.{is_name}
use Rattle.property_types.specs.Reserved.{are_distinct}
use Rattle.property_types.specs.SoundPlans.{is_property_name}
use Rattle.quantities.specs.Amounts.{IsAmount}
use Rattle.quantities.specs.Texts.{nine_text}
use Rattle.document_model.specs.Limits.{most_objects, most_slots}

-- A property and its value, in billionths.
pub record FirstProperty : Type 0 where
  pub name : List ℕ
  pub value : ℤ

-- A VarSet and its properties, in order.
pub record FirstObject : Type 0 where
  pub name : List ℕ
  pub properties : List FirstProperty

-- ---- the text

-- a text in quotes
abbrev pub in_quotes : List ℕ → List ℕ → List ℕ
in_quotes text rest = 34 ∷ (text ++ 34 ∷ rest)

-- a property: its line, its value's line and its end
abbrev pub property_text : FirstProperty → List ℕ
property_text p =
    codes "<Property name=" ++ in_quotes p.name (codes " type=\"App::PropertyFloat\" group=\"Base\" doc=\"\" ro=\"0\" hide=\"0\">\n<Float value="
    ++ in_quotes (nine_text p.value) (codes "/>\n</Property>\n"))

-- the properties that each object has: its label, which is its name, and its empty list of expressions
abbrev pub fixed_text : List ℕ → List ℕ
fixed_text name =
    codes ">\n<Property name=\"Label\" type=\"App::PropertyString\">\n<String value=" ++ in_quotes name
    (codes "/>\n</Property>\n<Property name=\"ExpressionEngine\" type=\"App::PropertyExpressionEngine\">\n<ExpressionEngine count=\"0\"/>\n</Property>\n")

-- an object's data; its fixed properties are counted too
abbrev pub object_text : FirstObject → List ℕ
object_text o =
    codes "<Object name=" ++ in_quotes o.name (codes ">\n<Properties Count=" ++ in_quotes (decimal (length o.properties + 2)) (fixed_text o.name
    ++ (flat_map property_text o.properties ++ codes "</Properties>\n</Object>\n")))

-- the list of the objects' names, numbered on from here
abbrev pub names_text : ℕ → List (List ℕ) → List ℕ
names_text number [] = []
names_text number (name ∷ names) =
    codes "<Object type=\"App::VarSet\" name=" ++ in_quotes name (codes " id=" ++ in_quotes (decimal number) (codes "/>\n" ++ names_text (number + 1) names))

-- what stands before the count of the objects
abbrev pub document_start : List ℕ
document_start = codes "<?xml version='1.0' encoding='utf-8'?>\n<Document SchemaVersion=\"4\">\n<Objects Count="

-- the objects' names, and then their data
abbrev pub content_text : List FirstObject → List ℕ
content_text objects =
    let count = decimal (length objects) in
    in_quotes count (codes ">\n" ++ (names_text 1 (map (λ o. o.name) objects) ++ (codes "</Objects>\n<ObjectData Count="
    ++ in_quotes count (codes ">\n" ++ (flat_map object_text objects ++ codes "</ObjectData>\n</Document>\n")))))

-- a whole document; without objects both lists are empty elements
abbrev pub first_text : List FirstObject → List ℕ
first_text [] = document_start ++ codes "\"0\"/>\n<ObjectData Count=\"0\"/>\n</Document>\n"
first_text (o ∷ os) = document_start ++ content_text (o ∷ os)

-- the short text of the document without objects
abbrev pub empty_text : List ℕ
empty_text = codes "<Document SchemaVersion=\"4\"/>"

-- ---- which objects there may be

-- an object's properties have names of their own, which properties may have
abbrev pub has_own_names : FirstObject → Bool
has_own_names o = are_distinct (map (λ p. p.name) o.properties) && list_all (λ p. is_property_name p.name) o.properties

-- no more objects and properties than a document may have
abbrev pub is_within_limits : List FirstObject → Bool
is_within_limits objects = nat_le (length objects) most_objects && nat_le (sum_by (λ o. length o.properties) objects) most_slots

-- objects that stand together: no name twice, and within the limits
abbrev pub stands_together : List FirstObject → Bool
stands_together objects = are_distinct (map (λ o. o.name) objects) && list_all has_own_names objects && is_within_limits objects

-- names are names, and values are in range
abbrev pub IsFirstProperty : FirstProperty → Type 0
IsFirstProperty p = IsTrue (is_name p.name) × IsAmount p.value

abbrev pub IsFirstObject : FirstObject → Type 0
IsFirstObject o = IsTrue (is_name o.name) × AllByRecursion IsFirstProperty o.properties

-- the objects of a document of the first form
pub record IsFirstForm (objects : List FirstObject) : Type 0 where
  pub each : AllByRecursion IsFirstObject objects
  pub together : IsTrue (stands_together objects)
