-- Private: only contracts inside this crate cite this.
-- The numbers of the objects in the order of label, then place in the document.
use Rattle.std.specs.Prelude.{◌≡◌, ℕ, nat_eq, Bool, true, false, not, if◌then◌else◌, List, [], ◌∷◌, map, Option, Some, None}
use Rattle.std.specs.Cmp.Lexicographic.{pointwise}
use Rattle.std.specs.List.{filter, find, AllByRecursion}
use Rattle.std.specs.Map.{lookup}
use Rattle.std.specs.Option.{option_and_then, option_map, option_map_or}
use Rattle.std.specs.declared.cmp.Ordering.{Ordering}
use Rattle.std.specs.declared.cmp.Ordering.TheVariants.{Less, Equal, Greater}
use Rattle.fc_base.specs.declared.ids.ObjectId.{ObjectId}
use Rattle.object_paths.specs.Order.{text_cmp}
use Rattle.object_paths.specs.Slots.{same_text}
use Rattle.doc_tables.specs.Numbered.{at_number}
use Rattle.doc_tables.specs.declared.entry.ObjectEntry.{ObjectEntry}

-- a label with the number of its object
abbrev pub Labelled : Type 0
Labelled = List ℕ × ObjectId

abbrev pub labelled : List ℕ × ObjectEntry → Labelled
labelled o = (o.1.label, o.1.number)

-- what is less, and what is equal where that counts too
abbrev pub before_by : Bool → Ordering → Bool
before_by equal Less = true
before_by equal Equal = equal
before_by equal Greater = false

-- the other text is less than the first, or equal where that counts too
abbrev pub text_before : Bool → List ℕ → List ℕ → Bool
text_before equal text other = before_by equal (text_cmp other text)

-- no label is less than one before it
abbrev pub Rises : List Labelled → Type 0
Rises [] = Unit {0}
Rises (p ∷ ps) = AllByRecursion (λ (q : Labelled). text_before false p.0 q.0 ≡ false) ps × Rises ps

-- those of a label
abbrev pub of_label : List ℕ → List Labelled → List Labelled
of_label label ps = filter (λ (p : Labelled). same_text p.0 label) ps

-- These numbers are those of the objects, in the order of label; those of a label keep their order.
pub record AreByLabel (numbers : List ObjectId) (objects : List Labelled) : Type 0 where
  pub pairs : List Labelled
  pub numbers_are : map (λ (p : Labelled). p.1) pairs ≡ numbers
  pub rises : Rises pairs
  pub same : (label : List ℕ) → of_label label pairs ≡ of_label label objects

-- the label of the object of a number
abbrev pub label_at : List (Option (List ℕ)) → List (List ℕ × ObjectEntry) → ℕ → Option (List ℕ)
label_at names objects n = option_map (λ (e : ObjectEntry). e.label) (option_and_then (λ name. lookup (pointwise nat_eq name) objects) (at_number names n))

-- an object has a label that is less than a text, or equal where that counts too
abbrev pub stands_before : List (Option (List ℕ)) → List (List ℕ × ObjectEntry) → Bool → List ℕ → ObjectId → Bool
stands_before names objects equal text id = option_map_or (text_before equal text) (label_at names objects id.0) false

-- an object has this label
abbrev pub has_label : List (Option (List ℕ)) → List (List ℕ × ObjectEntry) → List ℕ → ObjectId → Bool
has_label names objects text id = option_map_or (λ other. same_text other text) (label_at names objects id.0) false

-- the first whose label is not less than a text, if it has that label
abbrev pub first_of_label : List (Option (List ℕ)) → List (List ℕ × ObjectEntry) → List ℕ → List ObjectId → Option ObjectId
first_of_label names objects text ids =
    option_and_then (λ id. if has_label names objects text id then Some id else None) (find (λ id. not (stands_before names objects false text id)) ids)
