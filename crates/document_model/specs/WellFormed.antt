-- Documents of the product: the rule on each part, and what each kind of object may have.
use Rattle.std.specs.Prelude.{◌≡◌, ℕ, Bool, true, false, ◌&&◌, ◌||◌, not, nat_lt, nat_le, List, [], ◌∷◌, ◌++◌, map, length, Option, is_some, IfSome, IsTrue, if◌then◌else◌}
use Rattle.std.specs.List.{list_all, list_any, filter_map, AllByRecursion}
use Rattle.std.specs.FinMap.{is_sorted}
use Rattle.fc_base.specs.Places.{Place, IsPlace, looks_like_address, unmarked}
use Rattle.fc_base.specs.Texts.{is_name, is_label, is_text_value}
use Rattle.object_paths.specs.declared.slot_name.SlotName.{SlotName}
use Rattle.object_paths.specs.Order.{slot_name_cmp, cell_cmp}
use Rattle.object_paths.specs.Paths.{IsSlotName}
use Rattle.object_paths.specs.Slots.{same_text}
use Rattle.property_types.specs.declared.plan.InputPlan.{InputPlan}
use Rattle.property_types.specs.declared.plan.OutputPlan.{OutputPlan}
use Rattle.property_types.specs.declared.prop_type.PropType.{PropType}
use Rattle.property_types.specs.declared.prop_type.PropType.TheVariants.{Distance, Turn}
use Rattle.property_types.specs.Plans.{Slots}
use Rattle.property_types.specs.Reserved.{is_among, are_distinct, own_types}
use Rattle.property_types.specs.SoundPlans.{IsSound}
use Rattle.document_model.specs.declared.content.Content.{Content}
use Rattle.document_model.specs.declared.content.Content.TheVariants.{Own}
use Rattle.document_model.specs.declared.kind.ObjectKind.{ObjectKind}
use Rattle.document_model.specs.declared.kind.ObjectKind.TheVariants.{VarSet, Sheet, Link, Feature, Foreign}
use Rattle.document_model.specs.Document.{Document, Object, Property, Cell, Pieces}
use Rattle.document_model.specs.Kinds.{FollowsPlans, has_dynamics, has_members, is_dynamic_name, is_link, is_sheet, known_names, names_of_kind}
use Rattle.document_model.specs.TypedSlots.{bound_names, property_slots, input_slots}
use Rattle.document_model.specs.Contents.{is_attribute_text, IsContent, IsCellContent, IsContentOf, AreContents, AreInputs}
use Rattle.document_model.specs.KeptText.{are_attributes, IsExtra, document_attributes, object_attributes, property_attributes, cell_attributes, is_document_piece, is_object_piece, is_cells_piece}
use Rattle.document_model.specs.ForeignProperties.{is_properties_piece}

-- the type of bounds
abbrev pub is_distance : PropType → Bool
is_distance Distance = true
is_distance _ = false

-- the type of a foreign object: 1 to 128 bytes, and none of the three own types
abbrev pub is_foreign_type : List ℕ → Bool
is_foreign_type type = is_text_value type && nat_lt 0 (length type) && nat_le (length type) 128 && not (is_among type own_types)

-- an output of that name, which is a distance
abbrev pub is_bound : List ℕ → OutputPlan → Bool
is_bound name out = same_text out.name name && is_distance out.prop

-- a placed plan has the six bounds among its outputs
abbrev pub has_its_bounds : Slots → Bool
has_its_bounds plan = not plan.placed || list_all (λ name. list_any (is_bound name) plan.outputs) bound_names

-- A sound plan, whose defaults are values of the inputs' types, with bounds where it is placed, and placed where
-- it has members.
pub record IsPlan (plan : Slots) : Type 0 where
  pub sound : IsSound plan
  pub defaults : AllByRecursion (λ (i : InputPlan). IsContentOf i.prop (Own i.default)) plan.inputs
  pub bounds : IsTrue (has_its_bounds plan)
  pub members : IsTrue (not plan.members || plan.placed)

-- a feature has such a plan
abbrev pub IsKind : ObjectKind → Type 0
IsKind VarSet = Unit {0}
IsKind Sheet = Unit {0}
IsKind Link = Unit {0}
IsKind (Feature plan) = IsPlan plan
IsKind (Foreign type) = IsTrue (is_foreign_type type)

-- nothing stands where a kind has no such thing
abbrev pub Only : {A : Type 0} → Bool → List A → Type 0
Only true things = Unit {0}
Only false things = things ≡ []

-- texts that stand in a list in the same order, perhaps with others between them
abbrev pub are_in_order : List (List ℕ) → List (List ℕ) → Bool
are_in_order [] others = true
are_in_order (text ∷ texts) [] = false
are_in_order (text ∷ texts) (other ∷ others) =
    if same_text text other then are_in_order texts others else are_in_order (text ∷ texts) others

-- at least one
abbrev pub is_filled : {A : Type 0} → List A → Bool
is_filled [] = false
is_filled (x ∷ xs) = true

-- a type that a property may have
abbrev pub is_added_type : PropType → Bool
is_added_type Turn = false
is_added_type _ = true

-- A dynamic property of an object of a kind.
pub record IsProperty (kind : ObjectKind) (p : Property) : Type 0 where
  pub name : IsTrue (is_dynamic_name kind p.name)
  pub type : IsTrue (is_added_type p.prop)
  pub group : IsTrue (is_attribute_text p.group)
  pub doc : IsTrue (is_attribute_text p.doc)
  pub attributes : IsTrue (are_attributes property_attributes p.attributes)
  pub contents : AreContents (property_slots p.name p.prop) p.contents

-- an alias: a name that does not look like an address
abbrev pub is_alias : List ℕ → Bool
is_alias name = is_name name && not (looks_like_address name)

-- A kept cell at a place without marks.
pub record IsCell (e : Place × Cell) : Type 0 where
  pub place : IsPlace e.0
  pub no_marks : e.0 ≡ unmarked e.0
  pub content : IfSome e.1.content IsCellContent
  pub alias : IfSome e.1.alias (λ name. IsTrue (is_alias name))
  pub extra : IsExtra cell_attributes e.1.extra
  pub kept : IsTrue (is_some e.1.content || is_some e.1.alias || is_filled e.1.extra)

-- the aliases of a sheet
abbrev pub aliases : List (Place × Cell) → List (List ℕ)
aliases cells = filter_map (λ (e : Place × Cell). e.1.alias) cells

-- an override: of a slot name that can be written, with any value or expression
pub record IsOverride (e : SlotName × Content) : Type 0 where
  pub name : IsSlotName e.0
  pub content : IsContent e.1

-- A target's name, which need not be there; only a link has one.
pub record IsTarget (kind : ObjectKind) (target : Option (List ℕ)) : Type 0 where
  pub only_links : IsTrue (is_link kind || not (is_some target))
  pub name : IfSome target (λ name. IsTrue (is_name name))

-- the further attributes of a property that is not dynamic: at least one
abbrev pub are_further : List ℕ × List (List ℕ) → Bool
are_further e = is_filled e.1 && are_attributes property_attributes e.1

-- the further attributes of properties that are not dynamic, by name in the written order
abbrev pub are_kept : List (List ℕ) → List (List ℕ × List (List ℕ)) → Bool
are_kept known kept = are_in_order (map (λ (e : List ℕ × List (List ℕ)). e.0) kept) known && list_all are_further kept

-- The foreign pieces of an object of a kind, each one that is read again at its place.
pub record ArePieces (kind : ObjectKind) (p : Pieces) : Type 0 where
  pub in_object : IsTrue (list_all is_object_piece p.in_object)
  pub in_properties : IsTrue (list_all (is_properties_piece kind) p.in_properties)
  pub only_in_cells : Only (is_sheet kind) p.in_cells
  pub in_cells : IsTrue (list_all is_cells_piece p.in_cells)

-- An object that has what its kind has, each part by its rule.
pub record IsObject (o : Object) : Type 0 where
  pub name : IsTrue (is_name o.name)
  pub label : IsTrue (is_label o.label)
  pub kind : IsKind o.kind
  pub inputs : AreInputs (input_slots o.kind) o.inputs
  pub only_dynamics : Only (has_dynamics o.kind) o.dynamics
  pub dynamics : AllByRecursion (IsProperty o.kind) o.dynamics
  pub distinct : IsTrue (are_distinct (names_of_kind o.kind ++ map (λ (p : Property). p.name) o.dynamics))
  pub only_cells : Only (is_sheet o.kind) o.cells
  pub cells : AllByRecursion IsCell o.cells
  pub cells_in_order : IsTrue (is_sorted cell_cmp o.cells)
  pub aliases : IsTrue (are_distinct (aliases o.cells))
  pub target : IsTarget o.kind o.target
  pub only_overrides : Only (is_link o.kind) o.overrides
  pub overrides : AllByRecursion IsOverride o.overrides
  pub overrides_in_order : IsTrue (is_sorted slot_name_cmp o.overrides)
  pub only_members : Only (has_members o.kind) o.members
  pub members : IsTrue (list_all is_name o.members)
  pub kept : IsTrue (are_kept (known_names o.kind) o.kept)
  pub attributes : IsTrue (are_attributes object_attributes o.attributes)
  pub pieces : ArePieces o.kind o.pieces

-- A document of the product: well-formed objects with distinct names, and what is kept of its text.
pub record IsWellFormed (d : Document) : Type 0 where
  pub objects : AllByRecursion IsObject d.objects
  pub distinct : IsTrue (are_distinct (map (λ (o : Object). o.name) d.objects))
  pub attributes : IsTrue (are_attributes document_attributes d.attributes)
  pub before : IsTrue (list_all is_document_piece d.before)
  pub between : IsTrue (list_all is_document_piece d.between)
  pub after : IsTrue (list_all is_document_piece d.after)

-- a document of the product with these plans: the kind of each object is that of its type
abbrev pub IsDocumentOf : List Slots → Document → Type 0
IsDocumentOf plans d = IsWellFormed d × FollowsPlans plans d
