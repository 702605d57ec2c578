-- Objects and documents that are well-formed, and some that are not, worked out.
use Rattle.std.specs.Prelude.{◌≡◌, ℕ, true, false, List, [], ◌∷◌, map, replicate, Some, None, codes}
use Rattle.object_paths.specs.declared.slot_name.SlotName.TheVariants.{Plain, Marked}
use Rattle.property_types.specs.declared.prop_type.PropType.{PropType}
use Rattle.property_types.specs.declared.prop_type.PropType.TheVariants as prop
use Rattle.property_types.specs.declared.value.Value.TheVariants.{Flag, Text}
use Rattle.property_types.specs.Plans.{Slots}
use Rattle.expr_tree.specs.Tree.{path}
use Rattle.document_model.specs.declared.content.Content.{Content}
use Rattle.document_model.specs.declared.content.Content.TheVariants.{Own, Bound}
use Rattle.document_model.specs.declared.kind.ObjectKind.TheVariants.{VarSet, Feature, Foreign}
use Rattle.document_model.specs.Document.{Object, Property}
use Rattle.document_model.specs.Examples.{bare_object, document_of, two, varset}
use Rattle.document_model.specs.Kinds.{FollowsPlans, known_names}
use Rattle.document_model.specs.LinkedBox.{place_at, mm, edge, origin, result_of, box, box_plan, link, sheet, cell_of, here, linked_box}
use Rattle.document_model.specs.TypedSlots.{bound_names}
use Rattle.document_model.specs.WellFormed.{IsCell, IsDocumentOf, IsKind, IsObject, IsOverride, IsWellFormed, are_kept, is_added_type, is_foreign_type}
use Rattle.document_model.specs.WorkedForm.{other_box}

-- the plan of a compound, and a compound of these members, at least one
abbrev pub compound_plan : Slots
compound_plan = record { type_name = codes "Part::Compound"; inputs = []; outputs = map (result_of prop.Distance) bound_names; placed = true; members = true }

abbrev pub compound : List ℕ → List ℕ → List (List ℕ) → Object
compound name first others = record (bare_object name (Feature compound_plan)) { inputs = origin; members = first ∷ others }

-- a dynamic property with what stands in it
abbrev pub dynamic : PropType → List ℕ → Content → Property
dynamic type name content = record {
  name = name;
  prop = type;
  status = record { read_only = false; hidden = false };
  group = codes "Base";
  doc = [];
  attributes = [];
  contents = content ∷ [];
}

-- a foreign object, of whose text something is kept at each place
abbrev pub wedge : Object
wedge = record (bare_object (codes "F") (Foreign (codes "Part::Wedge"))) {
  kept = (codes "Label", codes "status=\"1\"" ∷ []) ∷ [];
  attributes = codes "type=\"x\"" ∷ [];
  pieces = record { in_object = codes "<a/>" ∷ []; in_properties = codes "<Property name=\"x\"/>" ∷ []; in_cells = [] };
}

-- what is kept of one property of a compound
abbrev pub kept_of : List ℕ → List ℕ × List (List ℕ)
kept_of name = (name, codes "status=\"1\"" ∷ [])

-- documents and objects of all kinds
pub record WellFormedObjectsWork : Type 0 where
  pub linked : IsWellFormed linked_box
  pub foreign : IsObject wedge
  pub compound : IsObject (record (compound (codes "C") (codes "Box") []) { kept = kept_of (codes "Label") ∷ kept_of (codes "Placement") ∷ kept_of (codes "Links") ∷ [] })
  pub kinds : FollowsPlans (box_plan ∷ []) linked_box

-- a plan without bounds, and one with a text for a length
abbrev pub no_bounds : Slots
no_bounds = record box_plan { outputs = result_of prop.Volume (codes "Volume") ∷ [] }

abbrev pub with_text : Slots
with_text = record other_box { inputs = record (edge (codes "Length")) { default = Text (codes "1") } ∷ [] }

abbrev pub gathering : Slots
gathering = record other_box { members = true }

-- a plan whose bounds are areas, and one with a single bound
abbrev pub square_bounds : Slots
square_bounds = record box_plan { outputs = map (result_of prop.Area) bound_names }

abbrev pub one_bound : Slots
one_bound = record box_plan { outputs = result_of prop.Distance (codes "MinX") ∷ [] }

-- a plan with the type of a link
abbrev pub as_link : Slots
as_link = record box_plan { type_name = codes "App::Link" }

-- what a kind lacks may not stand in its objects; names are good, and none stands twice
pub record IllFormedObjectsWork : Type 0 where
  pub name : IsObject (record varset { name = codes "1" }) → ⊥
  pub label : IsObject (record varset { label = codes "a>>b" }) → ⊥
  pub dynamics_of_link : IsObject (record link { dynamics = varset.dynamics }) → ⊥
  pub name_of_output : IsObject (record box { dynamics = dynamic prop.Float (codes "Volume") (Own two) ∷ [] }) → ⊥
  pub name_twice : IsObject (record varset { dynamics = dynamic prop.Float (codes "a") (Own two) ∷ dynamic prop.Float (codes "a") (Own two) ∷ [] }) → ⊥
  pub reserved : IsObject (record varset { dynamics = dynamic prop.Float (codes "Label") (Own two) ∷ [] }) → ⊥
  pub turn : IsObject (record varset { dynamics = dynamic prop.Turn (codes "a") (Own two) ∷ [] }) → ⊥
  pub text_in_float : IsObject (record varset { dynamics = dynamic prop.Float (codes "a") (Own (Text (codes "t"))) ∷ [] }) → ⊥
  pub expression_not_spelled : IsObject (record varset { dynamics = dynamic prop.Float (codes "a") (Bound (path (here (Plain (codes "1"))))) ∷ [] }) → ⊥
  pub no_content : IsObject (record varset { dynamics = record (dynamic prop.Float (codes "a") (Own two)) { contents = [] } ∷ [] }) → ⊥
  pub group : IsObject (record varset { dynamics = record (dynamic prop.Float (codes "a") (Own two)) { group = 1 ∷ [] } ∷ [] }) → ⊥
  pub doc : IsObject (record varset { dynamics = record (dynamic prop.Float (codes "a") (Own two)) { doc = 1 ∷ [] } ∷ [] }) → ⊥
  pub group_not_utf8 : IsObject (record varset { dynamics = record (dynamic prop.Float (codes "a") (Own two)) { group = 255 ∷ [] } ∷ [] }) → ⊥
  pub doc_not_utf8 : IsObject (record varset { dynamics = record (dynamic prop.Float (codes "a") (Own two)) { doc = 255 ∷ [] } ∷ [] }) → ⊥
  pub inputs : IsObject (record box { inputs = [] }) → ⊥
  pub input_named : IsObject (record box { inputs = (Plain (codes "Depth"), Own (mm 1)) ∷ (Plain (codes "Width"), Own (mm 1)) ∷ (Plain (codes "Height"), Own (mm 1)) ∷ origin }) → ⊥
  pub cells : IsObject (record varset { cells = cell_of 1 1 (Own two) ∷ [] }) → ⊥
  pub cells_in_order : IsObject (record sheet { cells = cell_of 1 2 (Own two) ∷ cell_of 1 1 (Own two) ∷ [] }) → ⊥
  pub alias_twice :
      IsObject (record sheet {
        cells =
            (place_at 1 1, record { content = None; alias = Some (codes "b"); extra = [] })
            ∷ (place_at 1 2, record { content = None; alias = Some (codes "b"); extra = [] }) ∷ [];
      }) → ⊥
  pub target : IsObject (record varset { target = Some (codes "V") }) → ⊥
  pub overrides : IsObject (record varset { overrides = (Plain (codes "a"), Own two) ∷ [] }) → ⊥
  pub overrides_in_order : IsObject (record link { overrides = (Plain (codes "b"), Own two) ∷ (Plain (codes "a"), Own two) ∷ [] }) → ⊥
  pub members : IsObject (record box { members = codes "V" ∷ [] }) → ⊥
  pub attributes : IsObject (record varset { attributes = codes "name=\"x\"" ∷ [] }) → ⊥
  pub pieces_in_cells : IsObject (record varset { pieces = record { in_object = []; in_properties = []; in_cells = codes "<a/>" ∷ [] } }) → ⊥
  pub attributes_of_property : IsObject (record varset { dynamics = record (dynamic prop.Float (codes "a") (Own two)) { attributes = codes "type=\"x\"" ∷ [] } ∷ [] }) → ⊥
  pub name_of_target : IsObject (record link { target = Some (codes "1") }) → ⊥
  pub piece_in_cells : IsObject (record sheet { pieces = record { in_object = []; in_properties = []; in_cells = codes "<Cell/>" ∷ [] } }) → ⊥
  pub name_of_member : IsObject (compound (codes "C") (codes "1") []) → ⊥
  pub kept : IsObject (record varset { kept = kept_of (codes "Placement") ∷ [] }) → ⊥
  pub cells_by_column : IsObject (record sheet { cells = cell_of 1 1 (Own two) ∷ cell_of 1 2 (Own two) ∷ cell_of 2 1 (Own two) ∷ [] }) → ⊥
  pub address_in_sheet : IsObject (record sheet { dynamics = dynamic prop.Float (codes "A1") (Own two) ∷ [] }) → ⊥
  pub piece_in_properties : IsObject (record varset { pieces = record { in_object = []; in_properties = codes "<Property name=\"Label\"/>" ∷ []; in_cells = [] } }) → ⊥
  pub pieces : IsObject (record varset { pieces = record { in_object = codes "<Properties/>" ∷ []; in_properties = []; in_cells = [] } }) → ⊥

-- cells, overrides, kinds and documents that are not well-formed, and some next to them that are
pub record IllFormedPartsWork : Type 0 where
  pub empty_cell : IsCell (place_at 1 1, record { content = None; alias = None; extra = [] }) → ⊥
  pub flag_cell : IsCell (cell_of 1 1 (Own (Flag true))) → ⊥
  pub marked_cell : IsCell (record (place_at 1 1) { fixed_row = true }, record { content = Some (Own two); alias = None; extra = [] }) → ⊥
  pub alias : IsCell (place_at 1 1, record { content = None; alias = Some (codes "A0"); extra = [] }) → ⊥
  pub override : IsOverride (Marked (place_at 1 1), Own two) → ⊥
  pub kept_order : are_kept (known_names (Feature compound_plan)) (kept_of (codes "Links") ∷ kept_of (codes "Placement") ∷ []) ≡ false
  pub kept_unknown : are_kept (known_names VarSet) (kept_of (codes "Placement") ∷ []) ≡ false
  pub kept_nothing : are_kept (known_names VarSet) ((codes "Label", []) ∷ []) ≡ false
  pub kept_read : are_kept (known_names VarSet) ((codes "Label", codes "ro=\"1\"" ∷ []) ∷ []) ≡ false
  pub no_bounds : IsKind (Feature no_bounds) → ⊥
  pub default : IsKind (Feature with_text) → ⊥
  pub unplaced_members : IsKind (Feature gathering) → ⊥
  pub own_type : is_foreign_type (codes "App::Link") ≡ false
  pub no_type : is_foreign_type [] ≡ false
  pub names : IsWellFormed (document_of (varset ∷ varset ∷ [])) → ⊥
  pub schema : IsWellFormed (record (document_of []) { attributes = codes "SchemaVersion=\"4\"" ∷ [] }) → ⊥
  pub before : IsWellFormed (record (document_of []) { before = codes "<Objects/>" ∷ [] }) → ⊥
  pub between : IsWellFormed (record (document_of []) { between = codes "<Objects/>" ∷ [] }) → ⊥
  pub after : IsWellFormed (record (document_of []) { after = codes "<Objects/>" ∷ [] }) → ⊥
  pub longest_type : is_foreign_type (replicate 128 65) ≡ true
  pub too_long_type : is_foreign_type (replicate 129 65) ≡ false
  pub control_type : is_foreign_type (1 ∷ []) ≡ false
  pub square_bounds : IsKind (Feature square_bounds) → ⊥
  pub one_bound : IsKind (Feature one_bound) → ⊥
  pub unsound : IsKind (Feature as_link) → ⊥
  pub kept_twice : are_kept (known_names VarSet) (kept_of (codes "Label") ∷ kept_of (codes "Label") ∷ []) ≡ false
  pub placement : is_added_type prop.Placement ≡ true
  pub no_alias : IsCell (place_at 1 1, record { content = None; alias = Some (codes "a b"); extra = [] }) → ⊥
  pub cell_not_spelled : IsCell (cell_of 1 1 (Bound (path (here (Plain (codes "1")))))) → ⊥
  pub text_cell : IsCell (cell_of 1 1 (Own (Text (codes "t"))))
  pub no_text_cell : IsCell (cell_of 1 1 (Own (Text (255 ∷ [])))) → ⊥
  pub attributes_alone : IsCell (place_at 1 1, record { content = None; alias = None; extra = codes "type='x'" })
  pub not_spelled : IsOverride (Plain (codes "a"), Bound (path (here (Plain (codes "1"))))) → ⊥
  pub flag_in_override : IsOverride (Plain (codes "a"), Own (Flag true))
  pub names_by_plans : IsDocumentOf [] (document_of (varset ∷ varset ∷ [])) → ⊥
  pub kinds_by_plans : IsDocumentOf (other_box ∷ []) linked_box → ⊥
  pub row_0 : IsCell (place_at 1 0, record { content = Some (Own two); alias = None; extra = [] }) → ⊥
  pub other_plan : FollowsPlans (other_box ∷ []) linked_box → ⊥
