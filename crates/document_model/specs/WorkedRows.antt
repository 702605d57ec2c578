-- Features that are not placed, compounds, sheets and links to them: slots, paths, dependencies and edits,
-- worked out.
use Rattle.std.specs.Prelude.{◌≡◌, ℕ, true, false, List, [], ◌∷◌, ◌++◌, map, length, Some, None, codes}
use Rattle.object_paths.specs.declared.slot_name.Component.TheVariants.{X, Y, Z, Turn}
use Rattle.object_paths.specs.declared.slot_name.SlotName.{SlotName}
use Rattle.object_paths.specs.declared.slot_name.SlotName.TheVariants.{Plain, Component, Marked}
use Rattle.object_paths.specs.declared.path.Owner.TheVariants.{ByName}
use Rattle.property_types.specs.declared.prop_type.PropType.TheVariants as prop
use Rattle.property_types.specs.declared.value.Value.TheVariants.{Flag}
use Rattle.property_types.specs.Plans.{Slots}
use Rattle.expr_tree.specs.declared.functions.AggregateOp.TheVariants.{Sum}
use Rattle.expr_tree.specs.Tree.{Tree, aggregate, cells, tree, path, no_more}
use Rattle.document_model.specs.declared.content.Content.TheVariants.{Own, Bound}
use Rattle.document_model.specs.declared.kind.ObjectKind.TheVariants.{VarSet, Sheet, Link, Feature, Foreign}
use Rattle.document_model.specs.Dependencies.{deps, inputs_of}
use Rattle.document_model.specs.Document.{Document, Object, Property}
use Rattle.document_model.specs.Edited.{new_object, with_content, with_object, with_property, without_object, without_property}
use Rattle.document_model.specs.Ends.{end_of, has_bounds}
use Rattle.document_model.specs.Examples.{bare_object, document_of, two, varset}
use Rattle.document_model.specs.Kinds.{known_names}
use Rattle.document_model.specs.LinkedBox.{place_at, mm, plain, edge, origin, result_of, box, link, second_link, sheet, cell_of, cell_at, here, labelled, named, part, linked_box}
use Rattle.document_model.specs.Resolution.{resolve}
use Rattle.document_model.specs.Slots.{Row, own, rows, rule_of, slots, type_of}
use Rattle.document_model.specs.WorkedObjects.{compound, compound_plan, dynamic, wedge}

-- a frame: a feature that is not placed
abbrev pub frame_plan : Slots
frame_plan = record {
  type_name = codes "Fc::Frame";
  inputs = edge (codes "Width") ∷ edge (codes "Height") ∷ [];
  outputs = result_of prop.Area (codes "Opening") ∷ [];
  placed = false;
  members = false;
}

abbrev pub frame : Object
frame = record (bare_object (codes "F") (Feature frame_plan)) { inputs = (Plain (codes "Width"), Own (mm 1)) ∷ (Plain (codes "Height"), Own (mm 2)) ∷ [] }

-- a link with that target
abbrev pub link_to : List ℕ → List ℕ → Object
link_to name target = record (bare_object name Link) {
  inputs = origin ++ (Plain (codes "LinkTransform"), Own (Flag false)) ∷ [];
  target = Some target;
}

-- the frame and a link to it
abbrev pub framed : Document
framed = document_of (frame ∷ link_to (codes "K") (codes "F") ∷ [])

-- a box with a dynamic property, a compound of it, and a link to that
abbrev pub gathered : Document
gathered = document_of (record box { dynamics = dynamic prop.Float (codes "a") (Own two) ∷ [] } ∷ compound (codes "C") (codes "Box") [] ∷ link_to (codes "K") (codes "C") ∷ [])

-- the placement P of a sheet
abbrev pub placement : Property
placement = record (dynamic prop.Placement (codes "P") (Own two)) { contents = Own (mm 1) ∷ Own (mm 2) ∷ Own (mm 3) ∷ Own (plain 0) ∷ [] }

-- `sum($A1:A3; B2)`
abbrev pub mixed : Tree
mixed =
    aggregate Sum (cells (record { from = record { column = 1; row = 1; fixed_column = true; fixed_row = false }; to = place_at 1 3 })
    (tree (path (here (Marked (record { column = 2; row = 2; fixed_column = true; fixed_row = true })))) no_more))

-- a sheet with the placement, where A1 and B2 are numbers, and A4 is the sum; and a link to it
abbrev pub placed_sheet : Object
placed_sheet = record (bare_object (codes "S") Sheet) {
  dynamics = placement ∷ [];
  cells = cell_of 1 1 (Own (plain 1)) ∷ cell_of 2 2 (Own (plain 2)) ∷ cell_of 1 4 (Bound mixed) ∷ [];
}

abbrev pub linked_sheet : Document
linked_sheet = document_of (placed_sheet ∷ link_to (codes "K") (codes "S") ∷ [])

-- the names of the slots of an object
abbrev pub names_in : Document → Object → List SlotName
names_in d o = map (λ (r : Row). r.name) (rows d o)

-- the four parts of a placement of that name
abbrev pub parts : List ℕ → List SlotName
parts name = map (Component name) (X ∷ Y ∷ Z ∷ Turn ∷ [])

-- a frame has no placement and no bounds, and gives a compound none; a link to it has its own placement
pub record UnplacedWork : Type 0 where
  pub own : names_in framed frame ≡ Plain (codes "Width") ∷ Plain (codes "Height") ∷ Plain (codes "Opening") ∷ []
  pub link :
      names_in framed (link_to (codes "K") (codes "F"))
      ≡ parts (codes "Placement") ++ Plain (codes "LinkTransform") ∷ Plain (codes "Width") ∷ Plain (codes "Height") ∷ Plain (codes "Opening") ∷ []
  pub inputs : inputs_of framed frame ≡ Some (named (codes "F") (codes "Width") ∷ named (codes "F") (codes "Height") ∷ [])
  pub bounds : map (has_bounds framed) framed.objects ≡ false ∷ false ∷ []
  pub known : known_names (Feature frame_plan) ≡ codes "Label" ∷ codes "Width" ∷ codes "Height" ∷ codes "ExpressionEngine" ∷ []
  pub member : inputs_of (document_of (frame ∷ compound (codes "C") (codes "F") [] ∷ [])) (compound (codes "C") (codes "F") []) ≡ Some (part (codes "C") (codes "Placement"))
  pub first_inputs : length (new_object (codes "F") (codes "F") (Feature frame_plan)).inputs ≡ 2

-- the slots of a box stand with its dynamic property between inputs and outputs, and a link mirrors them;
-- a box reads its own placement, and a link to a compound the compound's members; a foreign object is an end
pub record CompoundsWork : Type 0 where
  pub inputs_of_box :
      inputs_of linked_box box
      ≡ Some (named (codes "Box") (codes "Length") ∷ named (codes "Box") (codes "Width") ∷ named (codes "Box") (codes "Height") ∷ part (codes "Box") (codes "Placement"))
  pub box :
      map (λ (r : Row). r.name) (rows gathered (record box { dynamics = dynamic prop.Float (codes "a") (Own two) ∷ [] }))
      ≡ Plain (codes "Length") ∷ Plain (codes "Width") ∷ Plain (codes "Height") ∷ parts (codes "Placement") ++ Plain (codes "a") ∷ Plain (codes "Volume")
      ∷ Plain (codes "Area") ∷ Plain (codes "MinX") ∷ Plain (codes "MinY") ∷ Plain (codes "MinZ") ∷ Plain (codes "MaxX") ∷ Plain (codes "MaxY")
      ∷ Plain (codes "MaxZ") ∷ parts (codes "Global")
  pub inputs :
      inputs_of gathered (link_to (codes "K") (codes "C"))
      ≡ Some (part (codes "K") (codes "Global") ++ map (named (codes "Box")) (codes "MinX" ∷ codes "MinY" ∷ codes "MinZ" ∷ codes "MaxX" ∷ codes "MaxY" ∷ codes "MaxZ" ∷ []))
  pub mirrored :
      names_in gathered (link_to (codes "M") (codes "Box"))
      ≡ parts (codes "Placement") ++ Plain (codes "LinkTransform") ∷ Plain (codes "Length") ∷ Plain (codes "Width") ∷ Plain (codes "Height") ∷ Plain (codes "a")
      ∷ Plain (codes "Volume") ∷ Plain (codes "Area") ∷ Plain (codes "MinX") ∷ Plain (codes "MinY") ∷ Plain (codes "MinZ") ∷ Plain (codes "MaxX")
      ∷ Plain (codes "MaxY") ∷ Plain (codes "MaxZ") ∷ parts (codes "Global")
  pub foreign_end : end_of (document_of (wedge ∷ link_to (codes "K") (codes "F") ∷ [])) (link_to (codes "K") (codes "F")) ≡ Some wedge
  pub known :
      map known_names (Feature compound_plan ∷ VarSet ∷ Sheet ∷ Link ∷ Foreign (codes "A") ∷ [])
      ≡ (codes "Label" ∷ codes "Placement" ∷ codes "Links" ∷ codes "ExpressionEngine" ∷ []) ∷ (codes "Label" ∷ codes "ExpressionEngine" ∷ [])
      ∷ (codes "Label" ∷ codes "cells" ∷ codes "ExpressionEngine" ∷ [])
      ∷ (codes "Label" ∷ codes "LinkedObject" ∷ codes "LinkTransform" ∷ codes "Placement" ∷ codes "Overrides" ∷ codes "ExpressionEngine" ∷ [])
      ∷ (codes "Label" ∷ []) ∷ []

-- marks count nothing in a path, components are named, names are no labels; the paths of an expression
-- come before its areas; of a sheet a link mirrors the properties alone
pub record SheetsWork : Type 0 where
  pub marked :
      resolve linked_box sheet (here (Marked (record { column = 1; row = 3; fixed_column = true; fixed_row = true }))) ≡ Some (cell_at 1 3)
  pub component :
      resolve linked_sheet placed_sheet (here (Component (codes "P") Y)) ≡ Some (record { object = codes "S"; name = Component (codes "P") Y })
  pub no_address :
      resolve (document_of (record varset { dynamics = dynamic prop.Float (codes "A1") (Own two) ∷ [] } ∷ [])) varset
      (record { owner = ByName (codes "V"); slot = Plain (codes "A1") })
      ≡ Some (named (codes "V") (codes "A1"))
  pub name_alone : resolve linked_box sheet (record { owner = ByName (codes "My box"); slot = Plain (codes "Length") }) ≡ None
  pub label_alone : resolve linked_box sheet (labelled (codes "Box") (Plain (codes "Length"))) ≡ None
  pub of_link : resolve linked_box sheet (record { owner = ByName (codes "L"); slot = Plain (codes "Width") }) ≡ Some (named (codes "L") (codes "Width"))
  pub mixed : deps linked_sheet (cell_at 1 4) ≡ cell_at 2 2 ∷ cell_at 1 1 ∷ []
  pub mirrored : names_in linked_sheet (link_to (codes "K") (codes "S")) ≡ parts (codes "Placement") ++ Plain (codes "LinkTransform") ∷ parts (codes "P")
  pub listed : names_in linked_sheet placed_sheet ≡ parts (codes "P") ++ Marked (place_at 1 1) ∷ Marked (place_at 2 2) ∷ Marked (place_at 1 4) ∷ []
  pub third_link :
      type_of (document_of (box ∷ link ∷ second_link ∷ link_to (codes "M") (codes "L2") ∷ [])) (named (codes "M") (codes "Width")) ≡ Some prop.Length

-- one object or property goes, and the others stay in their order; what is new comes last; of a placement
-- one part is changed
pub record RemovalsWork : Type 0 where
  pub object : map (λ (o : Object). o.name) (without_object linked_box (codes "L")).objects ≡ codes "Box" ∷ codes "L2" ∷ codes "L3" ∷ codes "S" ∷ []
  pub by_name : map (λ (o : Object). o.name) (without_object linked_box (codes "Box")).objects ≡ codes "L" ∷ codes "L2" ∷ codes "L3" ∷ codes "S" ∷ []
  pub last_object : map (λ (o : Object). o.name) (with_object framed (bare_object (codes "A") VarSet)).objects ≡ codes "F" ∷ codes "K" ∷ codes "A" ∷ []
  pub property :
      slots (without_property (document_of (record varset { dynamics = dynamic prop.Float (codes "b") (Own two) ∷ varset.dynamics } ∷ [])) (codes "V") (codes "a"))
      ≡ named (codes "V") (codes "b") ∷ []
  pub last_property :
      slots (with_property (document_of (varset ∷ [])) (codes "V") (dynamic prop.Float (codes "b") (Own two))) ≡ named (codes "V") (codes "a") ∷ named (codes "V") (codes "b") ∷ []
  pub changed :
      map (rule_of (with_content linked_sheet (record { object = codes "S"; name = Component (codes "P") Y }) (Own (mm 7)))) (part (codes "S") (codes "P"))
      ≡ Some (own (mm 1)) ∷ Some (own (mm 7)) ∷ Some (own (mm 3)) ∷ Some (own (plain 0)) ∷ []
