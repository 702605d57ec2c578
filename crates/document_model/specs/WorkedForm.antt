-- Kinds, new objects, counts and types, worked out.
use Rattle.std.specs.Prelude.{◌≡◌, true, false, [], ◌∷◌, ◌++◌, map, length, Some, codes}
use Rattle.object_paths.specs.declared.slot_name.SlotName.TheVariants.{Plain, Component}
use Rattle.object_paths.specs.declared.slot_name.Component.TheVariants.{Turn}
use Rattle.property_types.specs.declared.prop_type.PropType.TheVariants as prop
use Rattle.property_types.specs.declared.value.Value.TheVariants.{Flag}
use Rattle.property_types.specs.Plans.{Slots}
use Rattle.document_model.specs.declared.content.Content.TheVariants.{Own}
use Rattle.document_model.specs.declared.kind.ObjectKind.TheVariants.{VarSet, Sheet, Link, Feature, Foreign}
use Rattle.document_model.specs.Counts.{expressions, slots_and_empty_cells, nodes_of_document, dependencies_of_document}
use Rattle.document_model.specs.Edited.{new_object, new_property, with_content}
use Rattle.document_model.specs.Ends.{has_bounds}
use Rattle.document_model.specs.Examples.{document_of, varset}
use Rattle.document_model.specs.Kinds.{kind_of_type, type_of_kind, known_names}
use Rattle.document_model.specs.LinkedBox.{box_plan, linked_box, origin, mm, plain, named}
use Rattle.document_model.specs.Slots.{own, rule_of, type_of}
use Rattle.document_model.specs.TypedSlots.{components}

-- a plan of the same type with other slots
abbrev pub other_box : Slots
other_box = record { type_name = codes "Part::Box"; inputs = []; outputs = []; placed = false; members = false }

-- each type has its kind, of two plans the first counts, and without a plan a type is foreign
pub record KindsWork : Type 0 where
  pub var_set : kind_of_type (box_plan ∷ []) (codes "App::VarSet") ≡ VarSet
  pub sheet : kind_of_type (box_plan ∷ []) (codes "Spreadsheet::Sheet") ≡ Sheet
  pub link : kind_of_type (box_plan ∷ []) (codes "App::Link") ≡ Link
  pub feature : kind_of_type (box_plan ∷ other_box ∷ []) (codes "Part::Box") ≡ Feature box_plan
  pub foreign : kind_of_type (box_plan ∷ []) (codes "Part::Wedge") ≡ Foreign (codes "Part::Wedge")
  pub types :
      map type_of_kind (VarSet ∷ Sheet ∷ Link ∷ Feature box_plan ∷ Foreign (codes "A") ∷ [])
      ≡ codes "App::VarSet" ∷ codes "Spreadsheet::Sheet" ∷ codes "App::Link" ∷ codes "Part::Box" ∷ codes "A" ∷ []
  pub known :
      known_names (Feature box_plan)
      ≡ codes "Label" ∷ codes "Length" ∷ codes "Width" ∷ codes "Height" ∷ codes "Placement" ∷ codes "ExpressionEngine" ∷ []
  pub bounds : map (has_bounds linked_box) linked_box.objects ≡ true ∷ true ∷ true ∷ false ∷ false ∷ []

-- a new box has the defaults of its plan, a new link is at the origin, a new property is in the group
-- Base; an edit changes one slot alone, an input or a property
pub record EditsWork : Type 0 where
  pub box :
      (new_object (codes "B") (codes "C") (Feature box_plan)).inputs
      ≡ (Plain (codes "Length"), Own (mm 10000000000)) ∷ (Plain (codes "Width"), Own (mm 10000000000))
      ∷ (Plain (codes "Height"), Own (mm 10000000000)) ∷ origin
  pub link : (new_object (codes "B") (codes "C") Link).inputs ≡ origin ++ (Plain (codes "LinkTransform"), Own (Flag false)) ∷ []
  pub label : (new_object (codes "B") (codes "C") VarSet).label ≡ codes "C"
  pub float :
      new_property (codes "P") prop.Float
      ≡ record {
        name = codes "P";
        prop = prop.Float;
        status = record { read_only = false; hidden = false };
        group = codes "Base";
        doc = [];
        attributes = [];
        contents = Own (plain 0) ∷ [];
      }
  pub placement : (new_property (codes "P") prop.Placement).contents ≡ Own (mm 0) ∷ Own (mm 0) ∷ Own (mm 0) ∷ Own (plain 0) ∷ []
  pub input : rule_of (with_content linked_box (named (codes "Box") (codes "Width")) (Own (mm 1))) (named (codes "Box") (codes "Width")) ≡ Some (own (mm 1))
  pub other_input :
      rule_of (with_content linked_box (named (codes "Box") (codes "Width")) (Own (mm 1))) (named (codes "Box") (codes "Length"))
      ≡ Some (own (mm 3300000000))
  pub property :
      rule_of (with_content (document_of (varset ∷ [])) (named (codes "V") (codes "a")) (Own (plain 3))) (named (codes "V") (codes "a"))
      ≡ Some (own (plain 3))

-- the three expressions of the box and the sheet, and how much stands in the document
pub record CountsWork : Type 0 where
  pub expressions : length (expressions linked_box) ≡ 3
  pub slots : slots_and_empty_cells linked_box ≡ 69
  pub nodes : nodes_of_document linked_box ≡ 7
  pub dependencies : dependencies_of_document linked_box ≡ 266

-- the types of a placement's parts and of a box's slots
pub record TypesWork : Type 0 where
  pub parts :
      map (λ k. type_of linked_box (record { object = codes "L"; name = Component (codes "Placement") k })) components
      ≡ Some prop.Distance ∷ Some prop.Distance ∷ Some prop.Distance ∷ Some prop.Turn ∷ []
  pub turn : type_of linked_box (record { object = codes "L"; name = Component (codes "Global") Turn }) ≡ Some prop.Turn
  pub transform : type_of linked_box (named (codes "L") (codes "LinkTransform")) ≡ Some prop.Bool
  pub bound : type_of linked_box (named (codes "Box") (codes "MaxZ")) ≡ Some prop.Distance
