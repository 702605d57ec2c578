-- A box, a link to it and a sheet, on which slots, rules and dependencies are worked out.
use Rattle.std.specs.Prelude.{◌≡◌, ℕ, pos, true, false, List, [], ◌∷◌, ◌++◌, map, length, Some, None, codes}
use Rattle.unit_signatures.specs.Units.{pure}
use Rattle.fc_base.specs.Places.{Place}
use Rattle.object_paths.specs.declared.slot_name.Component.TheVariants.{X, Y, Z, Turn}
use Rattle.object_paths.specs.declared.slot_name.SlotName.{SlotName}
use Rattle.object_paths.specs.declared.slot_name.SlotName.TheVariants.{Plain, Component, Marked}
use Rattle.object_paths.specs.declared.path.Owner.TheVariants.{Here, ByName, ByLabel}
use Rattle.object_paths.specs.declared.path.Path.{Path}
use Rattle.object_paths.specs.Slots.{Slot}
use Rattle.property_types.specs.declared.plan.InputPlan.{InputPlan}
use Rattle.property_types.specs.declared.plan.OutputPlan.{OutputPlan}
use Rattle.property_types.specs.declared.prop_type.PropType.{PropType}
use Rattle.property_types.specs.declared.prop_type.PropType.TheVariants as prop
use Rattle.property_types.specs.declared.value.Value.{Value}
use Rattle.property_types.specs.declared.value.Value.TheVariants.{Number, Flag}
use Rattle.property_types.specs.Plans.{Slots}
use Rattle.property_types.specs.Types.{unit_of}
use Rattle.expr_tree.specs.declared.operators.BinaryOp.TheVariants.{Times}
use Rattle.expr_tree.specs.declared.functions.AggregateOp.TheVariants.{Sum}
use Rattle.expr_tree.specs.Tree.{Tree, literal, path, binary, aggregate, no_more, cells}
use Rattle.document_model.specs.declared.content.Content.{Content}
use Rattle.document_model.specs.declared.content.Content.TheVariants.{Own, Bound}
use Rattle.document_model.specs.declared.kind.ObjectKind.TheVariants.{Sheet, Link, Feature}
use Rattle.document_model.specs.Document.{Document, Object, Cell}
use Rattle.document_model.specs.Slots.{slots, type_of, rule_of, own, inherit}
use Rattle.document_model.specs.Resolution.{resolve}
use Rattle.document_model.specs.Dependencies.{deps, inputs_of}
use Rattle.document_model.specs.Examples.{bare_object, document_of}

-- a place without marks
abbrev pub place_at : ℕ → ℕ → Place
place_at column row = record { column = column; row = row; fixed_column = false; fixed_row = false }

-- so many billionths of a millimetre, and of one
abbrev pub mm : ℕ → Value
mm n = Number (record { amount = pos n; unit = unit_of (pos 1) (pos 0) (pos 0) (pos 0) })

abbrev pub plain : ℕ → Value
plain n = Number (record { amount = pos n; unit = pure })

-- an input of 10 mm, and an output
abbrev pub edge : List ℕ → InputPlan
edge name = record { name = name; prop = prop.Length; default = mm 10000000000 }

abbrev pub result_of : PropType → List ℕ → OutputPlan
result_of type name = record { name = name; prop = type }

-- the slots of a box
abbrev pub box_plan : Slots
box_plan = record {
  type_name = codes "Part::Box";
  inputs = edge (codes "Length") ∷ edge (codes "Width") ∷ edge (codes "Height") ∷ [];
  outputs =
      result_of prop.Volume (codes "Volume") ∷ result_of prop.Area (codes "Area")
      ∷ map (result_of prop.Distance) (codes "MinX" ∷ codes "MinY" ∷ codes "MinZ" ∷ codes "MaxX" ∷ codes "MaxY" ∷ codes "MaxZ" ∷ []);
  placed = true;
  members = false;
}

-- a placement at the origin, not turned
abbrev pub origin : List (SlotName × Content)
origin =
    (Component (codes "Placement") X, Own (mm 0)) ∷ (Component (codes "Placement") Y, Own (mm 0))
    ∷ (Component (codes "Placement") Z, Own (mm 0)) ∷ (Component (codes "Placement") Turn, Own (plain 0)) ∷ []

-- a path to a slot of an object that has that label
abbrev pub labelled : List ℕ → SlotName → Path
labelled label name = record { owner = ByLabel label; slot = name }

-- a path to a slot of the object itself
abbrev pub here : SlotName → Path
here name = record { owner = Here; slot = name }

-- a box whose Height is bound to `Length * 2`
abbrev pub box : Object
box = record (bare_object (codes "Box") (Feature box_plan)) {
  label = codes "My box";
  inputs =
      (Plain (codes "Length"), Own (mm 3300000000)) ∷ (Plain (codes "Width"), Own (mm 10000000000))
      ∷ (Plain (codes "Height"), Bound (binary Times (path (here (Plain (codes "Length")))) (literal (pos 2000000000) None))) ∷ origin;
}

-- a link to the box with another Width, and a link to that link
abbrev pub link : Object
link = record (bare_object (codes "L") Link) {
  inputs = origin ++ (Plain (codes "LinkTransform"), Own (Flag false)) ∷ [];
  target = Some (codes "Box");
  overrides = (Plain (codes "Width"), Own (mm 5000000000)) ∷ [];
}

abbrev pub second_link : Object
second_link = record (bare_object (codes "L2") Link) {
  inputs = origin ++ (Plain (codes "LinkTransform"), Own (Flag false)) ∷ [];
  target = Some (codes "L");
}

-- a link to itself
abbrev pub endless_link : Object
endless_link = record (bare_object (codes "L3") Link) {
  inputs = origin ++ (Plain (codes "LinkTransform"), Own (Flag false)) ∷ [];
  target = Some (codes "L3");
}

-- a cell with that content, and without alias and attributes
abbrev pub cell_of : ℕ → ℕ → Content → Place × Cell
cell_of column row content = (place_at column row, record { content = Some content; alias = None; extra = [] })

-- the area A1:A3, its first corner marked
abbrev pub first_three : Tree
first_three = aggregate Sum (cells (record { from = record { column = 1; row = 1; fixed_column = true; fixed_row = false }; to = place_at 1 3 }) no_more)

-- a sheet: A1 and A3 are numbers, A2 has only an alias, A3 is `width`, A5 is the sum of A1:A3 and B5 is
-- `width * <<My box>>.Volume`
abbrev pub sheet : Object
sheet = record (bare_object (codes "S") Sheet) {
  cells =
      cell_of 1 1 (Own (plain 1000000000))
      ∷ (place_at 1 2, record { content = None; alias = Some (codes "empty"); extra = [] })
      ∷ (place_at 1 3, record { content = Some (Own (plain 3000000000)); alias = Some (codes "width"); extra = [] })
      ∷ cell_of 1 5 (Bound first_three)
      ∷ cell_of 2 5 (Bound (binary Times (path (here (Plain (codes "width")))) (path (labelled (codes "My box") (Plain (codes "Volume"))))))
      ∷ [];
}

-- the document of these five
abbrev pub linked_box : Document
linked_box = document_of (box ∷ link ∷ second_link ∷ endless_link ∷ sheet ∷ [])

-- a slot by the names of its object and property, and a filled cell of the sheet
abbrev pub named : List ℕ → List ℕ → Slot
named object name = record { object = object; name = Plain name }

abbrev pub part : List ℕ → List ℕ → List Slot
part object name = map (λ k. record { object = object; name = Component name k }) (X ∷ Y ∷ Z ∷ Turn ∷ [])

abbrev pub cell_at : ℕ → ℕ → Slot
cell_at column row = record { object = codes "S"; name = Marked (place_at column row) }

-- 19 slots of the box, 20 of each link to it, 5 of the link to itself, and 4 filled cells; with the
-- rules, types, dependencies and paths that follow
pub record LinkedBoxWorks : Type 0 where
  pub count : length (slots linked_box) ≡ 68
  pub overridden : rule_of linked_box (named (codes "L") (codes "Width")) ≡ Some (own (mm 5000000000))
  pub inherited : rule_of linked_box (named (codes "L2") (codes "Width")) ≡ Some (inherit (named (codes "L") (codes "Width")))
  pub typed : type_of linked_box (named (codes "L2") (codes "Volume")) ≡ Some prop.Volume
  pub untyped : type_of linked_box (cell_at 1 1) ≡ None
  pub endless : type_of linked_box (named (codes "L3") (codes "Width")) ≡ None
  pub of_binding : deps linked_box (named (codes "Box") (codes "Height")) ≡ named (codes "Box") (codes "Length") ∷ []
  pub of_own : deps linked_box (named (codes "L") (codes "Width")) ≡ []
  pub of_inherited : deps linked_box (named (codes "L") (codes "Length")) ≡ named (codes "Box") (codes "Length") ∷ []
  pub of_output :
      deps linked_box (named (codes "L") (codes "Volume"))
      ≡ named (codes "L") (codes "Length") ∷ named (codes "L") (codes "Width") ∷ named (codes "L") (codes "Height") ∷ part (codes "L") (codes "Global")
  pub of_global :
      deps linked_box (record { object = codes "L2"; name = Component (codes "Global") Y })
      ≡ part (codes "L2") (codes "Placement") ++ named (codes "L2") (codes "LinkTransform") ∷ part (codes "L") (codes "Global")
  pub of_area : deps linked_box (cell_at 1 5) ≡ cell_at 1 1 ∷ cell_at 1 3 ∷ []
  pub of_alias : deps linked_box (cell_at 2 5) ≡ cell_at 1 3 ∷ named (codes "Box") (codes "Volume") ∷ []
  pub by_address : resolve linked_box box (record { owner = ByName (codes "S"); slot = Plain (codes "A3") }) ≡ Some (cell_at 1 3)
  pub not_filled : resolve linked_box sheet (here (Plain (codes "empty"))) ≡ None
  pub no_whole_placement : resolve linked_box box (here (Plain (codes "Placement"))) ≡ None
  pub inputs : inputs_of linked_box endless_link ≡ None
