-- Renames of labels, properties and aliases, worked out.
use Rattle.std.specs.Prelude.{◌≡◌, ℕ, true, false, List, [], ◌∷◌, ◌++◌, map, drop, Some, codes}
use Rattle.object_paths.specs.declared.slot_name.Component.TheVariants.{X, Y}
use Rattle.object_paths.specs.declared.slot_name.SlotName.{SlotName}
use Rattle.object_paths.specs.declared.slot_name.SlotName.TheVariants.{Plain, Component, Marked}
use Rattle.object_paths.specs.declared.path.Owner.TheVariants.{ByName}
use Rattle.object_paths.specs.declared.path.Path.{Path}
use Rattle.property_types.specs.declared.prop_type.PropType.TheVariants as prop
use Rattle.property_types.specs.declared.value.Value.TheVariants.{Flag}
use Rattle.expr_tree.specs.declared.operators.BinaryOp.TheVariants.{Plus}
use Rattle.expr_tree.specs.declared.functions.AggregateOp.TheVariants.{Sum}
use Rattle.expr_tree.specs.Tree.{text, path, binary, aggregate, cells, tree, no_more}
use Rattle.document_model.specs.declared.content.Content.{Content}
use Rattle.document_model.specs.declared.content.Content.TheVariants.{Own, Bound}
use Rattle.document_model.specs.declared.kind.ObjectKind.TheVariants.{VarSet, Sheet, Link}
use Rattle.document_model.specs.Document.{Document, Object, Property}
use Rattle.document_model.specs.Edited.{with_label, with_status}
use Rattle.document_model.specs.Examples.{bare_object, document_of, two, varset}
use Rattle.document_model.specs.LinkedBox.{place_at, mm, plain, origin, cell_of, here, labelled, named}
use Rattle.document_model.specs.Renamed.{object, property, cell, moved_slot, refs, renamed}
use Rattle.document_model.specs.WorkedObjects.{dynamic}

-- `x + y`, and a path to a slot of the object of that name
abbrev pub plus : Path → Path → Content
plus x y = Bound (binary Plus (path x) (path y))

abbrev pub of_name : List ℕ → SlotName → Path
of_name name slot = record { owner = ByName name; slot = slot }

-- a VarSet with those properties
abbrev pub varset_of : List ℕ → List Property → Object
varset_of name properties = record (bare_object name VarSet) { dynamics = properties }

-- a Float
abbrev pub float : List ℕ → Content → Property
float name content = dynamic prop.Float name content

-- ---- labels and properties of VarSets

-- V has w and v, of which v is `.w` and so the object's own; W has x, which is `V.w + <<L>>.w`, and t, which is the
-- text L. V has that label
abbrev pub two_varsets : List ℕ → List ℕ → Document
two_varsets label name =
    document_of
    (record (varset_of (codes "V") (float name (Own two) ∷ float (codes "v") (Bound (path (here (Plain name)))) ∷ [])) { label = label }
    ∷ varset_of (codes "W")
    (float (codes "x") (plus (of_name (codes "V") (Plain name)) (labelled label (Plain name)))
    ∷ dynamic prop.String (codes "t") (Bound (text (codes "L"))) ∷ [])
    ∷ [])

-- an object has the label of another as its name, and another label: the path by the label is of the other
abbrev pub named_as_label : List ℕ → Document
named_as_label label =
    document_of
    (record (varset_of (codes "L") (float (codes "w") (Own two) ∷ [])) { label = codes "first" }
    ∷ record (varset_of (codes "V") (float (codes "w") (Own two) ∷ [])) { label = label }
    ∷ varset_of (codes "W")
    (float (codes "x") (plus (of_name (codes "L") (Plain (codes "w"))) (labelled label (Plain (codes "w")))) ∷ [])
    ∷ [])

-- a path by the label of V that names no slot, and one by another label
abbrev pub unnamed_slot : List ℕ → Document
unnamed_slot label =
    document_of
    (record (varset_of (codes "V") []) { label = label }
    ∷ record (varset_of (codes "W") (float (codes "x") (plus (labelled label (Plain (codes "no"))) (labelled (codes "K") (Plain (codes "x")))) ∷ [])) { label = codes "K" }
    ∷ [])

-- ---- links

-- a link with a target, overrides and a placement at the origin
abbrev pub link_with : List ℕ → List ℕ → List (SlotName × Content) → Object
link_with name target overrides = record (bare_object name Link) {
  inputs = origin ++ (Plain (codes "LinkTransform"), Own (Flag false)) ∷ [];
  target = Some target;
  overrides = overrides;
}

-- V and U each have Depth and a further property; L1 is a link to V that overrides both, L2 one to L1, and K one to
-- U; W.x is the sum of that of L2 and that of V, and W.y of that of K and that of U, which is named Width
abbrev pub linked_varsets : List ℕ → List (SlotName × Content) → Document
linked_varsets name overrides =
    document_of
    (varset_of (codes "V") (float name (Own two) ∷ float (codes "Depth") (Own two) ∷ [])
    ∷ varset_of (codes "U") (float (codes "Width") (Own two) ∷ [])
    ∷ link_with (codes "L1") (codes "V") overrides
    ∷ link_with (codes "L2") (codes "L1") []
    ∷ link_with (codes "K") (codes "U") ((Plain (codes "Width"), Own two) ∷ [])
    ∷ varset_of (codes "W")
    (float (codes "x") (plus (of_name (codes "L2") (Plain name)) (of_name (codes "V") (Plain name)))
    ∷ float (codes "y") (plus (of_name (codes "K") (Plain (codes "Width"))) (of_name (codes "U") (Plain (codes "Width")))) ∷ [])
    ∷ [])

-- the overrides of L1, whose values are others; the one of V's property is bound to another slot of L1
abbrev pub own_depth : Content
own_depth = Own (plain 3)

abbrev pub of_depth : Content
of_depth = Bound (path (here (Plain (codes "Depth"))))

-- ---- placements

-- a placement of V, a link to V that overrides two parts of it, and an expression with one part
abbrev pub placed_varset : List ℕ → List (SlotName × Content) → Document
placed_varset name overrides =
    document_of
    (varset_of (codes "V") (record (dynamic prop.Placement name (Own two)) { contents = Own (mm 1) ∷ Own (mm 2) ∷ Own (mm 3) ∷ Own (plain 0) ∷ [] } ∷ float (codes "P2") (Own two) ∷ [])
    ∷ link_with (codes "L") (codes "V") overrides
    ∷ varset_of (codes "W") (dynamic prop.Length (codes "x") (plus (of_name (codes "V") (Component name X)) (of_name (codes "L") (Component name Y))) ∷ [])
    ∷ [])

-- ---- aliases

-- `$B$2`, marked
abbrev pub marked : SlotName
marked = Marked (record { column = 2; row = 2; fixed_column = true; fixed_row = true })

-- a sheet: B2 has an alias and B3 another; A1 is the sum of the alias, of B2 and of `$B$2`, and A2 of an area; W.x is the
-- sum of both aliases, and W.width is of W alone
abbrev pub aliased_sheet : List ℕ → Document
aliased_sheet alias =
    document_of
    (record (bare_object (codes "S") Sheet) {
      cells =
          cell_of 1 1 (Bound (aggregate Sum (tree (path (here (Plain alias))) (tree (path (here (Plain (codes "B2")))) (tree (path (here marked)) no_more)))))
          ∷ cell_of 1 2 (Bound (aggregate Sum (cells (record { from = place_at 2 2; to = place_at 2 3 }) no_more)))
          ∷ (place_at 2 2, record { content = Some (Own (plain 1)); alias = Some alias; extra = [] })
          ∷ (place_at 2 3, record { content = Some (Own (plain 2)); alias = Some (codes "depth"); extra = [] })
          ∷ [];
    }
    ∷ varset_of (codes "W")
    (float (codes "x") (plus (of_name (codes "S") (Plain alias)) (of_name (codes "S") (Plain (codes "depth"))))
    ∷ float (codes "width") (Own two) ∷ float (codes "y") (Bound (path (here (Plain (codes "width"))))) ∷ [])
    ∷ [])

-- a relabelling follows the paths by the label, texts and names of other objects aside
pub record RelabellingsWork : Type 0 where
  pub document : renamed (two_varsets (codes "L") (codes "w")) (object (codes "V")) (codes "M") ≡ two_varsets (codes "M") (codes "w")
  pub count : refs (two_varsets (codes "L") (codes "w")) (object (codes "V")) ≡ 1
  pub other : renamed (named_as_label (codes "L")) (object (codes "V")) (codes "M") ≡ named_as_label (codes "M")
  pub other_count : refs (named_as_label (codes "L")) (object (codes "V")) ≡ 1
  pub unnamed : renamed (unnamed_slot (codes "L")) (object (codes "V")) (codes "M") ≡ unnamed_slot (codes "M")
  pub unnamed_count : refs (unnamed_slot (codes "L")) (object (codes "V")) ≡ 1
  pub slot : moved_slot (two_varsets (codes "L") (codes "w")) (object (codes "V")) (codes "M") (named (codes "V") (codes "V")) ≡ named (codes "V") (codes "V")
  pub label : with_label (named_as_label (codes "L")) (codes "L") (codes "N") ≡ document_of (record (varset_of (codes "L") (float (codes "w") (Own two) ∷ [])) { label = codes "N" } ∷ drop 1 (named_as_label (codes "L")).objects)

-- a new name of a property is followed by the paths to its slots, by label, by name, from its object and through links, and
-- by the overrides of its slots
pub record PropertyRenamesWork : Type 0 where
  pub document : renamed (two_varsets (codes "L") (codes "w")) (property (codes "V") (codes "w")) (codes "b") ≡ two_varsets (codes "L") (codes "b")
  pub count : refs (two_varsets (codes "L") (codes "w")) (property (codes "V") (codes "w")) ≡ 3
  pub linked :
      renamed (linked_varsets (codes "Width") ((Plain (codes "Depth"), own_depth) ∷ (Plain (codes "Width"), of_depth) ∷ [])) (property (codes "V") (codes "Width")) (codes "Breadth")
      ≡ linked_varsets (codes "Breadth") ((Plain (codes "Breadth"), of_depth) ∷ (Plain (codes "Depth"), own_depth) ∷ [])
  pub linked_count : refs (linked_varsets (codes "Width") ((Plain (codes "Depth"), own_depth) ∷ (Plain (codes "Width"), of_depth) ∷ [])) (property (codes "V") (codes "Width")) ≡ 2
  pub linked_slots :
      map (moved_slot (linked_varsets (codes "Width") []) (property (codes "V") (codes "Width")) (codes "Breadth"))
      (named (codes "V") (codes "Width") ∷ named (codes "L2") (codes "Width") ∷ named (codes "U") (codes "Width") ∷ named (codes "L1") (codes "Depth") ∷ [])
      ≡ named (codes "V") (codes "Breadth") ∷ named (codes "L2") (codes "Breadth") ∷ named (codes "U") (codes "Width") ∷ named (codes "L1") (codes "Depth") ∷ []
  pub placed :
      renamed (placed_varset (codes "P") ((Plain (codes "P2"), own_depth) ∷ (Component (codes "P") X, Own (mm 4)) ∷ (Component (codes "P") Y, Own (mm 5)) ∷ [])) (property (codes "V") (codes "P")) (codes "A")
      ≡ placed_varset (codes "A") ((Plain (codes "P2"), own_depth) ∷ (Component (codes "A") X, Own (mm 4)) ∷ (Component (codes "A") Y, Own (mm 5)) ∷ [])
  pub placed_count : refs (placed_varset (codes "P") []) (property (codes "V") (codes "P")) ≡ 2
  pub status :
      with_status (document_of (varset_of (codes "V") (float (codes "a") (Own two) ∷ float (codes "b") (Own two) ∷ []) ∷ varset ∷ [])) (codes "V") (codes "b") (record { read_only = true; hidden = false })
      ≡ document_of (varset_of (codes "V") (float (codes "a") (Own two) ∷ record (float (codes "b") (Own two)) { status = record { read_only = true; hidden = false } } ∷ []) ∷ varset ∷ [])

-- a new alias is followed by the paths that are spelled by the old one and name the cell; those by its address stay
pub record AliasRenamesWork : Type 0 where
  pub document : renamed (aliased_sheet (codes "width")) (cell (codes "S") (place_at 2 2)) (codes "height") ≡ aliased_sheet (codes "height")
  pub count : refs (aliased_sheet (codes "width")) (cell (codes "S") (place_at 2 2)) ≡ 2
  pub other : refs (aliased_sheet (codes "width")) (cell (codes "S") (place_at 1 1)) ≡ 0
