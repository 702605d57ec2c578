-- Which fault comes first where two meet, worked out.
use Rattle.std.specs.Prelude.{◌≡◌, ℕ, true, false, List, [], ◌∷◌, ◌++◌, Some, None, codes}
use Rattle.object_paths.specs.declared.slot_name.SlotName.{SlotName}
use Rattle.object_paths.specs.declared.slot_name.SlotName.TheVariants.{Plain}
use Rattle.property_types.specs.declared.prop_type.PropType.TheVariants.{Float, Bool, Length, String}
use Rattle.property_types.specs.declared.value.Value.TheVariants.{Flag, Text}
use Rattle.expr_tree.specs.Tree.{flag, text}
use Rattle.document_model.specs.declared.content.Content.{Content}
use Rattle.document_model.specs.declared.content.Content.TheVariants.{Own, Bound}
use Rattle.document_model.specs.declared.kind.ObjectKind.TheVariants.{Feature}
use Rattle.document_model.specs.Document.{Document, Object}
use Rattle.document_model.specs.Examples.{bare_object, document_of}
use Rattle.document_model.specs.LinkedBox.{mm, box, first_three}
use Rattle.document_model.specs.WorkedObjects.{compound}
use Rattle.document_outcomes.specs.Faults.{first_fault}
use Rattle.document_outcomes.specs.WorkedFaults.{nested, with_float}
use Rattle.document_outcomes.specs.WorkedLinks.{link_to, target, found}
use Rattle.document_outcomes.specs.WorkedParts.{whole, numeral, its, of_object, property, var_set}

-- an object with another label
abbrev pub with_label : List ℕ → Object → Object
with_label label o = record o { label = label }

-- V has `c`, which is `nothing`
abbrev pub unknown : Object
unknown = var_set (codes "V") (property Float (codes "c") (Bound (its (codes "nothing"))) ∷ [])

-- a link to itself
abbrev pub ring : Object
ring = link_to (codes "L") (codes "L") []

-- a link to V with these overrides
abbrev pub to_v : List (SlotName × Content) → Object
to_v overrides = link_to (codes "L") (codes "V") overrides

-- an expression too large comes before a label that is taken, that before a link that leads back to
-- itself, that before an unknown reference of an earlier object, and a cycle before an earlier slot
-- without a sort
pub record KindsOfFaultsWork : Type 0 where
  pub size_before_label :
      first_fault (document_of (var_set (codes "V") (property Float (codes "a") (Bound (nested 34)) ∷ []) ∷ with_label (codes "V") (var_set (codes "W") []) ∷ []))
      ≡ Some (found 29 [])
  pub label_before_link : first_fault (document_of (ring ∷ with_label (codes "L") (var_set (codes "W") []) ∷ [])) ≡ Some (found 6 (codes "W"))
  pub link_before_reference : first_fault (document_of (unknown ∷ ring ∷ [])) ≡ Some (found 23 (codes "L"))
  pub links_and_compounds : first_fault (document_of (target ∷ compound (codes "C") (codes "V") [] ∷ ring ∷ [])) ≡ Some (found 23 (codes "C"))
  pub size_of_override : first_fault (document_of (target ∷ to_v ((Plain (codes "a"), Bound (nested 34)) ∷ []) ∷ [])) ≡ Some (found 29 [])
  pub cycle_before_sort :
      first_fault (document_of (var_set (codes "V") (property Float (codes "a") (Bound (flag true)) ∷ property Float (codes "b") (Bound (its (codes "b"))) ∷ []) ∷ []))
      ≡ Some (found 14 (codes "V.b"))
  pub first_label :
      first_fault (document_of (with_label (codes "X") (var_set (codes "V") []) ∷ with_label (codes "X") (var_set (codes "W") []) ∷ with_label (codes "X") (var_set (codes "U") []) ∷ []))
      ≡ Some (found 6 (codes "W"))

-- in one object its target comes first, then an override of no slot, by slot name, then a slot with an
-- unknown reference; and an object comes before those behind it
pub record ReferenceFaultsWork : Type 0 where
  pub override_before_slot :
      first_fault (document_of (target ∷ to_v ((Plain (codes "a"), Bound (its (codes "nothing"))) ∷ (Plain (codes "z"), Own (whole 1)) ∷ []) ∷ []))
      ≡ Some (found 12 (codes "L.z"))
  pub first_override :
      first_fault (document_of (target ∷ to_v ((Plain (codes "y"), Own (whole 1)) ∷ (Plain (codes "z"), Own (whole 1)) ∷ []) ∷ []))
      ≡ Some (found 12 (codes "L.y"))
  pub output :
      first_fault (document_of (box ∷ link_to (codes "L") (codes "Box") ((Plain (codes "Volume"), Own (whole 1)) ∷ []) ∷ [])) ≡ Some (found 12 (codes "L.Volume"))
  pub own_slot :
      first_fault (document_of (box ∷ link_to (codes "L") (codes "Box") ((Plain (codes "LinkTransform"), Own (Flag true)) ∷ []) ∷ []))
      ≡ Some (found 12 (codes "L.LinkTransform"))
  pub target_before_override : first_fault (document_of (to_v ((Plain (codes "z"), Own (whole 1)) ∷ []) ∷ [])) ≡ Some (found 12 (codes "L"))
  pub slot_of_override :
      first_fault (document_of (target ∷ to_v ((Plain (codes "a"), Bound (its (codes "nothing"))) ∷ []) ∷ [])) ≡ Some (found 12 (codes "L.a"))
  pub object_by_object :
      first_fault (document_of (unknown ∷ link_to (codes "L") (codes "W") [] ∷ [])) ≡ Some (found 12 (codes "V.c"))
  pub area_outside_sheet :
      first_fault (document_of (var_set (codes "V") (property Float (codes "a") (Bound first_three) ∷ []) ∷ [])) ≡ Some (found 12 (codes "V.a"))
  pub no_member : first_fault (document_of (compound (codes "C") (codes "Box") [] ∷ [])) ≡ Some (found 12 (codes "C"))

-- what is given to a slot has the slot's sort: a flag a Bool, a text a String, and a number of no unit
-- or of its own a Length; else, and of an override of another kind, there is a fault
pub record SortFaultsWork : Type 0 where
  pub flag_given : first_fault (document_of (var_set (codes "V") (property Bool (codes "f") (Bound (flag true)) ∷ []) ∷ [])) ≡ None
  pub text_given : first_fault (document_of (var_set (codes "V") (property String (codes "t") (Bound (text (codes "a"))) ∷ []) ∷ [])) ≡ None
  pub number_for_text :
      first_fault (document_of (var_set (codes "V") (property String (codes "t") (Bound (numeral 1)) ∷ []) ∷ [])) ≡ Some (found 16 (codes "V.t"))
  pub length_for_float :
      first_fault (document_of (var_set (codes "V") (property Length (codes "l") (Own (mm 1)) ∷ property Float (codes "a") (Bound (its (codes "l"))) ∷ []) ∷ []))
      ≡ Some (found 15 (codes "V.a"))
  pub text_in_override :
      first_fault (document_of (target ∷ to_v ((Plain (codes "a"), Own (Text (codes "t"))) ∷ []) ∷ [])) ≡ Some (found 16 (codes "L.a"))
  pub inherited_sort :
      first_fault (document_of (var_set (codes "V") (property Length (codes "l") (Own (mm 1)) ∷ []) ∷ to_v [] ∷ var_set (codes "W") (property Float (codes "a") (Bound (of_object (codes "L") (codes "l"))) ∷ []) ∷ []))
      ≡ Some (found 15 (codes "W.a"))
