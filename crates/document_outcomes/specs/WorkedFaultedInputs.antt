-- Features and links with faults among what they read, worked out.
use Rattle.std.specs.Prelude.{◌≡◌, ℕ, pos, true, false, List, [], ◌∷◌, ◌++◌, map, None, Err, codes}
use Rattle.object_paths.specs.declared.slot_name.Component.TheVariants.{X, Y, Z, Turn}
use Rattle.object_paths.specs.declared.slot_name.SlotName.{SlotName}
use Rattle.object_paths.specs.declared.slot_name.SlotName.TheVariants.{Plain, Component}
use Rattle.property_types.specs.declared.value.Value.TheVariants.{Flag}
use Rattle.property_types.specs.declared.value.ValueFault.TheVariants.{Range, DivideByZero}
use Rattle.expr_tree.specs.declared.operators.BinaryOp.TheVariants.{Over, Times}
use Rattle.expr_tree.specs.Tree.{Tree, literal, binary}
use Rattle.document_model.specs.declared.content.Content.{Content}
use Rattle.document_model.specs.declared.content.Content.TheVariants.{Own, Bound}
use Rattle.document_model.specs.declared.kind.ObjectKind.TheVariants.{Feature}
use Rattle.document_model.specs.Document.{Document, Object}
use Rattle.document_model.specs.Examples.{bare_object, document_of}
use Rattle.document_model.specs.LinkedBox.{mm, plain, origin, box_plan, named}
use Rattle.document_outcomes.specs.Called.{Entry, called, input_lists}
use Rattle.document_outcomes.specs.Full.{full}
use Rattle.document_outcomes.specs.WorkedLinks.{echo, global_x, link_to}
use Rattle.document_outcomes.specs.WorkedParts.{numeral}

-- `1 / 0`, and ten times the greatest amount
abbrev pub by_zero : Tree
by_zero = binary Over (numeral 1) (numeral 0)

abbrev pub too_great : Tree
too_great = binary Times (literal (pos 10000000000000000000000000000) None) (numeral 10)

-- a box whose Length is divided by zero and whose Width is too great
abbrev pub faulted_box : Object
faulted_box = record (bare_object (codes "Box") (Feature box_plan)) {
  inputs = (Plain (codes "Length"), Bound by_zero) ∷ (Plain (codes "Width"), Bound too_great) ∷ (Plain (codes "Height"), Own (mm 1)) ∷ origin;
}

-- a box whose x is divided by zero
abbrev pub lost_box : Object
lost_box = record (bare_object (codes "Box") (Feature box_plan)) {
  inputs =
      (Plain (codes "Length"), Own (mm 1)) ∷ (Plain (codes "Width"), Own (mm 1)) ∷ (Plain (codes "Height"), Own (mm 1))
      ∷ (Component (codes "Placement") X, Bound by_zero) ∷ (Component (codes "Placement") Y, Own (mm 0))
      ∷ (Component (codes "Placement") Z, Own (mm 0)) ∷ (Component (codes "Placement") Turn, Own (plain 0)) ∷ [];
}

-- an output has the first fault of the input list, and the feature is not called; a link that leaves its
-- target's placement aside has the target's faults all the same
pub record FaultedInputsWork : Type 0 where
  pub first : full echo (document_of (faulted_box ∷ [])) (named (codes "Box") (codes "Volume")) ≡ Err DivideByZero
  pub not_called : called echo [] (document_of (faulted_box ∷ [])) ≡ []
  pub placed_by_target : full echo (document_of (lost_box ∷ link_to (codes "L") (codes "Box") [] ∷ [])) (global_x (codes "L")) ≡ Err DivideByZero
  pub link_not_called : map (λ (e : Entry). e.object) (input_lists echo (document_of (lost_box ∷ link_to (codes "L") (codes "Box") [] ∷ []))) ≡ []
