-- Where two maps agree on what a list of slots has, so do all that is made of it.
use Rattle.std.proofs.Common.{◌≡◌, inl, inr, ℕ, zero, suc, List, [], ◌∷◌, map, Some, None, refl}
use Rattle.std.specs.Prelude.{Option, slice_get}
use Rattle.std.specs.List.{flat_map}
use Rattle.std.specs.Option.{option_map_or, option_to_list}
use Rattle.fc_base.specs.Graph.{IsIn}
use Rattle.object_paths.specs.Slots.{Slot}
use Rattle.expr_tree.specs.References.{Reference, references}
use Rattle.expr_tree.specs.Tree.{Tree}
use Rattle.document_model.specs.Document.{Document, Object, object_named}
use Rattle.document_model.specs.Slots.{rule_of}
use Rattle.document_model.specs.Dependencies.{slot_reached, cells_reached, slots_of_tree, deps_by, deps}
use Rattle.document_model.proofs.Members.{IsIn-left, IsIn-right, IsIn-flat_map}

-- the maps agree on each of a list
abbrev pub AgreeOn : {S O : Type 0} → List S → (S → O) → (S → O) → Type 0
AgreeOn {S} slots v w = (d : S) → IsIn d slots → v d ≡ w d

pub map-agreed : {S O : Type 0} (v w : S → O) (slots : List S) → AgreeOn slots v w → map v slots ≡ map w slots
map-agreed v w [] agree = refl
map-agreed v w (s ∷ ss) agree = λ i. agree s (inl refl) i ∷ map-agreed v w ss (λ d j. agree d (inr j)) i

-- what stands at a place stands in the list
pub from_slice_get : {A : Type 0} (xs : List A) (k : ℕ) (x : A) → slice_get xs k ≡ Some x → IsIn x xs
from_slice_get [] k x h = absurd (cc)
from_slice_get (y ∷ ys) zero x h = inl (cc)
from_slice_get (y ∷ ys) (suc k) x h = inr (from_slice_get ys k x h)

IsIn-to_list : {A : Type 0} (o : Option A) (x : A) → o ≡ Some x → IsIn x (option_to_list o)
IsIn-to_list None x h = absurd (cc)
IsIn-to_list (Some y) x h = inl (cc)

module _ (d : Document) (o : Object) (e : Tree) where
  -- the slot of a path of an expression, and the cells of an area of it, are slots of the expression
  pub reached-in : (r : Reference) (s : Slot) → IsIn r (references e) → slot_reached d o r ≡ Some s → IsIn s (slots_of_tree d o e)
  reached-in r s here reached =
      IsIn-left (flat_map (λ r. option_to_list (slot_reached d o r)) (references e)) (flat_map (cells_reached d o) (references e)) s
      (IsIn-flat_map (λ r. option_to_list (slot_reached d o r)) (references e) r s here (IsIn-to_list (slot_reached d o r) s reached))

  pub cells-in : (r : Reference) (s : Slot) → IsIn r (references e) → IsIn s (cells_reached d o r) → IsIn s (slots_of_tree d o e)
  cells-in r s here i =
      IsIn-right (flat_map (λ r. option_to_list (slot_reached d o r)) (references e)) (flat_map (cells_reached d o) (references e)) s
      (IsIn-flat_map (cells_reached d o) (references e) r s here i)

module _ {O : Type 0} (d : Document) (o : Object) (e : Tree) (v w : Slot → O) (agree : AgreeOn (slots_of_tree d o e) v w) where
  -- so two maps agree on the slot of a path
  pub agreed-path : (r : Reference) (s : Slot) → IsIn r (references e) → slot_reached d o r ≡ Some s → v s ≡ w s
  agreed-path r s here reached = agree s (reached-in d o e r s here reached)

  -- and on the cells of an area
  pub agreed-cells : (r : Reference) → IsIn r (references e) → map v (cells_reached d o r) ≡ map w (cells_reached d o r)
  agreed-cells r here = map-agreed v w (cells_reached d o r) (λ s i. agree s (cells-in d o e r s here i))

-- the dependencies are those of the rule, in the slot's object
pub deps-found : (d : Document) (s : Slot) → deps d s ≡ option_map_or (λ o. deps_by d o (rule_of d s)) (object_named d s.object) []
unfolding deps
deps-found d s = refl
