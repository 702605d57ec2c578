-- What stands in a typed slot has the type's sort where it has one, and so has what it gives.
use Rattle.std.proofs.Common.{◌≡◌, ◌⊎◌, inl, inr, ℕ, ℤ, true, false, ◌||◌, cond, List, [], ◌∷◌, map, Some, None, Ok, refl, sym, ◌∙◌, ap, subst}
use Rattle.std.specs.Prelude.{Option, Err, slice_get}
use Rattle.std.specs.Option.{option_and_then}
use Rattle.std.specs.Cmp.Rules.{signed_items}
use Rattle.std.proofs.lemmas.Bool.{or_cases}
use Rattle.fc_base.specs.Graph.{IsIn}
use Rattle.unit_signatures.specs.Units.{pure}
use Rattle.object_paths.specs.Slots.{Slot}
use Rattle.quantities.specs.declared.quantity.Quantity.{Quantity}
use Rattle.property_types.specs.declared.prop_type.PropType.{PropType}
use Rattle.property_types.specs.declared.prop_type.Sort.{Sort}
use Rattle.property_types.specs.declared.prop_type.Sort.TheVariants.{Number, Flag, Text}
use Rattle.property_types.specs.declared.value.Value.{Value}
use Rattle.property_types.specs.declared.value.Value.TheVariants as value
use Rattle.property_types.specs.Fits.{fit, CanFit, CanFitNumber}
use Rattle.property_types.specs.Sorts.{sort_of_value}
use Rattle.property_types.specs.Types.{sort_of_type}
use Rattle.property_types.specs.Values.{Outcome, same_unit}
use Rattle.property_types.proofs.Fitting.{fitted-sort}
use Rattle.expr_tree.specs.References.{Reference, references}
use Rattle.expr_tree.specs.Tree.{Tree}
use Rattle.expr_eval.specs.declared.sort_cause.SortCause.TheVariants.{UnitMismatch}
use Rattle.expr_eval.specs.Kinds.{IsOfSort, AreOfSorts, Agrees}
use Rattle.expr_eval.specs.SortRows.{SortOutcome, one_sort, one_unit}
use Rattle.document_model.specs.Document.{Document, Object}
use Rattle.document_model.specs.Dependencies.{slot_reached, cells_reached, slots_of_tree}
use Rattle.document_outcomes.specs.Full.{at_slot, in_cells, reading, fitted}
use Rattle.document_outcomes.specs.Sorts.{sort_at, sorts_in_cells, sort_reading, number_given, given_sort, bound_sort, own_sort}
use Rattle.document_outcomes.proofs.AgreementLemmas.{from_slice_get, reached-in, cells-in}

one_unit-is : (u v : List ℤ) (k : Sort) → one_unit u v ≡ Ok k → (k ≡ Number u) × (u ≡ v)
one_unit-is u v k h =
    elim (same_unit u v) as (λ b. same_unit u v ≡ b → cond b (Ok (Number u)) (Err UnitMismatch) ≡ Ok k → (k ≡ Number u) × (u ≡ v)) [
      | true ↦ λ e g. (cc, (signed_items u v).0 e)
      | false ↦ λ e g. absurd (cc)
    ] refl h

pub one_sort-is : (a b k : Sort) → one_sort a b ≡ Ok k → (k ≡ a) × (b ≡ a)
one_sort-is (Number u) (Number v) k h = let r = one_unit-is u v k h in (r.0, ap Number (sym r.1))
one_sort-is Flag Flag k h = (cc, refl)
one_sort-is Text Text k h = (cc, refl)
one_sort-is _ _ k h = absurd (cc)

number_given-is : (u v : List ℤ) (k : Sort) → number_given u v ≡ Ok k → (k ≡ Number u) × ((v ≡ u) ⊎ (v ≡ pure))
number_given-is u v k h =
    elim (same_unit u v || same_unit pure v)
    as (λ b. (same_unit u v || same_unit pure v) ≡ b → cond b (Ok (Number u)) (Err UnitMismatch) ≡ Ok k → (k ≡ Number u) × ((v ≡ u) ⊎ (v ≡ pure))) [
      | true ↦ λ e g. (
        cc,
        elim (or_cases (same_unit u v) (same_unit pure v) e) [
          | inl x ↦ inl (sym ((signed_items u v).0 x))
          | inr x ↦ inr (sym ((signed_items pure v).0 x))
        ],
      )
      | false ↦ λ e g. absurd (cc)
    ] refl h

pub given_sort-is : (a b k : Sort) → given_sort a b ≡ Ok k → k ≡ a
given_sort-is (Number u) (Number v) k h = (number_given-is u v k h).0
given_sort-is Flag Flag k h = cc
given_sort-is Text Text k h = cc
given_sort-is _ _ k h = absurd (cc)

-- what may be given to a sort can be fitted
given-number : (a : Sort) (q : Quantity) (k : Sort) → given_sort a (Number q.unit) ≡ Ok k → CanFitNumber a q
given-number (Number u) q k h = (number_given-is u q.unit k h).1
given-number Flag q k h = absurd (cc)
given-number Text q k h = absurd (cc)

given-flag : (a k : Sort) → given_sort a Flag ≡ Ok k → a ≡ Flag
given-flag (Number u) k h = absurd (cc)
given-flag Flag k h = refl
given-flag Text k h = absurd (cc)

given-text : (a k : Sort) → given_sort a Text ≡ Ok k → a ≡ Text
given-text (Number u) k h = absurd (cc)
given-text Flag k h = absurd (cc)
given-text Text k h = refl

given-fits : (type : PropType) (v : Value) (k : Sort) → given_sort (sort_of_type type) (sort_of_value v) ≡ Ok k → CanFit type v
given-fits type (value.Number q) k h = given-number (sort_of_type type) q k h
given-fits type (value.Flag b) k h = given-flag (sort_of_type type) k h
given-fits type (value.Text t) k h = given-text (sort_of_type type) k h

fit-is : (type : PropType) (f : Sort) (v : Value) (r : Outcome) → sort_of_value v ≡ f → fit type v ≡ r → IsOfSort (given_sort (sort_of_type type) f) r
fit-is type f v (Err fault) same h = tt
fit-is type f v (Ok w) same h = λ k e.
    let g : given_sort (sort_of_type type) (sort_of_value v) ≡ Ok k = subst (λ (q : Sort). given_sort (sort_of_type type) q ≡ Ok k) (sym same) e in
    fitted-sort type v w (given-fits type v k g) h ∙ sym (given_sort-is (sort_of_type type) (sort_of_value v) k g)

-- an expression of a sort, in a slot
pub bound-of_sort : (type : Option PropType) (found : SortOutcome) (given : Outcome) → IsOfSort found given → IsOfSort (bound_sort type found) (fitted type given)
bound-of_sort None found given h = h
bound-of_sort (Some type) found (Err fault) h = tt
bound-of_sort (Some type) (Ok f) (Ok v) h = fit-is type f v (fit type v) (h f refl) refl
bound-of_sort (Some type) (Err cause) (Ok v) h = no_sort (fit type v)
  where
    no_sort : (r : Outcome) → IsOfSort (Err cause) r
    no_sort (Ok w) = λ k e. absurd (cc)
    no_sort (Err fault) = tt

-- an own value in a slot
pub own-of_sort : (type : Option PropType) (v : Value) → IsOfSort (own_sort type v) (Ok v)
own-of_sort None v = λ k e. cc
own-of_sort (Some type) v = λ k e. let r = one_sort-is (sort_of_type type) (sort_of_value v) k e in r.1 ∙ sym r.0

map-of_sorts : (v : Slot → SortOutcome) (w : Slot → Outcome) (ss : List Slot) → ((s : Slot) → IsIn s ss → IsOfSort (v s) (w s)) → AreOfSorts (map v ss) (map w ss)
map-of_sorts v w [] h = tt
map-of_sorts v w (s ∷ ss) h = (h s (inl refl), map-of_sorts v w ss (λ t i. h t (inr i)))

-- what an expression reads is of the sorts there, where the slots that it names are
module _ (d : Document) (o : Object) (e : Tree) (v : Slot → SortOutcome) (w : Slot → Outcome)
    (each : (s : Slot) → IsIn s (slots_of_tree d o e) → IsOfSort (v s) (w s)) where
  reached-of_sort : (r : Reference) (s : Option Slot) → IsIn r (references e) → slot_reached d o r ≡ s → IsOfSort (sort_at v s) (at_slot w s)
  reached-of_sort r None here reached = tt
  reached-of_sort r (Some s) here reached = each s (reached-in d o e r s here reached)

  at-of_sort :
      (k : ℕ) (r : Option Reference) → slice_get (references e) k ≡ r
      → IsOfSort (sort_at v (option_and_then (slot_reached d o) r)) (at_slot w (option_and_then (slot_reached d o) r))
  at-of_sort k None here = tt
  at-of_sort k (Some r) here = reached-of_sort r (slot_reached d o r) (from_slice_get (references e) k r here) refl

  inside-of_sorts : (k : ℕ) (r : Option Reference) → slice_get (references e) k ≡ r → AreOfSorts (sorts_in_cells d o v r) (in_cells d o w r)
  inside-of_sorts k None here = tt
  inside-of_sorts k (Some r) here =
      map-of_sorts v w (cells_reached d o r) (λ s i. each s (cells-in d o e r s (from_slice_get (references e) k r here) i))

  pub readings-agree : Agrees (sort_reading d o e v) (reading d o e w)
  readings-agree = record {
    at = λ k. at-of_sort k (slice_get (references e) k) refl;
    inside = λ k. inside-of_sorts k (slice_get (references e) k) refl;
  }
