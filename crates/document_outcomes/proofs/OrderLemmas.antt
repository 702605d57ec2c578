-- Where slots stand in an order, each behind its dependencies, none depends on itself; and what is
-- evaluated in that order is the full outcome.
use Rattle.std.proofs.Common.{◌≡◌, ◌⊎◌, inl, inr, true, false, List, [], ◌∷◌, refl, subst}
use Rattle.fc_base.specs.Graph.{IsIn, Reaches, direct, onward, Closed, IsOrdered, EvaluatesAll}
use Rattle.fc_base.proofs.GraphLemmas.{settles_in_order}
use Rattle.object_paths.specs.Slots.{Slot}
use Rattle.property_types.specs.Values.{Outcome}
use Rattle.expr_eval.specs.SortRows.{SortOutcome}
use Rattle.document_model.specs.Document.{Document}
use Rattle.document_model.specs.Dependencies.{deps}
use Rattle.document_model.specs.Slots.{slots}
use Rattle.document_outcomes.specs.Cycles.{is_cyclic, HasNoCycle}
use Rattle.document_outcomes.specs.Full.{Meanings, local, full}
use Rattle.document_outcomes.specs.Sorts.{local_sort, sort}
use Rattle.document_outcomes.proofs.CycleLemmas.{cyclic-reaches}
use Rattle.document_outcomes.proofs.FullLemmas.{full-is, sort-is}
use Rattle.document_outcomes.proofs.OutcomeLemmas.{local-reads}
use Rattle.document_outcomes.proofs.SortLemmas.{local_sort-reads}

module _ {S : Type 0} (deps : S → List S) where
  -- what depends on a closed list alone reaches nothing outside it
  reaches-seen : (seen : List S) (s t : S) → Closed deps seen → ((d : S) → IsIn d (deps s) → IsIn d seen) → Reaches deps s t → IsIn t seen
  reaches-seen seen s t closed first (direct i) = first t i
  reaches-seen seen s t closed first (onward {t = u} r i) = closed u t (reaches-seen seen s u closed first r) i

  ordered-acyclic :
      (ss seen : List S) → IsOrdered deps seen ss → Closed deps seen → ((s : S) → IsIn s seen → Reaches deps s s → ⊥)
      → (s : S) → (IsIn s ss ⊎ IsIn s seen) → Reaches deps s s → ⊥
  ordered-acyclic [] seen ordered closed none s (inl i) = absurd i
  ordered-acyclic [] seen ordered closed none s (inr i) = none s i
  ordered-acyclic (x ∷ ss) seen ordered closed none s i =
      ordered-acyclic ss (x ∷ seen) ordered.2
      (λ t d. elim [
        | inl e ↦ λ j. inr (ordered.0 d (subst (λ (q : S). IsIn d (deps q)) e j))
        | inr h ↦ λ j. inr (closed t d h j)
      ])
      (λ t. elim [
        | inl e ↦ λ r. ordered.1 (reaches-seen seen x x closed ordered.0 (subst (λ (q : S). Reaches deps q q) e r))
        | inr h ↦ none t h
      ])
      s (moved i)
    where
      moved : (IsIn s (x ∷ ss) ⊎ IsIn s seen) → IsIn s ss ⊎ IsIn s (x ∷ seen)
      moved (inl (inl e)) = inr (inl e)
      moved (inl (inr j)) = inl j
      moved (inr j) = inr (inr j)

module _ (d : Document) (order : List Slot) (ordered : IsOrdered (deps d) [] order) (all : (s : Slot) → IsIn s (slots d) → IsIn s order) where
  pub ordered-no_cycle : HasNoCycle d
  ordered-no_cycle s here =
      elim (is_cyclic d s) as (λ b. is_cyclic d s ≡ b → b ≡ false) [
        | true ↦ λ e. absurd (ordered-acyclic (deps d) order [] ordered (λ t q i. absurd i) (λ t i. absurd i) s (inl (all s here)) (cyclic-reaches d s e))
        | false ↦ λ e. refl
      ] refl

  pub evaluated-full :
      (m : Meanings) (v w : Slot → Outcome) → EvaluatesAll (local m d) order v w → (s : Slot) → IsIn s (slots d) → full m d s ≡ w s
  evaluated-full m v w evaluates =
      full-is d ordered-no_cycle m w (λ s here. settles_in_order (deps d) (local m d) (local-reads m d) order v w ordered evaluates s (all s here))

  pub evaluated-sort :
      (v w : Slot → SortOutcome) → EvaluatesAll (local_sort d) order v w → (s : Slot) → IsIn s (slots d) → sort d s ≡ w s
  evaluated-sort v w evaluates =
      sort-is d ordered-no_cycle w (λ s here. settles_in_order (deps d) (local_sort d) (local_sort-reads d) order v w ordered evaluates s (all s here))
