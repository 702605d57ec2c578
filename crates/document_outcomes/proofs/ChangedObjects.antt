-- Where the objects of a document are changed one by one, and keep what names others, names lead to the objects that they
-- led to, changed.
use Rattle.std.proofs.Common.{◌≡◌, ℕ, zero, suc, false, List, map, length, Some, None, refl, ap, ◌∙◌}
use Rattle.std.specs.Prelude.{Option}
use Rattle.std.specs.List.{find}
use Rattle.std.specs.Option.{option_map, option_and_then, option_map_or}
use Rattle.std.proofs.lemmas.List.{length-map}
use Rattle.object_paths.specs.Slots.{same_text}
use Rattle.property_types.specs.Plans.{Slots}
use Rattle.document_model.specs.declared.kind.ObjectKind.{ObjectKind}
use Rattle.document_model.specs.declared.kind.ObjectKind.TheVariants.{VarSet, Sheet, Link, Feature, Foreign}
use Rattle.document_model.specs.Document.{Document, Object, object_named}
use Rattle.document_model.specs.Ends.{end_from, end_along, end_of, plan_of_kind, plan_behind, has_bounds}
use Rattle.document_outcomes.proofs.ChangedLists.{find-changed}

module _ (d d' : Document) (change : Object → Object) where
  -- The objects are the old ones, changed, and each keeps its name, kind, target and members.
  pub record ChangesObjects : Type 0 where
    pub objects : d'.objects ≡ map change d.objects
    pub name : (o : Object) → (change o).name ≡ o.name
    pub kind : (o : Object) → (change o).kind ≡ o.kind
    pub target : (o : Object) → (change o).target ≡ o.target
    pub members : (o : Object) → (change o).members ≡ o.members

module _ (d d' : Document) (change : Object → Object) (b : ChangesObjects d d' change) where
  pub object_named-new : (name : List ℕ) → object_named d' name ≡ option_map change (object_named d name)
  object_named-new name =
      ap (find (λ (o : Object). same_text o.name name)) b.objects
      ∙ find-changed change (λ (o : Object). same_text o.name name) (λ (o : Object). same_text o.name name) d.objects
      (λ o j. ap (λ (n : List ℕ). same_text n name) (b.name o))

  -- ---- ends
  from-kind :
      (beyond beyond' : Option (List ℕ) → Option Object) → ((t : Option (List ℕ)) → beyond' t ≡ option_map change (beyond t))
      → (o : Object) (k : ObjectKind) → end_from beyond' (change o) k ≡ option_map change (end_from beyond o k)
  from-kind beyond beyond' alike o VarSet = refl
  from-kind beyond beyond' alike o Sheet = refl
  from-kind beyond beyond' alike o Link = ap beyond' (b.target o) ∙ alike o.target
  from-kind beyond beyond' alike o (Feature plan) = refl
  from-kind beyond beyond' alike o (Foreign type) = refl

  from-object :
      (beyond beyond' : Option (List ℕ) → Option Object) → ((t : Option (List ℕ)) → beyond' t ≡ option_map change (beyond t))
      → (o : Object) → end_from beyond' (change o) (change o).kind ≡ option_map change (end_from beyond o o.kind)
  from-object beyond beyond' alike o = ap (end_from beyond' (change o)) (b.kind o) ∙ from-kind beyond beyond' alike o o.kind

  from-found :
      (beyond beyond' : Option (List ℕ) → Option Object) → ((t : Option (List ℕ)) → beyond' t ≡ option_map change (beyond t))
      → (found : Option Object)
      → option_and_then (λ (o : Object). end_from beyond' o o.kind) (option_map change found)
      ≡ option_map change (option_and_then (λ (o : Object). end_from beyond o o.kind) found)
  from-found beyond beyond' alike None = refl
  from-found beyond beyond' alike (Some o) = from-object beyond beyond' alike o

  end_along-new : (n : ℕ) (t : Option (List ℕ)) → end_along d' n t ≡ option_map change (end_along d n t)
  end_along-new zero t = refl
  end_along-new (suc n) None = refl
  end_along-new (suc n) (Some name) =
      ap (option_and_then (λ (o : Object). end_from (end_along d' n) o o.kind)) (object_named-new name)
      ∙ from-found (end_along d n) (end_along d' n) (end_along-new n) (object_named d name)

  objects-length : length d'.objects ≡ length d.objects
  objects-length = ap length b.objects ∙ length-map d.objects change

  pub end_of-new : (o : Object) → end_of d' (change o) ≡ option_map change (end_of d o)
  end_of-new o =
      ap (λ (n : ℕ). end_from (end_along d' n) (change o) (change o).kind) objects-length
      ∙ from-object (end_along d (length d.objects)) (end_along d' (length d.objects)) (end_along-new (length d.objects)) o

  plan-of : (found : Option Object) → option_and_then (λ (e : Object). plan_of_kind e.kind) (option_map change found) ≡ option_and_then (λ (e : Object). plan_of_kind e.kind) found
  plan-of None = refl
  plan-of (Some e) = ap plan_of_kind (b.kind e)

  pub plan_behind-new : (o : Object) → plan_behind d' (change o) ≡ plan_behind d o
  plan_behind-new o = ap (option_and_then (λ (e : Object). plan_of_kind e.kind)) (end_of-new o) ∙ plan-of (end_of d o)

  pub has_bounds-new : (o : Object) → has_bounds d' (change o) ≡ has_bounds d o
  has_bounds-new o = ap (λ (plan : Option Slots). option_map_or (λ (p : Slots). p.placed) plan false) (plan_behind-new o)
