-- The dependencies of a held slot are the slots that its references name.
use Rattle.std.proofs.Common.{◌≡◌, ℕ, List, [], ◌∷◌, ◌++◌, map, Option, Some, None, IsSome, refl, sym, ap, subst, ◌∙◌, append-nil}
use Rattle.std.specs.List.{flat_map}
use Rattle.std.specs.Option.{option_and_then, option_map, option_map_or, option_to_list}
use Rattle.std.proofs.lemmas.Bool.{false≢true}
use Rattle.std.proofs.lemmas.Simd.{map-map}
use Rattle.fc_base.specs.declared.ids.SlotId.{SlotId}
use Rattle.object_paths.specs.Slots.{Slot}
use Rattle.expr_tree.specs.declared.reference.Reference as listed
use Rattle.expr_tree.specs.ListedReferences.{reference_of}
use Rattle.expr_tree.specs.References.{references}
use Rattle.expr_tree.specs.Tree.{Tree}
use Rattle.document_model.specs.declared.content.Content.{Content}
use Rattle.document_model.specs.declared.content.Content.TheVariants.{Own, Bound}
use Rattle.document_model.specs.declared.kind.ObjectKind.TheVariants.{VarSet}
use Rattle.document_model.specs.Dependencies.{deps, deps_by, cells_reached, slot_reached}
use Rattle.document_model.specs.Document.{Document, Object, object_named}
use Rattle.document_model.specs.Slots.{Rule, bound, rule_of, rule_of_content}
use Rattle.doc_tables.specs.declared.entry.SlotPlace.{SlotPlace}
use Rattle.doc_tables.specs.declared.tables.Tables.TheInside.{Inside}
use Rattle.doc_tables.specs.Accessors.{AreNumbersOf, AreReached, deps_at, reached_at, rule_at, slots_reached, tree_by}
use Rattle.doc_tables.specs.Entries.{present, reached_by}
use Rattle.doc_tables.specs.Held.{object_held, document_held, numbered_held, IsHeld}
use Rattle.doc_tables.specs.Numbered.{Numbered, name_at, slot_at}
use Rattle.doc_tables.proofs.HeldLemmas.{At, Named, Owned, Stands, at_number-held, object-found, rule-stands, slot_named}
use Rattle.doc_tables.proofs.VarSetLemmas.{cells-none}

-- what is there of the numbers are the numbers of what is there of the slots
pub present-numbers : (t : Numbered) (ids : List (Option SlotId)) (all : List (Option Slot)) → AreReached t ids all → AreNumbersOf t (present ids) (present all)
present-numbers t [] [] h = refl
present-numbers t [] (s ∷ all) h = absurd (cc)
present-numbers t (id ∷ ids) [] h = absurd (cc)
present-numbers t (None ∷ ids) (None ∷ all) h = present-numbers t ids all (cc)
present-numbers t (None ∷ ids) (Some s ∷ all) h = absurd (cc)
present-numbers t (Some id ∷ ids) (None ∷ all) h = absurd (cc)
present-numbers t (Some id ∷ ids) (Some s ∷ all) h =
    let here : slot_at t id.0 ≡ Some s = cc in
    let rest = present-numbers t ids all (cc) in
    λ j. here j ∷ rest j

flat-present : {A B : Type 0} (f : A → Option B) (xs : List A) → flat_map (λ x. option_to_list (f x)) xs ≡ present (map f xs)
flat-present f [] = refl
flat-present {A} {B} f (x ∷ xs) =
    elim (f x) as (λ o. option_to_list o ++ flat_map (λ y. option_to_list (f y)) xs ≡ present (o ∷ map f xs)) [
      | None ↦ flat-present f xs
      | Some y ↦ ap (λ (l : List B). y ∷ l) (flat-present f xs)
    ]

flat-none : {A B : Type 0} (f : A → List B) (xs : List A) → ((x : A) → f x ≡ []) → flat_map f xs ≡ []
flat-none f [] none = refl
flat-none {A} {B} f (x ∷ xs) none = ap (λ (l : List B). l ++ flat_map f xs) (none x) ∙ flat-none f xs none

-- by a content, the dependencies are what its references name
deps-by_content : (d : Document) (o : Object) → o.kind ≡ VarSet → (c : Content) → deps_by d o (Some (rule_of_content c)) ≡ present (option_map_or (λ (e : Tree). map (slot_reached d o) (references e)) (tree_by (rule_of_content c)) [])
deps-by_content d o kind (Own v) = refl
deps-by_content d o kind (Bound e) =
    ap (λ (l : List Slot). flat_map (λ r. option_to_list (slot_reached d o r)) (references e) ++ l) (flat-none (cells_reached d o) (references e) (cells-none d o kind))
    ∙ append-nil (flat_map (λ r. option_to_list (slot_reached d o r)) (references e))
    ∙ flat-present (slot_reached d o) (references e)

deps-of_rule : (d : Document) (s : Slot) (o : Object) (c : Content) → object_named d s.object ≡ Some o → rule_of d s ≡ Some (rule_of_content c) → deps d s ≡ deps_by d o (Some (rule_of_content c))
unfolding deps
deps-of_rule d s o c named rule = ap (λ (x : Option Object). option_map_or (λ (q : Object). deps_by d q (rule_of d s)) x []) named ∙ ap (deps_by d o) rule

-- what a held slot depends on
pub deps-of_property : (t : Inside) → IsHeld t → (p : SlotPlace) (o : Owned) (e : Named) → Stands t.objects.entries p o e
    → deps (document_held t.objects.entries) (slot_named o e)
    ≡ present (option_map_or (λ (x : Tree). map (slot_reached (document_held t.objects.entries) (object_held o)) (references x)) (tree_by (rule_of_content e.1.content)) [])
deps-of_property t held p o e stands =
    let d = document_held t.objects.entries in
    deps-of_rule d (slot_named o e) (object_held o) e.1.content (object-found t held p.object o stands.object) (rule-stands t held p o e stands)
    ∙ deps-by_content d (object_held o) refl e.1.content

module _ (t : Inside) (held : IsHeld t) (n : ℕ) (a : At t n) where
  named : object_named (document_held t.objects.entries) a.owner.0 ≡ Some (object_held a.owner)
  named = object-found t held (a.place).object a.owner a.stands.object

  ruled : rule_of (document_held t.objects.entries) (slot_named a.owner a.entry) ≡ Some (rule_of_content a.entry.1.content)
  ruled = rule-stands t held a.place a.owner a.entry a.stands

  reached : reached_at (numbered_held t) n ≡ option_map_or (λ (e : Tree). map (slot_reached (document_held t.objects.entries) (object_held a.owner)) (references e)) (tree_by (rule_of_content a.entry.1.content)) []
  reached =
      let d = document_held t.objects.entries in
      let s = slot_named a.owner a.entry in
      ap (λ (x : Option Slot). option_map_or (λ (q : Slot). option_map_or (slots_reached d q) (option_and_then tree_by (option_and_then (rule_of d) x)) []) x []) a.found
      ∙ ap (λ (x : Option Rule). option_map_or (slots_reached d s) (option_and_then tree_by x) []) ruled
      ∙ ap (λ (x : Option Object). option_map_or (λ (e : Tree). option_map_or (λ (o : Object). map (slot_reached d o) (references e)) x []) (tree_by (rule_of_content a.entry.1.content)) []) named

  pub deps-held : deps_at (numbered_held t) n ≡ present (reached_at (numbered_held t) n)
  deps-held =
      let d = document_held t.objects.entries in
      ap (λ (x : Option Slot). option_map_or (deps d) x []) a.found
      ∙ deps-of_property t held a.place a.owner a.entry a.stands
      ∙ ap present (sym reached)

-- the numbers of the dependencies of what tables show
pub deps-read : (v : Numbered) (t : Inside) → IsHeld t → numbered_held t ≡ v → (n : ℕ) → IsSome (slot_at v n) → (ids : List (Option SlotId)) → AreReached v ids (reached_at v n) → AreNumbersOf v (present ids) (deps_at v n)
deps-read v t held is n used ids h =
    let all : deps_at v n ≡ present (reached_at v n) =
    subst (λ (w : Numbered). deps_at w n ≡ present (reached_at w n)) is
    (deps-held t held n (at_number-held t held n (subst (λ (w : Numbered). IsSome (slot_at w n)) (sym is) used)))
    in
    subst (λ (l : List Slot). AreNumbersOf v (present ids) l) (sym all) (present-numbers v ids (reached_at v n) h)

reached-of_object :
    (d : Document) (found : Option Object) (e : Tree) (all : List listed.Reference) → IsSome found → map reference_of all ≡ references e
    → map (λ (r : listed.Reference). option_and_then (λ (o : Object). slot_reached d o (reference_of r)) found) all ≡ option_map_or (λ (o : Object). map (slot_reached d o) (references e)) found []
reached-of_object d None e all there h = absurd (false≢true there)
reached-of_object d (Some o) e all there h = sym (map-map (slot_reached d o) reference_of all) ∙ ap (map (slot_reached d o)) h

reached-of_slot :
    (d : Document) (x : Option Slot) (name : Option (List ℕ)) (e : Tree) (all : List listed.Reference)
    → option_and_then (rule_of d) x ≡ Some (bound e) → IsSome (option_and_then (λ (s : Slot). object_named d s.object) x) → name ≡ option_map (λ (s : Slot). s.object) x → map reference_of all ≡ references e
    → map (λ (r : listed.Reference). option_and_then (λ (o : Object). slot_reached d o (reference_of r)) (option_and_then (object_named d) name)) all
    ≡ option_map_or (λ (s : Slot). option_map_or (slots_reached d s) (option_and_then tree_by (option_and_then (rule_of d) x)) []) x []
reached-of_slot d None name e all rule there same h = absurd (false≢true there)
reached-of_slot d (Some s) name e all rule there same h =
    ap (λ (q : Option (List ℕ)). map (λ (r : listed.Reference). option_and_then (λ (o : Object). slot_reached d o (reference_of r)) (option_and_then (object_named d) q)) all) same
    ∙ reached-of_object d (object_named d s.object) e all there h
    ∙ sym (ap (λ (q : Option Rule). option_map_or (slots_reached d s) (option_and_then tree_by q) []) rule)

-- the listed references of the expression of a slot reach what the slot's expression reaches
pub reached-listed :
    (v : Numbered) (n object : ℕ) (e : Tree) (all : List listed.Reference) → rule_at v n ≡ Some (bound e) → IsSome (option_and_then (λ (s : Slot). object_named v.document s.object) (slot_at v n))
    → name_at v object ≡ option_map (λ (s : Slot). s.object) (slot_at v n) → map reference_of all ≡ references e
    → map (λ (r : listed.Reference). reached_by v object (reference_of r)) all ≡ reached_at v n
reached-listed v n object e all rule there same h = reached-of_slot v.document (slot_at v n) (name_at v object) e all rule there same h
