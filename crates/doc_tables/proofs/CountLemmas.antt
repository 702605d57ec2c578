-- Counts of what is held.
use Rattle.std.proofs.Common.{◌≡◌, ◌+◌, ℕ, List, [], ◌∷◌, map, length, sum_by, Option, Some, None, IsSome, is_some, slice_get, refl, sym, ap, subst, ◌∙◌, arith}
use Rattle.std.specs.List.{filter_map, flat_map, cons_option, AllByRecursion}
use Rattle.std.specs.Option.{option_and_then, option_map, option_map_or, option_len}
use Rattle.std.proofs.lemmas.List.{length-map}
use Rattle.std.proofs.lemmas.List.Concat.{length-flat_map}
use Rattle.std.proofs.lemmas.List.Sums.{sum_by-append, sum_by-cons}
use Rattle.std.proofs.lemmas.Option.{slice_get-map}
use Rattle.object_paths.specs.Slots.{Slot}
use Rattle.expr_tree.specs.Nodes.{node_count}
use Rattle.expr_tree.specs.References.{references}
use Rattle.expr_tree.specs.Tree.{Tree}
use Rattle.document_model.specs.declared.content.Content.{Content}
use Rattle.document_model.specs.declared.content.Content.TheVariants.{Own, Bound}
use Rattle.document_model.specs.Counts.{contents, dependencies_of_document, nodes_of_document, tree_of_content}
use Rattle.document_model.specs.Dependencies.{deps, slot_reached}
use Rattle.document_model.specs.Document.{Document, Object}
use Rattle.document_model.specs.Slots.{rows, rule_of_content, slot_of, slots}
use Rattle.doc_tables.specs.declared.tables.Tables.TheInside.{Inside}
use Rattle.doc_tables.specs.Accessors.{tree_by}
use Rattle.doc_tables.specs.Counted.{dependencies_of_object, nodes_of_content, nodes_of_objects, nodes_of_properties, properties_of_objects, reached_of_content, reached_of_properties}
use Rattle.doc_tables.specs.Entries.{present}
use Rattle.doc_tables.specs.Held.{object_held, document_held, numbered_held, IsHeld}
use Rattle.doc_tables.specs.Numbered.{Numbered, name_at}
use Rattle.doc_tables.proofs.DependencyLemmas.{deps-of_property}
use Rattle.doc_tables.proofs.HeldLemmas.{Named, Owned, all_from_places, name_at-held, slot_named, slots_in, slots-held, slots-of_object}
use Rattle.doc_tables.proofs.ResolveLemmas.{object_at-place}
use Rattle.doc_tables.proofs.VarSetsHeld.{contents-own}

-- sums over lists that are made of others
pub sum_by-flat_map : {A B : Type 0} (f : B → ℕ) (g : A → List B) (xs : List A) → sum_by f (flat_map g xs) ≡ sum_by (λ x. sum_by f (g x)) xs
sum_by-flat_map f g [] = refl
sum_by-flat_map {A} f g (x ∷ xs) =
    sum_by-append f (g x) (flat_map g xs) ∙ ap (λ n. sum_by f (g x) + n) (sum_by-flat_map f g xs) ∙ sym (sum_by-cons (λ (y : A). sum_by f (g y)) x xs)

pub sum_by-map : {A B : Type 0} (f : B → ℕ) (g : A → B) (xs : List A) → sum_by f (map g xs) ≡ sum_by (λ x. f (g x)) xs
sum_by-map f g [] = refl
sum_by-map {A} f g (x ∷ xs) = sum_by-cons f (g x) (map g xs) ∙ ap (λ n. f (g x) + n) (sum_by-map f g xs) ∙ sym (sum_by-cons (λ (y : A). f (g y)) x xs)

pub sum_by-same : {A : Type 0} (f g : A → ℕ) (xs : List A) → ((x : A) → f x ≡ g x) → sum_by f xs ≡ sum_by g xs
sum_by-same f g [] h = refl
sum_by-same f g (x ∷ xs) h = sum_by-cons f x xs ∙ (λ j. h x j + sum_by-same f g xs h j) ∙ sym (sum_by-cons g x xs)

nodes-of_content : (c : Content) (more : List Tree) → sum_by node_count (cons_option (tree_of_content c) more) ≡ nodes_of_content c + sum_by node_count more
nodes-of_content (Own v) more = omega arith
nodes-of_content (Bound t) more = sum_by-cons node_count t more

nodes-of_properties : (es : List Named) → sum_by node_count (filter_map tree_of_content (map (λ (e : Named). e.1.content) es)) ≡ nodes_of_properties es
nodes-of_properties [] = refl
nodes-of_properties (e ∷ es) =
    nodes-of_content e.1.content (filter_map tree_of_content (map (λ (d : Named). d.1.content) es))
    ∙ ap (λ n. nodes_of_content e.1.content + n) (nodes-of_properties es)
    ∙ sym (sum_by-cons (λ (d : Named). nodes_of_content d.1.content) e es)

nodes-held : (os : List Owned) → nodes_of_document (document_held os) ≡ nodes_of_objects os
nodes-held os =
    sum_by-flat_map node_count (λ o. filter_map tree_of_content (contents o)) (map object_held os)
    ∙ sum_by-map (λ (o : Object). sum_by node_count (filter_map tree_of_content (contents o))) object_held os
    ∙ sum_by-same (λ (o : Owned). sum_by node_count (filter_map tree_of_content (contents (object_held o)))) (λ (o : Owned). nodes_of_properties o.1.properties.entries) os
    (λ o. ap (λ (cs : List Content). sum_by node_count (filter_map tree_of_content cs)) (contents-own o) ∙ nodes-of_properties o.1.properties.entries)

-- the nodes of the document that tables show
pub nodes-read : (v : Numbered) (t : Inside) → numbered_held t ≡ v → nodes_of_document v.document ≡ nodes_of_objects t.objects.entries
nodes-read v t is = subst (λ (w : Numbered). nodes_of_document w.document ≡ nodes_of_objects t.objects.entries) is (nodes-held t.objects.entries)

-- its slots
pub slots-counted : (v : Numbered) (t : Inside) → IsHeld t → numbered_held t ≡ v → length (slots v.document) ≡ properties_of_objects t.objects.entries
slots-counted v t held is =
    subst (λ (w : Numbered). length (slots w.document) ≡ properties_of_objects t.objects.entries) is
    (ap (length {A = Slot}) (slots-held t held) ∙ length-flat_map slots_in t.objects.entries
    ∙ sum_by-same (λ (o : Owned). length (slots_in o)) (λ (o : Owned). length o.1.properties.entries) t.objects.entries (λ o. length-map o.1.properties.entries (slot_named o)))

-- a dependency for each reference that names a slot
present-counted : {A B : Type 0} (f : A → Option B) (xs : List A) → length (present (map f xs)) ≡ sum_by (λ x. option_len (f x)) xs
present-counted f [] = refl
present-counted {A} {B} f (x ∷ xs) =
    (elim (f x) as (λ o. length (present (o ∷ map f xs)) ≡ option_len o + sum_by (λ y. option_len (f y)) xs) [
      | None ↦ present-counted f xs ∙ omega arith
      | Some y ↦ omega (arith, present-counted f xs)
    ])
    ∙ sym (sum_by-cons (λ y. option_len (f y)) x xs)

module _ (t : Inside) (held : IsHeld t) (i : ℕ) (o : Owned) (at : slice_get t.objects.entries i ≡ Some o) where
  counted-content : (c : Content) → length (present (option_map_or (λ (e : Tree). map (slot_reached (document_held t.objects.entries) (object_held o)) (references e)) (tree_by (rule_of_content c)) [])) ≡ reached_of_content (numbered_held t) o.1.number.0 c
  counted-content (Own v) = refl
  counted-content (Bound e) =
      let d = document_held t.objects.entries in
      present-counted (slot_reached d (object_held o)) (references e)
      ∙ ap (λ (q : Option Object). sum_by (λ r. option_len (option_and_then (λ (x : Object). slot_reached d x r) q)) (references e)) (sym (object_at-place t held i o at))

  counted-property : (j : ℕ) (e : Named) → slice_get o.1.properties.entries j ≡ Some e → length (deps (document_held t.objects.entries) (slot_named o e)) ≡ reached_of_content (numbered_held t) o.1.number.0 e.1.content
  counted-property j e there =
      ap (length {A = Slot}) (deps-of_property t held (record { object = i; property = j }) o e (record { object = at; property = there }))
      ∙ counted-content e.1.content

  counted-properties : (es : List Named) → AllByRecursion (λ (e : Named). length (deps (document_held t.objects.entries) (slot_named o e)) ≡ reached_of_content (numbered_held t) o.1.number.0 e.1.content) es
      → sum_by (λ s. length (deps (document_held t.objects.entries) s)) (map (slot_named o) es) ≡ reached_of_properties (numbered_held t) o.1.number.0 es
  counted-properties [] h = refl
  counted-properties (e ∷ es) h =
      sum_by-cons (λ s. length (deps (document_held t.objects.entries) s)) (slot_named o e) (map (slot_named o) es)
      ∙ (λ j. h.0 j + counted-properties es h.1 j)
      ∙ sym (sum_by-cons (λ (d : Named). reached_of_content (numbered_held t) o.1.number.0 d.1.content) e es)

  counted-object : dependencies_of_object (document_held t.objects.entries) (object_held o) ≡ reached_of_properties (numbered_held t) o.1.number.0 o.1.properties.entries
  counted-object =
      let d = document_held t.objects.entries in
      ap (sum_by (λ s. length (deps d s))) (slots-of_object t held i o at)
      ∙ counted-properties o.1.properties.entries (all_from_places (λ (e : Named). length (deps d (slot_named o e)) ≡ reached_of_content (numbered_held t) o.1.number.0 e.1.content) o.1.properties.entries counted-property)

-- the dependencies of the object at a place
module _ (v : Numbered) (t : Inside) (held : IsHeld t) (is : numbered_held t ≡ v) where
  object-there : (i : ℕ) → slice_get v.document.objects i ≡ option_map object_held (slice_get t.objects.entries i)
  object-there i = subst (λ (w : Numbered). slice_get w.document.objects i ≡ option_map object_held (slice_get t.objects.entries i)) is (slice_get-map object_held t.objects.entries i)

  pub object-counted : (i : ℕ) (o : Owned) → Some o ≡ slice_get t.objects.entries i
      → reached_of_properties v o.1.number.0 o.1.properties.entries ≡ option_map_or (dependencies_of_object v.document) (slice_get v.document.objects i) 0
  object-counted i o at =
      subst (λ (w : Numbered). reached_of_properties w o.1.number.0 o.1.properties.entries ≡ dependencies_of_object w.document (object_held o)) is (sym (counted-object t held i o (sym at)))
      ∙ sym (ap (λ (q : Option Object). option_map_or (dependencies_of_object v.document) q 0) (object-there i ∙ ap (option_map object_held) (sym at)))

  -- there is none past the last
  pub none-counted : (i : ℕ) → None ≡ slice_get t.objects.entries i → 0 ≡ option_map_or (dependencies_of_object v.document) (slice_get v.document.objects i) 0
  none-counted i past = sym (ap (λ (q : Option Object). option_map_or (dependencies_of_object v.document) q 0) (object-there i ∙ ap (option_map object_held) (sym past)))

  -- the number of an entry is in use
  pub number-used : (i : ℕ) (o : Owned) → Some o ≡ slice_get t.objects.entries i → IsSome (name_at v o.1.number.0)
  number-used i o at = subst (λ (w : Numbered). IsSome (name_at w o.1.number.0)) is (ap is_some (name_at-held t held i o (sym at)))

-- all dependencies, object by object
pub document-counted : (d : Document) → sum_by (dependencies_of_object d) d.objects ≡ dependencies_of_document d
document-counted d = sym (sum_by-flat_map (λ s. length (deps d s)) (λ o. map (λ r. slot_of o r.name) (rows d o)) d.objects)
