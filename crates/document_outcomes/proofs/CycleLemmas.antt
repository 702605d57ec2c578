-- The test for a slot that depends on itself is exact, and so is that of links.
use Rattle.std.proofs.Common.{◌≡◌, ℕ, suc, true, List, [], ◌∷◌, length, map, refl, sym, subst, ap}
use Rattle.std.specs.Cmp.Lexicographic.{bytes_decides}
use Rattle.std.specs.Option.{option_map, option_and_then}
use Rattle.fc_base.specs.Graph.{IsIn, Reaches, Closed, Acyclic, reaches_in}
use Rattle.fc_base.proofs.CycleLemmas.{sound, complete}
use Rattle.object_paths.specs.Slots.{Slot, same_slot, same_text}
use Rattle.document_model.specs.Document.{Document, Object, object_named}
use Rattle.document_model.specs.Dependencies.{deps}
use Rattle.document_model.specs.Slots.{slots}
use Rattle.document_model.proofs.DependencyLemmas.{deps_are_slots}
use Rattle.document_model.proofs.Members.{map_some, and_then_some, from_option, from_find, IsIn-map}
use Rattle.document_outcomes.specs.Cycles.{is_cyclic, HasNoCycle, targets, leads_back}
use Rattle.document_outcomes.proofs.SlotTests.{slot_equal}

module _ (d : Document) where
  pub cyclic-reaches : (s : Slot) → is_cyclic d s ≡ true → Reaches (deps d) s s
  unfolding is_cyclic
  cyclic-reaches s h = sound (deps d) same_slot slot_equal (length (slots d)) s s h

  pub reaches-cyclic : (s : Slot) → IsIn s (slots d) → Reaches (deps d) s s → is_cyclic d s ≡ true
  unfolding is_cyclic
  reaches-cyclic s here r = complete (deps d) same_slot slot_equal (slots d) (deps_are_slots d) s s here r

  -- where the test finds none, none depends on itself
  pub no_cycle-acyclic : HasNoCycle d → Acyclic (deps d) (slots d)
  no_cycle-acyclic none s here r = let yes = reaches-cyclic s here r in let no = none s here in absurd (cc)

-- the target of a link is a name of the document
targets-closed : (d : Document) → Closed (targets d) (map (λ (o : Object). o.name) d.objects)
targets-closed d name t here i =
    let found =
    map_some (λ (o : Object). o.name)
    (option_and_then (λ (o : Object). option_and_then (object_named d) o.target) (object_named d name)) t
    (from_option (option_map (λ (o : Object). o.name) (option_and_then (λ (o : Object). option_and_then (object_named d) o.target) (object_named d name))) t i) in
    let linked = and_then_some (λ (o : Object). option_and_then (object_named d) o.target) (object_named d name) found.0 found.1 in
    let named = and_then_some (object_named d) (linked.0).target found.0 linked.2 in
    subst (λ (n : List ℕ). IsIn n (map (λ (o : Object). o.name) d.objects)) (sym found.2)
    (IsIn-map (λ (o : Object). o.name) d.objects found.0 (from_find (λ (o : Object). same_text o.name named.0) d.objects found.0 named.2))

length-names : (os : List Object) → length (map (λ (o : Object). o.name) os) ≡ length os
length-names [] = refl
length-names (o ∷ os) = ap suc (length-names os)

module _ (d : Document) (o : Object) where
  pub back-reaches : leads_back d o ≡ true → Reaches (targets d) o.name o.name
  unfolding leads_back
  back-reaches h = sound (targets d) same_text bytes_decides (length d.objects) o.name o.name h

  pub reaches-back : IsIn o d.objects → Reaches (targets d) o.name o.name → leads_back d o ≡ true
  unfolding leads_back
  reaches-back here r =
      subst (λ (n : ℕ). reaches_in same_text (targets d) n o.name o.name ≡ true) (length-names d.objects)
      (complete (targets d) same_text bytes_decides (map (λ (q : Object). q.name) d.objects) (targets-closed d) o.name o.name
      (IsIn-map (λ (q : Object). q.name) d.objects o here) r)
