-- What is held are VarSets, and its expressions are those of its slots.
use Rattle.std.proofs.Common.{◌≡◌, List, [], ◌∷◌, ◌++◌, map, Some, refl, sym, ap, subst, ◌∙◌, append-nil}
use Rattle.std.specs.List.{cons_option, filter_map, flat_map, AllByRecursion}
use Rattle.std.specs.Option.{option_and_then}
use Rattle.std.proofs.lemmas.List.Elements.{filter_map-append}
use Rattle.document_model.specs.declared.content.Content.{Content}
use Rattle.document_model.specs.declared.content.Content.TheVariants.{Own, Bound}
use Rattle.document_model.specs.Counts.{contents, tree_of_content}
use Rattle.document_model.specs.Document.{Document, Property}
use Rattle.document_model.specs.Slots.{rule_of, rule_of_content}
use Rattle.doc_tables.specs.declared.tables.Tables.TheInside.{Inside}
use Rattle.doc_tables.specs.Accessors.{tree_by}
use Rattle.doc_tables.specs.Held.{property_held, object_held, document_held, numbered_held, IsPropertyHeld, IsObjectHeld, IsHeld}
use Rattle.doc_tables.specs.Numbered.{Numbered}
use Rattle.doc_tables.specs.VarSets.{HasOneSlot, IsVarSet, HoldsVarSets}
use Rattle.doc_tables.proofs.HeldLemmas.{Named, Owned, all_from_places, rule-stands, slot_named, slots_in, slots-held}

one_slots : (es : List Named) → AllByRecursion IsPropertyHeld es → AllByRecursion HasOneSlot (map property_held es)
one_slots [] h = tt
one_slots (e ∷ es) h = (record { content = e.1.content; property = refl; type = h.0.one_slot }, one_slots es h.1)

var_sets : (os : List Owned) → AllByRecursion IsObjectHeld os → AllByRecursion IsVarSet (map object_held os)
var_sets [] h = tt
var_sets (o ∷ os) h = (record { object = refl; properties = one_slots o.1.properties.entries h.0.properties }, var_sets os h.1)

contents-held : (es : List Named) → flat_map (λ (p : Property). p.contents) (map property_held es) ≡ map (λ (e : Named). e.1.content) es
contents-held [] = refl
contents-held (e ∷ es) = ap (λ (l : List Content). e.1.content ∷ l) (contents-held es)

-- the contents of an object are those of its properties
pub contents-own : (o : Owned) → contents (object_held o) ≡ map (λ (e : Named). e.1.content) o.1.properties.entries
contents-own o =
    let all = flat_map (λ (p : Property). p.contents) (map property_held o.1.properties.entries) in
    append-nil (all ++ []) ∙ append-nil all ∙ contents-held o.1.properties.entries

-- the expression of a rule is that of its content
tree-of_rule : (c : Content) → tree_of_content c ≡ tree_by (rule_of_content c)
tree-of_rule (Own v) = refl
tree-of_rule (Bound e) = refl

-- each property has the rule of its slot
abbrev IsRuledIn : Document → Owned → Type 0
IsRuledIn d o = AllByRecursion (λ (e : Named). rule_of d (slot_named o e) ≡ Some (rule_of_content e.1.content)) o.1.properties.entries

ruled-in : (t : Inside) → IsHeld t → AllByRecursion (IsRuledIn (document_held t.objects.entries)) t.objects.entries
ruled-in t held =
    all_from_places (IsRuledIn (document_held t.objects.entries)) t.objects.entries (λ i o at.
    all_from_places (λ (e : Named). rule_of (document_held t.objects.entries) (slot_named o e) ≡ Some (rule_of_content e.1.content)) o.1.properties.entries (λ j e there.
    rule-stands t held (record { object = i; property = j }) o e (record { object = at; property = there })))

trees-of_properties : (d : Document) (o : Owned) (es : List Named) → AllByRecursion (λ (e : Named). rule_of d (slot_named o e) ≡ Some (rule_of_content e.1.content)) es
    → filter_map tree_of_content (map (λ (e : Named). e.1.content) es) ≡ filter_map (λ s. option_and_then tree_by (rule_of d s)) (map (slot_named o) es)
trees-of_properties d o [] h = refl
trees-of_properties d o (e ∷ es) h =
    λ j. cons_option ((tree-of_rule e.1.content ∙ sym (ap (option_and_then tree_by) h.0)) j) (trees-of_properties d o es h.1 j)

trees-of_objects : (d : Document) (os : List Owned) → AllByRecursion (IsRuledIn d) os
    → flat_map (λ o. filter_map tree_of_content (contents o)) (map object_held os) ≡ filter_map (λ s. option_and_then tree_by (rule_of d s)) (flat_map slots_in os)
trees-of_objects d [] h = refl
trees-of_objects d (o ∷ os) h =
    let es = o.1.properties.entries in
    let own : contents (object_held o) ≡ map (λ (e : Named). e.1.content) es =
    append-nil (flat_map (λ (p : Property). p.contents) (map property_held es) ++ []) ∙ append-nil (flat_map (λ (p : Property). p.contents) (map property_held es)) ∙ contents-held es
    in
    (λ j. (ap (filter_map tree_of_content) own ∙ trees-of_properties d o es h.0) j ++ trees-of_objects d os h.1 j)
    ∙ sym (filter_map-append (λ s. option_and_then tree_by (rule_of d s)) (slots_in o) (flat_map slots_in os))

var_sets-held : (t : Inside) → IsHeld t → HoldsVarSets (document_held t.objects.entries)
var_sets-held t held = record {
  objects = var_sets t.objects.entries held.objects;
  expressions =
      trees-of_objects (document_held t.objects.entries) t.objects.entries (ruled-in t held)
      ∙ sym (ap (filter_map (λ s. option_and_then tree_by (rule_of (document_held t.objects.entries) s))) (slots-held t held));
}

-- tables show a document of VarSets
pub var_sets-read : (v : Numbered) (t : Inside) → IsHeld t → numbered_held t ≡ v → HoldsVarSets v.document
var_sets-read v t held is = subst (λ (w : Numbered). HoldsVarSets w.document) is (var_sets-held t held)
