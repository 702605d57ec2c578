-- A well-formed document stays so where an object gets another label.
use Rattle.std.proofs.Common.{◌≡◌, ◌++◌, ◌||◌, ◌&&◌, ℕ, Bool, true, false, cond, List, [], ◌∷◌, map, Some, None, refl, ap, ◌∙◌}
use Rattle.std.specs.Prelude.{Option, IsTrue, IfSome, is_some}
use Rattle.std.specs.FinMap.{is_sorted}
use Rattle.std.specs.FinMap.Entries.{below_all}
use Rattle.std.specs.List.{cons_option}
use Rattle.std.specs.Ordering.{is_lt}
use Rattle.std.specs.declared.cmp.Ordering.{Ordering}
use Rattle.fc_base.specs.Places.{Place}
use Rattle.fc_base.specs.Texts.{is_label}
use Rattle.object_paths.specs.declared.slot_name.SlotName.{SlotName}
use Rattle.object_paths.specs.declared.path.Path.{Path}
use Rattle.object_paths.specs.Order.{slot_name_cmp, cell_cmp}
use Rattle.object_paths.specs.Paths.{IsPath}
use Rattle.object_paths.specs.Slots.{same_text}
use Rattle.property_types.specs.declared.prop_type.PropType.{PropType}
use Rattle.property_types.specs.Reserved.{are_distinct}
use Rattle.expr_tree.specs.References.{with_references, with_argument_references}
use Rattle.expr_tree.specs.Spelled.{IsSpelled, AreSpelled}
use Rattle.expr_tree.specs.Tree.{Tree, literal, unit_one, flag, text, path, negate, binary, power, compare, conditional, function, modulo, aggregate, Arguments, no_more, tree, cells}
use Rattle.document_model.specs.declared.content.Content.{Content}
use Rattle.document_model.specs.declared.content.Content.TheVariants.{Own, Bound}
use Rattle.document_model.specs.declared.kind.ObjectKind.{ObjectKind}
use Rattle.document_model.specs.Contents.{IsContent, IsCellContent, IsContentOf, AreContents, AreInputs}
use Rattle.document_model.specs.Document.{Document, Object, Property, Cell}
use Rattle.document_model.specs.Kinds.{has_dynamics, is_link, is_sheet, names_of_kind}
use Rattle.document_model.specs.Renamed.{object, leads, moved, path_under, renamed, renamed_object, renamed_tree, renamed_content, renamed_cell_content, renamed_entry, renamed_property, renamed_cell, same_area}
use Rattle.document_model.specs.TypedSlots.{property_slots, input_slots}
use Rattle.document_model.specs.WellFormed.{Only, IsProperty, IsCell, IsOverride, IsObject, IsWellFormed, aliases, is_filled}
use Rattle.document_model.proofs.DistinctNames.{all-changed, names-kept}

-- a change of paths that can be spelled keeps what can be spelled
module _ (on_path : Path → Path) (keeps : (p : Path) → IsPath p → IsPath (on_path p)) where
  mutual
    spelled-with : (t : Tree) → IsSpelled t → IsSpelled (with_references on_path same_area t)
    spelled-with (literal x u) h = h
    spelled-with (unit_one u) h = h
    spelled-with (flag b) h = h
    spelled-with (text t) h = h
    spelled-with (path p) h = keeps p h
    spelled-with (negate a) h = spelled-with a h
    spelled-with (binary op a b) h = (spelled-with a h.0, spelled-with b h.1)
    spelled-with (power a n) h = (spelled-with a h.0, h.1)
    spelled-with (compare op a b) h = (spelled-with a h.0, spelled-with b h.1)
    spelled-with (conditional c a b) h = (spelled-with c h.0, spelled-with a h.1, spelled-with b h.2)
    spelled-with (function op a) h = spelled-with a h
    spelled-with (modulo a b) h = (spelled-with a h.0, spelled-with b h.1)
    spelled-with (aggregate op no_more) h = absurd h
    spelled-with (aggregate op (tree t more)) h = (spelled-with t h.0, spelled-arguments more h.1)
    spelled-with (aggregate op (cells area more)) h = (h.0, spelled-arguments more h.1)

    spelled-arguments : (all : Arguments) → AreSpelled all → AreSpelled (with_argument_references on_path same_area all)
    spelled-arguments no_more h = h
    spelled-arguments (tree t more) h = (spelled-with t h.0, spelled-arguments more h.1)
    spelled-arguments (cells area more) h = (h.0, spelled-arguments more h.1)

-- a change that keeps keys keeps their order
module _ {K X : Type 0} (R : K → K → Ordering) (change : K × X → K × X) (same : (e : K × X) → (change e).0 ≡ e.0) where
  below-same : (k : K) (es : List (K × X)) → below_all R k (map change es) ≡ below_all R k es
  below-same k [] = refl
  below-same k (e ∷ es) = λ i. is_lt (R k (same e i)) && below-same k es i

  sorted-same : (es : List (K × X)) → is_sorted R (map change es) ≡ is_sorted R es
  sorted-same [] = refl
  sorted-same (e ∷ es) = ap (λ (k : K). below_all R k (map change es) && is_sorted R (map change es)) (same e) ∙ (λ i. below-same e.0 es i && sorted-same es i)

only-mapped : {A B : Type 0} (may : Bool) (f : A → B) (things : List A) → Only may things → Only may (map f things)
only-mapped true f things h = tt
only-mapped false f things h = ap (map f) h

module _ (d : Document) (name new : List ℕ) (good : IsTrue (is_label new)) where
  path-kept : (o : Object) (p : Path) → IsPath p → IsPath (moved d o (object name) new p)
  path-kept o p h = elim (leads d o (object name) p) as (λ b. IsPath (cond b (path_under (object name) new p) p)) [ true ↦ record { owner = good; slot = h.slot } | false ↦ h ]

  tree-kept : (o : Object) (e : Tree) → IsSpelled e → IsSpelled (renamed_tree d o (object name) new e)
  tree-kept o e h = spelled-with (λ p. moved d o (object name) new p) (path-kept o) e h

  content-kept : (o : Object) (content : Content) → IsContent content → IsContent (renamed_content d o (object name) new content)
  content-kept o (Own v) h = h
  content-kept o (Bound e) h = tree-kept o e h

  cell_content-kept : (o : Object) (content : Content) → IsCellContent content → IsCellContent (renamed_content d o (object name) new content)
  cell_content-kept o (Own v) h = h
  cell_content-kept o (Bound e) h = tree-kept o e h

  content_of-kept : (o : Object) (type : PropType) (content : Content) → IsContentOf type content → IsContentOf type (renamed_content d o (object name) new content)
  content_of-kept o type (Own v) h = h
  content_of-kept o type (Bound e) h = tree-kept o e h

  contents-kept : (o : Object) (slots : List (SlotName × PropType)) (contents : List Content) → AreContents slots contents → AreContents slots (map (renamed_content d o (object name) new) contents)
  contents-kept o [] [] h = h
  contents-kept o [] (content ∷ contents) h = absurd h
  contents-kept o (slot ∷ slots) [] h = absurd h
  contents-kept o (slot ∷ slots) (content ∷ contents) h = (content_of-kept o slot.1 content h.0, contents-kept o slots contents h.1)

  inputs-kept : (o : Object) (slots : List (SlotName × PropType)) (inputs : List (SlotName × Content)) → AreInputs slots inputs → AreInputs slots (map (renamed_entry d o (object name) new) inputs)
  inputs-kept o [] [] h = h
  inputs-kept o [] (input ∷ inputs) h = absurd h
  inputs-kept o (slot ∷ slots) [] h = absurd h
  inputs-kept o (slot ∷ slots) (input ∷ inputs) h = (h.0, content_of-kept o slot.1 input.1 h.1, inputs-kept o slots inputs h.2)

  property-kept : (o : Object) (kind : ObjectKind) (p : Property) → IsProperty kind p → IsProperty kind (renamed_property d o (object name) new p)
  property-kept o kind p is = record {
    name = is.name;
    type = is.type;
    group = is.group;
    doc = is.doc;
    attributes = is.attributes;
    contents = contents-kept o (property_slots p.name p.prop) p.contents is.contents;
  }

  filled-kept : (o : Object) (content : Option Content) → IfSome content IsCellContent → IfSome (renamed_cell_content d o (object name) new content) IsCellContent
  filled-kept o None h = h
  filled-kept o (Some content) h = cell_content-kept o content h

  some-kept : (o : Object) (content : Option Content) → is_some (renamed_cell_content d o (object name) new content) ≡ is_some content
  some-kept o None = refl
  some-kept o (Some content) = refl

  cell-kept : (o : Object) (e : Place × Cell) → IsCell e → IsCell (renamed_cell d o (object name) new e)
  cell-kept o e is = record {
    place = is.place;
    no_marks = is.no_marks;
    content = filled-kept o e.1.content is.content;
    alias = is.alias;
    extra = is.extra;
    kept = ap (λ (b : Bool). b || is_some e.1.alias || is_filled e.1.extra) (some-kept o e.1.content) ∙ is.kept;
  }

  override-kept : (o : Object) (e : SlotName × Content) → IsOverride e → IsOverride (renamed_entry d o (object name) new e)
  override-kept o e is = record { name = is.name; content = content-kept o e.1 is.content }

  aliases-kept : (o : Object) (es : List (Place × Cell)) → aliases (map (renamed_cell d o (object name) new) es) ≡ aliases es
  aliases-kept o [] = refl
  aliases-kept o (e ∷ es) = λ i. cons_option e.1.alias (aliases-kept o es i)

  label-kept : (o : Object) → IsTrue (is_label o.label) → IsTrue (is_label (renamed_object d (object name) new o).label)
  label-kept o h = elim (same_text o.name name) as (λ b. IsTrue (is_label (cond b new o.label))) [ true ↦ good | false ↦ h ]

  object-kept : (o : Object) → IsObject o → IsObject (renamed_object d (object name) new o)
  object-kept o is = record {
    name = is.name;
    label = label-kept o is.label;
    kind = is.kind;
    inputs = inputs-kept o (input_slots o.kind) o.inputs is.inputs;
    only_dynamics = only-mapped (has_dynamics o.kind) (renamed_property d o (object name) new) o.dynamics is.only_dynamics;
    dynamics = all-changed (IsProperty o.kind) (renamed_property d o (object name) new) o.dynamics (λ p i one. property-kept o o.kind p one) is.dynamics;
    distinct =
        ap (λ (names : List (List ℕ)). are_distinct (names_of_kind o.kind ++ names)) (names-kept (λ (p : Property). p.name) (renamed_property d o (object name) new) o.dynamics (λ p i. refl))
        ∙ is.distinct;
    only_cells = only-mapped (is_sheet o.kind) (renamed_cell d o (object name) new) o.cells is.only_cells;
    cells = all-changed IsCell (renamed_cell d o (object name) new) o.cells (λ e i one. cell-kept o e one) is.cells;
    cells_in_order = sorted-same cell_cmp (renamed_cell d o (object name) new) (λ e. refl) o.cells ∙ is.cells_in_order;
    aliases = ap are_distinct (aliases-kept o o.cells) ∙ is.aliases;
    target = is.target;
    only_overrides = only-mapped (is_link o.kind) (renamed_entry d o (object name) new) o.overrides is.only_overrides;
    overrides = all-changed IsOverride (renamed_entry d o (object name) new) o.overrides (λ e i one. override-kept o e one) is.overrides;
    overrides_in_order = sorted-same slot_name_cmp (renamed_entry d o (object name) new) (λ e. refl) o.overrides ∙ is.overrides_in_order;
    only_members = is.only_members;
    members = is.members;
    kept = is.kept;
    attributes = is.attributes;
    pieces = is.pieces;
  }

  pub IsWellFormed-relabelled : IsWellFormed d → IsWellFormed (renamed d (object name) new)
  IsWellFormed-relabelled is = record {
    objects = all-changed IsObject (renamed_object d (object name) new) d.objects (λ o i one. object-kept o one) is.objects;
    distinct = ap are_distinct (names-kept (λ (o : Object). o.name) (renamed_object d (object name) new) d.objects (λ o i. refl)) ∙ is.distinct;
    attributes = is.attributes;
    before = is.before;
    between = is.between;
    after = is.after;
  }
