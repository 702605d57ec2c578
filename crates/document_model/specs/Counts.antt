-- How much stands in a document.
use Rattle.std.specs.Prelude.{ℕ, ◌+◌, not, List, ◌++◌, map, length, filter, sum_by, Option, Some, None, is_some}
use Rattle.std.specs.List.{filter_map, flat_map}
use Rattle.fc_base.specs.Places.{Place}
use Rattle.object_paths.specs.declared.slot_name.SlotName.{SlotName}
use Rattle.expr_tree.specs.Nodes.{node_count}
use Rattle.expr_tree.specs.Tree.{Tree}
use Rattle.document_model.specs.declared.content.Content.{Content}
use Rattle.document_model.specs.declared.content.Content.TheVariants.{Own, Bound}
use Rattle.document_model.specs.Document.{Document, Object, Property, Cell}
use Rattle.document_model.specs.Slots.{slots}
use Rattle.document_model.specs.Dependencies.{deps}

-- all contents of an object: of inputs, dynamic properties, cells and overrides
abbrev pub contents : Object → List Content
contents o =
    map (λ (e : SlotName × Content). e.1) o.inputs ++ flat_map (λ (p : Property). p.contents) o.dynamics
    ++ filter_map (λ (e : Place × Cell). e.1.content) o.cells ++ map (λ (e : SlotName × Content). e.1) o.overrides

-- the expression to which a slot is bound
abbrev pub tree_of_content : Content → Option Tree
tree_of_content (Own v) = None
tree_of_content (Bound e) = Some e

-- all expressions of a document
abbrev pub expressions : Document → List Tree
expressions d = flat_map (λ o. filter_map tree_of_content (contents o)) d.objects

-- the kept cells of an object that are not filled
abbrev pub empty_cells : Object → List (Place × Cell)
empty_cells o = filter (λ (e : Place × Cell). not (is_some e.1.content)) o.cells

-- the slots of a document and its kept cells that are not filled
abbrev pub slots_and_empty_cells : Document → ℕ
slots_and_empty_cells d = length (slots d) + sum_by (λ o. length (empty_cells o)) d.objects

-- the nodes of all expressions of a document
abbrev pub nodes_of_document : Document → ℕ
nodes_of_document d = sum_by node_count (expressions d)

-- the dependencies of all slots of a document
abbrev pub dependencies_of_document : Document → ℕ
dependencies_of_document d = sum_by (λ s. length (deps d s)) (slots d)
