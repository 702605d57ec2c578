-- Private: only contracts inside this crate cite this.
-- What is counted of the slots of an object.
use Rattle.std.specs.Prelude.{ℕ, List, length, map, sum_by}
use Rattle.std.specs.Option.{option_len}
use Rattle.expr_tree.specs.Nodes.{node_count}
use Rattle.expr_tree.specs.References.{Reference, references}
use Rattle.document_model.specs.declared.content.Content.{Content}
use Rattle.document_model.specs.declared.content.Content.TheVariants.{Own, Bound}
use Rattle.document_model.specs.Dependencies.{deps}
use Rattle.document_model.specs.Document.{Document, Object}
use Rattle.document_model.specs.Slots.{rows, slot_of}
use Rattle.doc_tables.specs.declared.entry.ObjectEntry.{ObjectEntry}
use Rattle.doc_tables.specs.declared.entry.PropertyEntry.{PropertyEntry}
use Rattle.doc_tables.specs.Entries.{reached_by}
use Rattle.doc_tables.specs.Numbered.{Numbered}

-- the nodes of an expression
abbrev pub nodes_of_content : Content → ℕ
nodes_of_content (Own v) = 0
nodes_of_content (Bound e) = node_count e

-- the nodes of the expressions of properties
abbrev pub nodes_of_properties : List (List ℕ × PropertyEntry) → ℕ
nodes_of_properties properties = sum_by (λ (e : List ℕ × PropertyEntry). nodes_of_content e.1.content) properties

-- the nodes of the expressions of objects
abbrev pub nodes_of_objects : List (List ℕ × ObjectEntry) → ℕ
nodes_of_objects objects = sum_by (λ (o : List ℕ × ObjectEntry). nodes_of_properties o.1.properties.entries) objects

-- the properties of objects
abbrev pub properties_of_objects : List (List ℕ × ObjectEntry) → ℕ
properties_of_objects objects = sum_by (λ (o : List ℕ × ObjectEntry). length o.1.properties.entries) objects

-- how many references of an object's expression name a slot
abbrev pub reached_count : Numbered → ℕ → List Reference → ℕ
reached_count t object all = sum_by (λ r. option_len (reached_by t object r)) all

-- the same of a content
abbrev pub reached_of_content : Numbered → ℕ → Content → ℕ
reached_of_content t object (Own v) = 0
reached_of_content t object (Bound e) = reached_count t object (references e)

-- the same of properties
abbrev pub reached_of_properties : Numbered → ℕ → List (List ℕ × PropertyEntry) → ℕ
reached_of_properties t object properties = sum_by (λ (e : List ℕ × PropertyEntry). reached_of_content t object e.1.content) properties

-- the dependencies of the slots of an object
abbrev pub dependencies_of_object : Document → Object → ℕ
dependencies_of_object d o = sum_by (λ s. length (deps d s)) (map (λ r. slot_of o r.name) (rows d o))
