-- What is asked of numbered documents.
use Rattle.std.specs.Prelude.{◌≡◌, ℕ, List, [], map, Option, Some, None}
use Rattle.std.specs.Option.{option_and_then, option_map, option_map_or}
use Rattle.fc_base.specs.declared.ids.ObjectId.{ObjectId}
use Rattle.fc_base.specs.declared.ids.SlotId.{SlotId}
use Rattle.fc_base.specs.Places.{Block}
use Rattle.object_paths.specs.declared.path.Owner.TheVariants.{ByName}
use Rattle.object_paths.specs.declared.path.Path.{Path}
use Rattle.object_paths.specs.PathTexts.{path_text}
use Rattle.object_paths.specs.Slots.{Slot}
use Rattle.property_types.specs.declared.value.Value.{Value}
use Rattle.expr_tree.specs.References.{references, with_references}
use Rattle.expr_tree.specs.Tree.{Tree}
use Rattle.document_model.specs.Document.{Document, Object, object_named}
use Rattle.document_model.specs.Slots.{Rule, own, bound, inherit, global, output, rule_of}
use Rattle.document_model.specs.Dependencies.{deps, slot_reached}
use Rattle.doc_tables.specs.declared.rule.Rule.{Rule as RuleSeen}
use Rattle.doc_tables.specs.declared.rule.Rule.TheVariants as seen
use Rattle.doc_tables.specs.Numbered.{Numbered, name_at, slot_at}

-- these are the numbers of these slots, in their order
abbrev pub AreNumbersOf : Numbered → List SlotId → List Slot → Type 0
AreNumbersOf t ids slots = map (λ (id : SlotId). slot_at t id.0) ids ≡ map Some slots

-- this is the number of this slot, if there is one
abbrev pub IsNumberOf : Numbered → Option SlotId → Option Slot → Type 0
IsNumberOf t id s = option_map (λ (id : SlotId). slot_at t id.0) id ≡ option_map Some s

-- the rule of the slot of a number
abbrev pub rule_at : Numbered → ℕ → Option Rule
rule_at t n = option_and_then (rule_of t.document) (slot_at t n)

-- a value of its own
abbrev pub own_by : Rule → Option Value
own_by (own v) = Some v
own_by (bound e) = None
own_by (inherit s) = None
own_by (global k) = None
own_by (output k) = None

-- the expression of a rule
abbrev pub tree_by : Rule → Option Tree
tree_by (own v) = None
tree_by (bound e) = Some e
tree_by (inherit s) = None
tree_by (global k) = None
tree_by (output k) = None

-- the own value of the slot of a number
abbrev pub own_at : Numbered → ℕ → Option Value
own_at t n = option_and_then own_by (rule_at t n)

-- the expression of the slot of a number
abbrev pub tree_at : Numbered → ℕ → Option Tree
tree_at t n = option_and_then tree_by (rule_at t n)

-- the slots that the references of an expression name, each where it names one
abbrev pub slots_reached : Document → Slot → Tree → List (Option Slot)
slots_reached d s e = option_map_or (λ (o : Object). map (slot_reached d o) (references e)) (object_named d s.object) []

-- what the references of the slot of a number name
abbrev pub reached_at : Numbered → ℕ → List (Option Slot)
reached_at t n = option_map_or (λ s. option_map_or (slots_reached t.document s) (tree_at t n) []) (slot_at t n) []

-- the dependencies of the slot of a number
abbrev pub deps_at : Numbered → ℕ → List Slot
deps_at t n = option_map_or (deps t.document) (slot_at t n) []

-- this is the number of this object, if there is one
abbrev pub IsNumberOfObject : Numbered → Option ObjectId → Option Object → Type 0
IsNumberOfObject t id o = option_map (λ (id : ObjectId). name_at t id.0) id ≡ option_map (λ (o : Object). Some o.name) o

-- these are the numbers of these slots, each where there is one
abbrev pub AreReached : Numbered → List (Option SlotId) → List (Option Slot) → Type 0
AreReached t ids slots = map (option_map (λ (id : SlotId). slot_at t id.0)) ids ≡ map (option_map Some) slots

-- the path of a slot from outside
abbrev pub outside_path : Slot → List ℕ
outside_path s = path_text (record { owner = ByName s.object; slot = s.name })

-- the two are equal once one path replaces every path and one area every area: they differ in paths and areas alone
abbrev pub IsShapeOf : Tree → Tree → Type 0
IsShapeOf written shape =
    (p : Path) (area : Block) → with_references (λ _. p) (λ _. area) shape ≡ with_references (λ _. p) (λ _. area) written

-- the shape of an expression, if there is one
abbrev pub IsShape : Option Tree → Option Tree → Type 0
IsShape None None = Unit {0}
IsShape None (Some shape) = ⊥
IsShape (Some written) None = ⊥
IsShape (Some written) (Some shape) = IsShapeOf written shape

-- what a rule is in the code
abbrev pub IsRule : Numbered → RuleSeen → Rule → Type 0
IsRule t seen.Own (own v) = Unit {0}
IsRule t seen.Bound (bound e) = Unit {0}
IsRule t (seen.Inherit id) (inherit s) = slot_at t id.0 ≡ Some s
IsRule t seen.Global (global k) = Unit {0}
IsRule t (seen.Output n) (output k) = n ≡ k
IsRule t _ _ = ⊥
