-- What a rename makes of a document.
use Rattle.std.specs.Prelude.{ℕ, Bool, false, ◌&&◌, ◌||◌, not, List, [], ◌∷◌, ◌++◌, map, length, filter, sum_by, Option, Some, None, IsTrue, if◌then◌else◌}
use Rattle.std.specs.FinMap.{put}
use Rattle.std.specs.List.{find, list_all, filter_map}
use Rattle.std.specs.Option.{option_and_then, option_map_or}
use Rattle.fc_base.specs.Graph.{IsIn}
use Rattle.fc_base.specs.Places.{Block, Place}
use Rattle.fc_base.specs.Texts.{is_label}
use Rattle.object_paths.specs.declared.slot_name.SlotName.{SlotName}
use Rattle.object_paths.specs.declared.slot_name.SlotName.TheVariants.{Plain, Component, Marked}
use Rattle.object_paths.specs.declared.path.Owner.{Owner}
use Rattle.object_paths.specs.declared.path.Owner.TheVariants.{Here, ByName, ByLabel}
use Rattle.object_paths.specs.declared.path.Path.{Path}
use Rattle.object_paths.specs.Order.{slot_name_cmp}
use Rattle.object_paths.specs.Slots.{Slot, same_text, same_place, same_slot_name}
use Rattle.property_types.specs.Reserved.{is_among}
use Rattle.expr_tree.specs.References.{Reference, to_path, to_area, references, with_references}
use Rattle.expr_tree.specs.Tree.{Tree}
use Rattle.document_model.specs.declared.content.Content.{Content}
use Rattle.document_model.specs.declared.content.Content.TheVariants.{Own, Bound}
use Rattle.document_model.specs.Counts.{contents, tree_of_content}
use Rattle.document_model.specs.Document.{Document, Object, Property, Cell, object_named, object_labelled}
use Rattle.document_model.specs.Ends.{end_of}
use Rattle.document_model.specs.Kinds.{is_dynamic_name, is_sheet, names_of_kind}
use Rattle.document_model.specs.Resolution.{resolve, has_dynamic}
use Rattle.document_model.specs.WellFormed.{aliases, is_alias}

-- What can be renamed: an object by its name, whose label is changed; a dynamic property by the names of
-- its object and its own; and a cell with an alias, by the name of its sheet and its place.
pub data Thing : Type 0 where
  object : List ℕ → Thing
  property : List ℕ → List ℕ → Thing
  cell : List ℕ → Place → Thing

-- ---- slots

-- a slot name with that name in it
abbrev pub is_spelled_by : List ℕ → SlotName → Bool
is_spelled_by name (Plain n) = same_text n name
is_spelled_by name (Component n k) = same_text n name
is_spelled_by name (Marked p) = false

-- a slot name with another name in it
abbrev pub under : List ℕ → SlotName → SlotName
under new (Plain n) = Plain new
under new (Component n k) = Component new k
under new (Marked p) = Marked p

-- an object that is the one of that name, or a link whose end it is
abbrev pub shows : Document → List ℕ → Object → Bool
shows d name o = option_map_or (λ (e : Object). same_text e.name name) (end_of d o) false

-- a slot of a dynamic property of an object: of the object itself, or of a link whose end it is
abbrev pub is_slot_of : Document → List ℕ → List ℕ → Slot → Bool
is_slot_of d owner name s = is_spelled_by name s.name && option_map_or (shows d owner) (object_named d s.object) false

-- a slot under its new name
abbrev pub moved_slot : Document → Thing → List ℕ → Slot → Slot
moved_slot d (object name) new s = s
moved_slot d (property owner name) new s = if is_slot_of d owner name s then record s { name = under new s.name } else s
moved_slot d (cell sheet place) new s = s

-- ---- paths

-- a label that is found at the object of that name
abbrev pub is_label_of : Document → List ℕ → Owner → Bool
is_label_of d name Here = false
is_label_of d name (ByName n) = false
is_label_of d name (ByLabel label) = option_map_or (λ (o : Object). same_text o.name name) (object_labelled d label) false

-- the alias of the cell at that place of a sheet
abbrev pub alias_at : Document → List ℕ → Place → Option (List ℕ)
alias_at d sheet place =
    option_and_then (λ (o : Object). option_and_then (λ (e : Place × Cell). e.1.alias) (find (λ (e : Place × Cell). same_place e.0 place) o.cells))
    (object_named d sheet)

-- a plain name that is that alias
abbrev pub is_alias_name : Option (List ℕ) → SlotName → Bool
is_alias_name alias (Plain n) = option_map_or (same_text n) alias false
is_alias_name alias (Component n k) = false
is_alias_name alias (Marked p) = false

-- the slot of the cell at that place of a sheet
abbrev pub is_cell_at : List ℕ → Place → Slot → Bool
is_cell_at sheet place s = same_text s.object sheet && same_slot_name s.name (Marked place)

-- a path of an object leads to a thing through the name of it that is changed: to an object through its
-- label; to a property where it names a slot of it; to a cell where it is spelled by the alias and names it
abbrev pub leads : Document → Object → Thing → Path → Bool
leads d o (object name) p = is_label_of d name p.owner
leads d o (property owner name) p = option_map_or (is_slot_of d owner name) (resolve d o p) false
leads d o (cell sheet place) p =
    is_alias_name (alias_at d sheet place) p.slot && option_map_or (is_cell_at sheet place) (resolve d o p) false

-- a path with a new name for a thing in it
abbrev pub path_under : Thing → List ℕ → Path → Path
path_under (object name) new p = record p { owner = ByLabel new }
path_under (property owner name) new p = record p { slot = under new p.slot }
path_under (cell sheet place) new p = record p { slot = Plain new }

-- a path of an object: where it leads to the thing through its old name, the new one has its place
abbrev pub moved : Document → Object → Thing → List ℕ → Path → Path
moved d o thing new p = if leads d o thing p then path_under thing new p else p

-- ---- expressions

-- an area names no thing
abbrev pub same_area : Block → Block
same_area area = area

-- an expression of an object with its paths moved, and a content
abbrev pub renamed_tree : Document → Object → Thing → List ℕ → Tree → Tree
renamed_tree d o thing new e = with_references (moved d o thing new) same_area e

abbrev pub renamed_content : Document → Object → Thing → List ℕ → Content → Content
renamed_content d o thing new (Own v) = Own v
renamed_content d o thing new (Bound e) = Bound (renamed_tree d o thing new e)

-- a content under the same slot name
abbrev pub renamed_entry : Document → Object → Thing → List ℕ → SlotName × Content → SlotName × Content
renamed_entry d o thing new e = (e.0, renamed_content d o thing new e.1)

-- ---- objects

-- the label of an object
abbrev pub new_label : Thing → List ℕ → Object → List ℕ
new_label (object name) new o = if same_text o.name name then new else o.label
new_label (property owner name) new o = o.label
new_label (cell sheet place) new o = o.label

-- the name of a dynamic property of an object
abbrev pub new_property_name : Thing → List ℕ → Object → List ℕ → List ℕ
new_property_name (object name) new o old = old
new_property_name (property owner name) new o old = if same_text o.name owner && same_text old name then new else old
new_property_name (cell sheet place) new o old = old

-- the alias of a cell of an object
abbrev pub new_alias : Thing → List ℕ → Object → Place × Cell → Option (List ℕ)
new_alias (object name) new o e = e.1.alias
new_alias (property owner name) new o e = e.1.alias
new_alias (cell sheet place) new o e = if same_text o.name sheet && same_place e.0 place then Some new else e.1.alias

-- overrides put in one after another, each at its place in the order of slot names
abbrev pub put_all : List (SlotName × Content) → List (SlotName × Content) → List (SlotName × Content)
put_all [] overrides = overrides
put_all (e ∷ es) overrides = put_all es (put slot_name_cmp e.0 e.1 overrides)

-- an override under a new name of its property
abbrev pub override_under : List ℕ → SlotName × Content → SlotName × Content
override_under new e = (under new e.0, e.1)

-- overrides where those of a property are taken out and put in again under its new name
abbrev pub rekeyed : List ℕ → List ℕ → List (SlotName × Content) → List (SlotName × Content)
rekeyed name new overrides =
    put_all (map (override_under new) (filter (λ (e : SlotName × Content). is_spelled_by name e.0) overrides))
    (filter (λ (e : SlotName × Content). not (is_spelled_by name e.0)) overrides)

-- the overrides of an object: those of a property of its end have the property's new name
abbrev pub new_overrides : Document → Thing → List ℕ → Object → List (SlotName × Content) → List (SlotName × Content)
new_overrides d (object name) new o overrides = overrides
new_overrides d (property owner name) new o overrides = if shows d owner o then rekeyed name new overrides else overrides
new_overrides d (cell sheet place) new o overrides = overrides

-- a dynamic property and a cell of an object
abbrev pub renamed_property : Document → Object → Thing → List ℕ → Property → Property
renamed_property d o thing new p =
    record p { name = new_property_name thing new o p.name; contents = map (renamed_content d o thing new) p.contents }

abbrev pub renamed_cell_content : Document → Object → Thing → List ℕ → Option Content → Option Content
renamed_cell_content d o thing new None = None
renamed_cell_content d o thing new (Some content) = Some (renamed_content d o thing new content)

abbrev pub renamed_cell : Document → Object → Thing → List ℕ → Place × Cell → Place × Cell
renamed_cell d o thing new e =
    (e.0, record e.1 { content = renamed_cell_content d o thing new e.1.content; alias = new_alias thing new o e })

-- an object
abbrev pub renamed_object : Document → Thing → List ℕ → Object → Object
renamed_object d thing new o = record o {
  label = new_label thing new o;
  inputs = map (renamed_entry d o thing new) o.inputs;
  dynamics = map (renamed_property d o thing new) o.dynamics;
  cells = map (renamed_cell d o thing new) o.cells;
  overrides = new_overrides d thing new o (map (renamed_entry d o thing new) o.overrides);
}

-- the document in which the thing has the new name: in every expression each path that leads to it through
-- its old name has the new one in its place, overrides keyed by the old name have the new key, and nothing
-- else differs
abbrev pub renamed : Document → Thing → List ℕ → Document
renamed d thing new = record d { objects = map (renamed_object d thing new) d.objects }

-- ---- how many

-- a reference of an object's expression that leads to a thing through its name
abbrev pub refers : Document → Object → Thing → Reference → Bool
refers d o thing (to_path p) = leads d o thing p
refers d o thing (to_area area) = false

-- the expressions of an object
abbrev pub expressions_of : Object → List Tree
expressions_of o = filter_map tree_of_content (contents o)

-- the references to a thing through its name: in an expression, in an object, and in the document; a path that stands
-- again counts again
abbrev pub refs_of_tree : Document → Object → Thing → Tree → ℕ
refs_of_tree d o thing e = length (filter (refers d o thing) (references e))

abbrev pub refs_of_object : Document → Thing → Object → ℕ
refs_of_object d thing o = sum_by (refs_of_tree d o thing) (expressions_of o)

abbrev pub refs : Document → Thing → ℕ
refs d thing = sum_by (refs_of_object d thing) d.objects

-- ---- names that are free

-- no other object has the label
abbrev pub is_free_label : Document → List ℕ → List ℕ → Bool
is_free_label d name label = list_all (λ (o : Object). same_text o.name name || not (same_text o.label label)) d.objects

-- no input, output or dynamic property of an object has the name, and no cell has it as its alias
abbrev pub is_free_name : Object → List ℕ → Bool
is_free_name o name =
    not (is_among name (names_of_kind o.kind ++ map (λ (p : Property). p.name) o.dynamics)) && not (is_among name (aliases o.cells))

-- no other cell of a sheet has the alias, and no dynamic property has it as its name
abbrev pub is_free_alias : Object → Place → List ℕ → Bool
is_free_alias o place alias =
    list_all (λ (e : Place × Cell). same_place e.0 place || not (option_map_or (same_text alias) e.1.alias false)) o.cells && not (has_dynamic o alias)

-- A thing of a document, and a new name for it that is good and free. (Commands refuse more: a name that a
-- foreign property has.)
abbrev pub ThingOf : Object → Thing → Type 0
ThingOf o (object name) = IsTrue (same_text o.name name)
ThingOf o (property owner name) = IsTrue (same_text o.name owner) × IsTrue (has_dynamic o name)
ThingOf o (cell sheet place) =
    IsTrue (same_text o.name sheet) × IsTrue (is_sheet o.kind) × ((e : Place × Cell) × IsIn e o.cells × IsTrue (same_place e.0 place))

abbrev pub IsNewName : Document → Object → Thing → List ℕ → Type 0
IsNewName d o (object name) new = IsTrue (is_label new) × IsTrue (is_free_label d name new)
IsNewName d o (property owner name) new = IsTrue (is_dynamic_name o.kind new) × IsTrue (is_free_name o new)
IsNewName d o (cell sheet place) new = IsTrue (is_alias new) × IsTrue (is_free_alias o place new)

pub record CanBeRenamed (d : Document) (thing : Thing) (new : List ℕ) : Type 0 where
  pub owner : Object
  pub here : IsIn owner d.objects
  pub old : ThingOf owner thing
  pub good : IsNewName d owner thing new
