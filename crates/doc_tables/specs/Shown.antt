-- Private: only contracts inside this crate cite this.
-- The entries of tables without the room that their maps have, and how they change.
use Rattle.std.specs.Prelude.{ℕ, nat_eq, zero, suc, List, [], ◌∷◌, ◌++◌}
use Rattle.std.specs.Cmp.Lexicographic.{pointwise}
use Rattle.std.specs.Map.{remove_entry}
use Rattle.document_model.specs.declared.content.Content.{Content}
use Rattle.doc_tables.specs.declared.entry.ObjectEntry.{ObjectEntry}
use Rattle.doc_tables.specs.declared.entry.PropertyEntry.{PropertyEntry}

-- the name and the label of an object, its properties, and its number
abbrev pub Shown : Type 0
Shown = List ℕ × List ℕ × List (List ℕ × PropertyEntry) × ℕ

abbrev pub shown : List ℕ × ObjectEntry → Shown
shown o = (o.0, o.1.label, o.1.properties.entries, o.1.number.0)

-- a list with the member at a place changed
abbrev pub change_at : {A : Type 0} → (A → A) → ℕ → List A → List A
change_at f n [] = []
change_at f zero (x ∷ xs) = f x ∷ xs
change_at f (suc n) (x ∷ xs) = x ∷ change_at f n xs

-- an object with one more property
abbrev pub with_entry : List ℕ × PropertyEntry → Shown → Shown
with_entry e o = (o.0, o.1, o.2 ++ e ∷ [], o.3)

-- a property with another content
abbrev pub entry_with : Content → List ℕ × PropertyEntry → List ℕ × PropertyEntry
entry_with new e = (e.0, record e.1 { content = new })

-- an object with another content in the property at a place
abbrev pub object_with : Content → ℕ → Shown → Shown
object_with new n o = (o.0, o.1, change_at (entry_with new) n o.2, o.3)

-- an object without the property of that name
abbrev pub without_entry : List ℕ → Shown → Shown
without_entry name o = (o.0, o.1, remove_entry (pointwise nat_eq name) o.2, o.3)
