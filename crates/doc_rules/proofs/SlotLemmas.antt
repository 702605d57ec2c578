-- The slots that commands name, and the types of slots.
use Rattle.std.proofs.Common.{◌≡◌, ◌≢◌, ℕ, List, Option, Some, None, Result, Ok, Err, refl, sym, ap, subst, ◌∙◌}
use Rattle.std.specs.Prelude.{IfSome, IsSome, is_some}
use Rattle.std.specs.Option.{option_map, option_and_then}
use Rattle.fc_base.specs.Graph.{IsIn}
use Rattle.fc_base.specs.declared.ids.ObjectId.{ObjectId}
use Rattle.fc_base.specs.declared.ids.SlotId.{SlotId}
use Rattle.object_paths.specs.declared.path.Path.{Path}
use Rattle.object_paths.specs.declared.path.Owner.{Owner}
use Rattle.object_paths.specs.declared.path.Owner.TheVariants.{Here, ByName, ByLabel}
use Rattle.object_paths.specs.Slots.{Slot, same_text}
use Rattle.property_types.specs.declared.prop_type.PropType.{PropType}
use Rattle.property_types.specs.declared.prop_type.PropType.TheVariants.{Placement}
use Rattle.document_model.specs.Document.{Document, Object, object_named, object_labelled}
use Rattle.document_model.specs.Resolution.{resolve}
use Rattle.document_model.specs.Slots.{type_of}
use Rattle.document_model.proofs.Members.{from_find}
use Rattle.doc_tables.specs.Accessors.{IsNumberOf, IsNumberOfObject}
use Rattle.doc_tables.specs.FindsAll.{FindsAll}
use Rattle.doc_tables.specs.Numbered.{Numbered, name_at, object_at, slot_at}
use Rattle.doc_tables.specs.VarSets.{HoldsVarSets}
use Rattle.doc_rules.specs.declared.refusal.Refusal.{Refusal}
use Rattle.doc_rules.specs.Commanded.{IsCommanded, object_commanded, refused, slot_behind, slot_commanded, slot_there}
use Rattle.doc_rules.proofs.VarSetFaults.{type_at-one_slot}
use Rattle.document_outcomes.specs.RefusalNumbers.{no_object, no_property}

-- the type of the slot of a number, where there is one, is no placement
pub type-fits :
    (t : Numbered) → HoldsVarSets t.document → {P : Type 0} (now : P → PropType) (found : Option P) (n : ℕ)
    → option_map now found ≡ option_and_then (type_of t.document) (slot_at t n) → IfSome found (λ p. now p ≢ Placement)
type-fits t holds now None n h = tt
type-fits t holds now (Some p) n h = type_at-one_slot t holds n (now p) (sym h)

-- the object of a command stands in the document
pub commanded-in : (d : Document) (owner : Owner) (o : Object) → object_commanded d owner ≡ Some o → IsIn o d.objects
commanded-in d Here o e = absurd (cc)
commanded-in d (ByName name) o e = from_find (λ (q : Object). same_text q.name name) d.objects o e
commanded-in d (ByLabel label) o e = from_find (λ (q : Object). same_text q.label label) d.objects o e

-- there is no object of a command where there is no number
pub none-commanded : (t : Numbered) (p : Path) (id : Option ObjectId) → IsNumberOfObject t id (object_commanded t.document p.owner) → id ≡ None
    → slot_commanded t.document p ≡ Err (refused no_object)
none-commanded t p id h none =
    elim (object_commanded t.document p.owner) as (λ (q : Option Object). IsNumberOfObject t id q → slot_behind t.document p q ≡ Err (refused no_object)) [
      | None ↦ λ k. refl
      | Some o ↦ λ k. absurd (cc)
    ] h

-- the object of a number is the object of the command
pub number-commanded : (t : Numbered) → FindsAll t.document → (owner : Owner) (id : ObjectId) → IsNumberOfObject t (Some id) (object_commanded t.document owner)
    → object_at t id.0 ≡ object_commanded t.document owner
number-commanded t finds owner id h =
    elim (object_commanded t.document owner) as (λ (q : Option Object). object_commanded t.document owner ≡ q → IsNumberOfObject t (Some id) q → object_at t id.0 ≡ q) [
      | None ↦ λ e k. absurd (cc)
      | Some o ↦ λ e k.
          let at : name_at t id.0 ≡ Some o.name = cc in
          ap (option_and_then (object_named t.document)) at ∙ finds.objects o (commanded-in t.document owner o e)
    ] refl h

-- and so it is in use
pub number-used : (t : Numbered) (id : ObjectId) (q : Option Object) → IsNumberOfObject t (Some id) q → IsSome (name_at t id.0)
number-used t id None h = absurd (cc)
number-used t id (Some o) h = let at : name_at t id.0 ≡ Some o.name = cc in ap is_some at

there-commanded : (t : Numbered) (d : Document) (p : Path) (found : Option Object) (n : Option Object) (slot : Option SlotId)
    → n ≡ found → IsNumberOf t slot (option_and_then (λ o. resolve d o p) n) → (id : SlotId) → slot ≡ Some id → IsCommanded t (slot_behind d p found) (Ok id)
there-commanded t d p None n slot same h id is =
    let none : option_and_then (λ o. resolve d o p) n ≡ None = ap (option_and_then (λ o. resolve d o p)) same in
    absurd (cc)
there-commanded t d p (Some o) n slot same h id is =
    elim (resolve d o p) as (λ (q : Option Slot). resolve d o p ≡ q → IsCommanded t (slot_there q) (Ok id)) [
      | None ↦ λ e. let none : option_and_then (λ o. resolve d o p) n ≡ None = ap (option_and_then (λ o. resolve d o p)) same ∙ e in absurd (cc)
      | Some s ↦ λ e. let some : option_and_then (λ o. resolve d o p) n ≡ Some s = ap (option_and_then (λ o. resolve d o p)) same ∙ e in cc
    ] refl

lacks-commanded : (t : Numbered) (d : Document) (p : Path) (found n : Option Object) (slot : Option SlotId) (there : (o : Object) × (found ≡ Some o))
    → n ≡ found → IsNumberOf t slot (option_and_then (λ o. resolve d o p) n) → slot ≡ None → slot_behind d p found ≡ Err (refused no_property)
lacks-commanded t d p None n slot there same h is = absurd (cc there.1)
lacks-commanded t d p (Some o) n slot there same h is =
    elim (resolve d o p) as (λ (q : Option Slot). resolve d o p ≡ q → slot_there q ≡ Err (refused no_property)) [
      | None ↦ λ e. refl
      | Some s ↦ λ e. let some : option_and_then (λ o. resolve d o p) n ≡ Some s = ap (option_and_then (λ o. resolve d o p)) same ∙ e in absurd (cc)
    ] refl

module _ (t : Numbered) (finds : FindsAll t.document) (p : Path) (id : ObjectId) (object : IsNumberOfObject t (Some id) (object_commanded t.document p.owner)) where
  -- the slot that the object has
  pub slot-commanded : (slot : Option SlotId) → IsNumberOf t slot (option_and_then (λ o. resolve t.document o p) (object_at t id.0)) → (s : SlotId) → slot ≡ Some s
      → IsCommanded t (slot_commanded t.document p) (Ok s)
  slot-commanded slot h = there-commanded t t.document p (object_commanded t.document p.owner) (object_at t id.0) slot (number-commanded t finds p.owner id object) h

  commanded-there : (q : Option Object) → IsNumberOfObject t (Some id) q → (o : Object) × (q ≡ Some o)
  commanded-there None k = absurd (cc)
  commanded-there (Some o) k = (o, refl)

  -- or the refusal where it has none
  pub slot-lacking : (slot : Option SlotId) → IsNumberOf t slot (option_and_then (λ o. resolve t.document o p) (object_at t id.0)) → slot ≡ None
      → slot_commanded t.document p ≡ Err (refused no_property)
  slot-lacking slot h =
      lacks-commanded t t.document p (object_commanded t.document p.owner) (object_at t id.0) slot (commanded-there _ object)
      (number-commanded t finds p.owner id object) h
