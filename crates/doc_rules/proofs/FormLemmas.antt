-- What an edit puts into a slot is a content of the slot's type, so the document keeps its form.
use Rattle.std.proofs.Common.{◌≡◌, ℕ, Bool, true, false, ◌||◌, ◌&&◌, ◌++◌, not, cond, codes, List, [], ◌∷◌, map, Option, Some, None, find, is_some, Result, Ok, Err, refl, sym, ap, subst, ◌∙◌, IsTrue, inl, inr}
use Rattle.std.specs.List.{AllByRecursion, list_any}
use Rattle.fc_base.specs.Graph.{IsIn}
use Rattle.fc_base.specs.Texts.{is_name}
use Rattle.fc_base.proofs.NameTexts.{name_is_label}
use Rattle.object_paths.specs.declared.slot_name.SlotName.{SlotName}
use Rattle.object_paths.specs.Slots.{Slot, same_text}
use Rattle.property_types.specs.declared.prop_type.PropType.{PropType}
use Rattle.property_types.specs.declared.prop_type.Sort.{Sort}
use Rattle.property_types.specs.declared.value.Value.{Value}
use Rattle.property_types.specs.declared.value.ValueFault.TheVariants.{OutOfType}
use Rattle.property_types.specs.Plans.{Slots}
use Rattle.property_types.specs.Reserved.{is_among, is_reserved, own_types}
use Rattle.property_types.specs.Sorts.{sort_of_value}
use Rattle.property_types.specs.SoundPlans.{is_property_name}
use Rattle.property_types.specs.Types.{first_named, sort_of_type, type_named, type_name_of, types_of_properties}
use Rattle.std.specs.Str.{bytes_eq}
use Rattle.property_types.specs.Values.{Outcome, IsValue}
use Rattle.property_types.proofs.Equality.{sort_equal}
use Rattle.expr_tree.specs.Spelled.{IsSpelled}
use Rattle.expr_tree.specs.Tree.{Tree}
use Rattle.expr_grammar.specs.declared.fault.ExprFault.{ExprFault}
use Rattle.expr_grammar.specs.Parse.{closed_expression_in, expression_in}
use Rattle.expr_grammar.proofs.ExpressionLemmas.{closed_is, found-parses}
use Rattle.expr_grammar.proofs.SpelledTrees.{parsed_is_spelled}
use Rattle.expr_eval.specs.Firsts.{on_one}
use Rattle.expr_eval.specs.Kinds.{Agrees, IsOfSort}
use Rattle.expr_eval.specs.Outcomes.{outcome_of}
use Rattle.expr_eval.specs.SortRows.{SortOutcome}
use Rattle.expr_eval.specs.Sorts.{sort_of}
use Rattle.expr_eval.specs.ValuesGiven.{GivesValues}
use Rattle.expr_eval.proofs.KindLemmas.{outcome-kind}
use Rattle.expr_eval.proofs.ValueLemmas.{fitted_value, spelled_value}
use Rattle.document_model.specs.declared.content.Content.{Content}
use Rattle.document_model.specs.declared.content.Content.TheVariants.{Bound, Own}
use Rattle.document_model.specs.Contents.{IsContentOf}
use Rattle.document_model.specs.declared.kind.ObjectKind.{ObjectKind}
use Rattle.document_model.specs.declared.kind.ObjectKind.TheVariants.{VarSet, Sheet, Link}
use Rattle.document_model.specs.Document.{Document, Object, Property, object_labelled, object_named}
use Rattle.document_model.specs.Edited.{new_object, new_property, with_content, with_object, with_property}
use Rattle.document_model.specs.Kinds.{has_dynamics, is_dynamic_name, kind_by_plan, kind_of_type, names_of_kind}
use Rattle.document_model.specs.Resolution.{has_dynamic}
use Rattle.document_model.specs.TypedSlots.{input_slots}
use Rattle.document_model.specs.Slots.{type_of}
use Rattle.document_model.specs.WellFormed.{IsKind, IsPlan, IsWellFormed, aliases, is_added_type}
use Rattle.document_model.proofs.DistinctNames.{all-in, among-neither, found-passes, not-among, same-told}
use Rattle.document_model.proofs.FormLemmas.{IsObject-new_object, IsProperty-new_property, IsWellFormed-with_object, IsWellFormed-with_property, IsWellFormed-without_object, IsWellFormed-without_property}
use Rattle.document_model.proofs.Members.{from_find}
use Rattle.document_model.proofs.TypedContents.{IsWellFormed-with_content_at}
use Rattle.document_outcomes.specs.Faults.{Fault, first_fault}
use Rattle.document_outcomes.specs.Full.{Meanings, fitted, full}
use Rattle.document_outcomes.specs.Sorts.{bound_sort}
use Rattle.document_outcomes.proofs.GivenLemmas.{bound-of_sort}
use Rattle.document_outcomes.proofs.SearchLemmas.{any-false, none-find, or_false}
use Rattle.document_outcomes.proofs.TypedLemmas.{bound_sort-typed}
use Rattle.doc_rules.specs.declared.edit.Edit.{Edit}
use Rattle.doc_rules.specs.declared.edit.Edit.TheVariants.{New, Delete, Add, DropProperty, SetValue, Bind, Unbind}
use Rattle.doc_rules.specs.declared.refusal.Refusal.{Refusal}
use Rattle.doc_rules.specs.Accepted.{Accepted, accepted, accepted_by, unless_any}
use Rattle.doc_rules.specs.Commanded.{object_of, object_there, property_commanded, refused, slot_commanded}
use Rattle.doc_rules.specs.Edits.{Answers, edited, is_built, made}
use Rattle.doc_rules.specs.ObjectEdits.{deleted, is_object_type, tests_of_new, with_new}
use Rattle.doc_rules.specs.ObjectNames.{foreign_names, is_of_kind, is_slot_of, is_taken}
use Rattle.doc_rules.specs.OutcomesKept.{HasTypedOutcomes}
use Rattle.doc_rules.specs.PropertyEdits.{dropped, tests_of_added, with_added, with_typed}
use Rattle.doc_rules.specs.SlotEdits.{bound_to, is_bound, no_outcomes, no_sorts, set_to, tests_of_unbound, unbound, value_fitted, value_given, value_read, value_sorted}

-- ---- values that are given

-- behind a closed expression there is nothing, so all that is there are values, and of the sorts there
nothing-values : GivesValues no_outcomes
nothing-values = record { at = λ k v e. absurd (cc); inside = λ k v i. absurd i }

nothing-agrees : Agrees no_sorts no_outcomes
nothing-agrees = record { at = λ k. tt; inside = λ k. tt }

-- a value of a sort that the type takes is a content of the type once it is fitted
fitted-content :
    (type : PropType) (found : SortOutcome) (given : Outcome) (k : Sort) (v : Value) → IsOfSort found given → ((u : Value) → given ≡ Ok u → IsValue u)
    → bound_sort (Some type) found ≡ Ok k → fitted (Some type) given ≡ Ok v → IsContentOf type (Own v)
fitted-content type found (Err fault) k v of_sort value sorted fits = absurd (cc)
fitted-content type found (Ok u) k v of_sort value sorted fits =
    let told : IsOfSort (bound_sort (Some type) found) (Ok v) = subst (IsOfSort (bound_sort (Some type) found)) fits (bound-of_sort (Some type) found (Ok u) of_sort) in
    (fitted_value type u v (value u refl) fits, (sort_equal (sort_of_value v) (sort_of_type type)).1 (told k sorted ∙ bound_sort-typed (Some type) type found k refl sorted))

value_fitted-is : (given : Outcome) (v : Value) → value_fitted given ≡ Ok v → given ≡ Ok v
value_fitted-is (Ok u) v h = let same : u ≡ v = cc in ap Ok same
value_fitted-is (Err fault) v h = absurd (cc)

module _ (d : Document) (s : Slot) (type : PropType) (typed : type_of d s ≡ Some type) where
  sorted-content :
      (e : Tree) (found : SortOutcome) (v : Value) → IsSpelled e → bound_sort (type_of d s) (sort_of no_sorts 0 e) ≡ found
      → value_sorted d s e found ≡ Ok v → IsContentOf type (Own v)
  sorted-content e (Ok k) v spelled sorted h =
      let given : Outcome = outcome_of no_outcomes 0 e in
      fitted-content type (sort_of no_sorts 0 e) given k v (outcome-kind no_sorts no_outcomes nothing-agrees OutOfType 0 e)
      (λ u is. spelled_value no_outcomes nothing-values OutOfType 0 e u spelled is)
      (ap (λ (t : Option PropType). bound_sort t (sort_of no_sorts 0 e)) (sym typed) ∙ sorted)
      (ap (λ (t : Option PropType). fitted t given) (sym typed) ∙ value_fitted-is (fitted (type_of d s) given) v h)
  sorted-content e (Err cause) v spelled sorted h = absurd (cc)

  -- the value of a spelled expression, as the slot's type has it
  pub value_given-content : (e : Tree) (v : Value) → IsSpelled e → value_given d s e ≡ Ok v → IsContentOf type (Own v)
  value_given-content e v spelled h = sorted-content e (bound_sort (type_of d s) (sort_of no_sorts 0 e)) v spelled refl h

  read-content : (found : Result Tree ExprFault) (v : Value) → ((e : Tree) → found ≡ Ok e → IsSpelled e) → value_read d s found ≡ Ok v → IsContentOf type (Own v)
  read-content (Ok e) v spelled h = value_given-content e v (spelled e refl) h
  read-content (Err fault) v spelled h = absurd (cc)

-- ---- texts

-- the expression of a text can be spelled
pub expression_in-spelled : (text : List ℕ) (e : Tree) → expression_in text ≡ Ok e → IsSpelled e
expression_in-spelled text e h = parsed_is_spelled text e (found-parses text e h)

closed-spelled : (text : List ℕ) (e : Tree) → closed_expression_in text ≡ Ok e → IsSpelled e
closed-spelled text e h = parsed_is_spelled text e (closed_is text (Ok e) h).parses

-- the value of a text is a content of the slot's type
pub text-content :
    (d : Document) (s : Slot) (type : PropType) (text : List ℕ) (v : Value) → type_of d s ≡ Some type → value_read d s (closed_expression_in text) ≡ Ok v
    → IsContentOf type (Own v)
text-content d s type text v typed h = read-content d s type typed (closed_expression_in text) v (closed-spelled text) h

-- what is answered is what was to be found
pub answers-is : (found : Result Value Refusal) (v : Value) → Answers {A = Value} found (Ok v) → found ≡ Ok v
answers-is (Ok u) v h = ap Ok (sym h)
answers-is (Err r) v h = absurd h

-- ---- documents

on_one-parts : {A B : Type 0} (g : A → Result B Refusal) (x : Result A Refusal) (y : B) → on_one g x ≡ Ok y → (v : A) × (x ≡ Ok v) × (g v ≡ Ok y)
on_one-parts g (Ok v) y h = (v, refl, h)
on_one-parts g (Err told) y h = absurd (cc)

accepted_by-document : (d : Document) (found : Option Fault) (a : Accepted) → accepted_by d found ≡ Ok a → a.document ≡ d
accepted_by-document d None a h = let same : record { document = d; references = 0 } ≡ a = cc in ap (λ (b : Accepted). b.document) (sym same)
accepted_by-document d (Some f) a h = absurd (cc)

-- what is accepted is well-formed where the edited document is
accepted-form : (d : Document) (a : Accepted) → IsWellFormed d → accepted d ≡ Ok a → IsWellFormed a.document
accepted-form d a is h = subst IsWellFormed (sym (accepted_by-document d (first_fault d) a h)) is

-- no test holds where there is no refusal
unless_any-parts : (tests : List (Bool × ℕ)) (x : Result Accepted Refusal) (a : Accepted) → unless_any tests x ≡ Ok a
    → AllByRecursion (λ (test : Bool × ℕ). test.0 ≡ false) tests × (x ≡ Ok a)
unless_any-parts [] x a h = (tt, h)
unless_any-parts (test ∷ tests) x a h =
    elim test.0
    as (λ b. test.0 ≡ b → cond b (Err (refused test.1)) (unless_any tests x) ≡ Ok a → AllByRecursion (λ (t : Bool × ℕ). t.0 ≡ false) (test ∷ tests) × (x ≡ Ok a)) [
      | true ↦ λ e k. absurd (cc)
      | false ↦ λ e k. let rest = unless_any-parts tests x a k in ((e, rest.0), rest.1)
    ] refl h

module _ (d : Document) (is : IsWellFormed d) (s : Slot) (a : Accepted) where
  content-form : (new : Content) → ((type : PropType) → type_of d s ≡ Some type → IsContentOf type new) → accepted (with_content d s new) ≡ Ok a → IsWellFormed a.document
  content-form new fits h = accepted-form (with_content d s new) a (IsWellFormed-with_content_at d s new is fits) h

  bound_to-form : (found : Result Tree ExprFault) → ((e : Tree) → found ≡ Ok e → IsSpelled e) → bound_to d s found ≡ Ok a → IsWellFormed a.document
  bound_to-form (Ok e) spelled h = content-form (Bound e) (λ type typed. spelled e refl) h
  bound_to-form (Err fault) spelled h = absurd (cc)

  set_to-form : (text : List ℕ) → set_to d s (closed_expression_in text) ≡ Ok a → IsWellFormed a.document
  set_to-form text h =
      let parts = on_one-parts (λ (v : Value). accepted (with_content d s (Own v))) (value_read d s (closed_expression_in text)) a h in
      content-form (Own parts.0) (λ type typed. text-content d s type text parts.0 typed parts.1) parts.2

  unbound-form : (m : Meanings) (clean : Bool) → HasTypedOutcomes m d → unbound m clean d s ≡ Ok a → IsWellFormed a.document
  unbound-form m clean typed h =
      let behind = unless_any-parts (tests_of_unbound clean d s) (on_one (λ (v : Value). accepted (with_content d s (Own v))) (value_fitted (full m d s))) a h in
      let parts = on_one-parts (λ (v : Value). accepted (with_content d s (Own v))) (value_fitted (full m d s)) a behind.1 in
      content-form (Own parts.0) (λ type e. typed s type parts.0 e (value_fitted-is (full m d s) parts.0 parts.1)) parts.2

-- ---- objects

not-false : (b : Bool) → not b ≡ false → b ≡ true
not-false true h = refl
not-false false h = absurd (cc)

none-there : {A : Type 0} (found : Option A) → is_some found ≡ false → found ≡ None
none-there None h = refl
none-there (Some x) h = absurd (cc)

and-first : (a b : Bool) → (a && b) ≡ true → a ≡ true
and-first true b h = refl
and-first false b h = absurd (cc)

any-found : {A : Type 0} (p : A → Bool) (xs : List A) → list_any p xs ≡ true → is_some (find p xs) ≡ true
any-found p [] h = absurd (cc)
any-found {A} p (x ∷ xs) h =
    elim (p x) as (λ b. (b || list_any p xs) ≡ true → is_some (cond b (Some x) (find p xs)) ≡ true) [
      | true ↦ λ k. refl
      | false ↦ λ k. any-found p xs k
    ] h

kind-of : (a b e any : Bool) (kind : ObjectKind) → (any ≡ true → IsKind kind) → ((a || (b || (e || false))) || any) ≡ true → IsKind (cond a VarSet (cond b Sheet (cond e Link kind)))
kind-of true b e any kind p h = tt
kind-of false true e any kind p h = tt
kind-of false false true any kind p h = tt
kind-of false false false any kind p h = p h

by_plan-kind : (type : List ℕ) (found : Option Slots) → ((plan : Slots) → found ≡ Some plan → IsPlan plan) → is_some found ≡ true → IsKind (kind_by_plan type found)
by_plan-kind type None p h = absurd (cc)
by_plan-kind type (Some plan) p h = p plan refl

-- the kind of a type that objects may have
type-kind : (plans : List Slots) (type : List ℕ) → AllByRecursion IsPlan plans → is_object_type plans type ≡ true → IsKind (kind_of_type plans type)
type-kind plans type all h =
    kind-of (same_text type (codes "App::VarSet")) (same_text type (codes "Spreadsheet::Sheet")) (same_text type (codes "App::Link"))
    (list_any (λ (plan : Slots). same_text plan.type_name type) plans) _
    (λ any.
    by_plan-kind type _ (λ plan found. all-in IsPlan plans plan all (from_find (λ (p : Slots). same_text p.type_name type) plans plan found))
    (any-found (λ (p : Slots). same_text p.type_name type) plans any))
    h

new-form : (plans : List Slots) (d : Document) (type name : List ℕ) (a : Accepted) → AllByRecursion IsPlan plans → IsWellFormed d → with_new plans d type name ≡ Ok a → IsWellFormed a.document
new-form plans d type name a all is h =
    let parts = unless_any-parts (tests_of_new plans d type name) _ a h in
    let named : is_name name ≡ true = and-first (is_name name) (not (is_reserved name)) (not-false _ (parts.0).1.0) in
    accepted-form _ a
    (IsWellFormed-with_object d (new_object name name (kind_of_type plans type)) is
    (IsObject-new_object name name (kind_of_type plans type) named (name_is_label name named) (type-kind plans type all (not-false _ (parts.0).1.1.1.0)))
    (none-there (object_named d name) (parts.0).0))
    parts.1

-- ---- dynamic properties

object_there-is : (found : Option Object) (o : Object) → object_there found ≡ Ok o → found ≡ Some o
object_there-is None o h = absurd (cc)
object_there-is (Some q) o h = let same : q ≡ o = cc in ap Some same

first-added : (name : List ℕ) (types : List PropType) (type : PropType) → AllByRecursion (λ (t : PropType). IsTrue (is_added_type t)) types → first_named name types ≡ Some type → IsTrue (is_added_type type)
first-added name [] type all h = absurd (cc)
first-added name (t ∷ ts) type all h =
    elim (bytes_eq name (type_name_of t)) as (λ b. cond b (Some t) (first_named name ts) ≡ Some type → IsTrue (is_added_type type)) [
      | true ↦ λ k. let same : t ≡ type = cc in subst (λ (u : PropType). IsTrue (is_added_type u)) same all.0
      | false ↦ λ k. first-added name ts type all.1 k
    ] h

-- a type that has a name may be added
named-added : (name : List ℕ) (type : PropType) → type_named name ≡ Some type → IsTrue (is_added_type type)
named-added name type h =
    first-added name types_of_properties type (refl, (refl, (refl, (refl, (refl, (refl, (refl, (refl, (refl, (refl, (refl, (refl, (refl, (refl, (refl, (refl, (refl, tt))))))))))))))))) h

-- a name that is not taken is that of no input, output or dynamic property
free-among : (o : Object) (name : List ℕ) → is_taken o name ≡ false → is_among name (names_of_kind o.kind ++ map (λ (p : Property). p.name) o.dynamics) ≡ false
free-among o name h =
    let all = or_false (is_of_kind o.kind name || has_dynamic o name || is_among name (foreign_names o)) (is_among name (aliases o.cells)) h in
    let here = or_false (is_of_kind o.kind name || has_dynamic o name) (is_among name (foreign_names o)) all.0 in
    let both = or_false (is_of_kind o.kind name) (has_dynamic o name) here.0 in
    let kind = or_false (is_among name (names_of_kind o.kind)) (list_any (λ (slot : SlotName × PropType). is_slot_of name slot.0) (input_slots o.kind)) both.0 in
    among-neither name (names_of_kind o.kind) (map (λ (p : Property). p.name) o.dynamics) kind.0
    (not-among (λ (p : Property). p.name) name o.dynamics
    (none-find (λ (p : Property). same_text p.name name) o.dynamics (any-false (λ (p : Property). same_text p.name name) o.dynamics both.1)))

typed-form :
    (d : Document) (o : Object) (name : List ℕ) (type : Option PropType) (a : Accepted) → ((t : PropType) → type ≡ Some t → IsTrue (is_added_type t)) → IsWellFormed d
    → object_named d o.name ≡ Some o → has_dynamics o.kind ≡ true → is_taken o name ≡ false → is_dynamic_name o.kind name ≡ true → with_typed d o name type ≡ Ok a
    → IsWellFormed a.document
typed-form d o name None a added is found may free named h = absurd (cc)
typed-form d o name (Some type) a added is found may free named h =
    accepted-form (with_property d o.name (new_property name type)) a
    (IsWellFormed-with_property d o.name o (new_property name type) is found may (IsProperty-new_property o.kind name type named (added type refl)) (free-among o name free)) h

added-form : (d : Document) (owner type name : List ℕ) (o : Object) (a : Accepted) → IsWellFormed d → object_named d owner ≡ Some o → with_added d type name o ≡ Ok a → IsWellFormed a.document
added-form d owner type name o a is found h =
    let parts = unless_any-parts (tests_of_added o name) (with_typed d o name (type_named type)) a h in
    let same : o.name ≡ owner = same-told o.name owner (found-passes (λ (q : Object). same_text q.name owner) d.objects o found) in
    typed-form d o name (type_named type) a (named-added type) is (ap (object_named d) same ∙ found) (not-false _ (parts.0).0) (parts.0).1.0 (not-false _ (parts.0).1.1.0) parts.1

-- ---- all edits

made-form :
    (plans : List Slots) (m : Meanings) (clean : Bool) (d : Document) (e : Edit) (a : Accepted) → AllByRecursion IsPlan plans → HasTypedOutcomes m d → IsWellFormed d
    → made plans m clean d e ≡ Ok a → IsWellFormed a.document
made-form plans m clean d (New type name) a all typed is h = new-form plans d type name a all is h
made-form plans m clean d (Delete name) a all typed is h =
    let parts = on_one-parts (deleted d) (object_of d name) a h in
    accepted-form _ a (IsWellFormed-without_object d (parts.0).name is) parts.2
made-form plans m clean d (Add owner type name) a all typed is h =
    let parts = on_one-parts (with_added d type name) (object_of d owner) a h in
    added-form d owner type name parts.0 a is (object_there-is (object_named d owner) parts.0 parts.1) parts.2
made-form plans m clean d (DropProperty path) a all typed is h =
    let parts = on_one-parts (dropped d) (property_commanded d path) a h in
    accepted-form _ a (IsWellFormed-without_property d (parts.0).0.name (parts.0).1.name is) parts.2
made-form plans m clean d (SetValue path text) a all typed is h =
    let parts = on_one-parts (λ (s : Slot). set_to d s (closed_expression_in text)) (slot_commanded d path) a h in
    set_to-form d is parts.0 a text parts.2
made-form plans m clean d (Bind path text) a all typed is h =
    let parts = on_one-parts (λ (s : Slot). bound_to d s (expression_in text)) (slot_commanded d path) a h in
    bound_to-form d is parts.0 a (expression_in text) (expression_in-spelled text) parts.2
made-form plans m clean d (Unbind path) a all typed is h =
    let parts = on_one-parts (unbound m clean d) (slot_commanded d path) a h in
    unbound-form d is parts.0 a m clean typed parts.2
made-form plans m clean d _ a all typed is h = absurd (cc)

chosen-form : (b : Bool) (x : Result Accepted Refusal) (told : Refusal) (a : Accepted) → (x ≡ Ok a → IsWellFormed a.document) → cond b x (Err told) ≡ Ok a → IsWellFormed a.document
chosen-form true x told a p h = p h
chosen-form false x told a p h = absurd (cc)

-- an edit that is accepted keeps the form of the document
pub edited-form :
    (plans : List Slots) (m : Meanings) (clean : Bool) (d : Document) (e : Edit) (a : Accepted) → AllByRecursion IsPlan plans → HasTypedOutcomes m d → IsWellFormed d
    → edited plans m clean d e ≡ Ok a → IsWellFormed a.document
unfolding edited
edited-form plans m clean d e a all typed is h = chosen-form (is_built e) (made plans m clean d e) _ a (made-form plans m clean d e a all typed is) h
