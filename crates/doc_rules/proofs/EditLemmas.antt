-- The numbers of faults and of refusals have names, and what is accepted is valid.
use Rattle.std.proofs.Common.{◌≡◌, ℕ, Bool, true, false, cond, List, [], ◌∷◌, Option, Some, None, Result, Ok, Err, refl, sym, ap, subst, ◌∙◌, IsTrue}
use Rattle.std.specs.Option.{option_map, option_or}
use Rattle.object_paths.specs.declared.path.Path.{Path}
use Rattle.object_paths.specs.Slots.{Slot}
use Rattle.property_types.specs.declared.value.Value.{Value}
use Rattle.property_types.specs.Plans.{Slots}
use Rattle.property_types.specs.Values.{Outcome}
use Rattle.expr_tree.specs.Tree.{Tree}
use Rattle.expr_grammar.specs.declared.fault.ExprFault.{ExprFault}
use Rattle.expr_eval.specs.declared.sort_cause.SortCause.{SortCause}
use Rattle.expr_eval.specs.declared.sort_cause.SortCause.TheVariants.{UnitMismatch, KindMismatch, ExponentRange}
use Rattle.expr_eval.specs.Firsts.{on_one}
use Rattle.expr_eval.specs.SortRows.{SortOutcome}
use Rattle.object_paths.specs.declared.slot_name.SlotName.{SlotName}
use Rattle.object_paths.specs.declared.slot_name.SlotName.TheVariants.{Plain, Component, Marked}
use Rattle.property_types.specs.declared.prop_type.PropType.{PropType}
use Rattle.property_types.specs.Types.{type_named}
use Rattle.std.specs.List.{AllByRecursion}
use Rattle.document_model.specs.Document.{Document, Object, Property, object_named}
use Rattle.document_model.specs.declared.content.Content.TheVariants.{Own}
use Rattle.document_model.specs.Edited.{with_content}
use Rattle.document_model.specs.Slots.{slots}
use Rattle.document_outcomes.specs.Full.{Meanings, full}
use Rattle.document_outcomes.specs.Sorts.{sort}
use Rattle.document_outcomes.specs.Faults.{Fault, IsValid, first_fault, fault_within_limits, limit_faults, label_faults, link_faults, reference_fault, reference_faults, cycle_faults, sort_fault, sort_faults, first_some, object_fault, slot_fault, number_of_cause}
use Rattle.document_outcomes.specs.RefusalNumbers.{no_object, no_property, not_built, not_dynamic, label_taken, out_of_range, unknown_reference, cycle, link_kind, too_many, wrong_type}
use Rattle.doc_rules.specs.declared.edit.Edit.{Edit}
use Rattle.doc_rules.specs.declared.edit.Edit.TheVariants.{New, Delete, Add, DropProperty, SetValue, Bind, Unbind}
use Rattle.doc_rules.specs.declared.refusal.Refusal.{Refusal}
use Rattle.doc_rules.specs.Commanded.{object_commanded, object_of, object_there, property_commanded, property_in, property_there, refused, slot_behind, slot_commanded, slot_there}
use Rattle.doc_tables.specs.Numbered.{Numbered, LeadsTo}
use Rattle.doc_rules.specs.declared.edit_fault.EditFault.{EditFault}
use Rattle.doc_rules.specs.declared.fault.CheckFault.TheVariants.{Doc}
use Rattle.doc_rules.specs.declared.fault.DocFault.{DocFault}
use Rattle.doc_rules.specs.Found.{MeetsFault}
use Rattle.doc_rules.specs.declared.edit_fault.EditFault.TheVariants.{Refused, Memory}
use Rattle.doc_rules.specs.Accepted.{Accepted, accepted, accepted_by, fault_told, refusal_of_fault, unless_any}
use Rattle.doc_rules.specs.Edits.{Answers, Becomes, IsNamed, MeetsEdit, edited, is_built, made}
use Rattle.doc_rules.specs.ObjectEdits.{deleted, tests_of_new, with_new}
use Rattle.doc_rules.specs.ObjectNames.{dynamic_named, is_known}
use Rattle.doc_rules.specs.PropertyEdits.{dropped, tests_of_added, with_added, with_typed}
use Rattle.doc_rules.specs.SlotEdits.{bound_to, is_bound, refusal_of_sort, refusal_of_text, set_to, tests_of_unbound, unbound, value_fitted, value_read, value_sorted}
use Rattle.doc_rules.specs.Refusals.{is_refusal_number}

-- ---- faults

abbrev Named : Fault → Type 0
Named f = IsTrue (is_refusal_number f.number)

or-named : (a b : Option Fault) → ((f : Fault) → a ≡ Some f → Named f) → ((f : Fault) → b ≡ Some f → Named f) → (f : Fault) → option_or a b ≡ Some f → Named f
or-named None b p q f e = q f e
or-named (Some g) b p q f e = p f e

map-named : {A : Type 0} (g : A → Fault) (x : Option A) → ((y : A) → Named (g y)) → (f : Fault) → option_map g x ≡ Some f → Named f
map-named g None p f e = absurd (cc)
map-named g (Some y) p f e = let same : g y ≡ f = cc in let P : Fault → Type 0 = Named in subst P same (p y)

if-named : (b : Bool) (g : Fault) → Named g → (f : Fault) → cond b (Some g) None ≡ Some f → Named f
if-named true g p f e = let same : g ≡ f = cc in let P : Fault → Type 0 = Named in subst P same p
if-named false g p f e = absurd (cc)

some-named : {A : Type 0} (g : A → Option Fault) → ((x : A) (f : Fault) → g x ≡ Some f → Named f) → (xs : List A) (f : Fault) → first_some g xs ≡ Some f → Named f
some-named g p [] f e = absurd (cc)
some-named g p (x ∷ xs) f e = or-named (g x) (first_some g xs) (p x) (some-named g p xs) f e

cause-named : (cause : SortCause) → IsTrue (is_refusal_number (number_of_cause cause))
cause-named UnitMismatch = refl
cause-named KindMismatch = refl
cause-named ExponentRange = refl

sort-named : (s : Slot) (found : SortOutcome) (f : Fault) → sort_fault s found ≡ Some f → Named f
sort-named s (Ok sort) f e = absurd (cc)
sort-named s (Err cause) f e =
    let same : slot_fault (number_of_cause cause) s ≡ f = cc in let P : Fault → Type 0 = Named in subst P same (cause-named cause)

reference-named : (d : Document) (o : Object) (f : Fault) → reference_fault d o ≡ Some f → Named f
reference-named d o =
    or-named _ _ (if-named _ (object_fault unknown_reference o) refl)
    (or-named _ _ (map-named _ _ (λ e. refl)) (map-named _ _ (λ r. refl)))

-- the first fault of a document has a number that has a name
pub first_fault-named : (d : Document) (f : Fault) → first_fault d ≡ Some f → IsTrue (is_refusal_number f.number)
unfolding first_fault fault_within_limits
first_fault-named d =
    or-named (limit_faults d) _ (if-named _ (record { number = too_many; subject = [] }) refl)
    (or-named (label_faults d) _ (map-named (object_fault label_taken) _ (λ o. refl))
    (or-named (link_faults d) _ (map-named (object_fault link_kind) _ (λ o. refl))
    (or-named (reference_faults d) _ (some-named (reference_fault d) (reference-named d) d.objects)
    (or-named (cycle_faults d) _ (map-named (slot_fault cycle) _ (λ s. refl))
    (or-named (sort_faults d) _ (some-named (λ s. sort_fault s (sort d s)) (λ s. sort-named s (sort d s)) (slots d))
    (map-named (slot_fault out_of_range) _ (λ s. refl)))))))

-- ---- edits

on_one-named : {A B : Type 0} (g : A → Result B Refusal) (x : Result A Refusal) → ((y : A) (r : Refusal) → g y ≡ Err r → IsNamed r)
    → ((r : Refusal) → x ≡ Err r → IsNamed r) → (r : Refusal) → on_one g x ≡ Err r → IsNamed r
on_one-named g (Ok y) p q r e = p y r e
on_one-named g (Err told) p q r e = let same : told ≡ r = cc in q r (ap Err same)

named-is : {A : Type 0} (told : Refusal) → IsNamed told → (x : Result A Refusal) → x ≡ Err told → (r : Refusal) → x ≡ Err r → IsNamed r
named-is told n x is r e = let same : told ≡ r = cc in let P : Refusal → Type 0 = IsNamed in subst P same n

accepted_by-named : (d : Document) (found : Option Fault) → ((f : Fault) → found ≡ Some f → IsTrue (is_refusal_number f.number)) → (r : Refusal) → accepted_by d found ≡ Err r → IsNamed r
accepted_by-named d None p r e = absurd (cc)
accepted_by-named d (Some f) p r e = named-is (refusal_of_fault f) (p f refl) _ refl r e

accepted-named : (d : Document) (r : Refusal) → accepted d ≡ Err r → IsNamed r
accepted-named d = accepted_by-named d (first_fault d) (first_fault-named d)

bound_to-named : (d : Document) (s : Slot) (found : Result Tree ExprFault) (r : Refusal) → bound_to d s found ≡ Err r → IsNamed r
bound_to-named d s (Ok e) = accepted-named _
bound_to-named d s (Err f) = named-is (refusal_of_text f) refl _ refl

value_fitted-named : (given : Outcome) (r : Refusal) → value_fitted given ≡ Err r → IsNamed r
value_fitted-named (Ok v) r e = absurd (cc)
value_fitted-named (Err fault) r e = named-is (refused out_of_range) refl _ refl r e

value_sorted-named : (d : Document) (s : Slot) (e : Tree) (found : SortOutcome) (r : Refusal) → value_sorted d s e found ≡ Err r → IsNamed r
value_sorted-named d s e (Ok sort) = value_fitted-named _
value_sorted-named d s e (Err cause) = named-is (refusal_of_sort cause) (cause-named cause) _ refl

value_read-named : (d : Document) (s : Slot) (found : Result Tree ExprFault) (r : Refusal) → value_read d s found ≡ Err r → IsNamed r
value_read-named d s (Ok e) = value_sorted-named d s e _
value_read-named d s (Err f) = named-is (refusal_of_text f) refl _ refl

set_to-named : (d : Document) (s : Slot) (found : Result Tree ExprFault) (r : Refusal) → set_to d s found ≡ Err r → IsNamed r
set_to-named d s found = on_one-named _ (value_read d s found) (λ v. accepted-named _) (value_read-named d s found)

slot_there-named : (s : Option Slot) (r : Refusal) → slot_there s ≡ Err r → IsNamed r
slot_there-named None r e = named-is (refused no_property) refl _ refl r e
slot_there-named (Some s) r e = absurd (cc)

slot_behind-named : (d : Document) (p : Path) (o : Option Object) (r : Refusal) → slot_behind d p o ≡ Err r → IsNamed r
slot_behind-named d p None = named-is (refused no_object) refl _ refl
slot_behind-named d p (Some o) = slot_there-named _

pub slot_commanded-named : (d : Document) (p : Path) (r : Refusal) → slot_commanded d p ≡ Err r → IsNamed r
slot_commanded-named d p = slot_behind-named d p (object_commanded d p.owner)

choose-named : {A : Type 0} (b : Bool) (x y : Result A Refusal) → ((r : Refusal) → x ≡ Err r → IsNamed r) → ((r : Refusal) → y ≡ Err r → IsNamed r)
    → (r : Refusal) → cond b x y ≡ Err r → IsNamed r
choose-named true x y p q r e = p r e
choose-named false x y p q r e = q r e

-- a test with a number that has a name
abbrev IsNamedTest : Bool × ℕ → Type 0
IsNamedTest test = IsTrue (is_refusal_number test.1)

unless_any-named : {A : Type 0} (tests : List (Bool × ℕ)) (x : Result A Refusal) → AllByRecursion IsNamedTest tests → ((r : Refusal) → x ≡ Err r → IsNamed r)
    → (r : Refusal) → unless_any tests x ≡ Err r → IsNamed r
unless_any-named [] x all p = p
unless_any-named (test ∷ tests) x all p =
    choose-named test.0 (Err (refused test.1)) (unless_any tests x) (named-is (refused test.1) all.0 _ refl) (unless_any-named tests x all.1 p)

object_there-named : (found : Option Object) (r : Refusal) → object_there found ≡ Err r → IsNamed r
object_there-named None = named-is (refused no_object) refl _ refl
object_there-named (Some o) = λ r e. absurd (cc)

property_there-named : (o : Object) (known : Bool) (found : Option Property) (r : Refusal) → property_there o known found ≡ Err r → IsNamed r
property_there-named o known (Some p) = λ r e. absurd (cc)
property_there-named o true None = named-is (refused not_dynamic) refl _ refl
property_there-named o false None = named-is (refused no_property) refl _ refl

property_in-named : (d : Document) (name : SlotName) (o : Object) (r : Refusal) → property_in d name o ≡ Err r → IsNamed r
property_in-named d (Plain name) o = property_there-named o (is_known d o name) (dynamic_named o name)
property_in-named d (Component name k) o = named-is (refused no_property) refl _ refl
property_in-named d (Marked p) o = named-is (refused no_property) refl _ refl

property_commanded-named : (d : Document) (p : Path) (r : Refusal) → property_commanded d p ≡ Err r → IsNamed r
property_commanded-named d p = on_one-named _ (object_there (object_commanded d p.owner)) (property_in-named d p.slot) (object_there-named _)

with_typed-named : (d : Document) (o : Object) (name : List ℕ) (type : Option PropType) (r : Refusal) → with_typed d o name type ≡ Err r → IsNamed r
with_typed-named d o name None = named-is (refused wrong_type) refl _ refl
with_typed-named d o name (Some type) = accepted-named _

unbound-named : (m : Meanings) (clean : Bool) (d : Document) (s : Slot) (r : Refusal) → unbound m clean d s ≡ Err r → IsNamed r
unbound-named m clean d s =
    unless_any-named (tests_of_unbound clean d s) _ (refl, (refl, tt)) (on_one-named _ (value_fitted (full m d s)) (λ v. accepted-named _) (value_fitted-named _))

made-named : (plans : List Slots) (m : Meanings) (clean : Bool) (d : Document) (e : Edit) (r : Refusal) → made plans m clean d e ≡ Err r → IsNamed r
made-named plans m clean d (New type name) = unless_any-named (tests_of_new plans d type name) _ (refl, (refl, (refl, (refl, tt)))) (accepted-named _)
made-named plans m clean d (Delete name) = on_one-named _ (object_of d name) (λ o. accepted-named _) (object_there-named _)
made-named plans m clean d (Add owner type name) =
    on_one-named _ (object_of d owner) (λ o. unless_any-named (tests_of_added o name) _ (refl, (refl, (refl, tt))) (with_typed-named d o name _)) (object_there-named _)
made-named plans m clean d (DropProperty path) = on_one-named _ (property_commanded d path) (λ found. accepted-named _) (property_commanded-named d path)
made-named plans m clean d (SetValue path text) = on_one-named _ (slot_commanded d path) (λ s. set_to-named d s _) (slot_commanded-named d path)
made-named plans m clean d (Bind path text) = on_one-named _ (slot_commanded d path) (λ s. bound_to-named d s _) (slot_commanded-named d path)
made-named plans m clean d (Unbind path) = on_one-named _ (slot_commanded d path) (unbound-named m clean d) (slot_commanded-named d path)
made-named plans m clean d _ = named-is (refused not_built) refl _ refl

-- an edit is refused with a number that has a name
pub edited-named : (plans : List Slots) (m : Meanings) (clean : Bool) (d : Document) (e : Edit) (r : Refusal) → edited plans m clean d e ≡ Err r → IsNamed r
unfolding edited
edited-named plans m clean d e =
    choose-named (is_built e) (made plans m clean d e) (Err (refused not_built)) (made-named plans m clean d e) (named-is (refused not_built) refl _ refl)

-- ---- what is accepted

-- a valid document, in which no reference was written anew
pub record IsPlain (a : Accepted) : Type 0 where
  pub valid : IsValid a.document
  pub references : a.references ≡ 0

on_one-plain : {A : Type 0} (g : A → Result Accepted Refusal) (x : Result A Refusal) → ((y : A) (a : Accepted) → g y ≡ Ok a → IsPlain a)
    → (a : Accepted) → on_one g x ≡ Ok a → IsPlain a
on_one-plain g (Ok y) p a e = p y a e
on_one-plain g (Err told) p a e = absurd (cc)

accepted_by-plain : (d : Document) (found : Option Fault) → first_fault d ≡ found → (a : Accepted) → accepted_by d found ≡ Ok a → IsPlain a
accepted_by-plain d None none a e =
    let same : record { document = d; references = 0 } ≡ a = cc in let P : Accepted → Type 0 = IsPlain in
    subst P same (record { valid = none; references = refl })
accepted_by-plain d (Some f) none a e = absurd (cc)

accepted-plain : (d : Document) (a : Accepted) → accepted d ≡ Ok a → IsPlain a
accepted-plain d = accepted_by-plain d (first_fault d) refl

bound_to-plain : (d : Document) (s : Slot) (found : Result Tree ExprFault) (a : Accepted) → bound_to d s found ≡ Ok a → IsPlain a
bound_to-plain d s (Ok e) a h = accepted-plain _ a h
bound_to-plain d s (Err f) a h = absurd (cc)

set_to-plain : (d : Document) (s : Slot) (found : Result Tree ExprFault) (a : Accepted) → set_to d s found ≡ Ok a → IsPlain a
set_to-plain d s found = on_one-plain _ (value_read d s found) (λ v. accepted-plain _)

choose-plain : (b : Bool) (x y : Result Accepted Refusal) → ((a : Accepted) → x ≡ Ok a → IsPlain a) → ((a : Accepted) → y ≡ Ok a → IsPlain a)
    → (a : Accepted) → cond b x y ≡ Ok a → IsPlain a
choose-plain true x y p q a e = p a e
choose-plain false x y p q a e = q a e

refused-plain : (told : Refusal) (x : Result Accepted Refusal) → x ≡ Err told → (a : Accepted) → x ≡ Ok a → IsPlain a
refused-plain told x is a e = absurd (cc)

unless_any-plain : (tests : List (Bool × ℕ)) (x : Result Accepted Refusal) → ((a : Accepted) → x ≡ Ok a → IsPlain a)
    → (a : Accepted) → unless_any tests x ≡ Ok a → IsPlain a
unless_any-plain [] x p = p
unless_any-plain (test ∷ tests) x p = choose-plain test.0 (Err (refused test.1)) (unless_any tests x) (refused-plain (refused test.1) _ refl) (unless_any-plain tests x p)

with_typed-plain : (d : Document) (o : Object) (name : List ℕ) (type : Option PropType) (a : Accepted) → with_typed d o name type ≡ Ok a → IsPlain a
with_typed-plain d o name None = refused-plain (refused wrong_type) _ refl
with_typed-plain d o name (Some type) = accepted-plain _

unbound-plain : (m : Meanings) (clean : Bool) (d : Document) (s : Slot) (a : Accepted) → unbound m clean d s ≡ Ok a → IsPlain a
unbound-plain m clean d s =
    unless_any-plain (tests_of_unbound clean d s) _
    (on_one-plain (λ (v : Value). accepted (with_content d s (Own v))) (value_fitted (full m d s)) (λ v. accepted-plain (with_content d s (Own v))))

made-plain : (plans : List Slots) (m : Meanings) (clean : Bool) (d : Document) (e : Edit) (a : Accepted) → made plans m clean d e ≡ Ok a → IsPlain a
made-plain plans m clean d (New type name) = unless_any-plain (tests_of_new plans d type name) _ (accepted-plain _)
made-plain plans m clean d (Delete name) = on_one-plain _ (object_of d name) (λ o. accepted-plain _)
made-plain plans m clean d (Add owner type name) = on_one-plain _ (object_of d owner) (λ o. unless_any-plain (tests_of_added o name) _ (with_typed-plain d o name _))
made-plain plans m clean d (DropProperty path) = on_one-plain _ (property_commanded d path) (λ found. accepted-plain _)
made-plain plans m clean d (SetValue path text) = on_one-plain _ (slot_commanded d path) (λ s. set_to-plain d s _)
made-plain plans m clean d (Bind path text) = on_one-plain _ (slot_commanded d path) (λ s. bound_to-plain d s _)
made-plain plans m clean d (Unbind path) = on_one-plain _ (slot_commanded d path) (unbound-plain m clean d)
made-plain plans m clean d _ = refused-plain (refused not_built) _ refl

pub edited-plain : (plans : List Slots) (m : Meanings) (clean : Bool) (d : Document) (e : Edit) (a : Accepted) → edited plans m clean d e ≡ Ok a → IsPlain a
unfolding edited
edited-plain plans m clean d e =
    choose-plain (is_built e) (made plans m clean d e) (Err (refused not_built)) (made-plain plans m clean d e) (refused-plain (refused not_built) _ refl)

-- an edit that is accepted leads to a valid document
pub edited-valid : (plans : List Slots) (m : Meanings) (clean : Bool) (d : Document) (e : Edit) (a : Accepted) → edited plans m clean d e ≡ Ok a → IsValid a.document
edited-valid plans m clean d e a h = (edited-plain plans m clean d e a h).valid

-- ---- how it is told

-- a refusal that is told has a name
pub becomes-named : {A : Type 0} (t : Numbered) (found : Result Accepted Refusal) → ((r : Refusal) → found ≡ Err r → IsNamed r)
    → (fault : EditFault) → Becomes t found (Err fault) → (r : Refusal) → Err fault ≡ (let told : Result A EditFault = Err (Refused r) in told) → IsNamed r
becomes-named t found named (Memory error) h r e = absurd (cc)
becomes-named t (Ok a) named (Refused told) h r e = absurd h
becomes-named t (Err first) named (Refused told) h r e = let same : first ≡ r = cc in named r (ap Err same)

-- the tables and the count of an edit that was made
pub becomes-meets : (before after : Numbered) (found : Result Accepted Refusal) → ((a : Accepted) → found ≡ Ok a → IsPlain a)
    → Becomes before found (Ok after) → MeetsEdit before after found (Ok 0)
becomes-meets before after (Ok a) plain h = (h.0, h.1, sym (plain a refl).references)
becomes-meets before after (Err r) plain h = absurd h

-- and they are valid
pub becomes-valid : (before after : Numbered) (found : Result Accepted Refusal) → ((a : Accepted) → found ≡ Ok a → IsPlain a)
    → Becomes before found (Ok after) → IsValid after.document
becomes-valid before after (Ok a) plain h = let P : Document → Type 0 = IsValid in subst P (sym h.0) (plain a refl).valid
becomes-valid before after (Err r) plain h = absurd h

-- a test that holds, and one that does not
pub by-true : {A : Type 0} (b : Bool) (x y : Result A Refusal) (result : Result A EditFault) → b ≡ true → Answers {A = A} x result → Answers {A = A} (cond b x y) result
by-true true x y result e h = h
by-true false x y result e h = absurd (cc)

pub by-false : {A : Type 0} (b : Bool) (x y : Result A Refusal) (result : Result A EditFault) → b ≡ false → Answers {A = A} y result → Answers {A = A} (cond b x y) result
by-false true x y result e h = absurd (cc)
by-false false x y result e h = h

-- a refusal of a test is the answer whatever stands behind the tests
pub tests-refused : {A B : Type 0} (tests : List (Bool × ℕ)) (x : A) (told : Refusal) → Answers {A = A} (unless_any tests (Ok x)) (Err (Refused told))
    → (y : Result B Refusal) → unless_any tests y ≡ Err told
tests-refused [] x told h y = absurd h
tests-refused {A} {B} (test ∷ tests) x told h y =
    elim test.0 as (λ b. Answers {A = A} (cond b (Err (refused test.1)) (unless_any tests (Ok x))) (Err (Refused told)) → cond b (Err (refused test.1)) (unless_any tests y) ≡ Err told) [
      | true ↦ λ k. let same : told ≡ refused test.1 = k in ap Err (sym same)
      | false ↦ λ k. tests-refused tests x told k y
    ] h

-- where no test holds, what stands behind them is the answer
pub tests-passed : {A B : Type 0} (tests : List (Bool × ℕ)) (x told : A) → Answers {A = A} (unless_any tests (Ok x)) (Ok told)
    → (y : Result B Refusal) → unless_any tests y ≡ y
tests-passed [] x told h y = refl
tests-passed {A} {B} (test ∷ tests) x told h y =
    elim test.0 as (λ b. Answers {A = A} (cond b (Err (refused test.1)) (unless_any tests (Ok x))) (Ok told) → cond b (Err (refused test.1)) (unless_any tests y) ≡ y) [
      | true ↦ λ k. absurd k
      | false ↦ λ k. tests-passed tests x told k y
    ] h

-- with a value it is the edit of that value
pub becomes-valued : (t : Numbered) (g : Value → Result Accepted Refusal) (found : Result Value Refusal) (v : Value) (result : Result Numbered EditFault)
    → Answers {A = Value} found (Ok v) → Becomes t (g v) result → Becomes t (on_one g found) result
becomes-valued t g (Ok w) v result h b = let P : Value → Type 0 = λ x. Becomes t (g x) result in subst P h b
becomes-valued t g (Err first) v result h b = absurd h

-- ---- edited tables that are checked
accepted-edited : (v w : Numbered) (d : Document) (result : Result Numbered EditFault) → LeadsTo v w d → Becomes v (accepted_by w.document (first_fault w.document)) result → Becomes v (accepted d) result
accepted-edited v w d result leads h =
    let P : Document → Type 0 = λ x. Becomes v (accepted_by x (first_fault x)) result in
    subst P leads.document h

-- with a fault they are refused
pub checked-fault : (v w : Numbered) (d : Document) (told : DocFault) (fault : EditFault) → LeadsTo v w d → MeetsFault (first_fault w.document) (Err (Doc told))
    → Answers {A = Document} (Err (refusal_of_fault (fault_told told))) (Err fault) → Becomes v (accepted d) (Err fault)
checked-fault v w d told fault leads h answer = accepted-edited v w d (Err fault) leads (by (first_fault w.document) fault h answer)
  where
    by : (found : Option Fault) (fault : EditFault) → MeetsFault found (Err (Doc told)) → Answers {A = Document} (Err (refusal_of_fault (fault_told told))) (Err fault) → Becomes v (accepted_by w.document found) (Err fault)
    by None fault h answer = absurd h
    by (Some f) (Refused r) h answer = answer ∙ (λ j. refusal_of_fault (record { number = sym h.number j; subject = sym h.subject j }))
    by (Some f) (Memory e) h answer = tt
