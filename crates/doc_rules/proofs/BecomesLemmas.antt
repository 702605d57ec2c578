-- How what single calls answer is the answer of an edit.
use Rattle.std.proofs.Common.{◌≡◌, ℕ, zero, suc, Bool, true, false, cond, List, [], ◌∷◌, Option, Some, None, Result, Ok, Err, refl, sym, ap, subst, ◌∙◌, ◌||◌, codes, not, is_some, IsTrue}
use Rattle.std.specs.Prelude.{IsErr, IsErrAnd}
use Rattle.std.specs.List.{AllByRecursion}
use Rattle.fc_base.specs.declared.ids.ObjectId.{ObjectId}
use Rattle.object_paths.specs.declared.path.Path.{Path}
use Rattle.object_paths.specs.declared.slot_name.SlotName.TheVariants.{Plain}
use Rattle.object_paths.specs.Slots.{Slot, same_text}
use Rattle.property_types.specs.declared.prop_type.PropType.{PropType}
use Rattle.property_types.specs.declared.value.Value.{Value}
use Rattle.property_types.specs.Reserved.{is_among, own_types}
use Rattle.expr_grammar.specs.declared.fault.ExprFault.{ExprFault}
use Rattle.expr_eval.specs.Firsts.{on_one}
use Rattle.expr_tree.specs.Tree.{Tree}
use Rattle.document_model.specs.declared.content.Content.TheVariants.{Bound, Own}
use Rattle.document_model.specs.declared.kind.ObjectKind.{ObjectKind}
use Rattle.document_model.specs.declared.kind.ObjectKind.TheVariants.{VarSet, Sheet, Link}
use Rattle.document_model.specs.Document.{Document, Object, Property}
use Rattle.document_model.specs.Edited.{with_content, without_property}
use Rattle.document_model.specs.Kinds.{kind_by_plan, kind_of_type}
use Rattle.doc_tables.specs.Numbered.{Numbered, name_at}
use Rattle.doc_rules.specs.declared.edit_fault.EditFault.{EditFault}
use Rattle.doc_rules.specs.declared.edit_fault.EditFault.TheVariants.{Refused, Memory}
use Rattle.doc_rules.specs.declared.refusal.Refusal.{Refusal}
use Rattle.doc_rules.specs.Accepted.{Accepted, accepted, unless_any}
use Rattle.doc_rules.specs.Commanded.{IsPropertyOf, refused}
use Rattle.doc_rules.specs.Edits.{Answers, Becomes, unbuilt_types}
use Rattle.doc_rules.specs.ObjectEdits.{is_object_type}
use Rattle.doc_rules.specs.PropertyEdits.{dropped}
use Rattle.doc_rules.specs.SlotEdits.{bound_to, is_bound, unbound, value_fitted}
use Rattle.doc_rules.specs.OutcomesKept.{MeansValues}
use Rattle.document_outcomes.specs.Full.{Meanings, full, numbered}
use Rattle.document_outcomes.specs.RefusalNumbers.{not_recomputed, wrong_type}
use Rattle.document_outcomes.specs.Typed.{no_features}
use Rattle.property_types.specs.Values.{Outcome}
use Rattle.property_types.specs.declared.value.ValueFault.TheVariants.{Range}
use Rattle.doc_rules.proofs.EditLemmas.{tests-refused}

-- want of memory answers every edit
pub memory-becomes : (t : Numbered) (found : Result Accepted Refusal) (fault : EditFault) → ((told : Refusal) → fault ≡ Refused told → found ≡ Err told)
    → Becomes t found (Err fault)
memory-becomes t (Ok a) (Memory e) h = tt
memory-becomes t (Err r) (Memory e) h = tt
memory-becomes t (Ok a) (Refused told) h = let e = h told refl in absurd (cc)
memory-becomes t (Err r) (Refused told) h = let e : r ≡ told = (let k = h told refl in cc) in sym e

-- where a test refused, the edit is refused
pub becomes-refused : {A : Type 0} (t : Numbered) (tests : List (Bool × ℕ)) (x : A) (y : Result Accepted Refusal) (fault : EditFault)
    → Answers {A = A} (unless_any tests (Ok x)) (Err fault) → Becomes t (unless_any tests y) (Err fault)
becomes-refused {A} t tests x y (Refused told) h = subst (λ r. Becomes t r (Err (Refused told))) (sym (tests-refused tests x told h y)) refl
becomes-refused {A} t tests x y (Memory e) h = memory-becomes t (unless_any tests y) (Memory e) (λ told same. absurd (cc))

-- where no test holds, none does
pub all-passed : {A : Type 0} (tests : List (Bool × ℕ)) (x told : A) → Answers {A = A} (unless_any tests (Ok x)) (Ok told) → AllByRecursion (λ (test : Bool × ℕ). test.0 ≡ false) tests
all-passed [] x told h = tt
all-passed {A} (test ∷ tests) x told h =
    elim test.0 as (λ b. Answers {A = A} (cond b (Err (refused test.1)) (unless_any tests (Ok x))) (Ok told) → (b ≡ false) × AllByRecursion (λ (test : Bool × ℕ). test.0 ≡ false) tests) [
      | true ↦ λ k. absurd k
      | false ↦ λ k. (refl, all-passed tests x told k)
    ] h

-- and what is told is what stands behind them
pub told-passed : {A : Type 0} (tests : List (Bool × ℕ)) (x told : A) → Answers {A = A} (unless_any tests (Ok x)) (Ok told) → told ≡ x
told-passed [] x told h = h
told-passed {A} (test ∷ tests) x told h =
    elim test.0 as (λ b. Answers {A = A} (cond b (Err (refused test.1)) (unless_any tests (Ok x))) (Ok told) → told ≡ x) [
      | true ↦ λ k. absurd k
      | false ↦ λ k. told-passed tests x told k
    ] h

pub not-false : (b : Bool) → not b ≡ false → b ≡ true
not-false true h = refl
not-false false h = absurd (cc)

-- an expression that was read
pub becomes-bound : (t : Numbered) (d : Document) (s : Slot) (found : Result Tree ExprFault) (e : Tree) (result : Result Numbered EditFault) → found ≡ Ok e
    → Becomes t (accepted (with_content d s (Bound e))) result → Becomes t (bound_to d s found) result
becomes-bound t d s found e result is h = subst (λ f. Becomes t (bound_to d s f) result) (sym is) h

-- a property that was found
pub becomes-dropped : (t : Numbered) (p : Path) (id : ObjectId) (name : List ℕ) (result : Result Numbered EditFault) (found : Result (Object × Property) Refusal)
    → IsPropertyOf t p found (Ok id) → p.slot ≡ Plain name
    → ((o : List ℕ) → name_at t id.0 ≡ Some o → Becomes t (accepted (without_property t.document o name)) result) → Becomes t (on_one (dropped t.document) found) result
becomes-dropped t p id name result (Ok found) h same each =
    let e : found.1.name ≡ name = cc in
    subst (λ (n : List ℕ). Becomes t (accepted (without_property t.document found.0.name n)) result) (sym e) (each found.0.name h.0)
becomes-dropped t p id name result (Err r) h same each = absurd h

-- of the types of objects that are no features only one is built
pub kind-built : (type : List ℕ) → not (is_object_type [] type) ≡ false → IsTrue (not (is_among type unbuilt_types)) → kind_of_type [] type ≡ VarSet
kind-built type known built = by (same_text type (codes "App::VarSet")) (same_text type (codes "Spreadsheet::Sheet")) (same_text type (codes "App::Link")) known built
  where
    by : (a b e : Bool) → not ((a || (b || (e || false))) || false) ≡ false → not (b || (e || false)) ≡ true
        → cond a VarSet (cond b Sheet (cond e Link (kind_by_plan type None))) ≡ VarSet
    by true b e h k = refl
    by false true e h k = absurd (cc)
    by false false true h k = absurd (cc)
    by false false false h k = absurd (cc)

-- a fault that is handed on
pub residual-becomes : (t : Numbered) (found : Result Accepted Refusal) (cause : EditFault) (result : Result Numbered EditFault)
    → IsErr result × IsErrAnd result (λ e. e ≡ cause) → Becomes t found (Err cause) → Becomes t found result
residual-becomes t found cause (Ok x) told h = let e = told.0 in absurd (cc)
residual-becomes t found cause (Err e) told h = subst (λ f. Becomes t found (Err f)) (sym told.1) h

-- without a value the edit is refused as that is
pub becomes-unvalued : (t : Numbered) (g : Value → Result Accepted Refusal) (found : Result Value Refusal) (fault : EditFault)
    → Answers {A = Value} found (Err fault) → Becomes t (on_one g found) (Err fault)
becomes-unvalued t g (Ok v) (Refused told) h = absurd h
becomes-unvalued t g (Err r) (Refused told) h = h
becomes-unvalued t g found (Memory e) h = memory-becomes t (on_one g found) (Memory e) (λ told same. absurd (cc))

-- an outcome that gives a value is that value
pub fitted-is : (given : Outcome) (v : Value) → Answers {A = Value} (value_fitted given) (Ok v) → given ≡ Ok v
fitted-is (Ok u) v h = ap Ok (sym h)
fitted-is (Err f) v h = absurd h

-- a bound slot of a clean document is unbound
pub unbound-passes : (m : Meanings) (clean : Bool) (d : Document) (s : Slot) → is_bound d s ≡ true → clean ≡ true
    → unbound m clean d s ≡ on_one (λ v. accepted (with_content d s (Own v))) (value_fitted (full m d s))
unbound-passes m clean d s bound known i =
    unless_any ((not (bound i), wrong_type) ∷ (not (known i), not_recomputed) ∷ []) (on_one (λ v. accepted (with_content d s (Own v))) (value_fitted (full m d s)))

-- no features give no values
no_outcome : (k : ℕ) → numbered [] k ≡ Err Range
no_outcome zero = refl
no_outcome (suc k) = refl

pub no_features-mean : MeansValues no_features
no_features-mean = record {
  gives = λ plan inputs k v h. let e = no_outcome k in absurd (cc);
  composed = λ mine target k v h. absurd (cc);
}
