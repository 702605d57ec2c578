-- Labels of objects by their numbers.
use Rattle.std.proofs.Common.{◌≡◌, ℕ, ◌+◌, ◌<◌, ◌≤◌, Bool, true, false, not, cond, nat_eq, List, [], ◌∷◌, drop, length, Some, None, refl, sym, ◌∙◌, ap, subst, arith, add-one}
use Rattle.std.specs.Prelude.{Option, Ok, Err, IsSome, slice_get}
use Rattle.std.specs.Cmp.Lexicographic.{bytes_decides}
use Rattle.std.specs.Option.{option_map, option_and_then, option_map_or}
use Rattle.std.proofs.lemmas.Bool.Decides.{Decides-eqb}
use Rattle.std.proofs.lemmas.Option.{slice_get-get_or}
use Rattle.fc_base.specs.declared.ids.ObjectId.{ObjectId}
use Rattle.object_paths.specs.Slots.{same_text}
use Rattle.document_model.specs.Document.{Document, Object, object_named, object_labelled}
use Rattle.document_model.proofs.Members.{and_then_some, map_some}
use Rattle.document_outcomes.specs.Faults.{Fault, object_fault, has_taken_label, label_faults, first_some}
use Rattle.document_outcomes.specs.RefusalNumbers.{label_taken}
use Rattle.document_outcomes.proofs.AgreementLemmas.{from_slice_get}
use Rattle.document_outcomes.proofs.LookupLemmas.{find-passes}
use Rattle.doc_tables.specs.Accessors.{IsNumberOfObject}
use Rattle.doc_tables.specs.Numbered.{Numbered, IsNumbered, name_at, object_at, number_of_object}
use Rattle.doc_tables.specs.FindsAll.{FindsAll}
use Rattle.doc_rules.specs.Found.{MeetsFault}
use Rattle.doc_rules.specs.declared.fault.CheckFault.{CheckFault}
use Rattle.doc_rules.specs.KindFaults.{label_fault}
use Rattle.doc_rules.proofs.FirstLemmas.{find-first_some, first_some-skip, first_some-here, first_some-past, meets-none, none-meets, meets-carried}

-- taken labels, object by object
pub label_faults-objects : (d : Document) → label_faults d ≡ first_some (label_fault d) d.objects
label_faults-objects d = find-first_some (has_taken_label d) (object_fault label_taken) d.objects

module _ (t : Numbered) where
  -- the object of a number has the number's name
  pub standing-object : (n : ℕ) (o : Object) → object_at t n ≡ Some o → name_at t n ≡ Some o.name
  standing-object n o e =
      let m = and_then_some (object_named t.document) (name_at t n) o e in
      let same : o.name ≡ m.0 = (bytes_decides o.name m.0).0 (find-passes (λ (q : Object). same_text q.name m.0) t.document.objects o m.2) in
      m.1 ∙ ap Some (sym same)

  -- The object at a place of the document, by its number.
  pub record Placed (place : ℕ) (n : ℕ) : Type 0 where
    pub object : Object
    pub here : slice_get t.document.objects place ≡ Some object
    pub found : object_at t n ≡ Some object

  module _ (finds : FindsAll t.document) where
    pub placed-object : (place : ℕ) (id : ObjectId) → IsNumberOfObject t (Some id) (slice_get t.document.objects place) → Placed place id.0
    placed-object place id told =
        let m = map_some (λ (o : Object). Some o.name) (slice_get t.document.objects place) (name_at t id.0) (sym told) in
        record {
          object = m.0;
          here = m.1;
          found =
              ap (option_and_then (object_named t.document)) m.2
              ∙ finds.objects m.0 (from_slice_get t.document.objects place m.0 m.1);
        }

    module _ (place : ℕ) (so_far : first_some (label_fault t.document) (drop place t.document.objects) ≡ first_some (label_fault t.document) t.document.objects) where
      pub label-stops :
          (id : ObjectId) (e : CheckFault) → IsNumberOfObject t (Some id) (slice_get t.document.objects place)
          → MeetsFault (option_and_then (label_fault t.document) (object_at t id.0)) (Err e) → MeetsFault (label_faults t.document) (Err e)
      label-stops id e told fault =
          let p = placed-object place id told in
          subst (λ (o : Option Fault). MeetsFault o (Err e)) (sym (label_faults-objects t.document))
          (meets-carried (option_and_then (label_fault t.document) (object_at t id.0)) (first_some (label_fault t.document) t.document.objects) e
          (λ f some. sym so_far ∙ first_some-here (label_fault t.document) t.document.objects place p.object f p.here (ap (option_and_then (label_fault t.document)) (sym p.found) ∙ some)) fault)

      pub label-goes_on :
          (id : ObjectId) (done : Unit {0}) → IsNumberOfObject t (Some id) (slice_get t.document.objects place)
          → MeetsFault (option_and_then (label_fault t.document) (object_at t id.0)) (Ok done)
          → first_some (label_fault t.document) (drop (place + 1) t.document.objects) ≡ first_some (label_fault t.document) t.document.objects
      label-goes_on id done told none =
          let p = placed-object place id told in
          let nothing : label_fault t.document p.object ≡ None =
          ap (option_and_then (label_fault t.document)) (sym p.found) ∙ meets-none (option_and_then (label_fault t.document) (object_at t id.0)) done none in
          rw add-one (sym (first_some-skip (label_fault t.document) t.document.objects place p.object p.here nothing) ∙ so_far)

      pub label-ends : (done : Unit {0}) → length t.document.objects ≤ place → MeetsFault (label_faults t.document) (Ok done)
      label-ends done past =
          none-meets (label_faults t.document) done
          (label_faults-objects t.document ∙ sym so_far ∙ first_some-past (label_fault t.document) t.document.objects place past)

  -- below the number of objects there is one at each place
  pub none-past : (place : ℕ) → IsNumberOfObject t None (slice_get t.document.objects place) → place < length t.document.objects → ⊥
  none-past place told within =
      elim (slice_get t.document.objects place)
      as (λ (o : Option Object). slice_get t.document.objects place ≡ o → IsNumberOfObject t None o → ⊥) [
        | None ↦ λ e h.
            elim t.document.objects as (λ (os : List Object). place < length os → slice_get os place ≡ None → ⊥) [
              | [] ↦ λ lt g. absurd (omega arith)
              | o ∷ os ↦ λ lt g. let some = slice_get-get_or (o ∷ os) place o lt in cc
            ] within e
        | Some o ↦ λ e h. absurd (cc)
      ] refl told

  abbrev label_fault_of : List ℕ → Option Fault
  label_fault_of q = Some (record { number = label_taken; subject = q })

  -- a label that is taken is told with the name of its object
  pub taken-told :
      (n : ℕ) (name : List ℕ) (e : CheckFault) → Some name ≡ name_at t n → true ≡ option_map_or (has_taken_label t.document) (object_at t n) false
      → MeetsFault (Some (record { number = label_taken; subject = name })) (Err e) → MeetsFault (option_and_then (label_fault t.document) (object_at t n)) (Err e)
  taken-told n name e named taken told =
      meets-carried (Some (record { number = label_taken; subject = name })) (option_and_then (label_fault t.document) (object_at t n)) e
      (λ f same. at_object f same (object_at t n) refl) told where
        at_object : (f : Fault) → ◌≡◌ {A = Option Fault} (Some (record { number = label_taken; subject = name })) (Some f) → (o : Option Object) → object_at t n ≡ o → option_and_then (label_fault t.document) (object_at t n) ≡ Some f
        at_object f same None found = absurd (let no : true ≡ false = taken ∙ ap (λ (q : Option Object). option_map_or (has_taken_label t.document) q false) found in cc)
        at_object f same (Some o) found =
            let yes : has_taken_label t.document o ≡ true = sym (taken ∙ ap (λ (q : Option Object). option_map_or (has_taken_label t.document) q false) found) in
            let names : Some o.name ≡ Some name = sym (standing-object n o found) ∙ sym named in
            let name_same : o.name ≡ name = cc in
            ap (option_and_then (label_fault t.document)) found
            ∙ ap (λ (b : Bool). cond b (Some (object_fault label_taken o)) None) yes
            ∙ ap label_fault_of name_same ∙ same

  module _ (numbered : IsNumbered t) where
    same_name-same_number : (m n : ℕ) (a b : List ℕ) → name_at t m ≡ Some a → name_at t n ≡ Some b → a ≡ b → m ≡ n
    same_name-same_number m n a b at_m at_n same =
        let one : number_of_object t a ≡ Some m = (numbered.object_numbers m a).0 at_m in
        let two : number_of_object t b ≡ Some n = (numbered.object_numbers n b).0 at_n in
        let three : number_of_object t a ≡ Some n = subst (λ (name : List ℕ). number_of_object t name ≡ Some n) (sym same) two in
        cc

    -- two names are one exactly where the numbers are one
    pub apart-told :
        (m n : ℕ) (a b : List ℕ) (same : Bool) → name_at t m ≡ Some a → name_at t n ≡ Some b
        → (same ≡ true → m ≡ n) → (m ≡ n → same ≡ true) → same_text a b ≡ same
    apart-told m n a b true at_m at_n f g =
        let one : name_at t n ≡ Some a = subst (λ (k : ℕ). name_at t k ≡ Some a) (f refl) at_m in
        (bytes_decides a b).1 (let names : Some a ≡ Some b = sym one ∙ at_n in cc)
    apart-told m n a b false at_m at_n f g =
        elim (same_text a b) as (λ (r : Bool). same_text a b ≡ r → r ≡ false) [
          | true ↦ λ e. sym (g (same_name-same_number m n a b at_m at_n ((bytes_decides a b).0 e)))
          | false ↦ λ e. refl
        ] refl

    -- whether the first object of a label is another
    pub taken-by_number :
        (n : ℕ) (label : List ℕ) (first : ObjectId) (same : Bool) → IsSome (object_at t n)
        → Some label ≡ option_map (λ (o : Object). o.label) (object_at t n)
        → IsNumberOfObject t (Some first) (object_labelled t.document label)
        → same ≡ nat_eq first.0 n
        → not same ≡ option_map_or (has_taken_label t.document) (object_at t n) false
    taken-by_number n label first same live labelled told is = at_object (object_at t n) refl live where
      at_object : (o : Option Object) → object_at t n ≡ o → IsSome o → not same ≡ option_map_or (has_taken_label t.document) (object_at t n) false
      at_object None found some = absurd (cc)
      at_object (Some o) found some =
          let labels : Some label ≡ Some o.label = labelled ∙ ap (option_map (λ (q : Object). q.label)) found in
          let label_same : label ≡ o.label = cc in
          let m = map_some (λ (q : Object). Some q.name) (object_labelled t.document label) (name_at t first.0) (sym told) in
          let decided = Decides-eqb first.0 n in
          let apart : same_text (m.0).name o.name ≡ same =
          apart-told first.0 n (m.0).name o.name same m.2 (standing-object n o found)
          (λ e. decided.0 (sym is ∙ e)) (λ e. is ∙ decided.1 e) in
          ap not (sym apart)
          ∙ sym (ap (λ (q : Option Object). option_map_or (λ (f : Object). not (same_text f.name o.name)) q false) (ap (object_labelled t.document) (sym label_same) ∙ m.1))
          ∙ sym (ap (λ (q : Option Object). option_map_or (has_taken_label t.document) q false) found)
