-- What tables hold in the order of label.
use Rattle.std.proofs.Common.{◌≡◌, ℕ, Bool, true, false, not, cond, nat_eq, List, [], ◌∷◌, ◌++◌, map, slice_get, Option, Some, None, inl, inr, refl, sym, ap, subst, ◌∙◌}
use Rattle.std.specs.Cmp.Lexicographic.{pointwise}
use Rattle.std.specs.List.{filter, find, insert, position_or_len, AllByRecursion}
use Rattle.std.specs.List.Sorted.{IsPartitionedBy}
use Rattle.std.specs.Map.{lookup, remove_entry}
use Rattle.std.specs.Option.{option_and_then, option_map}
use Rattle.std.proofs.lemmas.Bool.{false≢true}
use Rattle.std.proofs.lemmas.List.{map-append}
use Rattle.std.proofs.lemmas.List.Elements.{filter-append}
use Rattle.std.proofs.lemmas.Simd.{map-map}
use Rattle.fc_base.specs.Graph.{IsIn}
use Rattle.fc_base.specs.declared.ids.ObjectId.{ObjectId}
use Rattle.object_paths.specs.Slots.{same_text}
use Rattle.document_model.proofs.Members.{from_filter, from_map}
use Rattle.doc_tables.specs.declared.entry.ObjectEntry.{ObjectEntry}
use Rattle.doc_tables.specs.declared.tables.Tables.TheInside.{Inside}
use Rattle.doc_tables.specs.Held.{IsHeld}
use Rattle.doc_tables.specs.Labels.{AreByLabel, Labelled, first_of_label, label_at, labelled, of_label, stands_before}
use Rattle.doc_tables.specs.Numbered.{at_number}
use Rattle.doc_tables.specs.Shown.{shown}
use Rattle.doc_tables.proofs.ChangeLemmas.{one_more}
use Rattle.doc_tables.proofs.Finding.{find-map, lookup-at, same_text-refl, same_text-told}
use Rattle.doc_tables.proofs.HeldBy.{labelled_by}
use Rattle.doc_tables.proofs.HeldLemmas.{Owned, name_at-held, place-in}
use Rattle.doc_tables.proofs.LabelLemmas.{Tells, filter-map, filter-rises, filter-swap, find-filter, found-first, parted, put_by, put-in, put-of, put-rises}
use Rattle.doc_tables.proofs.RemoveLists.{left-filtered}
use Rattle.doc_tables.proofs.TableLemmas.{nat_eq-refl, nat_eq-told}

all-from : {A : Type 0} (P : A → Type 0) (xs : List A) → ((x : A) → IsIn x xs → P x) → AllByRecursion P xs
all-from P [] h = tt
all-from P (x ∷ xs) h = (h x (inl refl), all-from P xs (λ y i. h y (inr i)))

in-filter : {A : Type 0} (p : A → Bool) (xs : List A) (x : A) → IsIn x xs → p x ≡ true → IsIn x (filter p xs)
in-filter p [] x i h = absurd i
in-filter {A = A} p (y ∷ ys) x i h =
    elim (p y) as (λ b. p y ≡ b → IsIn x (cond b (y ∷ filter p ys) (filter p ys))) [
      | true ↦ λ e. elim i [
        | inl same ↦ inl same
        | inr j ↦ inr (in-filter p ys x j h)
      ]
      | false ↦ λ e. elim i [
        | inl same ↦ absurd (false≢true (sym e ∙ ap p (sym same) ∙ h))
        | inr j ↦ in-filter p ys x j h
      ]
    ] refl

filter-same : {A : Type 0} (p q : A → Bool) (xs : List A) → ((x : A) → IsIn x xs → p x ≡ q x) → filter p xs ≡ filter q xs
filter-same p q [] h = refl
filter-same p q (x ∷ xs) h = λ j. cond (h x (inl refl) j) (x ∷ filter-same p q xs (λ y i. h y (inr i)) j) (filter-same p q xs (λ y i. h y (inr i)) j)

map-same : {A : Type 0} (xs : List A) → map (λ x. x) xs ≡ xs
map-same [] = refl
map-same (x ∷ xs) = ap (λ l. x ∷ l) (map-same xs)

-- two tests that pass alike
alike : (a b : Bool) → (a ≡ true → b ≡ true) → (b ≡ true → a ≡ true) → a ≡ b
alike true b f g = sym (f refl)
alike false true f g = g refl
alike false false f g = refl

number-twice : (o : Option Owned) → option_map (λ (p : Labelled). p.1) (option_map labelled o) ≡ option_map (λ (e : Owned). e.1.number) o
number-twice None = refl
number-twice (Some o) = refl

module _ (t : Inside) (held : IsHeld t) where
  abbrev pairs : List Labelled
  pairs = (held.labels).pairs

  abbrev pub text_of : ObjectId → Option (List ℕ)
  text_of id = label_at t.object_names.items t.objects.entries id.0

  -- the label of an object that is there
  told-label : (o : Owned) → IsIn o t.objects.entries → text_of o.1.number ≡ Some o.1.label
  told-label o i =
      let p = place-in t.objects.entries o i in
      ap (λ (n : Option (List ℕ)). option_map (λ (e : ObjectEntry). e.label) (option_and_then (λ name. lookup (pointwise nat_eq name) t.objects.entries) n)) (name_at-held t held p.0 o p.1)
      ∙ ap (option_map (λ (e : ObjectEntry). e.label)) (lookup-at t.objects.entries p.0 o held.distinct p.1)

  tells : Tells text_of pairs
  tells =
      all-from (λ (p : Labelled). text_of p.1 ≡ Some p.0) pairs
      (λ p i.
      let own : Labelled → Bool = λ q. same_text q.0 p.0 in
      let among : IsIn p (of_label p.0 (map labelled t.objects.entries)) = subst (IsIn p) ((held.labels).same p.0) (in-filter own pairs p i (same_text-refl p.0)) in
      let m = from_map labelled t.objects.entries p (from_filter own (map labelled t.objects.entries) p among) in
      subst (λ (q : Labelled). text_of q.1 ≡ Some q.0) (sym m.2) (told-label m.0 m.1))

  -- labels part the numbers
  pub labels-parted : (e : Bool) (text : List ℕ) → IsPartitionedBy (stands_before t.object_names.items t.objects.entries e text) t.by_label.items
  labels-parted e text =
      subst (IsPartitionedBy (stands_before t.object_names.items t.objects.entries e text)) (held.labels).numbers_are (parted text_of e text pairs (held.labels).rises tells)

  -- a search finds the first object of a label
  pub label-found : (text : List ℕ) → first_of_label t.object_names.items t.objects.entries text t.by_label.items ≡ option_map (λ (o : Owned). o.1.number) (find (λ (o : Owned). same_text o.1.label text) t.objects.entries)
  label-found text =
      let own : Labelled → Bool = λ q. same_text q.0 text in
      ap (first_of_label t.object_names.items t.objects.entries text) (sym (held.labels).numbers_are)
      ∙ found-first text_of text pairs (held.labels).rises tells
      ∙ ap (option_map (λ (p : Labelled). p.1))
      (find-filter own pairs
      ∙ ap (λ (l : List Labelled). slice_get l 0) ((held.labels).same text)
      ∙ sym (find-filter own (map labelled t.objects.entries))
      ∙ find-map labelled own t.objects.entries)
      ∙ number-twice (find (λ (o : Owned). same_text o.1.label text) t.objects.entries)

  -- one more
  pub labels-more : (name label : List ℕ) (n : ℕ) (ids : List ObjectId)
      → ids ≡ insert t.by_label.items (position_or_len (λ (id : ObjectId). not (stands_before t.object_names.items t.objects.entries true label id)) t.by_label.items) (record { 0 = n })
      → AreByLabel ids (map labelled_by (one_more (map shown t.objects.entries) name label n))
  labels-more name label n ids h =
      let os = map shown t.objects.entries in
      let more : Labelled = (label, record { 0 = n }) in
      record {
        pairs = put_by more pairs;
        numbers_are =
            sym (put-in text_of more pairs tells)
            ∙ ap (λ (l : List ObjectId). insert l (position_or_len (λ (id : ObjectId). not (stands_before t.object_names.items t.objects.entries true label id)) l) more.1) (held.labels).numbers_are
            ∙ sym h;
        rises = put-rises more pairs (held.labels).rises;
        same = λ text.
            put-of text more pairs (held.labels).rises
            ∙ ap (λ (l : List Labelled). l ++ of_label text (more ∷ [])) ((held.labels).same text ∙ ap (of_label text) (sym (map-map labelled_by shown t.objects.entries)))
            ∙ sym (filter-append (λ (p : Labelled). same_text p.0 text) (map labelled_by os) (more ∷ []))
            ∙ ap (of_label text) (sym (map-append labelled_by os ((name, label, [], n) ∷ [])));
      }

  -- one less
  module _ (number : ℕ) (owner : List ℕ) (here : at_number t.object_names.items number ≡ Some owner) (x : ObjectEntry) (told : Some x ≡ lookup (pointwise nat_eq owner) t.objects.entries) (number-is : x.number.0 ≡ number) where
    abbrev stays : ObjectId → Bool
    stays id = not (nat_eq id.0 number)

    agree : (o : Owned) → IsIn o t.objects.entries → nat_eq o.1.number.0 number ≡ same_text o.0 owner
    agree o i =
        let p = place-in t.objects.entries o i in
        alike (nat_eq o.1.number.0 number) (same_text o.0 owner)
        (λ e.
        let both : Some o.0 ≡ Some owner = sym (name_at-held t held p.0 o p.1) ∙ ap (at_number t.object_names.items) (nat_eq-told o.1.number.0 number e) ∙ here in
        let one : o.0 ≡ owner = cc in
        ap (λ (name : List ℕ). same_text name owner) one ∙ same_text-refl owner)
        (λ e.
        let both : Some o.1 ≡ Some x = sym (lookup-at t.objects.entries p.0 o held.distinct p.1) ∙ ap (λ (name : List ℕ). lookup (pointwise nat_eq name) t.objects.entries) (same_text-told o.0 owner e) ∙ sym told in
        let one : o.1 ≡ x = cc in
        ap (λ (n : ℕ). nat_eq n number) (ap (λ (y : ObjectEntry). y.number.0) one ∙ number-is) ∙ nat_eq-refl number)

    others : filter (λ (p : Labelled). stays p.1) (map labelled t.objects.entries) ≡ map labelled (remove_entry (pointwise nat_eq owner) t.objects.entries)
    others =
        let es = t.objects.entries in
        let left = remove_entry (pointwise nat_eq owner) es in
        filter-map labelled (λ (p : Labelled). stays p.1) es
        ∙ ap (map labelled)
        (filter-same (λ (o : Owned). stays o.1.number) (λ (o : Owned). not (same_text o.0 owner)) es (λ o i. ap not (agree o i))
        ∙ ap (filter (λ (o : Owned). not (same_text o.0 owner))) (sym (map-same es))
        ∙ sym (left-filtered owner (λ (o : Owned). o) (λ (o : Owned). o.0) (λ o. refl) es held.distinct)
        ∙ map-same left)

    pub labels-left : AreByLabel (filter stays t.by_label.items) (map labelled (remove_entry (pointwise nat_eq owner) t.objects.entries))
    labels-left =
        let test : Labelled → Bool = λ p. stays p.1 in
        record {
          pairs = filter test pairs;
          numbers_are = sym (filter-map (λ (p : Labelled). p.1) stays pairs) ∙ ap (filter stays) (held.labels).numbers_are;
          rises = filter-rises test pairs (held.labels).rises;
          same = λ text.
              let own : Labelled → Bool = λ p. same_text p.0 text in
              filter-swap own test pairs ∙ ap (filter test) ((held.labels).same text) ∙ filter-swap test own (map labelled t.objects.entries) ∙ ap (of_label text) others;
        }
