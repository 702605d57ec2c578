-- The first fault of the slots whose numbers stand in a list, one after another.
use Rattle.std.proofs.Common.{◌≡◌, inl, inr, ℕ, zero, suc, ◌+◌, ◌<◌, ◌≤◌, Bool, true, false, ◌||◌, cond, List, [], ◌∷◌, ◌++◌, drop, get_or, length, map, Some, None, refl, sym, ◌∙◌, ap, subst, arith, add-one}
use Rattle.std.specs.Prelude.{Option, Result, IsSome, is_some, slice_get, Ok, Err, find}
use Rattle.std.specs.List.{flat_map, list_any}
use Rattle.std.specs.Option.{option_map, option_and_then, option_or}
use Rattle.std.proofs.lemmas.Option.{slice_get-map, slice_get-get_or}
use Rattle.fc_base.specs.declared.ids.SlotId.{SlotId}
use Rattle.fc_base.specs.Graph.{IsIn}
use Rattle.object_paths.specs.Slots.{Slot}
use Rattle.document_model.proofs.Members.{map_some}
use Rattle.document_outcomes.specs.Faults.{Fault, first_some, slot_fault}
use Rattle.doc_tables.specs.Accessors.{AreNumbersOf}
use Rattle.doc_tables.specs.Numbered.{Numbered, slot_at}
use Rattle.doc_rules.specs.declared.fault.CheckFault.{CheckFault}
use Rattle.doc_rules.specs.declared.fault.CheckFault.TheVariants.{Doc, Memory}
use Rattle.doc_rules.specs.Found.{MeetsFault}
use Rattle.doc_rules.specs.KindFaults.{fault_at, fault_if}

module _ {A B : Type 0} (f : A → Option B) where
  -- one that has nothing makes no difference
  pub first_some-skip : (xs : List A) (k : ℕ) (x : A) → slice_get xs k ≡ Some x → f x ≡ None → first_some f (drop k xs) ≡ first_some f (drop (suc k) xs)
  first_some-skip [] k x e none = absurd (cc)
  first_some-skip (y ∷ ys) zero x e none =
      let same : y ≡ x = cc in
      ap (λ z. option_or (f z) (first_some f ys)) same ∙ ap (λ o. option_or o (first_some f ys)) none
  first_some-skip (y ∷ ys) (suc k) x e none = first_some-skip ys k x e none

  -- one that has something is the first from there on
  pub first_some-here : (xs : List A) (k : ℕ) (x : A) (v : B) → slice_get xs k ≡ Some x → f x ≡ Some v → first_some f (drop k xs) ≡ Some v
  first_some-here [] k x v e some = absurd (cc)
  first_some-here (y ∷ ys) zero x v e some =
      let same : y ≡ x = cc in
      ap (λ z. option_or (f z) (first_some f ys)) same ∙ ap (λ o. option_or o (first_some f ys)) some
  first_some-here (y ∷ ys) (suc k) x v e some = first_some-here ys k x v e some

  -- past the end there is nothing
  pub first_some-past : (xs : List A) (k : ℕ) → length xs ≤ k → first_some f (drop k xs) ≡ None
  first_some-past [] zero past = refl
  first_some-past [] (suc k) past = refl
  first_some-past (y ∷ ys) zero past = absurd (omega arith)
  first_some-past (y ∷ ys) (suc k) past = first_some-past ys k (omega arith)

-- what a search finds, as what the first has that has something
pub find-first_some : {A B : Type 0} (p : A → Bool) (g : A → B) (xs : List A) → option_map g (find p xs) ≡ first_some (λ x. cond (p x) (Some (g x)) None) xs
find-first_some p g [] = refl
find-first_some {A} {B} p g (x ∷ xs) =
    elim (p x) as (λ b. option_map g (cond b (Some x) (find p xs)) ≡ option_or (cond b (Some (g x)) None) (first_some (λ y. cond (p y) (Some (g y)) None) xs)) [
      | true ↦ refl
      | false ↦ find-first_some p g xs
    ]

-- the same of each member
pub first_some-same : {A B : Type 0} (f g : A → Option B) (xs : List A) → ((x : A) → IsIn x xs → f x ≡ g x) → first_some f xs ≡ first_some g xs
first_some-same f g [] h = refl
first_some-same f g (x ∷ xs) h = λ i. option_or (h x (inl refl) i) (first_some-same f g xs (λ y j. h y (inr j)) i)

or-or : {A : Type 0} (a b c : Option A) → option_or (option_or a b) c ≡ option_or a (option_or b c)
or-or None b c = refl
or-or (Some x) b c = refl

first_some-append : {A B : Type 0} (f : A → Option B) (xs ys : List A) → first_some f (xs ++ ys) ≡ option_or (first_some f xs) (first_some f ys)
first_some-append f [] ys = refl
first_some-append f (x ∷ xs) ys = ap (option_or (f x)) (first_some-append f xs ys) ∙ sym (or-or (f x) (first_some f xs) (first_some f ys))

first_some-map : {A B C : Type 0} (f : B → Option C) (g : A → B) (xs : List A) → first_some f (map g xs) ≡ first_some (λ x. f (g x)) xs
first_some-map f g [] = refl
first_some-map f g (x ∷ xs) = ap (option_or (f (g x))) (first_some-map f g xs)

-- the first of lists that are joined
pub first_some-rows :
    {A R B C : Type 0} (f : B → Option C) (rows : A → List R) (place : A → R → B) (xs : List A)
    → first_some f (flat_map (λ x. map (place x) (rows x)) xs) ≡ first_some (λ x. first_some (λ r. f (place x r)) (rows x)) xs
first_some-rows f rows place [] = refl
first_some-rows f rows place (x ∷ xs) =
    first_some-append f (map (place x) (rows x)) (flat_map (λ y. map (place y) (rows y)) xs)
    ∙ (λ i. option_or (first_some-map f (place x) (rows x) i) (first_some-rows f rows place xs i))

-- a call that finds no fault
pub meets-none : (found : Option Fault) (done : Unit {0}) → MeetsFault found (Ok done) → found ≡ None
meets-none None done h = refl
meets-none (Some f) done h = absurd h

pub none-meets : (found : Option Fault) (done : Unit {0}) → found ≡ None → MeetsFault found (Ok done)
none-meets None done h = tt
none-meets (Some f) done h = absurd (cc)

-- a fault that is told of what may have one is told of all where that is the first
pub meets-carried : (a b : Option Fault) (e : CheckFault) → ((f : Fault) → a ≡ Some f → b ≡ Some f) → MeetsFault a (Err e) → MeetsFault b (Err e)
meets-carried a b (Memory error) carried h = tt
meets-carried None b (Doc told) carried h = absurd h
meets-carried (Some f) b (Doc told) carried h = subst (λ (o : Option Fault). MeetsFault o (Err (Doc told))) (sym (carried f refl)) h

-- the fault of a slot that breaks a rule, or does not
not_broken : (number : ℕ) (p : Slot → Bool) (o : Option Slot) → option_map p o ≡ Some false → option_and_then (fault_if number p) o ≡ None
not_broken number p None h = absurd (cc)
not_broken number p (Some s) h = let no : p s ≡ false = cc in ap (λ b. cond b (Some (slot_fault number s)) None) no

broken : (number : ℕ) (p : Slot → Bool) (o : Option Slot) → option_map p o ≡ Some true → option_and_then (fault_if number p) o ≡ option_map (slot_fault number) o
broken number p None h = absurd (cc)
broken number p (Some s) h = let yes : p s ≡ true = cc in ap (λ b. cond b (Some (slot_fault number s)) None) yes

module _ (t : Numbered) (number : ℕ) (p : Slot → Bool) (id : SlotId) where
  -- a slot that keeps a rule has no fault by it
  pub kept-meets : option_map p (slot_at t id.0) ≡ Some false → (done : Unit {0}) → MeetsFault (fault_at t (fault_if number p) id) (Ok done)
  kept-meets h done = none-meets (fault_at t (fault_if number p) id) done (not_broken number p (slot_at t id.0) h)

  -- a slot that breaks a rule has its fault
  pub broken-meets :
      (e : CheckFault) → option_map p (slot_at t id.0) ≡ Some true
      → MeetsFault (option_map (slot_fault number) (slot_at t id.0)) (Err e) → MeetsFault (fault_at t (fault_if number p) id) (Err e)
  broken-meets e h told = subst (λ (o : Option Fault). MeetsFault o (Err e)) (sym (broken number p (slot_at t id.0) h)) told

module _ (t : Numbered) (ids : List SlotId) (ss : List Slot) (numbers : AreNumbersOf t ids ss) where
  -- the slot of a number of the list
  pub slot_numbered : (k : ℕ) (id : SlotId) → slice_get ids k ≡ Some id → (s : Slot) × (slice_get ss k ≡ Some s) × (slot_at t id.0 ≡ Some s)
  slot_numbered k id here =
      let one : option_map Some (slice_get ss k) ≡ Some (slot_at t id.0) =
      sym (slice_get-map Some ss k) ∙ ap (λ os. slice_get os k) (sym numbers) ∙ slice_get-map (λ (i : SlotId). slot_at t i.0) ids k
      ∙ ap (option_map (λ (i : SlotId). slot_at t i.0)) here in
      let m = map_some Some (slice_get ss k) (slot_at t id.0) one in
      (m.0, m.1, m.2)

  pub same_length : length ids ≡ length ss
  same_length = sym (length-mapped (λ (i : SlotId). slot_at t i.0) ids) ∙ ap length numbers ∙ length-mapped Some ss where
    length-mapped : {A B : Type 0} (f : A → B) (xs : List A) → length (map f xs) ≡ length xs
    length-mapped f [] = refl
    length-mapped f (x ∷ xs) = ap suc (length-mapped f xs)

  module _ (f : Slot → Option Fault) where
    -- a slot without a fault makes no difference
    pub goes_on :
        (k : ℕ) (id : SlotId) (done : Unit {0}) → slice_get ids k ≡ Some id → first_some f (drop k ss) ≡ first_some f ss
        → MeetsFault (fault_at t f id) (Ok done) → first_some f (drop (k + 1) ss) ≡ first_some f ss
    goes_on k id done here so_far none =
        let m = slot_numbered k id here in
        let nothing : f m.0 ≡ None = ap (option_and_then f) (sym m.2) ∙ meets-none (fault_at t f id) done none in
        rw add-one (sym (first_some-skip f ss k m.0 m.1 nothing) ∙ so_far)

    -- a slot with a fault has the first of all
    pub stops :
        (k : ℕ) (id : SlotId) (e : CheckFault) → slice_get ids k ≡ Some id → first_some f (drop k ss) ≡ first_some f ss
        → MeetsFault (fault_at t f id) (Err e) → MeetsFault (first_some f ss) (Err e)
    stops k id e here so_far told =
        let m = slot_numbered k id here in
        meets-carried (fault_at t f id) (first_some f ss) e
        (λ v some. sym so_far ∙ first_some-here f ss k m.0 v m.1 (ap (option_and_then f) (sym m.2) ∙ some)) told

    -- behind the last slot there is no fault
    pub ends : (k : ℕ) (done : Unit {0}) → length ids ≤ k → first_some f (drop k ss) ≡ first_some f ss → MeetsFault (first_some f ss) (Ok done)
    ends k done past so_far =
        none-meets (first_some f ss) done (sym so_far ∙ first_some-past f ss k (subst (λ (n : ℕ). n ≤ k) same_length past))

    module _ (whole : Option Fault) (is : whole ≡ first_some f ss) (k : ℕ) (so_far : first_some f (drop k ss) ≡ first_some f ss) where
      -- the same, where the number is read from the list
      pub goes_on_at :
          (d : SlotId) (done : Unit {0}) → k < length ids → MeetsFault (fault_at t f (get_or ids k d)) (Ok done)
          → first_some f (drop (k + 1) ss) ≡ first_some f ss
      goes_on_at d done within none = goes_on k (get_or ids k d) done (slice_get-get_or ids k d within) so_far none

      pub stops_at : (d : SlotId) (e : CheckFault) → k < length ids → MeetsFault (fault_at t f (get_or ids k d)) (Err e) → MeetsFault whole (Err e)
      stops_at d e within told =
          subst (λ (o : Option Fault). MeetsFault o (Err e)) (sym is) (stops k (get_or ids k d) e (slice_get-get_or ids k d within) so_far told)

      pub ends_at : (done : Unit {0}) → length ids ≤ k → MeetsFault whole (Ok done)
      ends_at done past = subst (λ (o : Option Fault). MeetsFault o (Ok done)) (sym is) (ends k done past so_far)

  -- a number of the list is that of a slot
  pub live_at : (k : ℕ) (d : SlotId) → k < length ids → IsSome (slot_at t (get_or ids k d).0)
  live_at k d within = let m = slot_numbered k (get_or ids k d) (slice_get-get_or ids k d within) in ap is_some m.2

module _ {A : Type 0} (p : A → Bool) where
  -- a test of some of a list, one by one
  pub list_any-skip : (xs : List A) (k : ℕ) (x : A) → slice_get xs k ≡ Some x → p x ≡ false → list_any p (drop k xs) ≡ list_any p (drop (suc k) xs)
  list_any-skip [] k x e fails = absurd (cc)
  list_any-skip (y ∷ ys) zero x e fails = let same : y ≡ x = cc in ap (λ z. p z || list_any p ys) same ∙ ap (λ b. b || list_any p ys) fails
  list_any-skip (y ∷ ys) (suc k) x e fails = list_any-skip ys k x e fails

  pub list_any-here : (xs : List A) (k : ℕ) (x : A) → slice_get xs k ≡ Some x → p x ≡ true → list_any p (drop k xs) ≡ true
  list_any-here [] k x e passes = absurd (cc)
  list_any-here (y ∷ ys) zero x e passes = let same : y ≡ x = cc in ap (λ z. p z || list_any p ys) same ∙ ap (λ b. b || list_any p ys) passes
  list_any-here (y ∷ ys) (suc k) x e passes = list_any-here ys k x e passes

  pub list_any-past : (xs : List A) (k : ℕ) → length xs ≤ k → list_any p (drop k xs) ≡ false
  list_any-past [] zero past = refl
  list_any-past [] (suc k) past = refl
  list_any-past (y ∷ ys) zero past = absurd (omega arith)
  list_any-past (y ∷ ys) (suc k) past = list_any-past ys k (omega arith)

-- a fault of the first kind is told before the others
pub or-stops : (a b : Option Fault) (e : CheckFault) → MeetsFault a (Err e) → MeetsFault (option_or a b) (Err e)
or-stops a b e told = meets-carried a (option_or a b) e (λ f some. ap (λ o. option_or o b) some) told

pub or-past : (a b : Option Fault) (r : Result (Unit {0}) CheckFault) → a ≡ None → MeetsFault b r → MeetsFault (option_or a b) r
or-past a b r none told = subst (λ (o : Option Fault). MeetsFault (option_or o b) r) (sym none) told

-- what is there
pub some-in : {A : Type 0} (o : Option A) → IsSome o → (x : A) × (o ≡ Some x)
some-in None h = absurd (cc)
some-in (Some x) h = (x, refl)
