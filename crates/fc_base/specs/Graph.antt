-- Graphs: things that depend on others of their kind, and what each has by a rule over those.
use Rattle.std.specs.Prelude.{◌≡◌, ◌⊎◌, ℕ, zero, suc, Bool, false, ◌||◌, List, [], ◌∷◌}
use Rattle.std.specs.List.{list_any}

-- x stands in the list
abbrev pub IsIn : {S : Type 0} → S → List S → Type 0
IsIn x [] = ⊥
IsIn x (y ∷ ys) = (x ≡ y) ⊎ IsIn x ys

-- s depends on d, directly or through others
pub data Reaches {S : Type 0} (deps : S → List S) : S → S → Type 0 where
  direct : {s d : S} → IsIn d (deps s) → Reaches deps s d
  onward : {s t d : S} → Reaches deps s t → IsIn d (deps t) → Reaches deps s d

-- what depends from the list on stands in it
abbrev pub Closed : {S : Type 0} → (S → List S) → List S → Type 0
Closed {S} deps slots = (s d : S) → IsIn s slots → IsIn d (deps s) → IsIn d slots

-- none of the list depends on itself
abbrev pub Acyclic : {S : Type 0} → (S → List S) → List S → Type 0
Acyclic {S} deps slots = (s : S) → IsIn s slots → Reaches deps s s → ⊥

-- a rule gives the same where the dependencies have the same
abbrev pub ReadsOnlyDeps : {S O : Type 0} → (S → List S) → (S → (S → O) → O) → Type 0
ReadsOnlyDeps {S} {O} deps local = (s : S) (v w : S → O) → ((d : S) → IsIn d (deps s) → v d ≡ w d) → local s v ≡ local s w

-- each of the list has what its rule gives
abbrev pub IsFixpoint : {S O : Type 0} → (S → (S → O) → O) → List S → (S → O) → Type 0
IsFixpoint {S} local slots w = (s : S) → IsIn s slots → w s ≡ local s w

-- what a slot has, worked out from nothing within a number of steps
unfoldable pub full_at : {S O : Type 0} → (S → (S → O) → O) → O → ℕ → S → O
full_at local start zero s = start
full_at local start (suc n) s = local s (full_at local start n)

-- s depends on t within a number of steps, by a test of equality
unfoldable pub reaches_in : {S : Type 0} → (S → S → Bool) → (S → List S) → ℕ → S → S → Bool
reaches_in same deps zero s t = false
reaches_in same deps (suc n) s t = list_any (λ d. same d t || reaches_in same deps n d t) (deps s)

-- the rule of each at its new place is the rule that it had
abbrev pub CarriesRules : {S T O : Type 0} → (S → (S → O) → O) → (T → (T → O) → O) → (S → T) → List S → Type 0
CarriesRules {S} {T} {O} local moved place slots =
    (s : S) → IsIn s slots → (v : T → O) → moved (place s) v ≡ local s (λ t. v (place t))

-- One slot gets what its rule gives, and the others keep what they have.
pub record Evaluates {S O : Type 0} (local : S → (S → O) → O) (s : S) (before after : S → O) : Type 0 where
  pub here : after s ≡ local s before
  pub elsewhere : (t : S) → (t ≡ s → ⊥) → after t ≡ before t

-- one after another
abbrev pub EvaluatesAll : {S O : Type 0} → (S → (S → O) → O) → List S → (S → O) → (S → O) → Type 0
EvaluatesAll {S} local [] before after = (t : S) → after t ≡ before t
EvaluatesAll {S} {O} local (s ∷ ss) before after = (between : S → O) × Evaluates local s before between × EvaluatesAll local ss between after

-- each stands once, behind its dependencies; some stand before the list
abbrev pub IsOrdered : {S : Type 0} → (S → List S) → List S → List S → Type 0
IsOrdered deps seen [] = Unit {0}
IsOrdered {S} deps seen (s ∷ ss) = ((d : S) → IsIn d (deps s) → IsIn d seen) × (IsIn s seen → ⊥) × IsOrdered deps (s ∷ seen) ss
