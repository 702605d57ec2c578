-- What is worked out from nothing in as many steps as there are slots is what each rule gives.
use Rattle.std.proofs.Common.{◌≡◌, ℕ, zero, suc, ◌≤◌, List, length, refl, sym, ◌∙◌, arith}
use Rattle.fc_base.specs.Graph.{Closed, Acyclic, ReadsOnlyDeps, IsFixpoint, full_at}
use Rattle.fc_base.proofs.GraphLemmas.{Within, within_slots}

module _ {S O : Type 0} (deps : S → List S) (slots : List S) (closed : Closed deps slots) (acyclic : Acyclic deps slots) where
  module _ (local : S → (S → O) → O) (start : O) (reads : ReadsOnlyDeps deps local) where
    -- steps past the longest chain of dependencies make no difference
    full_at-enough : (n m : ℕ) (s : S) → Within deps slots closed n s → n ≤ m → full_at local start m s ≡ full_at local start n s
    unfolding full_at
    full_at-enough zero m s within room = absurd within
    full_at-enough (suc n) zero s within room = absurd (omega arith)
    full_at-enough (suc n) (suc m) s within room =
        reads s (full_at local start m) (full_at local start n) (λ d i. full_at-enough n m d (within d i) (omega arith))

    one_more : (n : ℕ) (s : S) → full_at local start (suc n) s ≡ local s (full_at local start n)
    unfolding full_at
    one_more n s = refl

    pub full_at-fixpoint : IsFixpoint local slots (full_at local start (length slots))
    full_at-fixpoint s here =
        sym (full_at-enough (length slots) (suc (length slots)) s (within_slots deps slots closed acyclic s here) (omega arith))
        ∙ one_more (length slots) s
