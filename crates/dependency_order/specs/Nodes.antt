-- Nodes by their numbers, each with the numbers of the nodes that it reads.
use Rattle.std.specs.Prelude.{ℕ, zero, suc, ◌<◌, ◌^◌, List, [], ◌∷◌, length, Option, None, Some, Vec}
use Rattle.fc_base.specs.Graph.{IsIn, Reaches, IsOrdered}

-- what a node reads; past the last node there is nothing that reads
unfoldable pub inputs_of : {A : Type 0} → List (Vec ℕ A) → ℕ → List ℕ
inputs_of [] n = []
inputs_of (v ∷ vs) zero = v.items
inputs_of (v ∷ vs) (suc n) = inputs_of vs n

-- the numbers fit, and what a node reads is a node
pub record AreNodes {A : Type 0} (inputs : List (Vec ℕ A)) : Type 0 where
  pub few : length inputs < 2 ^ 32
  pub inside : (n d : ℕ) → IsIn d (inputs_of inputs n) → d < length inputs

-- a node that reads itself, directly or through others
abbrev pub HasCycle : {A : Type 0} → List (Vec ℕ A) → Type 0
HasCycle inputs = (n : ℕ) × (n < length inputs) × Reaches (inputs_of inputs) n n

-- each node stands once, after what it reads, and nothing else stands there
pub record OrdersAll {A : Type 0} (inputs : List (Vec ℕ A)) (order : List ℕ) : Type 0 where
  pub ordered : IsOrdered (inputs_of inputs) [] order
  pub all : (n : ℕ) → n < length inputs → IsIn n order
  pub only : (n : ℕ) → IsIn n order → n < length inputs

-- an order of all nodes, or none where a node reaches itself
abbrev pub IsOrderOf : {A B : Type 0} → List (Vec ℕ A) → Option (Vec ℕ B) → Type 0
IsOrderOf inputs None = HasCycle inputs
IsOrderOf inputs (Some order) = OrdersAll inputs order.items
