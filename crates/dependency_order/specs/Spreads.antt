-- Private: only contracts inside this crate cite this.
-- A search that spreads from a node over all that it reaches.
use Rattle.std.specs.Prelude.{◌≡◌, ◌⊎◌, ℕ, ◌+◌, ◌<◌, Bool, true, false, not, List, length, slice_index_or, count_by, Vec}
use Rattle.fc_base.specs.Graph.{IsIn, Reaches}
use Rattle.dependency_order.specs.Nodes.{inputs_of}

-- whether a node was reached
abbrev pub is_reached : List Bool → ℕ → Bool
is_reached reached n = slice_index_or reached n false

-- the nodes that are still to be looked at, now or later
abbrev pub nodes_left : List Bool → List ℕ → ℕ
nodes_left reached pending = count_by not reached + length pending

-- the nodes of a list are reached, and those among them that were not before are pending
pub record TakesIn (nodes : List ℕ) (reached : List Bool) (pending : List ℕ) (new_reached : List Bool) (new_pending : List ℕ) : Type 0 where
  pub sized : length new_reached ≡ length reached
  pub kept : (n : ℕ) → is_reached reached n ≡ true → is_reached new_reached n ≡ true
  pub taken : (n : ℕ) → IsIn n nodes → is_reached new_reached n ≡ true
  pub only_nodes : (n : ℕ) → is_reached new_reached n ≡ true → (is_reached reached n ≡ true) ⊎ (IsIn n nodes × IsIn n new_pending)
  pub waits : (n : ℕ) → IsIn n pending → IsIn n new_pending
  pub only_new : (n : ℕ) → IsIn n new_pending → IsIn n pending ⊎ IsIn n nodes
  pub left : nodes_left new_reached new_pending ≡ nodes_left reached pending

-- What the start or a reached node reads is reached, unless it is still pending, and nothing else is
-- pending than what the start reaches, and the start.
pub record IsSpreading {A : Type 0} (inputs : List (Vec ℕ A)) (start : ℕ) (reached : List Bool) (pending : List ℕ) : Type 0 where
  pub sized : length reached ≡ length inputs
  pub nodes : (n : ℕ) → IsIn n pending → n < length inputs
  pub from_start : (n d : ℕ) → IsIn n pending → IsIn d (inputs_of inputs n) → Reaches (inputs_of inputs) start d
  pub not_back : is_reached reached start ≡ false
  pub spread : (n : ℕ) → (n ≡ start) ⊎ (is_reached reached n ≡ true) → IsIn n pending ⊎ ((d : ℕ) → IsIn d (inputs_of inputs n) → is_reached reached d ≡ true)
