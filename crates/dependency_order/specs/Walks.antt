-- Private: only contracts inside this crate cite this.
-- A walk into the depth: each node is new, open or done, the open ones stand on the path that leads to
-- the node at hand, and the done ones in the order so far.
use Rattle.std.specs.Prelude.{◌≡◌, ℕ, suc, ◌+◌, ◌-◌, ◌<◌, List, [], ◌∷◌, length, take, slice_index_or, sum_by, Vec}
use Rattle.fc_base.specs.Graph.{IsIn, Reaches, IsOrdered}
use Rattle.dependency_order.specs.Nodes.{inputs_of}
use Rattle.dependency_order.specs.declared.walk.Mark.{Mark}
use Rattle.dependency_order.specs.declared.walk.Mark.TheVariants.{New, Open, Done}
use Rattle.dependency_order.specs.declared.walk.Frame.{Frame}

-- the mark of a node
abbrev pub mark_of : List Mark → ℕ → Mark
mark_of marks n = slice_index_or marks n New

-- each node of a path leads to all behind it, and stands once
abbrev pub LeadsOn : (ℕ → List ℕ) → List Frame → Type 0
LeadsOn g [] = Unit {0}
LeadsOn g (f ∷ fs) = ((h : Frame) → IsIn h fs → Reaches g f.node h.node × (h.node ≡ f.node → ⊥)) × LeadsOn g fs

-- The order so far is one, the marks say what stands in it and on the path, and what an open node counts
-- as done is done.
pub record IsUnderWay {A : Type 0} (inputs : List (Vec ℕ A)) (marks : List Mark) (path : List Frame) (order : List ℕ) : Type 0 where
  pub marked : length marks ≡ length inputs
  pub ordered : IsOrdered (inputs_of inputs) [] order
  pub listed_are_done : (n : ℕ) → IsIn n order → mark_of marks n ≡ Done
  pub done_are_listed : (n : ℕ) → mark_of marks n ≡ Done → IsIn n order
  pub path_is_open : (f : Frame) → IsIn f path → mark_of marks f.node ≡ Open
  pub open_on_path : (n : ℕ) → mark_of marks n ≡ Open → (f : Frame) × (IsIn f path × (f.node ≡ n))
  pub leads_on : LeadsOn (inputs_of inputs) path
  pub ready : (f : Frame) → IsIn f path → (d : ℕ) → IsIn d (take f.done (inputs_of inputs f.node)) → IsIn d order

-- what is new was new
abbrev pub NoneIsRenewed : List Mark → List Mark → Type 0
NoneIsRenewed old new = (n : ℕ) → mark_of new n ≡ New → mark_of old n ≡ New

-- the steps that a node owes that is still new
abbrev pub steps_of : ℕ → Mark → ℕ
steps_of inputs New = inputs + 2
steps_of inputs Open = 0
steps_of inputs Done = 0

-- the steps of all new nodes
unfoldable pub new_steps : (ℕ → List ℕ) → List Mark → ℕ
new_steps g [] = 0
new_steps g (m ∷ ms) = steps_of (length (g 0)) m + new_steps (λ n. g (suc n)) ms

-- the steps that an open node still owes
abbrev pub frame_steps : (ℕ → List ℕ) → Frame → ℕ
frame_steps g f = length (g f.node) - f.done + 1

-- the steps to the end of a walk
abbrev pub steps_left : (ℕ → List ℕ) → List Mark → List Frame → ℕ
steps_left g marks path = new_steps g marks + sum_by (frame_steps g) path

-- one step on: the walk is still in order, and comes nearer to its end
pub record GoesOn {A : Type 0} (inputs : List (Vec ℕ A)) (marks : List Mark) (path : List Frame) (new_marks : List Mark) (new_path : List Frame) (new_order : List ℕ) : Type 0 where
  pub under_way : IsUnderWay inputs new_marks new_path new_order
  pub started : NoneIsRenewed marks new_marks
  pub nearer : steps_left (inputs_of inputs) new_marks new_path < steps_left (inputs_of inputs) marks path

-- a walk to the end of its path, which leaves no node open
pub record Ends {A : Type 0} (inputs : List (Vec ℕ A)) (marks : List Mark) (new_marks : List Mark) (new_path : List Frame) (new_order : List ℕ) : Type 0 where
  pub under_way : IsUnderWay inputs new_marks new_path new_order
  pub empty : new_path ≡ []
  pub started : NoneIsRenewed marks new_marks

-- a walk from a node to the end, which leaves it done, and with it all that was done
pub record Visits {A : Type 0} (inputs : List (Vec ℕ A)) (node : ℕ) (marks : List Mark) (new_marks : List Mark) (new_path : List Frame) (new_order : List ℕ) : Type 0 where
  pub under_way : IsUnderWay inputs new_marks new_path new_order
  pub empty : new_path ≡ []
  pub visited : mark_of new_marks node ≡ Done
  pub kept : (n : ℕ) → mark_of marks n ≡ Done → mark_of new_marks n ≡ Done
