-- How often features are run.
use Rattle.std.specs.Prelude.{◌≡◌, ℕ, ◌+◌, ◌≤◌, List, [], ◌∷◌, count_by, min}
use Rattle.fc_base.specs.Devices.{last_count}
use Rattle.object_paths.specs.Slots.{same_text}
use Rattle.property_types.specs.Plans.{Slots}

-- A feature at hand, by its plan, and how often it was run. The count stops at its last value.
pub record FeatureRuns : Type 0 where
  pub plan : Slots
  pub runs : ℕ

-- the count behind the calls that are of the feature's type
abbrev pub runs_behind : List (List ℕ) → FeatureRuns → ℕ
runs_behind calls f = min (f.runs + count_by (λ (c : List ℕ). same_text f.plan.type_name c) calls) last_count

-- the features are those of before, place by place, and each was run once for each of its calls
abbrev pub RanFor : List (List ℕ) → List FeatureRuns → List FeatureRuns → Type 0
RanFor calls [] [] = Unit {0}
RanFor calls [] (g ∷ gs) = ⊥
RanFor calls (f ∷ fs) [] = ⊥
RanFor calls (f ∷ fs) (g ∷ gs) = (g.plan ≡ f.plan) × (g.runs ≡ runs_behind calls f) × RanFor calls fs gs

-- the same, but each was run at most once for each of its calls
abbrev pub RanAtMostFor : List (List ℕ) → List FeatureRuns → List FeatureRuns → Type 0
RanAtMostFor calls [] [] = Unit {0}
RanAtMostFor calls [] (g ∷ gs) = ⊥
RanAtMostFor calls (f ∷ fs) [] = ⊥
RanAtMostFor calls (f ∷ fs) (g ∷ gs) = (g.plan ≡ f.plan) × (f.runs ≤ g.runs) × (g.runs ≤ runs_behind calls f) × RanAtMostFor calls fs gs
