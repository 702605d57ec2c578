-- The ends of links.
use Rattle.std.specs.Prelude.{ℕ, zero, suc, Bool, false, List, length, Option, Some, None}
use Rattle.std.specs.Option.{option_and_then, option_map_or}
use Rattle.property_types.specs.Plans.{Slots}
use Rattle.document_model.specs.declared.kind.ObjectKind.{ObjectKind}
use Rattle.document_model.specs.declared.kind.ObjectKind.TheVariants.{VarSet, Sheet, Link, Feature, Foreign}
use Rattle.document_model.specs.Document.{Document, Object, object_named}

-- an object that is no link is its own end; from a link the search goes on
abbrev pub end_from : (Option (List ℕ) → Option Object) → Object → ObjectKind → Option Object
end_from beyond o VarSet = Some o
end_from beyond o Sheet = Some o
end_from beyond o Link = beyond o.target
end_from beyond o (Feature plan) = Some o
end_from beyond o (Foreign type) = Some o

-- the first object along a chain of targets that is no link, within a number of steps
abbrev pub end_along : Document → ℕ → Option (List ℕ) → Option Object
end_along d zero target = None
end_along d (suc steps) target =
    option_and_then (λ name. option_and_then (λ o. end_from (end_along d steps) o o.kind) (object_named d name)) target

-- the end of a link, none where its chain of targets does not end at an object; of every other object
-- itself. A chain that ends passes no object twice
abbrev pub end_of : Document → Object → Option Object
end_of d o = end_from (end_along d (length d.objects)) o o.kind

-- the plan of a feature
abbrev pub plan_of_kind : ObjectKind → Option Slots
plan_of_kind VarSet = None
plan_of_kind Sheet = None
plan_of_kind Link = None
plan_of_kind (Feature plan) = Some plan
plan_of_kind (Foreign type) = None

-- the plan of a feature, or of the feature at the end of a link
abbrev pub plan_behind : Document → Object → Option Slots
plan_behind d o = option_and_then (λ e. plan_of_kind e.kind) (end_of d o)

-- an object with bounds: a placed feature, or a link whose end is one
abbrev pub has_bounds : Document → Object → Bool
has_bounds d o = option_map_or (λ (plan : Slots). plan.placed) (plan_behind d o) false
