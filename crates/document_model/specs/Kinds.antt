-- The kinds of objects: what each has, and how they follow from types and the plans of the features at hand.
use Rattle.std.specs.Prelude.{◌≡◌, ℕ, Bool, true, false, ◌&&◌, ◌||◌, not, List, [], ◌∷◌, ◌++◌, map, Option, Some, None, if◌then◌else◌, codes}
use Rattle.std.specs.List.{find, AllByRecursion}
use Rattle.fc_base.specs.Places.{looks_like_address}
use Rattle.object_paths.specs.Slots.{same_text}
use Rattle.property_types.specs.Plans.{Slots}
use Rattle.property_types.specs.SoundPlans.{is_property_name, plan_names}
use Rattle.document_model.specs.declared.kind.ObjectKind.{ObjectKind}
use Rattle.document_model.specs.declared.kind.ObjectKind.TheVariants.{VarSet, Sheet, Link, Feature, Foreign}
use Rattle.document_model.specs.Document.{Document, Object}

-- the kinds that have dynamic properties
abbrev pub has_dynamics : ObjectKind → Bool
has_dynamics VarSet = true
has_dynamics Sheet = true
has_dynamics Link = false
has_dynamics (Feature plan) = true
has_dynamics (Foreign type) = false

-- the kind that has cells
abbrev pub is_sheet : ObjectKind → Bool
is_sheet VarSet = false
is_sheet Sheet = true
is_sheet Link = false
is_sheet (Feature plan) = false
is_sheet (Foreign type) = false

-- the kind that has a target and overrides
abbrev pub is_link : ObjectKind → Bool
is_link VarSet = false
is_link Sheet = false
is_link Link = true
is_link (Feature plan) = false
is_link (Foreign type) = false

-- the features that have members
abbrev pub has_members : ObjectKind → Bool
has_members VarSet = false
has_members Sheet = false
has_members Link = false
has_members (Feature plan) = plan.members
has_members (Foreign type) = false

-- the names of a kind's inputs and outputs
abbrev pub names_of_kind : ObjectKind → List (List ℕ)
names_of_kind VarSet = []
names_of_kind Sheet = []
names_of_kind Link = []
names_of_kind (Feature plan) = plan_names plan
names_of_kind (Foreign type) = []

-- the properties of a feature that are not dynamic, in the order in which they are written
abbrev pub known_of_plan : Slots → List (List ℕ)
known_of_plan plan =
    codes "Label" ∷ map (λ i. i.name) plan.inputs ++ (if plan.placed then codes "Placement" ∷ [] else [])
    ++ (if plan.members then codes "Links" ∷ [] else []) ++ codes "ExpressionEngine" ∷ []

-- the properties of a kind that are not dynamic, in the order in which they are written
abbrev pub known_names : ObjectKind → List (List ℕ)
known_names VarSet = codes "Label" ∷ codes "ExpressionEngine" ∷ []
known_names Sheet = codes "Label" ∷ codes "cells" ∷ codes "ExpressionEngine" ∷ []
known_names Link =
    codes "Label" ∷ codes "LinkedObject" ∷ codes "LinkTransform" ∷ codes "Placement" ∷ codes "Overrides" ∷ codes "ExpressionEngine" ∷ []
known_names (Feature plan) = known_of_plan plan
known_names (Foreign type) = codes "Label" ∷ []

-- a name of a dynamic property; on a sheet it does not look like an address
abbrev pub is_dynamic_name : ObjectKind → List ℕ → Bool
is_dynamic_name kind name = is_property_name name && (not (is_sheet kind) || not (looks_like_address name))

-- the type of an object, as a document names it
abbrev pub type_of_kind : ObjectKind → List ℕ
type_of_kind VarSet = codes "App::VarSet"
type_of_kind Sheet = codes "Spreadsheet::Sheet"
type_of_kind Link = codes "App::Link"
type_of_kind (Feature plan) = plan.type_name
type_of_kind (Foreign type) = type

-- a feature with that plan, or an object that no feature knows
abbrev pub kind_by_plan : List ℕ → Option Slots → ObjectKind
kind_by_plan type None = Foreign type
kind_by_plan type (Some plan) = Feature plan

-- the kind of the objects of a type: VarSet, sheet or link, a feature by the first plan of the type, or
-- foreign
abbrev pub kind_of_type : List Slots → List ℕ → ObjectKind
kind_of_type plans type =
    if same_text type (codes "App::VarSet") then VarSet
    else (if same_text type (codes "Spreadsheet::Sheet") then Sheet
    else (if same_text type (codes "App::Link") then Link
    else kind_by_plan type (find (λ plan. same_text plan.type_name type) plans)))

-- the kind is that of the type
abbrev pub HasKindOfType : List Slots → Object → Type 0
HasKindOfType plans o = o.kind ≡ kind_of_type plans (type_of_kind o.kind)

-- a document whose kinds follow from its types by the plans
abbrev pub FollowsPlans : List Slots → Document → Type 0
FollowsPlans plans d = AllByRecursion (HasKindOfType plans) d.objects
