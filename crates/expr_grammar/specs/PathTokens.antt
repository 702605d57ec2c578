-- The tokens of a path.
use Rattle.std.specs.Prelude.{List, [], ◌∷◌, ◌++◌, codes, IsTrue}
use Rattle.fc_base.specs.Texts.{is_label}
use Rattle.object_paths.specs.declared.slot_name.Component as c
use Rattle.object_paths.specs.declared.slot_name.Component.TheVariants.{X, Y, Z, Turn}
use Rattle.object_paths.specs.declared.slot_name.SlotName.{SlotName}
use Rattle.object_paths.specs.declared.slot_name.SlotName.TheVariants.{Plain, Component, Marked}
use Rattle.object_paths.specs.declared.path.Owner.{Owner}
use Rattle.object_paths.specs.declared.path.Owner.TheVariants.{Here, ByName, ByLabel}
use Rattle.object_paths.specs.declared.path.Path.{Path}
use Rattle.expr_tokens.specs.declared.sign.Sign.TheVariants as sign
use Rattle.expr_tokens.specs.declared.token.Token.{Token}
use Rattle.expr_tokens.specs.declared.token.Token.TheVariants as token

abbrev pub dot : Token
dot = token.Sign sign.Dot

-- a component, behind the point that follows its placement
abbrev pub component_tokens : c.Component → List Token
component_tokens X = token.Name (codes "Base") ∷ dot ∷ token.Name (codes "x") ∷ []
component_tokens Y = token.Name (codes "Base") ∷ dot ∷ token.Name (codes "y") ∷ []
component_tokens Z = token.Name (codes "Base") ∷ dot ∷ token.Name (codes "z") ∷ []
component_tokens Turn = token.Name (codes "Rotation") ∷ dot ∷ token.Name (codes "Turn") ∷ []

-- a slot
abbrev pub slot_tokens : SlotName → List Token
slot_tokens (Plain name) = token.Name name ∷ []
slot_tokens (Component name part) = token.Name name ∷ dot ∷ component_tokens part
slot_tokens (Marked place) = token.Marked place ∷ []

-- an owner and the point behind it; the object itself is not named
abbrev pub owner_tokens : Owner → List Token
owner_tokens Here = []
owner_tokens (ByName name) = token.Name name ∷ dot ∷ []
owner_tokens (ByLabel label) = token.Text label ∷ dot ∷ []

-- a path without a point in front
abbrev pub path_tokens : Path → List Token
path_tokens p = owner_tokens p.owner ++ slot_tokens p.slot

-- a text is an owner where it is a label
abbrev pub CanOwn : Owner → Type 0
CanOwn Here = Unit {0}
CanOwn (ByName name) = Unit {0}
CanOwn (ByLabel label) = IsTrue (is_label label)

-- the tokens are those of the path; one of the object itself may have a point in front
pub data IsPathOf : List Token → Path → Type 0 where
  plain : (p : Path) → CanOwn p.owner → IsPathOf (path_tokens p) p
  behind_point : (slot : SlotName) → IsPathOf (dot ∷ slot_tokens slot) (record { owner = Here; slot = slot })
