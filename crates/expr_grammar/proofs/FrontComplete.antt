-- What stands in front is read: the parts that hold no trees.
use Rattle.std.proofs.Common.{◌≡◌, ℕ, ◌<◌, ℤ, pos, neg_ℤ, Bool, true, false, List, [], ◌∷◌, ◌++◌, Option, None, Some, refl, ◌∙◌, ap, cond, codes, IsTrue}
use Rattle.std.proofs.lemmas.Bool.{lt-ltb}
use Rattle.fc_base.specs.Texts.{is_label}
use Rattle.object_paths.specs.declared.slot_name.Component as c
use Rattle.object_paths.specs.declared.slot_name.Component.TheVariants.{X, Y, Z, Turn}
use Rattle.object_paths.specs.declared.slot_name.SlotName.{SlotName}
use Rattle.object_paths.specs.declared.slot_name.SlotName.TheVariants as slot
use Rattle.object_paths.specs.declared.path.Owner as w
use Rattle.object_paths.specs.declared.path.Owner.TheVariants as owner
use Rattle.object_paths.specs.declared.path.Path.{Path}
use Rattle.expr_tree.specs.declared.expr.UnitPower.{UnitPower}
use Rattle.expr_tokens.specs.declared.sign.Sign.TheVariants as sign
use Rattle.expr_tokens.specs.declared.token.Token.{Token}
use Rattle.expr_tokens.specs.declared.token.Token.TheVariants as token
use Rattle.expr_grammar.specs.Descent.{Parsed, ◌>>=◌, Readers, behind_sign, digits_in_front, exponent_in_front, measured, numeral_behind, component_of_group, name_in_front, slot_behind_name, slot_in_front, behind_third_name, behind_second_name, named_path, as_tree, primary_step}
use Rattle.expr_grammar.specs.Grammar.{IsExponent, IsUnit, HoldsExponent}
use Rattle.expr_grammar.specs.Grammar.IsExponent.{plain, negative}
use Rattle.expr_grammar.specs.Grammar.IsUnit.{alone, raised}
use Rattle.expr_grammar.specs.PathTokens.{dot, component_tokens, owner_tokens, slot_tokens, CanOwn, IsPathOf}
use Rattle.expr_grammar.specs.PathTokens.{plain as spelled, behind_point}
use Rattle.expr_tree.specs.Tree.{literal, path}

-- exponents

digits-read : (amount : ℤ) (n : ℕ) (rest : List Token) → n < 100 → digits_in_front (token.Numeral amount (Some n) ∷ rest) ≡ Some (n, rest)
digits-read amount n rest h = ap (λ (b : Bool). cond b (Some (n, rest)) None) (lt-ltb n 100 h)

pub exponent-read : {ns : List Token} {n : ℤ} → IsExponent ns n → (rest : List Token) → exponent_in_front (ns ++ rest) ≡ Some (n, rest)
unfolding exponent_in_front
exponent-read (plain amount n h) rest = ap (λ (z : Parsed ℕ). z >>= λ m r. Some (pos m, r)) (digits-read amount n rest h)
exponent-read (negative amount n h) rest = ap (λ (z : Parsed ℕ). z >>= λ m r. Some (neg_ℤ (pos m), r)) (digits-read amount n rest h)

-- the tokens begin with a unit
abbrev pub begins_with_unit : List Token → Bool
begins_with_unit [] = false
begins_with_unit (token.Unit name ∷ ts) = true
begins_with_unit (token.Name name ∷ ts) = false
begins_with_unit (token.Sign x ∷ ts) = false
begins_with_unit (token.Numeral amount number ∷ ts) = false
begins_with_unit (token.Flag b ∷ ts) = false
begins_with_unit (token.Function name ∷ ts) = false
begins_with_unit (token.Marked place ∷ ts) = false
begins_with_unit (token.Text t ∷ ts) = false

pub numeral-read : (amount : ℤ) (rest : List Token) → begins_with_unit rest ≡ false → numeral_behind amount rest ≡ Some (literal amount None, rest)
numeral-read amount [] h = refl
numeral-read amount (token.Unit name ∷ ts) h = absurd (cc)
numeral-read amount (token.Name name ∷ ts) h = refl
numeral-read amount (token.Sign x ∷ ts) h = refl
numeral-read amount (token.Numeral a number ∷ ts) h = refl
numeral-read amount (token.Flag b ∷ ts) h = refl
numeral-read amount (token.Function name ∷ ts) h = refl
numeral-read amount (token.Marked place ∷ ts) h = refl
numeral-read amount (token.Text t ∷ ts) h = refl

-- a unit behind a numeral
pub measure-read : (amount : ℤ) (number : Option ℕ) {ts : List Token} {u : UnitPower} → IsUnit ts u → (rest : List Token)
    → (HoldsExponent (token.Numeral amount number ∷ ts) → behind_sign sign.Caret rest ≡ None)
    → numeral_behind amount (ts ++ rest) ≡ Some (literal amount (Some u), rest)
measure-read amount number (alone name) rest held = ap (λ (x : Option (List Token)). measured amount name x rest) (held tt)
measure-read amount number (raised name {ts} {n} e) rest held =
    ap (λ (z : Parsed ℤ). z >>= λ m r. Some (literal amount (Some (record { unit = name; exponent = m })), r)) (exponent-read e rest)

-- paths

component-read : (part : c.Component) (rest : List Token) → component_of_group (name_in_front (component_tokens part ++ rest)) ≡ Some (part, rest)
component-read X rest = refl
component-read Y rest = refl
component-read Z rest = refl
component-read Turn rest = refl

-- the tree of a path, in the tokens of its slot
pub slot-read : (x : SlotName) (rest : List Token) → behind_sign sign.Dot rest ≡ None → slot_in_front (slot_tokens x ++ rest) ≡ Some (x, rest)
slot-read (slot.Plain name) rest h = ap (λ (x : Option (List Token)). slot_behind_name name x rest) h
slot-read (slot.Component name part) rest h =
    ap (λ (z : Parsed c.Component). z >>= λ p r. Some (slot.Component name p, r)) (component-read part rest)
slot-read (slot.Marked place) rest h = refl

own_component-read : (name : List ℕ) (part : c.Component) (rest : List Token) → behind_sign sign.Dot rest ≡ None
    → named_path name (Some (component_tokens part ++ rest)) (dot ∷ (component_tokens part ++ rest))
    ≡ Some (record { owner = owner.Here; slot = slot.Component name part }, rest)
own_component-read name X rest h = ap (λ (x : Option (List Token)). behind_third_name name (codes "Base") (codes "x") x rest) h
own_component-read name Y rest h = ap (λ (x : Option (List Token)). behind_third_name name (codes "Base") (codes "y") x rest) h
own_component-read name Z rest h = ap (λ (x : Option (List Token)). behind_third_name name (codes "Base") (codes "z") x rest) h
own_component-read name Turn rest h = ap (λ (x : Option (List Token)). behind_third_name name (codes "Rotation") (codes "Turn") x rest) h

owned_component-read : (name second : List ℕ) (part : c.Component) (rest : List Token)
    → named_path name (Some (token.Name second ∷ dot ∷ (component_tokens part ++ rest))) (dot ∷ token.Name second ∷ dot ∷ (component_tokens part ++ rest))
    ≡ Some (record { owner = owner.ByName name; slot = slot.Component second part }, rest)
owned_component-read name second X rest = refl
owned_component-read name second Y rest = refl
owned_component-read name second Z rest = refl
owned_component-read name second Turn rest = refl

-- a path that no point follows is read as a primary

here-read : (r : Readers) (x : SlotName) (rest : List Token) → behind_sign sign.Dot rest ≡ None
    → primary_step r (slot_tokens x ++ rest) ≡ Some (path (record { owner = owner.Here; slot = x }), rest)
here-read r (slot.Plain name) rest h = ap (λ (x : Option (List Token)). as_tree (named_path name x rest)) h
here-read r (slot.Component name part) rest h = ap as_tree (own_component-read name part rest h)
here-read r (slot.Marked place) rest h = refl

by_name-read : (r : Readers) (name : List ℕ) (x : SlotName) (rest : List Token) → behind_sign sign.Dot rest ≡ None
    → primary_step r (token.Name name ∷ dot ∷ (slot_tokens x ++ rest)) ≡ Some (path (record { owner = owner.ByName name; slot = x }), rest)
by_name-read r name (slot.Plain second) rest h = ap (λ (x : Option (List Token)). as_tree (behind_second_name name second x rest)) h
by_name-read r name (slot.Component second part) rest h = ap as_tree (owned_component-read name second part rest)
by_name-read r name (slot.Marked place) rest h = refl

by_label-read : (r : Readers) (label : List ℕ) (x : SlotName) (rest : List Token) → IsTrue (is_label label) → behind_sign sign.Dot rest ≡ None
    → primary_step r (token.Text label ∷ dot ∷ (slot_tokens x ++ rest)) ≡ Some (path (record { owner = owner.ByLabel label; slot = x }), rest)
by_label-read r label x rest can h =
    ap (λ (b : Bool). cond b (slot_in_front (slot_tokens x ++ rest) >>= λ y after. Some (path (record { owner = owner.ByLabel label; slot = y }), after)) None) can
    ∙ ap (λ (z : Parsed SlotName). z >>= λ y after. Some (path (record { owner = owner.ByLabel label; slot = y }), after)) (slot-read x rest h)

parts-read : (r : Readers) (o : w.Owner) (x : SlotName) (rest : List Token) → CanOwn o → behind_sign sign.Dot rest ≡ None
    → primary_step r ((owner_tokens o ++ slot_tokens x) ++ rest) ≡ Some (path (record { owner = o; slot = x }), rest)
parts-read r owner.Here x rest can h = here-read r x rest h
parts-read r (owner.ByName name) x rest can h = by_name-read r name x rest h
parts-read r (owner.ByLabel label) x rest can h = by_label-read r label x rest can h

pub path-read : (r : Readers) {ts : List Token} {p : Path} → IsPathOf ts p → (rest : List Token) → behind_sign sign.Dot rest ≡ None
    → primary_step r (ts ++ rest) ≡ Some (path p, rest)
path-read r (spelled p can) rest h = parts-read r p.owner p.slot rest can h
path-read r (behind_point x) rest h =
    ap (λ (z : Parsed SlotName). z >>= λ y after. Some (path (record { owner = owner.Here; slot = y }), after)) (slot-read x rest h)
