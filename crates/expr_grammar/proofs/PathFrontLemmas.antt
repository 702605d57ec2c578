-- The paths that the descent reads have the tokens in front.
use Rattle.std.proofs.Common.{◌≡◌, ℕ, Bool, true, false, List, [], ◌∷◌, ◌++◌, Option, None, Some, refl, sym, ◌∙◌, ap, cond, codes}
use Rattle.std.specs.Prelude.{◌&&◌}
use Rattle.std.specs.Option.{option_map}
use Rattle.std.specs.Str.{bytes_eq}
use Rattle.std.proofs.lemmas.Slice.Eq.{bytes_eq-Decides}
use Rattle.std.proofs.lemmas.Bool.{and_parts}
use Rattle.object_paths.specs.PathParts.{component_of}
use Rattle.object_paths.specs.declared.slot_name.Component as c
use Rattle.object_paths.specs.declared.slot_name.SlotName.TheVariants as slot
use Rattle.object_paths.specs.declared.path.Owner.TheVariants as owner
use Rattle.object_paths.specs.declared.path.Path.{Path}
use Rattle.expr_tokens.specs.declared.sign.Sign.TheVariants as sign
use Rattle.expr_tokens.specs.declared.token.Token.{Token}
use Rattle.expr_tokens.specs.declared.token.Token.TheVariants as token
use Rattle.expr_grammar.specs.Descent.{behind_sign, name_in_front, part_of, part_behind, component_of_group, slot_behind_name, slot_in_front, behind_third_name, third_name, behind_second_name, behind_owner, named_path}
use Rattle.expr_grammar.specs.PathTokens.{dot, component_tokens, slot_tokens, IsPathOf, plain}
use Rattle.expr_grammar.proofs.FrontLemmas.{AllParsed, AllRests, bind-all, behind_sign-rest, name_in_front-rest}

-- what holds of the value, where there is one
abbrev pub AllSome : {A : Type 0} → (A → Type 0) → Option A → Type 0
AllSome P None = Unit {0}
AllSome P (Some x) = P x

-- a fact of both values of a choice
pub on_cond : {A : Type 0} (P : A → Type 0) (b : Bool) (x y : A) → (b ≡ true → P x) → (b ≡ false → P y) → P (cond b x y)
on_cond P true x y when_true when_false = when_true refl
on_cond P false x y when_true when_false = when_false refl

-- the names of a component are its tokens
abbrev IsNamed : List ℕ → List ℕ → c.Component → Type 0
IsNamed group part x = component_tokens x ≡ token.Name group ∷ dot ∷ token.Name part ∷ []

names : (group part g x : List ℕ) → bytes_eq group g ≡ true → bytes_eq part x ≡ true
    → token.Name g ∷ dot ∷ token.Name x ∷ [] ≡ token.Name group ∷ dot ∷ token.Name part ∷ []
names group part g x a b =
    let e : group ≡ g = (bytes_eq-Decides group g).0 a in
    let d : part ≡ x = (bytes_eq-Decides part x).0 b in
    cc

pub component_of-names : (group part : List ℕ) → AllSome (IsNamed group part) (component_of group part)
component_of-names group part =
    on_cond (AllSome (IsNamed group part)) (bytes_eq group (codes "Base")) _ _
    (λ g. on_cond (AllSome (IsNamed group part)) (bytes_eq part (codes "x")) _ _ (λ x. names group part (codes "Base") (codes "x") g x)
    (λ _. on_cond (AllSome (IsNamed group part)) (bytes_eq part (codes "y")) _ _ (λ y. names group part (codes "Base") (codes "y") g y)
    (λ _. on_cond (AllSome (IsNamed group part)) (bytes_eq part (codes "z")) _ _ (λ z. names group part (codes "Base") (codes "z") g z) (λ _. tt))))
    (λ _. on_cond (AllSome (IsNamed group part)) (bytes_eq group (codes "Rotation") && bytes_eq part (codes "Turn")) _ _
    (λ both. let parts = and_parts (bytes_eq group (codes "Rotation")) (bytes_eq part (codes "Turn")) both in
    names group part (codes "Rotation") (codes "Turn") parts.0 parts.1)
    (λ _. tt))

-- something in front that is made of these tokens
abbrev pub BeginsWith : {A : Type 0} → (A → List Token) → List Token → A → List Token → Type 0
BeginsWith tokens ts x rest = ts ≡ tokens x ++ rest

-- a component in front, of its group and what follows it
part_named : (group : List ℕ) (ts mid : List Token) (x : List ℕ) (rest : List Token) → ts ≡ token.Name group ∷ dot ∷ mid → mid ≡ token.Name x ∷ rest
    → (r : Option c.Component) → AllSome (IsNamed group x) r → AllParsed (BeginsWith component_tokens ts) (option_map (λ part. (part, rest)) r)
part_named group ts mid x rest a b None h = tt
part_named group ts mid x rest a b (Some part) h =
    a ∙ (ap (λ (z : List Token). token.Name group ∷ dot ∷ z) b ∙ sym (ap (λ (z : List Token). z ++ rest) h))

part_of-rest : (group : List ℕ) (ts mid : List Token) → ts ≡ token.Name group ∷ dot ∷ mid → (x : Option (List ℕ × List Token))
    → AllParsed (λ name rest. mid ≡ token.Name name ∷ rest) x → AllParsed (BeginsWith component_tokens ts) (part_of group x)
part_of-rest group ts mid e None h = tt
part_of-rest group ts mid e (Some x) h = part_named group ts mid x.0 x.1 e h (component_of group x.0) (component_of-names group x.0)

part_behind-rest : (group : List ℕ) (ts after : List Token) → ts ≡ token.Name group ∷ after → (x : Option (List Token))
    → AllRests (λ rest. after ≡ dot ∷ rest) x → AllParsed (BeginsWith component_tokens ts) (part_behind group x)
part_behind-rest group ts after e None h = tt
part_behind-rest group ts after e (Some mid) h =
    part_of-rest group ts mid (e ∙ ap (λ (z : List Token). token.Name group ∷ z) h) (name_in_front mid) (name_in_front-rest mid)

component_of_group-rest : (ts : List Token) (x : Option (List ℕ × List Token)) → AllParsed (λ name rest. ts ≡ token.Name name ∷ rest) x
    → AllParsed (BeginsWith component_tokens ts) (component_of_group x)
component_of_group-rest ts None h = tt
component_of_group-rest ts (Some x) h = part_behind-rest x.0 ts x.1 h (behind_sign sign.Dot x.1) (behind_sign-rest sign.Dot x.1)

slot_behind_name-rest : (name : List ℕ) (ts : List Token) (x : Option (List Token)) → AllRests (λ rest. ts ≡ dot ∷ rest) x
    → AllParsed (BeginsWith slot_tokens (token.Name name ∷ ts)) (slot_behind_name name x ts)
slot_behind_name-rest name ts None h = refl
slot_behind_name-rest name ts (Some mid) h =
    bind-all (BeginsWith component_tokens mid) (BeginsWith slot_tokens (token.Name name ∷ ts)) (component_of_group (name_in_front mid))
    (λ part rest. Some (slot.Component name part, rest)) (component_of_group-rest mid (name_in_front mid) (name_in_front-rest mid))
    (λ part rest e. ap (λ (z : List Token). token.Name name ∷ z) (h ∙ ap (λ (z : List Token). dot ∷ z) e))

pub slot_in_front-rest : (ts : List Token) → AllParsed (BeginsWith slot_tokens ts) (slot_in_front ts)
slot_in_front-rest [] = tt
slot_in_front-rest (token.Name name ∷ ts) = slot_behind_name-rest name ts (behind_sign sign.Dot ts) (behind_sign-rest sign.Dot ts)
slot_in_front-rest (token.Marked place ∷ ts) = refl
slot_in_front-rest (token.Sign x ∷ ts) = tt
slot_in_front-rest (token.Numeral amount number ∷ ts) = tt
slot_in_front-rest (token.Unit name ∷ ts) = tt
slot_in_front-rest (token.Flag b ∷ ts) = tt
slot_in_front-rest (token.Function name ∷ ts) = tt
slot_in_front-rest (token.Text t ∷ ts) = tt

-- a path in front, whose owner can own
pub record BeginsWithPath (ts : List Token) (p : Path) (rest : List Token) : Type 0 where
  pub used : List Token
  pub split : ts ≡ used ++ rest
  pub path : IsPathOf used p

own_component : (first second third : List ℕ) (ts mid : List Token) → ts ≡ token.Name first ∷ dot ∷ token.Name second ∷ dot ∷ token.Name third ∷ mid
    → (r : Option c.Component) → AllSome (IsNamed second third) r
    → AllParsed (BeginsWithPath ts) (option_map (λ part. (record { owner = owner.Here; slot = slot.Component first part }, mid)) r)
own_component first second third ts mid e None h = tt
own_component first second third ts mid e (Some part) h = record {
  used = token.Name first ∷ dot ∷ component_tokens part;
  split = e ∙ sym (ap (λ (z : List Token). token.Name first ∷ dot ∷ (z ++ mid)) h);
  path = plain (record { owner = owner.Here; slot = slot.Component first part }) tt;
}

behind_third_name-rest : (first second third : List ℕ) (ts after : List Token) → ts ≡ token.Name first ∷ dot ∷ token.Name second ∷ dot ∷ token.Name third ∷ after
    → (x : Option (List Token)) → AllRests (λ rest. after ≡ dot ∷ rest) x → AllParsed (BeginsWithPath ts) (behind_third_name first second third x after)
behind_third_name-rest first second third ts after e None h = own_component first second third ts after e (component_of second third) (component_of-names second third)
behind_third_name-rest first second third ts after e (Some mid) h =
    bind-all (BeginsWith component_tokens (token.Name third ∷ after)) (BeginsWithPath ts) (part_of third (name_in_front mid))
    (λ part rest. Some (record { owner = owner.ByName first; slot = slot.Component second part }, rest))
    (part_of-rest third (token.Name third ∷ after) mid (ap (λ (z : List Token). token.Name third ∷ z) h) (name_in_front mid) (name_in_front-rest mid))
    (λ part rest d. record {
      used = token.Name first ∷ dot ∷ token.Name second ∷ dot ∷ component_tokens part;
      split = e ∙ ap (λ (z : List Token). token.Name first ∷ dot ∷ token.Name second ∷ dot ∷ z) d;
      path = plain (record { owner = owner.ByName first; slot = slot.Component second part }) tt;
    })

third_name-rest : (first second : List ℕ) (ts mid : List Token) → ts ≡ token.Name first ∷ dot ∷ token.Name second ∷ dot ∷ mid → (x : Option (List ℕ × List Token))
    → AllParsed (λ name rest. mid ≡ token.Name name ∷ rest) x → AllParsed (BeginsWithPath ts) (third_name first second x)
third_name-rest first second ts mid e None h = tt
third_name-rest first second ts mid e (Some x) h =
    behind_third_name-rest first second x.0 ts x.1 (e ∙ ap (λ (z : List Token). token.Name first ∷ dot ∷ token.Name second ∷ dot ∷ z) h)
    (behind_sign sign.Dot x.1) (behind_sign-rest sign.Dot x.1)

behind_second_name-rest : (first second : List ℕ) (ts after : List Token) → ts ≡ token.Name first ∷ dot ∷ token.Name second ∷ after → (x : Option (List Token))
    → AllRests (λ rest. after ≡ dot ∷ rest) x → AllParsed (BeginsWithPath ts) (behind_second_name first second x after)
behind_second_name-rest first second ts after e None h =
    record { used = token.Name first ∷ dot ∷ token.Name second ∷ []; split = e; path = plain (record { owner = owner.ByName first; slot = slot.Plain second }) tt }
behind_second_name-rest first second ts after e (Some mid) h =
    third_name-rest first second ts mid (e ∙ ap (λ (z : List Token). token.Name first ∷ dot ∷ token.Name second ∷ z) h) (name_in_front mid) (name_in_front-rest mid)

behind_owner-rest : (name : List ℕ) (ts mid : List Token) → ts ≡ token.Name name ∷ dot ∷ mid → AllParsed (BeginsWithPath ts) (behind_owner name mid)
behind_owner-rest name ts [] e = tt
behind_owner-rest name ts (token.Name second ∷ mid) e = behind_second_name-rest name second ts mid e (behind_sign sign.Dot mid) (behind_sign-rest sign.Dot mid)
behind_owner-rest name ts (token.Marked place ∷ mid) e =
    record { used = token.Name name ∷ dot ∷ token.Marked place ∷ []; split = e; path = plain (record { owner = owner.ByName name; slot = slot.Marked place }) tt }
behind_owner-rest name ts (token.Sign x ∷ mid) e = tt
behind_owner-rest name ts (token.Numeral amount number ∷ mid) e = tt
behind_owner-rest name ts (token.Unit second ∷ mid) e = tt
behind_owner-rest name ts (token.Flag b ∷ mid) e = tt
behind_owner-rest name ts (token.Function second ∷ mid) e = tt
behind_owner-rest name ts (token.Text t ∷ mid) e = tt

pub named_path-rest : (name : List ℕ) (ts : List Token) (x : Option (List Token)) → AllRests (λ rest. ts ≡ dot ∷ rest) x
    → AllParsed (BeginsWithPath (token.Name name ∷ ts)) (named_path name x ts)
named_path-rest name ts None h =
    record { used = token.Name name ∷ []; split = refl; path = plain (record { owner = owner.Here; slot = slot.Plain name }) tt }
named_path-rest name ts (Some mid) h = behind_owner-rest name (token.Name name ∷ ts) mid (ap (λ (z : List Token). token.Name name ∷ z) h)
