-- Whether objects stand together, as the tests tell it part by part.
use Rattle.std.proofs.Common.{◌≡◌, Bool, true, false, ◌&&◌, List, [], ◌∷◌, map, refl, sym, ap, ◌∙◌}
use Rattle.std.specs.List.{list_all}
use Rattle.std.proofs.lemmas.List.Folds.{list_all-map}
use Rattle.property_types.specs.Reserved.{are_distinct}
use Rattle.property_types.specs.SoundPlans.{is_property_name}
use Rattle.fcdoc_file.specs.FirstForm.{has_own_names, is_within_limits, stands_together}
use Rattle.fcdoc_file.specs.Rows.{property_of, object_of}
use Rattle.fcdoc_file.specs.declared.var_set.FloatProperty.{FloatProperty}
use Rattle.fcdoc_file.specs.declared.var_set.VarSet.{VarSet}

object_names : (os : List VarSet) → map (λ o. o.name) (map object_of os) ≡ map (λ o. o.name) os
object_names [] = refl
object_names (o ∷ os) = ap (λ names. o.name ∷ names) (object_names os)

pub property_names : (ps : List FloatProperty) → map (λ p. p.name) (map property_of ps) ≡ map (λ p. p.name) ps
property_names [] = refl
property_names (p ∷ ps) = ap (λ names. p.name ∷ names) (property_names ps)

-- the two tests of an object's properties
own_names : (o : VarSet) → has_own_names (object_of o)
    ≡ (are_distinct (map (λ p. p.name) o.properties.items) && list_all (λ p. is_property_name p.name) o.properties.items)
own_names o =
    ap (λ names. are_distinct names && list_all (λ p. is_property_name p.name) (map property_of o.properties.items)) (property_names o.properties.items)
    ∙ ap (λ b. are_distinct (map (λ p. p.name) o.properties.items) && b) (list_all-map (λ p. is_property_name p.name) property_of o.properties.items)

and_false : (a b : Bool) → b ≡ false → b ≡ (a && b)
and_false true b e = refl
and_false false b e = e

and_true : (a b : Bool) → b ≡ true → a ≡ (a && b)
and_true true b e = sym e
and_true false b e = refl

-- a name is none that a property may have
pub own_refused : (o : VarSet) (ps : List FloatProperty) (r : Bool) → ps ≡ o.properties.items → r ≡ list_all (λ p. is_property_name p.name) ps → r ≡ false → r ≡ has_own_names (object_of o)
own_refused o ps r same is no_ =
    let all : r ≡ list_all (λ p. is_property_name p.name) o.properties.items = is ∙ ap (list_all (λ p. is_property_name p.name)) same in
    all ∙ and_false (are_distinct (map (λ p. p.name) o.properties.items)) _ (sym all ∙ no_) ∙ sym (own_names o)

-- the names are such, and distinct or not
pub own_told : (o : VarSet) (ps qs : List FloatProperty) (r d : Bool) → ps ≡ o.properties.items → qs ≡ o.properties.items
    → r ≡ list_all (λ p. is_property_name p.name) ps → r ≡ true → d ≡ are_distinct (map (λ p. p.name) qs) → d ≡ has_own_names (object_of o)
own_told o ps qs r d same also is fine told =
    let all : r ≡ list_all (λ p. is_property_name p.name) o.properties.items = is ∙ ap (list_all (λ p. is_property_name p.name)) same in
    told ∙ ap (λ q. are_distinct (map (λ p. p.name) q)) also
    ∙ and_true (are_distinct (map (λ p. p.name) o.properties.items)) _ (sym all ∙ fine) ∙ sym (own_names o)

-- the three tests of objects
together : (os : List VarSet) → stands_together (map object_of os)
    ≡ ((are_distinct (map (λ o. o.name) os) && list_all has_own_names (map object_of os)) && is_within_limits (map object_of os))
together os = ap (λ names. (are_distinct names && list_all has_own_names (map object_of os)) && is_within_limits (map object_of os)) (object_names os)

last_told : (a b w : Bool) → a ≡ true → w ≡ true → b ≡ ((a && b) && w)
last_told true b true e f = sym (and_one b)
  where
    and_one : (b : Bool) → (b && true) ≡ b
    and_one true = refl
    and_one false = refl
last_told true b false e f = absurd (cc)
last_told false b w e f = absurd (cc)

first_told : (a b w : Bool) → a ≡ false → a ≡ ((a && b) && w)
first_told true b w e = absurd (cc)
first_told false b w e = refl

pub all_told : (os : List VarSet) (d w r : Bool) → w ≡ is_within_limits (map object_of os) → w ≡ true → d ≡ are_distinct (map (λ o. o.name) os) → d ≡ true
    → r ≡ list_all has_own_names (map object_of os) → r ≡ stands_together (map object_of os)
all_told os d w r within yes_ distinct also told =
    told ∙ last_told (are_distinct (map (λ o. o.name) os)) (list_all has_own_names (map object_of os)) (is_within_limits (map object_of os)) (sym distinct ∙ also) (sym within ∙ yes_) ∙ sym (together os)

pub twice_told : (os : List VarSet) (d : Bool) → d ≡ are_distinct (map (λ o. o.name) os) → d ≡ false → d ≡ stands_together (map object_of os)
twice_told os d distinct no_ =
    distinct ∙ first_told (are_distinct (map (λ o. o.name) os)) (list_all has_own_names (map object_of os)) (is_within_limits (map object_of os)) (sym distinct ∙ no_) ∙ sym (together os)

pub limits_told : (os : List VarSet) (w : Bool) → w ≡ is_within_limits (map object_of os) → w ≡ false → w ≡ stands_together (map object_of os)
limits_told os w within no_ =
    within ∙ and_false (are_distinct (map (λ o. o.name) os) && list_all has_own_names (map object_of os)) (is_within_limits (map object_of os)) (sym within ∙ no_) ∙ sym (together os)
