-- Properties and objects that are found stand in the text, and those that stand there are found.
use Rattle.std.proofs.Common.{◌≡◌, ℕ, zero, suc, ◌+◌, ◌-◌, ◌<◌, ◌≤◌, ◌^◌, Bool, true, false, cond, ltb, List, [], ◌∷◌, ◌++◌, length, map, codes, None, Some, refl, sym, ap, ◌∙◌, subst, append_assoc, arith}
use Rattle.std.specs.Fmt.{decimal}
use Rattle.std.specs.List.{flat_map, AllByRecursion}
use Rattle.std.proofs.lemmas.Bool.{ltb-false, le-ltb}
use Rattle.std.proofs.lemmas.List.Concat.{flat_map-cons}
use Rattle.fc_base.specs.Texts.{is_name}
use Rattle.quantities.specs.Texts.{nine_text}
use Rattle.quantities.proofs.TextLemmas.{nine_text-no_quote}
use Rattle.fcxml_profile.specs.Fronts.{after}
use Rattle.fcxml_profile.proofs.FrontLemmas.{after-append, after_some}
use Rattle.fcdoc_file.specs.Cursor.{each, numbers}
use Rattle.fcdoc_file.specs.FirstForm.{FirstProperty, FirstObject, property_text, object_text, IsFirstProperty, IsFirstObject}
use Rattle.fcdoc_file.specs.Reading.{quoted_at, name_at, count_at, known_at, amount_of, property_at, fixed_at, start_at, object_at}
use Rattle.fcdoc_file.proofs.AmountLemmas.{amount_of-nine_text, amount_of_some}
use Rattle.fcdoc_file.proofs.FieldLaws.{then_some, goes, some_is, no_quote, known_at-append, known_at_some, quoted_at-append, quoted_at_some, name_at-append, name_at_some, count_at-append, count_at_some}

-- the literals
abbrev pub property_mark : List ℕ
property_mark = codes "<Property name=\""

abbrev pub float_mark : List ℕ
float_mark = codes " type=\"App::PropertyFloat\" group=\"Base\" doc=\"\" ro=\"0\" hide=\"0\">\n<Float value=\""

abbrev pub property_end : List ℕ
property_end = codes "/>\n</Property>\n"

abbrev pub object_mark : List ℕ
object_mark = codes "<Object name=\""

abbrev pub properties_mark : List ℕ
properties_mark = codes ">\n<Properties Count=\""

abbrev pub label_mark : List ℕ
label_mark = codes ">\n<Property name=\"Label\" type=\"App::PropertyString\">\n<String value=\""

abbrev pub engine : List ℕ
engine = codes "/>\n</Property>\n<Property name=\"ExpressionEngine\" type=\"App::PropertyExpressionEngine\">\n<ExpressionEngine count=\"0\"/>\n</Property>\n"

abbrev pub object_end : List ℕ
object_end = codes "</Properties>\n</Object>\n"

-- ---- a property

regroup_property : (a n b v c rest : List ℕ) → (a ++ (n ++ 34 ∷ (b ++ (v ++ 34 ∷ c)))) ++ rest ≡ a ++ (n ++ 34 ∷ (b ++ (v ++ 34 ∷ (c ++ rest))))
regroup_property a n b v c rest = simp append_assoc

-- a property's text, and what follows
pub property_grouped : (p : FirstProperty) (rest : List ℕ) → property_text p ++ rest ≡ property_mark ++ (p.name ++ 34 ∷ (float_mark ++ (nine_text p.value ++ 34 ∷ (property_end ++ rest))))
property_grouped p rest = regroup_property property_mark p.name float_mark (nine_text p.value) property_end rest

join_property : (a n b v c rest text t q u : List ℕ) → text ≡ a ++ (n ++ 34 ∷ t) → t ≡ b ++ (q ++ 34 ∷ u) → q ≡ v → u ≡ c ++ rest
    → text ≡ (a ++ (n ++ 34 ∷ (b ++ (v ++ 34 ∷ c)))) ++ rest
join_property a n b v c rest text t q u e0 e1 e2 e3 =
    e0 ∙ ap (λ x. a ++ (n ++ 34 ∷ x)) (e1 ∙ ap (λ x. b ++ (x ++ 34 ∷ u)) e2 ∙ ap (λ x. b ++ (v ++ 34 ∷ x)) e3) ∙ sym (regroup_property a n b v c rest)

pub property_at-append : (p : FirstProperty) (rest : List ℕ) → IsFirstProperty p → property_at (property_text p ++ rest) ≡ Some (p, rest)
unfolding property_at
property_at-append p rest is =
    let t2 : List ℕ = property_end ++ rest in
    let t1 : List ℕ = float_mark ++ (nine_text p.value ++ 34 ∷ t2) in
    ap property_at (property_grouped p rest)
    ∙ goes (name_at property_mark (property_mark ++ (p.name ++ 34 ∷ t1))) _ (p.name, t1) _ (name_at-append property_mark p.name t1 is.0)
    (goes (quoted_at float_mark t1) _ (nine_text p.value, t2) _ (quoted_at-append float_mark (nine_text p.value) t2 (no_quote (nine_text p.value) (nine_text-no_quote p.value is.1)))
    (goes (amount_of (nine_text p.value)) _ p.value _ (amount_of-nine_text p.value is.1) (goes (after property_end t2) _ rest _ (after-append property_end rest) refl)))

pub property_at_some : (text : List ℕ) (x : FirstProperty × List ℕ) → property_at text ≡ Some x → (text ≡ property_text x.0 ++ x.1) × IsFirstProperty x.0
unfolding property_at
property_at_some text x e =
    let name = then_some (name_at property_mark text) _ x e in
    let number = then_some (quoted_at float_mark name.0.1) _ x name.2 in
    let value = then_some (amount_of number.0.0) _ x number.2 in
    let rest = then_some (after property_end number.0.1) _ x value.2 in
    let p : FirstProperty = record { name = name.0.0; value = value.0 } in
    let named = name_at_some property_mark text name.0 name.1 in
    let amount = amount_of_some number.0.0 value.0 value.1 in
    let stands : text ≡ property_text p ++ rest.0 =
    join_property property_mark name.0.0 float_mark (nine_text value.0) property_end rest.0 text name.0.1 number.0.0 number.0.1
    named.0 (quoted_at_some float_mark name.0.1 number.0 number.1) amount.0 (after_some property_end number.0.1 rest.0 rest.1) in
    subst (λ (y : FirstProperty × List ℕ). (text ≡ property_text y.0 ++ y.1) × IsFirstProperty y.0) (some_is (p, rest.0) x rest.2) (stands, (named.1, amount.1))

-- ---- the properties of an object

pub properties-append : (first : ℕ) (ps : List FirstProperty) (rest : List ℕ) → AllByRecursion IsFirstProperty ps
    → each (λ _. property_at) (numbers first (length ps)) (flat_map property_text ps ++ rest) ≡ Some (ps, rest)
unfolding each
properties-append first [] rest all = refl
properties-append first (p ∷ ps) rest all =
    ap (each (λ _. property_at) (first ∷ numbers (first + 1) (length ps))) (ap (λ t. t ++ rest) (flat_map-cons property_text p ps) ∙ append_assoc (property_text p) (flat_map property_text ps) rest)
    ∙ goes (property_at (property_text p ++ (flat_map property_text ps ++ rest))) _ (p, flat_map property_text ps ++ rest) _ (property_at-append p (flat_map property_text ps ++ rest) all.0)
    (goes (each (λ _. property_at) (numbers (first + 1) (length ps)) (flat_map property_text ps ++ rest)) _ (ps, rest) _ (properties-append (first + 1) ps rest all.1) refl)

-- the properties stand at the front, and there are so many
pub record HasProperties (n : ℕ) (text : List ℕ) (x : List FirstProperty × List ℕ) : Type 0 where
  pub stands : text ≡ flat_map property_text x.0 ++ x.1
  pub count : length x.0 ≡ n
  pub all : AllByRecursion IsFirstProperty x.0

pub properties_some : (first n : ℕ) (text : List ℕ) (x : List FirstProperty × List ℕ) → each (λ _. property_at) (numbers first n) text ≡ Some x → HasProperties n text x
unfolding each
properties_some first zero text x e = subst (HasProperties 0 text) (some_is ([], text) x e) (record { stands = refl; count = refl; all = tt })
properties_some first (suc n) text x e =
    let p = then_some (property_at text) _ x e in
    let more = then_some (each (λ _. property_at) (numbers (first + 1) n) p.0.1) _ x p.2 in
    let front = property_at_some text p.0 p.1 in
    let tail = properties_some (first + 1) n p.0.1 more.0 more.1 in
    let stands : text ≡ flat_map property_text (p.0.0 ∷ more.0.0) ++ more.0.1 =
    front.0 ∙ ap (λ t. property_text p.0.0 ++ t) tail.stands ∙ sym (append_assoc (property_text p.0.0) (flat_map property_text more.0.0) more.0.1)
    ∙ ap (λ t. t ++ more.0.1) (sym (flat_map-cons property_text p.0.0 more.0.0)) in
    subst (HasProperties (suc n) text) (some_is (p.0.0 ∷ more.0.0, more.0.1) x more.2) (record { stands = stands; count = ap suc tail.count; all = (front.1, tail.all) })

-- ---- an object

-- the text of an object's start, and what follows
abbrev pub start_text : List ℕ → ℕ → List ℕ → List ℕ
start_text name count rest =
    object_mark ++ (name ++ 34 ∷ (properties_mark ++ (decimal count ++ 34 ∷ (label_mark ++ (name ++ 34 ∷ (engine ++ rest))))))

guard_some : {A : Type 0} (b : Bool) (x y : A) → cond b None (Some x) ≡ Some y → (b ≡ false) × (x ≡ y)
guard_some true x y e = absurd (cc)
guard_some false x y e = (refl, cc)

fixed_at-append : (name rest : List ℕ) → fixed_at name (label_mark ++ (name ++ 34 ∷ (engine ++ rest))) ≡ Some rest
unfolding fixed_at
fixed_at-append name rest =
    goes (known_at label_mark name (label_mark ++ (name ++ 34 ∷ (engine ++ rest)))) _ (engine ++ rest) _ (known_at-append label_mark name (engine ++ rest)) (after-append engine rest)

fixed_at_some : (name text rest : List ℕ) → fixed_at name text ≡ Some rest → text ≡ label_mark ++ (name ++ 34 ∷ (engine ++ rest))
unfolding fixed_at
fixed_at_some name text rest e =
    let labelled = then_some (known_at label_mark name text) _ rest e in
    known_at_some label_mark name text labelled.0 labelled.1 ∙ ap (λ t. label_mark ++ (name ++ 34 ∷ t)) (after_some engine labelled.0 rest labelled.2)

pub start_at-append : (name : List ℕ) (n : ℕ) (rest : List ℕ) → n + 2 < 2 ^ 32 → start_at name (start_text name (n + 2) rest) ≡ Some (n, rest)
unfolding start_at
start_at-append name n rest small =
    let t2 : List ℕ = label_mark ++ (name ++ 34 ∷ (engine ++ rest)) in
    let t1 : List ℕ = properties_mark ++ (decimal (n + 2) ++ 34 ∷ t2) in
    let back : n + 2 - 2 ≡ n = omega arith in
    goes (known_at object_mark name (object_mark ++ (name ++ 34 ∷ t1))) _ t1 _ (known_at-append object_mark name t1)
    (goes (count_at properties_mark t1) _ (n + 2, t2) _ (count_at-append properties_mark (n + 2) t2 (omega arith) small)
    (goes (fixed_at name t2) _ rest _ (fixed_at-append name rest)
    (ap (λ b. cond b None (Some (n + 2 - 2, rest))) (le-ltb (n + 2) 2 (omega arith)) ∙ ap (λ (k : ℕ). Some (k, rest)) back)))

pub start_at_some : (name text : List ℕ) (x : ℕ × List ℕ) → start_at name text ≡ Some x → text ≡ start_text name (x.0 + 2) x.1
unfolding start_at
start_at_some name text x e =
    let named = then_some (known_at object_mark name text) _ x e in
    let count = then_some (count_at properties_mark named.0) _ x named.2 in
    let opened = then_some (fixed_at name count.0.1) _ x count.2 in
    let tested = guard_some (ltb count.0.0 2) (count.0.0 - 2, opened.0) x opened.2 in
    let least : 2 ≤ count.0.0 = ltb-false count.0.0 2 tested.0 in
    let back : count.0.0 ≡ count.0.0 - 2 + 2 = omega arith in
    let stands : text ≡ start_text name count.0.0 opened.0 =
    known_at_some object_mark name text named.0 named.1
    ∙ ap (λ t. object_mark ++ (name ++ 34 ∷ t)) ((count_at_some properties_mark named.0 count.0 count.1).0
    ∙ ap (λ t. properties_mark ++ (decimal count.0.0 ++ 34 ∷ t)) (fixed_at_some name count.0.1 opened.0 opened.1)) in
    subst (λ (y : ℕ × List ℕ). text ≡ start_text name (y.0 + 2) y.1) tested.1 (stands ∙ ap (λ k. start_text name k opened.0) back)

regroup_object : (a n b d c e ps f rest : List ℕ) → (a ++ (n ++ 34 ∷ (b ++ (d ++ 34 ∷ ((c ++ (n ++ 34 ∷ e)) ++ (ps ++ f)))))) ++ rest
    ≡ a ++ (n ++ 34 ∷ (b ++ (d ++ 34 ∷ (c ++ (n ++ 34 ∷ (e ++ (ps ++ (f ++ rest))))))))
regroup_object a n b d c e ps f rest = simp append_assoc

-- an object's text, and what follows
pub object_grouped : (o : FirstObject) (rest : List ℕ) → object_text o ++ rest ≡ start_text o.name (length o.properties + 2) (flat_map property_text o.properties ++ (object_end ++ rest))
object_grouped o rest =
    regroup_object object_mark o.name properties_mark (decimal (length o.properties + 2)) label_mark engine (flat_map property_text o.properties) object_end rest

-- few enough properties for their count
abbrev pub IsCounted : FirstObject → Type 0
IsCounted o = length o.properties + 2 < 2 ^ 32

pub object_at-append : (o : FirstObject) (rest : List ℕ) → AllByRecursion IsFirstProperty o.properties → IsCounted o → object_at o.name (object_text o ++ rest) ≡ Some (o, rest)
unfolding object_at
object_at-append o rest all counted =
    let n : ℕ = length o.properties in
    let t2 : List ℕ = object_end ++ rest in
    let t1 : List ℕ = flat_map property_text o.properties ++ t2 in
    ap (object_at o.name) (object_grouped o rest)
    ∙ goes (start_at o.name (start_text o.name (n + 2) t1)) _ (n, t1) _ (start_at-append o.name n t1 counted)
    (goes (each (λ _. property_at) (numbers 1 n) t1) _ (o.properties, t2) _ (properties-append 1 o.properties t2 all)
    (goes (after object_end t2) _ rest _ (after-append object_end rest) refl))

-- the object stands at the front
pub record HasObject (name text : List ℕ) (x : FirstObject × List ℕ) : Type 0 where
  pub stands : text ≡ object_text x.0 ++ x.1
  pub named : x.0.name ≡ name
  pub all : AllByRecursion IsFirstProperty x.0.properties

pub object_at_some : (name text : List ℕ) (x : FirstObject × List ℕ) → object_at name text ≡ Some x → HasObject name text x
unfolding object_at
object_at_some name text x e =
    let start = then_some (start_at name text) _ x e in
    let properties = then_some (each (λ _. property_at) (numbers 1 start.0.0) start.0.1) _ x start.2 in
    let rest = then_some (after object_end properties.0.1) _ x properties.2 in
    let o : FirstObject = record { name = name; properties = properties.0.0 } in
    let has = properties_some 1 start.0.0 start.0.1 properties.0 properties.1 in
    let stands : text ≡ object_text o ++ rest.0 =
    start_at_some name text start.0 start.1
    ∙ ap (λ (k : ℕ). start_text name (k + 2) start.0.1) (sym has.count)
    ∙ ap (start_text name (length properties.0.0 + 2)) (has.stands ∙ ap (λ t. flat_map property_text properties.0.0 ++ t) (after_some object_end properties.0.1 rest.0 rest.1))
    ∙ sym (object_grouped o rest.0) in
    subst (HasObject name text) (some_is (o, rest.0) x rest.2) (record { stands = stands; named = refl; all = has.all })

-- ---- the objects

abbrev pub name_of : FirstObject → List ℕ
name_of o = o.name

pub objects-append : (os : List FirstObject) (rest : List ℕ) → AllByRecursion IsFirstObject os → AllByRecursion IsCounted os
    → each object_at (map name_of os) (flat_map object_text os ++ rest) ≡ Some (os, rest)
unfolding each
objects-append [] rest all counted = refl
objects-append (o ∷ os) rest all counted =
    let tail : List ℕ = flat_map object_text os ++ rest in
    ap (each object_at (o.name ∷ map name_of os)) (ap (λ t. t ++ rest) (flat_map-cons object_text o os) ∙ append_assoc (object_text o) (flat_map object_text os) rest)
    ∙ goes (object_at o.name (object_text o ++ tail)) _ (o, tail) _ (object_at-append o tail all.0.1 counted.0)
    (goes (each object_at (map name_of os) tail) _ (os, rest) _ (objects-append os rest all.1 counted.1) refl)

-- the objects stand at the front, with the names
pub record HasObjects (names : List (List ℕ)) (text : List ℕ) (x : List FirstObject × List ℕ) : Type 0 where
  pub stands : text ≡ flat_map object_text x.0 ++ x.1
  pub named : map name_of x.0 ≡ names
  pub all : AllByRecursion IsFirstObject x.0

pub objects_some : (names : List (List ℕ)) (text : List ℕ) (x : List FirstObject × List ℕ) → AllByRecursion (λ n. is_name n ≡ true) names
    → each object_at names text ≡ Some x → HasObjects names text x
unfolding each
objects_some [] text x are e = subst (HasObjects [] text) (some_is ([], text) x e) (record { stands = refl; named = refl; all = tt })
objects_some (name ∷ names) text x are e =
    let o = then_some (object_at name text) _ x e in
    let more = then_some (each object_at names o.0.1) _ x o.2 in
    let front = object_at_some name text o.0 o.1 in
    let tail = objects_some names o.0.1 more.0 are.1 more.1 in
    let stands : text ≡ flat_map object_text (o.0.0 ∷ more.0.0) ++ more.0.1 =
    front.stands ∙ ap (λ t. object_text o.0.0 ++ t) tail.stands ∙ sym (append_assoc (object_text o.0.0) (flat_map object_text more.0.0) more.0.1)
    ∙ ap (λ t. t ++ more.0.1) (sym (flat_map-cons object_text o.0.0 more.0.0)) in
    let name_is : is_name o.0.0.name ≡ true = ap is_name front.named ∙ are.0 in
    let named : o.0.0.name ∷ map name_of more.0.0 ≡ name ∷ names = ap (λ n. n ∷ map name_of more.0.0) front.named ∙ ap (λ ns. name ∷ ns) tail.named in
    subst (HasObjects (name ∷ names) text) (some_is (o.0.0 ∷ more.0.0, more.0.1) x more.2) (record { stands = stands; named = named; all = ((name_is, front.all), tail.all) })
