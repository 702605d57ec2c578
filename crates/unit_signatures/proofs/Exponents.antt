-- A test of each element of a list, element by element.
use Rattle.std.proofs.Common.{◌≡◌, ℕ, zero, suc, ◌+◌, ◌<◌, ◌≤◌, Bool, true, false, ◌&&◌, ℤ, pos, negsuc, ◌+ℤ◌, ◌-ℤ◌, ◌*ℤ◌, List, [], ◌∷◌, ◌++◌, length, take, get_or, set, map, refl, ap, sym, ◌∙◌, to_z, of_z, FitsSigned, rules, arith}
use Rattle.std.specs.List.{list_all, zip}
use Rattle.std.proofs.lemmas.Bool.Decides.{nat_tests}
use Rattle.std.proofs.lemmas.Int.{to_z-of_z, fits_signed_mul}
use Rattle.std.proofs.lemmas.List.{take_all, take_more, take_more_set}
use Rattle.std.proofs.lemmas.List.Edits.{fill_by_more}
use Rattle.std.specs.Int.{w8, w16}
use lib.Signed.{mag, nat_abs-le}
use Rattle.unit_signatures.specs.Units.{is_exponent}

pub list_all-false : {A : Type 0} (p : A → Bool) (xs : List A) (i : ℕ) (d : A) → i < length xs → p (get_or xs i d) ≡ false → list_all p xs ≡ false
list_all-false p [] i d h e = absurd (omega arith)
list_all-false p (x ∷ xs) zero d h e = rw e refl
list_all-false p (x ∷ xs) (suc i) d h e =
    elim (p x) as (λ b. b && list_all p xs ≡ false) [ true ↦ list_all-false p xs i d (omega arith) e | false ↦ refl ]

pub list_all-more : {A : Type 0} (p : A → Bool) (xs : List A) (i : ℕ) (d : A) → i < length xs → list_all p (take i xs) ≡ true
    → p (get_or xs i d) ≡ true → list_all p (take (suc i) xs) ≡ true
list_all-more p [] i d h before e = refl
list_all-more p (x ∷ xs) zero d h before e = rw e refl
list_all-more p (x ∷ xs) (suc i) d h before e =
    elim (p x) as (λ b. b && list_all p (take i xs) ≡ true → b && list_all p (take (suc i) xs) ≡ true)
    [ true ↦ λ rest. list_all-more p xs i d (omega arith) rest e | false ↦ λ rest. rest ] before

-- an exponent fits eight bits, and sixteen
pub exponent_fits : (e : ℤ) → is_exponent e ≡ true → mag e < 8
exponent_fits (pos n) h = grind (arith, nat_tests)
exponent_fits (negsuc n) h = grind (arith, nat_tests)

-- one more element taken over
pub taken-more : (wide narrow : List ℤ) (i : ℕ) (v : ℤ) → i < length wide → i < length narrow → take i narrow ≡ take i wide
    → v ≡ get_or wide i (pos 0) → take (i + 1) (set narrow i v) ≡ take (i + 1) wide
taken-more wide narrow i v h k before e =
    take_more_set narrow i v k ∙ ap (λ t. t ++ v ∷ []) before ∙ ap (λ x. take i wide ++ x ∷ []) e ∙ sym (take_more wide i (pos 0) h)

-- all elements taken over
pub taken-all : {A : Type 0} (wide narrow : List A) (i : ℕ) → length wide ≤ i → length narrow ≤ i → take i narrow ≡ take i wide → narrow ≡ wide
taken-all wide narrow i h k same = sym (take_all i narrow k) ∙ same ∙ take_all i wide h

-- an exponent that passes the test is the same in eight bits
pub narrowed : (e : ℤ) → FitsSigned w16 e → is_exponent (to_z w16 (of_z w16 e)) ≡ true
    → (to_z w8 (of_z w8 (to_z w16 (of_z w16 e))) ≡ e) × (is_exponent e ≡ true)
narrowed e wide h =
    let same : to_z w16 (of_z w16 e) ≡ e = to_z-of_z w16 e wide in
    let passes : is_exponent e ≡ true = ap is_exponent (sym same) ∙ h in
    let small = exponent_fits e passes in
    (ap (λ z. to_z w8 (of_z w8 z)) same ∙ to_z-of_z w8 e (record { sfits = omega (arith, small) }), passes)

-- a list that has at each place what two others give there is the list of these values
pub zipped : (f : ℤ → ℤ → ℤ) (us vs ws : List ℤ) → length us ≡ length ws → length vs ≡ length ws
    → ((k : ℕ) → k < length ws → get_or ws k (pos 0) ≡ f (get_or us k (pos 0)) (get_or vs k (pos 0)))
    → ws ≡ map (λ p. f p.0 p.1) (zip us vs)
zipped f [] [] [] h k each = refl
zipped f [] [] (w ∷ ws) h k each = absurd (omega arith)
zipped f [] (v ∷ vs) [] h k each = refl
zipped f [] (v ∷ vs) (w ∷ ws) h k each = absurd (omega arith)
zipped f (u ∷ us) [] ws h k each = absurd (omega arith)
zipped f (u ∷ us) (v ∷ vs) [] h k each = absurd (omega arith)
zipped f (u ∷ us) (v ∷ vs) (w ∷ ws) h k each =
    let rest : ws ≡ map (λ p. f p.0 p.1) (zip us vs) = zipped f us vs ws (omega arith) (omega arith) (λ j below. each (suc j) (omega arith)) in
    let first : w ≡ f u v = each 0 (omega arith) in
    cc

-- and so for one other
pub mapped : (f : ℤ → ℤ) (us ws : List ℤ) → length us ≡ length ws
    → ((k : ℕ) → k < length ws → get_or ws k (pos 0) ≡ f (get_or us k (pos 0))) → ws ≡ map f us
mapped f [] [] h each = refl
mapped f [] (w ∷ ws) h each = absurd (omega arith)
mapped f (u ∷ us) [] h each = absurd (omega arith)
mapped f (u ∷ us) (w ∷ ws) h each =
    let rest : ws ≡ map f us = mapped f us ws (omega arith) (λ j below. each (suc j) (omega arith)) in
    let first : w ≡ f u = each 0 (omega arith) in
    cc

widened : (a r : ℤ) → FitsSigned w8 a → r ≡ to_z w8 (of_z w8 a) → to_z w16 (of_z w16 r) ≡ a
widened a r fits e =
    ap (λ z. to_z w16 (of_z w16 z)) (e ∙ to_z-of_z w8 a fits) ∙ to_z-of_z w16 a (record { sfits = omega (arith, fits.sfits) })

-- what is calculated in sixteen bits from two exponents of eight
pub calculated : (f : ℤ → ℤ → ℤ) (a b r s : ℤ) → FitsSigned w8 a → FitsSigned w8 b → FitsSigned w16 (f a b)
    → r ≡ to_z w8 (of_z w8 a) → s ≡ to_z w8 (of_z w8 b)
    → to_z w16 (of_z w16 (f (to_z w16 (of_z w16 r)) (to_z w16 (of_z w16 s)))) ≡ f a b
calculated f a b r s fits_a fits_b fits e h =
    ap (λ z. to_z w16 (of_z w16 (f z (to_z w16 (of_z w16 s))))) (widened a r fits_a e)
    ∙ ap (λ z. to_z w16 (of_z w16 (f a z))) (widened b s fits_b h) ∙ to_z-of_z w16 (f a b) fits

pub sum_fits : (a b : ℤ) → FitsSigned w8 a → FitsSigned w8 b → FitsSigned w16 (a +ℤ b)
sum_fits a b fits_a fits_b = search rules

pub difference_fits : (a b : ℤ) → FitsSigned w8 a → FitsSigned w8 b → FitsSigned w16 (a -ℤ b)
difference_fits a b fits_a fits_b = search rules

pub product_fits : (a b : ℤ) → FitsSigned w8 a → FitsSigned w8 b → FitsSigned w16 (a *ℤ b)
product_fits a b fits_a fits_b =
    fits_signed_mul w16 a b 128 128 (nat_abs-le a fits_a.sfits) (nat_abs-le b fits_b.sfits) (omega arith)

-- one more place is filled
pub filled-more : (F : ℕ → ℤ) (ws : List ℤ) (i : ℕ) (v : ℤ) → i < length ws → v ≡ F i
    → ((k : ℕ) → k < i → get_or ws k (pos 0) ≡ F k) → (k : ℕ) → k < i + 1 → get_or (set ws i v) k (pos 0) ≡ F k
filled-more F ws i v within e before k below =
    ap (λ x. get_or (set ws i x) k (pos 0)) e ∙ fill_by_more F ws i (pos 0) within before k below

list_all-at : {A : Type 0} (p : A → Bool) (xs : List A) (i : ℕ) (d : A) → list_all p xs ≡ true → p d ≡ true → p (get_or xs i d) ≡ true
list_all-at p [] i d all e = e
list_all-at p (x ∷ xs) zero d all e =
    elim (p x) as (λ b. b && list_all p xs ≡ true → b ≡ true) [ true ↦ λ h. refl | false ↦ λ h. h ] all
list_all-at p (x ∷ xs) (suc i) d all e =
    list_all-at p xs i d (elim (p x) as (λ b. b && list_all p xs ≡ true → list_all p xs ≡ true) [ true ↦ λ h. h | false ↦ λ h. absurd (cc) ] all) e

-- an exponent of a unit fits eight bits
pub exponent-at : (es : List ℤ) (i : ℕ) → list_all is_exponent es ≡ true → to_z w8 (of_z w8 (get_or es i (pos 0))) ≡ get_or es i (pos 0)
exponent-at es i all =
    let e : ℤ = get_or es i (pos 0) in
    let small = exponent_fits e (list_all-at is_exponent es i (pos 0) all refl) in
    to_z-of_z w8 e (record { sfits = omega (arith, small) })
