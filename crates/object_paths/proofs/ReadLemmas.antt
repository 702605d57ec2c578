-- The marks of a label, found by their bytes.
use Rattle.std.proofs.Common.{◌≡◌, ℕ, zero, suc, ◌+◌, ◌<◌, ◌≤◌, List, [], ◌∷◌, true, false, cond, ◌&&◌, ◌==◌, length, take, drop, Option, Some, None, Bor, refl, sym, ap, ◌∙◌, arith}
use Rattle.std.specs.Option.{MatchOption, option_map, option_copied}
use Rattle.std.specs.Str.Pattern.{LacksTextAt, FindsText, FindsTextPrefix}
use Rattle.std.proofs.lemmas.Bool.{and_parts, eqb-true}
use Rattle.std.proofs.lemmas.List.{length-drop}
use Rattle.std.specs.Prelude.{Result, Ok, Err, IfOk, IsErrOf}
use Rattle.object_paths.specs.declared.reading.PathFault.{PathFault}
use Rattle.object_paths.specs.declared.reading.PathFault.TheVariants.{BadPath, Memory}
use Rattle.object_paths.specs.PathParts.{opened, until_closing}
use Rattle.object_paths.specs.Read.{Reads}

-- two bytes that are both the mark
both : (c a b : ℕ) → ((a == c) && (b == c)) ≡ true → (rest : List ℕ) → a ∷ b ∷ rest ≡ c ∷ c ∷ rest
both c a b h rest =
    let parts = and_parts (a == c) (b == c) h in
    λ i. eqb-true a c parts.0 i ∷ eqb-true b c parts.1 i ∷ rest

opened-none : (s : List ℕ) → LacksTextAt (60 ∷ 60 ∷ []) s 0 → opened s ≡ None
opened-none [] lacks = refl
opened-none (a ∷ []) lacks = refl
opened-none (a ∷ b ∷ rest) lacks =
    elim ((a == 60) && (b == 60)) as (λ t. ((a == 60) && (b == 60)) ≡ t → cond t (Some rest) None ≡ None)
    [ true ↦ λ e. absurd (lacks rest (both 60 a b e rest)) | false ↦ λ _. refl ] refl

pub opened-by : (s : List ℕ) (r : Option (Bor (List ℕ))) → MatchOption r (LacksTextAt (60 ∷ 60 ∷ []) s 0)
    (λ x. (n : ℕ) × FindsTextPrefix (60 ∷ 60 ∷ []) s (Some n) × (x.now ≡ drop n s) × (length x.now + n ≡ length s)) → option_copied r ≡ opened s
opened-by s None h = sym (opened-none s h)
opened-by s (Some x) h =
    ap (λ t. Some t) h.2 ∙ sym (ap opened h.1.1)

until_closing-none : (s : List ℕ) → ((i : ℕ) → i ≤ length s → LacksTextAt (62 ∷ 62 ∷ []) s i) → until_closing s ≡ None
until_closing-none [] lacks = refl
until_closing-none (a ∷ []) lacks = refl
until_closing-none (a ∷ b ∷ rest) lacks =
    elim ((a == 62) && (b == 62)) as (λ t. ((a == 62) && (b == 62)) ≡ t → cond {A = Option (List ℕ × List ℕ)} t (Some ([], rest)) (option_map (λ p. (a ∷ p.0, p.1)) (until_closing (b ∷ rest))) ≡ None) [
      | true ↦ λ e. absurd (lacks 0 (omega arith) rest (both 62 a b e rest))
      | false ↦ λ _. ap (option_map (λ (p : List ℕ × List ℕ). (a ∷ p.0, p.1))) (until_closing-none (b ∷ rest) (λ i le r e. lacks (suc i) (omega arith) r e))
    ] refl

until_closing-at : (i : ℕ) (s : List ℕ) → ((k : ℕ) → k < i → LacksTextAt (62 ∷ 62 ∷ []) s k) → drop i s ≡ 62 ∷ 62 ∷ drop (suc (suc i)) s → until_closing s ≡ Some (take i s, drop (suc (suc i)) s)
until_closing-at zero s lacks found = ap until_closing found
until_closing-at (suc i) [] lacks found = absurd (cc)
until_closing-at (suc i) (a ∷ []) lacks found = absurd (omega (arith, ap length found, length-drop {A = ℕ} i []))
until_closing-at (suc i) (a ∷ b ∷ rest) lacks found =
    elim ((a == 62) && (b == 62)) as (λ t. ((a == 62) && (b == 62)) ≡ t → cond {A = Option (List ℕ × List ℕ)} t (Some ([], rest)) (option_map (λ p. (a ∷ p.0, p.1)) (until_closing (b ∷ rest))) ≡ Some (a ∷ take i (b ∷ rest), drop (suc (suc i)) (b ∷ rest))) [
      | true ↦ λ e. absurd (lacks 0 (omega arith) rest (both 62 a b e rest))
      | false ↦ λ _. ap (option_map (λ (p : List ℕ × List ℕ). (a ∷ p.0, p.1))) (until_closing-at i (b ∷ rest) (λ k lt r e. lacks (suc k) (omega arith) r e) found)
    ] refl

pub until_closing-by : (s : List ℕ) (r : Option (Bor (List ℕ) × Bor (List ℕ))) → MatchOption r (FindsText (62 ∷ 62 ∷ []) s None)
    (λ x. (i : ℕ) × (j : ℕ) × FindsText (62 ∷ 62 ∷ []) s (Some (i, j)) × (x.0.now ≡ take i s) × (x.1.now ≡ drop j s) × (i ≤ j) × (length x.0.now ≡ i) × (length x.1.now + j ≡ length s))
    → MatchOption r (until_closing s ≡ None) (λ x. until_closing s ≡ Some (x.0.now, x.1.now))
until_closing-by s None h = until_closing-none s h
until_closing-by s (Some x) h =
    let end : h.1 ≡ suc (suc h.0) = omega (arith, h.2.1.ends) in
    until_closing-at h.0 s h.2.0 (h.2.1.split ∙ ap (λ j. 62 ∷ 62 ∷ drop j s) end)
    ∙ (λ i. Some (sym h.3 i, (ap (λ j. drop j s) (sym end) ∙ sym h.4) i))

-- what a reader's answer says at Ok and at BadPath
pub Reads-found : {T : Type 0} (r : Result T PathFault) (expected : Option T) → Reads r expected → IfOk r (λ x. expected ≡ Some x)
Reads-found (Ok x) expected h = h
Reads-found (Err e) expected h = tt

pub Reads-refused : {T : Type 0} (r : Result T PathFault) (expected : Option T) → Reads r expected → IsErrOf r BadPath → expected ≡ None
Reads-refused (Ok x) expected h refused = absurd (cc)
Reads-refused (Err BadPath) expected h refused = h
Reads-refused (Err (Memory e)) expected h refused = absurd (cc)
