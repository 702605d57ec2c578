-- Reading a list step by step, as a loop does.
use Rattle.std.proofs.Common.{◌≡◌, ℕ, suc, ◌+◌, ◌-◌, ◌<◌, List, [], ◌∷◌, ◌++◌, length, drop, drop-cons, get_or, add-one, Option, None, Some, refl, sym, ap, ◌∙◌, append_assoc, append-nil, arith}
use Rattle.std.specs.Prelude.{⊤}
use Rattle.fcdoc_file.specs.declared.fault.FormFault.{FormFault}
use Rattle.fcdoc_file.specs.declared.fault.FormFault.TheVariants.{NotBuilt, Memory}
use Rattle.fcxml_profile.specs.Fronts.{◌>>=◌}
use Rattle.fcdoc_file.specs.Cursor.{each, numbers}

-- what was read so far, before what is read next
abbrev pub with_front : {A : Type 0} → List A → Option (List A × List ℕ) → Option (List A × List ℕ)
with_front front None = None
with_front front (Some x) = Some (front ++ x.0, x.1)

-- NotBuilt says that there is nothing
abbrev pub Fails : {Y : Type 0} → FormFault → Option Y → Type 0
Fails NotBuilt there = there ≡ None
Fails (Memory e) there = ⊤

module _ {K A : Type 0} (step : K → List ℕ → Option (A × List ℕ)) where
  regroup : (front : List A) (a : A) (read : Option (List A × List ℕ)) → with_front front (read >>= λ x. Some (a ∷ x.0, x.1)) ≡ with_front (front ++ a ∷ []) read
  regroup front a None = refl
  regroup front a (Some x) = ap (λ (xs : List A). Some (xs, x.1)) (sym (append_assoc front (a ∷ []) x.0))

  -- one more was read
  pub goes_on : (front : List A) (key : K) (keys : List K) (text : List ℕ) (a : A) (rest : List ℕ) (all : Option (List A × List ℕ))
      → step key text ≡ Some (a, rest) → with_front front (each step (key ∷ keys) text) ≡ all → with_front (front ++ a ∷ []) (each step keys rest) ≡ all
  unfolding each
  goes_on front key keys text a rest all found so_far = sym (regroup front a (each step keys rest)) ∙ rw found at so_far

  -- nothing more can be read
  pub ends : (e : FormFault) (front : List A) (key : K) (keys : List K) (text : List ℕ) (all : Option (List A × List ℕ))
      → Fails e (step key text) → with_front front (each step (key ∷ keys) text) ≡ all → Fails e all
  unfolding each
  ends NotBuilt front key keys text all fails so_far = sym so_far ∙ rw fails refl
  ends (Memory e) front key keys text all fails so_far = tt

  -- all was read
  pub is_done : (front : List A) (text : List ℕ) (all : Option (List A × List ℕ)) → with_front front (each step [] text) ≡ all → all ≡ Some (front, text)
  unfolding each
  is_done front text all so_far = sym so_far ∙ ap (λ (xs : List A). Some (xs, text)) (append-nil front)

-- the numbers that are left
pub numbers_left : (first count i : ℕ) → i < count → numbers (first + i) (count - i) ≡ (first + i) ∷ numbers (first + (i + 1)) (count - (i + 1))
numbers_left first count i below =
    let k : count - i ≡ suc (count - (i + 1)) = omega arith in
    let next : (first + i) + 1 ≡ first + (i + 1) = omega arith in
    rw (k, next) refl

-- the keys that are left begin with a copy of this one
pub keys_left : {K : Type 0} (keys : List K) (i : ℕ) (key copied : K) → i < length keys → key ≡ get_or keys i key → copied ≡ key
    → drop i keys ≡ copied ∷ drop (i + 1) keys
keys_left keys i key copied below is same = rw (add-one) (drop-cons keys i key below ∙ ap (λ k. k ∷ drop (suc i) keys) (sym is ∙ sym same))
