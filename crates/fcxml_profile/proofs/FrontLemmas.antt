-- What stands at the front of a text is found there, and where a text may be cut.
use Rattle.std.proofs.Common.{◌≡◌, ◌≢◌, ◌<◌, ◌≤◌, ℕ, zero, suc, true, false, cond, List, [], ◌∷◌, ◌++◌, length, drop, Option, None, Some, refl, sym, ap, ◌∙◌, subst, arith, eqb, leb, ◌||◌, get_or, inl, inr}
use Rattle.std.specs.Option.{MatchOption, option_map}
use Rattle.std.specs.Borrow.{Bor}
use Rattle.std.specs.List.{AllByRecursion, prefix_len}
use Rattle.std.specs.Str.{IsUtf8, IsCharBoundary}
use Rattle.std.specs.Str.Pattern.{LacksTextAt, FindsTextPrefix, StripsPrefix}
use Rattle.std.proofs.lemmas.Bool.{eqb-true, eq-eqb, or_cases, or_parts, leb-false}
use Rattle.std.proofs.lemmas.List.Sums.{prefix_len-le-length, prefix_len_passes, prefix_len_stops}
use Rattle.std.specs.Char.{is_ascii_alphabetic, is_ascii_digit}
use Rattle.std.proofs.lemmas.Bool.Decides.{eqb_tells}
use Rattle.std.proofs.lemmas.Str.{IsCharBoundary-start, IsCharBoundary-after_ascii}
use Rattle.std.proofs.lemmas.Str.Pattern.{IsSplitOnceResult, split_parts}
use Rattle.fcxml_profile.specs.Fronts.{is_blank, begins_name, continues_name, name_length, after, behind, split_at}

-- ---- a literal in front

pub after-append : (literal rest : List ℕ) → after literal (literal ++ rest) ≡ Some rest
unfolding after
after-append [] rest = refl
after-append (c ∷ cs) rest = rw (eq-eqb c c refl) (after-append cs rest)

pub after_some : (literal text rest : List ℕ) → after literal text ≡ Some rest → text ≡ literal ++ rest
unfolding after
after_some [] text rest e = cc
after_some (c ∷ cs) [] rest e = absurd (cc)
after_some (c ∷ cs) (b ∷ bs) rest e =
    elim (eqb c b) as (λ t. eqb c b ≡ t → cond t (after cs bs) None ≡ Some rest → (b ∷ bs) ≡ (c ∷ cs) ++ rest) [
      | true ↦ λ same found. let tail = after_some cs bs rest found in let head = eqb-true c b same in cc
      | false ↦ λ other found. absurd (cc)
    ] refl e

-- a literal that does not stand in front is not found
pub after_none : (literal text : List ℕ) → ((rest : List ℕ) → text ≢ literal ++ rest) → after literal text ≡ None
after_none literal text lacks =
    elim (after literal text) as (λ a. after literal text ≡ a → a ≡ None) [
      | None ↦ λ _. refl
      | Some rest ↦ λ found. absurd (lacks rest (after_some literal text rest found))
    ] refl

-- what `strip_prefix` answers at a text
pub after-strips : (literal text : List ℕ) (r : Option (Bor (List ℕ)))
    → MatchOption r (FindsTextPrefix literal text None) (λ x. StripsPrefix (FindsTextPrefix literal) text x.now)
    → option_map (λ x. x.now) r ≡ after literal text
after-strips literal text None lacks = sym (after_none literal text lacks)
after-strips literal text (Some x) found =
    let stands : text ≡ literal ++ x.now = found.1.1 ∙ ap (λ t. literal ++ t) (sym found.2) in
    rw stands (sym (after-append literal x.now))

-- ---- the first place of a literal

pub behind-first : (literal text rest : List ℕ) (i : ℕ) → ((k : ℕ) → k < i → LacksTextAt literal text k) → drop i text ≡ literal ++ rest → behind literal text ≡ Some rest
unfolding behind
behind-first literal [] rest zero lacks stands = subst (λ t. after literal t ≡ Some rest) (sym stands) (after-append literal rest)
behind-first literal [] rest (suc i) lacks stands = subst (λ t. after literal t ≡ Some rest) (sym stands) (after-append literal rest)
behind-first literal (c ∷ cs) rest zero lacks stands =
    let found : after literal (c ∷ cs) ≡ Some rest = subst (λ t. after literal t ≡ Some rest) (sym stands) (after-append literal rest) in
    rw found refl
behind-first literal (c ∷ cs) rest (suc i) lacks stands =
    rw (after_none literal (c ∷ cs) (lacks 0 (omega arith))) (behind-first literal cs rest i (λ k below. lacks (suc k) (omega arith)) stands)

pub behind-none : (literal text : List ℕ) → ((k : ℕ) → k ≤ length text → LacksTextAt literal text k) → behind literal text ≡ None
unfolding behind
behind-none literal [] lacks = after_none literal [] (lacks 0 (omega arith))
behind-none literal (c ∷ cs) lacks =
    rw (after_none literal (c ∷ cs) (lacks 0 (omega arith))) (behind-none literal cs (λ k below. lacks (suc k) (omega arith)))

-- ---- the first of a byte

-- the byte does not stand in the text
abbrev pub IsWithout : ℕ → List ℕ → Type 0
IsWithout byte text = AllByRecursion (λ b. eqb b byte ≡ false) text

pub split_at-append : (byte : ℕ) (front rest : List ℕ) → IsWithout byte front → split_at byte (front ++ byte ∷ rest) ≡ Some (front, rest)
unfolding split_at
split_at-append byte [] rest none = rw (eq-eqb byte byte refl) refl
split_at-append byte (b ∷ bs) rest none = rw (none.0, split_at-append byte bs rest none.1)

pub split_at-none : (byte : ℕ) (text : List ℕ) → IsWithout byte text → split_at byte text ≡ None
unfolding split_at
split_at-none byte [] none = refl
split_at-none byte (b ∷ bs) none = rw (none.0, split_at-none byte bs none.1)

is_without : (byte : ℕ) (text : List ℕ) → ((i : ℕ) → i < length text → get_or text i 0 ≢ byte) → IsWithout byte text
is_without byte [] h = tt
is_without byte (b ∷ bs) h = (elim (eqb_tells b byte) [ inl p ↦ absurd (h 0 (omega arith) p.1) | inr p ↦ p.0 ], is_without byte bs (λ i below. h (suc i) (omega arith)))

-- what `split_once` answers at an ASCII character
pub split_at-splits : (byte : ℕ) (text : List ℕ) (r : Option (Bor (List ℕ) × Bor (List ℕ))) → byte < 128 → IsSplitOnceResult byte text r
    → option_map (λ x. (x.0.now, x.1.now)) r ≡ split_at byte text
split_at-splits byte text None ascii cut = sym (split_at-none byte text (is_without byte text (split_parts byte text None cut ascii)))
split_at-splits byte text (Some x) ascii cut =
    let parts = split_parts byte text (Some x) cut ascii in
    rw parts.0 (sym (split_at-append byte x.0.now x.1.now (is_without byte x.0.now parts.1)))

-- ---- where a text may be cut

blank_ascii : (c : ℕ) → is_blank c ≡ true → c < 128
blank_ascii c e = elim (or_cases (eqb c 32 || eqb c 9 || eqb c 10) (eqb c 13) e) [
  | inr last ↦ let same = eqb-true c 13 last in omega arith
  | inl more ↦ elim (or_cases (eqb c 32 || eqb c 9) (eqb c 10) more) [
    | inr third ↦ let same = eqb-true c 10 third in omega arith
    | inl two ↦ elim (or_cases (eqb c 32) (eqb c 9) two) [
      | inl first ↦ let same = eqb-true c 32 first in omega arith
      | inr second ↦ let same = eqb-true c 9 second in omega arith
    ]
  ]
]

-- behind the blanks in front
pub cut-blanks : (text : List ℕ) → IsUtf8 text → IsCharBoundary text (prefix_len is_blank text)
cut-blanks text utf8 =
    elim (prefix_len is_blank text) as (λ n. prefix_len is_blank text ≡ n → IsCharBoundary text n) [
      | zero ↦ λ _. IsCharBoundary-start text utf8
      | suc m ↦ λ e.
          let most = prefix_len-le-length is_blank text in
          let blank = prefix_len_passes is_blank text m 0 (omega arith) in
          subst (IsCharBoundary text) (omega arith) (IsCharBoundary-after_ascii text m utf8 (omega arith) (blank_ascii (get_or text m 0) blank))
    ] refl

other_ascii : (c : ℕ) → continues_name c ≡ false → c < 128
other_ascii c e =
    let a = or_parts (begins_name c || is_ascii_digit c || eqb c 46) (eqb c 45) e in
    let b = or_parts (begins_name c || is_ascii_digit c) (eqb c 46) a.0 in
    let d = or_parts (begins_name c) (is_ascii_digit c) b.0 in
    let f = or_parts (is_ascii_alphabetic c || eqb c 95 || eqb c 58) (leb 128 c) d.0 in
    leb-false 128 c f.1

-- a name ends before an ASCII byte, or at the end
pub cut-name : (text : List ℕ) → IsUtf8 text → IsCharBoundary text (name_length text)
cut-name [] utf8 = IsCharBoundary-start [] utf8
cut-name (c ∷ cs) utf8 =
    elim (begins_name c) as (λ b. begins_name c ≡ b → IsCharBoundary (c ∷ cs) (cond b (suc (prefix_len continues_name cs)) 0)) [
      | true ↦ λ _.
          let most = prefix_len-le-length continues_name cs in (
            omega arith,
            λ within above.
                let ascii = other_ascii (get_or cs (prefix_len continues_name cs) 0) (prefix_len_stops continues_name cs 0 (omega arith)) in
                absurd (omega arith),
          )
      | false ↦ λ _. IsCharBoundary-start (c ∷ cs) utf8
    ] refl
