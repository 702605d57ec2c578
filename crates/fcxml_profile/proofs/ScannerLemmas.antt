-- How a scanner begins.
use Rattle.std.proofs.Common.{◌≡◌, ◌⊎◌, ◌<◌, ◌≤◌, ◌-◌, ℕ, suc, true, false, cond, not, ◌&&◌, List, [], ◌∷◌, ◌++◌, length, take, Option, None, Some, inl, inr, refl, sym, ap, ◌∙◌, subst, arith}
use Rattle.std.specs.Option.{IfNone}
use Rattle.std.specs.List.{position_or_len}
use Rattle.std.specs.Str.{IsUtf8}
use Rattle.std.proofs.lemmas.Bool.{eq-eqb, lt-ltb, ltb-false, le-ltb}
use Rattle.std.proofs.lemmas.List.{length-append, length-take}
use Rattle.std.proofs.lemmas.Str.{utf8_valid_len-IsUtf8}
use Rattle.fcxml_profile.specs.Items.{Item, declaration, comment, opening, closing, run, items_at}
use Rattle.fcxml_profile.specs.Standing.{Standing, at_start, has_open, is_innermost, outer, may_stand, behind_item, standing, behind_items, rest_behind}
use Rattle.fcxml_profile.specs.Faults.{is_forbidden, character_fault, fault_at, fault_behind}
use Rattle.fcxml_profile.specs.Scanning.{Token, closed, tokens_of, token_of, items_standing, fault_of, examined, scan_of, scan_by, scan_of_text, without_mark}
use Rattle.fcxml_profile.specs.Answers.{CanTake}
use Rattle.fcxml_profile.specs.Reading.{closes, IsBalanced}
use Rattle.fcxml_profile.specs.declared.fault.XmlFault.{XmlFault}
use Rattle.fcxml_profile.specs.declared.fault.XmlCause.TheVariants.{Character}

-- ---- characters

pub control-found : (bytes : List ℕ) (k : ℕ) → IsUtf8 bytes → k ≡ position_or_len is_forbidden bytes → k < length bytes → character_fault bytes ≡ Some (record { place = k; cause = Character })
control-found bytes k utf8 is below =
    rw (utf8_valid_len-IsUtf8 bytes utf8, sym is, lt-ltb k (length bytes) below) refl

pub control-none : (bytes : List ℕ) → IsUtf8 bytes → length bytes ≤ position_or_len is_forbidden bytes → character_fault bytes ≡ None
control-none bytes utf8 past =
    rw (utf8_valid_len-IsUtf8 bytes utf8, le-ltb (position_or_len is_forbidden bytes) (length bytes) past, le-ltb (length bytes) (length bytes) (omega arith)) refl

-- a scanner that was not called has no tag to go on from
pub fresh : (bytes : List ℕ) → CanTake (scan_of bytes) → ⊥
unfolding scan_of
fresh bytes can = elim (character_fault bytes) as (λ f. CanTake (scan_by f bytes) → ⊥) [
  | None ↦ λ can'. nothing can'
  | Some fault ↦ λ can'. nothing can'
] can
  where
    nothing : (false ≡ true) ⊎ (false ≡ true) → ⊥
    nothing (inl e) = absurd (cc)
    nothing (inr e) = absurd (cc)

-- ---- the items that stand are the first ones

pub standing-take : (s : Standing) (found : List (Item × List ℕ)) → standing s found ≡ take (length (standing s found)) found
standing-take s [] = refl
standing-take s (f ∷ later) = elim (may_stand s f.0) as (λ b. cond b (f ∷ standing (behind_item s f.0) later) [] ≡ take (length (cond b (f ∷ standing (behind_item s f.0) later) [])) (f ∷ later)) [
  | true ↦ ap (λ fs. f ∷ fs) (standing-take (behind_item s f.0) later)
  | false ↦ refl
]

standing-le : (s : Standing) (found : List (Item × List ℕ)) → length (standing s found) ≤ length found
standing-le s [] = omega arith
standing-le s (f ∷ later) = elim (may_stand s f.0) as (λ b. length (cond b (f ∷ standing (behind_item s f.0) later) []) ≤ length (f ∷ later)) [
  | true ↦ omega (arith, standing-le (behind_item s f.0) later)
  | false ↦ omega arith
]

pub begins : (bytes rest : List ℕ) (count : ℕ) (fault : Option XmlFault) → character_fault bytes ≡ None → rest ≡ without_mark bytes → (count, fault) ≡ examined at_start (length bytes) rest
    → record { last = None; tokens = tokens_of (take count (items_at (length bytes) rest)); fault = fault; failed = false } ≡ scan_of bytes
unfolding scan_of
begins bytes rest count fault none is e =
    let n = length bytes in
    let size : count ≡ length (items_standing at_start n rest) = ap (λ p. p.0) e in
    let same : fault ≡ fault_of at_start n rest = ap (λ p. p.1) e in
    let first : tokens_of (take count (items_at n rest)) ≡ tokens_of (items_standing at_start n rest) =
    ap (λ k. tokens_of (take k (items_at n rest))) size ∙ ap tokens_of (sym (standing-take at_start (items_at n rest))) in
    let here : record { last = None; tokens = tokens_of (take count (items_at n rest)); fault = fault; failed = false } ≡ scan_of_text n rest =
    ap (λ ts. record { last = None; tokens = ts; fault = fault; failed = false }) first ∙ ap (λ f. record { last = None; tokens = tokens_of (items_standing at_start n rest); fault = f; failed = false }) same in
    here ∙ ap (scan_of_text n) is ∙ sym (ap (λ f. scan_by f bytes) none)

pub begins-whole : (bytes rest : List ℕ) (count : ℕ) (fault : Option XmlFault) → (count, fault) ≡ examined at_start (length bytes) rest → count ≤ length (items_at (length bytes) rest)
begins-whole bytes rest count fault e = let size = ap (λ p. p.0) e in omega (arith, standing-le at_start (items_at (length bytes) rest))

-- ---- where no fault comes, the items close what is open

innermost-some : (name : List ℕ) (names : List (List ℕ)) → is_innermost name names ≡ true → 0 < length names
innermost-some name [] e = absurd (cc)
innermost-some name (n ∷ names) e = omega arith

closed-item : (s : Standing) (item : Item) (tokens : List Token) → may_stand s item ≡ true → closes (length (behind_item s item).elements) tokens ≡ true → closes (length s.elements) (token_of item ++ tokens) ≡ true
closed-item s declaration tokens stands all = all
closed-item s comment tokens stands all = all
closed-item s (opening t) tokens stands all =
    elim t.empty as (λ b. closes (length (cond b s.elements (s.elements ++ t.name ∷ []))) tokens ≡ true → closes (cond b (length s.elements) (suc (length s.elements))) tokens ≡ true) [
      | true ↦ λ all'. all'
      | false ↦ λ all'. subst (λ d. closes d tokens ≡ true) (omega (arith, length-append s.elements (t.name ∷ []))) all'
    ] all
closed-item s (closing name end) tokens stands all =
    let some = innermost-some name s.elements stands in
    let rest : length (outer s.elements) ≡ length s.elements - 1 = omega (arith, length-take (length s.elements - 1) s.elements) in
    let same : suc (length s.elements - 1) ≡ length s.elements = omega arith in
    subst (λ d. closes d (closed end ∷ tokens) ≡ true) same (subst (λ d. closes d tokens ≡ true) rest all)
closed-item s (run text) tokens stands all = all

closed-nothing : (s : Standing) → has_open s.elements ≡ false → closes (length s.elements) [] ≡ true
closed-nothing s none = eq-eqb (length s.elements) 0 (let most = ltb-false 0 (length s.elements) none in omega arith)

closed-behind : (s : Standing) (found : List (Item × List ℕ)) → has_open (behind_items s (standing s found)).elements ≡ false → closes (length s.elements) (tokens_of (standing s found)) ≡ true
closed-behind s [] none = closed-nothing s none
closed-behind s (f ∷ later) none =
    elim (may_stand s f.0) as (λ b. may_stand s f.0 ≡ b → has_open (behind_items s (cond b (f ∷ standing (behind_item s f.0) later) [])).elements ≡ false
    → closes (length s.elements) (tokens_of (cond b (f ∷ standing (behind_item s f.0) later) [])) ≡ true) [
      | true ↦ λ stands none'. closed-item s f.0 (tokens_of (standing (behind_item s f.0) later)) stands (closed-behind (behind_item s f.0) later none')
      | false ↦ λ _ none'. closed-nothing s none'
    ] refl none

-- without a fault no element is open in the end
none-open : (s : Standing) (n : ℕ) (text : List ℕ) → fault_behind s n text ≡ None → has_open s.elements ≡ false
none-open s n [] e =
    elim (has_open s.elements) as (λ b. cond (s.rooted && not b) None (Some (fault_at s n [])) ≡ None → b ≡ false) [
      | true ↦ λ e'. elim s.rooted as (λ r. cond (r && false) None (Some (fault_at s n [])) ≡ None → true ≡ false) [ true ↦ λ f. absurd (cc) | false ↦ λ f. absurd (cc) ] e'
      | false ↦ λ _. refl
    ] e
none-open s n (c ∷ cs) e = absurd (cc)

pub begins-balanced : (bytes rest : List ℕ) (count : ℕ) (fault : Option XmlFault) → (count, fault) ≡ examined at_start (length bytes) rest
    → IsBalanced (record { last = None; tokens = tokens_of (take count (items_at (length bytes) rest)); fault = fault; failed = false })
begins-balanced bytes rest count fault e =
    let n = length bytes in
    let found = items_at n rest in
    let size : count ≡ length (items_standing at_start n rest) = ap (λ p. p.0) e in
    let same : fault ≡ fault_of at_start n rest = ap (λ p. p.1) e in
    let first : tokens_of (take count found) ≡ tokens_of (items_standing at_start n rest) =
    ap (λ k. tokens_of (take k found)) size ∙ ap tokens_of (sym (standing-take at_start found)) in
    record {
      depth = 0;
      closes = elim fault as (λ f. fault ≡ f → IfNone f (closes 0 (tokens_of (take count found)) ≡ true)) [
        | None ↦ λ none. ap (closes 0) first ∙ closed-behind at_start found (none-open (behind_items at_start (items_standing at_start n rest)) n (rest_behind rest (items_standing at_start n rest)) (sym same ∙ none))
        | Some x ↦ λ _. tt
      ] refl;
      inside = tt;
    }
