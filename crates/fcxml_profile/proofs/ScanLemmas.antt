-- The items of a text one after another, and what they leave.
use Rattle.std.proofs.Common.{◌≡◌, ◌≤◌, ℕ, zero, suc, true, false, cond, List, [], ◌∷◌, length, Option, None, Some, refl, ap, subst, arith}
use Rattle.fcxml_profile.specs.Items.{Item, item_at, items_within, items_at, and_later}
use Rattle.fcxml_profile.specs.Standing.{Standing, may_stand, behind_item, standing, standing_item}
use Rattle.fcxml_profile.specs.Faults.{fault_behind, misplaced}
use Rattle.fcxml_profile.specs.Told.{item_told}
use Rattle.fcxml_profile.specs.declared.items.Item as i
use Rattle.fcxml_profile.specs.declared.items.Item.TheVariants as it
use Rattle.fcxml_profile.specs.Scanning.{items_standing, examined}
use Rattle.fcxml_profile.proofs.Shorter.{item_at-shorter}

and_later-same : (found : Option (Item × List ℕ)) (f g : List ℕ → List (Item × List ℕ)) → ((x : Item × List ℕ) → found ≡ Some x → f x.1 ≡ g x.1) → and_later found f ≡ and_later found g
and_later-same None f g h = refl
and_later-same (Some x) f g h = ap (λ later. x ∷ later) (h x refl)

-- more items than there are bytes need not be looked for
items-enough : (k m n : ℕ) (text : List ℕ) → length text ≤ k → length text ≤ m → items_within k n text ≡ items_within m n text
unfolding items_within item_at
items-enough zero zero n text a b = refl
items-enough zero (suc m) n [] a b = refl
items-enough zero (suc m) n (c ∷ cs) a b = absurd (omega arith)
items-enough (suc k) zero n [] a b = refl
items-enough (suc k) zero n (c ∷ cs) a b = absurd (omega arith)
items-enough (suc k) (suc m) n text a b =
    and_later-same (item_at n text) (items_within k n) (items_within m n)
    (λ x e. let less = item_at-shorter n text x e in items-enough k m n x.1 (omega arith) (omega arith))

-- one item more
pub items-more : (n : ℕ) (text : List ℕ) (found : Item × List ℕ) → item_at n text ≡ Some found → items_at n text ≡ found ∷ items_at n found.1
unfolding items_within
items-more n [] found e = absurd (let less = item_at-shorter n [] found e in omega arith)
items-more n (c ∷ cs) found e =
    let less = item_at-shorter n (c ∷ cs) found e in
    rw e (ap (λ later. found ∷ later) (items-enough (length cs) (length found.1) n found.1 (omega arith) (omega arith)))

pub items-end : (n : ℕ) (text : List ℕ) → item_at n text ≡ None → items_at n text ≡ []
unfolding items_within
items-end n [] e = refl
items-end n (c ∷ cs) e = rw e refl

-- ---- items that stand where they may

pub standing_parts : (s : Standing) (o : Option (Item × List ℕ)) (found : Item × List ℕ) → standing_item s o ≡ Some found → (o ≡ Some found) × (may_stand s found.0 ≡ true)
standing_parts s None found e = absurd (cc)
standing_parts s (Some x) found e =
    elim (may_stand s x.0) as (λ b. may_stand s x.0 ≡ b → cond b (Some x) None ≡ Some found → (Some x ≡ Some found) × (may_stand s found.0 ≡ true)) [
      | true ↦ λ stands same. let it : x ≡ found = cc in (same, subst (λ (y : Item × List ℕ). may_stand s y.0 ≡ true) it stands)
      | false ↦ λ _ none. absurd (cc)
    ] refl e

pub standing-more : (s : Standing) (n : ℕ) (text : List ℕ) (found : Item × List ℕ) → standing_item s (item_at n text) ≡ Some found
    → items_standing s n text ≡ found ∷ items_standing (behind_item s found.0) n found.1
standing-more s n text found e =
    let parts = standing_parts s (item_at n text) found e in
    rw (items-more n text found parts.0, parts.1) refl

standing_none : (s : Standing) (found : Item × List ℕ) (later : List (Item × List ℕ)) → standing_item s (Some found) ≡ None → standing s (found ∷ later) ≡ []
standing_none s found later e =
    elim (may_stand s found.0) as (λ b. cond b (Some found) None ≡ None → cond b (found ∷ standing (behind_item s found.0) later) [] ≡ []) [
      | true ↦ λ some. absurd (cc)
      | false ↦ λ _. refl
    ] e

pub standing-end : (s : Standing) (n : ℕ) (text : List ℕ) → standing_item s (item_at n text) ≡ None → items_standing s n text ≡ []
standing-end s n text e =
    elim (item_at n text) as (λ o. item_at n text ≡ o → standing_item s o ≡ None → items_standing s n text ≡ []) [
      | None ↦ λ none _. rw (items-end n text none) refl
      | Some found ↦ λ some bad. rw (items-more n text found some) (standing_none s found (items_at n found.1) bad)
    ] refl e

pub examined-more : (s : Standing) (n : ℕ) (text : List ℕ) (found : Item × List ℕ) → standing_item s (item_at n text) ≡ Some found
    → examined s n text ≡ (suc (examined (behind_item s found.0) n found.1).0, (examined (behind_item s found.0) n found.1).1)
examined-more s n text found e = rw (standing-more s n text found e) refl

pub examined-end : (s : Standing) (n : ℕ) (text : List ℕ) → standing_item s (item_at n text) ≡ None → examined s n text ≡ (0, fault_behind s n text)
examined-end s n text e = rw (standing-end s n text e) refl

-- ---- where an item ends does not matter

pub behind-told : (s : Standing) (n : ℕ) (item : i.Item) (end : ℕ) → behind_item s (item_told n item end) ≡ behind_item s (item_told n item 0)
behind-told s n it.Declaration end = refl
behind-told s n it.Comment end = refl
behind-told s n (it.Opening t) end = refl
behind-told s n (it.Closing name) end = refl
behind-told s n (it.Run text) end = refl

pub stand-told : (s : Standing) (n : ℕ) (item : i.Item) (end : ℕ) → may_stand s (item_told n item end) ≡ may_stand s (item_told n item 0)
stand-told s n it.Declaration end = refl
stand-told s n it.Comment end = refl
stand-told s n (it.Opening t) end = refl
stand-told s n (it.Closing name) end = refl
stand-told s n (it.Run text) end = refl

pub misplaced-told : (s : Standing) (place : ℕ) (n : ℕ) (item : i.Item) (end : ℕ) → misplaced s place (item_told n item end) ≡ misplaced s place (item_told n item 0)
misplaced-told s place n it.Declaration end = refl
misplaced-told s place n it.Comment end = refl
misplaced-told s place n (it.Opening t) end = refl
misplaced-told s place n (it.Closing name) end = refl
misplaced-told s place n (it.Run text) end = refl
