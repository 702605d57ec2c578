-- What is to come, item by item.
use Rattle.std.proofs.Common.{◌≡◌, ◌<◌, ◌≤◌, ◌-◌, ℕ, zero, suc, List, ◌++◌, length, take, None, Some, refl, ap, arith}
use Rattle.fcxml_profile.specs.Items.{Item, item_at, items_at}
use Rattle.fcxml_profile.specs.Scanning.{token_of, tokens_of}
use Rattle.fcxml_profile.proofs.ScanLemmas.{items-more, items-end}

-- where no item stands in front, none is left
pub none-left : (n left : ℕ) (text : List ℕ) → 0 < left → left ≤ length (items_at n text) → item_at n text ≡ None → ⊥
none-left n left text some whole none = let size = ap length (items-end n text none) in omega arith

-- one item less
pub tokens-step : (n left : ℕ) (text : List ℕ) (found : Item × List ℕ) → 0 < left → item_at n text ≡ Some found
    → tokens_of (take left (items_at n text)) ≡ token_of found.0 ++ tokens_of (take (left - 1) (items_at n found.1))
tokens-step n zero text found some e = absurd (omega arith)
tokens-step n (suc left) text found some e =
    let less : suc left - 1 ≡ left = omega arith in
    rw (items-more n text found e, less) refl

pub whole-step : (n left : ℕ) (text : List ℕ) (found : Item × List ℕ) → 0 < left → left ≤ length (items_at n text) → item_at n text ≡ Some found → left - 1 ≤ length (items_at n found.1)
whole-step n left text found some whole e = let size = ap length (items-more n text found e) in omega arith
