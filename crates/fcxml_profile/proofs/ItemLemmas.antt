-- Lemmas on attributes and items in front of a text.
use Rattle.std.proofs.Common.{◌≡◌, ◌≤◌, ℕ, List, length, None, Some, sym, ap, arith, eqb, get_or}
use Rattle.std.proofs.lemmas.Bool.{false_from_ne_true}
use Rattle.std.proofs.lemmas.Bool.{eqb-true}
use Rattle.std.specs.Str.{IsCharBoundary}
use Rattle.std.proofs.lemmas.List.Sums.{position_or_len_is, passes_at_first}
use Rattle.memchr.specs.Find.{IsFirstByte, is_byte}
use Rattle.fcxml_profile.specs.Items.{run_length}

-- the first `<`, as it is searched for
pub run_length-found : (text : List ℕ) (k : ℕ) → IsFirstByte (is_byte 60) text (Some k) → k ≡ run_length text
run_length-found text k found =
    sym (position_or_len_is (λ c. eqb c 60) text k 0 (omega (arith, found.0.high)) (λ i below. false_from_ne_true _ (found.0.before i (omega arith) below)) (λ _. found.1))

pub run_length-none : (text : List ℕ) → IsFirstByte (is_byte 60) text None → length text ≡ run_length text
run_length-none text nowhere =
    sym (position_or_len_is (λ c. eqb c 60) text (length text) 0 (omega arith) (λ i below. false_from_ne_true _ (nowhere i (omega arith) below)) (λ within. absurd (omega arith)))

-- a run ends before a `<`, or at the end
pub cut-run : (text : List ℕ) (k : ℕ) → k ≡ run_length text → k ≤ length text → IsCharBoundary text k
cut-run text k count most = (
  most,
  λ within above.
      let mark = eqb-true (get_or text (run_length text) 0) 60 (passes_at_first (λ c. eqb c 60) text 0 (omega arith)) in
      absurd (let here = ap (λ i. get_or text i 0) count in omega arith),
)
