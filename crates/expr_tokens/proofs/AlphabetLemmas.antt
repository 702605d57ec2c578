-- The longest front of a text that passes a test ends where a byte stands that no text that passes has.
use Rattle.std.proofs.Common.{◌≡◌, ℕ, ◌-◌, ◌<◌, ◌≤◌, inr, Bool, true, false, not, List, [], ◌∷◌, ◌++◌, length, take, get_or, sym, ap, subst, ◌∙◌, arith}
use Rattle.std.specs.List.{AllPass}
use Rattle.std.proofs.lemmas.Bool.{false_from_ne_true, both_ways, not-true}
use Rattle.std.proofs.Math.ListN.{get_or-append}
use Rattle.std.proofs.Math.Seq.{get_or-append_seam, take-append_seam}
use Rattle.std.proofs.lemmas.List.{get_or-take, length-append, length-take}
use Rattle.expr_tokens.specs.Longest.{longest}
use Rattle.expr_tokens.proofs.LongestLemmas.{longest-le, longest-is}

-- a text is empty, or its first byte is none of these
abbrev pub begins_past : (ℕ → Bool) → List ℕ → Bool
begins_past alphabet [] = true
begins_past alphabet (c ∷ cs) = not (alphabet c)

module _ (test : List ℕ → Bool) (alphabet : ℕ → Bool) (bytes : (text : List ℕ) → test text ≡ true → AllPass alphabet text) where
  -- a front that has a byte outside passes not
  pub front_fails : (text : List ℕ) (i m : ℕ) → i < m → m ≤ length text → alphabet (get_or text i 0) ≡ false → test (take m text) ≡ false
  front_fails text i m before within outside =
      false_from_ne_true _
      (λ e. both_ways _ outside (ap alphabet (sym (get_or-take m text i 0 before)) ∙ bytes (take m text) e i 0 (omega (arith, length-take m text))))

  none_longer : (w rest : List ℕ) → begins_past alphabet rest ≡ true → (m : ℕ) → length w < m → m ≤ length (w ++ rest) → test (take m (w ++ rest)) ≡ false
  none_longer w [] past m above within = absurd (omega (arith, length-append w []))
  none_longer w (c ∷ cs) past m above within =
      front_fails (w ++ c ∷ cs) (length w) m above within (ap alphabet (get_or-append_seam w c cs 0) ∙ not-true _ past)

  pub longest-word : (w rest : List ℕ) → begins_past alphabet rest ≡ true → test w ≡ true → longest test (w ++ rest) ≡ length w
  longest-word w rest past passes =
      longest-is test (w ++ rest) (length w) (omega (arith, length-append w rest))
      (inr (subst (λ t. test t ≡ true) (sym (take-append_seam w rest)) passes)) (none_longer w rest past)

  pub longest-word_le : (w rest : List ℕ) → begins_past alphabet rest ≡ true → longest test (w ++ rest) ≤ length w
  longest-word_le w rest past = longest-le test (w ++ rest) (length w) (none_longer w rest past)

  -- no front as long as the word, where a byte of the word is outside
  pub longest-short : (w rest : List ℕ) (i : ℕ) → i < length w → alphabet (get_or w i 0) ≡ false → longest test (w ++ rest) < length w
  longest-short w rest i within outside =
      let below : longest test (w ++ rest) ≤ length w - 1 =
      longest-le test (w ++ rest) (length w - 1)
      (λ m above shorter. front_fails (w ++ rest) i m (omega arith) shorter (ap alphabet (get_or-append w rest 0 i within) ∙ outside)) in
      omega arith
