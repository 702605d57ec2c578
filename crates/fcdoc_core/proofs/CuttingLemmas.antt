-- Spaces at the ends of a text.
use Rattle.std.proofs.Common.{◌≡◌, ◌≢◌, ℕ, List, [], ◌∷◌, ◌++◌, true, false, cond, ◌==◌, reverse, refl, sym, ap, ◌∙◌}
use Rattle.std.proofs.lemmas.Bool.{eqb-true}
use Rattle.std.proofs.lemmas.List.{reverse-append, reverse-reverse}
use Rattle.fcdoc_core.specs.Commands.{after_spaces}

-- one space less in front changes nothing
pub after_spaces-step : (text rest : List ℕ) → text ≡ 32 ∷ rest → after_spaces rest ≡ after_spaces text
after_spaces-step text rest e = sym (ap after_spaces e)

-- no space in front, and nothing is taken off
pub after_spaces-done : (text : List ℕ) → ((rest : List ℕ) → text ≢ 32 ∷ rest) → after_spaces text ≡ text
after_spaces-done [] none = refl
after_spaces-done (c ∷ rest) none =
    elim (c == 32) as (λ b. (c == 32) ≡ b → cond b (after_spaces rest) (c ∷ rest) ≡ c ∷ rest) [
      | true ↦ λ e. absurd (none rest (ap (λ d. d ∷ rest) (eqb-true c 32 e)))
      | false ↦ λ _. refl
    ] refl

-- the same at the end, by the text in reverse
pub before_spaces-step : (text front : List ℕ) → text ≡ front ++ (32 ∷ []) → reverse (after_spaces (reverse front)) ≡ reverse (after_spaces (reverse text))
before_spaces-step text front e = ap reverse (after_spaces-step (reverse text) (reverse front) (ap reverse e ∙ reverse-append front (32 ∷ [])))

pub before_spaces-done : (text : List ℕ) → ((front : List ℕ) → text ≢ front ++ (32 ∷ [])) → reverse (after_spaces (reverse text)) ≡ text
before_spaces-done text none =
    ap reverse (after_spaces-done (reverse text) (λ rest e. none (reverse rest) (sym (reverse-reverse text) ∙ ap reverse e ∙ reverse-append (32 ∷ []) rest)))
    ∙ reverse-reverse text
