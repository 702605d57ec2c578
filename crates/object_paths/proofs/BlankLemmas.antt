-- Blanks at the ends of a text, taken off one by one.
use Rattle.std.proofs.Common.{◌≡◌, ◌≢◌, ℕ, List, [], ◌∷◌, ◌++◌, true, false, cond, ◌==◌, reverse, Option, Some, None, Bor, refl, sym, ap, subst, ◌∙◌, ⊎_elim}
use Rattle.std.specs.Option.{MatchOption}
use Rattle.std.proofs.lemmas.Bool.{or_cases, eqb-true}
use Rattle.std.proofs.lemmas.List.{reverse-append, reverse-reverse}
use Rattle.object_paths.specs.PathParts.{is_blank, after_blanks}

-- a text that does not begin with this byte, or with that one, begins with no blank
blank_is : (P : ℕ → Type 0) → P 32 → P 9 → (c : ℕ) → is_blank c ≡ true → P c
blank_is P space tab c blank =
    ⊎_elim (λ e. subst P (sym (eqb-true c 32 e)) space) (λ e. subst P (sym (eqb-true c 9 e)) tab) (or_cases (c == 32) (c == 9) blank)

pub no_blank_front : (text : List ℕ) → ((rest : List ℕ) → text ≢ 32 ∷ rest) → ((rest : List ℕ) → text ≢ 9 ∷ rest) → (c : ℕ) (rest : List ℕ) → is_blank c ≡ true → text ≢ c ∷ rest
no_blank_front text space tab c rest blank = blank_is (λ d. text ≢ d ∷ rest) (space rest) (tab rest) c blank

pub no_blank_end : (text : List ℕ) → ((front : List ℕ) → text ≢ front ++ (32 ∷ [])) → ((front : List ℕ) → text ≢ front ++ (9 ∷ [])) → (c : ℕ) (front : List ℕ) → is_blank c ≡ true → text ≢ front ++ (c ∷ [])
no_blank_end text space tab c front blank = blank_is (λ d. text ≢ front ++ (d ∷ [])) (space front) (tab front) c blank

pub front_or_tab : (text : List ℕ) (r : Option (Bor (List ℕ))) → ((rest : List ℕ) → text ≢ 32 ∷ rest) → MatchOption r ((rest : List ℕ) → text ≢ 9 ∷ rest) (λ x. text ≡ 9 ∷ x.now)
    → MatchOption r ((c : ℕ) (rest : List ℕ) → is_blank c ≡ true → text ≢ c ∷ rest) (λ x. (c : ℕ) × (is_blank c ≡ true) × (text ≡ c ∷ x.now))
front_or_tab text None space tab = no_blank_front text space tab
front_or_tab text (Some x) space tab = (9, refl, tab)

pub end_or_tab : (text : List ℕ) (r : Option (Bor (List ℕ))) → ((front : List ℕ) → text ≢ front ++ (32 ∷ [])) → MatchOption r ((front : List ℕ) → text ≢ front ++ (9 ∷ [])) (λ x. text ≡ x.now ++ (9 ∷ []))
    → MatchOption r ((c : ℕ) (front : List ℕ) → is_blank c ≡ true → text ≢ front ++ (c ∷ [])) (λ x. (c : ℕ) × (is_blank c ≡ true) × (text ≡ x.now ++ (c ∷ [])))
end_or_tab text None space tab = no_blank_end text space tab
end_or_tab text (Some x) space tab = (9, refl, tab)

-- one blank less in front changes nothing
pub after_blanks-step : (text rest : List ℕ) (c : ℕ) → is_blank c ≡ true → text ≡ c ∷ rest → after_blanks rest ≡ after_blanks text
after_blanks-step text rest c blank e = sym (ap after_blanks e ∙ ap (λ b. cond b (after_blanks rest) (c ∷ rest)) blank)

-- no blank in front, and nothing is taken off
pub after_blanks-done : (text : List ℕ) → ((c : ℕ) (rest : List ℕ) → is_blank c ≡ true → text ≢ c ∷ rest) → after_blanks text ≡ text
after_blanks-done [] none = refl
after_blanks-done (c ∷ rest) none =
    elim (is_blank c) as (λ b. is_blank c ≡ b → cond b (after_blanks rest) (c ∷ rest) ≡ c ∷ rest)
    [ true ↦ λ e. absurd (none c rest e refl) | false ↦ λ _. refl ] refl

-- the same at the end, by the text in reverse
pub before_blanks-step : (text front : List ℕ) (c : ℕ) → is_blank c ≡ true → text ≡ front ++ (c ∷ []) → reverse (after_blanks (reverse front)) ≡ reverse (after_blanks (reverse text))
before_blanks-step text front c blank e =
    ap reverse (after_blanks-step (reverse text) (reverse front) c blank (ap reverse e ∙ reverse-append front (c ∷ [])))

pub before_blanks-done : (text : List ℕ) → ((c : ℕ) (front : List ℕ) → is_blank c ≡ true → text ≢ front ++ (c ∷ [])) → reverse (after_blanks (reverse text)) ≡ text
before_blanks-done text none =
    ap reverse (after_blanks-done (reverse text) (λ c rest blank e. none c (reverse rest) blank (sym (reverse-reverse text) ∙ ap reverse e ∙ reverse-append (c ∷ []) rest)))
    ∙ reverse-reverse text
