use Rattle.std.proofs.Common.{◌≡◌, ℕ, List, [], ◌∷◌, map, Option, option_copied, refl, ap, sym, ◌∙◌, ◌⊎◌, ⊎_elim}
use Rattle.std.proofs.lemmas.Slice.Zip.{either_empty_from_Zip}
use Rattle.expr_tokens.specs.Misplaced.{misplaced_from}
use Rattle.expr_tokens.specs.declared.token.Placed.{Placed}
use Rattle.expr_tokens.specs.declared.token.Token.{Token}
use Rattle.expr_tokens.proofs.misplaced.first_misplaced.Goals as goal

-- nothing is left to be wrong
no_tokens : (previous : Option Token) (brackets : ℕ) (places : List ℕ) (end : ℕ) → misplaced_from previous brackets places [] end ≡ end
unfolding misplaced_from
no_tokens previous brackets [] end = refl
no_tokens previous brackets (place ∷ places) end = refl

nothing_left : (previous : Option Token) (brackets : ℕ) (xs : List Placed) (tokens : List Token) (end : ℕ) → (xs ≡ []) ⊎ (tokens ≡ [])
    → misplaced_from previous brackets (map (λ x. x.place) xs) tokens end ≡ end
unfolding misplaced_from
nothing_left previous brackets xs tokens end none =
    ⊎_elim (λ e. ap (λ ys. misplaced_from previous brackets (map (λ y. y.place) ys) tokens end) e)
    (λ e. ap (λ ts. misplaced_from previous brackets (map (λ y. y.place) xs) ts end) e ∙ no_tokens previous brackets (map (λ x. x.place) xs) end) none

pub returns : goal.returns
returns c =
    sym (nothing_left (option_copied c.loop-placed.previous) c.loop-placed.brackets c.loop-placed.placed-iterator.a.rest.now c.loop-placed.placed-iterator.b.rest.now c.args.end
    (either_empty_from_Zip c.loop-placed.placed-iterator c.next.new.self c.next.result c.in-None.is c.next.ensures.steps))
    ∙ c.loop-placed.invariant.left
