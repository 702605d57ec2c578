-- A list of tokens has one tree at most, and it is the one that the descent reads.
use Rattle.std.proofs.Common.{◌≡◌, List, [], ◌∷◌, None, Some, refl, sym, ◌∙◌, ap, subst}
use Rattle.std.proofs.lemmas.List.{append-nil}
use Rattle.expr_tokens.specs.declared.token.Token.{Token}
use Rattle.expr_grammar.specs.Descent.{Parsed, parsed, of_all, level_steps}
use Rattle.expr_grammar.specs.Grammar.{Level, expression, comparison, sum, term, unary, powers, primary, HasTree}
use Rattle.expr_tree.specs.Tree.{Tree}
use Rattle.expr_grammar.proofs.FrontLemmas.{AllParsed}
use Rattle.expr_grammar.proofs.DescentSound.{ReadsTree}
use Rattle.expr_grammar.proofs.StepsSound.{readers-sound}
use Rattle.expr_grammar.proofs.DescentEquations.{operands-is, exponents-is}
use Rattle.expr_grammar.proofs.DescentComplete.{Ends, closing, tree_of}
use Rattle.expr_grammar.proofs.TreesRead.{tree-read}

ends_at_end : (l : Level) (ts : List Token) → Ends l ts []
ends_at_end expression ts = record {
  ends = record { ends = record { ends = record { no_dot = refl; no_unit = refl; no_caret = refl }; no_product = refl }; no_sum = refl; no_comparison = refl };
  no_question = refl;
}
ends_at_end comparison ts =
    record { ends = record { ends = record { no_dot = refl; no_unit = refl; no_caret = refl }; no_product = refl }; no_sum = refl; no_comparison = refl }
ends_at_end sum ts = record { ends = record { no_dot = refl; no_unit = refl; no_caret = refl }; no_product = refl }
ends_at_end term ts = record { no_dot = refl; no_unit = refl; no_caret = refl }
ends_at_end unary ts = record { no_dot = refl; no_unit = refl; no_caret = refl }
ends_at_end powers ts = record { no_dot = refl; no_unit = refl; held = λ _. refl }
ends_at_end primary ts = record { no_dot = refl; no_unit = refl; held = λ _. refl }

closing-end : (l : Level) (t : Tree) → closing l t [] ≡ Some (t, [])
closing-end expression t = refl
closing-end comparison t = refl
closing-end sum t = operands-is sum t []
closing-end term t = operands-is term t []
closing-end unary t = refl
closing-end powers t = exponents-is t []
closing-end primary t = refl

-- a tree of all tokens is read
pub whole-read : (l : Level) (ts : List Token) (t : Tree) → HasTree l ts t → parsed l ts ≡ Some (t, [])
whole-read l ts t h = ap (parsed l) (sym (append-nil ts)) ∙ (tree-read l h [] (ends_at_end l ts) ∙ closing-end l t)

pub one-tree : (l : Level) (ts : List Token) (t u : Tree) → HasTree l ts t → HasTree l ts u → t ≡ u
one-tree l ts t u h k = ap tree_of (sym (whole-read l ts t h) ∙ whole-read l ts u k)

-- what is read of all tokens is their tree

parsed-sound : (l : Level) (ts : List Token) → AllParsed (ReadsTree l ts) (parsed l ts)
unfolding parsed
parsed-sound l ts = (readers-sound (level_steps l ts)).of_level l ts

all-sound : (ts : List Token) (x : Parsed Tree) → AllParsed (ReadsTree expression ts) x → (t : Tree) → of_all x ≡ Some t → HasTree expression ts t
all-sound ts None h t e = absurd (cc)
all-sound ts (Some (u, [])) h t e =
    let same : u ≡ t = cc in
    let split : h.used ≡ ts = sym (h.split ∙ append-nil h.used) in
    subst (λ (v : Tree). HasTree expression ts v) same (subst (λ (z : List Token). HasTree expression z u) split h.tree)
all-sound ts (Some (u, x ∷ xs)) h t e = absurd (cc)

pub of_all-sound : (ts : List Token) (t : Tree) → of_all (parsed expression ts) ≡ Some t → HasTree expression ts t
of_all-sound ts t e = all-sound ts (parsed expression ts) (parsed-sound expression ts) t e

pub of_all-none : (ts : List Token) → of_all (parsed expression ts) ≡ None → (t : Tree) → HasTree expression ts t → ⊥
of_all-none ts e t h = let k : None ≡ Some t = sym e ∙ ap of_all (whole-read expression ts t h) in cc
