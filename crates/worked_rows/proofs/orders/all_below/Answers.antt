use Rattle.std.proofs.Common.{ℕ, List, take, get_or, inl, inr, sym, subst, arith}
use Rattle.std.proofs.lemmas.List.{take_more, take_all}
use Rattle.fc_base.specs.Graph.{IsIn}
use Rattle.dependency_order.proofs.ListLemmas.{IsIn-push}
use Rattle.worked_rows.proofs.orders.all_below.Goals as goal

pub loop-number-preserved : goal.loop-number-preserved
loop-number-preserved c = λ n.
    let xs = c.args.numbers.now in
    let i = c.loop-number.number-index in
    rw (take_more xs i 0 (omega arith))
    (λ j. elim (IsIn-push (take i xs) n (get_or xs i 0) j) [ inl k ↦ c.loop-number.invariant n k | inr e ↦ omega arith ])

pub returns : goal.returns
returns c = λ _ n i.
    let xs = c.args.numbers.now in
    c.loop-number.invariant n (subst (λ (ys : List ℕ). IsIn n ys) (sym (take_all c.loop-number.number-index xs (omega arith))) i)
