-- Private: only contracts inside this crate cite this.
-- All items of a list of results, or the first fault, as a call gives them.
use Rattle.std.specs.Prelude.{◌≡◌, List, Vec, Result, Ok, Err}
use Rattle.expr_eval.specs.Firsts.{all_of}

abbrev pub Gathers : {A F Z : Type 0} → List (Result A F) → Result (Vec A Z) F → Type 0
Gathers results (Ok items) = all_of results ≡ Ok items.items
Gathers results (Err fault) = all_of results ≡ Err fault
