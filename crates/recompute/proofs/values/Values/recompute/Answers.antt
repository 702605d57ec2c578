use Rattle.std.proofs.Common.{◌∙◌, sym, subst, List}
use Rattle.std.specs.Prelude.{Option}
use Rattle.property_types.specs.Values.{Outcome}
use Rattle.document_outcomes.specs.Typed.{no_features}
use Rattle.recompute.specs.Kept.{AreFull, entries}
use Rattle.recompute.proofs.CountLemmas.{evaluated-least}
use Rattle.recompute.proofs.FullLemmas.{called-none, faults-full, last-none}
use Rattle.recompute.proofs.values.Values.recompute.Goals as goal

pub returns-clause-last : goal.returns-clause-last
returns-clause-last g c = last-none c.args.tables.now.document c.holds_var_sets.ensures no_features

pub returns-clause-calls : goal.returns-clause-calls
returns-clause-calls g c = called-none c.args.tables.now.document c.holds_var_sets.ensures no_features (entries c.args.self.now.last)

pub returns-clause-faults : goal.returns-clause-faults
returns-clause-faults g c =
    c.in_ok-faults.ensures
    ∙ faults-full c.args.tables.now c.is_numbered.ensures c.deref.result.now no_features
    (subst (λ (q : List (Option Outcome)). AreFull no_features c.args.tables.now q) (sym c.deref.ensures.value) c.in_ok-outcomes.ensures.outcomes)

pub returns-clause-at_least : goal.returns-clause-at_least
returns-clause-at_least g c =
    evaluated-least no_features c.args.tables.now c.args.self.now.outcomes _ _
    (c.in_ok-outcomes.ensures.evaluated c.args.self.now.outcomes) c.has_distinct_slots.ensures
