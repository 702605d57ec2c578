use Rattle.std.proofs.Common.{ℕ, min, ap, ◌∙◌}
use Rattle.doc_tables.proofs.ReachedLemmas.{reached-counted}
use Rattle.doc_tables.proofs.tables.Tables.dependency_count.Goals as goal

pub returns-in-Some : goal.returns-in-Some
returns-in-Some c =
    c.dependencies_in_objects.ensures
    ∙ ap (λ (n : ℕ). min n 18446744073709551615) (reached-counted c.args.self.now c.self.inside c.self.invariant c.self.view_is c.in-Some.lists c.in-Some.is)
