use Rattle.std.proofs.Common.{refl}
use Rattle.std.proofs.lemmas.Result.{err_from_is_err_and}
use Rattle.document_outcomes.specs.Faults.{limit_faults}
use Rattle.doc_rules.proofs.FirstLemmas.{meets-none}
use Rattle.doc_rules.proofs.ChainLemmas.{limits-stop, limits-past}
use Rattle.doc_rules.proofs.checking.check.Goals as goal

pub returns-in_err-check_limits : goal.returns-in_err-check_limits
returns-in_err-check_limits c =
    let p = err_from_is_err_and c.from_residual-in_err-check_limits.result c.from_residual-in_err-check_limits.ensures.1 in
    rw (p.1, p.2) (limits-stop c.args.tables.now.document _ c.in_err-check_limits.ensures)

pub returns : goal.returns
returns c =
    limits-past c.args.tables.now.document _ (meets-none (limit_faults c.args.tables.now.document) tt c.in_ok-check_limits.ensures)
    c.check_within_limits.ensures
