use Rattle.std.proofs.Common.{◌≡◌, sym, ap, arith}
use Rattle.document_model.specs.Counts.{nodes_of_document}
use Rattle.recompute.proofs.CountLemmas.{nodes-all}
use Rattle.fcdoc_core.specs.Machine.{SessionView}
use Rattle.fcdoc_core.specs.Sessions.{view_held}
use Rattle.fcdoc_core.proofs.SessionLemmas.{recompute-meets}
use Rattle.fcdoc_core.proofs.session.Session.recompute.Goals as goal

pub returns-in_err-report-clause-at_most : goal.returns-in_err-report-clause-at_most
returns-in_err-report-clause-at_most g c =
    let most = c.recompute.ensures.at_most in
    let all = nodes-all c.self.inside.tables.document c.holds_var_sets.ensures in
    let same : nodes_of_document c.args.self.now.state.now ≡ nodes_of_document c.self.inside.tables.document = ap (λ (v : SessionView). nodes_of_document v.state.now) (sym c.self.view_is) in
    omega arith

pub returns-clause-at_most : goal.returns-clause-at_most
returns-clause-at_most g c =
    let most = c.recompute.ensures.at_most in
    let all = nodes-all c.self.inside.tables.document c.holds_var_sets.ensures in
    let same : nodes_of_document c.args.self.now.state.now ≡ nodes_of_document c.self.inside.tables.document = ap (λ (v : SessionView). nodes_of_document v.state.now) (sym c.self.view_is) in
    omega arith

pub returns-clause-exact : goal.returns-clause-exact
returns-clause-exact g c =
    rw (← c.self.view_is)
    (recompute-meets (view_held c.self.inside) c.self.inside.tables.document c.self.inside.clean c.self.inside.values.last c.recompute.new.self.last
    c.in_ok-report.ensures.last c.in_ok-report.report c.in_ok-report.ensures.calls c.in_ok-report.ensures.faults)
