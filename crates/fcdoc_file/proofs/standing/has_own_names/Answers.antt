use Rattle.fcdoc_file.proofs.StandingLemmas.{own_refused, own_told}
use Rattle.fcdoc_file.proofs.standing.has_own_names.Goals as goal

pub returns-in_ok-are_distinct : goal.returns-in_ok-are_distinct
returns-in_ok-are_distinct c =
    own_told c.args.object.now c.deref.result.now c.deref-then-have_property_names.result.now c.have_property_names.result c.in_ok-are_distinct.field-0
    c.deref.ensures.value c.deref-then-have_property_names.ensures.value c.have_property_names.ensures c.if-have_property_names.true c.in_ok-are_distinct.ensures

pub returns-else-have_property_names : goal.returns-else-have_property_names
returns-else-have_property_names c =
    own_refused c.args.object.now c.deref.result.now c.have_property_names.result c.deref.ensures.value c.have_property_names.ensures c.if-have_property_names.false
