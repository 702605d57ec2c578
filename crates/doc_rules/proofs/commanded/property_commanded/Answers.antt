use Rattle.doc_rules.proofs.NameLemmas.{property-behind}
use Rattle.doc_rules.proofs.commanded.property_commanded.Goals as goal

pub returns-in-Some : goal.returns-in-Some
returns-in-Some c =
    property-behind c.args.tables.now c.finds_all.ensures c.args.path.now c.in-Some.object c.property_in.result c.in-Some.ensures c.property_in.ensures
