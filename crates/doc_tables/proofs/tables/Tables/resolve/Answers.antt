use Rattle.std.specs.Option.{option_copied}
use Rattle.doc_tables.specs.Numbered.{object_at}
use Rattle.doc_tables.proofs.ResolveLemmas.{resolve-here, resolve-named, resolve-labelled}
use Rattle.doc_tables.proofs.tables.Tables.resolve.Goals as goal

pub returns-in-Here : goal.returns-in-Here
returns-in-Here c =
    let t = c.args.self.now in
    resolve-here t (object_at t c.args.owner.0) c.entry_of_object-here.result.now c.args.path.now c.entry_of_object-here.ensures c.number_in.result c.in-Here.is c.number_in.ensures

pub returns-in-ByName : goal.returns-in-ByName
returns-in-ByName c =
    let t = c.args.self.now in
    resolve-named t (object_at t c.args.owner.0) c.entry_of_object-here.result.now c.args.path.now c.entry_of_object-here.ensures c.in-ByName.name
    (option_copied c.entry_named.result) c.number_in-in-ByName.result c.in-ByName.is c.entry_named.ensures c.number_in-in-ByName.ensures

pub returns-in-ByLabel : goal.returns-in-ByLabel
returns-in-ByLabel c =
    let t = c.args.self.now in
    resolve-labelled t (object_at t c.args.owner.0) c.entry_of_object-here.result.now c.args.path.now c.entry_of_object-here.ensures c.in-ByLabel.label
    (option_copied c.entry_labelled.result) c.number_in-in-ByLabel.result c.in-ByLabel.is c.entry_labelled.ensures c.number_in-in-ByLabel.ensures
