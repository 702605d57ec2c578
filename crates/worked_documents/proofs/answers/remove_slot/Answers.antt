use Rattle.std.proofs.Common.{List, ℕ, sym, subst, ◌∙◌}
use Rattle.std.specs.Option.{option_and_then}
use Rattle.object_paths.specs.declared.slot_name.SlotName.TheVariants.{Plain}
use Rattle.document_model.specs.Document.{Object}
use Rattle.document_model.specs.Resolution.{slot_in}
use Rattle.doc_tables.specs.Accessors.{IsNumberOf}
use Rattle.doc_tables.specs.Numbered.{object_at}
use Rattle.worked_documents.proofs.PropertyLemmas.{slot-has_property}
use Rattle.worked_documents.proofs.answers.remove_slot.Goals as goal

pub remove_property-requires-clause-there : goal.remove_property-requires-clause-there
remove_property-requires-clause-there c =
    let t = c.args.tables.now in
    slot-has_property t c.holds_var_sets.ensures c.in_ok-name.name c.in-Some.object.0 c.slot_of.result
    (subst (λ (name : List ℕ). IsNumberOf t c.slot_of.result (option_and_then (λ (o : Object). slot_in t.document o (Plain name)) (object_at t c.in-Some.object.0))) c.in_ok-copy.ensures c.slot_of.ensures)
    (sym c.is_some.ensures ∙ c.if-is_some.true)
