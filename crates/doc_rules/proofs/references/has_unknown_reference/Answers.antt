use Rattle.std.proofs.Common.{◌∙◌, ap}
use Rattle.std.specs.Prelude.{is_none}
use Rattle.std.specs.List.{list_any}
use Rattle.doc_tables.specs.Accessors.{reached_at}
use Rattle.doc_rules.proofs.VarSetFaults.{reached-none}
use Rattle.doc_rules.proofs.references.has_unknown_reference.Goals as goal

pub returns : goal.returns
returns c =
    c.has_none.ensures ∙ ap (list_any is_none) c.deref.ensures.value
    ∙ reached-none c.args.tables.now c.in_ok-references.references.items (reached_at c.args.tables.now c.args.slot.0) c.in_ok-references.ensures
