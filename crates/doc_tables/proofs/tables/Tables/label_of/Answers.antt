use Rattle.std.proofs.Common.{sym, ap, ◌∙◌}
use Rattle.std.specs.Option.{option_copied}
use Rattle.doc_tables.proofs.Finding.{looked-some}
use Rattle.doc_tables.proofs.HeldLemmas.{name-used, owner-named}
use Rattle.doc_tables.proofs.PlaceLemmas.{label-read}
use Rattle.doc_tables.proofs.tables.Tables.label_of.Goals as goal

pub thing_at-name-requires : goal.thing_at-name-requires
thing_at-name-requires c = name-used c.args.self.now c.self.inside c.self.invariant c.self.view_is c.args.object.0 c.requires

pub unwrap-entry-requires : goal.unwrap-entry-requires
unwrap-entry-requires c = looked-some c.get.result _ c.get.ensures.value (owner-named c.args.self.now c.self.inside c.self.invariant c.self.view_is c.args.object.0 c.thing_at-name.result.now c.thing_at-name.ensures)

pub returns : goal.returns
returns c =
    label-read c.args.self.now c.self.inside c.self.invariant c.self.view_is c.args.object.0 c.thing_at-name.result.now c.unwrap-entry.result.now c.thing_at-name.ensures
    (sym (ap option_copied c.unwrap-entry.ensures) ∙ c.get.ensures.value)
