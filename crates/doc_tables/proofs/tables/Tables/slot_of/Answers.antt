use Rattle.std.proofs.Common.{sym, ap, ◌∙◌}
use Rattle.std.specs.Option.{option_copied}
use Rattle.doc_tables.proofs.Finding.{looked-some}
use Rattle.doc_tables.proofs.HeldLemmas.{name-used, owner-named}
use Rattle.doc_tables.proofs.ResolveLemmas.{slot-read}
use Rattle.doc_tables.proofs.tables.Tables.slot_of.Goals as goal

pub thing_at-owner-requires : goal.thing_at-owner-requires
thing_at-owner-requires c = name-used c.args.self.now c.self.inside c.self.invariant c.self.view_is c.args.object.0 c.requires

pub unwrap-entry-requires : goal.unwrap-entry-requires
unwrap-entry-requires c = looked-some c.get.result _ c.get.ensures.value (owner-named c.args.self.now c.self.inside c.self.invariant c.self.view_is c.args.object.0 c.thing_at-owner.result.now c.thing_at-owner.ensures)

pub returns : goal.returns
returns c =
    slot-read c.args.self.now c.self.inside c.self.invariant c.self.view_is c.args.object.0 c.thing_at-owner.result.now c.unwrap-entry.result.now c.thing_at-owner.ensures
    (sym (ap option_copied c.unwrap-entry.ensures) ∙ c.get.ensures.value) c.args.name.now c.number_in.result c.number_in.ensures
