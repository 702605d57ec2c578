use Rattle.std.proofs.Common.{sym, ap, ◌∙◌}
use Rattle.std.specs.Option.{option_copied}
use Rattle.doc_tables.proofs.Finding.{looked-some}
use Rattle.doc_tables.proofs.HeldLemmas.{key-used, owner-there, owner-read}
use Rattle.doc_tables.proofs.tables.Tables.owner_of.Goals as goal

pub thing_at-key-requires : goal.thing_at-key-requires
thing_at-key-requires c = key-used c.args.self.now c.self.inside c.self.invariant c.self.view_is c.args.slot.0 c.requires

pub unwrap-requires : goal.unwrap-requires
unwrap-requires c = looked-some c.get.result _ c.get.ensures.value (owner-there c.args.self.now c.self.inside c.self.invariant c.self.view_is c.args.slot.0 c.thing_at-key.result.now c.thing_at-key.ensures)

pub returns : goal.returns
returns c =
    owner-read c.args.self.now c.self.inside c.self.invariant c.self.view_is c.args.slot.0 c.thing_at-key.result.now c.thing_at-key.ensures
    c.unwrap.result.now (sym (ap option_copied c.unwrap.ensures) ∙ c.get.ensures.value)
