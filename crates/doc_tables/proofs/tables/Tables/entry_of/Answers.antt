use Rattle.std.proofs.Common.{◌≡◌, nat_eq, Some, sym, ap, ◌∙◌}
use Rattle.std.specs.Cmp.Lexicographic.{pointwise}
use Rattle.std.specs.Map.{lookup}
use Rattle.std.specs.Option.{option_copied}
use Rattle.doc_tables.proofs.Finding.{looked-some}
use Rattle.doc_tables.proofs.HeldLemmas.{key-used, owner-there, entry-there, entry-read}
use Rattle.doc_tables.proofs.tables.Tables.entry_of.Goals as goal

pub thing_at-key-requires : goal.thing_at-key-requires
thing_at-key-requires c = key-used c.args.self.now c.self.inside c.self.invariant c.self.view_is c.args.slot.0 c.requires

pub unwrap-object-requires : goal.unwrap-object-requires
unwrap-object-requires c = looked-some c.get.result _ c.get.ensures.value (owner-there c.args.self.now c.self.inside c.self.invariant c.self.view_is c.args.slot.0 c.thing_at-key.result.now c.thing_at-key.ensures)

pub unwrap-requires : goal.unwrap-requires
unwrap-requires c =
    let own : Some c.unwrap-object.result.now ≡ lookup (pointwise nat_eq c.thing_at-key.result.now.object) c.self.inside.objects.entries = sym (ap option_copied c.unwrap-object.ensures) ∙ c.get.ensures.value in
    looked-some c.get-2.result _ c.get-2.ensures.value (entry-there c.args.self.now c.self.inside c.self.invariant c.self.view_is c.args.slot.0 c.thing_at-key.result.now c.thing_at-key.ensures c.unwrap-object.result.now own)

pub returns : goal.returns
returns c =
    let own : Some c.unwrap-object.result.now ≡ lookup (pointwise nat_eq c.thing_at-key.result.now.object) c.self.inside.objects.entries = sym (ap option_copied c.unwrap-object.ensures) ∙ c.get.ensures.value in
    entry-read c.args.self.now c.self.inside c.self.invariant c.self.view_is c.args.slot.0 c.thing_at-key.result.now c.thing_at-key.ensures c.unwrap-object.result.now own
    c.unwrap.result.now (sym (ap option_copied c.unwrap.ensures) ∙ c.get-2.ensures.value)
