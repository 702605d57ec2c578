use Rattle.std.proofs.Common.{None, is_some, refl, sym, ap, ◌∙◌}
use Rattle.doc_tables.proofs.ChangeHeld.{place-there, entry-placed, written-held, written-leads}
use Rattle.doc_tables.proofs.HeldLemmas.{key-used}
use Rattle.doc_tables.proofs.tables.Tables.set_rule.Goals as goal

pub thing_at-key-requires : goal.thing_at-key-requires
thing_at-key-requires c = key-used c.args.self.now c.self.inside c.self.invariant c.self.view_is c.args.slot.0 c.requires.live

pub unwrap-place-requires : goal.unwrap-place-requires
unwrap-place-requires c = ap is_some c.place_of.ensures ∙ place-there c.args.self.now c.self.inside c.self.invariant c.self.view_is c.args.slot.0 c.thing_at-key.result.now c.thing_at-key.ensures

pub put_content-requires : goal.put_content-requires
put_content-requires c =
    entry-placed c.args.self.now c.self.inside c.self.invariant c.self.view_is c.args.slot.0 c.thing_at-key.result.now c.thing_at-key.ensures c.unwrap-place.result (sym c.unwrap-place.ensures ∙ c.place_of.ensures)

pub invariant_of-self : goal.invariant_of-self
invariant_of-self c =
    written-held c.args.self.now c.self.inside c.self.invariant c.self.view_is c.args.slot.0 c.thing_at-key.result.now c.thing_at-key.ensures c.unwrap-place.result (sym c.unwrap-place.ensures ∙ c.place_of.ensures) c.args.rule
    (record c.self.inside { objects = c.put_content.new.objects; reached = None }) c.put_content.ensures refl refl c.requires.references refl refl c.requires.content refl tt

pub returns-clause-set : goal.returns-clause-set
returns-clause-set c =
    written-leads c.args.self.now c.self.inside c.self.invariant c.self.view_is c.args.slot.0 c.thing_at-key.result.now c.thing_at-key.ensures c.unwrap-place.result (sym c.unwrap-place.ensures ∙ c.place_of.ensures) c.args.rule
    (record c.self.inside { objects = c.put_content.new.objects; reached = None }) c.put_content.ensures refl refl
