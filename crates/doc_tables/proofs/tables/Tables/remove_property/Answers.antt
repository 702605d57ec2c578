use Rattle.std.proofs.Common.{None, refl, sym, ◌∙◌, arith}
use Rattle.doc_tables.proofs.ChangeHeld.{object-there}
use Rattle.doc_tables.proofs.HeldLemmas.{name-used, name-read}
use Rattle.doc_tables.proofs.RemoveHeld.{entry-there, property-held, property-leads}
use Rattle.doc_tables.proofs.tables.Tables.remove_property.Goals as goal

pub thing_at-owner-requires : goal.thing_at-owner-requires
thing_at-owner-requires c = name-used c.args.self.now c.self.inside c.self.invariant c.self.view_is c.args.object.0 c.requires.live

pub unwrap-place-requires : goal.unwrap-place-requires
unwrap-place-requires c = c.get_index_of.ensures.found ∙ object-there c.args.self.now c.self.inside c.self.invariant c.self.view_is c.args.object.0 c.thing_at-owner.result.now (name-read c.args.self.now c.self.inside c.self.invariant c.self.view_is c.args.object.0 c.thing_at-owner.result.now c.thing_at-owner.ensures)

pub take_property-slot-requires-clause-there : goal.take_property-slot-requires-clause-there
take_property-slot-requires-clause-there c =
    entry-there c.args.self.now c.self.inside c.self.invariant c.self.view_is c.args.object.0 c.thing_at-owner.result.now (name-read c.args.self.now c.self.inside c.self.invariant c.self.view_is c.args.object.0 c.thing_at-owner.result.now c.thing_at-owner.ensures)
    c.unwrap-place.result (sym c.get_index_of.ensures.index ∙ c.unwrap-place.ensures) c.args.name.now c.requires.there

pub invariant_of-self : goal.invariant_of-self
invariant_of-self c =
    property-held c.args.self.now c.self.inside c.self.invariant c.self.view_is c.args.object.0 c.thing_at-owner.result.now (name-read c.args.self.now c.self.inside c.self.invariant c.self.view_is c.args.object.0 c.thing_at-owner.result.now c.thing_at-owner.ensures)
    c.unwrap-place.result (sym c.get_index_of.ensures.index ∙ c.unwrap-place.ensures) c.args.name.now c.requires.there
    c.take_property-slot.result c.take_property-slot.ensures.slot
    (record c.self.inside { objects = c.take_property-slot.new.objects; slot_keys = c.release.new.table; free_slot = c.lower-self-inside.result; reached = None }) tt
    c.take_property-slot.ensures.taken refl c.release.ensures.freed (omega (arith, c.release.ensures.len)) refl c.lower-self-inside.ensures refl

pub returns-clause-removed : goal.returns-clause-removed
returns-clause-removed c =
    property-leads c.args.self.now c.self.inside c.self.invariant c.self.view_is c.args.object.0 c.thing_at-owner.result.now (name-read c.args.self.now c.self.inside c.self.invariant c.self.view_is c.args.object.0 c.thing_at-owner.result.now c.thing_at-owner.ensures)
    c.unwrap-place.result (sym c.get_index_of.ensures.index ∙ c.unwrap-place.ensures) c.args.name.now c.requires.there
    c.take_property-slot.result c.take_property-slot.ensures.slot
    (record c.self.inside { objects = c.take_property-slot.new.objects; slot_keys = c.release.new.table; free_slot = c.lower-self-inside.result; reached = None }) tt
    c.take_property-slot.ensures.taken refl c.release.ensures.freed (omega (arith, c.release.ensures.len)) refl c.lower-self-inside.ensures refl
