use Rattle.std.proofs.Common.{None, is_some, sym, ap, ◌∙◌, arith}
use Rattle.doc_tables.proofs.ChangeHeld.{keys-used}
use Rattle.doc_tables.proofs.HeldLemmas.{name-used, name-read}
use Rattle.doc_tables.proofs.RemoveHeld.{object-looked, object-removed, object-leads}
use Rattle.doc_tables.proofs.tables.Tables.remove_object.Goals as goal

pub thing_at-owner-requires : goal.thing_at-owner-requires
thing_at-owner-requires c = name-used c.args.self.now c.self.inside c.self.invariant c.self.view_is c.args.object.0 c.requires

pub unwrap-entry-requires : goal.unwrap-entry-requires
unwrap-entry-requires c = ap is_some c.shift_remove.ensures.value ∙ object-looked c.args.self.now c.self.inside c.self.invariant c.self.view_is c.args.object.0 c.thing_at-owner.result.now (name-read c.args.self.now c.self.inside c.self.invariant c.self.view_is c.args.object.0 c.thing_at-owner.result.now c.thing_at-owner.ensures)

pub release_slots-self-inside-requires : goal.release_slots-self-inside-requires
release_slots-self-inside-requires c = keys-used c.args.self.now c.self.inside c.self.invariant c.self.view_is

pub invariant_of-self : goal.invariant_of-self
invariant_of-self c =
    object-removed c.args.self.now c.self.inside c.self.invariant c.self.view_is c.args.object.0 c.thing_at-owner.result.now (name-read c.args.self.now c.self.inside c.self.invariant c.self.view_is c.args.object.0 c.thing_at-owner.result.now c.thing_at-owner.ensures)
    c.unwrap-entry.result (sym c.unwrap-entry.ensures ∙ c.shift_remove.ensures.value)
    (record { objects = c.shift_remove.new.self; object_names = c.release.new.table; slot_keys = c.release_slots-self-inside.new.keys; by_label = c.take_number.new.by_label; free_object = c.lower-self-inside.result; free_slot = c.release_slots-self-inside.result; reached = None }) tt
    c.shift_remove.ensures.entries c.shift_remove.ensures.unique c.release.ensures.freed (omega (arith, c.release.ensures.len)) c.release_slots-self-inside.ensures.freed (omega (arith, c.release_slots-self-inside.ensures.len)) c.lower-self-inside.ensures c.release_slots-self-inside.ensures.used c.take_number.ensures

pub returns-clause-removed : goal.returns-clause-removed
returns-clause-removed c =
    object-leads c.args.self.now c.self.inside c.self.invariant c.self.view_is c.args.object.0 c.thing_at-owner.result.now (name-read c.args.self.now c.self.inside c.self.invariant c.self.view_is c.args.object.0 c.thing_at-owner.result.now c.thing_at-owner.ensures)
    c.unwrap-entry.result (sym c.unwrap-entry.ensures ∙ c.shift_remove.ensures.value)
    (record { objects = c.shift_remove.new.self; object_names = c.release.new.table; slot_keys = c.release_slots-self-inside.new.keys; by_label = c.take_number.new.by_label; free_object = c.lower-self-inside.result; free_slot = c.release_slots-self-inside.result; reached = None }) tt
    c.shift_remove.ensures.entries c.shift_remove.ensures.unique c.release.ensures.freed (omega (arith, c.release.ensures.len)) c.release_slots-self-inside.ensures.freed (omega (arith, c.release_slots-self-inside.ensures.len)) c.lower-self-inside.ensures c.release_slots-self-inside.ensures.used c.take_number.ensures
