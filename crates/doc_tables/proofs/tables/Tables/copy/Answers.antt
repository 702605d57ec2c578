use Rattle.std.proofs.Common.{None, refl}
use Rattle.doc_tables.proofs.ChangeHeld.{kept-held, kept-view}
use Rattle.doc_tables.proofs.tables.Tables.copy.Goals as goal

pub invariant_of-result : goal.invariant_of-result
invariant_of-result c =
    kept-held c.args.self.now c.self.inside c.self.invariant c.self.view_is (record c.self.inside { objects = c.in_ok-objects.objects; object_names = c.in_ok-object_names.object_names; slot_keys = c.in_ok-slot_keys.slot_keys; by_label = c.in_ok-by_label.by_label; reached = None })
    c.in_ok-objects.ensures c.in_ok-object_names.ensures c.in_ok-slot_keys.ensures refl refl c.in_ok-by_label.ensures tt

pub returns : goal.returns
returns c =
    kept-view c.args.self.now c.self.inside c.self.invariant c.self.view_is (record c.self.inside { objects = c.in_ok-objects.objects; object_names = c.in_ok-object_names.object_names; slot_keys = c.in_ok-slot_keys.slot_keys; by_label = c.in_ok-by_label.by_label; reached = None })
    c.in_ok-objects.ensures c.in_ok-object_names.ensures c.in_ok-slot_keys.ensures refl refl c.in_ok-by_label.ensures
