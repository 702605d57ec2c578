-- One property less.
use Rattle.std.proofs.Common.{◌≡◌, ◌^◌, ◌<◌, ◌≤◌, ℕ, cond, nat_eq, List, [], map, length, sum_by, slice_get, Some, refl, sym, ap, subst, arith}
use Rattle.std.specs.Cmp.Lexicographic.{pointwise}
use Rattle.std.specs.List.{IsDistinct}
use Rattle.object_paths.specs.Slots.{same_text}
use Rattle.document_model.specs.Document.{Object, Property}
use Rattle.document_model.specs.Edited.{without_dynamic, without_property}
use Rattle.doc_tables.specs.Held.{property_held, IsPropertyHeld}
use Rattle.doc_tables.specs.Shown.{Shown, change_at, without_entry}
use Rattle.doc_tables.proofs.ChangeLists.{map-change, length-change, all-change, change-only}
use Rattle.doc_tables.proofs.HeldBy.{object_by, document_by, number_by, IsObjectBy, AreEntries}
use Rattle.doc_tables.proofs.RemoveLists.{left-all, left-distinct, left-filtered, left-length, sum_by-less}

module _ (objects : List Shown) (i : ℕ) (o : Shown) (name : List ℕ) (h : AreEntries objects) where
  abbrev pub one_less : List Shown
  one_less = change_at (without_entry name) i objects

  pub less-numbers : map number_by one_less ≡ map number_by objects
  less-numbers = map-change number_by (without_entry name) (λ x. refl) i objects

  pub less-entries : AreEntries one_less
  less-entries =
      let few : sum_by (λ (x : Shown). length x.2) one_less ≤ sum_by (λ (x : Shown). length x.2) objects = sum_by-less (λ (x : Shown). length x.2) (without_entry name) i objects (λ x. left-length name x.2) in
      record {
        distinct = subst (IsDistinct (pointwise nat_eq)) (sym (map-change (λ (x : Shown). x.0) (without_entry name) (λ x. refl) i objects)) h.distinct;
        objects_held =
            all-change IsObjectBy (without_entry name) i objects
            (λ x there held. record { distinct = left-distinct name x.2 held.distinct; properties = left-all name IsPropertyHeld x.2 held.properties })
            h.objects_held;
        few_objects = subst (λ (n : ℕ). n < 2 ^ 32) (sym (length-change (without_entry name) i objects)) h.few_objects;
        few_slots = omega (arith, few, h.few_slots);
      }

  pub less-document : slice_get objects i ≡ Some o → document_by one_less ≡ without_property (document_by objects) o.0 name
  less-document at = λ j. record {
    objects =
        change-only (λ (x : Shown). x.0) (without_entry name) object_by
        (λ (q : Object). cond (same_text q.name o.0) (without_dynamic name q) q) o.0 IsObjectBy
        (λ x held. ap (λ (q : Object). cond (same_text x.0 o.0) q (object_by x)) (λ k. record (object_by x) { dynamics = sym (left-filtered name property_held (λ (p : Property). p.name) (λ e. refl) x.2 held.distinct) k }))
        objects i o h.objects_held h.distinct at refl j;
    attributes = [];
    before = [];
    between = [];
    after = [];
  }
