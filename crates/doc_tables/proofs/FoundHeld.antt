-- What is held is found by name.
use Rattle.std.proofs.Common.{◌≡◌, ℕ, List, map, Some, sym, ap, subst, ◌∙◌}
use Rattle.std.specs.Prelude.{slice_get}
use Rattle.std.specs.Option.{option_map}
use Rattle.fc_base.specs.Graph.{IsIn}
use Rattle.object_paths.specs.declared.slot_name.SlotName.TheVariants.{Plain}
use Rattle.object_paths.specs.Slots.{same_slot_name}
use Rattle.document_model.specs.Document.{Document, Object, object_named}
use Rattle.document_model.specs.Slots.{Row, rows, row_in}
use Rattle.document_model.proofs.Members.{from_map}
use Rattle.doc_tables.specs.FindsAll.{FindsAll}
use Rattle.doc_tables.specs.Held.{object_held, document_held, numbered_held, IsObjectHeld, IsHeld}
use Rattle.doc_tables.specs.Numbered.{Numbered}
use Rattle.doc_tables.specs.declared.tables.Tables.TheInside.{Inside}
use Rattle.doc_tables.proofs.Finding.{find-map, find-at}
use Rattle.doc_tables.proofs.HeldLemmas.{Named, Owned, all_at, object-found, place-in, row_held, rows-held}

-- the row of a property is found by its name
row-found : (d : Document) (o : Owned) (r : Row) → IsObjectHeld o → IsIn r (rows d (object_held o)) → row_in (rows d (object_held o)) r.name ≡ Some r
row-found d o r held i =
    let all = rows-held d o held in
    let m = from_map row_held o.1.properties.entries r (subst (λ (rs : List Row). IsIn r rs) all i) in
    let e : Named = m.0 in
    let p = place-in o.1.properties.entries e m.1 in
    let found : row_in (rows d (object_held o)) (Plain e.0) ≡ Some (row_held e) =
    ap (λ (rs : List Row). row_in rs (Plain e.0)) all
    ∙ find-map row_held (λ (q : Row). same_slot_name q.name (Plain e.0)) o.1.properties.entries
    ∙ ap (option_map row_held) (find-at (λ (x : Named). x.0) o.1.properties.entries p.0 e held.distinct p.1) in
    subst (λ (q : Row). row_in (rows d (object_held o)) q.name ≡ Some q) (sym m.2) found

module _ (t : Inside) (held : IsHeld t) where
  -- an object of the document is held
  pub record HeldAs (o : Object) : Type 0 where
    pub entry : Owned
    pub place : ℕ
    pub there : slice_get t.objects.entries place ≡ Some entry
    pub object : o ≡ object_held entry

  held-as : (o : Object) → IsIn o (map object_held t.objects.entries) → HeldAs o
  held-as o i =
      let m = from_map object_held t.objects.entries o i in
      let p = place-in t.objects.entries m.0 m.1 in
      record { entry = m.0; place = p.0; there = p.1; object = m.2 }

  all-found : FindsAll (document_held t.objects.entries)
  all-found = record {
    objects = λ o i.
        let h = held-as o i in
        subst (λ (q : Object). object_named (document_held t.objects.entries) q.name ≡ Some q) (sym h.object) (object-found t held h.place h.entry h.there);
    rows = λ o r i j.
        let h = held-as o i in
        let d = document_held t.objects.entries in
        let one = all_at IsObjectHeld t.objects.entries h.place h.entry held.objects h.there in
        subst (λ (q : Object). row_in (rows d q) r.name ≡ Some r) (sym h.object)
        (row-found d h.entry r one (subst (λ (q : Object). IsIn r (rows d q)) h.object j));
  }

-- all that tables show is found by name
pub found-read : (v : Numbered) (t : Inside) → IsHeld t → numbered_held t ≡ v → FindsAll v.document
found-read v t held is = subst (λ (w : Numbered). FindsAll w.document) is (all-found t held)
