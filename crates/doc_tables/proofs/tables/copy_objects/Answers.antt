use Rattle.std.proofs.Common.{◌≡◌, List, ℕ, None, nat_eq, ◌++◌, map, sym, ap, subst, ◌∙◌}
use Rattle.std.specs.Cmp.Lexicographic.{pointwise}
use Rattle.std.specs.Map.{lookup}
use Rattle.doc_tables.specs.Shown.{shown}
use Rattle.doc_tables.proofs.CopyLemmas.{later-object}
use Rattle.doc_tables.proofs.HeldLemmas.{Owned}
use Rattle.doc_tables.proofs.tables.copy_objects.Goals as goal

pub insert_object-requires : goal.insert_object-requires
insert_object-requires c =
    let so_far = c.loop-name.copies.entries in
    let e : Owned = (c.in-Some.name.now, c.in-Some.entry.now) in
    subst (λ (name : List ℕ). lookup (pointwise nat_eq name) so_far ≡ None) (sym c.in_ok-name.ensures)
    (later-object so_far c.next.new.self c.args.objects.now.entries e
    (sym (ap (λ (l : List Owned). map shown so_far ++ map shown l) c.in-Some.ensures.steps) ∙ c.loop-name.invariant) c.into_iter-name-iterator.ensures.into_iter_gives.4)
