use Rattle.std.proofs.Common.{◌≡◌, List, ℕ, None, nat_eq, ◌++◌, sym, ap, subst, ◌∙◌}
use Rattle.std.specs.Cmp.Lexicographic.{pointwise}
use Rattle.std.specs.Map.{lookup}
use Rattle.doc_tables.proofs.CopyLemmas.{later-property}
use Rattle.doc_tables.proofs.HeldLemmas.{Named}
use Rattle.doc_tables.proofs.tables.copy_properties.Goals as goal

pub insert_property-requires : goal.insert_property-requires
insert_property-requires c =
    let so_far = c.loop-name.copies.entries in
    let e : Named = (c.in-Some.name.now, c.in-Some.entry.now) in
    subst (λ (name : List ℕ). lookup (pointwise nat_eq name) so_far ≡ None) (sym c.in_ok-name.ensures)
    (later-property so_far c.next.new.self c.args.properties.now.entries e
    (sym (ap (λ (l : List Named). so_far ++ l) c.in-Some.ensures.steps) ∙ c.loop-name.invariant) c.into_iter-name-iterator.ensures.into_iter_gives.4)
