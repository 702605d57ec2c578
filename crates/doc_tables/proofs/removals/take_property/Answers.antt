use Rattle.std.proofs.Common.{List, Option, Some, IfSome, IsSome, nat_eq, is_some, ap, sym, subst, ◌≡◌, ◌∙◌}
use Rattle.std.specs.Cmp.Lexicographic.{pointwise}
use Rattle.std.specs.Option.{option_map}
use Rattle.indexmap.specs.IndexMap.{get}
use Rattle.doc_tables.specs.Shown.{without_entry}
use Rattle.doc_tables.specs.declared.entry.PropertyEntry.{PropertyEntry}
use Rattle.doc_tables.proofs.HeldLemmas.{Named, Owned}
use Rattle.doc_tables.proofs.ShownLemmas.{keyed, set-shown}
use Rattle.doc_tables.proofs.removals.take_property.Goals as goal

pub unwrap-entry-requires : goal.unwrap-entry-requires
unwrap-entry-requires c =
    let k = keyed c.args.objects.now.entries c.args.place c.index_mut-object.result.now c.index_mut-object.ensures.value in
    ap is_some c.shift_remove.ensures.value
    ∙ subst (λ (r : Option Owned). IfSome r (λ (x : Owned). IsSome (get (pointwise nat_eq) x.1.properties c.args.name.now))) k.1 c.requires.there

pub returns-clause-taken : goal.returns-clause-taken
returns-clause-taken c =
    let old = c.index_mut-object.result.now in
    set-shown (without_entry c.args.name.now) c.args.objects.now.entries c.args.place old _ c.index_mut-object.ensures.value
    (λ k. ap (λ (l : List Named). (k, old.label, l, old.number.0)) c.shift_remove.ensures.entries)

pub returns-clause-slot : goal.returns-clause-slot
returns-clause-slot c =
    let old = c.index_mut-object.result.now in
    let k = keyed c.args.objects.now.entries c.args.place old c.index_mut-object.ensures.value in
    subst (λ (r : Option Owned). IfSome r (λ (x : Owned). Some c.unwrap-entry.result.slot ≡ option_map (λ (e : PropertyEntry). e.slot) (get (pointwise nat_eq) x.1.properties c.args.name.now))) (sym k.1)
    (ap (option_map (λ (e : PropertyEntry). e.slot)) (sym c.unwrap-entry.ensures ∙ c.shift_remove.ensures.value))
