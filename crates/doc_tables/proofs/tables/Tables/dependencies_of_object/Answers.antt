use Rattle.std.proofs.Common.{ℕ, min, sym, ap, ◌∙◌}
use Rattle.std.specs.Option.{option_map}
use Rattle.std.specs.Map.Iter.{deref_pair}
use Rattle.doc_tables.proofs.CountLemmas.{object-counted, none-counted, number-used}
use Rattle.doc_tables.proofs.HeldLemmas.{Owned}
use Rattle.doc_tables.proofs.tables.Tables.dependencies_of_object.Goals as goal

pub reached_of_properties-requires : goal.reached_of_properties-requires
reached_of_properties-requires c =
    let o : Owned = (c.in-Some.field-0-0.now, c.in-Some.entry.now) in
    number-used c.args.self.now c.self.inside c.self.invariant c.self.view_is c.args.place o (sym (ap (option_map deref_pair) c.in-Some.is) ∙ c.get_index.ensures.entry)

pub returns-in-Some : goal.returns-in-Some
returns-in-Some c =
    let o : Owned = (c.in-Some.field-0-0.now, c.in-Some.entry.now) in
    c.reached_of_properties.ensures
    ∙ ap (λ (n : ℕ). min n 18446744073709551615)
    (object-counted c.args.self.now c.self.inside c.self.invariant c.self.view_is c.args.place o (sym (ap (option_map deref_pair) c.in-Some.is) ∙ c.get_index.ensures.entry))

pub returns-in-None : goal.returns-in-None
returns-in-None c =
    ap (λ (n : ℕ). min n 18446744073709551615)
    (none-counted c.args.self.now c.self.inside c.self.invariant c.self.view_is c.args.place (sym (ap (option_map deref_pair) c.in-None.is) ∙ c.get_index.ensures.entry))
