-- A document without a fault has no fault of any kind, and the other way round.
use Rattle.std.proofs.Common.{◌≡◌, Bool, true, false, ◌||◌, not, [], cond, Some, None, refl, subst}
use Rattle.std.specs.Prelude.{find, Ok, Err}
use Rattle.std.specs.List.{list_any}
use Rattle.std.specs.Option.{option_map, option_or}
use Rattle.fc_base.specs.Graph.{IsIn}
use Rattle.object_paths.specs.declared.slot_name.SlotName.{SlotName}
use Rattle.object_paths.specs.Slots.{Slot}
use Rattle.property_types.specs.declared.prop_type.Sort.{Sort}
use Rattle.expr_tree.specs.References.{Reference, references}
use Rattle.expr_tree.specs.Tree.{Tree}
use Rattle.expr_eval.specs.SortRows.{SortOutcome}
use Rattle.document_model.specs.declared.content.Content.{Content}
use Rattle.document_model.specs.Document.{Document, Object}
use Rattle.document_model.specs.Slots.{Rule, own, bound, inherit, global, output, Row, rows, slot_of, slots, type_of, rule_of}
use Rattle.document_outcomes.specs.Cycles.{is_cyclic, leads_back, HasNoCycle}
use Rattle.document_outcomes.specs.Faults.{object_fault, slot_fault, limit_faults, label_faults, has_taken_label, link_faults, lacks_bounds, reference_fault, reference_faults, lacks_object, is_mirrored, stray_override, is_unknown, has_unknown, cycle_faults, sort_fault, sort_faults, is_outside, range_faults, fault_within_limits, first_fault, IsValid}
use Rattle.document_outcomes.specs.Limits.{has_too_many, has_too_large}
use Rattle.document_outcomes.specs.NoFault.{HasNoFault}
use Rattle.document_outcomes.specs.RefusalNumbers.{label_taken, out_of_range, unknown_reference, cycle, link_kind, too_many}
use Rattle.document_outcomes.specs.Sorts.{sort}
use Rattle.document_outcomes.proofs.SearchLemmas.{or_none, none_or, map_none, none_map, cond_none, or_false, find-none, none-find, any-false, false-any, first_some-none, none-first_some}

not_false : (b : Bool) → not b ≡ false → b ≡ true
not_false true h = refl
not_false false h = absurd (cc)

-- the faults of all kinds
pub record Kinds (d : Document) : Type 0 where
  pub limits : limit_faults d ≡ None
  pub labels : label_faults d ≡ None
  pub links : link_faults d ≡ None
  pub references : reference_faults d ≡ None
  pub cycles : cycle_faults d ≡ None
  pub sorts : sort_faults d ≡ None
  pub ranges : range_faults d ≡ None

valid-kinds : (d : Document) → IsValid d → Kinds d
unfolding first_fault fault_within_limits
valid-kinds d valid =
    let one = or_none (limit_faults d) (fault_within_limits d) valid in
    let two = or_none (label_faults d) (option_or (link_faults d) (option_or (reference_faults d) (option_or (cycle_faults d) (option_or (sort_faults d) (range_faults d))))) one.1 in
    let three = or_none (link_faults d) (option_or (reference_faults d) (option_or (cycle_faults d) (option_or (sort_faults d) (range_faults d)))) two.1 in
    let four = or_none (reference_faults d) (option_or (cycle_faults d) (option_or (sort_faults d) (range_faults d))) three.1 in
    let five = or_none (cycle_faults d) (option_or (sort_faults d) (range_faults d)) four.1 in
    let six = or_none (sort_faults d) (range_faults d) five.1 in
    record { limits = one.0; labels = two.0; links = three.0; references = four.0; cycles = five.0; sorts = six.0; ranges = six.1 }

kinds-valid : (d : Document) → Kinds d → IsValid d
unfolding first_fault fault_within_limits
kinds-valid d k =
    none_or (limit_faults d) (fault_within_limits d) k.limits
    (none_or (label_faults d) _ k.labels (none_or (link_faults d) _ k.links (none_or (reference_faults d) _ k.references
    (none_or (cycle_faults d) _ k.cycles (none_or (sort_faults d) (range_faults d) k.sorts k.ranges)))))

module _ (d : Document) where
  -- the rule of a row has no unknown reference where no expression in it has one
  known-rule :
      (o : Object) (rule : Rule)
      → ((e : Tree) → rule ≡ bound e → (x : Reference) → IsIn x (references e) → is_unknown d o x ≡ false) → has_unknown d o rule ≡ false
  known-rule o (own v) h = refl
  known-rule o (bound e) h = false-any (is_unknown d o) (references e) (h e refl)
  known-rule o (inherit s) h = refl
  known-rule o (global k) h = refl
  known-rule o (output k) h = refl

  rule-known : (o : Object) (rule : Rule) (e : Tree) (x : Reference) → has_unknown d o rule ≡ false → rule ≡ bound e → IsIn x (references e) → is_unknown d o x ≡ false
  rule-known o rule e x h same i =
      any-false (is_unknown d o) (references e) (subst (λ (q : Rule). has_unknown d o q ≡ false) same h) x i

  has_sort : (s : Slot) (found : SortOutcome) → sort_fault s found ≡ None → (k : Sort) × (found ≡ Ok k)
  has_sort s (Ok k) h = (k, refl)
  has_sort s (Err cause) h = absurd (cc)

  no_sort_fault : (s : Slot) (found : SortOutcome) (k : Sort) → found ≡ Ok k → sort_fault s found ≡ None
  no_sort_fault s (Ok k) j h = refl
  no_sort_fault s (Err cause) j h = absurd (cc)

  pub valid-no_fault : IsValid d → HasNoFault d
  valid-no_fault valid =
      let k = valid-kinds d valid in
      let limits = or_false (has_too_many d) (has_too_large d) (cond_none (has_too_many d || has_too_large d) (record { number = too_many; subject = [] }) k.limits) in
      let link = find-none (λ (o : Object). leads_back d o || list_any (lacks_bounds d) o.members) d.objects (map_none (object_fault link_kind) (find (λ (o : Object). leads_back d o || list_any (lacks_bounds d) o.members) d.objects) k.links) in
      let each_link : (o : Object) → IsIn o d.objects → (leads_back d o ≡ false) × (list_any (lacks_bounds d) o.members ≡ false) = λ o i. or_false (leads_back d o) (list_any (lacks_bounds d) o.members) (link o i) in
      let part = λ (o : Object) (i : IsIn o d.objects).
      or_none (cond (lacks_object d o) (Some (object_fault unknown_reference o)) None)
      (option_or (option_map (λ (e : SlotName × Content). slot_fault unknown_reference (slot_of o e.0)) (stray_override d o))
      (option_map (λ (r : Row). slot_fault unknown_reference (slot_of o r.name)) (find (λ (r : Row). has_unknown d o r.rule) (rows d o))))
      (first_some-none (reference_fault d) d.objects k.references o i) in
      let rest = λ (o : Object) (i : IsIn o d.objects).
      or_none (option_map (λ (e : SlotName × Content). slot_fault unknown_reference (slot_of o e.0)) (stray_override d o))
      (option_map (λ (r : Row). slot_fault unknown_reference (slot_of o r.name)) (find (λ (r : Row). has_unknown d o r.rule) (rows d o)))
      (part o i).1 in
      record {
        counts = limits.0;
        sizes = limits.1;
        labels = find-none (has_taken_label d) d.objects (map_none (object_fault label_taken) (find (has_taken_label d) d.objects) k.labels);
        links = λ o i. (each_link o i).0;
        members = λ o i name j. any-false (lacks_bounds d) o.members (each_link o i).1 name j;
        objects = λ o i. cond_none (lacks_object d o) (object_fault unknown_reference o) (part o i).0;
        overrides = λ o i e j.
            not_false (is_mirrored d o e.0)
            (find-none (λ (q : SlotName × Content). not (is_mirrored d o q.0)) o.overrides
            (map_none (λ (q : SlotName × Content). slot_fault unknown_reference (slot_of o q.0)) (stray_override d o) (rest o i).0) e j);
        references = λ o i r j e same x h.
            rule-known o r.rule e x
            (find-none (λ (q : Row). has_unknown d o q.rule) (rows d o)
            (map_none (λ (q : Row). slot_fault unknown_reference (slot_of o q.name)) (find (λ (q : Row). has_unknown d o q.rule) (rows d o)) (rest o i).1) r j) same h;
        cycles = find-none (is_cyclic d) (slots d) (map_none (slot_fault cycle) (find (is_cyclic d) (slots d)) k.cycles);
        sorts = λ s i. has_sort s (sort d s) (first_some-none (λ (t : Slot). sort_fault t (sort d t)) (slots d) k.sorts s i);
        values =
            find-none (λ (s : Slot). is_outside (type_of d s) (rule_of d s)) (slots d)
            (map_none (slot_fault out_of_range) (find (λ (s : Slot). is_outside (type_of d s) (rule_of d s)) (slots d)) k.ranges);
      }

  module _ (h : HasNoFault d) where
    no_reference_fault : (o : Object) → IsIn o d.objects → reference_fault d o ≡ None
    no_reference_fault o i =
        rw (h.objects o i)
        (none_or (option_map (λ (e : SlotName × Content). slot_fault unknown_reference (slot_of o e.0)) (stray_override d o)) _
        (none_map _ (stray_override d o)
        (none-find (λ (e : SlotName × Content). not (is_mirrored d o e.0)) o.overrides (λ e j. rw (h.overrides o i e j))))
        (none_map _ (find (λ (r : Row). has_unknown d o r.rule) (rows d o))
        (none-find (λ (r : Row). has_unknown d o r.rule) (rows d o) (λ r j. known-rule o r.rule (h.references o i r j)))))

    pub no_fault-valid : IsValid d
    no_fault-valid = kinds-valid d (record {
      limits = rw (h.counts, h.sizes);
      labels = none_map _ (find (has_taken_label d) d.objects) (none-find (has_taken_label d) d.objects h.labels);
      links =
          none_map _ (find (λ (o : Object). leads_back d o || list_any (lacks_bounds d) o.members) d.objects)
          (none-find (λ (o : Object). leads_back d o || list_any (lacks_bounds d) o.members) d.objects
          (λ o i. rw (h.links o i, false-any (lacks_bounds d) o.members (h.members o i))));
      references = none-first_some (reference_fault d) d.objects no_reference_fault;
      cycles = none_map _ (find (is_cyclic d) (slots d)) (none-find (is_cyclic d) (slots d) h.cycles);
      sorts = none-first_some (λ (s : Slot). sort_fault s (sort d s)) (slots d) (λ s i. let k = h.sorts s i in no_sort_fault s (sort d s) k.0 k.1);
      ranges =
          none_map _ (find (λ (s : Slot). is_outside (type_of d s) (rule_of d s)) (slots d))
          (none-find (λ (s : Slot). is_outside (type_of d s) (rule_of d s)) (slots d) h.values);
    })

pub valid-no_cycle : (d : Document) → IsValid d → HasNoCycle d
valid-no_cycle d valid = (valid-no_fault d valid).cycles
