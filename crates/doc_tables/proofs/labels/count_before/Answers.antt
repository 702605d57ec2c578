use Rattle.std.proofs.Common.{◌≡◌, not, List, sym, ap, subst, arith, rules, of_calls}
use Rattle.std.specs.List.{position_or_len}
use Rattle.std.specs.List.Sorted.{IsPartitionedBy}
use Rattle.std.proofs.lemmas.Fn.{always_returns_same}
use Rattle.std.proofs.lemmas.List.Sums.{position_or_len_is}
use Rattle.fc_base.specs.declared.ids.ObjectId.{ObjectId}
use Rattle.doc_tables.specs.Labels.{stands_before}
use Rattle.doc_tables.proofs.labels.count_before.Goals as goal

pub returns-clause-bound : goal.returns-clause-bound
returns-clause-bound c = omega (arith, c.partition_point.ensures.bound, c.as_slice.ensures.len)

pub returns-clause-value : goal.returns-clause-value
returns-clause-value c =
    let test = stands_before c.args.names.now.items c.args.objects.now.entries c.args.equal c.args.text.now in
    subst (λ (l : List ObjectId). IsPartitionedBy test l → c.partition_point.result ≡ position_or_len (λ id. not (test id)) l) c.as_slice.ensures.value
    (λ parted.
    let point = c.partition_point.ensures.partitioned test (always_returns_same _ _ _ (λ a r f k. search (rules, of_calls))) parted in
    let d : ObjectId = record { 0 = 0 } in
    sym (position_or_len_is (λ id. not (test id)) c.as_slice.result.now c.partition_point.result d c.partition_point.ensures.bound (λ k l. ap not (point.0 k d (omega arith) l)) (λ l. ap not (point.1 c.partition_point.result d (omega arith) l))))
