use Rattle.std.proofs.Common.{sym, ◌∙◌}
use Rattle.fcdoc_file.proofs.StandingLemmas.{all_told, twice_told, limits_told}
use Rattle.fcdoc_file.proofs.standing.stand_together.Goals as goal
use Rattle.fcdoc_file.proofs.standing.stand_together.Goals.{then-is_within_limits+in_ok-are_distinct, else-is_within_limits}

pub returns-in_ok-all_have_own_names : goal.returns-in_ok-all_have_own_names
returns-in_ok-all_have_own_names c = elim c.if-is_within_limits.branch [
  | then-is_within_limits+in_ok-are_distinct w ↦
      all_told c.args.objects.now w.in_ok-are_distinct.field-0 c.is_within_limits.result c.in_ok-all_have_own_names.field-0
      c.is_within_limits.ensures w.if-is_within_limits.true w.in_ok-are_distinct.ensures (sym w.value-is ∙ c.if-branch.true) c.in_ok-all_have_own_names.ensures
  | else-is_within_limits w ↦ let told = c.if-branch.true in let not_ = w.if-is_within_limits.false in let is = w.value-is in absurd (cc)
]

pub returns-else-branch : goal.returns-else-branch
returns-else-branch c = elim c.if-is_within_limits.branch [
  | then-is_within_limits+in_ok-are_distinct w ↦
      w.value-is ∙ twice_told c.args.objects.now w.in_ok-are_distinct.field-0 w.in_ok-are_distinct.ensures (sym w.value-is ∙ c.if-branch.false)
  | else-is_within_limits w ↦
      c.if-branch.false ∙ sym w.if-is_within_limits.false ∙ limits_told c.args.objects.now c.is_within_limits.result c.is_within_limits.ensures w.if-is_within_limits.false
]
