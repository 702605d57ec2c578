use Rattle.std.proofs.Common.{◌≡◌, ◌+◌, length, take, sum_by}
use Rattle.fcdoc_file.proofs.standing.is_within_limits.Given as goal

-- so many may still come
abbrev pub invariant-loop-object : goal.invariant-loop-object
invariant-loop-object l = l.left + sum_by (λ o. length o.properties.items) (take l.object-index l.objects) ≡ 65536
