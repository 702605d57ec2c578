use Rattle.std.proofs.Common.{◌≡◌, map, drop}
use Rattle.std.specs.List.{list_all}
use Rattle.fcdoc_file.specs.FirstForm.{has_own_names}
use Rattle.fcdoc_file.specs.Rows.{object_of}
use Rattle.fcdoc_file.proofs.standing.all_have_own_names.Given as goal

-- each has, where each that is left has
abbrev pub invariant-loop-object : goal.invariant-loop-object
invariant-loop-object l = list_all has_own_names (map object_of (drop l.object-index l.objects)) ≡ list_all has_own_names (map object_of l.objects)
