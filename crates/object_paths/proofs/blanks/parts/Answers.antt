use Rattle.std.proofs.Common.{arith, rules}
use Rattle.std.proofs.lemmas.Iterator.{YieldsList-from_map_by}
use Rattle.std.proofs.lemmas.Iterator.Consumers.{map_from_collect}
use Rattle.std.proofs.lemmas.Iterator.Splits.{YieldsList-from_str_split}
use Rattle.object_paths.specs.PathParts.{trimmed}
use Rattle.object_paths.proofs.blanks.parts.Goals as goal

pub returns : goal.returns
returns c =
    map_from_collect _ c.collect.ensures.ran (YieldsList-from_map_by _ _ trimmed (YieldsList-from_str_split 46 c.args.text.now (omega arith) (cc) (cc) (cc)) c.map.ensures.closure (λ x r q k. search rules))
