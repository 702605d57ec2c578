use Rattle.std.proofs.Common.{[], ◌∷◌}
use Rattle.std.proofs.lemmas.Str.Pattern.{contains_text}
use Rattle.std.proofs.lemmas.Bool.Decides.{same_from_decides}
use Rattle.fc_base.proofs.TextLemmas.{has_closing_mark-found, has_closing_mark-from}
use Rattle.fc_base.proofs.label.has_closing_mark.Goals as goal

pub returns : goal.returns
returns c =
    same_from_decides _ _ (contains_text _ (62 ∷ 62 ∷ []) c.args.text.now c.contains.ensures.cases) (has_closing_mark-found c.args.text.now, has_closing_mark-from c.args.text.now)
