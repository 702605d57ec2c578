use Rattle.fcdoc_core.proofs.LabelLemmas.{label_fits, label_boundary, label_path}
use Rattle.fcdoc_core.proofs.cutting.cut_path.Goals as goal

pub overflow_sub-text : goal.overflow_sub-text
overflow_sub-text c =
    label_fits c.args.text.now c.in-Some-until_closing.behind.now c.in-Some.opened.now c.in-Some-until_closing.field-0-0.now c.in-Some.ensures c.in-Some-until_closing.ensures

pub split_at-requires : goal.split_at-requires
split_at-requires c =
    label_boundary c.args.text.now c.in-Some-until_closing.behind.now c.in-Some.opened.now c.in-Some-until_closing.field-0-0.now c.in-Some.ensures c.in-Some-until_closing.ensures
    c.cut_word-2.result.0.now c.cut_word-2.ensures.first

pub returns-clause-first : goal.returns-clause-first
returns-clause-first c =
    label_path c.args.text.now c.in-Some-until_closing.behind.now c.in-Some.opened.now c.in-Some-until_closing.field-0-0.now c.in-Some.ensures c.in-Some-until_closing.ensures
    c.cut_word-2.result.0.now c.split_at.result.0.now c.cut_word-2.ensures.first c.split_at.ensures.front
