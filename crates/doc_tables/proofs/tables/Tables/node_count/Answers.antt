use Rattle.std.proofs.Common.{ℕ, min, sym, ap, ◌∙◌}
use Rattle.doc_tables.proofs.CountLemmas.{nodes-read}
use Rattle.doc_tables.proofs.tables.Tables.node_count.Goals as goal

pub returns : goal.returns
returns c = c.nodes_of_objects.ensures ∙ ap (λ (n : ℕ). min n 4294967295) (sym (nodes-read c.args.self.now c.self.inside c.self.view_is))
