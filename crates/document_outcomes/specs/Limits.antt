-- Documents that are too large.
use Rattle.std.specs.Prelude.{Bool, ◌||◌, nat_lt, length}
use Rattle.std.specs.List.{list_any}
use Rattle.expr_grammar.specs.Large.{is_too_large}
use Rattle.document_model.specs.Counts.{expressions, slots_and_empty_cells, nodes_of_document, dependencies_of_document}
use Rattle.document_model.specs.Document.{Document}
use Rattle.document_model.specs.Limits.{most_objects, most_slots, most_nodes, most_dependencies}

-- an expression of the document is too large
abbrev pub has_too_large : Document → Bool
has_too_large d = list_any is_too_large (expressions d)

-- the document passes a limit other than that of one expression
abbrev pub has_too_many : Document → Bool
has_too_many d =
    nat_lt most_objects (length d.objects) || nat_lt most_slots (slots_and_empty_cells d)
    || nat_lt most_nodes (nodes_of_document d) || nat_lt most_dependencies (dependencies_of_document d)
