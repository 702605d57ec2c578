use Rattle.std.proofs.Common.{◌≡◌, map, take}
use Rattle.fcdoc_file.specs.FirstDocument.{first_document}
use Rattle.fcdoc_file.specs.Rows.{object_of}
use Rattle.fcdoc_file.proofs.filling.tables_of.Given as goal

-- the document of the objects so far
abbrev pub invariant-loop-object : goal.invariant-loop-object
invariant-loop-object l = l.tables.document ≡ first_document (map object_of (take l.object-index l.objects))
