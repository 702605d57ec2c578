use Rattle.std.proofs.Common.{◌≡◌, Some, map, take}
use Rattle.doc_tables.specs.Numbered.{name_at}
use Rattle.fcdoc_file.specs.Filled.{with_first}
use Rattle.fcdoc_file.specs.Rows.{property_of}
use Rattle.fcdoc_file.proofs.filling.add_object.Given as goal

-- the object stands last, with the properties so far
abbrev pub invariant-loop-property : goal.invariant-loop-property
invariant-loop-property l = record {
  document : l.tables.document ≡ with_first l.fn.tables.document (record { name = l.object.name; properties = map property_of (take l.property-index l.object.properties.items) });
  number : name_at l.tables l.number.0 ≡ Some l.object.name;
}
