use Rattle.std.proofs.Common.{◌≡◌, map, drop}
use denote.Shadow.{shadow}
use denote.Text.{Utf8}
use Rattle.fcdoc_file.specs.Cursor.{each}
use Rattle.fcdoc_file.specs.Reading.{object_at}
use Rattle.fcdoc_file.specs.Rows.{object_of}
use Rattle.fcdoc_file.proofs.ReadingLemmas.{with_front}
use Rattle.fcdoc_file.proofs.reading.read_objects.Given as goal

-- the objects so far, and those of what is left, are those of the whole text
abbrev pub invariant-loop-name : goal.invariant-loop-name
invariant-loop-name l = record {
  text : shadow (Utf8 l.rest);
  so_far : with_front (map object_of l.objects.items) (each object_at (drop l.name-index l.names) l.rest) ≡ each object_at l.names l.text;
}
