use Rattle.std.proofs.Common.{◌≡◌, ◌+◌, ◌-◌}
use denote.Shadow.{shadow}
use denote.Text.{Utf8}
use Rattle.fcdoc_file.specs.Cursor.{each, numbers}
use Rattle.fcdoc_file.specs.Reading.{declared_at}
use Rattle.fcdoc_file.proofs.ReadingLemmas.{with_front}
use Rattle.fcdoc_file.proofs.reading.read_list.Given as goal

-- the names so far, and those of what is left, are those of the whole text
abbrev pub invariant-loop-place : goal.invariant-loop-place
invariant-loop-place l = record {
  text : shadow (Utf8 l.rest);
  so_far : with_front (l.names.items) (each declared_at (numbers (1 + l.place) (l.count - l.place)) l.rest)
      ≡ each declared_at (numbers 1 l.count) l.text;
}
