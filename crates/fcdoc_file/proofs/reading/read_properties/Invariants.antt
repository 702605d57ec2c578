use Rattle.std.proofs.Common.{◌≡◌, map, ◌+◌, ◌-◌}
use denote.Shadow.{shadow}
use denote.Text.{Utf8}
use Rattle.fcdoc_file.specs.Cursor.{each, numbers}
use Rattle.fcdoc_file.specs.Reading.{property_at}
use Rattle.fcdoc_file.specs.Rows.{property_of}
use Rattle.fcdoc_file.proofs.ReadingLemmas.{with_front}
use Rattle.fcdoc_file.proofs.reading.read_properties.Given as goal

-- the properties so far, and those of what is left, are those of the whole text
abbrev pub invariant-loop : goal.invariant-loop
invariant-loop l = record {
  text : shadow (Utf8 l.rest);
  so_far : with_front (map property_of l.properties.items) (each (λ _. property_at) (numbers (1 + l.counter) (l.count - l.counter)) l.rest)
      ≡ each (λ _. property_at) (numbers 1 l.count) l.text;
}
