use Rattle.std.proofs.Common.{◌≡◌, ◌+◌, ◌≤◌, length}
use Rattle.std.specs.Prelude.{string_bytes}
use denote.Text.{Utf8}
use denote.Shadow.{shadow}
use Rattle.fcxml_profile.specs.References.{read, with_front}
use Rattle.fcxml_profile.proofs.ReferenceLemmas.{read_from}
use Rattle.fcxml_profile.proofs.token.AttributeText.read.Given as goal

-- the value so far, and what is read of the rest, are the value of the text
abbrev pub invariant-loop-first : goal.invariant-loop-first
invariant-loop-first l = record {
  text : shadow (Utf8 l.rest);
  within : length l.rest ≤ length l.self.text;
  so_far : with_front (string_bytes l.value) (read_from (l.self.place + length l.self.text) l.rest) ≡ read l.self;
}

abbrev pub decreases-loop-first : goal.decreases-loop-first
decreases-loop-first l = length l.rest
