use Rattle.std.proofs.Common.{sym}
use Rattle.object_paths.proofs.ReadLemmas.{Reads-found, Reads-refused}
use Rattle.object_paths.specs.PathParts.{path_of}
use Rattle.object_paths.proofs.path.Path.read.Goals as goal

pub returns-clause-found : goal.returns-clause-found
unfolding path_of
returns-clause-found c = rw (sym c.trimmed.ensures) (Reads-found _ _ c.read_trimmed.ensures)

pub returns-clause-refused : goal.returns-clause-refused
unfolding path_of
returns-clause-refused c = rw (sym c.trimmed.ensures) (Reads-refused _ _ c.read_trimmed.ensures)
