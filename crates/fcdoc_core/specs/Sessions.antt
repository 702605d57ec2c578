-- How a session stands for a state of the machine.
use Rattle.std.specs.Prelude.{◌≡◌, true}
use Rattle.document_outcomes.specs.Faults.{IsValid}
use Rattle.document_outcomes.specs.Typed.{no_features}
use Rattle.recompute.specs.Kept.{AreFull, entries}
use Rattle.fcdoc_core.specs.declared.session.Session.TheInside.{Inside}
use Rattle.fcdoc_core.specs.Machine.{State, SessionView, session_of}

-- the state that a session stands for: the entries of the features are those that its values keep
abbrev pub state_held : Inside → State
state_held s = record { now = s.tables.document; last = entries s.values.last; clean = s.clean }

-- what a session is seen as: no feature is handed to one yet
abbrev pub view_held : Inside → SessionView
view_held s = session_of (state_held s)

-- The document is valid, and where there was no edit since the last recompute the outcomes that are
-- kept are the full ones.
pub record IsSession (s : Inside) : Type 0 where
  pub valid : IsValid s.tables.document
  pub outcomes : s.clean ≡ true → AreFull no_features s.tables s.values.outcomes
