-- Some of the events of a file that are left from an offset on, run from a stored machine on.
use Rattle.std.specs.Prelude.{ℕ, ◌≡◌, List, true, take, drop}
use Rattle.rules.specs.declared.Event.{Event}
use Rattle.rules.specs.State.{State}
use Rattle.rules.specs.Events.{Answered}
use Rattle.rules.specs.Lists.{run, after, links_in_all}
use Rattle.event_file.specs.Left.{events_at, Left}
use Rattle.dispatcher.specs.declared.Machine.{Machine}
use Rattle.dispatcher.specs.Shown.{shown, sound_machine}
use Rattle.replay.specs.declared.Ran.{Ran}

-- what a command that runs events answers: never refused, with "the links followed by these events in all"
abbrev pub after_run : List Event → State → Answered
after_run es s = record { state = after es s; refusal = 0; links = links_in_all (run es s) }

-- events are left from the offset on, and the machine is sound
pub record Ready (file : List ℕ) (offset : ℕ) (m : Machine) : Type 0 where
  pub left : Left file offset (events_at offset file)
  pub sound : sound_machine m ≡ true

-- the next n of the events that are left have been dispatched
pub record RanOn (file : List ℕ) (offset : ℕ) (m : Machine) (n : ℕ) (r : Ran) : Type 0 where
  pub state : shown r.machine ≡ after (take n (events_at offset file)) (shown m)
  pub links : r.links ≡ links_in_all (run (take n (events_at offset file)) (shown m))
  pub left : Left file r.offset (drop n (events_at offset file))
  pub sound : sound_machine r.machine ≡ true
