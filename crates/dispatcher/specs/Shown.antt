-- How a stored machine shows the state that document 01's rules speak of, and which stored machines are sound.
use Rattle.std.specs.Prelude.{ℕ, Bool, ◌&&◌, List, ◌∷◌, [], ◌++◌, replicate}
use Rattle.rules.specs.declared.Running.TheVariants.{Nothing}
use Rattle.rules.specs.State.{State, limit, free_thread}
use Rattle.rules.specs.Sound.{sound}
use Rattle.tables.specs.Timeslices.{free_timeslice}
use Rattle.neighbours.specs.Sides.{Sides, sides, sentinel, unlisted}
use Rattle.neighbours.specs.Reading.{turns_read, laid_out}
use Rattle.soundness.specs.Parts.{parts_of, stored_parts}
use Rattle.dispatcher.specs.declared.Machine.{Machine}

-- no timeslice is listed: the list's own entry is its own neighbour
abbrev pub empty_side : List ℕ
empty_side = replicate limit unlisted ++ (sentinel ∷ [])

-- "The empty machine has no thread, no timeslice and nothing running."
abbrev pub empty_machine : Machine
empty_machine =
    record {
      threads = replicate limit free_thread;
      timeslices = replicate limit free_timeslice;
      before = empty_side;
      after = empty_side;
      live_threads = 0;
      live_timeslices = 0;
      running = Nothing;
    }

-- the neighbours of each timeslice
abbrev pub sides_of : Machine → Sides
sides_of m = sides m.before m.after

-- the turn order from its front, in an array of which the first entries are live
abbrev pub turns_of : Machine → List ℕ
turns_of m = laid_out m.after m.live_timeslices

-- the state that a stored machine shows: document 02, [8], "the list read from the neighbours" is its turn order
abbrev pub shown : Machine → State
shown m = parts_of m.threads m.timeslices (turns_read m.after m.live_timeslices) m.running

-- the stored form is the only one of its state
unfoldable pub stored : Machine → Bool
stored m = stored_parts m.threads (sides_of m) m.live_threads m.live_timeslices

unfoldable pub sound_machine : Machine → Bool
sound_machine m = stored m && sound (shown m)
