-- The parts of a stored machine, and the test for soundness over them. The tests of one number and of one timeslice gather the clauses of
-- document 01's test (`sound`, in rules) that are asked there.
use Rattle.std.specs.Prelude.{ℕ, List, map, Bool, false, ◌&&◌, ◌||◌, ltb, eqb}
use Rattle.std.proofs.Math.Option.{Option, none, some}
use Rattle.rules.specs.declared.Thread.{Thread}
use Rattle.rules.specs.declared.Timeslice.{Timeslice}
use Rattle.rules.specs.declared.Chain.{Chain}
use Rattle.rules.specs.declared.Running.{Running}
use Rattle.rules.specs.declared.Running.TheVariants.{Nothing, Runs}
use Rattle.rules.specs.Tests.{member}
use Rattle.rules.specs.State.{State, limit, thread_at, hold_at, service_at, live_at, owner_at, slice_at, left_at, place_at}
use Rattle.rules.specs.State.{live_thread_count, nothing_runs}
use Rattle.rules.specs.Walk.{no_links, walk_from, verdict}
use Rattle.rules.specs.Release.{in_queue, topmost_at}
use Rattle.rules.specs.Sound.{call_is_served, served_is_calling, link_good, idle_good, thread_free, slice_free, in_range, place_good}
use Rattle.rules.specs.Sound.{spent_good, runs_as, sound}
use Rattle.tables.specs.Timeslices.{slice_of, place_of}
use Rattle.neighbours.specs.Sides.{Sides}
use Rattle.neighbours.specs.Reading.{turns_read}
use Rattle.neighbours.specs.Forming.{entries_free, forms_list}

-- the state that these parts show, with this turn order
abbrev pub parts_of : List Thread → List Timeslice → List ℕ → Running → State
parts_of threads timeslices turns running =
    record {
      threads = threads;
      slices = map slice_of timeslices;
      places = map place_of timeslices;
      order = turns;
      running = running;
    }

-- the owners of these timeslices
abbrev pub owners_in : List Timeslice → List ℕ → List ℕ
owners_in timeslices listed = map (λ t. owner_at (map slice_of timeslices) t) listed

-- the stored form is the only one of its state: a true L, and neighbours that form a list of T timeslices
abbrev pub stored_parts : List Thread → Sides → ℕ → ℕ → Bool
stored_parts threads sides live-threads live = eqb live-threads (live_thread_count threads) && forms_list sides live

-- the whole test
unfoldable pub sound_parts : List Thread → List Timeslice → Sides → ℕ → ℕ → Running → Bool
sound_parts threads timeslices sides live-threads live running =
    stored_parts threads sides live-threads live && sound (parts_of threads timeslices (turns_read sides.after live) running)

-- the clauses about thread n
abbrev pub thread_test : List Thread → ℕ → Bool
thread_test ts n =
    (call_is_served ts n (hold_at ts n) && served_is_calling ts n (service_at ts n))
    && link_good ts n (hold_at ts n)
    && idle_good (thread_at ts n)
    && (live_at ts n || thread_free (thread_at ts n))

-- about the slot of timeslice t
abbrev pub slot_test : List Timeslice → List ℕ → ℕ → Bool
slot_test timeslices turns t =
    (member t turns || slice_free (slice_at (map slice_of timeslices) t))
    && (member t turns || in_queue (place_at (map place_of timeslices) t))

-- about number n
abbrev pub number_test : List Thread → List Timeslice → Sides → List ℕ → ℕ → Bool
number_test threads timeslices sides turns n = entries_free sides turns n && thread_test threads n && slot_test timeslices turns n

-- the chain of timeslice t, where so many links may be followed
abbrev pub chain_within : ℕ → List Thread → List Timeslice → ℕ → Chain
chain_within most threads timeslices t = walk_from most threads (owner_at (map slice_of timeslices) t) no_links

-- the place of timeslice t is true, whatever runs
abbrev pub place_test : List Thread → List Timeslice → List ℕ → ℕ → ℕ → Bool
place_test threads timeslices turns most t =
    place_good (parts_of threads timeslices turns Nothing) t (chain_within most threads timeslices t) (place_at (map place_of timeslices) t)

-- the clauses about timeslice t of the turn order
abbrev pub turn_test : List Thread → List Timeslice → List ℕ → ℕ → ℕ → Bool
turn_test threads timeslices turns most t =
    ltb t limit
    && live_at threads (owner_at (map slice_of timeslices) t)
    && in_range (slice_at (map slice_of timeslices) t)
    && place_test threads timeslices turns most t
    && spent_good (left_at (map slice_of timeslices) t) (place_at (map place_of timeslices) t)

-- q is the current timeslice, and its chain ends at the running thread
abbrev pub runs_on : List Thread → Chain → ℕ → Running → Bool
runs_on threads chain q Nothing = false
runs_on threads chain q (Runs n t count) = eqb t q && runs_as n count chain (verdict threads chain)

-- what runs, by the topmost in Queue
abbrev pub settled_by : List Thread → (ℕ → Chain) → Running → Option ℕ → Bool
settled_by threads chain running none = nothing_runs running
settled_by threads chain running (some q) = runs_on threads (chain q) q running

abbrev pub settled_within : ℕ → List Thread → List Timeslice → List ℕ → Running → Bool
settled_within most threads timeslices turns running =
    settled_by threads (chain_within most threads timeslices) running (topmost_at in_queue (parts_of threads timeslices turns running))
