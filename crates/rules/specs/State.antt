-- Document 01, "What belongs to the machine". `State` is what the rules speak of; how a stored machine shows it is said in crate
-- dispatcher.
use Rattle.std.specs.Prelude.{ℕ, zero, suc, List, [], ◌∷◌, Bool, true, false, length, get_or, replicate}
use Rattle.std.proofs.Math.Option.{Option, none, some}
use Rattle.rules.specs.declared.Role.TheVariants.{Client}
use Rattle.rules.specs.declared.Hold.{Hold}
use Rattle.rules.specs.declared.Hold.TheVariants.{Ready}
use Rattle.rules.specs.declared.Service.{Service}
use Rattle.rules.specs.declared.Service.TheVariants.{Nobody}
use Rattle.rules.specs.declared.Thread.{Thread}
use Rattle.rules.specs.declared.Slice.{Slice}
use Rattle.rules.specs.declared.Place.{Place}
use Rattle.rules.specs.declared.Place.TheVariants.{Queue}
use Rattle.rules.specs.declared.Running.{Running}
use Rattle.rules.specs.declared.Running.TheVariants.{Nothing, Runs}

-- the dispatcher's machine: the turn order as a list; `running` holds the running thread, the current timeslice and the donation count
pub record State : Type 0 where
  pub threads : List Thread
  pub slices : List Slice
  pub places : List Place
  pub order : List ℕ
  pub running : Running

-- the plain machine: "the timeslices without places"
pub record Plain : Type 0 where
  pub threads : List Thread
  pub slices : List Slice
  pub order : List ℕ
  pub running : Running

-- a machine without its places
abbrev pub forget : State → Plain
forget s = record { threads = s.threads; slices = s.slices; order = s.order; running = s.running }

-- "Thread numbers run from 0 to 127, timeslice numbers likewise"
abbrev pub limit : ℕ
limit = 128

-- "Free slots hold one fixed value"
abbrev pub free_thread : Thread
free_thread = record { live = false; role = Client; hold = Ready; service = Nobody }

abbrev pub free_slice : Slice
free_slice = record { owner = 0; priority = 0; quantum = 0; left = 0 }

abbrev pub free_place : Place
free_place = Queue

-- "The empty machine has no thread, no timeslice and nothing running"
abbrev pub empty : State
empty =
    record {
      threads = replicate limit free_thread;
      slices = replicate limit free_slice;
      places = replicate limit free_place;
      order = [];
      running = Nothing;
    }

-- what stands in the tables at a number; past the end the free value
abbrev pub thread_at : List Thread → ℕ → Thread
thread_at ts n = get_or ts n free_thread

abbrev pub hold_at : List Thread → ℕ → Hold
hold_at ts n = (thread_at ts n).hold

abbrev pub service_at : List Thread → ℕ → Service
service_at ts n = (thread_at ts n).service

abbrev pub live_at : List Thread → ℕ → Bool
live_at ts n = (thread_at ts n).live

abbrev pub slice_at : List Slice → ℕ → Slice
slice_at ss t = get_or ss t free_slice

abbrev pub owner_at : List Slice → ℕ → ℕ
owner_at ss t = (slice_at ss t).owner

abbrev pub priority_at : List Slice → ℕ → ℕ
priority_at ss t = (slice_at ss t).priority

abbrev pub left_at : List Slice → ℕ → ℕ
left_at ss t = (slice_at ss t).left

abbrev pub place_at : List Place → ℕ → Place
place_at ps t = get_or ps t free_place

-- L, the number of live threads
abbrev pub one_more_if : Bool → ℕ → ℕ
one_more_if true n = suc n
one_more_if false n = n

unfoldable pub live_thread_count : List Thread → ℕ
live_thread_count [] = zero
live_thread_count (t ∷ ts) = one_more_if t.live (live_thread_count ts)

-- T, the number of live timeslices: "the turn order lists each live timeslice once"
abbrev pub live_timeslice_count : List ℕ → ℕ
live_timeslice_count order = length order

-- the running thread and the current timeslice, 0 while nothing runs
abbrev pub nothing_runs : Running → Bool
nothing_runs Nothing = true
nothing_runs (Runs n t c) = false

abbrev pub running_thread : Running → ℕ
running_thread Nothing = 0
running_thread (Runs n t c) = n

abbrev pub current_timeslice : Running → ℕ
current_timeslice Nothing = 0
current_timeslice (Runs n t c) = t

-- the values of what runs: "The paying timeslice is the current one, none while nothing runs", and the count is 0 then
abbrev pub who_runs : Running → Option ℕ
who_runs Nothing = none
who_runs (Runs n t c) = some n

abbrev pub who_pays : Running → Option ℕ
who_pays Nothing = none
who_pays (Runs n t c) = some t

abbrev pub donation_count : Running → ℕ
donation_count Nothing = 0
donation_count (Runs n t c) = c

-- a machine with one part changed
abbrev pub with_threads : List Thread → State → State
with_threads ts s = record { threads = ts; slices = s.slices; places = s.places; order = s.order; running = s.running }

abbrev pub with_places : List Place → State → State
with_places ps s = record { threads = s.threads; slices = s.slices; places = ps; order = s.order; running = s.running }

abbrev pub with_running : Running → State → State
with_running r s = record { threads = s.threads; slices = s.slices; places = s.places; order = s.order; running = r }

abbrev pub with_timeslices : List Slice → List ℕ → State → State
with_timeslices ss order s = record { threads = s.threads; slices = ss; places = s.places; order = order; running = s.running }
