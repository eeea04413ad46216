-- Document 01, "Release and choice": the choice.
use Rattle.std.specs.Prelude.{ℕ, zero, suc, ◌+◌, set}
use Rattle.std.proofs.Math.Option.{Option, none, some}
use Rattle.rules.specs.declared.Place.{Place}
use Rattle.rules.specs.declared.Place.TheVariants.{On, Stalled}
use Rattle.rules.specs.declared.Chain.{Chain}
use Rattle.rules.specs.declared.Running.TheVariants.{Nothing, Runs}
use Rattle.rules.specs.State.{State, with_threads, with_places, with_running, live_timeslice_count}
use Rattle.rules.specs.Walk.{chain_of, verdict, Verdict, runs, retries, waits, stalls}
use Rattle.rules.specs.Threads.{donate}
use Rattle.rules.specs.Release.{in_queue, behind, on_thread, topmost_at, release}

-- a machine and the links followed so far
pub record Outcome : Type 0 where
  pub state : State
  pub links : ℕ

-- the timeslice gets its place; "Leaving Queue releases a timeslice's followers"
unfoldable pub park : ℕ → Place → State → State
park t p s = release (behind t) (with_places (set s.places t p) s)

-- "the last helper's retry succeeds. It becomes Calling the end, the end becomes Ready and serves it, those On the end are released."
unfoldable pub retry : Chain → State → State
retry c s = release (on_thread c.end) (with_threads (donate c.helper c.end s.threads) s)

-- the topmost timeslice in Queue, with its chain and what the chain's end says of it
abbrev pub decide : (Outcome → Outcome) → ℕ → State → ℕ → Chain → Verdict → Outcome
decide again links s t c runs = record { state = with_running (Runs c.end t c.count) s; links = links + c.links }
decide again links s t c retries = again (record { state = retry c s; links = links + c.links })
decide again links s t c waits = again (record { state = park t (On c.end) s; links = links + c.links })
decide again links s t c stalls = again (record { state = park t Stalled s; links = links + c.links })

abbrev pub walked : (Outcome → Outcome) → ℕ → State → ℕ → Chain → Outcome
walked again links s t c = decide again links s t c (verdict s.threads c)

-- "take the topmost timeslice in Queue and walk"; "Queue empty: nothing runs"
abbrev pub look : (Outcome → Outcome) → ℕ → State → Option ℕ → Outcome
look again links s none = record { state = with_running Nothing s; links = links }
look again links s (some t) = walked again links s t (chain_of s.threads s.slices t)

unfoldable pub choose_from : ℕ → Outcome → Outcome
choose_from zero o = o
choose_from (suc n) o = look (λ u. choose_from n u) o.links o.state (topmost_at in_queue o.state)

-- each timeslice is put aside at most once, a retry ends the choice at the next look, and so does an empty Queue: T + 2 looks are enough
unfoldable pub choose : Outcome → Outcome
choose o = choose_from (suc (suc (live_timeslice_count o.state.order))) o
