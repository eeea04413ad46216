-- Document 01, "A sound machine", and document 02, [2], as a test that computes, with its clauses separately named.
use Rattle.std.specs.Prelude.{ℕ, List, map, Bool, true, false, not, ◌&&◌, ◌||◌, length, leb, ltb, eqb}
use Rattle.std.proofs.Math.Option.{Option, none, some}
use Rattle.rules.specs.declared.Hold.{Hold}
use Rattle.rules.specs.declared.Hold.TheVariants.{Ready, Idle, Blocked, Calling, Helping}
use Rattle.rules.specs.declared.Service.{Service}
use Rattle.rules.specs.declared.Service.TheVariants.{Nobody, Serving, Orphan}
use Rattle.rules.specs.declared.Thread.{Thread}
use Rattle.rules.specs.declared.Place.{Place}
use Rattle.rules.specs.declared.Place.TheVariants.{Queue, Behind, On, Stalled, Spent}
use Rattle.rules.specs.declared.Running.{Running}
use Rattle.rules.specs.declared.Running.TheVariants.{Nothing, Runs}
use Rattle.rules.specs.declared.Chain.{Chain}
use Rattle.rules.specs.Tests.{member, distinct, all, below, implies, agree}
use Rattle.rules.specs.declared.Slice.{Slice}
use Rattle.rules.specs.State.{State, Plain, forget, limit, thread_at, hold_at, service_at, live_at, slice_at, owner_at, left_at}
use Rattle.rules.specs.State.{place_at}
pub use Rattle.rules.specs.Holds.{is_server, is_ready, is_idle, is_blocked, is_calling, is_nobody, is_serving, server_at}
use Rattle.rules.specs.Order.{stands_above}
use Rattle.rules.specs.Walk.{chain_of, verdict, Verdict, runs, retries, waits, stalls}
use Rattle.rules.specs.Release.{in_queue, is_spent, topmost_at}

-- the tables have a slot for each number
abbrev pub tables_full : Plain → Bool
tables_full p = eqb (length p.threads) limit && eqb (length p.slices) limit

-- "Turn order holds exactly the live timeslices, once each" (a timeslice is live if it is listed)
abbrev pub turns_once : Plain → Bool
turns_once p = all (λ t. ltb t limit) p.order && distinct p.order

-- "owners are live and distinct"
abbrev pub owners_live : Plain → Bool
owners_live p = all (λ t. live_at p.threads (owner_at p.slices t)) p.order && distinct (map (λ t. owner_at p.slices t) p.order)

-- "ranges hold"; left is 0 to quantum since document 02, [2]
abbrev pub in_range : Slice → Bool
in_range x = leb x.priority 255 && leb 1 x.quantum && leb x.quantum 65535 && leb x.left x.quantum

abbrev pub ranges_hold : Plain → Bool
ranges_hold p = all (λ t. in_range (slice_at p.slices t)) p.order

-- "A thread is Calling a server exactly when that server serves it."
abbrev pub call_is_served : List Thread → ℕ → Hold → Bool
call_is_served ts n Ready = true
call_is_served ts n Idle = true
call_is_served ts n Blocked = true
call_is_served ts n (Calling s) = is_serving n (service_at ts s)
call_is_served ts n (Helping s) = true

abbrev pub served_is_calling : List Thread → ℕ → Service → Bool
served_is_calling ts n Nobody = true
served_is_calling ts n (Serving m) = is_calling n (hold_at ts m)
served_is_calling ts n Orphan = true

abbrev pub calls_served : Plain → Bool
calls_served p =
    below limit (λ n. call_is_served p.threads n (hold_at p.threads n) && served_is_calling p.threads n (service_at p.threads n))

-- "Links go to live servers, never to oneself."
abbrev pub link_to : List Thread → ℕ → ℕ → Bool
link_to ts n s = live_at ts s && server_at ts s && not (eqb s n)

abbrev pub link_good : List Thread → ℕ → Hold → Bool
link_good ts n Ready = true
link_good ts n Idle = true
link_good ts n Blocked = true
link_good ts n (Calling s) = link_to ts n s
link_good ts n (Helping s) = link_to ts n s

abbrev pub links_good : Plain → Bool
links_good p = below limit (λ n. link_good p.threads n (hold_at p.threads n))

-- "Idle holds exactly for servers with service none; clients serve nobody."
abbrev pub idle_good : Thread → Bool
idle_good t =
    agree (is_idle t.hold) (is_server t.role && is_nobody t.service) && implies (not (is_server t.role)) (is_nobody t.service)

abbrev pub idles_good : Plain → Bool
idles_good p = below limit (λ n. idle_good (thread_at p.threads n))

-- "Free slots hold one fixed value"
abbrev pub thread_free : Thread → Bool
thread_free t = not (is_server t.role) && is_ready t.hold && is_nobody t.service

abbrev pub slice_free : Slice → Bool
slice_free x = eqb x.owner 0 && eqb x.priority 0 && eqb x.quantum 0 && eqb x.left 0

abbrev pub free_threads : Plain → Bool
free_threads p = below limit (λ n. live_at p.threads n || thread_free (thread_at p.threads n))

abbrev pub free_slices : Plain → Bool
free_slices p = below limit (λ t. member t p.order || slice_free (slice_at p.slices t))

abbrev pub free_slots : Plain → Bool
free_slots p = free_threads p && free_slices p

-- what soundness says of a machine without its places: the same for both machines
unfoldable pub shaped : Plain → Bool
shaped p =
    tables_full p && turns_once p && owners_live p && ranges_hold p && calls_served p && links_good p && idles_good p && free_slots p

-- "On: the walk ends there and does not let it run. Stalled: the walk loops."
abbrev pub waits_at : ℕ → Chain → Verdict → Bool
waits_at n c runs = false
waits_at n c retries = false
waits_at n c waits = eqb c.end n
waits_at n c stalls = false

abbrev pub is_stalls : Verdict → Bool
is_stalls runs = false
is_stalls retries = false
is_stalls waits = false
is_stalls stalls = true

-- "Behind: the other is in Queue and stands above."
abbrev pub place_good : State → ℕ → Chain → Place → Bool
place_good s t c Queue = true
place_good s t c (Behind q) = member q s.order && in_queue (place_at s.places q) && stands_above s.slices s.order q t
place_good s t c (On n) = waits_at n c (verdict s.threads c)
place_good s t c Stalled = is_stalls (verdict s.threads c)
place_good s t c Spent = true

-- Document 02, [2]: "Left is 0 exactly for Spent."
abbrev pub spent_good : ℕ → Place → Bool
spent_good left p = agree (is_spent p) (eqb left 0)

-- every timeslice has a true place, and free slots the fixed one
unfoldable pub placed : State → Bool
placed s =
    eqb (length s.places) limit
    && all (λ t. place_good s t (chain_of s.threads s.slices t) (place_at s.places t)) s.order
    && all (λ t. spent_good (left_at s.slices t) (place_at s.places t)) s.order
    && below limit (λ t. member t s.order || in_queue (place_at s.places t))

-- "its walk ends, Ready, at the running thread, with the stored count"
abbrev pub runs_as : ℕ → ℕ → Chain → Verdict → Bool
runs_as n count c runs = eqb c.end n && eqb c.count count
runs_as n count c retries = false
runs_as n count c waits = false
runs_as n count c stalls = false

-- "Nothing runs exactly when Queue is empty. Otherwise the current is the topmost in Queue"
abbrev pub settled_on : State → Option ℕ → Running → Bool
settled_on s none Nothing = true
settled_on s none (Runs n t count) = false
settled_on s (some q) Nothing = false
settled_on s (some q) (Runs n t count) =
    eqb t q && runs_as n count (chain_of s.threads s.slices q) (verdict s.threads (chain_of s.threads s.slices q))

unfoldable pub settled : State → Bool
settled s = settled_on s (topmost_at in_queue s) s.running

unfoldable pub sound : State → Bool
sound s = shaped (forget s) && placed s && settled s
