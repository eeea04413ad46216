-- Document 01, "Events", and document 02, [2] to [4]: what an accepted event does to the dispatcher's machine.
use Rattle.std.specs.Prelude.{ℕ, zero, suc, ◌+◌, ◌-◌, List, Bool, true, false, cond, set, ltb, eqb}
use Rattle.std.proofs.Math.Option.{Option, none, some}
use Rattle.rules.specs.declared.Role.{Role}
use Rattle.rules.specs.declared.Hold.{Hold}
use Rattle.rules.specs.declared.Hold.TheVariants.{Ready, Idle, Blocked, Calling, Helping}
use Rattle.rules.specs.declared.Service.{Service}
use Rattle.rules.specs.declared.Service.TheVariants.{Nobody, Serving, Orphan}
use Rattle.rules.specs.declared.Thread.{Thread}
use Rattle.rules.specs.declared.Place.{Place}
use Rattle.rules.specs.declared.Place.TheVariants.{Queue, Behind, On, Stalled, Spent}
use Rattle.rules.specs.declared.Running.{Running}
use Rattle.rules.specs.declared.Running.TheVariants.{Nothing, Runs}
use Rattle.rules.specs.declared.Chain.{Chain}
use Rattle.rules.specs.declared.Event.{Event}
use Rattle.rules.specs.declared.Event.TheVariants.{Create, Give, Call, Reply, Block, Wake, Charge, Abort, Refill, Remove, Rank}
use Rattle.rules.specs.State.{State, forget, free_place, hold_at, service_at, left_at, place_at}
use Rattle.rules.specs.State.{with_threads, with_places, with_running, with_timeslices}
use Rattle.rules.specs.Order.{stands_above}
use Rattle.rules.specs.Walk.{walk}
use Rattle.rules.specs.Threads.{set_hold, created, donate, replied, aborted, removed}
use Rattle.rules.specs.Timeslices.{own_of, given, last, without, to_back, charged, refilled, struck, ranked}
use Rattle.rules.specs.Release.{behind, on_thread, stalled, topmost_at, release}
use Rattle.rules.specs.Choice.{Outcome, park, choose}
use Rattle.rules.specs.Sound.{is_blocked, sound}
use Rattle.rules.specs.Refusals.{refusal}

-- a machine after an event's changes and releases, the links followed so far, and whether a choice follows
pub record Midway : Type 0 where
  pub state : State
  pub links : ℕ
  pub chooses : Bool

-- no choice, a choice
abbrev pub stays : State → Midway
stays s = record { state = s; links = 0; chooses = false }

abbrev pub chooses_in : State → Midway
chooses_in s = record { state = s; links = 0; chooses = true }

-- "if one joined Queue and nothing runs or it stands above the current"
abbrev pub above_running : State → ℕ → Running → Bool
above_running s q Nothing = true
above_running s q (Runs n t count) = stands_above s.slices s.order q t

abbrev pub overtakes : State → Option ℕ → Bool
overtakes s none = false
overtakes s (some q) = above_running s q s.running

-- the timeslice has joined Queue
abbrev pub joins : ℕ → State → Midway
joins t s = record { state = s; links = 0; chooses = overtakes s (some t) }

-- those On a thread are released: the topmost of them joins Queue
unfoldable pub releases : ℕ → State → Midway
releases n s = record { state = release (on_thread n) s; links = 0; chooses = overtakes s (topmost_at (on_thread n) s) }

-- Create
unfoldable pub create : ℕ → Role → State → Midway
create n r s = stays (with_threads (created n r s.threads) s)

-- Give: "last in turn order, into Queue, left = quantum. Choice if nothing runs or it stands above the current one."
unfoldable pub with_given : ℕ → ℕ → ℕ → ℕ → State → State
with_given t n priority quantum s =
    with_places (set s.places t Queue) (with_timeslices (given t n priority quantum s.slices) (last t s.order) s)

unfoldable pub give : ℕ → ℕ → ℕ → ℕ → State → Midway
give t n priority quantum s = joins t (with_given t n priority quantum s)

-- Call, server Idle: "donation ... the server ... running, count + 1, those On the server are released; choice only if a released one
-- stands above the current"
unfoldable pub call_donates : ℕ → ℕ → ℕ → ℕ → State → Midway
call_donates server caller t count s =
    releases server (with_running (Runs server t (count + 1)) (with_threads (donate caller server s.threads) s))

-- Call, server not Idle: "the caller is Helping; choice"
unfoldable pub call_helps : ℕ → ℕ → State → Midway
call_helps server caller s = chooses_in (with_threads (set_hold caller (Helping server) s.threads) s)

abbrev pub call_at : ℕ → ℕ → ℕ → ℕ → State → Hold → Midway
call_at server caller t count s Ready = call_helps server caller s
call_at server caller t count s Idle = call_donates server caller t count s
call_at server caller t count s Blocked = call_helps server caller s
call_at server caller t count s (Calling n) = call_helps server caller s
call_at server caller t count s (Helping n) = call_helps server caller s

abbrev pub call_by : ℕ → State → Running → Midway
call_by server s Nothing = stays s
call_by server s (Runs caller t count) = call_at server caller t count s (hold_at s.threads server)

unfoldable pub call : ℕ → State → Midway
call server s = call_by server s s.running

-- Reply: "Count above 0: that caller runs, count − 1. Count 0: choice." (Above 0 there is a caller.)
abbrev pub reply_to : ℕ → ℕ → State → Service → Midway
reply_to t count s Nobody = chooses_in s
reply_to t count s (Serving caller) = cond (ltb 0 count) (stays (with_running (Runs caller t (count - 1)) s)) (chooses_in s)
reply_to t count s Orphan = chooses_in s

abbrev pub reply_by : State → Running → Midway
reply_by s Nothing = stays s
reply_by s (Runs server t count) = reply_to t count (with_threads (replied server s.threads) s) (service_at s.threads server)

unfoldable pub reply : State → Midway
reply s = reply_by s s.running

-- Block: "the running thread is Blocked; choice"
abbrev pub block_by : State → Running → Midway
block_by s Nothing = stays s
block_by s (Runs n t count) = chooses_in (with_threads (set_hold n Blocked s.threads) s)

unfoldable pub block : State → Midway
block s = block_by s s.running

-- Wake: "the thread is Ready, those On it are released; choice if one joined Queue and nothing runs or it stands above the current"
unfoldable pub wake : ℕ → State → Midway
wake n s = releases n (with_threads (set_hold n Ready s.threads) s)

-- Charge, document 02, [2]: "a charge that brings left to 0 leaves it at 0, moves the timeslice to the back of the turn order, releases
-- its followers and gives it a new place, Spent"; choice
unfoldable pub depletes : ℕ → ℕ → State → Midway
depletes t units s = chooses_in (park t Spent (with_timeslices (charged t units s.slices) (to_back t s.order) s))

unfoldable pub spends : ℕ → ℕ → State → Midway
spends t units s = stays (with_timeslices (charged t units s.slices) s.order s)

abbrev pub charge_by : ℕ → State → Running → Midway
charge_by units s Nothing = stays s
charge_by units s (Runs n t count) = cond (eqb (left_at s.slices t) units) (depletes t units s) (spends t units s)

unfoldable pub charge : ℕ → State → Midway
charge units s = charge_by units s s.running

-- Abort, Remove: "If the walk ended at a Blocked thread, those On it are released; if it looped, the Stalled are released. Then choice."
abbrev pub release_end : Bool → ℕ → State → State
release_end true end s = release (on_thread end) s
release_end false end s = s

abbrev pub release_walked : Bool → Bool → ℕ → State → State
release_walked true blocked end s = release stalled s
release_walked false blocked end s = release_end blocked end s

-- after the walk c, whose end was Blocked or not, and after the changes that follow it
unfoldable pub after_walk : Chain → Bool → State → Midway
after_walk c blocked s = record { state = release_walked c.looped blocked c.end s; links = c.links; chooses = true }

abbrev pub end_blocked : Chain → List Thread → Bool
end_blocked c ts = is_blocked (hold_at ts c.end)

-- Abort: "first walk from the thread named"
unfoldable pub abort : ℕ → State → Midway
abort n s =
    let c = walk s.threads n in
    after_walk c (end_blocked c s.threads) (with_threads (aborted n s.threads) s)

-- Refill, document 02, [2]: "sets left to the quantum and puts it in Queue, with choice as for a wake"
unfoldable pub with_refilled : ℕ → State → State
with_refilled t s = with_places (set s.places t Queue) (with_timeslices (refilled t s.slices) s.order s)

unfoldable pub refill : ℕ → State → Midway
refill t s = joins t (with_refilled t s)

-- Remove, document 02, [3]: "Its own timeslice is struck out, and that one's followers are released."
abbrev pub strike_out : Option ℕ → State → State
strike_out none s = s
strike_out (some t) s = park t free_place (with_timeslices (struck t s.slices) (without t s.order) s)

-- Remove: "Walk from the thread first." The record is freed before the release, which looks at no thread.
unfoldable pub remove : ℕ → State → Midway
remove n s =
    let c = walk s.threads n in
    let s' = strike_out (own_of s.slices n s.order) s in
    after_walk c (end_blocked c s.threads) (with_threads (removed n s.threads) s')

-- Rank, document 02, [4]: "In Queue, its followers are released first; Behind another, it moves to Queue; in any other place it stays."
abbrev pub detached : ℕ → State → Place → State
detached t s Queue = release (behind t) s
detached t s (Behind q) = with_places (set s.places t Queue) s
detached t s (On n) = s
detached t s Stalled = s
detached t s Spent = s

-- Rank: "The timeslice takes that priority and goes to the back of the turn order."
abbrev pub with_ranked : ℕ → ℕ → State → State
with_ranked t priority s = with_timeslices (ranked t priority s.slices) (to_back t s.order) s

-- Rank: "Choice follows."
unfoldable pub rank : ℕ → ℕ → State → Midway
rank t priority s = chooses_in (with_ranked t priority (detached t s (place_at s.places t)))

-- the machine that an accepted event hands to the choice, or that is its result
abbrev pub midway : Event → State → Midway
midway (Create n r) s = create n r s
midway (Give t n priority quantum) s = give t n priority quantum s
midway (Call server) s = call server s
midway Reply s = reply s
midway Block s = block s
midway (Wake n) s = wake n s
midway (Charge units) s = charge units s
midway (Abort n) s = abort n s
midway (Refill t) s = refill t s
midway (Remove n) s = remove n s
midway (Rank t priority) s = rank t priority s

abbrev pub settle_if : Bool → Outcome → Outcome
settle_if true o = choose o
settle_if false o = o

abbrev pub settle : Midway → Outcome
settle m = settle_if m.chooses (record { state = m.state; links = m.links })

-- "Each operation takes the machine and hands back the machine after it, with its answer": the refusal number and the links followed
pub record Answered : Type 0 where
  pub state : State
  pub refusal : ℕ
  pub links : ℕ

-- "A refusal hands back the machine as given, its number, 0 links followed."
abbrev pub refused : ℕ → State → Answered
refused number s = record { state = s; refusal = number; links = 0 }

abbrev pub accepted : Outcome → Answered
accepted o = record { state = o.state; refusal = 0; links = o.links }

abbrev pub dispatch_after : ℕ → Event → State → Answered
dispatch_after zero e s = accepted (settle (midway e s))
dispatch_after (suc number) e s = refused (suc number) s

-- an event on a sound machine
unfoldable pub dispatch : Event → State → Answered
dispatch e s = dispatch_after (refusal e (forget s)) e s

-- "Every operation first refuses an unsound machine with 1."
abbrev pub offer_if : Bool → Event → State → Answered
offer_if true e s = dispatch e s
offer_if false e s = refused 1 s

unfoldable pub offer : Event → State → Answered
offer e s = offer_if (sound s) e s
