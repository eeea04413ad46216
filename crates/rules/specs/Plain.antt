-- Document 01, "The plain machine": no places, no release, no choice; every live timeslice is judged after every event.
use Rattle.std.specs.Prelude.{ℕ, zero, suc, ◌+◌, ◌-◌, List, [], Bool, true, false, cond, replicate, ltb, eqb}
use Rattle.std.proofs.Math.Option.{Option, none, some}
use Rattle.rules.specs.declared.Hold.{Hold}
use Rattle.rules.specs.declared.Hold.TheVariants.{Ready, Idle, Blocked, Calling, Helping}
use Rattle.rules.specs.declared.Service.{Service}
use Rattle.rules.specs.declared.Service.TheVariants.{Nobody, Serving, Orphan}
use Rattle.rules.specs.declared.Thread.{Thread}
use Rattle.rules.specs.declared.Running.{Running}
use Rattle.rules.specs.declared.Running.TheVariants.{Nothing, Runs}
use Rattle.rules.specs.declared.Chain.{Chain}
use Rattle.rules.specs.declared.Event.{Event}
use Rattle.rules.specs.declared.Event.TheVariants.{Create, Give, Call, Reply, Block, Wake, Charge, Abort, Refill, Remove, Rank}
use Rattle.rules.specs.declared.Slice.{Slice}
use Rattle.rules.specs.State.{Plain, limit, free_thread, free_slice, hold_at, service_at, left_at, live_thread_count}
use Rattle.rules.specs.Order.{topmost}
use Rattle.rules.specs.Walk.{chain_of, verdict, may_run, Verdict, runs, retries, waits, stalls}
use Rattle.rules.specs.Threads.{set_hold, created, donate, replied, aborted, removed}
use Rattle.rules.specs.Timeslices.{own_of, given, last, without, to_back, charged, refilled, struck, ranked}
use Rattle.rules.specs.Refusals.{refusal}

abbrev pub empty_plain : Plain
empty_plain = record { threads = replicate limit free_thread; slices = replicate limit free_slice; order = []; running = Nothing }

abbrev pub plain_threads : List Thread → Plain → Plain
plain_threads ts p = record { threads = ts; slices = p.slices; order = p.order; running = p.running }

abbrev pub plain_timeslices : List Slice → List ℕ → Plain → Plain
plain_timeslices ss order p = record { threads = p.threads; slices = ss; order = order; running = p.running }

abbrev pub plain_running : Running → Plain → Plain
plain_running r p = record { threads = p.threads; slices = p.slices; order = p.order; running = r }

-- "An accepted event changes those as under Events, with no release and no choice."
-- Call: a donation, or the caller is Helping
abbrev pub plain_donates : ℕ → ℕ → ℕ → ℕ → Plain → Plain
plain_donates server caller t count p = plain_running (Runs server t (count + 1)) (plain_threads (donate caller server p.threads) p)

abbrev pub plain_helps : ℕ → ℕ → Plain → Plain
plain_helps server caller p = plain_threads (set_hold caller (Helping server) p.threads) p

abbrev pub plain_call_at : ℕ → ℕ → ℕ → ℕ → Plain → Hold → Plain
plain_call_at server caller t count p Ready = plain_helps server caller p
plain_call_at server caller t count p Idle = plain_donates server caller t count p
plain_call_at server caller t count p Blocked = plain_helps server caller p
plain_call_at server caller t count p (Calling n) = plain_helps server caller p
plain_call_at server caller t count p (Helping n) = plain_helps server caller p

abbrev pub plain_call : ℕ → Plain → Running → Plain
plain_call server p Nothing = p
plain_call server p (Runs caller t count) = plain_call_at server caller t count p (hold_at p.threads server)

-- Reply: with a count above 0 the caller runs
abbrev pub plain_reply_to : ℕ → ℕ → Plain → Service → Plain
plain_reply_to t count p Nobody = p
plain_reply_to t count p (Serving caller) = cond (ltb 0 count) (plain_running (Runs caller t (count - 1)) p) p
plain_reply_to t count p Orphan = p

abbrev pub plain_reply : Plain → Running → Plain
plain_reply p Nothing = p
plain_reply p (Runs server t count) = plain_reply_to t count (plain_threads (replied server p.threads) p) (service_at p.threads server)

abbrev pub plain_block : Plain → Running → Plain
plain_block p Nothing = p
plain_block p (Runs n t count) = plain_threads (set_hold n Blocked p.threads) p

-- Charge: at 0 to the back
abbrev pub plain_charge : ℕ → Plain → Running → Plain
plain_charge units p Nothing = p
plain_charge units p (Runs n t count) =
    cond (eqb (left_at p.slices t) units) (plain_timeslices (charged t units p.slices) (to_back t p.order) p)
    (plain_timeslices (charged t units p.slices) p.order p)

-- Remove: its own timeslice is struck out
abbrev pub plain_strike : Option ℕ → Plain → Plain
plain_strike none p = p
plain_strike (some t) p = plain_timeslices (struck t p.slices) (without t p.order) p

abbrev pub update : Event → Plain → Plain
update (Create n r) p = plain_threads (created n r p.threads) p
update (Give t n priority quantum) p = plain_timeslices (given t n priority quantum p.slices) (last t p.order) p
update (Call server) p = plain_call server p p.running
update Reply p = plain_reply p p.running
update Block p = plain_block p p.running
update (Wake n) p = plain_threads (set_hold n Ready p.threads) p
update (Charge units) p = plain_charge units p p.running
update (Abort n) p = plain_threads (aborted n p.threads) p
update (Refill t) p = plain_timeslices (refilled t p.slices) p.order p
update (Remove n) p = plain_threads (removed n p.threads) (plain_strike (own_of p.slices n p.order) p)
update (Rank t priority) p = plain_timeslices (ranked t priority p.slices) (to_back t p.order) p

-- "If that end is Idle, the last helper's retry is made as above and it judges again. If the end is Ready, that thread runs,
-- this timeslice is current, and the count is its chain's." (The others do not let it run.)
abbrev pub judge_by : (Plain → Plain) → Plain → ℕ → Chain → Verdict → Plain
judge_by again p t c runs = plain_running (Runs c.end t c.count) p
judge_by again p t c retries = again (plain_threads (donate c.helper c.end p.threads) p)
judge_by again p t c waits = p
judge_by again p t c stalls = p

abbrev pub judge_chain : (Plain → Plain) → Plain → ℕ → Chain → Plain
judge_chain again p t c = judge_by again p t c (verdict p.threads c)

-- "If there is no such timeslice, nothing runs, no timeslice is current, count 0."
abbrev pub judge_top : (Plain → Plain) → Plain → Option ℕ → Plain
judge_top again p none = plain_running Nothing p
judge_top again p (some t) = judge_chain again p t (chain_of p.threads p.slices t)

-- "of all live timeslices whose chain's end lets them run, it takes the topmost"; of one with nothing left it does not (document 02, [2])
abbrev pub topmost_runnable : Plain → Option ℕ
topmost_runnable p = topmost p.slices (λ t. may_run p.threads p.slices t) p.order

unfoldable pub judge_from : ℕ → Plain → Plain
judge_from zero p = p
judge_from (suc n) p = judge_top (λ q. judge_from n q) p (topmost_runnable p)

-- every retry leaves an Idle thread less: L + 1 rounds are enough
unfoldable pub judge : Plain → Plain
judge p = judge_from (suc (live_thread_count p.threads)) p

pub record PlainAnswered : Type 0 where
  pub plain : Plain
  pub refusal : ℕ

-- "By these it refuses as listed below; 1 never arises." "A refused event changes nothing."
abbrev pub plain_offer_after : ℕ → Event → Plain → PlainAnswered
plain_offer_after zero e p = record { plain = judge (update e p); refusal = 0 }
plain_offer_after (suc number) e p = record { plain = p; refusal = suc number }

unfoldable pub plain_offer : Event → Plain → PlainAnswered
plain_offer e p = plain_offer_after (refusal e p) e p

-- the plain engine, document 02, [1]: of what it is given by value it takes what is shaped; anything else, which no list of events makes,
-- it hands back as given, with 1
abbrev pub plain_offer_if : Bool → Event → Plain → PlainAnswered
plain_offer_if true e p = plain_offer e p
plain_offer_if false e p = record { plain = p; refusal = 1 }
