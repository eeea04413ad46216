-- What ran before an accepted event does not matter to the judging after it: every retry leaves an Idle thread less and there are no more
-- Idle threads than live ones, so the judging comes to an end before its rounds do, and the end says what runs.
use Prim.Native.Nat.{ℕ, zero, suc, ◌-◌, ◌<◌}
use native.Mathlib.Omega.{arith}
use mathlib.Core.Path.{◌≡◌, refl, sym, ap, ◌∙◌}
use mathlib.Core.Bool.{Bool, true, false, not, cond}
use mathlib.Core.Option.{Option, none, some}
use lib.Dec.{ltb, eqb}
use Rattle.rules.specs.declared.Hold.{Hold}
use Rattle.rules.specs.declared.Hold.TheVariants.{Ready, Idle, Blocked, Calling, Helping}
use Rattle.rules.specs.declared.Service.{Service}
use Rattle.rules.specs.declared.Service.TheVariants.{Nobody, Serving, Orphan}
use Rattle.rules.specs.declared.Thread.{Thread}
use Rattle.rules.specs.declared.Running.{Running}
use Rattle.rules.specs.declared.Running.TheVariants.{Nothing, Runs}
use Rattle.rules.specs.declared.Chain.{Chain}
use Rattle.rules.specs.declared.Event.{Event}
use Rattle.rules.specs.declared.Event.TheVariants.{Create, Give, Call, Reply, Block, Wake, Charge, Abort, Refill, Remove, Rank}
use Rattle.rules.specs.State.{Plain, hold_at, service_at, live_at, left_at, live_thread_count, nothing_runs, running_thread}
use Rattle.rules.specs.Holds.{is_server, is_idle, server_at}
use Rattle.rules.specs.Sound.{shaped}
use Rattle.rules.specs.Walk.{chain_of, verdict, lets, has_time, may_run, at_end, Verdict, runs, retries, waits, stalls}
use Rattle.rules.specs.Threads.{donate, replied, removed}
use Rattle.rules.specs.Timeslices.{own_of, charged, to_back}
use Rattle.rules.specs.Refusals.{◌gives◌else◌, refusal}
use Rattle.rules.specs.Plain.{plain_threads, plain_timeslices, plain_running, plain_call_at, plain_call, plain_reply_to, plain_reply}
use Rattle.rules.specs.Plain.{plain_block, plain_charge, plain_strike, update, judge_by, judge_top, topmost_runnable, judge_from, judge}
use Rattle.rules.proofs.Basics.Views.{Two, yes_true, no_false, two, clash, and_true_left}
use Rattle.rules.proofs.Order.Orders.{top_some}
use Rattle.rules.proofs.Soundness.Shapes.{Shape, shape_of}
use Rattle.rules.proofs.Idlers.{idlers, donate_fewer, IdlesLive, few_idle, shape_lives, donate_lives, replied_lives}

-- THE JUDGING, with more rounds than there are Idle threads
abbrev is_retries : Verdict → Bool
is_retries runs = false
is_retries retries = true
is_retries waits = false
is_retries stalls = false

-- a retry is made at an Idle end only
at_idle : (h : Hold) (links : ℕ) → is_retries (at_end h links) ≡ true → is_idle h ≡ true
at_idle Ready links e = e
at_idle Idle links e = refl
at_idle Blocked links e = e
at_idle (Calling s) links e = e
at_idle (Helping s) links e = e

retries_idle : (looped : Bool) (h : Hold) (links : ℕ) → cond looped stalls (at_end h links) ≡ retries → is_idle h ≡ true
retries_idle true h links e = clash false (ap is_retries e) refl
retries_idle false h links e = at_idle h links (ap is_retries e)

module _ (k : ℕ) (r : Running) (again : (q : Plain) → idlers q.threads < k → judge_from k (plain_running r q) ≡ judge_from k q) where
  by_verdict : (p : Plain) (t : ℕ) (c : Chain) (v : Verdict) → idlers p.threads < suc k → lets v ≡ true
      → (v ≡ retries → is_idle (hold_at p.threads c.end) ≡ true)
      → judge_by (λ q. judge_from k q) (plain_running r p) t c v ≡ judge_by (λ q. judge_from k q) p t c v
  by_verdict p t c runs few may idle = refl
  by_verdict p t c retries few may idle =
      again (plain_threads (donate c.helper c.end p.threads) p)
      (omega (arith, donate_fewer p.threads c.helper c.end (idle refl)))
  by_verdict p t c waits few may idle = clash false may refl
  by_verdict p t c stalls few may idle = clash false may refl

  by_top : (p : Plain) (o : Option ℕ) → topmost_runnable p ≡ o → idlers p.threads < suc k
      → judge_top (λ q. judge_from k q) (plain_running r p) o ≡ judge_top (λ q. judge_from k q) p o
  by_top p none e few = refl
  by_top p (some t) e few =
      let c = chain_of p.threads p.slices t in
      let top = top_some p.slices (λ u. may_run p.threads p.slices u) p.order t e in
      by_verdict p t c (verdict p.threads c) few (and_true_left _ (has_time p.slices t) top.taken)
      (retries_idle c.looped (hold_at p.threads c.end) c.links)

rounds_enough : (k : ℕ) (r : Running) (p : Plain) → idlers p.threads < k → judge_from k (plain_running r p) ≡ judge_from k p
unfolding judge_from
rounds_enough zero r p few = absurd (omega arith)
rounds_enough (suc k) r p few = by_top k r (rounds_enough k r) p (topmost_runnable p) refl few

-- WHAT RAN does not matter to the judging, where Idle threads are live
ran_nothing : (r : Running) (p : Plain) → IdlesLive p.threads → judge (plain_running r p) ≡ judge p
unfolding judge
ran_nothing r p f = rounds_enough (suc (live_thread_count p.threads)) r p (omega (arith, few_idle p.threads f))

-- event by event: what `update` says of what runs, the judging says anew
module _ (p : Plain) (x : Shape p) where
  called_at : (server caller t count : ℕ) (h : Hold)
      → judge (plain_running p.running (plain_call_at server caller t count p h)) ≡ judge (plain_call_at server caller t count p h)
  called_at server caller t count Ready = refl
  called_at server caller t count Idle = ran_nothing p.running _ (donate_lives p.threads caller server (shape_lives x))
  called_at server caller t count Blocked = refl
  called_at server caller t count (Calling n) = refl
  called_at server caller t count (Helping n) = refl

  call_by_lem : (server : ℕ) (r : Running) → judge (plain_running p.running (plain_call server p r)) ≡ judge (plain_call server p r)
  call_by_lem server Nothing = refl
  call_by_lem server (Runs caller t count) = called_at server caller t count (hold_at p.threads server)

  -- whoever replies is a server, and a free number is none
  server_live : (n : ℕ) → server_at p.threads n ≡ true → Two (live_at p.threads n) → live_at p.threads n ≡ true
  server_live n h (yes_true e) = e
  server_live n h (no_false e) = clash false (sym (ap (λ (t : Thread). is_server t.role) (x.sane.free n e)) ∙ h) refl

  reply_to_lem : (t count : ℕ) (q : Plain) (v : Service) → IdlesLive q.threads
      → judge (plain_running p.running (plain_reply_to t count q v)) ≡ judge (plain_reply_to t count q v)
  reply_to_lem t count q Nobody f = ran_nothing p.running q f
  reply_to_lem t count q (Serving caller) f = by (ltb 0 count)
    where
      by : (b : Bool) → let z = cond b (plain_running (Runs caller t (count - 1)) q) q in judge (plain_running p.running z) ≡ judge z
      by true = ran_nothing p.running (plain_running (Runs caller t (count - 1)) q) f
      by false = ran_nothing p.running q f
  reply_to_lem t count q Orphan f = ran_nothing p.running q f

  reply_by_lem : (r : Running) → nothing_runs r gives 5 else not (server_at p.threads (running_thread r)) gives 8 else 0 ≡ 0
      → judge (plain_running p.running (plain_reply p r)) ≡ judge (plain_reply p r)
  reply_by_lem Nothing k = refl
  reply_by_lem (Runs server t count) k =
      let ts = p.threads in
      let serves = by (server_at ts server) k in
      let live = server_live server serves (two (live_at ts server)) in
      reply_to_lem t count (plain_threads (replied server ts) p) (service_at ts server) (replied_lives ts server live (shape_lives x))
    where
      by : (b : Bool) → not b gives 8 else 0 ≡ 0 → b ≡ true
      by true e = refl
      by false e = absurd (omega arith)

  block_by_lem : (r : Running) → judge (plain_running p.running (plain_block p r)) ≡ judge (plain_block p r)
  block_by_lem Nothing = refl
  block_by_lem (Runs n t count) = refl

  charge_by_lem : (units : ℕ) (r : Running) → judge (plain_running p.running (plain_charge units p r)) ≡ judge (plain_charge units p r)
  charge_by_lem units Nothing = refl
  charge_by_lem units (Runs n t count) = by (eqb (left_at p.slices t) units)
    where
      by : (b : Bool) → let z = cond b (plain_timeslices (charged t units p.slices) (to_back t p.order) p)
          (plain_timeslices (charged t units p.slices) p.order p) in judge (plain_running p.running z) ≡ judge z
      by true = refl
      by false = refl

  remove_by : (n : ℕ) (o : Option ℕ)
      → let z = plain_threads (removed n p.threads) (plain_strike o p) in judge (plain_running p.running z) ≡ judge z
  remove_by n none = refl
  remove_by n (some t) = refl

  anew : (e : Event) → refusal e p ≡ 0 → judge (plain_running p.running (update e p)) ≡ judge (update e p)
  anew (Create n r) k = refl
  anew (Give t n priority quantum) k = refl
  anew (Call server) k = call_by_lem server p.running
  anew Reply k = reply_by_lem p.running k
  anew Block k = block_by_lem p.running
  anew (Wake n) k = refl
  anew (Charge units) k = charge_by_lem units p.running
  anew (Abort n) k = refl
  anew (Refill t) k = refl
  anew (Remove n) k = remove_by n (own_of p.slices n p.order)
  anew (Rank t priority) k = refl

-- THE LAW. After an accepted event on a shaped machine, the judging says what runs, whatever ran.
pub judge_anew : (e : Event) (p : Plain) → shaped p ≡ true → refusal e p ≡ 0
    → judge (plain_running p.running (update e p)) ≡ judge (update e p)
judge_anew e p h k = anew p (shape_of p h) e k
