-- What a wake does, without a choice. Whoever it releases waited for the thread, which is Ready now: so if the topmost of them stands above
-- the current timeslice, the choice takes it at its first look and it runs there; nobody is put aside and nothing is retried.
use Prim.Native.Nat.{ℕ, ◌≤◌}
use mathlib.Core.Path.{◌≡◌, refl, sym, ap, ◌∙◌, subst}
use mathlib.Core.List.{List}
use mathlib.Core.Bool.{true, cond}
use mathlib.Core.Option.{Option, none, some}
use native.Mathlib.Omega.{arith}
use native.Mathlib.Nat.{zero-add}
use Rattle.rules.specs.declared.Hold.TheVariants.{Ready, Blocked}
use Rattle.rules.specs.declared.Place.{Place}
use Rattle.rules.specs.declared.Place.TheVariants.{Queue}
use Rattle.rules.specs.declared.Running.{Running}
use Rattle.rules.specs.declared.Running.TheVariants.{Nothing, Runs}
use Rattle.rules.specs.declared.Thread.{Thread}
use Rattle.rules.specs.declared.Chain.{Chain}
use Rattle.rules.specs.declared.Event.TheVariants.{Wake}
use Rattle.rules.specs.Tests.{member}
use Rattle.rules.specs.State.{State, Plain, hold_at, place_at, live_thread_count, with_threads, with_running}
use Rattle.rules.specs.Order.{stands_above}
use Rattle.rules.specs.Walk.{link_of, ended, chain_of, verdict, runs}
use Rattle.rules.specs.Threads.{set_hold}
use Rattle.rules.specs.Release.{in_queue, on_thread, topmost_at, release}
use Rattle.rules.specs.Choice.{choose, choose_from}
use Rattle.rules.specs.Sound.{sound}
use Rattle.rules.specs.Events.{Answered, above_running, overtakes, releases, wake, settle_if, accepted, offer}
use Rattle.rules.proofs.Basics.Views.{Two, yes_true, no_false, two, clash, Same, equal, different, same}
use Rattle.rules.proofs.Order.Orders.{Top, top_some, is_top, above_trans}
use Rattle.rules.proofs.Links.Chains.{walk_ends, walk_links}
use Rattle.rules.proofs.Links.Frames.{kept_up_to}
use Rattle.rules.proofs.Soundness.Standings.{Waits, blocked, idle, RunsAt, links_live, runs_walk}
use Rattle.rules.proofs.Soundness.Places.{on_is, owner, owner_live, Good, Settled, nothing, runs_on, Sound, sound_of}
use Rattle.rules.proofs.Choosing.Releases.{Releasable, forget_release, Queued, was, joined_now, queue_after, top_joins}
use Rattle.rules.proofs.Choosing.Tops.{queue_top, queue_none, is_queued, topmost_release}
use Rattle.rules.proofs.Events.WakeEvent.{wake_accepted, woken, wake_releasable}
use Rattle.rules.proofs.Agreement.{offer_accepted}

-- "the thread is Ready, those On it are released", and what ran runs on: no link is followed
abbrev pub keeps_running : ℕ → State → Answered
keeps_running n s = accepted (record { state = (wake n s).state; links = 0 })

-- the same, and the thread runs, paid by t: the links followed are those of t's chain
abbrev pub takes_over : ℕ → ℕ → State → Answered
takes_over n t s =
    let c = chain_of s.threads s.slices t in
    accepted (record { state = with_running (Runs n t c.count) (wake n s).state; links = c.links })

-- by the topmost of those On the thread, if there is one: whether it stands above the current timeslice, or nothing runs
abbrev pub woken_by : ℕ → State → Option ℕ → Answered
woken_by n s none = keeps_running n s
woken_by n s (some t) = cond (above_running s t s.running) (takes_over n t s) (keeps_running n s)

pub above_threads : (ts : List Thread) (s : State) (t : ℕ) (r : Running) → above_running (with_threads ts s) t r ≡ above_running s t r
above_threads ts s t Nothing = refl
above_threads ts s t (Runs n u count) = refl

-- a choice whose first look finds a timeslice that runs
first_look : (s : State) (t : ℕ) (c : Chain) → topmost_at in_queue s ≡ some t → chain_of s.threads s.slices t ≡ c
    → verdict s.threads c ≡ runs
    → choose (record { state = s; links = 0 }) ≡ record { state = with_running (Runs c.end t c.count) s; links = c.links }
unfolding choose choose_from
first_look s t c e f v = rw (e, f, v, zero-add c.links)

module _ (s : State) (h : sound s ≡ true) (n : ℕ) (was-blocked : hold_at s.threads n ≡ Blocked) where
  x : Sound s
  x = sound_of s h

  -- the machine before its release
  abbrev s' : State
  s' = with_threads (set_hold n Ready s.threads) s

  freed : Releasable (on_thread n) s'
  freed = wake_releasable s x n was-blocked

  module _ (t : ℕ) (e : topmost_at (on_thread n) s ≡ some t) where
    top : Top s.slices (λ u. on_thread n (place_at s.places u)) s.order t
    top = top_some s.slices (λ u. on_thread n (place_at s.places u)) s.order t e

    pub waited : Waits s.threads (owner s t) n
    waited = subst (λ (p : Place). Good s t p) (on_is n (place_at s.places t) top.taken) (x.mid.placed.good t top.listed)

    -- its chain ends at the thread as before, which is Ready now
    record Chained : Type 0 where
      chain : Chain
      before : chain_of s.threads s.slices t ≡ ended n chain
      now : chain_of (set_hold n Ready s.threads) s.slices t ≡ ended n chain
      verdict_now : verdict (set_hold n Ready s.threads) (ended n chain) ≡ runs

    chained : Chained
    chained = by waited
      where
        by : Waits s.threads (owner s t) n → Chained
        by (idle _ i) = let z : ◌≡◌ {A = ℕ} 0 1 = cc in absurd (omega arith)
        by (blocked {d = d} p _) =
            let w = woken s x n was-blocked in
            let live = owner_live s x.mid.shape t top.listed in
            let runs-there : RunsAt (set_hold n Ready s.threads) (owner s t) n d.count =
            record {
              chain = d;
              ends = record { path = kept_up_to w.update.links (ap link_of was-blocked) p.path; last = ap link_of w.now };
              ready = w.now;
              counted = refl;
            } in
            let now = runs_walk w.update.sane (w.update.live (owner s t) ∙ live) runs-there in
            record {
              chain = d;
              before = walk_ends s.threads (links_live x.mid.shape.sane) (owner s t) live p;
              now = now.0;
              verdict_now = rw now.0 at now.1;
            }

    -- it stands above whoever was in Queue
    over : above_running s t s.running ≡ true → (u : ℕ) → member u s.order ≡ true → place_at s.places u ≡ Queue
        → stands_above s.slices s.order t u ≡ true
    over above u l q = by x.settled
      where
        under : (c : ℕ) → topmost_at in_queue s ≡ some c → stands_above s.slices s.order t c ≡ true → Same u c
            → stands_above s.slices s.order t u ≡ true
        under c f k (equal z _) = rw z k
        under c f k (different o _) = above_trans s.slices s.order t c u k ((queue_top s c f).above u l (is_queued q) o)

        by : Settled s → stands_above s.slices s.order t u ≡ true
        by (nothing _ f) = clash (in_queue (place_at s.places u)) (is_queued q) (queue_none s f u l)
        by (runs_on c _ _ r f _) = under c f (rw r at above) (same u c)

    top_now : above_running s t s.running ≡ true → topmost_at in_queue (wake n s).state ≡ some t
    unfolding wake releases
    top_now above =
        topmost_release (on_thread n) s'
        ∙ is_top s.slices (λ u. in_queue (place_at (release (on_thread n) s').places u)) s.order t
        (record {
          listed = top.listed;
          taken = is_queued (top_joins (on_thread n) s' freed t e);
          above = λ u l k o. by u l o (queue_after (on_thread n) s' freed u l k);
        })
      where
        by : (u : ℕ) → member u s.order ≡ true → (u ≡ t → ⊥) → Queued (on_thread n) s' u
            → stands_above s.slices s.order t u ≡ true
        by u l o (was q) = over above u l q
        by u l o (joined_now j) = let z : u ≡ t = cc in absurd (o z)

  -- A WAKE of a Blocked thread, in every sound machine
  pub wake_at_once : offer (Wake n) s ≡ woken_by n s (topmost_at (on_thread n) s)
  unfolding wake releases
  wake_at_once = offer_accepted (Wake n) s h (wake_accepted s x n was-blocked) ∙ by (topmost_at (on_thread n) s) refl
    where
      chose : (t : ℕ) → topmost_at (on_thread n) s ≡ some t → above_running s t s.running ≡ true
          → accepted (choose (record { state = release (on_thread n) s'; links = 0 })) ≡ takes_over n t s
      chose t e k =
          let c = chained t e in
          let f = forget_release (on_thread n) s' in
          ap accepted
          (first_look (release (on_thread n) s') t (ended n c.chain) (top_now t e k)
          (ap (λ (p : Plain). chain_of p.threads p.slices t) f ∙ c.now)
          (subst (λ (p : Plain). verdict p.threads (ended n c.chain) ≡ runs) (sym f) c.verdict_now))
          ∙ ap (λ (d : Chain). accepted (record { state = with_running (Runs n t d.count) (wake n s).state; links = d.links }))
          (sym c.before)

      joined : (t : ℕ) → topmost_at (on_thread n) s ≡ some t → Two (above_running s t s.running)
          → accepted (settle_if (above_running s' t s.running) (record { state = release (on_thread n) s'; links = 0 }))
          ≡ woken_by n s (some t)
      joined t e (yes_true k) = rw (above_threads s'.threads s t s.running, k) (chose t e k)
      joined t e (no_false k) = rw (above_threads s'.threads s t s.running, k)

      by : (o : Option ℕ) → topmost_at (on_thread n) s ≡ o
          → accepted (settle_if (overtakes s' o) (record { state = release (on_thread n) s'; links = 0 })) ≡ woken_by n s o
      by none e = refl
      by (some t) e = joined t e (two (above_running s t s.running))

  -- it follows at most L links
  pub wake_links : (offer (Wake n) s).links ≤ live_thread_count s.threads
  wake_links = rw wake_at_once (by (topmost_at (on_thread n) s))
    where
      either : (t : ℕ) → Two (above_running s t s.running) → (woken_by n s (some t)).links ≤ live_thread_count s.threads
      either t (yes_true k) = rw k (walk_links s.threads (owner s t))
      either t (no_false k) = rw k (omega arith)

      by : (o : Option ℕ) → (woken_by n s o).links ≤ live_thread_count s.threads
      by none = omega arith
      by (some t) = either t (two (above_running s t s.running))
