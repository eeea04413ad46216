-- The retry of the last helper: the machine stays midway, the plain machine makes the same retry, and the next look ends the choice.
use Prim.Native.Nat.{ℕ, ◌<◌}
use mathlib.Core.Path.{◌≡◌, refl, sym, ap, ◌∙◌, subst}
use mathlib.Core.List.{List}
use mathlib.Core.Bool.{true}
use mathlib.Core.Option.{Option, none, some}
use native.Mathlib.Omega.{arith}
use Rattle.rules.specs.declared.Hold.TheVariants.{Ready, Idle, Calling, Helping}
use Rattle.rules.specs.declared.Place.{Place}
use Rattle.rules.specs.declared.Thread.{Thread}
use Rattle.rules.specs.declared.Chain.{Chain}
use Rattle.rules.specs.Tests.{member}
use Rattle.rules.specs.State.{State, Plain, forget, hold_at, live_thread_count, place_at, with_threads}
use Rattle.rules.specs.Walk.{link_of, no_links, donated, helped, ended}
use Rattle.rules.specs.Threads.{donate}
use Rattle.rules.specs.Release.{in_queue, on_thread, topmost_at, release}
use Rattle.rules.specs.Choice.{retry}
use Rattle.rules.proofs.Basics.Views.{clash, Same, equal, different, same}
use Rattle.rules.specs.State.{owner_at}
use Rattle.rules.specs.Order.{stands_above}
use Rattle.rules.proofs.Order.Orders.{Top, top_some, top_none, above_asym}
use Rattle.rules.proofs.Links.Chains.{link_at, To, stop, Ends, Last, none as no-link, donates, helps, last, one_call, one_help}
use Rattle.rules.proofs.Links.Chains.{Split, via, split}
use Rattle.rules.proofs.Links.Chains.{same as unchanged}
use Rattle.rules.proofs.Soundness.Shapes.{Sane}
use Rattle.rules.proofs.Soundness.Standings.{Waits, blocked, idle, RunsAt, RetriesAt, donation_is, helping_is}
use Rattle.rules.proofs.Tables.Updates.{PairUpdate, donate_update, idle_uncalled, held_live}
use Rattle.rules.proofs.Soundness.Places.{on_is, owner, Good, Mid}
use Rattle.rules.proofs.Choosing.Releases.{Releasable, release_mid, forget_release, Queued, was, joined_now, queue_after, queue_kept}
use Rattle.rules.proofs.Choosing.Tops.{queue_top, top_queued, is_queued, topmost_release}
use Rattle.rules.proofs.Choosing.Changes.{Change, reframed, change_releasable, OnKept, freed, stay, stay_there, avoids, ends_here}

-- the last helper of a chain: the thread before its Idle end
pub record Helper (ts : List Thread) (x n : ℕ) (d : Chain) : Type 0 where
  pub before : Chain
  pub path : To (link_at ts) x no_links d.helper before
  pub helps : hold_at ts d.helper ≡ Helping n

-- nobody is Calling an Idle thread, so the last link is the last helper's
helper_of : (ts : List Thread) → Sane ts → (x n : ℕ) {d : Chain} → hold_at ts n ≡ Idle → 0 < d.links → Last (link_at ts) x no_links n d
    → Helper ts x n d
helper_of ts x y n i l no-link = absurd (omega arith)
helper_of ts x y n i l (donates {k = k} p e) = absurd (idle_uncalled ts k n x i (donation_is (hold_at ts k) n e))
helper_of ts x y n i l (helps {k = k} {d = b} p e) = record { before = b; path = p; helps = helping_is (hold_at ts k) n e }

module _ (s : State) (x : Mid s) (t : ℕ) (e : topmost_at in_queue s ≡ some t) (n : ℕ) (r : RetriesAt s.threads (owner s t) n) where
  abbrev ts : List Thread
  ts = s.threads

  abbrev h : ℕ
  h = r.chain.helper

  abbrev ts' : List Thread
  ts' = donate r.chain.helper n s.threads

  helper : Helper s.threads (owner s t) n r.chain
  helper = helper_of s.threads x.shape.sane (owner s t) n r.idle r.links (last r.ends.path)

  pair : PairUpdate s.threads ts' h n (Calling n) Ready
  pair =
      let helps = helper.helps in
      donate_update ts h n x.shape.sane
      (held_live ts h x.shape.sane (λ q. let z : ◌≡◌ {A = ℕ} 0 1 = cc in omega arith))
      (record { busy = rw helps; uncalled = λ m q. let z : ◌≡◌ {A = ℕ} 0 1 = cc in omega arith }) r.idle

  -- the helper ended at the Idle thread
  helper_ends : Ends (link_at ts) h no_links n (helped h no_links)
  helper_ends = record { path = one_help stop (ap link_of helper.helps); last = r.ends.last }

  -- a thread at which a timeslice waits is not the helper
  other : (y m : ℕ) → Waits ts y m → m ≡ h → ⊥
  other y m (blocked p b) q =
      let helps = helper.helps in let z : ◌≡◌ {A = ℕ} 0 1 = cc (ap (hold_at ts) q) in omega arith
  other y m (idle p i) q =
      let helps = helper.helps in let z : ◌≡◌ {A = ℕ} 0 1 = cc (ap (hold_at ts) q) in omega arith

  change : Change (on_thread n) s ts' h
  change =
      record {
        mid = x;
        threads = reframed x pair.update;
        queue = refl;
        spared = refl;
        on = λ y m _ w. by y m w (same m n);
        loops = stay helper_ends;
      }
    where
      by : (y m : ℕ) → Waits ts y m → Same m n → OnKept (on_thread n) ts' y m
      by y m w (equal q f) = freed f
      by y m w (different o f) = stay_there (reframed x pair.update) w (pair.others m (other y m w) o) (avoids ts helper_ends o)

  pub retry_releasable : Releasable (on_thread n) (with_threads (donate r.chain.helper n s.threads) s)
  retry_releasable = change_releasable change

  pub retry_mid : Mid (retry (ended n r.chain) s)
  unfolding retry
  retry_mid = release_mid (on_thread n) (with_threads ts' s) retry_releasable

  pub retry_forget : forget (retry (ended n r.chain) s) ≡ forget (with_threads ts' s)
  unfolding retry
  retry_forget = forget_release (on_thread n) (with_threads ts' s)

  -- t's chain comes to the helper as before, and goes on to n by a donation
  record Arrived : Type 0 where
    chain : Chain
    path : To (link_at ts') (owner s t) no_links n chain

  arrived : Arrived
  arrived = by (split h pair.update.links.elsewhere helper.path)
    where
      onward : {c : Chain} → To (link_at ts') (owner s t) no_links h c → Arrived
      onward {c} p = record { chain = donated h c; path = one_call p (ap link_of pair.at_caller) }

      by : Split (link_at ts) (link_at ts') h (owner s t) no_links h helper.before → Arrived
      by (unchanged p) = onward p
      by (via p p' rest) = onward p'

  own_runs : RunsAt ts' (owner s t) n arrived.chain.count
  own_runs =
      record {
        chain = arrived.chain;
        ends = record { path = arrived.path; last = ap link_of pair.at_server };
        ready = pair.at_server;
        counted = refl;
      }

  -- a timeslice that was On n is n's own: its chain ends, Ready, there
  pub own_of : (q : ℕ) → member q s.order ≡ true → on_thread n (place_at s.places q) ≡ true → owner s q ≡ n
  own_of q listed k = by (subst (λ (p : Place). Good s q p) (on_is n (place_at s.places q) k) (x.placed.good q listed))
    where
      by : Waits ts (owner s q) n → owner s q ≡ n
      by (blocked p b) = let i = r.idle in let z : ◌≡◌ {A = ℕ} 0 1 = cc in absurd (omega arith)
      by (idle o i) = o

  joined_runs : (q : ℕ) → topmost_at (on_thread n) (with_threads ts' s) ≡ some q → RunsAt ts' (owner s q) n 0
  joined_runs q j =
      let top = top_some s.slices (λ u. on_thread n (place_at s.places u)) s.order q j in
      subst (λ (k : ℕ). RunsAt ts' k n 0) (sym (own_of q top.listed top.taken))
      (record { chain = no_links; ends = ends_here ts' n (ap link_of pair.at_server); ready = pair.at_server; counted = refl })

  -- the next look: the topmost in Queue runs
  pub record Next (s' : State) : Type 0 where
    pub timeslice : ℕ
    pub thread : ℕ
    pub count : ℕ
    pub topmost : topmost_at in_queue s' ≡ some timeslice
    pub runs : RunsAt s'.threads (owner s' timeslice) thread count

  next_of : (q count : ℕ) → topmost_at in_queue (release (on_thread n) (with_threads ts' s)) ≡ some q → RunsAt ts' (owner s q) n count
      → Next (release (on_thread n) (with_threads ts' s))
  next_of q count f w =
      record {
        timeslice = q;
        thread = n;
        count = count;
        topmost = f;
        runs =
            subst (λ (p : Plain). RunsAt p.threads (owner_at p.slices q) n count)
            (sym (forget_release (on_thread n) (with_threads ts' s))) w;
      }

  top : Top s.slices (λ u. in_queue (place_at s.places u)) s.order t
  top = queue_top s t e

  -- t is still in Queue; who stands above it there has just joined
  next : Next (release (on_thread n) (with_threads ts' s))
  next = by (topmost_at in_queue after) refl
    where
      after : State
      after = release (on_thread n) (with_threads ts' s)

      t_queued : in_queue (place_at after.places t) ≡ true
      t_queued =
          is_queued (queue_kept (on_thread n) (with_threads ts' s) retry_releasable t top.listed (top_queued s t e))

      found : (q : ℕ) → topmost_at in_queue after ≡ some q → Top s.slices (λ u. in_queue (place_at after.places u)) s.order q
      found q f =
          top_some s.slices (λ u. in_queue (place_at after.places u)) s.order q
          (sym (topmost_release (on_thread n) (with_threads ts' s)) ∙ f)

      one : (q : ℕ) → topmost_at in_queue after ≡ some q → Same q t → Queued (on_thread n) (with_threads ts' s) q → Next after
      one q f (equal z _) w =
          next_of q arrived.chain.count f (subst (λ (k : ℕ). RunsAt ts' (owner s k) n arrived.chain.count) (sym z) own_runs)
      one q f (different o _) (joined_now j) = next_of q 0 f (joined_runs q j)
      one q f (different o _) (was w) =
          clash (stands_above s.slices s.order t q)
          (top.above q (found q f).listed (is_queued w) o)
          (above_asym s.slices s.order q t ((found q f).above t top.listed t_queued (λ z. o (sym z))))

      by : (o : Option ℕ) → topmost_at in_queue after ≡ o → Next after
      by none f =
          clash (in_queue (place_at after.places t)) t_queued
          (top_none s.slices (λ u. in_queue (place_at after.places u)) s.order
          (sym (topmost_release (on_thread n) (with_threads ts' s)) ∙ f) t top.listed)
      by (some q) f =
          one q f (same q t) (queue_after (on_thread n) (with_threads ts' s) retry_releasable q (found q f).listed (found q f).taken)

  pub retry_live : live_thread_count (donate r.chain.helper n s.threads) ≡ live_thread_count s.threads
  retry_live = pair.update.count

  pub retry_next : Next (retry (ended n r.chain) s)
  unfolding retry
  retry_next = next
