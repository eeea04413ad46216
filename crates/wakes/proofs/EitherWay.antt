-- Two wakes of Blocked threads, either way round. But for what runs, a wake sets one hold and releases one set; two of them touch different
-- threads, and sets apart. What runs follows from the rest of a sound machine.
use Prim.Native.Nat.{ℕ}
use mathlib.Core.Path.{◌≡◌, refl, sym, ap, ◌∙◌}
use mathlib.Core.List.{List, [], ◌∷◌}
use mathlib.Core.Bool.{true, false}
use mathlib.Core.Option.{Option, none, some}
use native.Mathlib.Omega.{arith}
use lib.ListN.{set}
use lib.Seq.{get_or-set_other, set_comm}
use borrow.Author.Tests.{ne_eqb, eqb-true}
use Rattle.rules.specs.declared.Hold.{Hold}
use Rattle.rules.specs.declared.Hold.TheVariants.{Ready, Blocked}
use Rattle.rules.specs.declared.Place.{Place}
use Rattle.rules.specs.declared.Place.TheVariants.{Queue, Behind, On, Stalled, Spent}
use Rattle.rules.specs.declared.Running.{Running}
use Rattle.rules.specs.declared.Running.TheVariants.{Nothing, Runs}
use Rattle.rules.specs.declared.Thread.{Thread}
use Rattle.rules.specs.declared.Chain.{Chain}
use Rattle.rules.specs.declared.Event.TheVariants.{Wake}
use Rattle.rules.specs.declared.Slice.{Slice}
use Rattle.rules.specs.State.{State, free_thread, thread_at, hold_at, with_threads, with_running}
use Rattle.rules.specs.Walk.{chain_of}
use Rattle.rules.specs.Threads.{with_hold, set_hold}
use Rattle.rules.specs.Release.{in_queue, on_thread, topmost_at, release}
use Rattle.rules.specs.Sound.{sound}
use Rattle.rules.specs.Events.{Answered, above_running, releases, wake, offer}
use Rattle.rules.specs.Lists.{Ranged, run, after, numbers_of}
use Rattle.rules.proofs.Basics.Views.{Two, yes_true, no_false, two}
use Rattle.rules.proofs.Files.Records.{other_kind}
use Rattle.rules.proofs.Soundness.Standings.{runs_walk}
use Rattle.rules.proofs.Soundness.Places.{owner_live, Settled, nothing, runs_on, Sound, sound_of}
use Rattle.wakes.proofs.TwoReleases.{Listing, Apart, release_threads, release_running, releases_commute}
use Rattle.rules.proofs.Choosing.Tops.{queue_top}
use Rattle.rules.proofs.Events.WakeEvent.{wake_accepted, woken}
use Rattle.rules.proofs.Agreement.{offer_accepted}
use Rattle.rules.proofs.Demands.{accepted_sound, after_sound}
use Rattle.wakes.proofs.AtOnce.{woken_by, wake_at_once}

-- all of a machine but what runs
abbrev pub still : State → State
still s = with_running Nothing s

-- what runs, in a sound machine: the topmost in Queue, at the end of its chain
abbrev running_by : List Thread → List Slice → Option ℕ → Running
running_by ts ss none = Nothing
running_by ts ss (some t) = let c = chain_of ts ss t in Runs c.end t c.count

running_is : (s : State) → Sound s → s.running ≡ running_by s.threads s.slices (topmost_at in_queue s)
running_is s x = by x.settled
  where
    by : Settled s → s.running ≡ running_by s.threads s.slices (topmost_at in_queue s)
    by (nothing q e) = rw (e, q)
    by (runs_on t n count q e r) =
        let w = runs_walk x.mid.shape.sane (owner_live s x.mid.shape t (queue_top s t e).listed) r in
        q ∙ ap (λ (k : ℕ). Runs n t k) (sym r.counted) ∙ sym (rw e (ap (λ (c : Chain). Runs c.end t c.count) w.0))

-- so two sound machines that are otherwise equal are equal
same_running : (s s' : State) → Sound s → Sound s' → still s ≡ still s' → s ≡ s'
same_running s s' x x' e =
    let running : s.running ≡ s'.running =
    running_is s x ∙ ap (λ (z : State). running_by z.threads z.slices (topmost_at in_queue z)) e ∙ sym (running_is s' x') in
    λ i. record {
      threads = (e i).threads;
      slices = (e i).slices;
      places = (e i).places;
      order = (e i).order;
      running = running i;
    }

-- a wake, but for what runs
abbrev pub wakes : ℕ → State → State
wakes n s = release (on_thread n) (with_threads (set_hold n Ready s.threads) s)

pub wake_still : (s : State) → sound s ≡ true → (n : ℕ) → hold_at s.threads n ≡ Blocked
    → still (offer (Wake n) s).state ≡ wakes n (still s)
unfolding wake releases
wake_still s h n b = ap (λ (a : Answered). still a.state) (wake_at_once s h n b) ∙ by (topmost_at (on_thread n) s)
  where
    put_still : still (wakes n s) ≡ wakes n (still s)
    put_still = sym (release_running (on_thread n) Nothing (with_threads (set_hold n Ready s.threads) s))

    either : (t : ℕ) → Two (above_running s t s.running) → still (woken_by n s (some t)).state ≡ wakes n (still s)
    either t (yes_true k) = rw k put_still
    either t (no_false k) = rw k put_still

    by : (o : Option ℕ) → still (woken_by n s o).state ≡ wakes n (still s)
    by none = put_still
    by (some t) = either t (two (above_running s t s.running))

-- two holds
holds_commute : (a b : ℕ) (h : Hold) (ts : List Thread) → (a ≡ b → ⊥) → set_hold b h (set_hold a h ts) ≡ set_hold a h (set_hold b h ts)
unfolding set_hold
holds_commute a b h ts n =
    let at_a = with_hold h (thread_at ts a) in
    let at_b = with_hold h (thread_at ts b) in
    ap (λ (t : Thread). set (set ts a at_a) b (with_hold h t)) (get_or-set_other ts a b at_a free_thread (λ e. n (sym e)))
    ∙ set_comm ts a b at_a at_b n
    ∙ ap (λ (t : Thread). set (set ts b at_b) a (with_hold h t)) (sym (get_or-set_other ts b a at_b free_thread n))

-- those On different threads
pub on_apart : (a b : ℕ) → (a ≡ b → ⊥) → Apart (on_thread a) (on_thread b)
on_apart a b n = record { queue = refl; behind = λ q. refl; other = by }
  where
    by : (p : Place) → on_thread b p ≡ true → on_thread a p ≡ false
    by Queue e = refl
    by (Behind q) e = refl
    by (On m) e = ne_eqb m a (λ z. n (sym z ∙ eqb-true m b e))
    by Stalled e = refl
    by Spent e = refl

wakes_both : (a b : ℕ) (s : State)
    → wakes b (wakes a s) ≡ with_threads (set_hold b Ready (set_hold a Ready s.threads)) (release (on_thread b) (release (on_thread a) s))
wakes_both a b s =
    let ts = set_hold a Ready s.threads in
    ap (wakes b) (release_threads (on_thread a) ts s)
    ∙ release_threads (on_thread b) (set_hold b Ready ts) (release (on_thread a) s)

wakes_commute : (a b : ℕ) (s : State) → (a ≡ b → ⊥) → Listing s.order s.places
    → wakes b (wakes a s) ≡ wakes a (wakes b s)
wakes_commute a b s n l =
    let holds = holds_commute a b Ready s.threads n in
    let places = releases_commute (on_apart a b n) (on_apart b a (λ e. n (sym e))) s l in
    wakes_both a b s ∙ (λ i. with_threads (holds i) (places i)) ∙ sym (wakes_both b a s)

-- a wake's operand is not bounded
pub wake_ranged : (n : ℕ) → Ranged (Wake n)
wake_ranged n = other_kind (Wake n) (λ z. omega arith) (λ z. omega arith)

pub wake_sound : (s : State) → sound s ≡ true → (n : ℕ) → sound (offer (Wake n) s).state ≡ true
wake_sound s h n = accepted_sound (Wake n) s (wake_ranged n) h

-- one wake in a sound machine, seen from the next
module _ (s : State) (h : sound s ≡ true) (n : ℕ) (b : hold_at s.threads n ≡ Blocked) where
  pub wake_number : (offer (Wake n) s).refusal ≡ 0
  wake_number = ap (λ (a : Answered). a.refusal) (offer_accepted (Wake n) s h (wake_accepted s (sound_of s h) n b))

  pub threads_after : (offer (Wake n) s).state.threads ≡ set_hold n Ready s.threads
  threads_after =
      ap (λ (z : State). z.threads) (wake_still s h n b ∙ release_threads (on_thread n) (set_hold n Ready s.threads) (still s))

  pub ready_now : hold_at (offer (Wake n) s).state.threads n ≡ Ready
  ready_now = ap (λ (ts : List Thread). hold_at ts n) threads_after ∙ (woken s (sound_of s h) n b).now

  pub others_held : (m : ℕ) → (m ≡ n → ⊥) → hold_at (offer (Wake n) s).state.threads m ≡ hold_at s.threads m
  others_held m o = ap (λ (ts : List Thread). hold_at ts m) threads_after ∙ (woken s (sound_of s h) n b).others m o

module _ (a b : ℕ) (s : State) (h : sound s ≡ true) (n : a ≡ b → ⊥) (p : hold_at s.threads a ≡ Blocked)
    (q : hold_at s.threads b ≡ Blocked) where
  both_accepted : numbers_of (run (Wake a ∷ Wake b ∷ []) s) ≡ 0 ∷ 0 ∷ []
  unfolding run
  both_accepted =
      let first = wake_number s h a p in
      let second = wake_number (offer (Wake a) s).state (wake_sound s h a) b (others_held s h a p b (λ e. n (sym e)) ∙ q) in
      λ i. first i ∷ second i ∷ []

  both_still : still (after (Wake a ∷ Wake b ∷ []) s) ≡ wakes b (wakes a (still s))
  unfolding after
  both_still =
      wake_still (offer (Wake a) s).state (wake_sound s h a) b (others_held s h a p b (λ e. n (sym e)) ∙ q)
      ∙ ap (wakes b) (wake_still s h a p)

-- the turn order of a sound machine
pub listing : (s : State) → sound s ≡ true → Listing s.order s.places
listing s h =
    let x = (sound_of s h).mid in
    record { once = x.shape.turns.once; small = λ u l. rw x.placed.full (x.shape.turns.small u l) }

-- TWO WAKES. In every sound machine, of two different Blocked threads: all are accepted, and the machine is the same either way round.
pub record EitherWay (a b : ℕ) (s : State) : Type 0 where
  pub one_way : numbers_of (run (Wake a ∷ Wake b ∷ []) s) ≡ 0 ∷ 0 ∷ []
  pub other_way : numbers_of (run (Wake b ∷ Wake a ∷ []) s) ≡ 0 ∷ 0 ∷ []
  pub machine : after (Wake a ∷ Wake b ∷ []) s ≡ after (Wake b ∷ Wake a ∷ []) s

pub two_wakes : (a b : ℕ) (s : State) → sound s ≡ true → (a ≡ b → ⊥) → hold_at s.threads a ≡ Blocked
    → hold_at s.threads b ≡ Blocked → EitherWay a b s
two_wakes a b s h n p q =
    let other : b ≡ a → ⊥ = λ e. n (sym e) in
    record {
      one_way = both_accepted a b s h n p q;
      other_way = both_accepted b a s h other q p;
      machine =
          same_running (after (Wake a ∷ Wake b ∷ []) s) (after (Wake b ∷ Wake a ∷ []) s) (left_sound a b) (left_sound b a)
          (both_still a b s h n p q ∙ wakes_commute a b (still s) n (listing s h) ∙ sym (both_still b a s h other q p));
    }
  where
    left_sound : (a b : ℕ) → Sound (after (Wake a ∷ Wake b ∷ []) s)
    left_sound a b = sound_of _ (after_sound (Wake a ∷ Wake b ∷ []) s (wake_ranged a, (wake_ranged b, tt)) h)
