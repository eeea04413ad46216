-- The top lemma: in a machine midway, whoever stands above the topmost in Queue is put aside, and may not run.
use Prim.Native.Nat.{ℕ}
use mathlib.Core.Path.{◌≡◌, refl, sym, ap, ◌∙◌, subst}
use mathlib.Core.Bool.{Bool, true, false, not}
use mathlib.Core.Option.{none, some}
use lib.Dec.{eqb}
use Rattle.rules.specs.declared.Place.{Place}
use Rattle.rules.specs.declared.Place.TheVariants.{Queue, Behind, On, Stalled, Spent}
use Rattle.rules.specs.Tests.{member}
use Rattle.rules.specs.State.{State, forget, left_at, place_at}
use Rattle.rules.specs.Order.{stands_above, topmost}
use Rattle.rules.specs.Walk.{chain_of, verdict, lets, has_time, may_run}
use Rattle.rules.specs.Release.{is_spent, in_queue, topmost_at, release}
use Rattle.rules.specs.Plain.{topmost_runnable}
use Rattle.rules.proofs.Basics.Views.{clash, Same, equal, different, same, and_true_both, and_false_left, and_false_right}
use Rattle.rules.proofs.Order.Orders.{Top, top_some, top_none, is_top, is_none, above_trans}
use Rattle.rules.proofs.Soundness.Standings.{Waits, Stalls, waits_walk, stalls_walk}
use Rattle.rules.proofs.Soundness.Places.{queue_is, owner, owner_live, Good, Mid}
use Rattle.rules.proofs.Choosing.Releases.{Releasable, Queued, was, joined_now, queue_after, queue_kept, forget_release}

-- what the topmost in Queue is
pub queue_top : (s : State) (t : ℕ) → topmost_at in_queue s ≡ some t → Top s.slices (λ u. in_queue (place_at s.places u)) s.order t
queue_top s t e = top_some s.slices (λ u. in_queue (place_at s.places u)) s.order t e

pub top_queued : (s : State) (t : ℕ) → topmost_at in_queue s ≡ some t → place_at s.places t ≡ Queue
top_queued s t e = queue_is (place_at s.places t) (queue_top s t e).taken

pub queue_none : (s : State) → topmost_at in_queue s ≡ none → (u : ℕ) → member u s.order ≡ true → in_queue (place_at s.places u) ≡ false
queue_none s e = top_none s.slices (λ u. in_queue (place_at s.places u)) s.order e

pub is_queued : {p : Place} → p ≡ Queue → in_queue p ≡ true
is_queued e = ap in_queue e

-- a timeslice put aside may not run: its chain's end does not let it
held_back : (s : State) (u : ℕ) → lets (verdict s.threads (chain_of s.threads s.slices u)) ≡ false
    → may_run s.threads s.slices u ≡ false
held_back s u e = and_false_left (lets (verdict s.threads (chain_of s.threads s.slices u))) _ e

waits_idle : (s : State) → Mid s → (u n : ℕ) → member u s.order ≡ true → Waits s.threads (owner s u) n
    → may_run s.threads s.slices u ≡ false
waits_idle s x u n h w = held_back s u (ap lets (waits_walk x.shape.sane (owner_live s x.shape u h) w).0)

stalls_idle : (s : State) (u : ℕ) → Stalls s.threads (owner s u) → may_run s.threads s.slices u ≡ false
stalls_idle s u never = held_back s u (ap lets (stalls_walk s.threads (owner s u) never))

-- nothing is left of a Spent one, and something of every other
spent_idle : (s : State) → Mid s → (u : ℕ) → member u s.order ≡ true → place_at s.places u ≡ Spent
    → may_run s.threads s.slices u ≡ false
spent_idle s x u h e =
    let none_left : eqb (left_at s.slices u) 0 ≡ true = sym (x.placed.spent u h) ∙ ap is_spent e in
    and_false_right (lets (verdict s.threads (chain_of s.threads s.slices u))) (has_time s.slices u) (ap not none_left)

pub queued_time : (s : State) → Mid s → (t : ℕ) → member t s.order ≡ true → place_at s.places t ≡ Queue
    → has_time s.slices t ≡ true
queued_time s x t h e = ap not (sym (x.placed.spent t h) ∙ ap is_spent e)

-- who may run is not above the topmost in Queue
below_top : (s : State) → Mid s → (t : ℕ) → Top s.slices (λ v. in_queue (place_at s.places v)) s.order t
    → (u : ℕ) → member u s.order ≡ true → may_run s.threads s.slices u ≡ true → (u ≡ t → ⊥) → (p : Place)
    → place_at s.places u ≡ p → Good s u p
    → stands_above s.slices s.order t u ≡ true
below_top s x t top u h m n Queue e g = top.above u h (is_queued e) n
below_top s x t top u h m n (Behind q) e g = by (same q t)
  where
    by : Same q t → stands_above s.slices s.order t u ≡ true
    by (equal z _) = subst (λ (k : ℕ). stands_above s.slices s.order k u ≡ true) z g.above
    by (different o _) =
        above_trans s.slices s.order t q u (top.above q g.listed (is_queued g.queued) o) g.above
below_top s x t top u h m n (On k) e g = clash (may_run s.threads s.slices u) m (waits_idle s x u k h g)
below_top s x t top u h m n Stalled e g = clash (may_run s.threads s.slices u) m (stalls_idle s u g)
below_top s x t top u h m n Spent e g = clash (may_run s.threads s.slices u) m (spent_idle s x u h e)

-- so if the chain of the topmost in Queue lets it run, it is the plain machine's topmost that may
pub top_runs : (s : State) → Mid s → (t : ℕ) → topmost_at in_queue s ≡ some t
    → lets (verdict s.threads (chain_of s.threads s.slices t)) ≡ true → topmost_runnable (forget s) ≡ some t
top_runs s x t e m =
    let top = queue_top s t e in
    is_top s.slices (λ u. may_run s.threads s.slices u) s.order t
    (record {
      listed = top.listed;
      taken =
          and_true_both (lets (verdict s.threads (chain_of s.threads s.slices t))) (has_time s.slices t) m
          (queued_time s x t top.listed (top_queued s t e));
      above = λ u h k n. below_top s x t top u h k n (place_at s.places u) refl (x.placed.good u h);
    })

-- and if Queue is empty, none may run
idle_place : (s : State) → Mid s → ((u : ℕ) → member u s.order ≡ true → in_queue (place_at s.places u) ≡ false)
    → (u : ℕ) → member u s.order ≡ true → (p : Place) → place_at s.places u ≡ p → Good s u p
    → may_run s.threads s.slices u ≡ false
idle_place s x empty u h Queue e g = clash (in_queue (place_at s.places u)) (is_queued e) (empty u h)
idle_place s x empty u h (Behind q) e g = clash (in_queue (place_at s.places q)) (is_queued g.queued) (empty q g.listed)
idle_place s x empty u h (On n) e g = waits_idle s x u n h g
idle_place s x empty u h Stalled e g = stalls_idle s u g
idle_place s x empty u h Spent e g = spent_idle s x u h e

pub none_runs : (s : State) → Mid s → topmost_at in_queue s ≡ none → topmost_runnable (forget s) ≡ none
none_runs s x e =
    is_none s.slices (λ u. may_run s.threads s.slices u) s.order
    (λ u h. idle_place s x (queue_none s e) u h (place_at s.places u) refl (x.placed.good u h))

-- the topmost in Queue after a release, over the tables that the release leaves alone
pub topmost_release : (at : Place → Bool) (s : State)
    → topmost_at in_queue (release at s) ≡ topmost s.slices (λ u. in_queue (place_at (release at s).places u)) s.order
topmost_release at s =
    let f = forget_release at s in
    λ i. topmost (f i).slices (λ u. in_queue (place_at (release at s).places u)) (f i).order

-- it is the same as before, unless one joins that stands above it
pub top_stays : (at : Place → Bool) (s : State) → Releasable at s → (t : ℕ) → topmost_at in_queue s ≡ some t
    → ((q : ℕ) → topmost_at at s ≡ some q → stands_above s.slices s.order t q ≡ true) → topmost_at in_queue (release at s) ≡ some t
top_stays at s x t e over =
    topmost_release at s
    ∙ is_top s.slices (λ u. in_queue (place_at (release at s).places u)) s.order t
    (record {
      listed = top.listed;
      taken = is_queued (queue_kept at s x t top.listed (top_queued s t e));
      above = λ u h k n. by u h n (queue_after at s x u h k);
    })
  where
    top : Top s.slices (λ u. in_queue (place_at s.places u)) s.order t
    top = queue_top s t e

    by : (u : ℕ) → member u s.order ≡ true → (u ≡ t → ⊥) → Queued at s u → stands_above s.slices s.order t u ≡ true
    by u h n (was w) = top.above u h (is_queued w) n
    by u h n (joined_now j) = over u j
