-- "Choice only if a released one stands above the current": where none does, the machine is settled as it stands. For call and wake, and
-- for give and refill, where one timeslice joins Queue that was not there.
use Prim.Native.Nat.{ℕ, suc, ◌<◌, ◌≤◌, ◌+◌, ◌*◌}
use mathlib.Core.Path.{◌≡◌, refl, sym, ap, ◌∙◌, subst}
use mathlib.Core.List.{List}
use mathlib.Core.Bool.{Bool, true, false}
use mathlib.Core.Option.{some}
use native.Mathlib.Omega.{arith}
use native.Mathlib.Nat.{mul-le-mul_left}
use lib.ListN.{length}
use lib.Dec.{eqb}
use borrow.Author.Tests.{ne_eqb}
use Rattle.rules.specs.declared.Place.{Place}
use Rattle.rules.specs.declared.Place.TheVariants.{Queue, Behind, On, Stalled, Spent}
use Rattle.rules.specs.declared.Running.{Running}
use Rattle.rules.specs.declared.Running.TheVariants.{Nothing, Runs}
use Rattle.rules.specs.Tests.{member}
use Rattle.rules.specs.declared.Slice.{Slice}
use Rattle.rules.specs.State.{State, Plain, forget, place_at, owner_at, left_at, live_thread_count}
use Rattle.rules.specs.Order.{stands_above}
use Rattle.rules.specs.Release.{in_queue, on_thread, topmost_at, release}
use Rattle.rules.specs.Events.{joins, releases, overtakes, above_running}
use Rattle.rules.specs.Plain.{plain_timeslices}
use Rattle.rules.proofs.Basics.Views.{clash}
use Rattle.rules.proofs.Order.Orders.{Top, top_some, above_total}
use Rattle.rules.proofs.Soundness.Standings.{RunsAt}
use Rattle.rules.proofs.Soundness.Places.{owner, Settled, nothing, runs_on, Sound}
use Rattle.rules.proofs.Choosing.Releases.{Releasable, Released, nobody, joins as joins-queue, released, release_mid, forget_release}
use Rattle.rules.proofs.Choosing.Tops.{queue_top, top_queued, top_stays}
use Rattle.rules.proofs.Choosing.Slices.{Retimed, owner_kept, retimed, put_listed, stay, retimed_mid, retimed_top}
use Rattle.rules.proofs.Events.Hands.{link_limit, Handed, same_limit, active}

-- the same runs after a release
runs_after : (at : Place → Bool) (s : State) (t n count : ℕ) → RunsAt s.threads (owner s t) n count
    → RunsAt (release at s).threads (owner (release at s) t) n count
runs_after at s t n count r =
    subst (λ (p : Plain). RunsAt p.threads (owner_at p.slices t) n count) (sym (forget_release at s)) r

-- who is On a thread is not in Queue
on_unqueued : (n : ℕ) (p : Place) → on_thread n p ≡ true → in_queue p ≡ true → ⊥
on_unqueued n Queue k q = clash false k refl
on_unqueued n (Behind m) k q = clash false k refl
on_unqueued n (On m) k q = clash false q refl
on_unqueued n Stalled k q = clash false k refl
on_unqueued n Spent k q = clash false k refl

settled_after : (n : ℕ) (s : State) → Releasable (on_thread n) s → Settled s → overtakes s (topmost_at (on_thread n) s) ≡ false
    → Settled (release (on_thread n) s)
settled_after n s x settled quiet = by (released (on_thread n) s)
  where
    joined : (q : ℕ) → topmost_at (on_thread n) s ≡ some q → above_running s q s.running ≡ false → Settled s
        → Settled (release (on_thread n) s)
    joined q e k (nothing r f) = clash true refl (rw r at k)
    joined q e k (runs_on t m count r f w) =
        runs_on t m count (ap (λ (p : Plain). p.running) (forget_release (on_thread n) s) ∙ r)
        (top_stays (on_thread n) s x t f (λ u g. subst (λ (z : ℕ). stands_above s.slices s.order t z ≡ true) (same_one u g) over))
        (runs_after (on_thread n) s t m count w)
      where
        low : stands_above s.slices s.order q t ≡ false
        low = rw r at k

        top : Top s.slices (λ u. on_thread n (place_at s.places u)) s.order q
        top = top_some s.slices (λ u. on_thread n (place_at s.places u)) s.order q e

        apart : q ≡ t → ⊥
        apart z = on_unqueued n (place_at s.places q) top.taken (rw z (queue_top s t f).taken)

        over : stands_above s.slices s.order t q ≡ true
        over = above_total s.slices s.order q t top.listed apart low

        same_one : (u : ℕ) → topmost_at (on_thread n) s ≡ some u → q ≡ u
        same_one u g = cc

    by : Released (on_thread n) s → Settled (release (on_thread n) s)
    by (nobody e r) = rw r settled
    by (joins-queue q e r) = joined q e (rw e at quiet) settled

-- what a release of those On a thread hands on
pub releases_handed : (s : State) (n : ℕ) (s₁ : State) → Releasable (on_thread n) s₁ → Settled s₁
    → live_thread_count s₁.threads ≡ live_thread_count s.threads → length s₁.order ≡ length s.order
    → Handed s (releases n s₁) (forget s₁)
unfolding releases
releases_handed s n s₁ x settled lives turns =
    record {
      mid = release_mid (on_thread n) s₁ x;
      plain = forget_release (on_thread n) s₁;
      settled = settled_after n s₁ x settled;
      unwalked = λ q. refl;
      links = λ q. same_limit s 0 (forget s₁) (omega arith) lives turns;
    }

-- a timeslice joins Queue that was not there: nobody stands Behind it, and what ran still runs unless it stands above
module _ {s : State} (x : Sound s) {ss' : List Slice} {order' : List ℕ} {t : ℕ}
    (r : Retimed s.threads s.slices ss' s.order order' t) (now : member t order' ≡ true)
    (outside : (q : ℕ) → member q s.order ≡ true → place_at s.places q ≡ Queue → q ≡ t → ⊥) where
  settled_joined : (running : Running) → s.running ≡ running → above_running (retimed ss' order' t Queue s) t running ≡ false
      → Settled (retimed ss' order' t Queue s)
  settled_joined Nothing e z = clash true refl z
  settled_joined (Runs m c count) e z =
      let a = active s x m c count e in
      let other = outside c a.listed (top_queued s c a.topmost) in
      runs_on c m count e (retimed_top s Queue r other a.topmost z)
      (subst (λ (k : ℕ). RunsAt s.threads k m count) (sym (owner_kept r c other)) a.runs)

  pub joins_handed : 0 < left_at ss' t → length order' ≤ suc (length s.order)
      → Handed s (joins t (retimed ss' order' t Queue s)) (plain_timeslices ss' order' (forget s))
  joins_handed some_left turns =
      let timed : eqb (left_at ss' t) 0 ≡ false = ne_eqb (left_at ss' t) 0 (λ z. omega arith) in
      let few : live_thread_count s.threads * (length order' + 1) ≤ link_limit (forget s) =
      mul-le-mul_left (live_thread_count s.threads) (omega arith) in
      record {
        mid =
            retimed_mid x.mid r Queue (put_listed (retimed ss' order' t Queue s) t Queue now tt (sym timed))
            (stay now refl (λ u led. absurd (outside t led.listed led.queued refl)));
        plain = refl;
        settled = settled_joined s.running refl;
        unwalked = λ z. refl;
        links = λ z. omega (arith, few);
      }
