-- Rank, in two steps: the timeslice is detached, so that it stands alone, Behind nobody and nobody Behind it; then it takes any priority
-- and turn, and the others, which keep their order among themselves, stand as they stood.
use Prim.Native.Nat.{ℕ, ◌≤◌}
use mathlib.Core.Path.{◌≡◌, refl, sym, ap, ◌∙◌, subst}
use mathlib.Core.Bool.{true, false, not}
use native.Mathlib.Omega.{arith}
use lib.ListN.{set}
use lib.Seq.{get_or-set_same, get_or-set_other}
use lib.Dec.{eqb}
use borrow.Author.Tests.{not-false}
use Rattle.rules.specs.declared.Place.{Place}
use Rattle.rules.specs.declared.Place.TheVariants.{Queue, Behind, On, Stalled, Spent}
use Rattle.rules.specs.declared.Event.TheVariants.{Rank}
use Rattle.rules.specs.Tests.{member}
use Rattle.rules.specs.declared.Slice.{Slice}
use Rattle.rules.specs.State.{State, Plain, forget, free_place, slice_at, owner_at, place_at}
use Rattle.rules.specs.Timeslices.{with_priority, to_back, ranked}
use Rattle.rules.specs.Release.{is_spent, in_queue, behind, release}
use Rattle.rules.specs.Refusals.{refusal, above_limit}
use Rattle.rules.specs.Events.{detached, with_ranked, rank}
use Rattle.rules.specs.Plain.{update, plain_timeslices}
use Rattle.rules.proofs.Basics.Views.{clash, Same, equal, different, same}
use Rattle.rules.proofs.Basics.Accepting.{passes}
use Rattle.rules.proofs.Order.Orders.{member_back, length_back}
use Rattle.rules.proofs.Soundness.Standings.{Waits, Stalls}
use Rattle.rules.proofs.Soundness.Places.{Led, Good, Mid, Sound}
use Rattle.rules.proofs.Choosing.Releases.{Releasable, mid_releasable, release_mid, forget_release, queue_kept}
use Rattle.rules.proofs.Choosing.Releases.{Follows, stood, sent, follows, is_behind, Alone}
use Rattle.rules.proofs.Choosing.Slices.{Retimed, retimed, put_listed, none, retimed_mid, stays_put, unchanged}
use Rattle.rules.proofs.Events.Hands.{Handed, same_limit}
use Rattle.rules.proofs.Events.Rewrites.{rewritten_now, in_table, range, retimed_back}

-- what detaching leaves: the timeslice stands alone, and the plain machine sees nothing
pub record Detached (s : State) (t : ℕ) (s' : State) : Type 0 where
  pub mid : Mid s'
  pub alone : Alone s' t
  pub plain : forget s' ≡ forget s

module _ {s : State} (x : Mid s) (t : ℕ) (listed : member t s.order ≡ true) where
  -- nobody stands Behind one that is not in Queue
  no_followers : {p : Place} → place_at s.places t ≡ p → in_queue p ≡ false → (u : ℕ) → member u s.order ≡ true
      → place_at s.places u ≡ Behind t → ⊥
  no_followers {p} e n u h f =
      let led : Led s u t = subst (λ (o : Place). Good s u o) f (x.placed.good u h) in
      clash (in_queue p) (ap in_queue (sym e ∙ led.queued)) n

  -- a place that is no place Behind another
  elsewhere : {o p : Place} → o ≡ p → ((q : ℕ) → behind q p ≡ false) → (q : ℕ) → o ≡ Behind q → ⊥
  elsewhere {o} {p} e n q f = clash (behind q p) (is_behind q (sym e ∙ f)) (n q)

  -- in Queue: of those that are released none goes Behind t
  released : place_at s.places t ≡ Queue → Detached s t (release (behind t) s)
  released e =
      let r : Releasable (behind t) s = mid_releasable x (behind t) refl refl in
      let same_order : (release (behind t) s).order ≡ s.order = ap (λ (p : Plain). p.order) (forget_release (behind t) s) in
      record {
        mid = release_mid (behind t) s r;
        alone =
            record {
              leads_none = λ u h f. by (follows (behind t) s r u (rw same_order at h) t f);
              follows_none = elsewhere (queue_kept (behind t) s r t listed e) (λ q. refl);
            };
        plain = forget_release (behind t) s;
      }
    where
      by : {u : ℕ} → Follows (behind t) s u t → ⊥
      by {u} (stood f n) = clash (behind t (place_at s.places u)) (is_behind t f) n
      by (sent _ k _ _) = clash (behind t (place_at s.places t)) k (ap (behind t) e)

  -- Behind another: it joins Queue
  joined : (q : ℕ) → place_at s.places t ≡ Behind q → Detached s t (detached t s (Behind q))
  joined q e =
      record {
        mid =
            retimed_mid x (unchanged x.shape.turns t listed) Queue
            (put_listed (detached t s (Behind q)) t Queue listed tt (ap is_spent (sym e) ∙ x.placed.spent t listed))
            (none (no_followers e refl));
        alone = record { leads_none = λ u h f. by u h f (same u t); follows_none = elsewhere now (λ q. refl) };
        plain = refl;
      }
    where
      now : place_at (set s.places t Queue) t ≡ Queue
      now = get_or-set_same s.places t Queue free_place (rw x.placed.full (x.shape.turns.small t listed))

      by : (u : ℕ) → member u s.order ≡ true → place_at (set s.places t Queue) u ≡ Behind t → Same u t → ⊥
      by u h f (equal z _) = elsewhere now (λ q. refl) t (sym (ap (place_at (set s.places t Queue)) z) ∙ f)
      by u h f (different n _) = no_followers e refl u h (sym (get_or-set_other s.places t u Queue free_place n) ∙ f)

  -- in any other place it stands alone already
  stays : {p : Place} → place_at s.places t ≡ p → in_queue p ≡ false → ((q : ℕ) → behind q p ≡ false) → Detached s t s
  stays e n m = record { mid = x; alone = record { leads_none = no_followers e n; follows_none = elsewhere e m }; plain = refl }

  pub detaches : (p : Place) → place_at s.places t ≡ p → Detached s t (detached t s p)
  detaches Queue e = released e
  detaches (Behind q) e = joined q e
  detaches (On n) e = stays e refl (λ q. refl)
  detaches Stalled e = stays e refl (λ q. refl)
  detaches Spent e = stays e refl (λ q. refl)

-- a listed timeslice that stands alone takes a priority and goes to the back
module _ {s : State} (x : Mid s) (t priority : ℕ) (listed : member t s.order ≡ true) (low : priority ≤ 255) (a : Alone s t) where
  ranked_retimed : Retimed s.threads s.slices (ranked t priority s.slices) s.order (to_back t s.order) t
  unfolding ranked
  ranked_retimed = retimed_back x t listed (with_priority priority (slice_at s.slices t)) refl ((range x t listed).ranks priority low)

  -- it keeps its owner and what is left of it
  ranked_now : slice_at (ranked t priority s.slices) t ≡ with_priority priority (slice_at s.slices t)
  unfolding ranked
  ranked_now = rewritten_now s.slices t (with_priority priority (slice_at s.slices t)) (in_table x t listed)

  same_owner : owner_at s.slices t ≡ owner_at (ranked t priority s.slices) t
  same_owner = sym (ap (λ (y : Slice). y.owner) ranked_now)

  -- so its place is still true
  good : (p : Place) → place_at s.places t ≡ p → Good s t p
      → Good (retimed (ranked t priority s.slices) (to_back t s.order) t (place_at s.places t) s) t p
  good Queue e g = tt
  good (Behind q) e g = absurd (a.follows_none q e)
  good (On n) e g = subst (λ (k : ℕ). Waits s.threads k n) same_owner g
  good Stalled e g = subst (λ (k : ℕ). Stalls s.threads k) same_owner g
  good Spent e g = tt

  pub alone_ranks : Mid (with_ranked t priority s)
  alone_ranks =
      let p = place_at s.places t in
      let s' = retimed (ranked t priority s.slices) (to_back t s.order) t p s in
      subst Mid (stays_put s (ranked t priority s.slices) (to_back t s.order) t p refl)
      (retimed_mid x ranked_retimed p
      (put_listed s' t p (member_back t t s.order listed ∙ listed) (good p refl (x.placed.good t listed))
      (x.placed.spent t listed ∙ ap (λ (y : Slice). eqb y.left 0) (sym ranked_now)))
      (none a.leads_none))

pub rank_handed : (s : State) → Sound s → (t priority : ℕ) → priority ≤ 255 → refusal (Rank t priority) (forget s) ≡ 0
    → Handed s (rank t priority s) (update (Rank t priority) (forget s))
unfolding rank
rank_handed s x t priority low e =
    let a = passes (above_limit t) 1 _ e in
    let b = passes (not (member t s.order)) 3 0 a.1 in
    let listed = not-false (member t s.order) b.0 in
    let d = detaches x.mid t listed (place_at s.places t) refl in
    record {
      mid = alone_ranks d.mid t priority (ap (λ (p : Plain). member t p.order) d.plain ∙ listed) low d.alone;
      plain = ap (λ (p : Plain). plain_timeslices (ranked t priority p.slices) (to_back t p.order) p) d.plain;
      settled = λ z. clash true refl z;
      unwalked = λ z. refl;
      links = λ z. same_limit s 0 (update (Rank t priority) (forget s)) (omega arith) refl (length_back t s.order listed);
    }
