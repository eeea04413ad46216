-- What a rank leaves. The timeslice has its priority and the last turn, and the others stand as they stood; it stands alone, since the
-- choice sends nobody Behind another but those it releases together; and every follower stands below its leader.
use Prim.Native.Nat.{ℕ, ◌≤◌}
use mathlib.Core.Path.{◌≡◌, refl, sym, ap, ◌∙◌, subst}
use mathlib.Core.Bool.{Bool, true, false, not}
use mathlib.Core.Option.{some}
use native.Mathlib.Omega.{arith}
use lib.ListN.{set}
use lib.Seq.{get_or-set_same, get_or-set_other}
use lib.Dec.{leb}
use borrow.Author.Tests.{not-false}
use Rattle.rules.specs.declared.Place.{Place}
use Rattle.rules.specs.declared.Place.TheVariants.{Queue, Behind}
use Rattle.rules.specs.declared.Event.{Event}
use Rattle.rules.specs.declared.Event.TheVariants.{Rank}
use Rattle.rules.specs.Tests.{member}
use Rattle.rules.specs.declared.Slice.{Slice}
use Rattle.rules.specs.State.{State, Plain, forget, free_place, slice_at, priority_at, place_at, with_places}
use Rattle.rules.specs.Walk.{ended}
use Rattle.rules.specs.Order.{stands_above}
use Rattle.rules.specs.Timeslices.{with_priority, to_back, ranked}
use Rattle.rules.specs.Release.{in_queue, behind, topmost_at, release}
use Rattle.rules.specs.Choice.{park, retry}
use Rattle.rules.specs.Sound.{sound}
use Rattle.rules.specs.Refusals.{refusal, above_limit}
use Rattle.rules.specs.Events.{Answered, detached, rank, offer}
use Rattle.rules.specs.Plain.{update, judge, plain_offer}
use Rattle.rules.specs.Lists.{Ranged}
use Rattle.rules.proofs.Basics.Views.{clash, Same, equal, different, same}
use Rattle.rules.proofs.Basics.Accepting.{passes}
use Rattle.rules.proofs.Order.Orders.{above_back, above_same, above_last_one, member_back}
use Rattle.rules.proofs.Soundness.Standings.{RetriesAt}
use Rattle.rules.proofs.Soundness.Places.{behind_is, owner, Led, Good, Mid, Sound, sound_of}
use Rattle.rules.proofs.Choosing.Releases.{Releasable, forget_release, Follows, stood, sent, follows, Alone}
use Rattle.rules.proofs.Choosing.Tops.{queue_top}
use Rattle.rules.proofs.Choosing.Parking.{unparked, aside_releasable}
use Rattle.rules.proofs.Choosing.Retrying.{retry_releasable, own_of}
use Rattle.rules.proofs.Choosing.Keeping.{choice_kept}
use Rattle.rules.proofs.Events.Rewrites.{rewritten_now, rewritten_others, in_table}
use Rattle.rules.proofs.Events.RankEvent.{detaches, rank_handed}
use Rattle.rules.proofs.Judging.{judge_slices, judge_order}
use Rattle.rules.proofs.Agreement.{agrees, offer_accepted}
use Rattle.rules.proofs.Demands.{accepted_sound}

-- a listed timeslice that stands alone, through a choice
record Apart (t : ℕ) (s : State) : Type 0 where
  listed : member t s.order ≡ true
  alone : Alone s t

-- a release sends one Behind another only where both are released: no two are, if t is one of them
alone_released : {at : Place → Bool} {s : State} {t : ℕ} → Releasable at s → Apart t s
    → ((u : ℕ) → member u s.order ≡ true → at (place_at s.places u) ≡ true → at (place_at s.places t) ≡ true → u ≡ t)
    → Apart t (release at s)
alone_released {at} {s} {t} r a only =
    let same_order : (release at s).order ≡ s.order = ap (λ (p : Plain). p.order) (forget_release at s) in
    record {
      listed = rw same_order a.listed;
      alone =
          record {
            leads_none = λ u h e. let k : member u s.order ≡ true = rw same_order at h in follower u k (follows at s r u k t e);
            follows_none = λ q e. leader q (follows at s r t a.listed q e);
          };
    }
  where
    follower : (u : ℕ) → member u s.order ≡ true → Follows at s u t → ⊥
    follower u h (stood e _) = a.alone.leads_none u h e
    follower u h (sent k l _ n) = n (only u h k l)

    leader : (q : ℕ) → Follows at s t q → ⊥
    leader q (stood e _) = a.alone.follows_none q e
    leader q (sent k l h n) = n (sym (only q h l k))

-- another is put aside, or t itself: nobody is sent Behind it
park_apart : (t : ℕ) (s : State) → Mid s → (c : ℕ) → topmost_at in_queue s ≡ some c → (p : Place) → unparked p ≡ false → Good s c p
    → Apart t s → Apart t (park c p s)
unfolding park
park_apart t s x c e p aside good a = alone_released (aside_releasable s x c e p aside good) moved only
  where
    -- who stands Behind another then stood there
    stands : (u q : ℕ) → place_at (set s.places c p) u ≡ Behind q → Same u c → place_at s.places u ≡ Behind q
    stands u q f (equal z _) =
        let now = get_or-set_same s.places c p free_place (rw x.placed.full (x.shape.turns.small c (queue_top s c e).listed)) in
        clash (unparked p) (ap unparked (sym now ∙ ap (place_at (set s.places c p)) (sym z) ∙ f)) aside
    stands u q f (different n _) = sym (get_or-set_other s.places c u p free_place n) ∙ f

    moved : Apart t (with_places (set s.places c p) s)
    moved =
        record {
          listed = a.listed;
          alone =
              record {
                leads_none = λ u h f. a.alone.leads_none u h (stands u t f (same u c));
                follows_none = λ q f. a.alone.follows_none q (stands t q f (same t c));
              };
        }

    only : (u : ℕ) → member u s.order ≡ true → behind c (place_at (set s.places c p) u) ≡ true
        → behind c (place_at (set s.places c p) t) ≡ true → u ≡ t
    only u h k l = absurd (moved.alone.follows_none c (behind_is c (place_at (set s.places c p) t) l))

-- a retry releases the end's own timeslice alone
retry_apart : (t : ℕ) (s : State) → Mid s → (c : ℕ) → topmost_at in_queue s ≡ some c → (n : ℕ) (r : RetriesAt s.threads (owner s c) n)
    → Apart t s → Apart t (retry (ended n r.chain) s)
unfolding retry
retry_apart t s x c e n r a =
    alone_released (retry_releasable s x c e n r)
    (record { listed = a.listed; alone = record { leads_none = a.alone.leads_none; follows_none = a.alone.follows_none } })
    (λ u h k l. x.shape.turns.owners u t h a.listed (own_of s x c e n r u h k ∙ sym (own_of s x c e n r t a.listed l)))

-- an accepted rank, from every sound machine
module _ (s : State) (h : sound s ≡ true) (t priority : ℕ) (low : priority ≤ 255)
    (accepted : refusal (Rank t priority) (forget s) ≡ 0) where
  x : Sound s
  x = sound_of s h

  ranged : Ranged (Rank t priority)
  ranged =
      record {
        give = λ u n k quantum e. let z : ◌≡◌ {A = ℕ} 0 1 = cc in absurd (omega arith);
        rank = λ u k e. let z : priority ≡ k = cc in omega arith;
      }

  listed : member t s.order ≡ true
  listed =
      not-false (member t s.order)
      (passes (not (member t s.order)) 3 0 (passes (above_limit t) 1 _ accepted).1).0

  plain : forget (offer (Rank t priority) s).state ≡ judge (update (Rank t priority) (forget s))
  unfolding plain_offer
  plain = (agrees (Rank t priority) s x ranged).plain ∙ rw accepted refl

  -- "The timeslice takes that priority and goes to the back of the turn order."
  pub rank_slices : (offer (Rank t priority) s).state.slices ≡ ranked t priority s.slices
  rank_slices = ap (λ (p : Plain). p.slices) plain ∙ judge_slices (update (Rank t priority) (forget s))

  pub rank_order : (offer (Rank t priority) s).state.order ≡ to_back t s.order
  rank_order = ap (λ (p : Plain). p.order) plain ∙ judge_order (update (Rank t priority) (forget s))

  -- the table with the new priority, read at a number
  own_priority : priority_at (ranked t priority s.slices) t ≡ priority
  unfolding ranked
  own_priority =
      ap (λ (y : Slice). y.priority)
      (rewritten_now s.slices t (with_priority priority (slice_at s.slices t)) (in_table x.mid t listed))

  other_priority : (u : ℕ) → (u ≡ t → ⊥) → priority_at (ranked t priority s.slices) u ≡ priority_at s.slices u
  unfolding ranked
  other_priority u n =
      ap (λ (y : Slice). y.priority)
      (rewritten_others s.slices t (with_priority priority (slice_at s.slices t)) (in_table x.mid t listed) u n)

  -- the others stand as they stood
  pub rank_others : (a b : ℕ) → (a ≡ t → ⊥) → (b ≡ t → ⊥)
      → stands_above (offer (Rank t priority) s).state.slices (offer (Rank t priority) s).state.order a b
      ≡ stands_above s.slices s.order a b
  rank_others a b na nb =
      rw (rank_slices, rank_order)
      (above_same (ranked t priority s.slices) s.slices (to_back t s.order) a b (other_priority a na) (other_priority b nb)
      ∙ above_back s.slices t s.order a b na nb)

  -- and above the ranked one stands whoever has no lower priority
  pub rank_above : (u : ℕ) → member u s.order ≡ true → (u ≡ t → ⊥)
      → stands_above (offer (Rank t priority) s).state.slices (offer (Rank t priority) s).state.order u t
      ≡ leb priority (priority_at s.slices u)
  rank_above u k n =
      rw (rank_slices, rank_order)
      (above_last_one (ranked t priority s.slices) t u s.order x.mid.shape.turns.once k n
      ∙ rw (own_priority, other_priority u n) refl)

  -- nobody stands Behind the ranked one, and it stands Behind nobody
  apart : Apart t (rank t priority s).state
  unfolding rank
  apart =
      let d = detaches x.mid t listed (place_at s.places t) refl in
      let order = (detached t s (place_at s.places t)).order in
      let now : member t order ≡ true = ap (λ (p : Plain). member t p.order) d.plain ∙ listed in
      let back : (u : ℕ) → member u (to_back t order) ≡ member u order = λ u. member_back t u order now in
      record {
        listed = back t ∙ now;
        alone = record { leads_none = λ u k. d.alone.leads_none u (sym (back u) ∙ k); follows_none = d.alone.follows_none };
      }

  settled : Apart t (offer (Rank t priority) s).state
  unfolding rank
  settled =
      subst (λ (a : Answered). Apart t a.state) (sym (offer_accepted (Rank t priority) s h accepted))
      (choice_kept (Apart t)
      (λ r u a. record { listed = a.listed; alone = record { leads_none = a.alone.leads_none; follows_none = a.alone.follows_none } })
      (park_apart t) (retry_apart t) (record { state = (rank t priority s).state; links = 0 })
      (rank_handed s x t priority low accepted).mid apart)

  pub rank_leads_none : (u : ℕ) → member u s.order ≡ true → place_at (offer (Rank t priority) s).state.places u ≡ Behind t → ⊥
  rank_leads_none u k =
      settled.alone.leads_none u (rw rank_order (member_back t u s.order listed ∙ k))

  pub rank_follows_none : (q : ℕ) → place_at (offer (Rank t priority) s).state.places t ≡ Behind q → ⊥
  rank_follows_none = settled.alone.follows_none

-- "The rule that a follower stands below its leader": its leader is in Queue and stands above it, in every sound machine,
pub follower_below : (s : State) → sound s ≡ true → (u q : ℕ) → member u s.order ≡ true → place_at s.places u ≡ Behind q
    → (member q s.order ≡ true) × (place_at s.places q ≡ Queue) × (stands_above s.slices s.order q u ≡ true)
follower_below s h u q k e =
    let led : Led s u q = subst (λ (p : Place). Good s u p) e ((sound_of s h).mid.placed.good u k) in
    (led.listed, led.queued, led.above)

-- and it survives every event, a rank too
pub follower_below_after : (e : Event) (s : State) → Ranged e → sound s ≡ true → (u q : ℕ) → member u (offer e s).state.order ≡ true
    → place_at (offer e s).state.places u ≡ Behind q
    → (member q (offer e s).state.order ≡ true) × (place_at (offer e s).state.places q ≡ Queue)
    × (stands_above (offer e s).state.slices (offer e s).state.order q u ≡ true)
follower_below_after e s f h = follower_below (offer e s).state (accepted_sound e s f h)
