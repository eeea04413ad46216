-- A change of one timeslice, in the table, in the turn order and of its place, leaves every timeslice well placed or released.
-- Give, Charge, Refill, Remove, Rank and a look that puts one aside are such changes: they have to show what holds of that timeslice now,
-- and what becomes of its followers.
use Prim.Native.Nat.{ℕ, ◌<◌}
use mathlib.Core.Path.{◌≡◌, refl, sym, ap, ◌∙◌, subst}
use mathlib.Core.List.{List}
use mathlib.Core.Bool.{Bool, true, false}
use mathlib.Core.Option.{some}
use lib.ListN.{length, set, length-set}
use lib.Seq.{get_or-set_same, get_or-set_other, set-get_or}
use lib.Dec.{eqb}
use Rattle.rules.specs.declared.Thread.{Thread}
use Rattle.rules.specs.declared.Place.{Place}
use Rattle.rules.specs.declared.Place.TheVariants.{Queue, Behind, On, Stalled, Spent}
use Rattle.rules.specs.Tests.{member, distinct}
use Rattle.rules.specs.declared.Slice.{Slice}
use Rattle.rules.specs.State.{State, limit, free_slice, free_place, live_at, slice_at, owner_at, priority_at, left_at, place_at}
use Rattle.rules.specs.State.{with_places, with_timeslices}
use Rattle.rules.specs.Order.{stands_above}
use Rattle.rules.specs.Release.{is_spent, in_queue, topmost_at}
use Rattle.rules.specs.Sound.{in_range}
use Rattle.rules.proofs.Basics.Views.{clash, Same, equal, different, same}
use Rattle.rules.proofs.Order.Orders.{above_same, above_total, is_none, is_top}
use Rattle.rules.proofs.Soundness.Shapes.{Turns}
use Rattle.rules.proofs.Soundness.Standings.{Waits, Stalls}
use Rattle.rules.proofs.Soundness.Places.{Led, Good, Mid}
use Rattle.rules.proofs.Choosing.Releases.{Releasable, Ready, selected, kept, none_placed}
use Rattle.rules.proofs.Choosing.Tops.{queue_top}
use Rattle.rules.proofs.Choosing.Changes.{nowhere}

-- timeslice t is changed, new or gone: if it is listed now it is in range, with a live owner of its own, and if not its slot is free; the
-- others keep records and order
pub record Retimed (ts : List Thread) (ss ss' : List Slice) (order order' : List ℕ) (t : ℕ) : Type 0 where
  pub full : length ss' ≡ length ss
  pub once : distinct order' ≡ true
  pub small : t < limit
  pub range : member t order' ≡ true → in_range (slice_at ss' t) ≡ true
  pub live : member t order' ≡ true → live_at ts (owner_at ss' t) ≡ true
  pub own : member t order' ≡ true → (u : ℕ) → member u order ≡ true → (u ≡ t → ⊥) → owner_at ss u ≡ owner_at ss' t → ⊥
  pub gone : member t order' ≡ false → slice_at ss' t ≡ free_slice
  pub listed : (u : ℕ) → (u ≡ t → ⊥) → member u order' ≡ member u order
  pub others : (u : ℕ) → (u ≡ t → ⊥) → slice_at ss' u ≡ slice_at ss u
  pub above : (a b : ℕ) → (a ≡ t → ⊥) → (b ≡ t → ⊥) → stands_above ss order' a b ≡ stands_above ss order a b

module _ {ts : List Thread} {ss ss' : List Slice} {order order' : List ℕ} {t : ℕ} (r : Retimed ts ss ss' order order' t) where
  -- the others keep their owners
  pub owner_kept : (u : ℕ) → (u ≡ t → ⊥) → owner_at ss' u ≡ owner_at ss u
  owner_kept u n = ap (λ (x : Slice). x.owner) (r.others u n)

  -- two others stand as they stood
  above_kept : (a b : ℕ) → (a ≡ t → ⊥) → (b ≡ t → ⊥) → stands_above ss' order' a b ≡ stands_above ss order a b
  above_kept a b na nb =
      let priority : (u : ℕ) → (u ≡ t → ⊥) → priority_at ss' u ≡ priority_at ss u =
      λ u n. ap (λ (x : Slice). x.priority) (r.others u n) in
      above_same ss' ss order' a b (priority a na) (priority b nb) ∙ r.above a b na nb

  -- whoever is listed now is t, or was listed before
  each_now : (P : ℕ → Type 0) → (member t order' ≡ true → P t) → ((u : ℕ) → (u ≡ t → ⊥) → member u order ≡ true → P u)
      → (u : ℕ) → member u order' ≡ true → P u
  each_now P p q u h = by (same u t)
    where
      by : Same u t → P u
      by (equal e _) = subst P (sym e) (p (rw e at h))
      by (different n _) = q u n (sym (r.listed u n) ∙ h)

  -- whoever is not listed now is t, or was not listed before
  each_free : (P : ℕ → Type 0) → (member t order' ≡ false → P t) → ((u : ℕ) → (u ≡ t → ⊥) → member u order ≡ false → P u)
      → (u : ℕ) → member u order' ≡ false → P u
  each_free P p q u h = by (same u t)
    where
      by : Same u t → P u
      by (equal e _) = subst P (sym e) (p (rw e at h))
      by (different n _) = q u n (sym (r.listed u n) ∙ h)

  -- owners stay distinct
  one_owner : Turns ts ss order → (a b : ℕ) → member a order' ≡ true → member b order' ≡ true → owner_at ss' a ≡ owner_at ss' b
      → Same a t → Same b t → a ≡ b
  one_owner x a b ha hb e (equal p _) (equal q _) = p ∙ sym q
  one_owner x a b ha hb e (equal p _) (different n _) =
      absurd (r.own (rw p at ha) b (sym (r.listed b n) ∙ hb) n (sym (owner_kept b n) ∙ sym e ∙ ap (owner_at ss') p))
  one_owner x a b ha hb e (different n _) (equal q _) =
      absurd (r.own (rw q at hb) a (sym (r.listed a n) ∙ ha) n (sym (owner_kept a n) ∙ e ∙ ap (owner_at ss') q))
  one_owner x a b ha hb e (different n _) (different m _) =
      x.owners a b (sym (r.listed a n) ∙ ha) (sym (r.listed b m) ∙ hb) (sym (owner_kept a n) ∙ e ∙ owner_kept b m)

  -- the turn order holds the live timeslices once each, in range, with live and distinct owners
  retimed_turns : Turns ts ss order → Turns ts ss' order'
  retimed_turns x =
      record {
        full = r.full ∙ x.full;
        small = each_now (λ u. u < limit) (λ _. r.small) (λ u n h. x.small u h);
        once = r.once;
        owner =
            each_now (λ u. live_at ts (owner_at ss' u) ≡ true) r.live
            (λ u n h. ap (live_at ts) (owner_kept u n) ∙ x.owner u h);
        owners = λ a b ha hb e. one_owner x a b ha hb e (same a t) (same b t);
        range = each_now (λ u. in_range (slice_at ss' u) ≡ true) r.range (λ u n h. ap in_range (r.others u n) ∙ x.range u h);
        free = each_free (λ u. slice_at ss' u ≡ free_slice) r.gone (λ u n h. r.others u n ∙ x.free u h);
      }

-- the machine with this table and turn order, and timeslice t at this place
abbrev pub retimed : List Slice → List ℕ → ℕ → Place → State → State
retimed ss order t p s = with_places (set s.places t p) (with_timeslices ss order s)

-- place p of timeslice t in the machine after: a true one, Spent exactly with nothing left, and the fixed one if t is gone
pub record Put (s' : State) (t : ℕ) (p : Place) : Type 0 where
  pub good : member t s'.order ≡ true → Good s' t p
  pub spent : member t s'.order ≡ true → is_spent p ≡ eqb (left_at s'.slices t) 0
  pub free : member t s'.order ≡ false → p ≡ Queue

pub put_listed : (s' : State) (t : ℕ) (p : Place) → member t s'.order ≡ true → Good s' t p
    → is_spent p ≡ eqb (left_at s'.slices t) 0 → Put s' t p
put_listed s' t p h g e = record { good = λ _. g; spent = λ _. e; free = λ n. clash (member t s'.order) h n }

-- what happens to the followers of t: there are none, or they are released, or t is in Queue and still stands above them
pub data Followers (at : Place → Bool) (s : State) (ss' : List Slice) (order' : List ℕ) (t : ℕ) (p : Place) : Type 0 where
  none : ((u : ℕ) → member u s.order ≡ true → place_at s.places u ≡ Behind t → ⊥) → Followers at s ss' order' t p
  freed : at (Behind t) ≡ true → Followers at s ss' order' t p
  stay : member t order' ≡ true → p ≡ Queue → ((u : ℕ) → Led s u t → stands_above ss' order' t u ≡ true)
      → Followers at s ss' order' t p

module _ {at : Place → Bool} {s : State} {ss' : List Slice} {order' : List ℕ} {t : ℕ}
    (x : Mid s) (r : Retimed s.threads s.slices ss' s.order order' t) (p : Place)
    (put : Put (retimed ss' order' t p s) t p) (f : Followers at s ss' order' t p) where
  place_now : place_at (set s.places t p) t ≡ p
  place_now = get_or-set_same s.places t p free_place (rw x.placed.full r.small)

  elsewhere : (u : ℕ) → (u ≡ t → ⊥) → place_at (set s.places t p) u ≡ place_at s.places u
  elsewhere u n = get_or-set_other s.places t u p free_place n

  -- a follower of t
  follower : (u : ℕ) → (u ≡ t → ⊥) → member u s.order ≡ true → place_at s.places u ≡ Behind t → Led s u t
      → Followers at s ss' order' t p → Ready at (retimed ss' order' t p s) u
  follower u n l e g (none f) = absurd (f u l e)
  follower u n l e g (freed k) = selected (rw (elsewhere u n, e) k)
  follower u n l e g (stay h q a) = kept (rw (elsewhere u n, e) (record { listed = h; queued = place_now ∙ q; above = a u g }))

  -- a follower of another
  behind_other : (u q : ℕ) → (u ≡ t → ⊥) → (q ≡ t → ⊥) → Led s u q → Led (retimed ss' order' t p s) u q
  behind_other u q nu nq g =
      record { listed = r.listed q nq ∙ g.listed; queued = elsewhere q nq ∙ g.queued; above = above_kept r q u nq nu ∙ g.above }

  -- everybody other than t is released or well placed
  ready : (u : ℕ) → (u ≡ t → ⊥) → member u s.order ≡ true → (o : Place) → place_at s.places u ≡ o → Good s u o
      → Ready at (retimed ss' order' t p s) u
  ready u n l Queue e g = kept (rw (elsewhere u n, e) tt)
  ready u n l (Behind q) e g = by (same q t)
    where
      by : Same q t → Ready at (retimed ss' order' t p s) u
      by (equal z _) = follower u n l (e ∙ ap Behind z) (subst (λ (k : ℕ). Led s u k) z g) f
      by (different d _) = kept (rw (elsewhere u n, e) (behind_other u q n d g))
  ready u n l (On m) e g =
      kept (rw (elsewhere u n, e) (subst (λ (k : ℕ). Waits s.threads k m) (sym (owner_kept r u n)) g))
  ready u n l Stalled e g =
      kept (rw (elsewhere u n, e) (subst (λ (k : ℕ). Stalls s.threads k) (sym (owner_kept r u n)) g))
  ready u n l Spent e g = kept (rw (elsewhere u n, e) tt)

  pub retimed_releasable : at Queue ≡ false → at Spent ≡ false → Releasable at (retimed ss' order' t p s)
  retimed_releasable q z =
      record {
        shape = record { sane = x.shape.sane; turns = retimed_turns r x.shape.turns };
        full = length-set s.places t p ∙ x.placed.full;
        queue = q;
        spared = z;
        each =
            each_now r (λ u. Ready at (retimed ss' order' t p s) u) (λ h. kept (rw place_now (put.good h)))
            (λ u n h. ready u n h (place_at s.places u) refl (x.placed.good u h));
        spent =
            each_now r (λ u. is_spent (place_at (set s.places t p) u) ≡ eqb (left_at ss' u) 0)
            (λ h. ap is_spent place_now ∙ put.spent h)
            (λ u n h. ap is_spent (elsewhere u n) ∙ x.placed.spent u h
            ∙ sym (ap (λ (y : Slice). eqb y.left 0) (r.others u n)));
        free =
            each_free r (λ u. place_at (set s.places t p) u ≡ Queue) (λ h. place_now ∙ put.free h)
            (λ u n h. elsewhere u n ∙ x.placed.free u h);
      }

-- where nobody has to be released, the machine is midway as it stands
pub retimed_mid : {s : State} {ss' : List Slice} {order' : List ℕ} {t : ℕ} → Mid s
    → Retimed s.threads s.slices ss' s.order order' t → (p : Place) → Put (retimed ss' order' t p s) t p
    → Followers nowhere s ss' order' t p → Mid (retimed ss' order' t p s)
retimed_mid {s} {ss'} {order'} {t} x r p put f =
    let y = retimed_releasable x r p put f refl refl in
    record {
      shape = y.shape;
      placed = none_placed nowhere (retimed ss' order' t p s) y (is_none ss' (λ t. false) order' (λ u h. refl));
    }

-- a place that stays is no change
pub stays_put : (s : State) (ss' : List Slice) (order' : List ℕ) (t : ℕ) (p : Place) → place_at s.places t ≡ p
    → retimed ss' order' t p s ≡ with_timeslices ss' order' s
stays_put s ss' order' t p e =
    let places : set s.places t p ≡ s.places = rw (← e) (set-get_or s.places t free_place) in
    ap (λ (ps : List Place). with_places ps (with_timeslices ss' order' s)) places

-- a topmost in Queue that t does not overtake is still the topmost
pub retimed_top : (s : State) {ss' : List Slice} {order' : List ℕ} {t c : ℕ} (p : Place)
    → Retimed s.threads s.slices ss' s.order order' t → (c ≡ t → ⊥) → topmost_at in_queue s ≡ some c
    → stands_above ss' order' t c ≡ false → topmost_at in_queue (retimed ss' order' t p s) ≡ some c
retimed_top s {ss'} {order'} {t} {c} p r other e under =
    let top = queue_top s c e in
    let elsewhere : (u : ℕ) → (u ≡ t → ⊥) → place_at (set s.places t p) u ≡ place_at s.places u =
    λ u n. get_or-set_other s.places t u p free_place n in
    is_top ss' (λ u. in_queue (place_at (set s.places t p) u)) order' c
    (record {
      listed = r.listed c other ∙ top.listed;
      taken = ap in_queue (elsewhere c other) ∙ top.taken;
      above =
          each_now r (λ u. in_queue (place_at (set s.places t p) u) ≡ true → (u ≡ c → ⊥) → stands_above ss' order' c u ≡ true)
          (λ h q d. above_total ss' order' t c h d under)
          (λ u n h q d. above_kept r c u other n ∙ top.above u h (sym (ap in_queue (elsewhere u n)) ∙ q) d);
    })

-- table and turn order may stay
pub unchanged : {ts : List Thread} {ss : List Slice} {order : List ℕ} → Turns ts ss order → (t : ℕ) → member t order ≡ true
    → Retimed ts ss ss order order t
unchanged {order = order} x t h =
    record {
      full = refl;
      once = x.once;
      small = x.small t h;
      range = λ _. x.range t h;
      live = λ _. x.owner t h;
      own = λ _ u k n e. n (x.owners u t k h e);
      gone = λ n. clash (member t order) h n;
      listed = λ u n. refl;
      others = λ u n. refl;
      above = λ a b na nb. refl;
    }
