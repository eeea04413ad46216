-- The release. If every timeslice that is not selected is well placed, then after the release every one is.
use Prim.Native.Nat.{ℕ, ◌<◌}
use mathlib.Core.Path.{◌≡◌, refl, sym, ap, ◌∙◌, subst}
use mathlib.Core.List.{List, [], ◌∷◌}
use mathlib.Core.Bool.{Bool, true, false, cond}
use mathlib.Core.Option.{Option, none, some}
use native.Mathlib.Omega.{arith}
use lib.ListN.{length, set, length-set}
use lib.Seq.{get_or-set_same, get_or-set_other}
use lib.Dec.{eqb}
use borrow.Author.Tests.{eqb-true, eq-eqb}
use Rattle.rules.specs.declared.Place.{Place}
use Rattle.rules.specs.declared.Place.TheVariants.{Queue, Behind, On, Stalled, Spent}
use Rattle.rules.specs.Tests.{member, distinct}
use Rattle.rules.specs.State.{State, forget, limit, free_place, left_at, place_at, with_places}
use Rattle.rules.specs.Release.{is_spent, in_queue, behind, topmost_at, released_place, released_places, release_to, release}
use Rattle.rules.proofs.Basics.Views.{Two, yes_true, no_false, two, clash, is_false, Same, equal, different, same}
use Rattle.rules.proofs.Basics.Members.{Listed, here, there, listed, not_listed, member_here, member_there, distinct_head}
use Rattle.rules.proofs.Basics.Members.{distinct_tail}
use Rattle.rules.proofs.Order.Orders.{Top, top_some, top_none}
use Rattle.rules.proofs.Soundness.Shapes.{Shape}
use Rattle.rules.proofs.Soundness.Places.{queue_is, Good, Placed, Mid}

-- the table of places after a release, read at a number
pub length-released : (at : Place → Bool) (q : ℕ) (order : List ℕ) (ps : List Place) → length (released_places at q order ps) ≡ length ps
unfolding released_places
length-released at q [] ps = refl
length-released at q (t ∷ ts) ps =
    length-released at q ts (set ps t (released_place at q t (place_at ps t))) ∙ length-set ps t (released_place at q t (place_at ps t))

pub not_released : (at : Place → Bool) (q : ℕ) (order : List ℕ) (ps : List Place) (u : ℕ) → member u order ≡ false
    → place_at (released_places at q order ps) u ≡ place_at ps u
unfolding released_places
not_released at q [] ps u n = refl
not_released at q (t ∷ ts) ps u n =
    let v = released_place at q t (place_at ps t) in
    not_released at q ts (set ps t v) u (outside u t ts n)
    ∙ get_or-set_other ps t u v free_place (λ e. clash (member u (t ∷ ts)) (member_here u t ts e) n)
  where
    outside : (u t : ℕ) (ts : List ℕ) → member u (t ∷ ts) ≡ false → member u ts ≡ false
    outside u t ts n = is_false (member u ts) (λ h. clash (member u (t ∷ ts)) (member_there u t ts h) n)

-- each listed timeslice is moved once
released_by : (at : Place → Bool) (q t : ℕ) (ts : List ℕ) (ps : List Place) → distinct (t ∷ ts) ≡ true → t < length ps → (u : ℕ)
    → (member u ts ≡ true → place_at (released_places at q ts (set ps t (released_place at q t (place_at ps t)))) u
    ≡ released_place at q u (place_at (set ps t (released_place at q t (place_at ps t))) u))
    → Listed u t ts
    → place_at (released_places at q ts (set ps t (released_place at q t (place_at ps t)))) u ≡ released_place at q u (place_at ps u)
released_by at q t ts ps d small u rest (here e) =
    let v = released_place at q t (place_at ps t) in
    rw e (not_released at q ts (set ps t v) t (distinct_head t ts d) ∙ get_or-set_same ps t v free_place small)
released_by at q t ts ps d small u rest (there k) =
    let v = released_place at q t (place_at ps t) in
    rest k
    ∙ ap (released_place at q u) (get_or-set_other ps t u v free_place (λ e. clash (member t ts) (rw e at k) (distinct_head t ts d)))

pub released_at : (at : Place → Bool) (q : ℕ) (order : List ℕ) (ps : List Place) → distinct order ≡ true
    → ((u : ℕ) → member u order ≡ true → u < length ps) → (u : ℕ) → member u order ≡ true
    → place_at (released_places at q order ps) u ≡ released_place at q u (place_at ps u)
unfolding released_places
released_at at q [] ps d small u h = clash (member u []) h (not_listed u)
released_at at q (t ∷ ts) ps d small u h =
    let v = released_place at q t (place_at ps t) in
    released_by at q t ts ps d (small t (member_here t t ts refl)) u
    (released_at at q ts (set ps t v) (distinct_tail t ts d)
    (λ w k. rw (length-set ps t v) (small w (member_there w t ts k))) u)
    (listed u t ts h)

-- no release touches a Spent timeslice, and none makes one
moved_unspent : (taken top : Bool) (q : ℕ) (p : Place) → is_spent p ≡ false → is_spent (cond taken (cond top Queue (Behind q)) p) ≡ false
moved_unspent true true q p e = refl
moved_unspent true false q p e = refl
moved_unspent false top q p e = e

spent_kept : (at : Place → Bool) → at Spent ≡ false → (q t : ℕ) (p : Place) → is_spent (released_place at q t p) ≡ is_spent p
spent_kept at n q t Queue = moved_unspent (at Queue) (eqb t q) q Queue refl
spent_kept at n q t (Behind r) = moved_unspent (at (Behind r)) (eqb t q) q (Behind r) refl
spent_kept at n q t (On m) = moved_unspent (at (On m)) (eqb t q) q (On m) refl
spent_kept at n q t Stalled = moved_unspent (at Stalled) (eqb t q) q Stalled refl
spent_kept at n q t Spent = rw n

-- the two answers of a release
pub data Released (at : Place → Bool) (s : State) : Type 0 where
  nobody : topmost_at at s ≡ none → release at s ≡ s → Released at s
  joins : (q : ℕ) → topmost_at at s ≡ some q → release at s ≡ with_places (released_places at q s.order s.places) s → Released at s

pub released : (at : Place → Bool) (s : State) → Released at s
unfolding release
released at s = by (topmost_at at s) refl
  where
    by : (o : Option ℕ) → topmost_at at s ≡ o → Released at s
    by none e = nobody e (ap (release_to at s) e)
    by (some q) e = joins q e (ap (release_to at s) e)

-- a release changes places alone
pub forget_release : (at : Place → Bool) (s : State) → forget (release at s) ≡ forget s
forget_release at s = by (released at s)
  where
    by : Released at s → forget (release at s) ≡ forget s
    by (nobody e r) = ap forget r
    by (joins q e r) = ap forget r

-- a timeslice that is selected, or well placed
pub data Ready (at : Place → Bool) (s : State) (t : ℕ) : Type 0 where
  selected : at (place_at s.places t) ≡ true → Ready at s t
  kept : Good s t (place_at s.places t) → Ready at s t

-- what a release wants
pub record Releasable (at : Place → Bool) (s : State) : Type 0 where
  pub shape : Shape (forget s)
  pub full : length s.places ≡ limit
  pub queue : at Queue ≡ false
  pub spared : at Spent ≡ false
  pub each : (t : ℕ) → member t s.order ≡ true → Ready at s t
  pub spent : (t : ℕ) → member t s.order ≡ true → is_spent (place_at s.places t) ≡ eqb (left_at s.slices t) 0
  pub free : (t : ℕ) → member t s.order ≡ false → place_at s.places t ≡ Queue

-- the places that a release leaves, when one joins Queue
module _ (at : Place → Bool) (s : State) (x : Releasable at s) (q : ℕ)
    (top : Top s.slices (λ t. at (place_at s.places t)) s.order q) where
  after : State
  after = with_places (released_places at q s.order s.places) s

  moved : (t : ℕ) → member t s.order ≡ true
      → place_at (released_places at q s.order s.places) t ≡ released_place at q t (place_at s.places t)
  moved t h =
      released_at at q s.order s.places x.shape.turns.once (λ u k. rw x.full (x.shape.turns.small u k)) t h

  -- the topmost joins Queue
  joined : place_at (released_places at q s.order s.places) q ≡ Queue
  joined = moved q top.listed ∙ rw (top.taken, eq-eqb q q refl)

  -- who was in Queue stays there
  queued : (t : ℕ) → member t s.order ≡ true → place_at s.places t ≡ Queue
      → place_at (released_places at q s.order s.places) t ≡ Queue
  queued t h e = moved t h ∙ rw (e, x.queue)

  -- the others stand behind the topmost
  selected_good : (t : ℕ) → member t s.order ≡ true → at (place_at s.places t) ≡ true → Same t q
      → Good after t (released_place at q t (place_at s.places t))
  unfolding after
  selected_good t h e (equal z f) = rw (e, f) tt
  selected_good t h e (different n f) = rw (e, f) (record { listed = top.listed; queued = joined; above = top.above t h e n })

  kept_good : (t : ℕ) (p : Place) → Good s t p → Good after t p
  unfolding after
  kept_good t Queue g = tt
  kept_good t (Behind r) g = record { listed = g.listed; queued = queued r g.listed g.queued; above = g.above }
  kept_good t (On n) g = g
  kept_good t Stalled g = g
  kept_good t Spent g = tt

  ready_good : (t : ℕ) → member t s.order ≡ true → Ready at s t → Two (at (place_at s.places t))
      → Good after t (released_place at q t (place_at s.places t))
  ready_good t h r (yes_true e) = selected_good t h e (same t q)
  ready_good t h (selected k) (no_false e) = clash (at (place_at s.places t)) k e
  ready_good t h (kept g) (no_false e) = rw e (kept_good t (place_at s.places t) g)

  after_placed : Placed after
  unfolding after
  after_placed =
      record {
        full = length-released at q s.order s.places ∙ x.full;
        good =
            λ t h. subst (λ (p : Place). Good after t p) (sym (moved t h))
            (ready_good t h (x.each t h) (two (at (place_at s.places t))));
        spent = λ t h. ap is_spent (moved t h) ∙ spent_kept at x.spared q t (place_at s.places t) ∙ x.spent t h;
        free = λ t n. not_released at q s.order s.places t n ∙ x.free t n;
      }

-- where nobody is selected, everybody was well placed already
pub none_placed : (at : Place → Bool) (s : State) → Releasable at s → topmost_at at s ≡ none → Placed s
none_placed at s x e = record { full = x.full; good = λ t h. by t h (x.each t h); spent = x.spent; free = x.free }
  where
    by : (t : ℕ) → member t s.order ≡ true → Ready at s t → Good s t (place_at s.places t)
    by t h (selected k) =
        clash (at (place_at s.places t)) k (top_none s.slices (λ u. at (place_at s.places u)) s.order e t h)
    by t h (kept g) = g

-- THE RELEASE
pub release_placed : (at : Place → Bool) (s : State) → Releasable at s → Placed (release at s)
unfolding after
release_placed at s x = by (released at s)
  where
    by : Released at s → Placed (release at s)
    by (nobody e r) = rw r (none_placed at s x e)
    by (joins q e r) = rw r (after_placed at s x q (top_some s.slices (λ t. at (place_at s.places t)) s.order q e))

-- where everybody is well placed, every set can be released that has no Queue and no Spent in it
pub mid_releasable : {s : State} → Mid s → (at : Place → Bool) → at Queue ≡ false → at Spent ≡ false → Releasable at s
mid_releasable x at queue spared =
    record {
      shape = x.shape;
      full = x.placed.full;
      queue = queue;
      spared = spared;
      each = λ t h. kept (x.placed.good t h);
      spent = x.placed.spent;
      free = x.placed.free;
    }

-- a release hands the choice what it wants
pub release_mid : (at : Place → Bool) (s : State) → Releasable at s → Mid (release at s)
release_mid at s x = record { shape = rw (forget_release at s) x.shape; placed = release_placed at s x }

-- who is in Queue after a release: those that were, and the one that joined
pub data Queued (at : Place → Bool) (s : State) (t : ℕ) : Type 0 where
  was : place_at s.places t ≡ Queue → Queued at s t
  joined_now : topmost_at at s ≡ some t → Queued at s t

pub queue_after : (at : Place → Bool) (s : State) → Releasable at s → (t : ℕ) → member t s.order ≡ true
    → in_queue (place_at (release at s).places t) ≡ true → Queued at s t
queue_after at s x t h e = by (released at s)
  where
    moved_queue : (q : ℕ) → topmost_at at s ≡ some q → Two (at (place_at s.places t)) → Same t q
        → in_queue (released_place at q t (place_at s.places t)) ≡ true → Queued at s t
    moved_queue q f (yes_true k) (equal z _) w = joined_now (f ∙ ap some (sym z))
    moved_queue q f (yes_true k) (different n z) w = clash false (rw (k, z) at w) refl
    moved_queue q f (no_false k) z w = was (queue_is (place_at s.places t) (rw k at w))

    by : Released at s → Queued at s t
    by (nobody f r) = was (queue_is (place_at s.places t) (rw r at e))
    by (joins q f r) =
        let top = top_some s.slices (λ u. at (place_at s.places u)) s.order q f in
        moved_queue q f (two (at (place_at s.places t))) (same t q) (rw (moved at s x q top t h) at (rw r at e))

pub queue_kept : (at : Place → Bool) (s : State) → Releasable at s → (t : ℕ) → member t s.order ≡ true
    → place_at s.places t ≡ Queue → place_at (release at s).places t ≡ Queue
queue_kept at s x t h e = by (released at s)
  where
    by : Released at s → place_at (release at s).places t ≡ Queue
    by (nobody f r) = rw r e
    by (joins q f r) = rw r (queued at s x q (top_some s.slices (λ u. at (place_at s.places u)) s.order q f) t h e)

pub top_joins : (at : Place → Bool) (s : State) → Releasable at s → (q : ℕ) → topmost_at at s ≡ some q
    → place_at (release at s).places q ≡ Queue
top_joins at s x q e = by (released at s)
  where
    by : Released at s → place_at (release at s).places q ≡ Queue
    by (nobody f r) = let z : ◌≡◌ {A = ℕ} 0 1 = cc in absurd (omega arith)
    by (joins v f r) =
        let is-q : v ≡ q = cc in
        rw (r, ← is-q) (joined at s x v (top_some s.slices (λ u. at (place_at s.places u)) s.order v f))

-- who is not selected keeps its place
pub data Moved (at : Place → Bool) (s : State) (t : ℕ) : Type 0 where
  unmoved : place_at (release at s).places t ≡ place_at s.places t → Moved at s t
  chosen : at (place_at s.places t) ≡ true → Moved at s t

pub place_after : (at : Place → Bool) (s : State) → Releasable at s → (t : ℕ) → member t s.order ≡ true → Moved at s t
place_after at s x t h = by (released at s) (two (at (place_at s.places t)))
  where
    by : Released at s → Two (at (place_at s.places t)) → Moved at s t
    by (nobody f r) k = unmoved (rw r)
    by (joins q f r) (yes_true k) = chosen k
    by (joins q f r) (no_false k) =
        unmoved (rw r (moved at s x q (top_some s.slices (λ u. at (place_at s.places u)) s.order q f) t h ∙ rw k))

-- who stands Behind another after a release: it stood there and was not selected, or both were
pub data Follows (at : Place → Bool) (s : State) (u q : ℕ) : Type 0 where
  stood : place_at s.places u ≡ Behind q → at (place_at s.places u) ≡ false → Follows at s u q
  sent : at (place_at s.places u) ≡ true → at (place_at s.places q) ≡ true → member q s.order ≡ true → (u ≡ q → ⊥) → Follows at s u q

pub is_behind : {p : Place} (q : ℕ) → p ≡ Behind q → behind q p ≡ true
is_behind q e = ap (behind q) e ∙ eq-eqb q q refl

pub follows : (at : Place → Bool) (s : State) → Releasable at s → (u : ℕ) → member u s.order ≡ true → (q : ℕ)
    → place_at (release at s).places u ≡ Behind q → Follows at s u q
follows at s x u h q e = by (released at s)
  where
    moved_by : (v : ℕ) → Top s.slices (λ t. at (place_at s.places t)) s.order v → Two (at (place_at s.places u)) → Same u v
        → released_place at v u (place_at s.places u) ≡ Behind q → Follows at s u q
    moved_by v top (yes_true k) (equal _ z) f = clash true refl (ap in_queue (rw (k, z) at f))
    moved_by v top (yes_true k) (different n z) f =
        let is-q : v ≡ q = eqb-true v q (is_behind q (rw (k, z) at f)) in
        sent k (rw is-q at top.taken) (rw is-q at top.listed) (λ w. n (w ∙ sym is-q))
    moved_by v top (no_false k) _ f = stood (rw k at f) k

    by : Released at s → Follows at s u q
    by (nobody f r) = stood (rw r at e) (top_none s.slices (λ t. at (place_at s.places t)) s.order f u h)
    by (joins v f r) =
        let top = top_some s.slices (λ t. at (place_at s.places t)) s.order v f in
        moved_by v top (two (at (place_at s.places u))) (same u v) (sym (moved at s x v top u h) ∙ (rw r at e))

-- timeslice t stands alone: nobody stands Behind it, and it stands Behind nobody
pub record Alone (s : State) (t : ℕ) : Type 0 where
  pub leads_none : (u : ℕ) → member u s.order ≡ true → place_at s.places u ≡ Behind t → ⊥
  pub follows_none : (q : ℕ) → place_at s.places t ≡ Behind q → ⊥
