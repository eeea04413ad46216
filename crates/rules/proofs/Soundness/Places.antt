-- Soundness of the places and of what runs, as records, and back to the computed test.
use Prim.Native.Nat.{ℕ}
use mathlib.Core.Path.{◌≡◌, refl, sym, ap, ◌∙◌, subst}
use mathlib.Core.Bool.{Bool, true, false, ◌&&◌, ◌||◌}
use mathlib.Core.Option.{Option, none, some}
use native.Mathlib.Omega.{arith}
use lib.ListN.{length, get_or-eq_default}
use lib.Dec.{eqb, ltb}
use borrow.Author.Tests.{eqb-true, eq-eqb, ltb-true, ltb-false}
use Rattle.rules.specs.declared.Place.{Place}
use Rattle.rules.specs.declared.Place.TheVariants.{Queue, Behind, On, Stalled, Spent}
use Rattle.rules.specs.declared.Running.{Running}
use Rattle.rules.specs.declared.Running.TheVariants.{Nothing, Runs}
use Rattle.rules.specs.declared.Chain.{Chain}
use Rattle.rules.specs.Tests.{member, all, below}
use Rattle.rules.specs.State.{State, forget, limit, free_place, owner_at, left_at, place_at, live_at}
use Rattle.rules.specs.Order.{stands_above}
use Rattle.rules.specs.Walk.{chain_of, verdict}
use Rattle.rules.specs.Release.{is_spent, in_queue, behind, on_thread, topmost_at}
use Rattle.rules.specs.Sound.{shaped, placed, settled, settled_on, place_good, spent_good, waits_at, is_stalls}
use Rattle.rules.specs.Sound.{runs_as, sound}
use Rattle.rules.proofs.Basics.Views.{Two, yes_true, no_false, two, clash, and_true_left, and_true_right, and_true_both, and4}
use Rattle.rules.proofs.Basics.Views.{and3, or_true_left, or_true_right, agree_is, is_agree}
use Rattle.rules.proofs.Basics.Members.{all_at, all_of, below_at, below_of}
use Rattle.rules.proofs.Order.Orders.{top_some}
use Rattle.rules.proofs.Soundness.Shapes.{Shape, shape_of, of_shape}
use Rattle.rules.proofs.Soundness.Standings.{Waits, Stalls, RunsAt, Standing, running, retrying, waiting, stalling, standing}
use Rattle.rules.proofs.Soundness.Standings.{waits_walk, stalls_walk, runs_walk}

-- the owner of a timeslice
abbrev pub owner : State → ℕ → ℕ
owner s t = owner_at s.slices t

-- t stands Behind q
pub record Led (s : State) (t q : ℕ) : Type 0 where
  pub listed : member q s.order ≡ true
  pub queued : place_at s.places q ≡ Queue
  pub above : stands_above s.slices s.order q t ≡ true

-- a true place
abbrev pub Good : State → ℕ → Place → Type 0
Good s t Queue = Unit {0}
Good s t (Behind q) = Led s t q
Good s t (On n) = Waits s.threads (owner s t) n
Good s t Stalled = Stalls s.threads (owner s t)
Good s t Spent = Unit {0}

pub record Placed (s : State) : Type 0 where
  pub full : length s.places ≡ limit
  pub good : (t : ℕ) → member t s.order ≡ true → Good s t (place_at s.places t)
  pub spent : (t : ℕ) → member t s.order ≡ true → is_spent (place_at s.places t) ≡ eqb (left_at s.slices t) 0
  pub free : (t : ℕ) → member t s.order ≡ false → place_at s.places t ≡ Queue

-- what every event hands to the choice
pub record Mid (s : State) : Type 0 where
  pub shape : Shape (forget s)
  pub placed : Placed s

pub data Settled (s : State) : Type 0 where
  nothing : s.running ≡ Nothing → topmost_at in_queue s ≡ none → Settled s
  runs_on : (t n count : ℕ) → s.running ≡ Runs n t count → topmost_at in_queue s ≡ some t → RunsAt s.threads (owner s t) n count
      → Settled s

pub record Sound (s : State) : Type 0 where
  pub mid : Mid s
  pub settled : Settled s

-- the owner of a listed timeslice is live
pub owner_live : (s : State) → Shape (forget s) → (t : ℕ) → member t s.order ≡ true → live_at s.threads (owner s t) ≡ true
owner_live s x t h = x.turns.owner t h

pub stands : (s : State) → Shape (forget s) → (t : ℕ) → member t s.order ≡ true → Standing s.threads (owner s t)
stands s x t h = standing s.threads x.sane (owner s t) (owner_live s x t h)

-- the test of Queue
pub queue_is : (p : Place) → in_queue p ≡ true → p ≡ Queue
queue_is Queue e = refl
queue_is (Behind q) e = clash false e refl
queue_is (On n) e = clash false e refl
queue_is Stalled e = clash false e refl
queue_is Spent e = clash false e refl

-- and of the followers of a timeslice
pub behind_is : (q : ℕ) (p : Place) → behind q p ≡ true → p ≡ Behind q
behind_is q Queue e = clash false e refl
behind_is q (Behind r) e = ap Behind (eqb-true r q e)
behind_is q (On n) e = clash false e refl
behind_is q Stalled e = clash false e refl
behind_is q Spent e = clash false e refl

-- and of those On a thread
pub on_is : (n : ℕ) (p : Place) → on_thread n p ≡ true → p ≡ On n
on_is n Queue e = clash false e refl
on_is n (Behind q) e = clash false e refl
on_is n (On m) e = ap On (eqb-true m n e)
on_is n Stalled e = clash false e refl
on_is n Spent e = clash false e refl

-- On: what the test says is what the links say
waits_of : (s : State) (t n : ℕ) → Standing s.threads (owner s t)
    → waits_at n (chain_of s.threads s.slices t) (verdict s.threads (chain_of s.threads s.slices t)) ≡ true
    → Waits s.threads (owner s t) n
waits_of s t n (running m k r w v) e = clash false (rw v at e) refl
waits_of s t n (retrying m r w v) e = clash false (rw v at e) refl
waits_of s t n (waiting m x q v) e =
    subst (λ (k : ℕ). Waits s.threads (owner s t) k) (sym q ∙ eqb-true (chain_of s.threads s.slices t).end n (rw v at e)) x
waits_of s t n (stalling h never w v) e = clash false (rw v at e) refl

stalls_of : (s : State) (t : ℕ) → Standing s.threads (owner s t)
    → is_stalls (verdict s.threads (chain_of s.threads s.slices t)) ≡ true → Stalls s.threads (owner s t)
stalls_of s t (running m k r w v) e = clash false (rw v at e) refl
stalls_of s t (retrying m r w v) e = clash false (rw v at e) refl
stalls_of s t (waiting m x q v) e = clash false (rw v at e) refl
stalls_of s t (stalling h never w v) e = never

good_of : (s : State) (t : ℕ) → Standing s.threads (owner s t) → (p : Place)
    → place_good s t (chain_of s.threads s.slices t) p ≡ true → Good s t p
good_of s t x Queue e = tt
good_of s t x (Behind q) e =
    let z = and3 (member q s.order) (in_queue (place_at s.places q)) (stands_above s.slices s.order q t) e in
    record { listed = z.0; queued = queue_is (place_at s.places q) z.1; above = z.2 }
good_of s t x (On n) e = waits_of s t n x e
good_of s t x Stalled e = stalls_of s t x e
good_of s t x Spent e = tt

of_good : (s : State) → Shape (forget s) → (t : ℕ) → member t s.order ≡ true → (p : Place) → Good s t p
    → place_good s t (chain_of s.threads s.slices t) p ≡ true
of_good s x t h Queue g = refl
of_good s x t h (Behind q) g = simp (g.listed, g.queued, g.above)
of_good s x t h (On n) g =
    let z = waits_walk x.sane (owner_live s x t h) g in
    rw z.0 (eq-eqb (chain_of s.threads s.slices t).end n z.1)
of_good s x t h Stalled g = rw (stalls_walk s.threads (owner s t) g)
of_good s x t h Spent g = refl

abbrev places_test : State → Bool
places_test s = all (λ t. place_good s t (chain_of s.threads s.slices t) (place_at s.places t)) s.order

abbrev spent_test : State → Bool
spent_test s = all (λ t. spent_good (left_at s.slices t) (place_at s.places t)) s.order

abbrev free_test : State → Bool
free_test s = below limit (λ t. member t s.order || in_queue (place_at s.places t))

free_place_lem : (s : State) → length s.places ≡ limit → free_test s ≡ true → (t : ℕ) → member t s.order ≡ false
    → place_at s.places t ≡ Queue
free_place_lem s full e t h = by (two (ltb t limit))
  where
    by : Two (ltb t limit) → place_at s.places t ≡ Queue
    by (yes_true l) =
        queue_is (place_at s.places t)
        (rw h at (below_at (λ u. member u s.order || in_queue (place_at s.places u)) limit e t (ltb-true t limit l)))
    by (no_false l) = get_or-eq_default s.places free_place (omega (arith, ltb-false t limit l))

placed_of : (s : State) → Shape (forget s) → placed s ≡ true → Placed s
unfolding placed
placed_of s x e =
    let z = and4 (eqb (length s.places) limit) (places_test s) (spent_test s) (free_test s) e in
    let full = eqb-true (length s.places) limit z.0 in
    record {
      full = full;
      good =
          λ t h. good_of s t (stands s x t h) (place_at s.places t)
          (all_at (λ u. place_good s u (chain_of s.threads s.slices u) (place_at s.places u)) s.order z.1 t h);
      spent =
          λ t h. agree_is (is_spent (place_at s.places t)) (eqb (left_at s.slices t) 0)
          (all_at (λ u. spent_good (left_at s.slices u) (place_at s.places u)) s.order z.2 t h);
      free = free_place_lem s full z.3;
    }

listed_or_queued : (b : Bool) (p : Place) → Two b → (b ≡ false → p ≡ Queue) → (b || in_queue p) ≡ true
listed_or_queued b p (yes_true e) f = or_true_left b (in_queue p) e
listed_or_queued b p (no_false e) f = rw (f e) (or_true_right b true refl)

of_placed : (s : State) → Shape (forget s) → Placed s → placed s ≡ true
unfolding placed
of_placed s x p =
    and_true_both (eqb (length s.places) limit && places_test s && spent_test s) (free_test s)
    (and_true_both (eqb (length s.places) limit && places_test s) (spent_test s)
    (and_true_both (eqb (length s.places) limit) (places_test s) (eq-eqb (length s.places) limit p.full)
    (all_of (λ u. place_good s u (chain_of s.threads s.slices u) (place_at s.places u)) s.order
    (λ t h. of_good s x t h (place_at s.places t) (p.good t h))))
    (all_of (λ u. spent_good (left_at s.slices u) (place_at s.places u)) s.order
    (λ t h. is_agree (is_spent (place_at s.places t)) (eqb (left_at s.slices t) 0) (p.spent t h))))
    (below_of (λ t. member t s.order || in_queue (place_at s.places t)) limit
    (λ t h. listed_or_queued (member t s.order) (place_at s.places t) (two (member t s.order)) (p.free t)))

-- what runs
runs_of : (s : State) (t n count : ℕ) → Standing s.threads (owner s t)
    → runs_as n count (chain_of s.threads s.slices t) (verdict s.threads (chain_of s.threads s.slices t)) ≡ true
    → RunsAt s.threads (owner s t) n count
runs_of s t n count (running m k r w v) e =
    let c = chain_of s.threads s.slices t in
    let f : (eqb c.end n && eqb c.count count) ≡ true = rw v at e in
    let at : m ≡ n = sym (ap (λ (x : Chain). x.end) w) ∙ eqb-true c.end n (and_true_left (eqb c.end n) (eqb c.count count) f) in
    let counts : r.chain.count ≡ count =
    sym (ap (λ (x : Chain). x.count) w) ∙ eqb-true c.count count (and_true_right (eqb c.end n) (eqb c.count count) f) in
    subst (λ (j : ℕ). RunsAt s.threads (owner s t) j count) at
    (record { chain = r.chain; ends = r.ends; ready = r.ready; counted = counts })
runs_of s t n count (retrying m r w v) e = clash false (rw v at e) refl
runs_of s t n count (waiting m x q v) e = clash false (rw v at e) refl
runs_of s t n count (stalling h never w v) e = clash false (rw v at e) refl

settled_by_lem : (s : State) → Shape (forget s) → (o : Option ℕ) (r : Running) → topmost_at in_queue s ≡ o → s.running ≡ r
    → settled_on s o r ≡ true → Settled s
settled_by_lem s x none Nothing p q e = nothing q p
settled_by_lem s x none (Runs n t count) p q e = clash false e refl
settled_by_lem s x (some u) Nothing p q e = clash false e refl
settled_by_lem s x (some u) (Runs n t count) p q e =
    let c = chain_of s.threads s.slices u in
    let z : t ≡ u = eqb-true t u (and_true_left (eqb t u) (runs_as n count c (verdict s.threads c)) e) in
    runs_on u n count (q ∙ ap (λ (k : ℕ). Runs n k count) z) p
    (runs_of s u n count (stands s x u (top_some s.slices _ s.order u p).listed)
    (and_true_right (eqb t u) (runs_as n count c (verdict s.threads c)) e))

settled_of : (s : State) → Shape (forget s) → settled s ≡ true → Settled s
unfolding settled
settled_of s x e = settled_by_lem s x (topmost_at in_queue s) s.running refl refl e

of_settled : (s : State) → Shape (forget s) → Settled s → settled s ≡ true
unfolding settled
of_settled s x (nothing q p) = rw (p, q)
of_settled s x (runs_on t n count q p r) =
    let z = runs_walk x.sane (owner_live s x t (top_some s.slices _ s.order t p).listed) r in
    let ends : (chain_of s.threads s.slices t).end ≡ n = ap (λ (c : Chain). c.end) z.0 in
    let counts : (chain_of s.threads s.slices t).count ≡ count = ap (λ (c : Chain). c.count) z.0 ∙ r.counted in
    rw (p, q) (and_true_both (eqb t t) _ (eq-eqb t t refl)
    (rw z.1 (and_true_both (eqb (chain_of s.threads s.slices t).end n) _
    (eq-eqb (chain_of s.threads s.slices t).end n ends) (eq-eqb (chain_of s.threads s.slices t).count count counts))))

-- the test and the record say the same
pub sound_of : (s : State) → sound s ≡ true → Sound s
unfolding sound
sound_of s e =
    let z = and3 (shaped (forget s)) (placed s) (settled s) e in
    let x = shape_of (forget s) z.0 in
    record { mid = record { shape = x; placed = placed_of s x z.1 }; settled = settled_of s x z.2 }

pub of_sound : (s : State) → Sound s → sound s ≡ true
unfolding sound
of_sound s x =
    let a = of_shape (forget s) x.mid.shape in
    let b = of_placed s x.mid.shape x.mid.placed in
    let c = of_settled s x.mid.shape x.settled in
    simp (a, b, c)
