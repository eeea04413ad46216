-- Soundness of a machine without its places, as records of statements about every thread and every timeslice, and back to the computed
-- test.
use Prim.Native.Nat.{ℕ, ◌<◌}
use mathlib.Core.Path.{◌≡◌, refl, ap}
use mathlib.Core.List.{List, map}
use mathlib.Core.Bool.{Bool, true, false, not, ◌&&◌, ◌||◌}
use native.Mathlib.Omega.{arith}
use lib.ListN.{length, get_or-eq_default}
use lib.Dec.{eqb, ltb}
use borrow.Author.Tests.{eqb-true, eq-eqb, ltb-true, lt-ltb}
use Rattle.rules.specs.declared.Role.{Role}
use Rattle.rules.specs.declared.Role.TheVariants.{Client, Server}
use Rattle.rules.specs.declared.Hold.{Hold}
use Rattle.rules.specs.declared.Hold.TheVariants.{Ready, Idle, Blocked, Calling, Helping}
use Rattle.rules.specs.declared.Service.{Service}
use Rattle.rules.specs.declared.Service.TheVariants.{Nobody, Serving, Orphan}
use Rattle.rules.specs.declared.Thread.{Thread}
use Rattle.rules.specs.Tests.{member, distinct, all, below}
use Rattle.rules.specs.declared.Slice.{Slice}
use Rattle.rules.specs.State.{Plain, limit, free_thread, free_slice, thread_at, hold_at, service_at, live_at, slice_at, owner_at}
use Rattle.rules.specs.Sound.{is_server, is_ready, is_nobody, is_calling, is_serving, in_range, idle_good, thread_free, slice_free}
use Rattle.rules.specs.Sound.{call_is_served, served_is_calling, link_good, tables_full, turns_once, owners_live, ranges_hold}
use Rattle.rules.specs.Sound.{calls_served, links_good, idles_good, free_threads, free_slices, free_slots, shaped}
use Rattle.rules.proofs.Basics.Views.{Two, yes_true, no_false, two, clash, and_true_left, and_true_right, and_true_both, and3}
use Rattle.rules.proofs.Basics.Views.{and4, and5}
use Rattle.rules.proofs.Basics.Views.{or_true_left, or_true_right}
use Rattle.rules.proofs.Basics.Members.{all_at, all_of, below_at, below_of, distinct_map, map-distinct}

-- the threads
pub record Sane (ts : List Thread) : Type 0 where
  pub full : length ts ≡ limit
  pub served : (n s : ℕ) → hold_at ts n ≡ Calling s → service_at ts s ≡ Serving n
  pub calling : (n s : ℕ) → service_at ts s ≡ Serving n → hold_at ts n ≡ Calling s
  pub linked : (n : ℕ) → link_good ts n (hold_at ts n) ≡ true
  pub idle : (n : ℕ) → idle_good (thread_at ts n) ≡ true
  pub free : (n : ℕ) → live_at ts n ≡ false → thread_at ts n ≡ free_thread

-- the timeslices and the turn order, with owners among the live threads
pub record Turns (ts : List Thread) (ss : List Slice) (order : List ℕ) : Type 0 where
  pub full : length ss ≡ limit
  pub small : (t : ℕ) → member t order ≡ true → t < limit
  pub once : distinct order ≡ true
  pub owner : (t : ℕ) → member t order ≡ true → live_at ts (owner_at ss t) ≡ true
  pub owners : (t u : ℕ) → member t order ≡ true → member u order ≡ true → owner_at ss t ≡ owner_at ss u → t ≡ u
  pub range : (t : ℕ) → member t order ≡ true → in_range (slice_at ss t) ≡ true
  pub free : (t : ℕ) → member t order ≡ false → slice_at ss t ≡ free_slice

pub record Shape (p : Plain) : Type 0 where
  pub sane : Sane p.threads
  pub turns : Turns p.threads p.slices p.order

-- a number past the table has the free value, of which every test of a thread holds
past : (ts : List Thread) (n : ℕ) → length ts ≡ limit → ltb n limit ≡ false → thread_at ts n ≡ free_thread
past ts n e h = get_or-eq_default ts free_thread (omega (arith, borrow.Author.Tests.ltb-false n limit h))

-- what a computed test says of every thread
everywhere : (ts : List Thread) (f : ℕ → Thread → Bool) → length ts ≡ limit → ((n : ℕ) → f n free_thread ≡ true)
    → below limit (λ n. f n (thread_at ts n)) ≡ true → (n : ℕ) → f n (thread_at ts n) ≡ true
everywhere ts f e d b n = by (two (ltb n limit))
  where
    by : Two (ltb n limit) → f n (thread_at ts n) ≡ true
    by (yes_true h) = below_at (λ m. f m (thread_at ts m)) limit b n (ltb-true n limit h)
    by (no_false h) = rw (past ts n e h) (d n)

serving_is : (v : Service) (n : ℕ) → is_serving n v ≡ true → v ≡ Serving n
serving_is Nobody n e = clash false e refl
serving_is (Serving m) n e = ap Serving (eqb-true m n e)
serving_is Orphan n e = clash false e refl

is_serving_lem : (v : Service) (n : ℕ) → v ≡ Serving n → is_serving n v ≡ true
is_serving_lem v n e = rw e (eq-eqb n n refl)

pub calling_is : (h : Hold) (s : ℕ) → is_calling s h ≡ true → h ≡ Calling s
calling_is Ready s e = clash false e refl
calling_is Idle s e = clash false e refl
calling_is Blocked s e = clash false e refl
calling_is (Calling m) s e = ap Calling (eqb-true m s e)
calling_is (Helping m) s e = clash false e refl

is_calling_lem : (h : Hold) (s : ℕ) → h ≡ Calling s → is_calling s h ≡ true
is_calling_lem h s e = rw e (eq-eqb s s refl)

-- the fixed values of free slots, by their tests
free_role : (r : Role) → not (is_server r) ≡ true → r ≡ Client
free_role Client e = refl
free_role Server e = clash false e refl

free_hold : (h : Hold) → is_ready h ≡ true → h ≡ Ready
free_hold Ready e = refl
free_hold Idle e = clash false e refl
free_hold Blocked e = clash false e refl
free_hold (Calling s) e = clash false e refl
free_hold (Helping s) e = clash false e refl

pub free_service : (v : Service) → is_nobody v ≡ true → v ≡ Nobody
free_service Nobody e = refl
free_service (Serving n) e = clash false e refl
free_service Orphan e = clash false e refl

thread_free_lem : (t : Thread) → t.live ≡ false → thread_free t ≡ true → t ≡ free_thread
thread_free_lem t l e =
    let x = and3 (not (is_server t.role)) (is_ready t.hold) (is_nobody t.service) e in
    λ i. record {
      live = l i;
      role = free_role t.role x.0 i;
      hold = free_hold t.hold x.1 i;
      service = free_service t.service x.2 i;
    }

slice_free_lem : (x : Slice) → slice_free x ≡ true → x ≡ free_slice
slice_free_lem x e =
    let z = and4 (eqb x.owner 0) (eqb x.priority 0) (eqb x.quantum 0) (eqb x.left 0) e in
    λ i. record {
      owner = eqb-true x.owner 0 z.0 i;
      priority = eqb-true x.priority 0 z.1 i;
      quantum = eqb-true x.quantum 0 z.2 i;
      left = eqb-true x.left 0 z.3 i;
    }

-- the eight clauses of `shaped`
pub record Clauses (p : Plain) : Type 0 where
  pub tables : tables_full p ≡ true
  pub turns : turns_once p ≡ true
  pub owners : owners_live p ≡ true
  pub ranges : ranges_hold p ≡ true
  pub calls : calls_served p ≡ true
  pub links : links_good p ≡ true
  pub idles : idles_good p ≡ true
  pub free : free_slots p ≡ true

pub clauses : (p : Plain) → shaped p ≡ true → Clauses p
unfolding shaped
clauses p e =
    let front = tables_full p && turns_once p && owners_live p && ranges_hold p && calls_served p in
    let x = and4 front (links_good p) (idles_good p) (free_slots p) e in
    let y = and5 (tables_full p) (turns_once p) (owners_live p) (ranges_hold p) (calls_served p) x.0 in
    record {
      tables = y.0;
      turns = y.1;
      owners = y.2;
      ranges = y.3;
      calls = y.4;
      links = x.1;
      idles = x.2;
      free = x.3;
    }

pub from_clauses : (p : Plain) → Clauses p → shaped p ≡ true
unfolding shaped
from_clauses p c = simp (c.tables, c.turns, c.owners, c.ranges, c.calls, c.links, c.idles, c.free)

-- from the test to the records
sane_of : (p : Plain) → Clauses p → Sane p.threads
sane_of p c =
    let ts = p.threads in
    let full : length ts ≡ limit = eqb-true (length ts) limit (and_true_left _ (eqb (length p.slices) limit) c.tables) in
    let pairs : (n : ℕ) → (call_is_served ts n (hold_at ts n) && served_is_calling ts n (service_at ts n)) ≡ true =
    everywhere ts (λ n t. call_is_served ts n t.hold && served_is_calling ts n t.service) full (λ n. refl) c.calls in
    let frees : (n : ℕ) → (live_at ts n || thread_free (thread_at ts n)) ≡ true =
    everywhere ts (λ n t. t.live || thread_free t) full (λ n. refl) (and_true_left (free_threads p) (free_slices p) c.free) in
    record {
      full = full;
      served = λ n s e. serving_is (service_at ts s) n (rw e at (and_true_left (call_is_served ts n (hold_at ts n)) _ (pairs n)));
      calling =
          λ n s e. calling_is (hold_at ts n) s
          (rw e at (and_true_right (call_is_served ts s (hold_at ts s)) (served_is_calling ts s (service_at ts s)) (pairs s)));
      linked = everywhere ts (λ n t. link_good ts n t.hold) full (λ n. refl) c.links;
      idle = everywhere ts (λ n t. idle_good t) full (λ n. refl) c.idles;
      free = λ n e. thread_free_lem (thread_at ts n) e (rw e at (frees n));
    }

turns_of_lem : (p : Plain) → Clauses p → Turns p.threads p.slices p.order
turns_of_lem p c =
    let full : length p.slices ≡ limit = eqb-true (length p.slices) limit
    (and_true_right (eqb (length p.threads) limit) _ c.tables) in
    let once : distinct p.order ≡ true = and_true_right (all (λ t. ltb t limit) p.order) (distinct p.order) c.turns in
    record {
      full = full;
      small = λ t h. ltb-true t limit (all_at (λ u. ltb u limit) p.order (and_true_left _ (distinct p.order) c.turns) t h);
      once = once;
      owner = all_at (λ t. live_at p.threads (owner_at p.slices t)) p.order (and_true_left _ _ c.owners);
      owners = λ t u ht hu e. distinct_map (λ t. owner_at p.slices t) p.order
          (and_true_right (all (λ t. live_at p.threads (owner_at p.slices t)) p.order)
          (distinct (map (λ t. owner_at p.slices t) p.order)) c.owners) t u ht hu e;
      range = all_at (λ t. in_range (slice_at p.slices t)) p.order c.ranges;
      free = free_of full;
    }
  where
    free_by : length p.slices ≡ limit → (t : ℕ) → member t p.order ≡ false → Two (ltb t limit) → slice_at p.slices t ≡ free_slice
    free_by full t n (yes_true h) =
        slice_free_lem (slice_at p.slices t)
        (rw n at (below_at (λ u. member u p.order || slice_free (slice_at p.slices u)) limit
        (and_true_right (free_threads p) (free_slices p) c.free) t (ltb-true t limit h)))
    free_by full t n (no_false h) =
        get_or-eq_default p.slices free_slice (omega (arith, borrow.Author.Tests.ltb-false t limit h))

    free_of : length p.slices ≡ limit → (t : ℕ) → member t p.order ≡ false → slice_at p.slices t ≡ free_slice
    free_of full t n = free_by full t n (two (ltb t limit))

pub shape_of : (p : Plain) → shaped p ≡ true → Shape p
shape_of p e = let c = clauses p e in record { sane = sane_of p c; turns = turns_of_lem p c }

-- and back
call_served : (ts : List Thread) → Sane ts → (n : ℕ) (h : Hold) → hold_at ts n ≡ h → call_is_served ts n h ≡ true
call_served ts x n Ready e = refl
call_served ts x n Idle e = refl
call_served ts x n Blocked e = refl
call_served ts x n (Calling s) e = is_serving_lem (service_at ts s) n (x.served n s e)
call_served ts x n (Helping s) e = refl

served_calling : (ts : List Thread) → Sane ts → (n : ℕ) (v : Service) → service_at ts n ≡ v → served_is_calling ts n v ≡ true
served_calling ts x n Nobody e = refl
served_calling ts x n (Serving m) e = is_calling_lem (hold_at ts m) n (x.calling m n e)
served_calling ts x n Orphan e = refl

live_or_free : (t : Thread) → Two t.live → (t.live ≡ false → t ≡ free_thread) → (t.live || thread_free t) ≡ true
live_or_free t (yes_true e) f = or_true_left t.live (thread_free t) e
live_or_free t (no_false e) f = rw (f e)

listed_or_free : (b : Bool) (x : Slice) → Two b → (b ≡ false → x ≡ free_slice) → (b || slice_free x) ≡ true
listed_or_free b x (yes_true e) f = or_true_left b (slice_free x) e
listed_or_free b x (no_false e) f = rw (f e) (or_true_right b true refl)

pub of_shape : (p : Plain) → Shape p → shaped p ≡ true
of_shape p x =
    let ts = p.threads in
    let s = x.sane in
    let r = x.turns in
    from_clauses p
    record {
      tables = and_true_both (eqb (length ts) limit) _ (eq-eqb (length ts) limit s.full) (eq-eqb (length p.slices) limit r.full);
      turns =
          and_true_both _ (distinct p.order)
          (all_of (λ t. ltb t limit) p.order (λ t h. lt-ltb t limit (r.small t h))) r.once;
      owners =
          and_true_both _ _
          (all_of (λ t. live_at ts (owner_at p.slices t)) p.order r.owner)
          (map-distinct (λ t. owner_at p.slices t) p.order r.once r.owners);
      ranges = all_of (λ t. in_range (slice_at p.slices t)) p.order r.range;
      calls =
          below_of (λ n. call_is_served ts n (hold_at ts n) && served_is_calling ts n (service_at ts n)) limit
          (λ n h. and_true_both _ _ (call_served ts s n (hold_at ts n) refl) (served_calling ts s n (service_at ts n) refl));
      links = below_of (λ n. link_good ts n (hold_at ts n)) limit (λ n h. s.linked n);
      idles = below_of (λ n. idle_good (thread_at ts n)) limit (λ n h. s.idle n);
      free =
          and_true_both _ _
          (below_of (λ n. live_at ts n || thread_free (thread_at ts n)) limit
          (λ n h. live_or_free (thread_at ts n) (two (live_at ts n)) (s.free n)))
          (below_of (λ t. member t p.order || slice_free (slice_at p.slices t)) limit
          (λ t h. listed_or_free (member t p.order) (slice_at p.slices t) (two (member t p.order)) (r.free t)));
    }
