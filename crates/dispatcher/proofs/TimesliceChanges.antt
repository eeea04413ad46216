-- Give, charge, refill, abort, remove and rank: the stored machine after their changes shows the state after them, and is stored.
use Prim.Native.Nat.{ℕ, suc, ◌+◌, ◌-◌, ◌≤◌, ◌<◌}
use mathlib.Core.Path.{◌≡◌, refl, sym, ◌∙◌, ap, ap₂, subst}
use mathlib.Core.List.{List, [], map}
use mathlib.Core.Bool.{Bool, true, false, cond, not, ◌&&◌}
use mathlib.Core.Option.{Option, none, some}
use native.Mathlib.Omega.{arith}
use native.Mathlib.Numerals.{add-one}
use lib.ListN.{length, get_or, set}
use lib.Dec.{eqb, ltb}
use borrow.Author.Tests.{eq-eqb, ne_eqb, lt-ltb}
use lib.Seq.{map-set_same}
use Rattle.rules.specs.declared.Thread.{Thread}
use Rattle.rules.specs.declared.Place.{Place}
use Rattle.rules.specs.declared.Place.TheVariants.{Queue}
use Rattle.rules.specs.declared.Chain.{Chain}
use Rattle.rules.specs.declared.Running.TheVariants.{Runs}
use Rattle.rules.specs.declared.Timeslice.{Timeslice}
use Rattle.rules.specs.Tests.{member}
use Rattle.rules.specs.declared.Slice.{Slice}
use Rattle.rules.specs.State.{State, limit, forget, free_slice, slice_at, left_at, place_at, with_threads, with_places, with_timeslices}
use Rattle.rules.specs.Walk.{walk}
use Rattle.rules.specs.Timeslices.{with_left, set_left, given, last, without, to_back, charged, refilled, struck, ranked}
use Rattle.rules.specs.Release.{behind, on_thread, stalled, release_to, release}
use Rattle.rules.specs.Choice.{Outcome, park, choose}
use Rattle.rules.specs.Events.{with_given, release_walked, after_walk, end_blocked, strike_out, depletes, spends, charge_by, charge}
use Rattle.rules.specs.Events.{with_refilled, detached, with_ranked, overtakes, settle_if, settle}
use Rattle.dispatcher.specs.declared.Machine.{Machine}
use Rattle.dispatcher.specs.Promise.{Answered}
use Rattle.tables.specs.Timeslices.{slice_of, place_of, free_timeslice, set_priority}
use Rattle.dispatcher.specs.Shown.{sides_of, shown, stored, sound_machine}
use Rattle.timeslices.specs.Releasing.{places_after, detached_places, Replaced}
use Rattle.neighbours.specs.Sides.{Sides, sides}
use Rattle.neighbours.specs.Reading.{turns_read}
use Rattle.neighbours.specs.Forming.{Linked, Changes}
use Rattle.dispatcher.specs.Choosing.{before, Settled, Chosen, Shows}
use Rattle.rules.proofs.Basics.Views.{and_true_both}
use Rattle.rules.proofs.Bounds.{turns_room}
use Rattle.rules.proofs.Soundness.Places.{sound_of}
use Rattle.rules.proofs.Order.Orders.{length_last, length_without, length_back}
use Rattle.tables.proofs.Lookups.{slice_at_lem, map-set}
use Rattle.timeslices.proofs.ReleaseLoop.{release_is}
use Rattle.timeslices.proofs.Detaching.{ranked_slices, ranked_places, detached_is}
use Rattle.dispatcher.proofs.Stored.{sound_stored, sound_shown, live_is, turns_fit, turns_many, turns_linked}
use Rattle.dispatcher.proofs.Stored.{order_shown, stored_of, stored_with}

-- a new timeslice, last in turn order
module _ (m : Machine) (j t n p q : ℕ) (at : j ≡ t) (s : Sides) (short : m.live_timeslices < 128) where
  abbrev pub gift : Machine
  gift =
      record {
        threads = m.threads;
        timeslices = set m.timeslices j (record { owner = n; priority = p; quantum = q; left = q; place = Queue });
        before = s.before;
        after = s.after;
        live_threads = m.live_threads;
        live_timeslices = m.live_timeslices + 1;
        running = m.running;
      }

  -- its neighbours are those of the turn order with the timeslice last
  module _ (ok : stored m ≡ true) (k : Linked s (last t (shown m).order)) where
    many : length (last t (shown m).order) ≡ m.live_timeslices + 1
    many = length_last t (shown m).order ∙ ap suc (turns_many m ok) ∙ sym (add-one m.live_timeslices)

    pub gift_shown : shown gift ≡ with_given t n p q (shown m)
    unfolding with_given given
    gift_shown =
        let x : Timeslice = record { owner = n; priority = p; quantum = q; left = q; place = Queue } in
        let slices : map slice_of (set m.timeslices j x) ≡ set (map slice_of m.timeslices) t (slice_of x) =
        map-set slice_of m.timeslices j x ∙ ap (λ (i : ℕ). set (map slice_of m.timeslices) i (slice_of x)) at in
        let places : map place_of (set m.timeslices j x) ≡ set (map place_of m.timeslices) t Queue =
        map-set place_of m.timeslices j x ∙ ap (λ (i : ℕ). set (map place_of m.timeslices) i Queue) at in
        let order = order_shown gift (last t (shown m).order) k many (omega arith) in
        λ i. record { threads = m.threads; slices = slices i; places = places i; order = order i; running = m.running }

    pub gift_exact : stored gift ≡ true
    gift_exact = stored_of gift (last t (shown m).order) k many (omega arith) (live_is m ok)

-- there is room for a timeslice that is not listed, and appended it is the last
module _ (m : Machine) (t : ℕ) (small : t < 128) (unlisted : member t (shown m).order ≡ false) where
  pub gift_room : sound_machine m ≡ true → m.live_timeslices < 128
  gift_room ok =
      let few = turns_room (forget (shown m)) (sound_of (shown m) (sound_shown m ok)).mid.shape t small unlisted in
      omega (arith, few, turns_many m (sound_stored m ok))

  pub gift_linked : (ok : stored m ≡ true) (longer : Sides)
      → Changes (λ order. ltb t limit && not (member t order)) (last t) (sides_of m) longer → Linked longer (last t (shown m).order)
  gift_linked ok longer turned =
      turned (shown m).order (turns_linked m ok)
      (and_true_both (ltb t limit) (not (member t (shown m).order)) (lt-ltb t limit small) (rw unlisted refl))

-- so much is left of a timeslice now, at this place
module _ (ts : List Timeslice) (k t l : ℕ) (p : Place) (at : k ≡ t) where
  abbrev pub timed : Timeslice
  timed =
      let x = get_or ts k free_timeslice in
      record { owner = x.owner; priority = x.priority; quantum = x.quantum; left = l; place = p }

  pub left_slices : map slice_of (set ts k timed) ≡ set_left t l (map slice_of ts)
  unfolding set_left
  left_slices =
      map-set slice_of ts k timed
      ∙ ap (λ (x : Slice). set (map slice_of ts) k (with_left l x)) (sym (slice_at_lem ts k))
      ∙ ap (λ (j : ℕ). set (map slice_of ts) j (with_left l (slice_at (map slice_of ts) j))) at

  pub left_places : map place_of (set ts k timed) ≡ set (map place_of ts) t p
  left_places = map-set place_of ts k timed ∙ ap (λ (j : ℕ). set (map place_of ts) j p) at

-- a place that stays
pub place_stays : (ts : List Timeslice) (k t l : ℕ) (at : k ≡ t)
    → map place_of (set ts k (timed ts k t l (get_or ts k free_timeslice).place at)) ≡ map place_of ts
place_stays ts k t l at = map-set_same place_of ts k (timed ts k t l (get_or ts k free_timeslice).place at) free_timeslice refl

-- a machine with other threads, timeslices and neighbours
abbrev pub moved_to : List Thread → List Timeslice → Sides → Machine → Machine
moved_to ths ts sides m =
    record {
      threads = ths;
      timeslices = ts;
      before = sides.before;
      after = sides.after;
      live_threads = m.live_threads;
      live_timeslices = m.live_timeslices;
      running = m.running;
    }

-- a release, after other threads, timeslices and another turn order
pub released_shown : (m : Machine) (at : Place → Bool) (ths ths' : List Thread) (ts free : List Timeslice) (ss : List Slice)
    (ps : List Place) (sides : Sides) (order : List ℕ)
    → ths ≡ ths' → map slice_of ts ≡ ss → map place_of ts ≡ ps → turns_read sides.after m.live_timeslices ≡ order
    → Replaced ts (places_after at (map slice_of ts) (turns_read sides.after m.live_timeslices) (map place_of ts)) free
    → shown (moved_to ths free sides m)
    ≡ release at (with_places ps (with_timeslices ss order (with_threads ths' (shown m))))
released_shown m at ths ths' ts free ss ps sides order e s p o r =
    let places : map place_of free ≡ places_after at ss order ps =
    r.places ∙ ap (λ (x : List Slice). places_after at x (turns_read sides.after m.live_timeslices) (map place_of ts)) s
    ∙ ap (λ (x : List ℕ). places_after at ss x (map place_of ts)) o ∙ ap (places_after at ss order) p in
    let slices : map slice_of free ≡ ss = r.slices ∙ s in
    (λ k. record { threads = e k; slices = slices k; places = places k; order = o k; running = m.running })
    ∙ sym (release_is at (with_places ps (with_timeslices ss order (with_threads ths' (shown m)))))

-- the turn order after a move to its back
module _ (m : Machine) (t : ℕ) (back : Sides) (ts : List Timeslice) (ok : stored m ≡ true) (listed : member t (shown m).order ≡ true)
    (k : Linked back (to_back t (shown m).order)) where
  as_many : length (to_back t (shown m).order) ≡ m.live_timeslices
  as_many = length_back t (shown m).order listed ∙ turns_many m ok

  pub turned_exact : stored (moved_to m.threads ts back m) ≡ true
  turned_exact = stored_of (moved_to m.threads ts back m) (to_back t (shown m).order) k as_many (turns_fit m ok) (live_is m ok)

  pub turned_shown : turns_read back.after m.live_timeslices ≡ to_back t (shown m).order
  turned_shown = order_shown (moved_to m.threads ts back m) (to_back t (shown m).order) k as_many (turns_fit m ok)

-- a timeslice is struck out: its slot is free, and one timeslice less is listed
module _ (m : Machine) (t : ℕ) (ok : stored m ≡ true) (listed : member t (shown m).order ≡ true) where
  abbrev turns : List ℕ
  turns = (shown m).order

  one_less : suc (length (without t turns)) ≡ m.live_timeslices
  one_less = length_without t turns listed ∙ turns_many m ok

  pub some_live : 1 ≤ m.live_timeslices
  some_live = omega (arith, one_less)

  module _ (rest : Sides) (l : Linked rest (without t turns)) where
    -- the machine with one timeslice less
    abbrev pub fewer : List Timeslice → Machine
    fewer ts =
        record {
          threads = m.threads;
          timeslices = ts;
          before = rest.before;
          after = rest.after;
          live_threads = m.live_threads;
          live_timeslices = m.live_timeslices - 1;
          running = m.running;
        }

    few : length (without t turns) ≡ m.live_timeslices - 1
    few = omega (arith, one_less)

    pub fewer_exact : (ts : List Timeslice) → stored (fewer ts) ≡ true
    fewer_exact ts = stored_of (fewer ts) (without t turns) l few (omega (arith, turns_fit m ok)) (live_is m ok)

    rest_turns : turns_read rest.after (m.live_timeslices - 1) ≡ without t turns
    rest_turns = order_shown (fewer []) (without t turns) l few (omega (arith, turns_fit m ok))

    -- the free slot, and the release of the followers
    module _ (k : ℕ) (at : k ≡ t) (free : List Timeslice) where
      abbrev pub cleared : List Timeslice
      cleared = set m.timeslices k free_timeslice

      pub struck_shown :
          Replaced cleared
          (places_after (behind t) (map slice_of cleared) (turns_read rest.after (m.live_timeslices - 1)) (map place_of cleared)) free
          → shown (fewer free) ≡ strike_out (some t) (shown m)
      unfolding park struck
      struck_shown r =
          let slices : map slice_of cleared ≡ set (map slice_of m.timeslices) t free_slice =
          map-set slice_of m.timeslices k free_timeslice ∙ ap (λ (j : ℕ). set (map slice_of m.timeslices) j free_slice) at in
          let places : map place_of cleared ≡ set (map place_of m.timeslices) t Queue =
          map-set place_of m.timeslices k free_timeslice ∙ ap (λ (j : ℕ). set (map place_of m.timeslices) j Queue) at in
          released_shown (fewer free) (behind t) _ _ cleared free _ _ rest _ refl slices places rest_turns r

-- a release leaves the threads as they were, and so does striking out
released_to : (at : Place → Bool) (s : State) (first : Option ℕ) → (release_to at s first).threads ≡ s.threads
released_to at s none = refl
released_to at s (some q) = refl

pub struck_threads : (t : Option ℕ) (s : State) (n : Machine) → Shows (strike_out t s) n → n.threads ≡ s.threads
unfolding park release
struck_threads none s n h = ap (λ (u : State). u.threads) h.state
struck_threads (some t) s n h = ap (λ (u : State). u.threads) h.state ∙ released_to (behind t) _ _

-- what a walk came to: it looped, or it ended at a Blocked thread
module _ (m now : Machine) (end : ℕ) (ok : stored m ≡ true) where
  pub walk_looped : (looped blocked : Bool) (free : List Timeslice) → looped ≡ true
      → Replaced m.timeslices (places_after stalled (shown m).slices (shown m).order (shown m).places) free
      → now ≡ moved_to m.threads free (sides_of m) m → Shows (release_walked looped blocked end (shown m)) now
  walk_looped looped blocked free l r is =
      rw (is, l)
      (record {
        state = released_shown m stalled _ _ m.timeslices free _ _ (sides_of m) _ refl refl refl refl r;
        exact = stored_with m ok _ refl refl (live_is m ok);
      })

  pub walk_blocked : (looped blocked : Bool) (free : List Timeslice) → looped ≡ false → blocked ≡ true
      → Replaced m.timeslices (places_after (on_thread end) (shown m).slices (shown m).order (shown m).places) free
      → now ≡ moved_to m.threads free (sides_of m) m → Shows (release_walked looped blocked end (shown m)) now
  walk_blocked looped blocked free l b r is =
      rw (is, l, b)
      (record {
        state = released_shown m (on_thread end) _ _ m.timeslices free _ _ (sides_of m) _ refl refl refl refl r;
        exact = stored_with m ok _ refl refl (live_is m ok);
      })

-- after a walk, by what it came to
pub after_walk_lem : (c : Chain) (b : Bool) (k : ℕ) (m : Machine) (s : State) (r : Answered) → k ≡ c.links
    → shown m ≡ release_walked c.looped b c.end s → Chosen m k r → Settled (settle (after_walk c b s)) r
unfolding after_walk
after_walk_lem c b k m s r e shows ch =
    subst (λ (o : Outcome). Settled (choose o) r) (ap₂ (λ s l. record { state = s; links = l }) shows e) ch

-- the walk from thread n, over the threads ts
pub walked_from : (ts : List Thread) (n : ℕ) (c : Chain) (b : Bool) (s s' : State) (r : Answered) → c ≡ walk ts n → b ≡ end_blocked c ts
    → s ≡ s' → Settled (settle (after_walk c b s)) r
    → let d = walk ts n in Settled (settle (after_walk d (end_blocked d ts) s')) r
walked_from ts n c b s s' r is e shows z =
    let ends : b ≡ end_blocked (walk ts n) ts = e ∙ ap (λ (d : Chain). end_blocked d ts) is in
    subst (λ (d : Chain). Settled (settle (after_walk d (end_blocked (walk ts n) ts) s')) r) is
    (subst (λ (x : Bool). Settled (settle (after_walk c x s')) r) ends
    (subst (λ (t : State). Settled (settle (after_walk c b t)) r) shows z))

-- the choice after a timeslice joined Queue
pub joined_to : (t : ℕ) (m : Machine) (s : State) (r : Answered) → shown m ≡ s
    → Settled (settle_if (overtakes (shown m) (some t)) (before m 0)) r
    → Settled (settle_if (overtakes s (some t)) (record { state = s; links = 0 })) r
joined_to t m s r e h = subst (λ (u : State). Settled (settle_if (overtakes u (some t)) (record { state = u; links = 0 })) r) e h

-- what is left and the quantum, read at the timeslice's index
pub left_at_lem : (ts : List Timeslice) (k t : ℕ) → k ≡ t → left_at (map slice_of ts) t ≡ (get_or ts k free_timeslice).left
left_at_lem ts k t at = ap (λ (x : Slice). x.left) (slice_at_lem ts t) ∙ sym (ap (λ (j : ℕ). (get_or ts j free_timeslice).left) at)

quantum_at : (ts : List Timeslice) (k t : ℕ) → k ≡ t → (slice_at (map slice_of ts) t).quantum ≡ (get_or ts k free_timeslice).quantum
quantum_at ts k t at = ap (λ (x : Slice). x.quantum) (slice_at_lem ts t) ∙ sym (ap (λ (j : ℕ). (get_or ts j free_timeslice).quantum) at)

refills : (ts : List Timeslice) (k t : ℕ) (p : Place) (at : k ≡ t)
    → map slice_of (set ts k (timed ts k t (get_or ts k free_timeslice).quantum p at)) ≡ refilled t (map slice_of ts)
unfolding refilled
refills ts k t p at = left_slices ts k t (get_or ts k free_timeslice).quantum p at
    ∙ ap (λ (l : ℕ). set_left t l (map slice_of ts)) (sym (quantum_at ts k t at))

pub charges : (ts : List Timeslice) (k t units : ℕ) (p : Place) (at : k ≡ t)
    → map slice_of (set ts k (timed ts k t ((get_or ts k free_timeslice).left - units) p at)) ≡ charged t units (map slice_of ts)
unfolding charged
charges ts k t units p at =
    left_slices ts k t ((get_or ts k free_timeslice).left - units) p at
    ∙ ap (λ (l : ℕ). set_left t (l - units) (map slice_of ts)) (sym (left_at_lem ts k t at))

-- a charge, by what is left
module _ (m : Machine) (n t count units k : ℕ) (run : m.running ≡ Runs n t count) (at : k ≡ t) where
  pub charge_spent : (get_or m.timeslices k free_timeslice).left ≡ units → depletes t units (shown m) ≡ charge units (shown m)
  unfolding charge
  charge_spent e =
      let same : eqb (left_at (map slice_of m.timeslices) t) units ≡ true = eq-eqb _ _ (left_at_lem m.timeslices k t at ∙ e) in
      sym (ap (charge_by units (shown m)) run ∙ ap (λ (b : Bool). cond b (depletes t units (shown m)) (spends t units (shown m))) same)

  pub charge_left : ((get_or m.timeslices k free_timeslice).left ≡ units → ⊥) → spends t units (shown m) ≡ charge units (shown m)
  unfolding charge
  charge_left e =
      let other : eqb (left_at (map slice_of m.timeslices) t) units ≡ false =
      ne_eqb _ _ (λ q. e (sym (left_at_lem m.timeslices k t at) ∙ q)) in
      sym (ap (charge_by units (shown m)) run ∙ ap (λ (b : Bool). cond b (depletes t units (shown m)) (spends t units (shown m))) other)

-- a refill: the whole quantum is left, in Queue
module _ (m : Machine) (k t : ℕ) (at : k ≡ t) where
  abbrev pub refilled_to : Machine
  refilled_to =
      let x = get_or m.timeslices k free_timeslice in
      moved_to m.threads (set m.timeslices k (timed m.timeslices k t x.quantum Queue at)) (sides_of m) m

  pub refill_shown : shown refilled_to ≡ with_refilled t (shown m)
  unfolding with_refilled
  refill_shown =
      let slices = refills m.timeslices k t Queue at in
      let places = left_places m.timeslices k t (get_or m.timeslices k free_timeslice).quantum Queue at in
      λ i. record {
        threads = m.threads;
        slices = slices i;
        places = places i;
        order = (shown m).order;
        running = m.running;
      }

-- a rank: the timeslice is detached, takes the priority and goes to the back
pub rank_shown : (m : Machine) (t priority : ℕ) (apart ts : List Timeslice) (back : Sides)
    → Replaced m.timeslices
    (detached_places t (shown m).slices (shown m).order (shown m).places (place_at (shown m).places t)) apart
    → ts ≡ set_priority t priority apart → turns_read back.after m.live_timeslices ≡ to_back t (shown m).order
    → shown (moved_to m.threads ts back m) ≡ with_ranked t priority (detached t (shown m) (place_at (shown m).places t))
rank_shown m t priority apart ts back r is turns =
    let slices = ap (map slice_of) is ∙ ranked_slices apart t priority ∙ ap (ranked t priority) r.slices in
    let places = ap (map place_of) is ∙ ranked_places apart t priority ∙ r.places in
    (λ i. record { threads = m.threads; slices = slices i; places = places i; order = turns i; running = m.running })
    ∙ ap (with_ranked t priority) (sym (detached_is t (shown m) (place_at (shown m).places t)))
