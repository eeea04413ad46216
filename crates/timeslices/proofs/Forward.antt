-- The search from the first to the last: the best so far and the topmost of the rest decide, and the earlier one loses only to a higher
-- priority.
use Prim.Native.Nat.{ℕ, suc, ◌+◌, ◌-◌, ◌≤◌, ◌<◌}
use mathlib.Core.Path.{◌≡◌, refl, sym, ◌∙◌, ap}
use mathlib.Core.List.{List, [], ◌∷◌, map}
use mathlib.Core.Bool.{Bool, true, false, cond}
use mathlib.Core.Option.{Option, none, some}
use native.Mathlib.Omega.{arith}
use lib.ListN.{length, get_or}
use lib.Dec.{ltb, leb, eqb}
use borrow.Author.Tests.{ltb-true, ltb-false, leb-true, leb-false, lt-ltb, le-ltb, ne_eqb, eqb-true}
use Rattle.std.specs.Prelude as std
use Rattle.std.specs.Prelude.{Some, None as Nothing}
use Rattle.rules.specs.declared.Place.{Place}
use Rattle.rules.specs.declared.Timeslice.{Timeslice}
use Rattle.rules.specs.declared.Slice.{Slice}
use Rattle.rules.specs.Tests.{filter}
use Rattle.rules.specs.State.{priority_at, place_at}
use Rattle.rules.specs.Order.{topmost, upper}
use Rattle.rules.proofs.Basics.Views.{Two, yes_true, no_false, two}
use Rattle.tables.specs.Timeslices.{slice_of, place_of, free_timeslice}
use Rattle.tables.specs.Turning.{entries_of}
use Rattle.neighbours.specs.Sides.{sentinel, neighbour}
use Rattle.neighbours.specs.Reading.{turns_from, turns_read}
use Rattle.neighbours.proofs.Stepping.{turn_from, no_turn}
use Rattle.timeslices.specs.declared.search.Members.{Members}
use Rattle.timeslices.specs.declared.search.Members.TheVariants.{None, One, Several}
use Rattle.timeslices.specs.declared.search.Found.{Found}
use Rattle.timeslices.specs.Searching.{takes, topmost_in, members_of, joined, ended}
use Rattle.timeslices.specs.Codes.{code_of}
use Rattle.timeslices.proofs.Searches.{in_set, shows}

-- of a timeslice and the topmost of those after it, joined with an earlier one
module _ (ss : List Slice) where
  -- the earlier one stands above
  pub upper_first : (b t : ℕ) (o : Option ℕ) → priority_at ss t ≤ priority_at ss b → upper ss b (upper ss t o) ≡ upper ss b o
  upper_first b t none le = let no = le-ltb (priority_at ss b) (priority_at ss t) le in rw no refl
  upper_first b t (some u) le = go (two (ltb (priority_at ss t) (priority_at ss u)))
    where
      go : Two (ltb (priority_at ss t) (priority_at ss u)) → upper ss b (upper ss t (some u)) ≡ upper ss b (some u)
      go (yes_true e) = rw e refl
      go (no_false e) =
          let no = le-ltb (priority_at ss b) (priority_at ss t) le in
          let nor = le-ltb (priority_at ss b) (priority_at ss u) (omega (arith, le, ltb-false (priority_at ss t) (priority_at ss u) e)) in
          rw (e, no, nor) refl

  -- the later one does
  pub upper_second : (b t : ℕ) (o : Option ℕ) → priority_at ss b < priority_at ss t → upper ss b (upper ss t o) ≡ upper ss t o
  upper_second b t none less = let yes = lt-ltb (priority_at ss b) (priority_at ss t) less in rw yes refl
  upper_second b t (some u) less = go (two (ltb (priority_at ss t) (priority_at ss u)))
    where
      go : Two (ltb (priority_at ss t) (priority_at ss u)) → upper ss b (upper ss t (some u)) ≡ upper ss t (some u)
      go (yes_true e) =
          let yes = lt-ltb (priority_at ss b) (priority_at ss u) (omega (arith, less, ltb-true (priority_at ss t) (priority_at ss u) e)) in
          rw (e, yes) refl
      go (no_false e) = let yes = lt-ltb (priority_at ss b) (priority_at ss t) less in rw (e, yes) refl

-- of several members it does not matter how many there are
several_members : (o : Option ℕ) (m n : ℕ) → 1 < m → 1 < n → members_of o m ≡ members_of o n
several_members none m n many more = refl
several_members (some t) m n many more =
    let not_one = ne_eqb m 1 (λ e. absurd (omega arith)) in
    let nor-one = ne_eqb n 1 (λ e. absurd (omega arith)) in
    rw (not_one, nor-one) refl

-- no member is found so far
abbrev pub nobody_yet : std.Option Found
nobody_yet = Nothing

-- the search of those timeslices of a list that the test takes
module _ (ss : List Slice) (taken : ℕ → Bool) where
  unfoldable pub step : std.Option Found → ℕ → std.Option Found
  step f t = cond (taken t) (Some (joined f t (priority_at ss t))) f

  unfoldable pub seek : std.Option Found → List ℕ → std.Option Found
  seek f [] = f
  seek f (t ∷ l) = seek (step f t) l

  -- where this is the best so far
  abbrev holding : ℕ → Bool → std.Option Found
  holding b v = Some (record { best = b; priority = priority_at ss b; several = v })

  -- what one step does
  passes : (f : std.Option Found) (t : ℕ) → taken t ≡ false → step f t ≡ f
  unfolding step
  passes f t e = rw e refl

  joins_below : (b t : ℕ) (v : Bool) → taken t ≡ true → leb (priority_at ss t) (priority_at ss b) ≡ true
      → step (holding b v) t ≡ holding b true
  unfolding step joined
  joins_below b t v e low = rw (e, low) refl

  joins_above : (b t : ℕ) (v : Bool) → taken t ≡ true → leb (priority_at ss t) (priority_at ss b) ≡ false
      → step (holding b v) t ≡ holding t true
  unfolding step joined
  joins_above b t v e high = rw (e, high) refl

  joins_first : (t : ℕ) → taken t ≡ true → step nobody_yet t ≡ holding t false
  unfolding step joined
  joins_first t e = rw e refl

  holds : (b : ℕ) (v : Bool) (l : List ℕ)
      → ended (seek (holding b v) l) ≡ members_of (upper ss b (topmost ss taken l)) (cond v 2 1 + length (filter taken l))
  unfolding seek topmost filter
  holds b true [] = refl
  holds b false [] = refl
  holds b v (t ∷ l) =
      by (two (taken t)) (two (leb (priority_at ss t) (priority_at ss b))) (holds b v l) (holds b true l) (holds t true l)
    where
      many : (w : Bool) → 1 < cond w 2 1 + suc (length (filter taken l))
      many true = omega arith
      many false = omega arith

      more : (u : ℕ) → members_of (upper ss u (topmost ss taken l)) (2 + length (filter taken l))
          ≡ members_of (upper ss u (topmost ss taken l)) (cond v 2 1 + suc (length (filter taken l)))
      more u = several_members (upper ss u (topmost ss taken l)) (2 + length (filter taken l)) (cond v 2 1 + suc (length (filter taken l)))
          (omega arith) (many v)

      by : Two (taken t) → Two (leb (priority_at ss t) (priority_at ss b))
          → ended (seek (holding b v) l) ≡ members_of (upper ss b (topmost ss taken l)) (cond v 2 1 + length (filter taken l))
          → ended (seek (holding b true) l) ≡ members_of (upper ss b (topmost ss taken l)) (2 + length (filter taken l))
          → ended (seek (holding t true) l) ≡ members_of (upper ss t (topmost ss taken l)) (2 + length (filter taken l))
          → ended (seek (holding b v) (t ∷ l))
          ≡ members_of (upper ss b (topmost ss taken (t ∷ l))) (cond v 2 1 + length (filter taken (t ∷ l)))
      by (no_false e) w same first second = ap (λ (g : std.Option Found). ended (seek g l)) (passes (holding b v) t e) ∙ rw e same
      by (yes_true e) (yes_true low) same first second =
          let keeps = upper_first ss b t (topmost ss taken l) (leb-true (priority_at ss t) (priority_at ss b) low) in
          ap (λ (g : std.Option Found). ended (seek g l)) (joins_below b t v e low) ∙ rw (e, keeps) (first ∙ more b)
      by (yes_true e) (no_false high) same first second =
          let loses = upper_second ss b t (topmost ss taken l) (leb-false (priority_at ss t) (priority_at ss b) high) in
          ap (λ (g : std.Option Found). ended (seek g l)) (joins_above b t v e high) ∙ rw (e, loses) (second ∙ more t)

  pub finds : (l : List ℕ) → ended (seek nobody_yet l) ≡ members_of (topmost ss taken l) (length (filter taken l))
  unfolding seek topmost filter
  finds [] = refl
  finds (t ∷ l) = by (two (taken t)) (finds l)
    where
      by : Two (taken t) → ended (seek nobody_yet l) ≡ members_of (topmost ss taken l) (length (filter taken l))
          → ended (seek nobody_yet (t ∷ l)) ≡ members_of (topmost ss taken (t ∷ l)) (length (filter taken (t ∷ l)))
      by (no_false e) same = ap (λ (g : std.Option Found). ended (seek g l)) (passes nobody_yet t e) ∙ rw e same
      by (yes_true e) same =
          let one : 1 + length (filter taken l) ≡ suc (length (filter taken l)) = omega arith in
          ap (λ (g : std.Option Found). ended (seek g l)) (joins_first t e)
          ∙ rw e (holds t false l ∙ ap (members_of (upper ss t (topmost ss taken l))) one)

-- the loop along the neighbours: what is left decides the whole
module _ (ts : List Timeslice) (set : Place) (after : List ℕ) (live : ℕ) where
  pub record Seeking (f : std.Option Found) (left at : ℕ) : Type 0 where
    pub whole : seek (map slice_of ts) (takes set ts) f (turns_from left after at)
        ≡ seek (map slice_of ts) (takes set ts) nobody_yet (turns_read after live)

  pub seek_all : (n : ℕ) → n ≡ entries_of live → Seeking nobody_yet n sentinel
  seek_all n e = record { whole = ap (λ (k : ℕ). seek (map slice_of ts) (takes set ts) nobody_yet (turns_from k after sentinel)) e }

  -- timeslice t, whose record x has been read
  pub seek_next : (f g : std.Option Found) (left at t k c d : ℕ) (x : Timeslice) → Seeking f left at → 0 < left → t ≡ neighbour after at
      → k ≡ t → get_or ts k free_timeslice ≡ x → c ≡ code_of set → d ≡ code_of x.place
      → g ≡ cond (eqb d c) (Some (joined f t x.priority)) f → Seeking g (left - 1) k
  unfolding seek step
  seek_next f g left at t k c d x s some_left after_it same there sought code is =
      let says = shows ts k t x same there in
      let taken : eqb d c ≡ takes set ts t = rw (code, sought, says.0) (in_set (place_at (map place_of ts) t) set) in
      let stepped : g ≡ step (map slice_of ts) (takes set ts) f t = is ∙ rw (taken, says.1) refl in
      record {
        whole =
            ap (λ (h : std.Option Found). seek (map slice_of ts) (takes set ts) h (turns_from (left - 1) after k)) stepped
            ∙ ap (λ (j : ℕ). seek (map slice_of ts) (takes set ts) f (t ∷ turns_from (left - 1) after j)) same
            ∙ ap (seek (map slice_of ts) (takes set ts) f) (sym (turn_from left after at t some_left after_it))
            ∙ s.whole;
      }

  pub sought_all : (f : std.Option Found) (left at : ℕ) (r : Members) → Seeking f left at → left ≤ 0 → r ≡ ended f
      → r ≡ members_of (topmost_in set ts (turns_read after live)) (length (filter (takes set ts) (turns_read after live)))
  unfolding seek
  sought_all f left at r s none_left is =
      is
      ∙ ap ended (ap (seek (map slice_of ts) (takes set ts) f) (sym (no_turn left after at none_left)) ∙ s.whole)
      ∙ finds (map slice_of ts) (takes set ts) (turns_read after live)

-- what the answer says of the topmost one and of the number of members
abbrev pub topmost_of : Members → Option ℕ
topmost_of None = none
topmost_of (One t) = some t
topmost_of (Several t) = some t

topmost_is : (o : Option ℕ) (n : ℕ) → topmost_of (members_of o n) ≡ o
topmost_is none n = refl
topmost_is (some t) n = go (eqb n 1)
  where
    go : (b : Bool) → topmost_of (cond b (One t) (Several t)) ≡ some t
    go true = refl
    go false = refl

module _ (o : Option ℕ) (n : ℕ) (m : Members) (e : m ≡ members_of o n) where
  pub says_top : (a : Members) → m ≡ a → topmost_of a ≡ o
  says_top a is = ap topmost_of (sym is ∙ e) ∙ topmost_is o n

  pub says_one : (t : ℕ) → m ≡ One t → n ≡ 1
  says_one t is = by o (two (eqb n 1)) (sym is ∙ e)
    where
      by : (p : Option ℕ) → Two (eqb n 1) → One t ≡ members_of p n → n ≡ 1
      by none w other = let z : ◌≡◌ {A = ℕ} 0 1 = cc other in absurd (omega arith)
      by (some u) (yes_true one) other = eqb-true n 1 one
      by (some u) (no_false more) other =
          let apart : One t ≡ Several u = rw more at other in
          let z : ◌≡◌ {A = ℕ} 0 1 = cc apart in absurd (omega arith)
