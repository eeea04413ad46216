-- Codes and heights: the loops that fill and search them, and that the highest height in a set is that of its topmost timeslice.
use Prim.Native.Nat.{ℕ, zero, suc, max, ◌+◌, ◌*◌, ◌-◌, ◌≤◌, ◌<◌}
use mathlib.Core.Path.{◌≡◌, refl, sym, ◌∙◌, ap, subst}
use mathlib.Core.Logic.{⊎_elim}
use mathlib.Core.List.{List, map}
use mathlib.Core.Bool.{Bool, true, false, cond}
use mathlib.Core.Option.{Option, none, some}
use native.Mathlib.Omega.{arith}
use native.Mathlib.Numerals.{add-one}
use native.Mathlib.Nat.{eq-or-lt_of_le}
use lib.ListN.{length, get_or, set, take, drop, length-set}
use lib.Seq.{get_or-set_same, get_or-set_other, get_or-take, ext_get_or}
use lib.Dec.{ltb, eqb}
use borrow.Author.Tests.{ltb-true, ltb-false, lt-ltb, le-ltb, eq-eqb, ne_eqb}
use Rattle.rules.specs.declared.Place.{Place}
use Rattle.rules.specs.declared.Place.TheVariants.{Queue, Behind, On, Stalled, Spent}
use Rattle.rules.specs.declared.Timeslice.{Timeslice}
use Rattle.rules.specs.State.{priority_at, place_at}
use Rattle.rules.specs.Order.{topmost, upper}
use Rattle.rules.proofs.Basics.Views.{Two, yes_true, no_false, two, Same, equal, different, same}
use Rattle.std.specs.Prelude.{Some, None}
use Rattle.tables.specs.Timeslices.{slice_of, place_of, free_timeslice}
use Rattle.tables.specs.Sets.{set_of, sought_of, kind_of, number_of}
use Rattle.tables.specs.Turning.{entries_of}
use Rattle.timeslices.specs.Codes.{code_of, height_of, turn_of, weight, higher, highest, top_of, code_at, height_at}
use Rattle.timeslices.specs.Codes.{Entered, Recoded, Coded}
use Rattle.timeslices.specs.Searching.{takes}
use Rattle.tables.proofs.Lookups.{place_at_lem, priority_is, turn, turns_out, entries_are}
use Rattle.tables.proofs.Places.{same_place}
use Rattle.neighbours.specs.Sides.{sentinel, neighbour}
use Rattle.neighbours.specs.Reading.{turns_read}
use Rattle.neighbours.proofs.Stepping.{Read, read_none, read_this, read_one, length-turns}

-- in turn i of a loop `for _ in 0..n`, what is left is one less
pub in_turn : (P : ℕ → Type 0) (n i : ℕ) → P (n - i - 1) → P (n - (i + 1))
in_turn P n i h = let less : n - i - 1 ≡ n - (i + 1) = omega arith in subst P less h

-- a loop that stores one entry after another: those before i have their new value, the others are as they were
pub record Storing (value : ℕ → ℕ) (before now : List ℕ) (i : ℕ) : Type 0 where
  pub size : length now ≡ length before
  pub done : (j : ℕ) → j < i → j < length before → get_or now j 0 ≡ value j
  pub rest : (j : ℕ) → i ≤ j → get_or now j 0 ≡ get_or before j 0

module _ (value : ℕ → ℕ) where
  pub store_none : (l : List ℕ) → Storing value l l 0
  store_none l = record { size = refl; done = λ j h _. absurd (omega arith); rest = λ j h. refl }

  pub store_one : (before now : List ℕ) (i v : ℕ) → Storing value before now i → v ≡ value i → Storing value before (set now i v) (i + 1)
  store_one before now i v s e =
      record {
        size = length-set now i v ∙ s.size;
        done = λ j h inside. let le : j ≤ i = omega arith in ⊎_elim (λ this. here j this inside) (λ less. earlier j less inside)
            (eq-or-lt_of_le le);
        rest = λ j h. get_or-set_other now i j v 0 (λ this. absurd (omega arith)) ∙ s.rest j (omega arith);
      }
    where
      here : (j : ℕ) → j ≡ i → j < length before → get_or (set now i v) j 0 ≡ value j
      here j this inside = rw this (get_or-set_same now i v 0 (omega (arith, s.size)) ∙ e)

      earlier : (j : ℕ) → j < i → j < length before → get_or (set now i v) j 0 ≡ value j
      earlier j less inside = get_or-set_other now i j v 0 (λ this. absurd (omega arith)) ∙ s.done j less inside

  pub store_all : (live n : ℕ) (before now : List ℕ) (i : ℕ) → n ≡ entries_of live → Storing value before now i → n ≤ i → i ≤ n
      → Entered value live before now
  store_all live n before now i e s out inside =
      record {
        size = s.size;
        each = λ j short. s.done j (omega arith);
        rest = λ j past. s.rest j (omega arith);
      }

-- what the record that was read says of timeslice t
pub shows : (ts : List Timeslice) (k t : ℕ) (x : Timeslice) → k ≡ t → get_or ts k free_timeslice ≡ x
    → (x.place ≡ place_at (map place_of ts) t) × (x.priority ≡ priority_at (map slice_of ts) t)
shows ts k t x e there = (
  sym (ap place_of there) ∙ sym (place_at_lem ts k) ∙ ap (place_at (map place_of ts)) e,
  priority_is ts k t x.priority e (sym (ap (λ (y : Timeslice). y.priority) there)),
)

-- the loop that fills the arrays
pub record Filling (ts : List Timeslice) (after : List ℕ) (live n : ℕ) (order₀ codes₀ heights₀ order codes heights : List ℕ) (at i : ℕ) :
    Type 0 where
  pub read : Read after live n at i
  pub ordered : Storing (λ j. get_or (turns_read after live) j 0) order₀ order i
  pub coded : Storing (code_at ts (turns_read after live)) codes₀ codes i
  pub measured : Storing (height_at ts (turns_read after live)) heights₀ heights i

module _ (ts : List Timeslice) (after : List ℕ) (live n : ℕ) (order₀ codes₀ heights₀ : List ℕ) where
  pub fill_none : n ≡ entries_of live → Filling ts after live n order₀ codes₀ heights₀ order₀ codes₀ heights₀ sentinel 0
  fill_none e =
      record {
        read = read_none after live n e;
        ordered = store_none _ order₀;
        coded = store_none _ codes₀;
        measured = store_none _ heights₀;
      }

  pub fill_one : (order codes heights : List ℕ) (at i t k c r : ℕ) (x : Timeslice)
      → Filling ts after live n order₀ codes₀ heights₀ order codes heights at i → i < n → t ≡ neighbour after at
      → k ≡ t → get_or ts k free_timeslice ≡ x → c ≡ code_of x.place → r ≡ height_of x.priority i
      → Filling ts after live n order₀ codes₀ heights₀ (set order i t) (set codes i c) (set heights i r) k (i + 1)
  fill_one order codes heights at i t k c r x f short after_it same there code height =
      let this = read_this after live n at i t f.read short after_it in
      let says = shows ts k (get_or (turns_read after live) i 0) x (same ∙ this) there in
      record {
        read = subst (λ (j : ℕ). Read after live n j (i + 1)) (sym same) (read_one after live n at i t f.read short after_it);
        ordered = store_one _ order₀ order i t f.ordered this;
        coded = store_one _ codes₀ codes i c f.coded (code ∙ ap code_of says.0);
        measured = store_one _ heights₀ heights i r f.measured (height ∙ ap (λ (p : ℕ). height_of p i) says.1);
      }

  pub filled : (order codes heights : List ℕ) (at i : ℕ) → Filling ts after live n order₀ codes₀ heights₀ order codes heights at i → n ≤ i
      → Entered (λ j. get_or (turns_read after live) j 0) live order₀ order
      × (Entered (code_at ts (turns_read after live)) live codes₀ codes
      × Entered (height_at ts (turns_read after live)) live heights₀ heights)
  filled order codes heights at i f out =
      let r = f.read in (
        store_all _ live n order₀ order i r.last f.ordered out r.inside,
        (
          store_all _ live n codes₀ codes i r.last f.coded out r.inside,
          store_all _ live n heights₀ heights i r.last f.measured out r.inside,
        ),
      )

-- in arrays of 128 entries the first are then the turn order
pub ordered_by : (after : List ℕ) (live : ℕ) (order₀ order : List ℕ) → length order₀ ≡ 128
    → Entered (λ i. get_or (turns_read after live) i 0) live order₀ order → (take live order ≡ turns_read after live) × (length order ≡ 128)
ordered_by after live order₀ order full o =
    let all = o.size ∙ full in
    let listed = entries_are order live all in
    let turns = length-turns (entries_of live) after sentinel in (
      ext_get_or 0 (take live order) (turns_read after live) (listed ∙ sym turns)
          (λ i inside. let short : i < entries_of live = omega (arith, listed) in
          get_or-take live order i 0 (omega arith) ∙ o.each i short (omega arith)),
      all,
    )

-- and every live timeslice has its code and its height
pub coded_by : (ts : List Timeslice) (after : List ℕ) (live : ℕ) (order₀ codes₀ heights₀ order codes heights : List ℕ)
    → length order₀ ≡ 128 → length codes₀ ≡ 128 → length heights₀ ≡ 128
    → Entered (λ i. get_or (turns_read after live) i 0) live order₀ order
    → Entered (code_at ts (turns_read after live)) live codes₀ codes
    → Entered (height_at ts (turns_read after live)) live heights₀ heights
    → Coded ts order live codes heights
coded_by ts after live order₀ codes₀ heights₀ order codes heights full many tall o c h =
    record {
      full = c.size ∙ many;
      code = λ i short.
          c.each i short (omega arith)
          ∙ ap (λ (t : ℕ). code_of (place_at (map place_of ts) t)) (sym (o.each i short (omega arith)));
      height = λ i short.
          h.each i short (omega arith)
          ∙ ap (λ (t : ℕ). height_of (priority_at (map slice_of ts) t) i) (sym (o.each i short (omega arith)));
    }

-- the loop that changes every live entry's code by the timeslice at that entry
pub record Recoding (change : ℕ → ℕ → ℕ) (order : List ℕ) (live n : ℕ) (before now : List ℕ) (i : ℕ) : Type 0 where
  pub last : n ≡ entries_of live
  pub inside : i ≤ n
  pub stored : Storing (λ j. change (get_or order j 0) (get_or before j 0)) before now i

module _ (change : ℕ → ℕ → ℕ) (order : List ℕ) (live n : ℕ) (before : List ℕ) where
  pub recode_none : n ≡ entries_of live → Recoding change order live n before before 0
  recode_none e = record { last = e; inside = omega arith; stored = store_none _ before }

  pub recode_one : (now : List ℕ) (i v : ℕ) → Recoding change order live n before now i → i < n
      → v ≡ change (get_or order i 0) (get_or now i 0)
      → Recoding change order live n before (set now i v) (i + 1)
  recode_one now i v r short e =
      record {
        last = r.last;
        inside = omega arith;
        stored = store_one _ before now i v r.stored (e ∙ ap (change (get_or order i 0)) (r.stored.rest i (omega arith)));
      }

  pub recoded : (now : List ℕ) (i : ℕ) → Recoding change order live n before now i → n ≤ i → Recoded change order live before now
  recoded now i r out = store_all _ live n before now i r.last r.stored out r.inside

-- `max` is the definition's larger of two
max_is : (best w : ℕ) → max best w ≡ higher best w
max_is best w = go (two (ltb best w))
  where
    go : Two (ltb best w) → max best w ≡ higher best w
    go (yes_true e) = let less = ltb-true best w e in rw e (omega arith)
    go (no_false e) = let le = ltb-false best w e in rw e (omega arith)

module _ (set : ℕ) (codes heights : List ℕ) (n : ℕ) where
  -- the search has come to entry i: the best so far and the highest from there on give the whole
  pub record Scanned (best i : ℕ) : Type 0 where
    pub whole : max best (highest set codes heights i (n - i)) ≡ highest set codes heights 0 n

  pub scan_none : Scanned 0 0
  scan_none = let all : n - 0 ≡ n = omega arith in record { whole = rw all (omega arith) }

  pub scan_one : (best i w b : ℕ) → Scanned best i → i < n → w ≡ weight (get_or codes i 0) (get_or heights i 0) set → b ≡ max best w
      → Scanned b (i + 1)
  unfolding highest
  scan_one best i w b s short weighs is =
      let one : n - i ≡ suc (n - suc i) = omega arith in
      let rest = highest set codes heights (suc i) (n - suc i) in
      let here = weight (get_or codes i 0) (get_or heights i 0) set in
      let split : max best (higher rest here) ≡ highest set codes heights 0 n = rw one at s.whole in
      let both : max best (max rest w) ≡ highest set codes heights 0 n =
      rw weighs (ap (λ (m : ℕ). max best m) (max_is rest here) ∙ split) in
      record { whole = rw add-one (omega (arith, both)) }

  pub scanned : (best i : ℕ) → Scanned best i → n ≤ i → best ≡ highest set codes heights 0 n
  unfolding highest
  scanned best i s out = let none_left : n - i ≡ 0 = omega arith in omega (arith, rw none_left at s.whole)

-- the timeslice of the best height, or none
pub some_top : (order : List ℕ) (best i h : ℕ) → best ≡ h → 0 < best → i ≡ turn_of best
    → sought_of (Some (get_or order i 0)) ≡ top_of order h
some_top order zero i h e above at = absurd (omega arith)
some_top order (suc b) i h e above at = rw (sym e, at) refl

pub no_top : (order : List ℕ) (best h : ℕ) → best ≡ h → best ≤ 0 → sought_of None ≡ top_of order h
no_top order best h e none_above = let z : h ≡ 0 = omega arith in rw z refl

-- a number below 8 and a multiple of 8 are got back from their sum
module _ (k l a b : ℕ) (low : k < 8) (low' : l < 8) where
  parts_by : Same k l → Same a b → eqb (k + 8 * a) (l + 8 * b) ≡ cond (eqb k l) (eqb a b) false
  parts_by (equal e t) (equal f u) = rw (t, u) (eq-eqb (k + 8 * a) (l + 8 * b) (omega arith))
  parts_by (equal e t) (different n u) = rw (t, u) (ne_eqb (k + 8 * a) (l + 8 * b) (λ h. n (omega arith)))
  parts_by (different n t) v = rw t (ne_eqb (k + 8 * a) (l + 8 * b) (λ h. n (omega arith)))

  parts : eqb (k + 8 * a) (l + 8 * b) ≡ cond (eqb k l) (eqb a b) false
  parts = parts_by (same k l) (same a b)

few_kinds : (p : Place) → kind_of p < 8
few_kinds Queue = omega arith
few_kinds (Behind t) = omega arith
few_kinds (On n) = omega arith
few_kinds Stalled = omega arith
few_kinds Spent = omega arith

-- different places have different codes
pub in_set : (p s : Place) → eqb (code_of p) (code_of s) ≡ set_of s p
in_set p s = parts (kind_of p) (kind_of s) (number_of p) (number_of s) (few_kinds p) (few_kinds s) ∙ sym (same_place p s)

-- the highest height in a set is that of its topmost timeslice
module _ (ts : List Timeslice) (order : List ℕ) (live : ℕ) (codes heights : List ℕ) (full : length order ≡ 128)
    (r : Coded ts order live codes heights) (s : Place) where
  -- this is the height of timeslice t, at entry i or later
  record Stands (i best t : ℕ) : Type 0 where
    turn_of_lem : ℕ
    later : i ≤ turn_of_lem
    inside : turn_of_lem < entries_of live
    at : get_or order turn_of_lem 0 ≡ t
    stands : best ≡ height_of (priority_at (map slice_of ts) t) turn_of_lem

  abbrev Best : ℕ → ℕ → Option ℕ → Type 0
  Best i best none = best ≡ 0
  Best i best (some t) = Stands i best t

  -- an earlier entry to look from changes nothing
  wider : (i best : ℕ) (o : Option ℕ) → Best (suc i) best o → Best i best o
  wider i best none h = h
  wider i best (some t) h = record {
    turn_of_lem = h.turn_of_lem;
    later = omega (arith, h.later);
    inside = h.inside;
    at = h.at;
    stands =
        h.stands;
  }

  abbrev priority : ℕ → ℕ
  priority t = priority_at (map slice_of ts) t

  -- the timeslice at entry i itself
  here : (i : ℕ) → i < entries_of live → Stands i (height_of (priority (get_or order i 0)) i) (get_or order i 0)
  here i short = record { turn_of_lem = i; later = omega arith; inside = short; at = refl; stands = refl }

  -- an earlier entry of the set has the larger height where its priority is not lower
  pick : (i best : ℕ) (o : Option ℕ) → i < entries_of live → Best (suc i) best o
      → Best i (higher best (height_of (priority (get_or order i 0)) i)) (upper (map slice_of ts) (get_or order i 0) o)
  pick i best none short h =
      let low : ltb best (height_of (priority (get_or order i 0)) i) ≡ true =
      lt-ltb best (height_of (priority (get_or order i 0)) i) (omega arith) in
      rw low (here i short)
  pick i best (some u) short h = go (two (ltb (priority (get_or order i 0)) (priority u)))
    where
      go : Two (ltb (priority (get_or order i 0)) (priority u))
          → Best i (higher best (height_of (priority (get_or order i 0)) i)) (upper (map slice_of ts) (get_or order i 0) (some u))
      go (yes_true e) =
          let lower : ltb best (height_of (priority (get_or order i 0)) i) ≡ false =
          le-ltb best (height_of (priority (get_or order i 0)) i)
          (omega (arith, ltb-true (priority (get_or order i 0)) (priority u) e, h.stands, h.inside)) in
          rw (e, lower) (wider i best (some u) h)
      go (no_false e) =
          let above : ltb best (height_of (priority (get_or order i 0)) i) ≡ true =
          lt-ltb best (height_of (priority (get_or order i 0)) i)
          (omega (arith, ltb-false (priority (get_or order i 0)) (priority u) e, h.stands, h.later, h.inside)) in
          rw (e, above) (here i short)

  -- one entry more
  weigh : (i best : ℕ) (o : Option ℕ) (v : Bool) → i < entries_of live → Best (suc i) best o
      → Best i (higher best (cond v (height_of (priority (get_or order i 0)) i) 0))
      (cond v (upper (map slice_of ts) (get_or order i 0) o) o)
  weigh i best o true short h = pick i best o short h
  weigh i best o false short h = let none_above : ltb best 0 ≡ false = le-ltb best 0 (omega arith) in rw none_above (wider i best o h)

  -- n entries from entry i on
  stands_from : (n i : ℕ) → i + n ≡ entries_of live → Best i (highest (code_of s) codes heights i n)
      (topmost (map slice_of ts) (takes s ts) (drop i (take live order)))
  unfolding highest topmost
  stands_from zero i e = rw (turns_out order live i full (omega arith)) refl
  stands_from (suc n) i e =
      let short : i < entries_of live = omega arith in
      let rest : Best (suc i) (highest (code_of s) codes heights (suc i) n)
      (topmost (map slice_of ts) (takes s ts) (drop (suc i) (take live order))) =
      stands_from n (suc i) (omega arith) in
      let taken : eqb (get_or codes i 0) (code_of s) ≡ takes s ts (get_or order i 0) =
      ap (λ (c : ℕ). eqb c (code_of s)) (r.code i short) ∙ in_set (place_at (map place_of ts) (get_or order i 0)) s in
      rw (turn order live i full short, taken, r.height i short)
      (weigh i (highest (code_of s) codes heights (suc i) n) (topmost (map slice_of ts) (takes s ts) (drop (suc i) (take live order)))
      (takes s ts (get_or order i 0)) short rest)

  -- the entry is got back from the height
  found_by : (best : ℕ) (o : Option ℕ) → Best 0 best o → top_of order best ≡ o
  found_by best none h = rw h refl
  found_by best (some t) h =
      let one : best ≡ suc (best - 1) = omega (arith, h.stands, h.inside) in
      let at : turn_of (suc (best - 1)) ≡ h.turn_of_lem = omega (arith, h.stands, h.inside) in
      ap (top_of order) one ∙ ap some (ap (λ (i : ℕ). get_or order i 0) at ∙ h.at)

  -- so the search through codes and heights is the search that document 01 defines
  pub top_is : top_of order (highest (code_of s) codes heights 0 (entries_of live))
      ≡ topmost (map slice_of ts) (takes s ts) (take live order)
  top_is = found_by (highest (code_of s) codes heights 0 (entries_of live)) (topmost (map slice_of ts) (takes s ts) (take live order))
      (stands_from (entries_of live) 0 (omega arith))
