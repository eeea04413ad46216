-- The clauses asked of every number and of every timeslice are together document 01's test: each side implies the other.
use Prim.Native.Nat.{ℕ, ◌<◌}
use mathlib.Core.Path.{◌≡◌, refl, sym, ◌∙◌, ap}
use mathlib.Core.List.{List, map}
use mathlib.Core.Option.{Option, none, some}
use mathlib.Core.Bool.{Bool, true, false, ◌&&◌, ◌||◌}
use lib.ListN.{length, take, length-map}
use lib.Dec.{leb, ltb, eqb}
use borrow.Author.Tests.{eqb-true, eq-eqb}
use Rattle.rules.specs.declared.Chain.{Chain}
use Rattle.rules.specs.declared.Place.{Place}
use Rattle.rules.specs.declared.Place.TheVariants.{Queue, Behind, On, Stalled, Spent}
use Rattle.rules.specs.declared.Thread.{Thread}
use Rattle.rules.specs.declared.Timeslice.{Timeslice}
use Rattle.rules.specs.declared.Running.{Running}
use Rattle.rules.specs.declared.Running.TheVariants.{Nothing, Runs}
use Rattle.rules.specs.Tests.{member, distinct, all, below}
use Rattle.rules.specs.State.{State, forget, limit, thread_at, hold_at, service_at, live_at, owner_at, slice_at, left_at, place_at}
use Rattle.rules.specs.State.{live_thread_count}
use Rattle.rules.specs.Walk.{walk, walk_from, chain_of, no_links}
use Rattle.rules.specs.Release.{in_queue, topmost_at}
use Rattle.rules.specs.Sound.{call_is_served, served_is_calling, link_good, idle_good, thread_free, slice_free, in_range, place_good}
use Rattle.rules.specs.Sound.{spent_good, shaped, placed, settled_on, settled, sound}
use Rattle.rules.proofs.Basics.Views.{and_true_left, and_true_right, and_true_both, and3, and4, and5}
use Rattle.rules.proofs.Basics.Members.{all_at, all_of, below_at, below_of}
use Rattle.rules.proofs.Soundness.Shapes.{clauses, from_clauses}
use Rattle.tables.specs.Timeslices.{slice_of, place_of}
use Rattle.neighbours.specs.Sides.{Sides, sentinel, room}
use Rattle.neighbours.specs.Reading.{turns_read, laid_out}
use Rattle.neighbours.proofs.Stepping.{take-laid}
use Rattle.neighbours.specs.Forming.{leads_back, entries_free, forms_list}
use Rattle.soundness.specs.Parts.{parts_of, owners_in, stored_parts, sound_parts, thread_test, slot_test, number_test, chain_within}
use Rattle.soundness.specs.Parts.{place_test, turn_test, settled_by, settled_within}

-- two tests that imply each other are the same
pub same_test : (a b : Bool) → (a ≡ true → b ≡ true) → (b ≡ true → a ≡ true) → a ≡ b
same_test true b f g = sym (f refl)
same_test false true f g = g refl
same_test false false f g = refl

-- places do not depend on what runs
place_running : (threads : List Thread) (ts : List Timeslice) (turns : List ℕ) (now : Running) (t : ℕ) (c : Chain) (p : Place)
    → place_good (parts_of threads ts turns Nothing) t c p ≡ place_good (parts_of threads ts turns now) t c p
place_running threads ts turns now t c Queue = refl
place_running threads ts turns now t c (Behind q) = refl
place_running threads ts turns now t c (On n) = refl
place_running threads ts turns now t c Stalled = refl
place_running threads ts turns now t c Spent = refl

-- what settles a state, whichever way it is asked
settled_on_lem : (s : State) (o : Option ℕ) (now : Running)
    → settled_by s.threads (λ q. chain_of s.threads s.slices q) now o ≡ settled_on s o now
settled_on_lem s none Nothing = refl
settled_on_lem s none (Runs n t count) = refl
settled_on_lem s (some q) Nothing = refl
settled_on_lem s (some q) (Runs n t count) = refl

module _ (threads : List Thread) (ts : List Timeslice) (sides : Sides) (lives live : ℕ) (now : Running) where
  abbrev turns : List ℕ
  turns = turns_read sides.after live

  abbrev s : State
  s = parts_of threads ts turns now

  abbrev owners : List ℕ
  owners = map (λ t. owner_at (map slice_of ts) t) turns

  -- what the code joins
  abbrev counted : Bool
  counted = eqb lives (live_thread_count threads)

  abbrev list : Bool
  list = leads_back live sides sentinel

  abbrev numbers : Bool
  numbers = below limit (λ n. number_test threads ts sides turns n)

  abbrev places : Bool
  places = all (λ t. turn_test threads ts turns lives t) turns

  abbrev pub joined : Bool
  joined = counted && leb live limit && list && numbers && places && distinct turns && distinct owners
      && settled_within lives threads ts turns now

  -- one clause of one number or timeslice
  abbrev calling : ℕ → Bool
  calling n = call_is_served threads n (hold_at threads n) && served_is_calling threads n (service_at threads n)

  abbrev linking : ℕ → Bool
  linking n = link_good threads n (hold_at threads n)

  abbrev idling : ℕ → Bool
  idling n = idle_good (thread_at threads n)

  abbrev freed : ℕ → Bool
  freed n = live_at threads n || thread_free (thread_at threads n)

  abbrev unlisted : ℕ → Bool
  unlisted t = member t turns || slice_free (slice_at (map slice_of ts) t)

  abbrev unplaced : ℕ → Bool
  unplaced t = member t turns || in_queue (place_at (map place_of ts) t)

  abbrev numbered : ℕ → Bool
  numbered t = ltb t limit

  abbrev owned : ℕ → Bool
  owned t = live_at threads (owner_at (map slice_of ts) t)

  abbrev ranged : ℕ → Bool
  ranged t = in_range (slice_at (map slice_of ts) t)

  abbrev truly : ℕ → Bool
  truly t = place_good s t (chain_of threads (map slice_of ts) t) (place_at (map place_of ts) t)

  abbrev timed : ℕ → Bool
  timed t = spent_good (left_at (map slice_of ts) t) (place_at (map place_of ts) t)

  -- with a true L the chains are document 01's
  chains : lives ≡ live_thread_count threads → (t : ℕ) → chain_within lives threads ts t ≡ chain_of threads (map slice_of ts) t
  unfolding walk
  chains e t = ap (λ (k : ℕ). walk_from k threads (owner_at (map slice_of ts) t) no_links) e

  place_tests : lives ≡ live_thread_count threads → (t : ℕ)
      → place_test threads ts turns lives t ≡ place_good s t (chain_of threads (map slice_of ts) t) (place_at (map place_of ts) t)
  place_tests e t =
      place_running threads ts turns now t (chain_within lives threads ts t) (place_at (map place_of ts) t)
      ∙ ap (λ (c : Chain). place_good s t c (place_at (map place_of ts) t)) (chains e t)

  settles : lives ≡ live_thread_count threads → settled_within lives threads ts turns now ≡ settled s
  unfolding settled walk
  settles e =
      ap (λ (k : ℕ). settled_by threads (chain_within k threads ts) now (topmost_at in_queue s)) e
      ∙ settled_on_lem s (topmost_at in_queue s) now

  module _ (full : length threads ≡ 128) (long : length ts ≡ 128) (befores : length sides.before ≡ room)
      (afters : length sides.after ≡ room) where
    slots : eqb (length (map slice_of ts)) limit ≡ true
    slots = eq-eqb (length (map slice_of ts)) limit (length-map ts slice_of ∙ long)

    -- from what the code joins to document 01's test
    to_sound : joined ≡ true → sound_parts threads ts sides lives live now ≡ true
    unfolding sound_parts sound placed
    to_sound e =
        let settling = settled_within lives threads ts turns now in
        let x = and5 (counted && leb live limit && list && numbers) places (distinct turns) (distinct owners) settling e in
        let y = and4 counted (leb live limit) list numbers x.0 in
        let lived = eqb-true lives (live_thread_count threads) y.0 in
        let number : (n : ℕ) → n < limit → (entries_free sides turns n ≡ true) × (thread_test threads n ≡ true) ×
        (slot_test ts turns n ≡ true) =
        λ n h. and3 (entries_free sides turns n) (thread_test threads n) (slot_test ts turns n)
        (below_at (λ k. number_test threads ts sides turns k) limit y.3 n h) in
        let thread : (n : ℕ) → n < limit → (calling n ≡ true) × (linking n ≡ true) × (idling n ≡ true) × (freed n ≡ true) =
        λ n h. and4 (calling n) (linking n) (idling n) (freed n) (number n h).1 in
        let turn : (t : ℕ) → member t turns ≡ true
        → (numbered t ≡ true) × (owned t ≡ true) × (ranged t ≡ true) × (place_test threads ts turns lives t ≡ true)
        × (timed t ≡ true) =
        λ t h. and5 (numbered t) (owned t) (ranged t) (place_test threads ts turns lives t) (timed t)
        (all_at (λ u. turn_test threads ts turns lives u) turns x.1 t h) in
        let shape = from_clauses (forget s) record {
          tables = and_true_both (eqb (length threads) limit) _ (eq-eqb (length threads) limit full) slots;
          turns = and_true_both _ (distinct turns) (all_of numbered turns (λ t h. (turn t h).0)) x.2;
          owners = and_true_both _ (distinct owners) (all_of owned turns (λ t h. (turn t h).1)) x.3;
          ranges = all_of ranged turns (λ t h. (turn t h).2);
          calls = below_of calling limit (λ n h. (thread n h).0);
          links = below_of linking limit (λ n h. (thread n h).1);
          idles = below_of idling limit (λ n h. (thread n h).2);
          free =
              and_true_both _ _ (below_of freed limit (λ n h. (thread n h).3))
              (below_of unlisted limit (λ t h. and_true_left (unlisted t) (unplaced t) (number t h).2));
        } in
        let free-entries = below_of (λ t. entries_free sides turns t) limit (λ n h. (number n h).0) in
        let sized = and_true_both _ _ (eq-eqb (length sides.before) room befores) (eq-eqb (length sides.after) room afters) in
        let forms = and_true_both _ _ (and_true_both _ _ (and_true_both _ _ sized y.1) y.2) free-entries in
        let stored = and_true_both counted (forms_list sides live) y.0 forms in
        let listed = all_of truly turns (λ t h. sym (place_tests lived t) ∙ (turn t h).3) in
        let exact = all_of timed turns (λ t h. (turn t h).4) in
        let free = below_of unplaced limit (λ t h. and_true_right (unlisted t) (unplaced t) (number t h).2) in
        let placed-all = eq-eqb (length (map place_of ts)) limit (length-map ts place_of ∙ long) in
        let places-true = and_true_both (eqb (length (map place_of ts)) limit) _ placed-all listed in
        let put = and_true_both _ _ (and_true_both _ (all timed turns) places-true exact) free in
        and_true_both (stored_parts threads sides lives live) _ stored
        (and_true_both _ (settled s) (and_true_both (shaped (forget s)) _ shape put) (sym (settles lived) ∙ x.4))

    -- and back
    from_sound : sound_parts threads ts sides lives live now ≡ true → joined ≡ true
    unfolding sound_parts sound placed
    from_sound e =
        let stored = and_true_left (stored_parts threads sides lives live) (sound s) e in
        let counts-true = and_true_left counted (forms_list sides live) stored in
        let forms =
        and5 (eqb (length sides.before) room) (eqb (length sides.after) room) (leb live limit) list
        (below limit (λ t. entries_free sides turns t)) (and_true_right counted (forms_list sides live) stored) in
        let lived = eqb-true lives (live_thread_count threads) counts-true in
        let every = eqb (length (map place_of ts)) limit in
        let held = every && all truly turns && all timed turns && below limit unplaced in
        let parts = and3 (shaped (forget s)) held (settled s) (and_true_right (stored_parts threads sides lives live) (sound s) e) in
        let shape = clauses (forget s) parts.0 in
        let put = and4 every (all truly turns) (all timed turns) (below limit unplaced) parts.1 in
        let thread : (n : ℕ) → n < limit → thread_test threads n ≡ true =
        λ n h. and_true_both (calling n && linking n && idling n) (freed n)
        (and_true_both (calling n && linking n) (idling n)
        (and_true_both (calling n) (linking n) (below_at calling limit shape.calls n h) (below_at linking limit shape.links n h))
        (below_at idling limit shape.idles n h))
        (below_at freed limit (and_true_left (below limit freed) (below limit unlisted) shape.free) n h) in
        let slot : (t : ℕ) → t < limit → slot_test ts turns t ≡ true =
        λ t h. and_true_both (unlisted t) (unplaced t)
        (below_at unlisted limit (and_true_right (below limit freed) (below limit unlisted) shape.free) t h)
        (below_at unplaced limit put.3 t h) in
        let number : (n : ℕ) → n < limit → number_test threads ts sides turns n ≡ true =
        λ n h. and_true_both (entries_free sides turns n && thread_test threads n) (slot_test ts turns n)
        (and_true_both (entries_free sides turns n) (thread_test threads n) (below_at (λ t. entries_free sides turns t) limit forms.4 n h)
        (thread n h))
        (slot n h) in
        let turn : (t : ℕ) → member t turns ≡ true → turn_test threads ts turns lives t ≡ true =
        λ t h. and_true_both (numbered t && owned t && ranged t && place_test threads ts turns lives t) (timed t)
        (and_true_both (numbered t && owned t && ranged t) (place_test threads ts turns lives t)
        (and_true_both (numbered t && owned t) (ranged t)
        (and_true_both (numbered t) (owned t)
        (all_at numbered turns (and_true_left (all numbered turns) (distinct turns) shape.turns) t h)
        (all_at owned turns (and_true_left (all owned turns) (distinct owners) shape.owners) t h))
        (all_at ranged turns shape.ranges t h))
        (place_tests lived t ∙ all_at truly turns put.1 t h))
        (all_at timed turns put.2 t h) in
        let counts = and_true_both counted (leb live limit) counts-true forms.2 in
        let leads = and_true_both (counted && leb live limit) list counts forms.3 in
        let all-numbers = and_true_both (counted && leb live limit && list) numbers leads
        (below_of (λ n. number_test threads ts sides turns n) limit number) in
        let all-turns = and_true_both _ places all-numbers (all_of (λ t. turn_test threads ts turns lives t) turns turn) in
        let once = and_true_both _ (distinct turns) all-turns (and_true_right (all numbered turns) (distinct turns) shape.turns) in
        let apart = and_true_both _ (distinct owners) once (and_true_right (all owned turns) (distinct owners) shape.owners) in
        and_true_both _ _ apart (settles lived ∙ parts.2)

    pub whole : joined ≡ sound_parts threads ts sides lives live now
    whole = same_test joined (sound_parts threads ts sides lives live now) to_sound from_sound

    -- as the code joins them, with the turn order laid out
    pub whole_laid : (order : List ℕ) (r : Bool) → order ≡ laid_out sides.after live
        → r ≡ (counted && leb live limit && list && numbers && places && distinct (take live order)
        && distinct (owners_in ts (take live order)) && settled_within lives threads ts turns now)
        → r ≡ sound_parts threads ts sides lives live now
    whole_laid order r laid e =
        let front : take live order ≡ turns = ap (take live) laid ∙ take-laid sides.after live in
        rw front at e ∙ whole
