-- Codes stay those of the timeslices when a timeslice is put aside and when a set is released.
use Prim.Native.Nat.{ℕ, zero, suc, ◌≤◌, ◌<◌}
use mathlib.Core.Path.{◌≡◌, refl, sym, ◌∙◌, ap, subst}
use mathlib.Core.List.{List, [], ◌∷◌, map}
use mathlib.Core.Bool.{Bool, true, false, cond}
use native.Mathlib.Omega.{arith}
use lib.ListN.{length, get_or, set, take, length-map, get_or-eq_default}
use lib.Seq.{get_or-set_same, get_or-set_other, get_or-take, map-set_same}
use lib.Dec.{eqb}
use Rattle.rules.specs.declared.Place.{Place}
use Rattle.rules.specs.declared.Place.TheVariants.{Queue, Behind}
use Rattle.rules.specs.declared.Timeslice.{Timeslice}
use Rattle.rules.specs.declared.Slice.{Slice}
use Rattle.rules.specs.State.{free_place, priority_at, place_at}
use Rattle.rules.specs.Order.{topmost}
use Rattle.rules.specs.Release.{released_place, released_places}
use Rattle.rules.proofs.Basics.Views.{Two, yes_true, no_false, two, Same, equal, different, same}
use Rattle.std.specs.Prelude as std
use Rattle.std.specs.Prelude.{Some, None}
use Rattle.tables.specs.Timeslices.{with_place, slice_of, place_of, free_timeslice}
use Rattle.tables.specs.Sets.{set_of, sought_of}
use Rattle.timeslices.specs.Releasing.{places_after, Replaced}
use Rattle.tables.specs.Turning.{entries_of}
use Rattle.timeslices.specs.Searching.{takes}
use Rattle.timeslices.specs.Codes.{code_of, height_of, highest, top_of, parked_code, released_code, Recoded, ReleasedCodes, Coded}
use Rattle.tables.proofs.Lookups.{map-set, entries_are}
use Rattle.timeslices.proofs.ReleaseLoop.{nobody, somebody}
use Rattle.timeslices.proofs.Searches.{in_set, top_is}

-- the place of timeslice u after timeslice t is put at p
place_put : (ps : List Place) (t u : ℕ) (p : Place) → t < length ps → place_at (set ps t p) u ≡ cond (eqb u t) p (place_at ps u)
place_put ps t u p inside = go (same u t)
  where
    go : Same u t → place_at (set ps t p) u ≡ cond (eqb u t) p (place_at ps u)
    go (equal e is) = rw (is, e) (get_or-set_same ps t p free_place inside)
    go (different n isnt) = rw isnt (get_or-set_other ps t u p free_place n)

-- the code of one of two places
code_cond : (b : Bool) (p q : Place) → code_of (cond b p q) ≡ cond b (code_of p) (code_of q)
code_cond true p q = refl
code_cond false p q = refl

-- parking a timeslice and its codes
pub park_coded : (ts : List Timeslice) (order : List ℕ) (live : ℕ) (codes after heights : List ℕ) (k t c : ℕ) (p : Place) → length ts ≡ 128
    → Coded ts order live codes heights → k ≡ t → k < 128 → c ≡ code_of p → Recoded (parked_code t c) order live codes after
    → Coded (set ts k (with_place p (get_or ts k free_timeslice))) order live after heights
park_coded ts order live codes after heights k t c p full r e inside is ch =
    let y = with_place p (get_or ts k free_timeslice) in
    let slices : map slice_of (set ts k y) ≡ map slice_of ts = map-set_same slice_of ts k y free_timeslice refl in
    let places : map place_of (set ts k y) ≡ set (map place_of ts) t p =
    map-set place_of ts k y ∙ ap (λ (j : ℕ). set (map place_of ts) j p) e in
    let low : t < length (map place_of ts) = rw length-map (omega arith) in
    record {
      full = ch.size ∙ r.full;
      code = λ i short.
          ch.each i short (omega (arith, r.full))
          ∙ rw (is, r.code i short) refl
          ∙ sym (code_cond (eqb (get_or order i 0) t) p (place_at (map place_of ts) (get_or order i 0)))
          ∙ ap code_of (sym (place_put (map place_of ts) t (get_or order i 0) p low))
          ∙ ap (λ (ps : List Place). code_of (place_at ps (get_or order i 0))) (sym places);
      height = λ i short. r.height i short ∙ ap (λ (ss : List Slice). height_of (priority_at ss (get_or order i 0)) i) (sym slices);
    }

-- what is put at t is read at t, if past the end it is Queue
read_put : (ps : List Place) (t : ℕ) (p : Place) → (length ps ≤ t → p ≡ Queue) → place_at (set ps t p) t ≡ p
read_put [] t p h = sym (h (omega arith))
read_put (x ∷ ps) zero p h = refl
read_put (x ∷ ps) (suc t) p h = read_put ps t p (λ out. h (omega arith))

-- the places after a release; a place past the end is Queue, which the release does not take
module _ (at : Place → Bool) (q : ℕ) (no-queue : at Queue ≡ false) where
  -- to move a place twice is to move it once
  twice : (t : ℕ) (p : Place) → released_place at q t (released_place at q t p) ≡ released_place at q t p
  twice t p = go (two (at p))
    where
      again : (x : Place) (b : Bool) → cond b x x ≡ x
      again x true = refl
      again x false = refl

      go : Two (at p) → released_place at q t (released_place at q t p) ≡ released_place at q t p
      go (yes_true e) = rw e (again (cond (eqb t q) Queue (Behind q)) (at (cond (eqb t q) Queue (Behind q))))
      go (no_false e) = rw (e, e) refl

  abbrev move : ℕ → Place → Place
  move t p = released_place at q t p

  -- the place of t after t is moved
  moved_here : (ps : List Place) (t : ℕ) → place_at (set ps t (move t (place_at ps t))) t ≡ move t (place_at ps t)
  moved_here ps t = read_put ps t (move t (place_at ps t)) (λ out. rw (get_or-eq_default ps free_place out, no-queue) refl)

  -- moving timeslice u first changes nothing of where t is moved
  moved_once : (ps : List Place) (u t : ℕ) → move t (place_at (set ps u (move u (place_at ps u))) t) ≡ move t (place_at ps t)
  moved_once ps u t = go (same t u)
    where
      go : Same t u → move t (place_at (set ps u (move u (place_at ps u))) t) ≡ move t (place_at ps t)
      go (equal e is) = rw e (ap (move u) (moved_here ps u) ∙ twice u (place_at ps u))
      go (different n isnt) = ap (move t) (get_or-set_other ps u t (move u (place_at ps u)) free_place n)

  -- a place that would not be moved is kept
  kept_once : (ps : List Place) (u t : ℕ) → move t (place_at ps t) ≡ place_at ps t
      → place_at (set ps u (move u (place_at ps u))) t ≡ place_at ps t
  kept_once ps u t e = go (same t u)
    where
      go : Same t u → place_at (set ps u (move u (place_at ps u))) t ≡ place_at ps t
      go (equal this is) = rw (sym this) (moved_here ps t ∙ e)
      go (different n isnt) = get_or-set_other ps u t (move u (place_at ps u)) free_place n

  -- through the whole turn order
  kept : (l : List ℕ) (ps : List Place) (t : ℕ) → move t (place_at ps t) ≡ place_at ps t
      → place_at (released_places at q l ps) t ≡ place_at ps t
  unfolding released_places
  kept [] ps t e = refl
  kept (u ∷ l) ps t e =
      let once = kept_once ps u t e in
      kept l (set ps u (move u (place_at ps u))) t (ap (move t) once ∙ e ∙ sym once) ∙ once

  -- every listed timeslice is moved
  moves : (l : List ℕ) (ps : List Place) (i : ℕ) → i < length l
      → place_at (released_places at q l ps) (get_or l i 0) ≡ move (get_or l i 0) (place_at ps (get_or l i 0))
  unfolding released_places
  moves [] ps i inside = absurd (omega arith)
  moves (u ∷ l) ps zero inside =
      let here = moved_here ps u in
      kept l (set ps u (move u (place_at ps u))) u (ap (move u) here ∙ twice u (place_at ps u) ∙ sym here) ∙ here
  moves (u ∷ l) ps (suc i) inside = moves l (set ps u (move u (place_at ps u))) i (omega arith) ∙ moved_once ps u (get_or l i 0)

-- the code of a place after a release is the released code
released_code_lem : (p s : Place) (q u : ℕ) → released_code (code_of s) q (code_of (Behind q)) u (code_of p) ≡ code_of
    (released_place (set_of s) q u p)
released_code_lem p s q u = rw (in_set p s) (go (set_of s p) (eqb u q))
  where
    go : (b d : Bool) → cond b (cond d 0 (code_of (Behind q))) (code_of p) ≡ code_of (cond b (cond d Queue (Behind q)) p)
    go true true = refl
    go true false = refl
    go false d = refl

-- the search of a set by its code c, and the release of the codes
module _ (order codes heights : List ℕ) (live : ℕ) (s : Place) (c : ℕ) (f : std.Option ℕ) (is : c ≡ code_of s)
    (e : sought_of f ≡ top_of order (highest c codes heights 0 (entries_of live))) where
  pub codes_none : f ≡ None
      → (sought_of None ≡ top_of order (highest (code_of s) codes heights 0 (entries_of live))) × ReleasedCodes s order live codes codes
      None
  codes_none at = (sym (ap sought_of at) ∙ rw is at e, refl)

  pub codes_some : (q b : ℕ) (after : List ℕ) → f ≡ Some q → b ≡ code_of (Behind q) → Recoded (released_code c q b) order live codes after
      → (sought_of (Some q) ≡ top_of order (highest (code_of s) codes heights 0 (entries_of live))) × ReleasedCodes s order live codes after
      (Some q)
  codes_some q b after at behind ch = (sym (ap sought_of at) ∙ rw is at e, rw (is, behind) at ch)

-- a set of timeslices and its codes after a release
pub record Freed (s : Place) (ts : List Timeslice) (order : List ℕ) (live : ℕ) (us : List Timeslice) (codes heights : List ℕ) : Type 0 where
  pub replaced : Replaced ts (places_after (set_of s) (map slice_of ts) (take live order) (map place_of ts)) us
  pub coded : Coded us order live codes heights

-- a release of the set whose search found f: an empty set changes nothing
module _ (ts : List Timeslice) (order : List ℕ) (live : ℕ) (codes after heights : List ℕ) (s : Place) (f : std.Option ℕ)
    (full : length order ≡ 128)
    (r : Coded ts order live codes heights) (e : sought_of f ≡ top_of order (highest (code_of s) codes heights 0 (entries_of live)))
    (ch : ReleasedCodes s order live codes after f) where
  top : sought_of f ≡ topmost (map slice_of ts) (takes s ts) (take live order)
  top = e ∙ top_is ts order live codes heights full r s

  pub freed_none : f ≡ None → Freed s ts order live ts after heights
  freed_none is =
      let same_codes : after ≡ codes = subst (λ (g : std.Option ℕ). ReleasedCodes s order live codes after g) is ch in
      record {
        replaced = record { slices = refl; places = nobody (set_of s) (map slice_of ts) (take live order) (map place_of ts) f top is };
        coded = rw same_codes r;
      }

  pub freed_some : (q : ℕ) (us : List Timeslice) → set_of s Queue ≡ false → f ≡ Some q
      → Replaced ts (released_places (set_of s) q (take live order) (map place_of ts)) us → Freed s ts order live us after heights
  freed_some q us no-queue is re =
      let changed : Recoded (released_code (code_of s) q (code_of (Behind q))) order live codes after =
      subst (λ (g : std.Option ℕ). ReleasedCodes s order live codes after g) is ch in
      record {
        replaced = record {
          slices = re.slices;
          places = re.places
              ∙ somebody (set_of s) (map slice_of ts) (take live order) (map place_of ts) f top q is;
        };
        coded = record {
          full = changed.size ∙ r.full;
          code = λ i short.
              let u = get_or order i 0 in
              let p = place_at (map place_of ts) u in
              let listed : get_or (take live order) i 0 ≡ u = get_or-take live order i 0 (omega arith) in
              let inside : i < length (take live order) = rw (entries_are order live full) short in
              let moved : place_at (released_places (set_of s) q (take live order) (map place_of ts)) u ≡ released_place (set_of s) q u p =
              rw listed at (moves (set_of s) q no-queue (take live order) (map place_of ts) i inside) in
              changed.each i short (omega (arith, r.full))
              ∙ rw (r.code i short) (released_code_lem p s q u)
              ∙ ap code_of (sym moved)
              ∙ ap (λ (ps : List Place). code_of (place_at ps u)) (sym re.places);
          height = λ i short. r.height i short ∙ ap (λ (ss : List Slice). height_of (priority_at ss (get_or order i 0)) i) (sym re.slices);
        };
      }
