-- Reading and writing the tables: past the end of a table stands the free value, and past the live entries of the turn order nothing.
use Prim.Native.Nat.{ℕ, zero, suc, ◌-◌, ◌≤◌, ◌<◌}
use mathlib.Core.Path.{◌≡◌, refl, ap, sym, ◌∙◌}
use mathlib.Core.List.{List, [], ◌∷◌, map}
use native.Mathlib.Omega.{arith}
use lib.ListN.{length, get_or, set, take, drop, length-take, drop_of_length-le, get_or-eq_default, get_or-map}
use lib.Seq.{drop-cons, get_or-take, take_all}
use lib.Dec.{leb, eqb}
use borrow.Author.Tests.{leb-true, leb-false, eq-eqb, ne_eqb}
use Rattle.std.specs.List.{list_any}
use Rattle.std.proofs.lemmas.List.{drop-take}
use Rattle.rules.specs.Tests.{member}
use Rattle.rules.specs.declared.Hold.{Hold}
use Rattle.rules.specs.declared.Hold.TheVariants.{Ready}
use Rattle.rules.specs.declared.Thread.{Thread}
use Rattle.rules.specs.declared.Timeslice.{Timeslice}
use Rattle.rules.specs.declared.Slice.{Slice}
use Rattle.rules.specs.State.{free_thread, thread_at, hold_at, owner_at, priority_at, slice_at, place_at}
use Rattle.rules.proofs.Basics.Views.{Two, yes_true, no_false, two, Same, equal, different, same}
use Rattle.tables.specs.Turning.{entries_of}
use Rattle.tables.specs.Timeslices.{slice_of, place_of, free_timeslice}

-- past the end stands the free value
pub past : {A : Type 0} (l : List A) (k i : ℕ) (free : A) → length l ≡ 128 → k ≡ i → 128 ≤ k → get_or l i free ≡ free
past l k i free full e out = get_or-eq_default l free (omega arith)

-- what a stored timeslice shows
pub slice_at_lem : (ts : List Timeslice) (t : ℕ) → slice_at (map slice_of ts) t ≡ slice_of (get_or ts t free_timeslice)
slice_at_lem ts t = get_or-map slice_of ts t free_timeslice

pub place_at_lem : (ts : List Timeslice) (t : ℕ) → place_at (map place_of ts) t ≡ (get_or ts t free_timeslice).place
place_at_lem ts t = get_or-map place_of ts t free_timeslice

-- the map of a table after a store
pub map-set : {A B : Type 0} (f : A → B) (l : List A) (i : ℕ) (a : A) → map f (set l i a) ≡ set (map f l) i (f a)
map-set f [] i a = refl
map-set f (x ∷ l) zero a = refl
map-set f (x ∷ l) (suc i) a = ap (λ m. f x ∷ m) (map-set f l i a)

-- the live entries are the whole turn order
pub entries_are : (l : List ℕ) (live : ℕ) → length l ≡ 128 → length (take live l) ≡ entries_of live
entries_are l live full = rw (length-take live l, full) refl

pub take-entries : (l : List ℕ) (live : ℕ) → length l ≡ 128 → take live l ≡ take (entries_of live) l
take-entries l live full = go (two (leb live 128))
  where
    go : Two (leb live 128) → take live l ≡ take (entries_of live) l
    go (yes_true e) =
        let fits = leb-true live 128 e in
        let all : live ≡ entries_of live = omega arith in
        ap (λ (k : ℕ). take k l) all
    go (no_false e) =
        let past = leb-false live 128 e in
        take_all live l (omega arith) ∙ sym (take_all (entries_of live) l (omega arith))

-- the turn order from entry i on begins with what stands there
pub turn : (l : List ℕ) (live i : ℕ) → length l ≡ 128 → i < entries_of live
    → drop i (take live l) ≡ get_or l i 0 ∷ drop (suc i) (take live l)
turn l live i full short =
    let inside : i < length (take live l) = rw (entries_are l live full) short in
    drop-cons (take live l) i 0 inside ∙ ap (λ (t : ℕ). t ∷ drop (suc i) (take live l)) (get_or-take live l i 0 (omega arith))

-- and ends after the last live one
pub turns_out : (l : List ℕ) (live i : ℕ) → length l ≡ 128 → entries_of live ≤ i → drop i (take live l) ≡ []
turns_out l live i full past = drop_of_length-le (take live l) {i = i} (rw (entries_are l live full) past)

-- the owner of timeslice t, read where there is one
pub owns : (ts : List Timeslice) (k t owner : ℕ) → k ≡ t → owner ≡ (get_or ts k free_timeslice).owner → owner ≡ owner_at (map slice_of ts) t
owns ts k t owner e is =
    is ∙ ap (λ (u : ℕ). (get_or ts u free_timeslice).owner) e ∙ sym (ap (λ (s : Slice). s.owner) (slice_at_lem ts t))

pub owns_none : (ts : List Timeslice) (k t owner : ℕ) → length ts ≡ 128 → k ≡ t → 128 ≤ k → owner ≡ 0
    → owner ≡ owner_at (map slice_of ts) t
owns_none ts k t owner full e out is = owns ts k t owner e
    (is ∙ sym (ap (λ (x : Timeslice). x.owner) (past ts k k free_timeslice full refl out)))

-- what thread n holds likewise
pub thread_read : {A : Type 0} (f : Thread → A) (ts : List Thread) (k n : ℕ) (v : A) → k ≡ n → v ≡ f (thread_at ts k)
    → v ≡ f (thread_at ts n)
thread_read f ts k n v e is = is ∙ ap (λ (j : ℕ). f (thread_at ts j)) e

pub thread_none : {A : Type 0} (f : Thread → A) (ts : List Thread) (k n : ℕ) (v : A) → length ts ≡ 128 → k ≡ n → 128 ≤ k
    → v ≡ f free_thread → v ≡ f (thread_at ts n)
thread_none f ts k n v full e out is = thread_read f ts k n v e (is ∙ sym (ap f (past ts k k free_thread full refl out)))

pub held : (ts : List Thread) (k n : ℕ) (h : Hold) → k ≡ n → h ≡ hold_at ts k → h ≡ hold_at ts n
held ts k n h e is = thread_read (λ (t : Thread). t.hold) ts k n h e is

pub held_none : (ts : List Thread) (k n : ℕ) (h : Hold) → length ts ≡ 128 → k ≡ n → 128 ≤ k → h ≡ Ready → h ≡ hold_at ts n
held_none ts k n h full e out is = thread_none (λ (t : Thread). t.hold) ts k n h full e out is

-- the priority of timeslice t likewise
pub priority_is : (ts : List Timeslice) (k t p : ℕ) → k ≡ t → p ≡ (get_or ts k free_timeslice).priority
    → p ≡ priority_at (map slice_of ts) t
priority_is ts k t p e is =
    is ∙ ap (λ (u : ℕ). (get_or ts u free_timeslice).priority) e ∙ sym (ap (λ (s : Slice). s.priority) (slice_at_lem ts t))

pub priority_none : (ts : List Timeslice) (k t p : ℕ) → length ts ≡ 128 → k ≡ t → 128 ≤ k → p ≡ 0 → p ≡ priority_at (map slice_of ts) t
priority_none ts k t p full e out is = priority_is ts k t p e
    (is ∙ sym (ap (λ (x : Timeslice). x.priority) (past ts k k free_timeslice full refl out)))

-- equality the other way round, and a search by it
pub eqb_swap : (a b : ℕ) → eqb a b ≡ eqb b a
eqb_swap a b = go (same a b)
  where
    go : Same a b → eqb a b ≡ eqb b a
    go (equal e on) = on ∙ sym (eq-eqb b a (sym e))
    go (different e off) = off ∙ sym (ne_eqb b a (λ p. e (sym p)))

pub any_is : (t : ℕ) (l : List ℕ) → list_any (λ u. eqb u t) l ≡ member t l
unfolding member
any_is t [] = refl
any_is t (x ∷ l) = rw (eqb_swap x t, any_is t l) refl

-- the live entries from entry i on, as a part of the table
pub part : (l : List ℕ) (live n i : ℕ) → length l ≡ 128 → n ≡ entries_of live → i ≤ n → take (n - i) (drop i l) ≡ drop i (take live l)
part l live n i full e inside =
    sym (drop-take i (n - i) l) ∙ ap (λ (k : ℕ). drop i (take k l)) (omega arith) ∙ ap (drop i) (sym (take-entries l live full))
