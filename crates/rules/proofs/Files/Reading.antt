-- Reading at an offset: the record that begins there, and what is left to read. A record is its length byte and as many bytes, and what
-- follows them is read as if it stood alone.
use Prim.Native.Nat.{ℕ, zero, suc, ◌+◌, ◌-◌, ◌<◌, ◌≤◌}
use mathlib.Core.Path.{◌≡◌, refl}
use mathlib.Core.List.{List, [], ◌∷◌}
use mathlib.Core.Bool.{cond}
use mathlib.Core.Option.{Option, none, some}
use native.Mathlib.Omega.{arith}
use native.Mathlib.Numerals.{add-one}
use lib.ListN.{length, get_or, take, drop, length-drop, drop_of_length-le}
use lib.Seq.{drop-cons, drop-drop}
use lib.Dec.{leb}
use borrow.Author.Tests.{leb-true, leb-false, le-leb, lt-leb}
use Rattle.rules.specs.declared.Event.{Event}
use Rattle.rules.specs.EventFile.{event_of, body_of, record_at, joined, events_after, is_none}
use Rattle.rules.proofs.Basics.Views.{Two, yes_true, no_false, two}

-- what a record holds: a kind byte, then its operands
pub body_of_empty : (l : List ℕ) → length l ≡ 0 → body_of l ≡ none
body_of_empty [] h = refl
body_of_empty (kind ∷ operands) h = absurd (omega arith)

pub body_of_kind : (l : List ℕ) → (length l ≡ 0 → ⊥) → body_of l ≡ event_of (get_or l 0 0) (drop 1 l)
body_of_kind [] h = absurd (h refl)
body_of_kind (kind ∷ operands) h = refl

-- the record at an offset inside the bytes: its length byte, then as many bytes, unless they run past the end
record_at_drop :
    (l : List ℕ) (at : ℕ) → at < length l →
    record_at (drop at l) ≡ cond (leb (get_or l at 0) (length l - (at + 1))) (body_of (take (get_or l at 0) (drop (at + 1) l))) none
unfolding record_at
record_at_drop l at h = rw (drop-cons l at 0 h, add-one, length-drop)

pub record_at_past : (l : List ℕ) (at : ℕ) → at < length l → length l - (at + 1) < get_or l at 0 → record_at (drop at l) ≡ none
record_at_past l at h past = rw (record_at_drop l at h, lt-leb _ _ past)

pub record_at_within :
    (l : List ℕ) (at : ℕ) → at < length l → get_or l at 0 ≤ length l - (at + 1) →
    record_at (drop at l) ≡ body_of (take (get_or l at 0) (drop (at + 1) l))
record_at_within l at h within = rw (record_at_drop l at h, le-leb _ _ within)

-- a good record stands inside the bytes
pub record_inside :
    (l : List ℕ) (at : ℕ) (e : Event) → at < length l → record_at (drop at l) ≡ some e → at + 1 + get_or l at 0 ≤ length l
record_inside l at e h r = go (two (leb (get_or l at 0) (length l - (at + 1))))
  where
    go : Two (leb (get_or l at 0) (length l - (at + 1))) → at + 1 + get_or l at 0 ≤ length l
    go (yes_true inside) =
        let within : get_or l at 0 ≤ length l - (at + 1) = leb-true _ _ inside in
        omega arith
    go (no_false out) =
        let past : record_at (drop at l) ≡ none = record_at_past l at h (leb-false _ _ out) in
        let z : ◌≡◌ {A = ℕ} 0 1 = cc in
        absurd (omega arith)

-- bytes that belong to a record already read are skipped
events_after_skip : (k : ℕ) (l : List ℕ) → k ≤ length l → events_after k l ≡ events_after 0 (drop k l)
unfolding events_after
events_after_skip zero l h = refl
events_after_skip (suc k) [] h = absurd (omega arith)
events_after_skip (suc k) (b ∷ rest) h = events_after_skip k rest (omega arith)

-- one record, then the rest: where the record would run past the end, both sides are none
pub events_after_cons :
    (n : ℕ) (rest : List ℕ) → events_after 0 (n ∷ rest) ≡ joined (record_at (n ∷ rest)) (events_after 0 (drop n rest))
unfolding events_after record_at
events_after_cons n rest = go (two (leb n (length rest)))
  where
    go :
        Two (leb n (length rest)) →
        joined (cond (leb n (length rest)) (body_of (take n rest)) none) (events_after n rest)
        ≡ joined (cond (leb n (length rest)) (body_of (take n rest)) none) (events_after 0 (drop n rest))
    go (yes_true e) = rw (events_after_skip n rest (leb-true _ _ e))
    go (no_false e) = rw e

-- the same at an offset
pub events_after_drop :
    (l : List ℕ) (at : ℕ) → at < length l →
    events_after 0 (drop at l) ≡ joined (record_at (drop at l)) (events_after 0 (drop (at + 1 + get_or l at 0) l))
events_after_drop l at h =
    rw (drop-cons l at 0 h, events_after_cons, drop-drop, add-one)

-- at the end nothing is left
pub events_after_end : (l : List ℕ) (at : ℕ) → length l ≤ at → events_after 0 (drop at l) ≡ some []
unfolding events_after
events_after_end l at h = rw (drop_of_length-le l h)

-- after a good record what is left decides
pub is_none_joined : (x : Event) (left : Option (List Event)) → is_none (joined (some x) left) ≡ is_none left
is_none_joined x none = refl
is_none_joined x (some es) = refl

-- reading yields events only where a record is good and the rest reads
pub record Joined (o : Option Event) (later : Option (List Event)) (left : List Event) : Type 0 where
  pub next : Event
  pub rest : List Event
  pub split : left ≡ next ∷ rest
  pub here : o ≡ some next
  pub reads : later ≡ some rest

pub some_joined : (o : Option Event) (later : Option (List Event)) (left : List Event) → joined o later ≡ some left → Joined o later left
some_joined none later left e = let z : ◌≡◌ {A = ℕ} 0 1 = cc in absurd (omega arith)
some_joined (some x) none left e = let z : ◌≡◌ {A = ℕ} 0 1 = cc in absurd (omega arith)
some_joined (some x) (some es) left e = record { next = x; rest = es; split = cc; here = refl; reads = refl }
