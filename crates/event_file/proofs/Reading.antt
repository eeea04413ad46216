-- The record at an offset, as the code answers it: where it reads none no file reads on, and where it reads one what is left decides.
use Prim.Native.Nat.{ℕ, ◌+◌, ◌-◌, ◌<◌, ◌≤◌}
use mathlib.Core.Path.{◌≡◌, refl, ap, ◌∙◌}
use mathlib.Core.List.{List}
use mathlib.Core.Bool.{true, false}
use mathlib.Core.Logic.{◌⊎◌, inl, inr}
use mathlib.Core.Option.{Option, none, some}
use native.Mathlib.Omega.{arith}
use native.Mathlib.Nat.{sub-zero}
use lib.ListN.{length, get_or, take, drop}
use Rattle.std.specs.Prelude.{Some, None}
use Rattle.std.specs.Prelude as std
use Rattle.std.specs.List.{slice_range}
use Rattle.std.proofs.lemmas.List.{take_rest, length-drop}
use Rattle.rules.specs.declared.Event.{Event}
use Rattle.rules.specs.EventFile.{body_of, record_at, joined, events_after, is_none}
use Rattle.rules.proofs.Files.Reading.{record_at_past, record_at_within, events_after_drop, events_after_end, is_none_joined}
use Rattle.event_file.specs.Answers.{read_as, with_next}

-- the bytes behind a record's length byte, as the code cuts them out
abbrev behind : List ℕ → ℕ → List ℕ
behind l at = take (length l - (at + 1)) (drop (at + 1) l)

-- a record that runs past the end: fewer bytes are behind its length byte than it says
pub past :
    (l : List ℕ) (at n : ℕ) → at < length l → n ≡ get_or l at 0 → (n < 0) ⊎ (length (behind l at) < n) →
    None ≡ with_next (record_at (drop at l)) (at + 1 + get_or l at 0)
past l at n h e (inl below) = absurd (omega arith)
past l at n h e (inr short) =
    let left : length l - (at + 1) < n = rw (take_rest l (at + 1), length-drop) at short in
    let short_of : length l - (at + 1) < get_or l at 0 = omega arith in
    rw (record_at_past l at h short_of)

-- another is its body, read
module _ (l : List ℕ) (at n : ℕ) (body : List ℕ) (h : at < length l) (e : n ≡ get_or l at 0)
    (enough : n ≤ length (behind l at)) (cut : body ≡ slice_range (behind l at) 0 n) where
  read : record_at (drop at l) ≡ body_of body
  read =
      let left : n ≤ length l - (at + 1) = rw (take_rest l (at + 1), length-drop) at enough in
      let enough_of : get_or l at 0 ≤ length l - (at + 1) = omega arith in
      record_at_within l at h enough_of ∙ rw (cut, take_rest l (at + 1), e, sub-zero)

  pub read_none : None ≡ read_as (body_of body) → None ≡ with_next (record_at (drop at l)) (at + 1 + get_or l at 0)
  read_none none_read = rw read (by (body_of body) none_read)
    where
      by : (o : Option Event) → None ≡ read_as o → None ≡ with_next o (at + 1 + get_or l at 0)
      by none same = refl
      by (some x) same = cc

  pub read_one : {x : Event} → Some x ≡ read_as (body_of body)
      → Some (x, at + 1 + n) ≡ with_next (record_at (drop at l)) (at + 1 + get_or l at 0)
  read_one {x} one_read = rw (read, ← e) (by (body_of body) one_read)
    where
      by : (o : Option Event) → Some x ≡ read_as o → Some (x, at + 1 + n) ≡ with_next o (at + 1 + n)
      by none same = cc
      by (some y) same = cc

-- where no record is read the file does not read on
pub ends :
    (l : List ℕ) (at : ℕ) → at < length l → (o : std.Option (Event × ℕ)) → o ≡ with_next (record_at (drop at l)) (at + 1 + get_or l at 0) →
    ((x : Event × ℕ) → o ≡ Some x → ⊥) → is_none (events_after 0 (drop at l)) ≡ true
ends l at h o e none_read = rw (events_after_drop l at h) (by (record_at (drop at l)) e)
  where
    by : (r : Option Event) → o ≡ with_next r (at + 1 + get_or l at 0) →
        is_none (joined r (events_after 0 (drop (at + 1 + get_or l at 0) l))) ≡ true
    by none same = refl
    by (some x) same = absurd (none_read _ same)

-- where one is read, what is left after it decides
pub record GoesOn (l : List ℕ) (at next : ℕ) : Type 0 where
  pub further : at < next
  pub same : is_none (events_after 0 (drop at l)) ≡ is_none (events_after 0 (drop next l))

pub goes_on :
    (l : List ℕ) (at : ℕ) → at < length l → (x : Event × ℕ) → Some x ≡ with_next (record_at (drop at l)) (at + 1 + get_or l at 0) →
    GoesOn l at x.1
goes_on l at h x e = by (record_at (drop at l)) (events_after_drop l at h) e
  where
    place : std.Option (Event × ℕ) → ℕ
    place None = 0
    place (Some y) = y.1

    by : (r : Option Event) → events_after 0 (drop at l) ≡ joined r (events_after 0 (drop (at + 1 + get_or l at 0) l)) →
        Some x ≡ with_next r (at + 1 + get_or l at 0) → GoesOn l at x.1
    by none split same = let z : ◌≡◌ {A = ℕ} 0 1 = cc in absurd (omega arith)
    by (some y) split same =
        let next : x.1 ≡ at + 1 + get_or l at 0 = ap place same in
        record { further = omega arith; same = rw (split, next) (is_none_joined y _) }

-- at the end nothing is left
pub ended : (l : List ℕ) (at : ℕ) → length l ≤ at → is_none (events_after 0 (drop at l)) ≡ false
ended l at h = ap is_none (events_after_end l at h)
