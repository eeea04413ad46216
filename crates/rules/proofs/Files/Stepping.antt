-- Opening and stepping: what each answers, by the test of document 01 that decides it.
use Prim.Native.Nat.{ℕ, zero, suc, ◌+◌, ◌<◌, ◌≤◌}
use mathlib.Core.Path.{◌≡◌, refl, ap, sym, ◌∙◌}
use mathlib.Core.List.{List, ◌∷◌}
use mathlib.Core.Bool.{Bool, true, false, cond, ◌||◌}
use mathlib.Core.Option.{Option, none, some}
use native.Mathlib.Omega.{arith}
use lib.ListN.{length, get_or, drop}
use lib.Dec.{ltb, eqb}
use borrow.Author.Tests.{eq-eqb, ne_eqb, le-ltb, lt-ltb}
use Rattle.rules.specs.declared.Event.{Event}
use Rattle.rules.specs.Refusals.{◌gives◌else◌}
use Rattle.rules.specs.EventFile.{record_at, records_in, is_none, head_refusal, file_refusal_after, file_refusal, opened_as, opened}
use Rattle.rules.specs.EventFile.{events_after, event, end, bad, Stepped, stepped_to, stepped}
use Rattle.rules.proofs.Files.Reading.{events_after_drop, record_inside, some_joined}

-- the head's refusal comes first
head_first : (n : ℕ) (file : List ℕ) → (n ≡ 0 → ⊥) → n ≡ file_refusal_after n file
head_first zero file h = absurd (h refl)
head_first (suc n) file h = refl

pub refused_by_head : (file : List ℕ) (n : ℕ) → n ≡ head_refusal file → (n ≡ 0 → ⊥) → n ≡ file_refusal file
unfolding file_refusal
refused_by_head file n e h = head_first n file h ∙ ap (λ (k : ℕ). file_refusal_after k file) e

pub refused_by_records :
    (file : List ℕ) (n r : ℕ) →
    n ≡ head_refusal file → n ≡ 0 → r ≡ (is_none (records_in file) gives 16 else 0) → r ≡ file_refusal file
unfolding file_refusal
refused_by_records file n r e h records = records ∙ ap (λ (k : ℕ). file_refusal_after k file) (sym h ∙ e)

-- what opening answers to a file's refusal
refused_opens : (n : ℕ) → (n ≡ 0 → ⊥) → record { refusal = n; offset = 0 } ≡ opened_as n
refused_opens zero h = absurd (h refl)
refused_opens (suc n) h = refl

pub opened_refused :
    (file : List ℕ) (n : ℕ) → n ≡ file_refusal file → (n ≡ 0 → ⊥) → record { refusal = n; offset = 0 } ≡ opened file
unfolding opened
opened_refused file n e h = refused_opens n h ∙ ap opened_as e

pub opened_accepted : (file : List ℕ) (n : ℕ) → n ≡ file_refusal file → n ≡ 0 → record { refusal = 0; offset = 5 } ≡ opened file
unfolding opened
opened_accepted file n e h = ap opened_as (sym h ∙ e)

-- a step outside the records: below 5, past the end, at the end
pub stepped_low : (file : List ℕ) (at : ℕ) → at < 5 → record { found = bad; refusal = 16; offset = at } ≡ stepped file at
unfolding stepped
stepped_low file at h = simp (lt-ltb _ _ h)

pub stepped_past : (file : List ℕ) (at : ℕ) → 5 ≤ at → length file < at
    → record { found = bad; refusal = 16; offset = at } ≡ stepped file at
unfolding stepped
stepped_past file at low h = simp (le-ltb _ _ low, lt-ltb _ _ h)

pub stepped_end : (file : List ℕ) (at : ℕ) → 5 ≤ at → at ≡ length file → record { found = end; refusal = 0; offset = at } ≡ stepped file at
unfolding stepped
stepped_end file at low e =
    let h : at ≤ length file = omega arith in
    simp (le-ltb _ _ low, le-ltb _ _ h, eq-eqb _ _ e)

-- a step at a record
pub stepped_at :
    (file : List ℕ) (at : ℕ) → 5 ≤ at → at < length file →
    stepped_to at (at + 1 + get_or file at 0) (record_at (drop at file)) ≡ stepped file at
unfolding stepped
stepped_at file at low h =
    let within : at ≤ length file = omega arith in
    let inside : at ≡ length file → ⊥ = omega arith in
    simp (le-ltb _ _ low, le-ltb _ _ within, ne_eqb _ _ inside)

-- every step is one of three: it reads a record and moves past it, finds the file's end, or is refused with 16; the last two keep the
-- offset
pub data Steps (at next : ℕ) : Stepped → Type 0 where
  reads : (e : Event) → Steps at next (record { found = event e; refusal = 0; offset = next })
  ends : Steps at next (record { found = end; refusal = 0; offset = at })
  refuses : Steps at next (record { found = bad; refusal = 16; offset = at })

-- the tests of a step: outside the records, at the end; then what stands there
abbrev tested : Bool → Bool → ℕ → ℕ → Option Event → Stepped
tested outside ended at next o =
    cond outside (record { found = bad; refusal = 16; offset = at })
    (cond ended (record { found = end; refusal = 0; offset = at }) (stepped_to at next o))

by_tests : (outside ended : Bool) (at next : ℕ) (o : Option Event) → Steps at next (tested outside ended at next o)
by_tests true ended at next o = refuses
by_tests false true at next o = ends
by_tests false false at next none = refuses
by_tests false false at next (some e) = reads e

pub step_is : (file : List ℕ) (at : ℕ) → Steps at (at + 1 + get_or file at 0) (stepped file at)
unfolding stepped
step_is file at =
    by_tests (ltb at 5 || ltb (length file) at) (eqb at (length file)) at (at + 1 + get_or file at 0) (record_at (drop at file))

-- a step finds an event only where a good record begins
picked : (outside ended : Bool) (at next : ℕ) (o : Option Event) (e : Event) → (tested outside ended at next o).found ≡ event e → o ≡ some e
picked true ended at next o e h = let z : ◌≡◌ {A = ℕ} 0 1 = cc in absurd (omega arith)
picked false true at next o e h = let z : ◌≡◌ {A = ℕ} 0 1 = cc in absurd (omega arith)
picked false false at next none e h = let z : ◌≡◌ {A = ℕ} 0 1 = cc in absurd (omega arith)
picked false false at next (some x) e h = cc

pub found_record : (file : List ℕ) (at : ℕ) (e : Event) → (stepped file at).found ≡ event e → record_at (drop at file) ≡ some e
unfolding stepped
found_record file at e h =
    picked (ltb at 5 || ltb (length file) at) (eqb at (length file)) at (at + 1 + get_or file at 0) (record_at (drop at file)) e h

-- at an offset inside the file, where events are left, stands the next one
pub record Ahead (file : List ℕ) (offset : ℕ) (left : List Event) : Type 0 where
  pub next : Event
  pub rest : List Event
  pub split : left ≡ next ∷ rest
  pub step : stepped file offset ≡ record { found = event next; refusal = 0; offset = offset + 1 + get_or file offset 0 }
  pub reads : events_after 0 (drop (offset + 1 + get_or file offset 0) file) ≡ some rest
  pub inside : offset + 1 + get_or file offset 0 ≤ length file

pub ahead :
    (file : List ℕ) (offset : ℕ) (left : List Event) → 5 ≤ offset → offset < length file →
    events_after 0 (drop offset file) ≡ some left → Ahead file offset left
ahead file offset left low h e =
    let next = offset + 1 + get_or file offset 0 in
    let j =
    some_joined (record_at (drop offset file)) (events_after 0 (drop next file)) left (sym (events_after_drop file offset h) ∙ e) in
    record {
      next = j.next;
      rest = j.rest;
      split = j.split;
      step = sym (stepped_at file offset low h) ∙ ap (stepped_to offset next) j.here;
      reads = j.reads;
      inside = record_inside file offset j.next h j.here;
    }
