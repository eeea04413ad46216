-- Give: a new timeslice, last in turn order and in Queue. Nobody stands Behind it, and the others stand as they stood.
use Prim.Native.Nat.{ℕ, ◌<◌, ◌≤◌}
use mathlib.Core.Path.{◌≡◌, ap, ◌∙◌}
use mathlib.Core.Bool.{true, false, not, ◌||◌}
use native.Mathlib.Omega.{arith}
use lib.ListN.{length-set}
use lib.Seq.{get_or-set_same, get_or-set_other}
use lib.Dec.{eqb}
use borrow.Author.Tests.{ltb-false, le-leb, eqb-false, not-false}
use Rattle.rules.specs.declared.Event.TheVariants.{Give}
use Rattle.rules.specs.Tests.{member}
use Rattle.rules.specs.declared.Slice.{Slice}
use Rattle.rules.specs.State.{State, forget, limit, free_slice, live_at, slice_at, owner_at, left_at}
use Rattle.rules.specs.Timeslices.{given, last}
use Rattle.rules.specs.Sound.{in_range}
use Rattle.rules.specs.Refusals.{refusal, above_limit, owns_one}
use Rattle.rules.specs.Events.{with_given, give}
use Rattle.rules.specs.Plain.{update}
use Rattle.rules.proofs.Basics.Views.{clash, or_false_left}
use Rattle.rules.proofs.Order.Owners.{none_owned}
use Rattle.rules.proofs.Order.Orders.{above_last, member_last, member_last_other, distinct_last, length_last}
use Rattle.rules.proofs.Soundness.Places.{Sound}
use Rattle.rules.proofs.Basics.Accepting.{passes}
use Rattle.rules.proofs.Choosing.Slices.{Retimed}
use Rattle.rules.proofs.Events.Hands.{Handed}
use Rattle.rules.proofs.Events.Joining.{joins_handed}

-- the record of a new timeslice: "left = quantum"
abbrev new_slice : ℕ → ℕ → ℕ → Slice
new_slice n priority quantum = record { owner = n; priority = priority; quantum = quantum; left = quantum }

-- what an accepted Give says of its operands
record Fresh (s : State) (t n priority quantum : ℕ) : Type 0 where
  small : t < limit
  unlisted : member t s.order ≡ false
  live : live_at s.threads n ≡ true
  owns_none : (u : ℕ) → member u s.order ≡ true → owner_at s.slices u ≡ n → ⊥
  low : priority ≤ 255
  short : quantum ≤ 65535
  least : 1 ≤ quantum

fresh : (s : State) (t n priority quantum : ℕ) → (priority ≤ 255) × (quantum ≤ 65535)
    → refusal (Give t n priority quantum) (forget s) ≡ 0 → Fresh s t n priority quantum
fresh s t n priority quantum ranges e =
    let small = passes (above_limit t || above_limit n) 1 _ e in
    let unlisted = passes (member t s.order) 2 _ small.1 in
    let live = passes (not (live_at s.threads n)) 3 _ unlisted.1 in
    let owns = passes (owns_one (forget s) n) 12 _ live.1 in
    let nonzero = eqb-false quantum 0 (passes (eqb quantum 0) 11 0 owns.1).0 in
    record {
      small = omega (arith, ltb-false 127 t (or_false_left (above_limit t) (above_limit n) small.0));
      unlisted = unlisted.0;
      live = not-false (live_at s.threads n) live.0;
      owns_none = none_owned s.slices n s.order owns.0;
      low = ranges.0;
      short = ranges.1;
      least = omega arith;
    }

-- the machine with the new timeslice
module _ {s : State} (x : Sound s) {t n priority quantum : ℕ} (f : Fresh s t n priority quantum) where
  -- the new table, read at a number
  given_now : slice_at (given t n priority quantum s.slices) t ≡ new_slice n priority quantum
  unfolding given
  given_now = get_or-set_same s.slices t (new_slice n priority quantum) free_slice (rw x.mid.shape.turns.full f.small)

  given_others : (u : ℕ) → (u ≡ t → ⊥) → slice_at (given t n priority quantum s.slices) u ≡ slice_at s.slices u
  unfolding given
  given_others u d = get_or-set_other s.slices t u (new_slice n priority quantum) free_slice d

  given_range : in_range (slice_at (given t n priority quantum s.slices) t) ≡ true
  given_range =
      let all : quantum ≤ quantum = omega arith in
      ap in_range given_now
      ∙ rw (le-leb priority 255 f.low, le-leb 1 quantum f.least, le-leb quantum 65535 f.short, le-leb quantum quantum all)

  -- the new timeslice is a change of one
  given_retimed : Retimed s.threads s.slices (given t n priority quantum s.slices) s.order (last t s.order) t
  unfolding given
  given_retimed =
      let is-owner : owner_at (given t n priority quantum s.slices) t ≡ n = ap (λ (y : Slice). y.owner) given_now in
      record {
        full = length-set s.slices t (new_slice n priority quantum);
        once = distinct_last t s.order f.unlisted x.mid.shape.turns.once;
        small = f.small;
        range = λ _. given_range;
        live = λ _. rw is-owner f.live;
        own = λ _ u h d e. f.owns_none u h (e ∙ is-owner);
        gone = λ n. clash (member t (last t s.order)) (member_last t s.order) n;
        listed = λ u d. member_last_other t u s.order d;
        others = given_others;
        above = above_last s.slices t s.order;
      }

-- nobody stands Behind a timeslice that was not listed, and none that runs is it
pub give_handed : (s : State) → Sound s → (t n priority quantum : ℕ) → (priority ≤ 255) × (quantum ≤ 65535)
    → refusal (Give t n priority quantum) (forget s) ≡ 0
    → Handed s (give t n priority quantum s) (update (Give t n priority quantum) (forget s))
unfolding give with_given
give_handed s x t n priority quantum f e =
    let g = fresh s t n priority quantum f e in
    let left : left_at (given t n priority quantum s.slices) t ≡ quantum = ap (λ (y : Slice). y.left) (given_now x g) in
    joins_handed x (given_retimed x g) (member_last t s.order)
    (λ q h _ z. clash (member t s.order) (rw z at h) g.unlisted)
    (omega (arith, left, g.least))
    (omega (arith, length_last t s.order))
