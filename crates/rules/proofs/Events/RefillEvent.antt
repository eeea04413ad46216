-- Refill: a Spent timeslice joins Queue. Nobody stands Behind a Spent one, and it does not run; all stand as they stood.
use Prim.Native.Nat.{ℕ}
use mathlib.Core.Path.{◌≡◌, sym, ap, ◌∙◌}
use mathlib.Core.Bool.{true, not}
use native.Mathlib.Omega.{arith}
use lib.Dec.{eqb}
use borrow.Author.Tests.{not-false}
use Rattle.rules.specs.declared.Event.TheVariants.{Refill}
use Rattle.rules.specs.Tests.{member}
use Rattle.rules.specs.State.{State, forget, slice_at, left_at, place_at}
use Rattle.rules.specs.Walk.{has_time}
use Rattle.rules.specs.Timeslices.{refilled}
use Rattle.rules.specs.Release.{is_spent}
use Rattle.rules.specs.Refusals.{refusal, above_limit}
use Rattle.rules.specs.Events.{with_refilled, refill}
use Rattle.rules.specs.Plain.{update}
use Rattle.rules.proofs.Basics.Views.{clash}
use Rattle.rules.proofs.Basics.Accepting.{passes}
use Rattle.rules.proofs.Soundness.Places.{Sound}
use Rattle.rules.proofs.Events.Hands.{Handed}
use Rattle.rules.proofs.Events.Joining.{joins_handed}
use Rattle.rules.proofs.Events.Rewrites.{in_table, range}
use Rattle.rules.proofs.Events.Lefts.{left_is, left_changed}

pub refill_handed : (s : State) → Sound s → (t : ℕ) → refusal (Refill t) (forget s) ≡ 0
    → Handed s (refill t s) (update (Refill t) (forget s))
unfolding refill with_refilled refilled
refill_handed s x t e =
    let a = passes (above_limit t) 1 _ e in
    let b = passes (not (member t s.order)) 3 _ a.1 in
    let c = passes (has_time s.slices t) 17 0 b.1 in
    let listed = not-false (member t s.order) b.0 in
    let quantum = (slice_at s.slices t).quantum in
    let none_left : eqb (left_at s.slices t) 0 ≡ true = not-false (eqb (left_at s.slices t) 0) c.0 in
    let spent : is_spent (place_at s.places t) ≡ true = x.mid.placed.spent t listed ∙ none_left in
    joins_handed x (left_changed x.mid t listed quantum (omega arith)) listed
    (λ q _ queued z. clash (is_spent (place_at s.places t)) spent (ap is_spent (sym (ap (place_at s.places) z) ∙ queued)))
    (omega (arith, left_is s.slices t quantum (in_table x.mid t listed), (range x.mid t listed).least))
    (omega arith)
