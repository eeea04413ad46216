-- Abort: the link of the thread named is cut.
use Prim.Native.Nat.{ℕ}
use mathlib.Core.Path.{◌≡◌, refl, ap}
use mathlib.Core.List.{List}
use mathlib.Core.Bool.{true, false, not}
use native.Mathlib.Omega.{arith}
use borrow.Author.Tests.{not-false}
use Rattle.rules.specs.declared.Hold.{Hold}
use Rattle.rules.specs.declared.Hold.TheVariants.{Ready, Idle, Blocked, Calling, Helping}
use Rattle.rules.specs.declared.Thread.{Thread}
use Rattle.rules.specs.declared.Event.TheVariants.{Abort}
use Rattle.rules.specs.State.{State, forget, hold_at, live_at}
use Rattle.rules.specs.Threads.{aborted}
use Rattle.rules.specs.Refusals.{refusal, above_limit, linked}
use Rattle.rules.specs.Events.{abort}
use Rattle.rules.specs.Plain.{update}
use Rattle.rules.proofs.Basics.Views.{clash}
use Rattle.rules.proofs.Basics.Accepting.{passes}
use Rattle.rules.proofs.Soundness.Shapes.{Sane}
use Rattle.rules.proofs.Soundness.Places.{Sound}
use Rattle.rules.proofs.Tables.Updates.{HoldUpdate, abort_update, abort_help_update}
use Rattle.rules.proofs.Choosing.Changes.{reframed}
use Rattle.rules.proofs.Events.Hands.{Handed}
use Rattle.rules.proofs.Events.Cutting.{CutAt, cut_handed}

-- the thread named has a link
linked_update : (ts : List Thread) (n : ℕ) → Sane ts → (h : Hold) → hold_at ts n ≡ h → linked h ≡ true → HoldUpdate ts (aborted n ts) n Ready
linked_update ts n x Ready e l = clash false l refl
linked_update ts n x Idle e l = clash false l refl
linked_update ts n x Blocked e l = clash false l refl
linked_update ts n x (Calling s) e l = abort_update ts n s x e
linked_update ts n x (Helping s) e l = abort_help_update ts n s x e

pub abort_handed : (s : State) → Sound s → (n : ℕ) → refusal (Abort n) (forget s) ≡ 0 → Handed s (abort n s) (update (Abort n) (forget s))
unfolding abort
abort_handed s x n e =
    let ts = s.threads in
    let a = passes (above_limit n) 1 _ e in
    let b = passes (not (live_at ts n)) 3 _ a.1 in
    let c = passes (not (linked (hold_at ts n))) 9 0 b.1 in
    let link = not-false (linked (hold_at ts n)) c.0 in
    let u = linked_update ts n x.mid.shape.sane (hold_at ts n) refl link in
    let at : CutAt s (aborted n ts) n =
    record {
      threads = reframed x.mid u.update;
      holds = λ m o _. u.others m o;
      gone = λ i _. clash (linked (hold_at ts n)) link (ap linked i);
    } in
    cut_handed x.mid at (not-false (live_at ts n) b.0) (omega arith) (omega (arith, u.update.count)) (omega arith)
    _ refl _ refl
