-- Both priorities are read where the timeslices stand; the neighbours decide between equals.
use Prim.Native.Nat.{ℕ}
use mathlib.Core.Path.{◌≡◌, ◌∙◌, ap₂}
use mathlib.Core.Bool.{◌&&◌, ◌||◌}
use native.Mathlib.Omega.{arith}
use lib.ListN.{length}
use lib.Dec.{ltb, eqb}
use Rattle.rules.specs.State.{priority_at}
use Rattle.rules.specs.Order.{earlier, stands_above}
use Rattle.tables.proofs.Lookups.{priority_is, priority_none}
use Rattle.dispatcher.specs.Shown.{shown}
use Rattle.dispatcher.proofs.Machine.stands_above.Goals.{then-j-lt128, else-j-lt128, then-k-lt128, else-k-lt128}
use Rattle.dispatcher.proofs.Machine.stands_above.Goals as goal

pub returns : goal.returns
unfolding stands_above
returns c =
    let m = c.args.self.now in
    let full : length m.timeslices ≡ 128 = omega arith in
    let high : c.if-j-lt128.high ≡ priority_at (shown m).slices c.args.a =
    elim c.if-j-lt128.branch [
      | then-j-lt128 o ↦ priority_is m.timeslices _ _ _ c.from-j.ensures o.high-is
      | else-j-lt128 o ↦ priority_none m.timeslices _ _ _ full c.from-j.ensures o.if-j-lt128.false o.high-is
    ] in
    let low : c.if-k-lt128.low ≡ priority_at (shown m).slices c.args.b =
    elim c.if-k-lt128.branch [
      | then-k-lt128 o ↦ priority_is m.timeslices _ _ _ c.from-k.ensures o.low-is
      | else-k-lt128 o ↦ priority_none m.timeslices _ _ _ full c.from-k.ensures o.if-k-lt128.false o.low-is
    ] in
    c.stands_above.ensures ∙ ap₂ (λ (a b : ℕ). ltb b a || eqb a b && earlier (shown m).order c.args.a c.args.b) high low
