-- The threads written and those that are left make the whole; the line ends at a thread without a link, or where no link may be followed.
use Rattle.std.proofs.Common.{rules, None}
use Prim.Native.Nat.{suc, ◌-◌, ◌+◌}
use native.Mathlib.Omega.{arith}
use mathlib.Core.Path.{◌≡◌, sym, ap, ◌∙◌}
use Rattle.rules.specs.declared.Thread.{Thread}
use Rattle.rules.specs.Key.{bytes}
use Rattle.text.proofs.Putting.{begin, more, finish}
use Rattle.reason_sheet.proofs.Chains.{line_out, line_ends, line_goes_on, found_none, found_one}
use Rattle.reason_sheet.proofs.chain.put_later.Goals.{else-loop-test, then-loop-test+in_default}
use Rattle.reason_sheet.proofs.chain.put_later.Goals as goal

pub loop-preserved : goal.loop-preserved
loop-preserved c =
    let one : c.args.links - c.loop.counter ≡ suc (c.args.links - (c.loop.counter + 1)) = omega (arith, c.loop-test.true) in
    let link = found_one _ c.linked_thread.ensures c.in-Some.is in
    more c.loop.invariant _ c.put_next-place.ensures
    (line_goes_on (c.args.links - c.loop.counter) (c.args.links - (c.loop.counter + 1)) one c.args.threads c.loop.n
    (ap (λ (t : Thread). t.hold) c.thread_at.ensures) link.0 link.1)

pub returns : goal.returns
unfolding bytes
returns c =
    elim c.loop-test.branch [
      | else-loop-test w ↦
          finish c.loop.invariant c.put_byte.ensures
          (line_out (c.args.links - c.loop.counter) c.args.threads c.loop.n (omega (arith, w.loop-test.false)))
      | then-loop-test+in_default w ↦
          let one : c.args.links - c.loop.counter ≡ suc (c.args.links - (c.loop.counter + 1)) = omega (arith, w.loop-test.true) in
          let none : w.linked_thread.result ≡ None = search rules in
          finish c.loop.invariant c.put_byte.ensures
          (line_ends (c.args.links - c.loop.counter) (c.args.links - (c.loop.counter + 1)) one c.args.threads c.loop.n
          (ap (λ (t : Thread). t.hold) w.thread_at.ensures) (found_none _ w.linked_thread.ensures none))
    ]
