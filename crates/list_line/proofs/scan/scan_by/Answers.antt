-- From the place reached on the scan ends where it ends from the first place on.
use mathlib.Core.Path.{refl, sym, ◌∙◌}
use native.Mathlib.Omega.{arith}
use Rattle.list_line.proofs.Scans.{stops_here, goes_on, is_over}
use Rattle.list_line.proofs.scan.scan_by.Goals as goal

pub loop-i-init : goal.loop-i-init
loop-i-init g c = record { ends = λ test computes. refl; within = omega arith }

pub returns-then-stops : goal.returns-then-stops
returns-then-stops g c = λ test computes.
    let said = sym (computes _ _ c.stops.ensures) ∙ c.if-stops.true in
    omega (arith, c.loop-i.invariant.ends test computes, stops_here test c.args.text.now c.loop-i.i c.loop-i-test.true said)

pub loop-i-preserved : goal.loop-i-preserved
loop-i-preserved g c =
    record {
      ends = λ test computes.
          let said = sym (computes _ _ c.stops.ensures) ∙ c.if-stops.false in
          omega (arith, c.loop-i.invariant.ends test computes, goes_on test c.args.text.now c.loop-i.i c.loop-i-test.true said);
      within = omega (arith, c.loop-i-test.true);
    }

pub returns : goal.returns
returns g c = λ test computes.
    omega (
      arith,
      c.loop-i.invariant.ends test computes,
      c.loop-i.invariant.within,
      is_over test c.args.text.now c.loop-i.i c.loop-i-test.false,
      c.max.ensures,
      c.loop-i.auto.i,
      c.loop-i-test.false,
    )
