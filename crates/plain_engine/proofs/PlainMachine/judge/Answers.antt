-- Each round is one of the definition's, from the machine that the last one left.
use mathlib.Core.Path.{refl, ap, ◌∙◌}
use Rattle.tables.specs.Sets.{sought_of}
use Rattle.tables.specs.Verdicts.{verdict_of}
use Rattle.plain_engine.proofs.Rounds.{begin, out, nothing_runs_lem, one_runs, one_retries, one_stays}
use Rattle.plain_engine.proofs.PlainMachine.judge.Goals as goal

pub loop-init : goal.loop-init
loop-init c = begin c.args.self.now _ (c.from-end.ensures ∙ c.count_live.ensures)

pub returns-in_default : goal.returns-in_default
returns-in_default c =
    nothing_runs_lem _ _ c.loop.self c.loop.invariant c.loop-test.true _ c.topmost_runnable.ensures (ap sought_of c.in_default.is)

pub returns-in-Runs : goal.returns-in-Runs
returns-in-Runs c =
    one_runs _ _ c.loop.self c.loop.invariant c.loop-test.true _ c.topmost_runnable.ensures _
    (ap sought_of c.in-Some.is) _ c.slice_at.ensures _ c.chain_from-chain.ensures _ c.verdict_of.ensures
    (ap verdict_of c.in-Runs.is)

pub returns-in-Waits : goal.returns-in-Waits
returns-in-Waits c =
    one_stays _ _ c.loop.self c.loop.invariant c.loop-test.true _ c.topmost_runnable.ensures _
    (ap sought_of c.in-Some.is) _ c.slice_at.ensures _ c.chain_from-chain.ensures _ c.verdict_of.ensures
    _ c.in-Waits.is refl

pub loop-preserved : goal.loop-preserved
loop-preserved c =
    one_retries _ _ c.loop.self c.loop.invariant c.loop-test.true _ c.topmost_runnable.ensures _
    (ap sought_of c.in-Some.is) _ c.slice_at.ensures _ c.chain_from-chain.ensures _ c.verdict_of.ensures
    _ (ap verdict_of c.in-Retries.is) c.donated-self.ensures

pub returns : goal.returns
returns c = out _ _ c.loop.self c.loop.invariant c.loop-test.false
