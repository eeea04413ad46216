-- What is left to walk from this thread, with the links that are left, is the whole walk.
use Prim.Native.Nat.{ℕ}
use mathlib.Core.Path.{◌≡◌, sym, ◌∙◌, ap}
use mathlib.Core.List.{List}
use Rattle.rules.specs.declared.Thread.{Thread}
use Rattle.rules.specs.State.{thread_at, hold_at}
use Rattle.tables.proofs.Lookups.{eqb_swap}
use Rattle.tables.proofs.Walks.{start, end, out, calls, helps}
use Rattle.tables.proofs.walk.walk.Goals.{in-Calling, in-Helping, then-helps, else-helps}
use Rattle.tables.proofs.walk.walk.Goals as goal

pub loop-chain-init : goal.loop-chain-init
loop-chain-init c = start _ _ _ _ (eqb_swap c.args.live 0)

-- what the thread that is reached holds
read_at : (ts : List Thread) (t : Thread) (k at : ℕ) → k ≡ at → t ≡ thread_at ts k → t.hold ≡ hold_at ts at
read_at ts t k at e is = ap (λ (t : Thread). t.hold) (rw e at is)

pub returns-in-Ready : goal.returns-in-Ready
returns-in-Ready c =
    let hold = read_at c.args.threads _ _ _ c.from.ensures c.entry_or-thread.ensures in
    end _ _ _ _ _ c.loop-chain.invariant c.loop-chain-test.true _ hold c.in-Ready.is

pub loop-chain-preserved : goal.loop-chain-preserved
loop-chain-preserved c =
    let hold = read_at c.args.threads _ _ _ c.from.ensures c.entry_or-thread.ensures in
    let followed = calls _ _ _ _ _ c.loop-chain.invariant c.loop-chain-test.true in
    let helped = helps _ _ _ _ _ c.loop-chain.invariant c.loop-chain-test.true in
    elim c.match-thread.branch [
      | in-Calling o ↦ elim c.if-helps.branch [
        | then-helps w ↦ absurd (let no = rw o.server-is at w.if-helps.true in cc)
        | else-helps w ↦ rw (w.chain-is, o.server-is) (followed _ (sym o.in-Calling.is ∙ hold))
      ]
      | in-Helping o ↦ elim c.if-helps.branch [
        | then-helps w ↦ rw (w.chain-is, o.server-is) (helped _ (sym o.in-Helping.is ∙ hold))
        | else-helps w ↦ absurd (let no = rw o.server-is at w.if-helps.false in cc)
      ]
    ]

pub returns : goal.returns
returns c = out _ _ _ _ _ c.loop-chain.invariant c.loop-chain-test.false
