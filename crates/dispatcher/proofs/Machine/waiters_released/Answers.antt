-- Nobody was On the thread, or the topmost of them joined Queue; where there was one only, it is stored in its place.
use mathlib.Core.Path.{sym}
use native.Mathlib.Omega.{arith}
use Rattle.rules.specs.Release.{on_thread, topmost_at}
use Rattle.timeslices.specs.declared.search.Members.TheVariants.{None, One, Several}
use Rattle.timeslices.proofs.Forward.{says_top, says_one}
use Rattle.dispatcher.specs.Shown.{shown}
use Rattle.dispatcher.proofs.Stored.{topmost_fits}
use Rattle.dispatcher.proofs.Settles.{alone_moved, none_released, first_released, freed_exact}
use Rattle.dispatcher.proofs.Machine.waiters_released.Goals as goal

pub bounds-self-from : goal.bounds-self-from
bounds-self-from c =
    omega (
      arith,
      c.from.ensures,
      topmost_fits c.args.self.now c.requires.exact (on_thread c.args.n) _ (sym (says_top _ _ _ c.members_of.ensures (One _) c.in-One.is)),
    )

pub overtaken-requires : goal.overtaken-requires
overtaken-requires c =
    let m = c.args.self.now in
    let top = sym (says_top _ _ _ c.members_of.ensures (One _) c.in-One.is) in
    let one = says_one (topmost_at (on_thread c.args.n) (shown m)) _ _ c.members_of.ensures _ c.in-One.is in
    freed_exact _ m _ _ top (alone_moved c.args.n m c.in-One.q _ c.from.ensures top one) c.requires

pub overtaken-requires-in-Several : goal.overtaken-requires-in-Several
overtaken-requires-in-Several c =
    let top = sym (says_top _ _ _ c.members_of.ensures (Several _) c.in-Several.is) in
    freed_exact _ c.args.self.now _ _ top c.released-self.ensures c.requires

pub returns-in-None : goal.returns-in-None
returns-in-None c = none_released _ _ (sym (says_top _ _ _ c.members_of.ensures None c.in-None.is)) c.requires.exact

pub returns-in-One : goal.returns-in-One
returns-in-One c =
    let m = c.args.self.now in
    let top = sym (says_top _ _ _ c.members_of.ensures (One _) c.in-One.is) in
    let one = says_one (topmost_at (on_thread c.args.n) (shown m)) _ _ c.members_of.ensures _ c.in-One.is in
    first_released _ m _ _ top (alone_moved c.args.n m c.in-One.q _ c.from.ensures top one) _ c.overtaken.ensures

pub returns-in-Several : goal.returns-in-Several
returns-in-Several c =
    let top = sym (says_top _ _ _ c.members_of.ensures (Several _) c.in-Several.is) in
    first_released _ c.args.self.now _ _ top c.released-self.ensures _ c.overtaken-in-Several.ensures
