-- The walk comes first; then its own timeslice is struck out, the thread is removed, and those that waited at the walk's end are released.
use Prim.Native.Nat.{◌-◌}
use mathlib.Core.Path.{◌≡◌, refl, ◌∙◌, ap, ap₂}
use mathlib.Core.List.{List}
use native.Mathlib.Omega.{arith}
use lib.ListN.{length}
use Rattle.rules.specs.declared.Thread.{Thread}
use Rattle.rules.specs.State.{State, live_thread_count, with_threads}
use Rattle.rules.specs.Threads.{removed}
use Rattle.rules.specs.Events.{remove}
use Rattle.rules.proofs.Tables.Removals.{removed_count}
use Rattle.tables.proofs.Walks.{walks}
use Rattle.dispatcher.specs.Shown.{shown}
use Rattle.dispatcher.proofs.Stored.{sound_stored, live_is, stored_with}
use Rattle.dispatcher.proofs.TimesliceChanges.{struck_threads, walked_from}
use Rattle.dispatcher.proofs.ThreadChanges.{few_links}
use Rattle.dispatcher.proofs.Machine.remove_walks.Goals as goal

pub overflow_sub-self : goal.overflow_sub-self
overflow_sub-self c =
    let m = c.args.self.now in
    let one_less = removed_count m.threads c.args.n c.requires.live in
    let same = struck_threads _ (shown m) _ c.own_struck_out.ensures in
    omega (arith, one_less, ap live_thread_count same, live_is _ c.own_struck_out.ensures.exact)

pub settled_after-requires : goal.settled_after-requires
settled_after-requires c =
    let m = c.args.self.now in
    let out = c.own_struck_out.new.self in
    let full : length m.threads ≡ 128 = omega arith in
    let one_less = removed_count m.threads c.args.n c.requires.live in
    let same = struck_threads _ (shown m) _ c.own_struck_out.ensures in
    let fewer : out.live_threads - 1 ≡ live_thread_count c.removed-self.result =
    omega (
      arith,
      one_less,
      ap live_thread_count same,
      live_is _ c.own_struck_out.ensures.exact,
      ap live_thread_count c.removed-self.ensures,
      ap (λ (l : List Thread). live_thread_count (removed c.args.n l)) same,
    ) in
    record {
      exact = stored_with out c.own_struck_out.ensures.exact _ refl refl fewer;
      few = few_links m.threads c.args.n _ full (walks m.threads _ _ _ (live_is m (sound_stored m c.requires.sound)) c.walk-chain.ensures);
    }

pub returns : goal.returns
unfolding remove
returns c =
    let m = c.args.self.now in
    let same = struck_threads _ (shown m) _ c.own_struck_out.ensures in
    let walked = walks m.threads _ _ _ (live_is m (sound_stored m c.requires.sound)) c.walk-chain.ensures in
    let threads = c.removed-self.ensures ∙ ap (λ (l : List Thread). removed c.args.n l) same in
    let shows = ap₂ (λ (ts : List Thread) (s : State). with_threads ts s) threads c.own_struck_out.ensures.state in
    walked_from m.threads c.args.n c.walk-chain.result _ _ _ _ walked c.end_blocked-blocked.ensures shows c.settled_after.ensures
