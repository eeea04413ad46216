-- Threads, turn order and what runs are handed on, and every timeslice without its place.
use Prim.Native.Nat.{ℕ}
use mathlib.Core.Path.{◌≡◌, ◌∙◌, ap, ap₂}
use mathlib.Core.List.{List}
use native.Mathlib.Omega.{arith}
use lib.ListN.{length, take}
use Rattle.std.proofs.Common.{rules}
use Rattle.rules.specs.declared.Slice.{Slice}
use Rattle.rules.specs.State.{forget}
use Rattle.rules.specs.Plain.{plain_timeslices}
use Rattle.tables.specs.Timeslices.{slice_of, free_timeslice}
use Rattle.tables.proofs.Mapping.{mapped}
use Rattle.dispatcher.specs.Shown.{shown}
use Rattle.dispatcher.proofs.Stored.{turns_shown}
use Rattle.two_engines.proofs.without_places.Goals as goal

pub returns : goal.returns
returns c =
    let m = c.args.machine in
    let full : length m.timeslices ≡ 128 = omega arith in
    let slices = mapped _ slice_of _ (λ x y q k. search rules) free_timeslice _ _ _ c.map.ensures.items full in
    let turns = ap (take m.live_timeslices) c.turn_order.ensures ∙ turns_shown m in
    ap₂ (λ (l : List Slice) (order : List ℕ). plain_timeslices l order (forget (shown m))) slices turns
