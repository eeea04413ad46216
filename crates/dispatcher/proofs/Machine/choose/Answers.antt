-- Each look runs its timeslice or hands a machine to the next look, with which the rest of the choice is the whole.
use mathlib.Core.Path.{◌≡◌, refl, ap, ◌∙◌}
use native.Mathlib.Omega.{arith}
use Rattle.rules.specs.declared.Place.{Place}
use Rattle.rules.specs.declared.Place.TheVariants.{Queue}
use Rattle.rules.specs.State.{hold_at}
use Rattle.tables.specs.Sets.{set_of}
use Rattle.tables.proofs.Lookups.{held, held_none}
use Rattle.timeslices.proofs.Searches.{coded_by, ordered_by}
use Rattle.timeslices.proofs.Recodings.{freed_none, freed_some}
use Rattle.dispatcher.proofs.ChoiceLoop.{begin, tops_queue, looks_within, looks_up, out, runs_none, runs_at, goes_on, as_laid}
use Rattle.dispatcher.proofs.ChoiceLoop.{put_aside, none_queued, Unreleased, unreleased_retry, unreleased_aside}
use Rattle.dispatcher.proofs.Machine.choose.Goals.{in-Retries, in-Waits, then-e-lt128, else-e-lt128}
use Rattle.dispatcher.proofs.Machine.choose.Goals.{in-Some-release_set, in_default-release_set}
use Rattle.dispatcher.proofs.Machine.choose.Goals as goal

pub loop-init : goal.loop-init
loop-init c =
    let m = c.args.self.now in
    let order = ordered_by m.after m.live_timeslices _ _ refl c.fill.ensures.ordered in
    let codes = coded_by m.timeslices m.after m.live_timeslices _ _ _ _ _ _ refl refl refl c.fill.ensures.ordered c.fill.ensures.coded
    c.fill.ensures.measured in
    begin _ _ _ _ _ c.requires (omega arith) (omega arith) (omega (arith, c.from-end.ensures)) _ order.1 order.0 codes

pub returns-in_default : goal.returns-in_default
returns-in_default c =
    let i = c.loop.invariant in
    runs_none _ _ _ _ _ _ _ _ _ i _ (omega (arith, c.loop-test.true)) (tops_queue _ _ _ _ _ _ _ _ _ i _ c.top_of.ensures) c.in_default.is

pub bounds-self-k : goal.bounds-self-k
bounds-self-k c =
    omega (arith, c.from-k.ensures, looks_within _ _ _ _ _ _ _ _ _ c.loop.invariant _ _ c.top_of.ensures c.in-Some.is)

pub bounds-self-k-in-Waits : goal.bounds-self-k-in-Waits
bounds-self-k-in-Waits c =
    omega (arith, c.from-k.ensures, looks_within _ _ _ _ _ _ _ _ _ c.loop.invariant _ _ c.top_of.ensures c.in-Some.is)

pub returns-in-Runs : goal.returns-in-Runs
returns-in-Runs c =
    let i = c.loop.invariant in
    let stands : c.if-e-lt128.hold ≡ hold_at c.loop.self.threads c.walk-chain.result.end =
    elim c.if-e-lt128.branch [
      | then-e-lt128 o ↦ held c.loop.self.threads _ _ _ c.from-e.ensures o.hold-is
      | else-e-lt128 o ↦ held_none c.loop.self.threads _ _ _ i.threads c.from-e.ensures o.if-e-lt128.false o.hold-is
    ] in
    let look = looks_up _ _ _ _ _ _ _ _ _ i _ _ _ _ _ _ c.top_of.ensures c.in-Some.is c.from-k.ensures c.walk-chain.ensures stands
    c.judged-verdict.ensures in
    runs_at _ _ _ _ _ _ _ _ _ i _ _ _ (omega (arith, c.loop-test.true)) (omega (arith, c.from-followed.ensures))
    (rw c.in-Runs.is at look)

pub loop-preserved : goal.loop-preserved
loop-preserved c =
    let i = c.loop.invariant in
    let m = c.loop.self in
    let live = c.args.self.now.live_timeslices in
    let order = c.fill.new.order in
    let said = c.judged-verdict.result in
    let now = c.match-verdict.self in
    let after = c.match-verdict.codes in
    let stands : c.if-e-lt128.hold ≡ hold_at m.threads c.walk-chain.result.end =
    elim c.if-e-lt128.branch [
      | then-e-lt128 o ↦ held m.threads _ _ _ c.from-e.ensures o.hold-is
      | else-e-lt128 o ↦ held_none m.threads _ _ _ i.threads c.from-e.ensures o.if-e-lt128.false o.hold-is
    ] in
    let look = looks_up _ _ _ _ _ _ _ _ _ i _ _ _ _ _ _ c.top_of.ensures c.in-Some.is c.from-k.ensures c.walk-chain.ensures stands
    c.judged-verdict.ensures in
    let inside = looks_within _ _ _ _ _ _ _ _ _ i _ _ c.top_of.ensures c.in-Some.is in
    let before_it : Unreleased m live order c.in-Some.t c.walk-chain.result said now after c.fill.new.heights =
    elim c.match-verdict.branch [
      | in-Retries o ↦
          unreleased_retry m live order _ _ i.coded _ _ said now after o.in-Retries.is _ o.donated-self.ensures o.self-is o.codes-is
      | in-Waits o ↦
          unreleased_aside m live order _ _ i.coded _ _ said now after (search) o.aside-place.result o.aside-place.ensures
          (put_aside m live order _ _ i.coded i.timeslices _ _ c.from-k.ensures o.aside-place.result now after
          (omega (arith, c.from-k.ensures, inside)) o.self-is _ o.code.ensures _ o.codes-is o.park_codes.ensures)
    ] in
    elim c.match-release_set.branch [
      | in-Some-release_set o ↦
          let queued = ap (λ (p : Place). set_of p Queue) c.freed_by-set.ensures ∙ none_queued said _ _ in
          let free = freed_some now.timeslices _ _ _ _ _ c.freed_by-set.result c.release_set.result i.entries before_it.coded
          c.release_set.ensures.topmost c.release_set.ensures.released _ _ queued o.in-Some-release_set.is
          (as_laid _ _ _ _ _ _ _ _ _ i _ _ _ _ _ before_it _ _ _ o.released-self.ensures) in
          rw o.self-is
          (goes_on _ _ _ _ _ _ _ _ _ i _ (omega (arith, c.loop-test.true)) _ _ _ said now _ _ _ (omega (arith, c.from-followed.ensures))
          look before_it (rw c.freed_by-set.ensures at free))
      | in_default-release_set o ↦
          let free = freed_none now.timeslices _ _ _ _ _ c.freed_by-set.result c.release_set.result i.entries before_it.coded
          c.release_set.ensures.topmost c.release_set.ensures.released o.in_default-release_set.is in
          rw o.self-is
          (goes_on _ _ _ _ _ _ _ _ _ i _ (omega (arith, c.loop-test.true)) _ _ _ said now _ _ now.timeslices
          (omega (arith, c.from-followed.ensures)) look before_it (rw c.freed_by-set.ensures at free))
    ]

pub returns : goal.returns
returns c = out _ _ _ _ _ _ _ _ _ c.loop.invariant (omega (arith, c.loop-test.false))
