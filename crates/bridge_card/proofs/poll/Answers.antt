-- No block, no line, an accepted wake, a refused one.
use mathlib.Core.Path.{◌≡◌}
use mathlib.Core.Bool.{true, false}
use Rattle.std.proofs.Common.{rules}
use Rattle.std.specs.Prelude.{is_ok}
use Rattle.bridge_card.proofs.Polling.{poll_20, poll_22, poll_held, poll_accepted, one_of_eight}
use Rattle.bridge_card.proofs.poll.Goals as goal

pub returns-in-Err : goal.returns-in-Err
returns-in-Err c = poll_20 c.args.block.now c.args.machine c.in-Err.refusal c.in-Err.ensures

pub returns-in_default-line_to_take : goal.returns-in_default-line_to_take
returns-in_default-line_to_take c = poll_22 c.args.block.now c.args.machine c.in_default.ensures c.in_default-line_to_take.ensures

pub thread_of-requires-clause-one_of_eight : goal.thread_of-requires-clause-one_of_eight
thread_of-requires-clause-one_of_eight c = one_of_eight c.args.block.now c.in-Some.line c.in-Some.ensures

pub without_bit-requires : goal.without_bit-requires
without_bit-requires c = one_of_eight c.args.block.now c.in-Some.line c.in-Some.ensures

pub returns-then-is_ok : goal.returns-then-is_ok
returns-then-is_ok c =
    let accepted : is_ok c.wake-woken.result.answer ≡ true = search rules in
    poll_accepted c.args.block.now c.args.machine c.in_default.ensures c.in-Some.ensures c.thread_of.ensures c.wake-woken.result.answer
    c.without_bit.result accepted c.wake-woken.ensures c.without_bit.ensures

pub returns-else-is_ok : goal.returns-else-is_ok
returns-else-is_ok c =
    let held : is_ok c.wake-woken.result.answer ≡ false = search rules in
    poll_held c.args.block.now c.args.machine c.in_default.ensures c.in-Some.ensures c.thread_of.ensures c.wake-woken.result.answer held
    c.wake-woken.ensures
