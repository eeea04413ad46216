-- What is left to ask from this timeslice on gives the whole.
use Prim.Native.Nat.{◌-◌}
use Rattle.rules.specs.Tests.{all}
use Rattle.neighbours.specs.Reading.{turns_read}
use Rattle.neighbours.proofs.Stepping.{Along}
use Rattle.soundness.specs.Parts.{turn_test}
use Rattle.soundness.proofs.each_turn.turns_good.Given as goal

abbrev pub invariant-loop : goal.invariant-loop
invariant-loop l =
    Along (λ ls. all (λ t. turn_test l.threads l.timeslices (turns_read l.after l.live) l.live_threads t) ls) l.after l.live
    (l.end - l.counter) l.t
