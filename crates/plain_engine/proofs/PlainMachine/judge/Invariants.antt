-- Each round is one of the definition's, from the machine that the last one left.
use Prim.Native.Nat.{◌-◌}
use Rattle.rules.specs.Plain.{judge}
use Rattle.plain_engine.specs.Shown.{plain_shown}
use Rattle.plain_engine.proofs.Rounds.{Judging}
use Rattle.plain_engine.proofs.PlainMachine.judge.Given as goal

abbrev pub invariant-loop : goal.invariant-loop
invariant-loop l = Judging (judge (plain_shown l.initial.self)) (l.end - l.counter) l.self
