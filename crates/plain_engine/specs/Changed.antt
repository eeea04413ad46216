-- An accepted event's changes to the plain engine's machine, before the judging.
use Rattle.std.specs.Prelude.{◌≡◌, true}
use Rattle.rules.specs.declared.Event.{Event}
use Rattle.rules.specs.Sound.{shaped}
use Rattle.rules.specs.Refusals.{refusal}
use Rattle.rules.specs.Plain.{plain_running, update}
use Rattle.plain_engine.specs.declared.PlainMachine.{PlainMachine}
use Rattle.plain_engine.specs.Shown.{plain_shown}

-- the machine is shaped and accepts the event
pub record Takes (e : Event) (m : PlainMachine) : Type 0 where
  pub shape : shaped (plain_shown m) ≡ true
  pub accepted : refusal e (plain_shown m) ≡ 0

-- the event's changes, with what runs left as it was
abbrev pub Changed : Event → PlainMachine → PlainMachine → Type 0
Changed e m r = plain_shown r ≡ plain_running m.running (update e (plain_shown m))
