-- What the plain engine's answer to an event promises.
use Rattle.std.specs.Prelude.{ℕ, ◌≡◌, Result}
use Rattle.rules.specs.declared.refusal.Refusal.{Refusal}
use Rattle.rules.specs.Plain.{PlainAnswered}
use Rattle.rules.specs.RefusalNumbers.{number_in}
use Rattle.plain_engine.specs.declared.PlainMachine.{PlainMachine}
use Rattle.plain_engine.specs.Shown.{plain_shown}

-- an answer: the machine after the event, with the refusal number, 0 for none
pub record Answered : Type 0 where
  pub machine : PlainMachine
  pub refusal : ℕ

abbrev pub answered : {A : Type 0} → PlainMachine → Result A Refusal → Answered
answered m r = record { machine = m; refusal = number_in r }

-- the refusal number and the machine after it are those of the definition; a refusal hands back the machine as given
pub record PlainAnswers (a : PlainAnswered) (m : PlainMachine) (r : Answered) : Type 0 where
  pub refusal : r.refusal ≡ a.refusal
  pub plain : plain_shown r.machine ≡ a.plain
  pub kept : (r.refusal ≡ 0 → ⊥) → r.machine ≡ m
