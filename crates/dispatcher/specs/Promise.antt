-- What every event's answer promises.
use Rattle.std.specs.Prelude.{ℕ, ◌≡◌, Result}
use Rattle.rules.specs.Events as events
use Rattle.rules.specs.declared.refusal.Refusal.{Refusal}
use Rattle.rules.specs.RefusalNumbers.{number_in, links_in}
use Rattle.dispatcher.specs.declared.Machine.{Machine}
use Rattle.dispatcher.specs.Shown.{shown, stored}

-- the machine after an event, with the answer: the refusal number, 0 for none, and the links followed
pub record Answered : Type 0 where
  pub machine : Machine
  pub refusal : ℕ
  pub links : ℕ

-- what a method leaves of the machine, with what it gives
abbrev pub answered : Machine → Result ℕ Refusal → Answered
answered m r = record { machine = m; refusal = number_in r; links = links_in r }

-- the answer and the machine after it are those of the definition; a refusal hands back the machine as given
pub record Answers (a : events.Answered) (m : Machine) (r : Answered) : Type 0 where
  pub refusal : r.refusal ≡ a.refusal
  pub links : r.links ≡ a.links
  pub state : shown r.machine ≡ a.state
  pub exact : stored r.machine ≡ stored m
  pub kept : (r.refusal ≡ 0 → ⊥) → r.machine ≡ m
