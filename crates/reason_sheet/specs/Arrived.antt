-- The machine after an event of a file.
use Rattle.std.specs.Prelude.{ℕ, ◌≡◌, List, not, Option, is_some, Some}
use Rattle.rules.specs.Reason.{no_such_event, machine_after}
use Rattle.dispatcher.specs.declared.Machine.{Machine}
use Rattle.dispatcher.specs.Shown.{shown}

pub record Arrived (file : List ℕ) (number : ℕ) (r : Option Machine) : Type 0 where
  pub found : is_some r ≡ not (no_such_event number file)
  pub machine : (m : Machine) → r ≡ Some m → shown m ≡ machine_after number file
