-- The events of a file that are left from an offset on.
use Rattle.std.specs.Prelude.{ℕ, ◌≤◌, ◌≡◌, List, length, drop}
use Rattle.std.proofs.Math.Option.{some}
use Rattle.rules.specs.declared.Event.{Event}
use Rattle.rules.specs.EventFile.{events_after, or_none}

abbrev pub events_at : ℕ → List ℕ → List Event
events_at at bytes = or_none (events_after 0 (drop at bytes))

-- from the offset on the file reads as these events
pub record Left (bytes : List ℕ) (offset : ℕ) (events : List Event) : Type 0 where
  pub reads : events_after 0 (drop offset bytes) ≡ some events
  pub low : 5 ≤ offset
  pub inside : offset ≤ length bytes
