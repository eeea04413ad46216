-- Records in a buffer.
use Rattle.std.specs.Prelude.{ℕ, ◌≤◌, ◌≡◌, List, length, take, drop}
use Rattle.rules.specs.declared.Event.{Event}
use Rattle.rules.specs.EventFile.{records_of}
use Rattle.event_file.specs.Left.{events_at}

-- the records of these events, and nothing else, stand from a place on
pub record Stand (bytes : List ℕ) (at : ℕ) (es : List Event) : Type 0 where
  pub low : 5 ≤ at
  pub inside : at ≤ length bytes
  pub whole : drop at bytes ≡ records_of es

-- records stand between the first two places, and from the third on
pub record Apart (bytes : List ℕ) (from to at : ℕ) : Type 0 where
  pub front : Stand (take to bytes) from (events_at from (take to bytes))
  pub order : to ≤ at
  pub rear : Stand bytes at (events_at at bytes)
