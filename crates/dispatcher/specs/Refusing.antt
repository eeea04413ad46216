-- The refusals that several events share: of a number, before anything is done with what has it.
use Rattle.std.specs.Prelude.{ℕ, List, Result, Ok, Err, cond, ltb}
use Rattle.rules.specs.declared.Thread.{Thread}
use Rattle.rules.specs.declared.refusal.Refusal.{Refusal}
use Rattle.rules.specs.declared.refusal.Refusal.TheVariants.{AboveLimit, NotLive}
use Rattle.rules.specs.State.{thread_at}
use Rattle.neighbours.specs.Reading.{is_listed}

-- the live thread of that number: "2 (number above 127), 4 (no such live thread)"
abbrev pub live_thread : ℕ → List Thread → Result Thread Refusal
live_thread n threads = cond (ltb 127 n) (Err AboveLimit) (cond (thread_at threads n).live (Ok (thread_at threads n)) (Err NotLive))

-- the number that refuses a timeslice: "2 (timeslice number) or 4 (no such live timeslice), in that order"
abbrev pub unlisted : ℕ → List ℕ → ℕ
unlisted t after = cond (ltb 127 t) 2 (cond (is_listed after t) 0 4)
