-- What the refusals ask of the thread or the timeslice that an event names.
use Rattle.std.specs.Prelude.{ℕ, cond, Result, Ok, Err}
use Rattle.rules.specs.declared.Thread.{Thread}
use Rattle.rules.specs.declared.Slice.{Slice}
use Rattle.rules.specs.declared.refusal.Refusal.{Refusal}
use Rattle.rules.specs.declared.refusal.Refusal.TheVariants.{AboveLimit, NotLive}
use Rattle.rules.specs.Tests.{member}
use Rattle.rules.specs.State.{Plain, thread_at, live_at, slice_at}
use Rattle.rules.specs.Refusals.{above_limit}

-- "2 (number above 127)", "4 (no such live thread)"
abbrev pub live_thread : ℕ → Plain → Result Thread Refusal
live_thread n p = cond (above_limit n) (Err AboveLimit) (cond (live_at p.threads n) (Ok (thread_at p.threads n)) (Err NotLive))

-- "2 (timeslice number)", "4 (no such live timeslice)"
abbrev pub live_timeslice : ℕ → Plain → Result Slice Refusal
live_timeslice t p = cond (above_limit t) (Err AboveLimit) (cond (member t p.order) (Ok (slice_at p.slices t)) (Err NotLive))
