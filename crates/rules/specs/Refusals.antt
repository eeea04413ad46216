-- Document 01, "Refusals, operation by operation", and the numbers of document 02, after the refusal 1 of an unsound machine. Both
-- machines refuse by these.
use Rattle.std.specs.Prelude.{ℕ, Bool, true, false, cond, not, ◌||◌, ltb, eqb}
use Rattle.std.proofs.Math.Option.{Option, none, some}
use Rattle.rules.specs.declared.Event.{Event}
use Rattle.rules.specs.declared.Event.TheVariants.{Create, Give, Call, Reply, Block, Wake, Charge, Abort, Refill, Remove, Rank}
use Rattle.rules.specs.Tests.{member}
use Rattle.rules.specs.State.{Plain, hold_at, live_at, left_at, nothing_runs, running_thread, current_timeslice}
pub use Rattle.rules.specs.Holds.{linked}
use Rattle.rules.specs.Holds.{is_blocked, server_at}
use Rattle.rules.specs.Walk.{has_time}
use Rattle.rules.specs.Timeslices.{own_of}

-- the first fitting number; 0 for none
infixr 20 ◌gives◌else◌
abbrev pub ◌gives◌else◌ : Bool → ℕ → ℕ → ℕ
fits gives number else rest = cond fits number rest

abbrev pub above_limit : ℕ → Bool
above_limit n = ltb 127 n

abbrev pub is_one : Option ℕ → Bool
is_one none = false
is_one (some t) = true

abbrev pub owns_one : Plain → ℕ → Bool
owns_one p n = is_one (own_of p.slices n p.order)

abbrev pub refusal : Event → Plain → ℕ
refusal (Create n r) p = above_limit n gives 2 else live_at p.threads n gives 3 else 0
refusal (Give t n priority quantum) p =
    above_limit t || above_limit n gives 2 else
    member t p.order gives 3 else
    not (live_at p.threads n) gives 4 else
    owns_one p n gives 13 else
    eqb quantum 0 gives 12 else 0
refusal (Call s) p =
    nothing_runs p.running gives 5 else
    above_limit s gives 2 else
    not (live_at p.threads s) gives 4 else
    not (server_at p.threads s) gives 6 else
    eqb s (running_thread p.running) gives 7 else 0
refusal Reply p =
    nothing_runs p.running gives 5 else
    not (server_at p.threads (running_thread p.running)) gives 8 else 0
refusal Block p = nothing_runs p.running gives 5 else 0
refusal (Wake n) p =
    above_limit n gives 2 else
    not (live_at p.threads n) gives 4 else
    not (is_blocked (hold_at p.threads n)) gives 9 else 0
refusal (Charge units) p =
    nothing_runs p.running gives 5 else
    eqb units 0 || ltb (left_at p.slices (current_timeslice p.running)) units gives 11 else 0
refusal (Abort n) p =
    above_limit n gives 2 else
    not (live_at p.threads n) gives 4 else
    not (linked (hold_at p.threads n)) gives 10 else 0
-- Refill, document 02, [2]: "18, refill of a live timeslice that is not Spent, after 1, 2 and 4, where 4 means no such live timeslice"
refusal (Refill t) p =
    above_limit t gives 2 else
    not (member t p.order) gives 4 else
    has_time p.slices t gives 18 else 0
-- Remove, document 02, [3]: "Refused with 1, 2 or 4, in that order."
refusal (Remove n) p =
    above_limit n gives 2 else
    not (live_at p.threads n) gives 4 else 0
-- Rank, document 02, [4]: "Refused with 1, 2 (timeslice number) or 4 (no such live timeslice), in that order."
refusal (Rank t priority) p =
    above_limit t gives 2 else
    not (member t p.order) gives 4 else 0
