-- Document 02, [13], "Shares of the watch": what the program `shares` prints.
use Rattle.std.specs.Prelude.{ℕ, zero, suc, ◌+◌, ◌*◌, ◌/◌, ◌%◌, List, [], ◌∷◌, ◌++◌, map, Bool, cond, eqb}
use Rattle.rules.specs.declared.Running.{Running}
use Rattle.rules.specs.declared.Running.TheVariants.{Nothing, Runs}
use Rattle.rules.specs.declared.Event.{Event}
use Rattle.rules.specs.declared.Event.TheVariants.{Create, Give, Call, Reply, Block, Wake, Charge, Abort, Refill, Remove, Rank}
use Rattle.rules.specs.Tests.{member, filter}
use Rattle.rules.specs.State.{empty, limit}
use Rattle.rules.specs.Lists.{run, Seen, seen}
use Rattle.rules.specs.EventFile.{file_refusal, events_of}
use Rattle.rules.specs.Key.{bytes, decimal, file_line}

-- an accepted charge: the timeslice that pays, and the units
pub record Payment : Type 0 where
  pub timeslice : ℕ
  pub units : ℕ

-- the timeslice that was current when the charge came pays; while nothing runs, none does
abbrev pub paid_by : Running → ℕ → List Payment
paid_by Nothing units = []
paid_by (Runs n t count) units = record { timeslice = t; units = units } ∷ []

-- of all events, the charges
abbrev pub charged_to : Running → Event → List Payment
charged_to r (Create n role) = []
charged_to r (Give t n priority quantum) = []
charged_to r (Call server) = []
charged_to r Reply = []
charged_to r Block = []
charged_to r (Wake n) = []
charged_to r (Charge units) = paid_by r units
charged_to r (Abort n) = []
charged_to r (Refill t) = []
charged_to r (Remove n) = []
charged_to r (Rank t priority) = []

-- "accepted charges": by the event's refusal number
abbrev pub paid : ℕ → Running → Event → List Payment
paid zero r e = charged_to r e
paid (suc number) r e = []

-- "summed from the accepted charge events of the list, not from the machine": from the events and what is seen after each, the key's
-- columns; r is what runs before the first of them
unfoldable pub payments : Running → List Event → List Seen → List Payment
payments r [] l = []
payments r (e ∷ es) [] = []
payments r (e ∷ es) (a ∷ l) = paid a.refusal r e ++ payments a.running es l

abbrev pub payments_of : List Event → List Payment
payments_of es = payments Nothing es (map seen (run es empty))

-- "units charged": all of the number's, so "A number given again after a removal keeps adding."
unfoldable pub units_of : ℕ → List Payment → ℕ
units_of t [] = 0
units_of t (p ∷ ps) = cond (eqb t p.timeslice) (p.units + units_of t ps) (units_of t ps)

-- "The total"
unfoldable pub total : List Payment → ℕ
total [] = 0
total (p ∷ ps) = p.units + total ps

-- "each timeslice number with accepted charges"
abbrev pub has_paid : List Payment → ℕ → Bool
has_paid ps t = member t (map (λ p. p.timeslice) ps)

-- "lines go by rising timeslice number": so many numbers from one on,
unfoldable pub numbers_from : ℕ → ℕ → List ℕ
numbers_from t zero = []
numbers_from t (suc k) = t ∷ numbers_from (suc t) k

-- and those of them that have paid
unfoldable pub payers : List Payment → List ℕ
payers ps = filter (has_paid ps) (numbers_from 0 limit)

-- "units charged, whole parts per thousand of the total, and the remainder"
pub record Share : Type 0 where
  pub timeslice : ℕ
  pub units : ℕ
  pub parts : ℕ
  pub remainder : ℕ

abbrev pub share : ℕ → ℕ → ℕ → Share
share all t units = record { timeslice = t; units = units; parts = 1000 * units / all; remainder = 1000 * units % all }

-- the shares of a list, one for each of those numbers
unfoldable pub shares_in : List Event → List Share
shares_in es = let ps = payments_of es in map (λ t. share (total ps) t (units_of t ps)) (payers ps)

-- "A line is the number and these three figures, with single spaces"
unfoldable pub share_line : Share → List ℕ
share_line x =
    decimal x.timeslice
    ++ bytes " "
    ++ decimal x.units
    ++ bytes " "
    ++ decimal x.parts
    ++ bytes " "
    ++ decimal x.remainder
    ++ bytes "\n"

unfoldable pub share_lines : List Share → List ℕ
share_lines [] = []
share_lines (x ∷ xs) = share_line x ++ share_lines xs

-- "a refused file prints the key program's line for it"; "A total of 0 prints no line", since no charge was accepted then
abbrev pub shares_after : ℕ → List ℕ → List ℕ
shares_after zero file = share_lines (shares_in (events_of file))
shares_after (suc number) file = file_line (suc number)

-- all that the program prints
unfoldable pub shares : List ℕ → List ℕ
shares file = shares_after (file_refusal file) file
