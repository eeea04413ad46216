-- Document 02, [11], "A shorter question with the same refusal": what the program `shorten` writes.
use Rattle.std.specs.Prelude.{ℕ, zero, suc, Bool, true, false, cond, not, ◌&&◌, eqb, length}
use mathlib.Core.List.{List, [], ◌∷◌, reverse, reverse_aux}
use Rattle.rules.specs.declared.Event.{Event}
use Rattle.rules.specs.Tests.{member}
use Rattle.rules.specs.State.{State, empty}
use Rattle.rules.specs.Lists.{run, numbers_of}
use Rattle.rules.specs.EventFile.{file_of, file_refusal, events_of}
use Rattle.rules.specs.Key.{file_line}

-- "some event is still refused with that number", from a machine on; 0 is no refusal
unfoldable pub refused_from : ℕ → List Event → State → Bool
refused_from k es s = not (eqb k 0) && member k (numbers_of (run es s))

abbrev pub refused_in : ℕ → List Event → Bool
refused_in k es = refused_from k es empty

-- "Events are tried from the last to the first, each left out if such a refusal remains": given are the events yet to be tried, the last
-- of them first, and those that were tried and stay. `reverse_aux before stay` is the former, in their old order, and then the latter.
unfoldable pub tried : ℕ → List Event → List Event → List Event
tried k [] stay = stay
tried k (e ∷ before) stay = tried k before (cond (refused_in k (reverse_aux before stay)) stay (e ∷ stay))

-- "a whole pass"
abbrev pub pass : ℕ → List Event → List Event
pass k es = tried k (reverse es) []

-- "over and over until a whole pass leaves out none", in at most so many passes
unfoldable pub passes : ℕ → ℕ → List Event → List Event
passes k zero es = es
passes k (suc n) es =
    let left = pass k es in
    let later = passes k n left in
    cond (eqb (length left) (length es)) es later

-- a pass that leaves out some leaves fewer, so as many passes as events are enough: `repeats`, proofs/Shortening.antt
abbrev pub shortened : ℕ → List Event → List Event
shortened k es = passes k (length es) es

-- "26, no event of the file is refused with that number"; otherwise the program "writes a file of some of its events"
abbrev pub shorter_if : Bool → ℕ → List Event → List ℕ
shorter_if true k es = file_of (shortened k es)
shorter_if false k es = file_line 26

-- "A refusal prints the key program's `file` line"; 26 comes "after 14, 15 and 16"
abbrev pub shorter_after : ℕ → ℕ → List ℕ → List ℕ
shorter_after zero k file = shorter_if (refused_in k (events_of file)) k (events_of file)
shorter_after (suc number) k file = file_line (suc number)

-- "reads a refusal number in one byte (an empty input is 14), then a file": all that the program prints
unfoldable pub shorter : List ℕ → List ℕ
shorter [] = file_line 14
shorter (k ∷ file) = shorter_after (file_refusal file) k file
