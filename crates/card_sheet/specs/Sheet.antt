-- What the program `card` reads, a block, commands and an event file, and what it prints: two lines for each command.
use Rattle.std.specs.Prelude.{ℕ, zero, suc, ◌+◌, ◌*◌, List, [], ◌∷◌, ◌++◌, cond, eqb, get_or, take, drop}
use Rattle.rules.specs.declared.Event.{Event}
use Rattle.rules.specs.State.{State, empty}
use Rattle.rules.specs.Events.{Answered}
use Rattle.rules.specs.EventFile.{events_of}
use Rattle.rules.specs.Key.{bytes, decimal, line, file_line}
use Rattle.replay.specs.Behind.{refusal_behind}
use Rattle.replay.specs.Running.{after_run}
use Rattle.bridge_card.specs.Card.{Reading, read, Changed, write, raise, Polled, poll}
use Rattle.card_sheet.specs.declared.Command.{Command}

-- "a byte n; n bytes, the block"
abbrev pub block_in : List ℕ → List ℕ
block_in input = take (get_or input 0 0) (drop 1 input)

-- "a byte k; k commands of 3 bytes, op a b"
abbrev pub count_at : List ℕ → ℕ
count_at input = get_or input 0 0 + 1

abbrev pub command_count : List ℕ → ℕ
command_count input = get_or input (count_at input) 0

abbrev pub command_from : List ℕ → ℕ → Command
command_from input at = record { op = get_or input at 0; a = get_or input (at + 1) 0; b = get_or input (at + 2) 0 }

unfoldable pub commands_from : List ℕ → ℕ → ℕ → List Command
commands_from input at zero = []
commands_from input at (suc n) = command_from input at ∷ commands_from input (at + 3) n

abbrev pub commands_in : List ℕ → List Command
commands_in input = commands_from input (count_at input + 1) (command_count input)

-- "the rest is an event file"
abbrev pub file_at : List ℕ → ℕ
file_at input = count_at input + 1 + 3 * command_count input

abbrev pub file_in : List ℕ → List ℕ
file_in input = drop (file_at input) input

-- "An input cut short before the file prints `file 14`; a refused file prints its `file` line." What is not there counts as 0, so an input
-- that is cut short ends before its file would begin.
abbrev pub input_refusal : List ℕ → ℕ
input_refusal input = refusal_behind (file_at input) input

-- between two commands: the block, the machine, and the events of the file that are left
pub record Stand : Type 0 where
  pub block : List ℕ
  pub state : State
  pub events : List Event

-- after a command: the block, the machine with what the key line says, the events that are left, and the byte read
pub record Done : Type 0 where
  pub block : List ℕ
  pub answer : Answered
  pub events : List Event
  pub byte : ℕ

-- the machine stays, and no link is followed
abbrev pub answered : ℕ → State → Answered
answered number s = record { state = s; refusal = number; links = 0 }

-- "Op 0 reads register a"
abbrev pub after_read : Reading → Stand → Done
after_read r w = record { block = w.block; answer = answered r.refusal w.state; events = w.events; byte = r.byte }

-- "1 writes b to register a; 2 raises line a"
abbrev pub after_change : Changed → Stand → Done
after_change c w = record { block = c.block; answer = answered c.refusal w.state; events = w.events; byte = 0 }

-- "3 polls"
abbrev pub after_poll : Polled → Stand → Done
after_poll p w = record { block = p.block; answer = p.answer; events = w.events; byte = 0 }

-- "4 and above runs the next a events of the file (fewer where it ends), refused or not", "refusal (0 for op 4 and above)", "links
-- followed .. by these events in all"
abbrev pub after_events : ℕ → Stand → Done
after_events n w =
    record {
      block = w.block;
      answer = after_run (take n w.events) w.state;
      events = drop n w.events;
      byte = 0;
    }

unfoldable pub done : Command → Stand → Done
done c w =
    cond (eqb c.op 0) (after_read (read w.block c.a) w)
    (cond (eqb c.op 1) (after_change (write w.block c.a c.b) w)
    (cond (eqb c.op 2) (after_change (raise w.block c.a) w)
    (cond (eqb c.op 3) (after_poll (poll w.block w.state) w) (after_events c.a w))))

abbrev pub stand_after : Done → Stand
stand_after d = record { block = d.block; state = d.answer.state; events = d.events }

-- "the byte read (else 0) and the n bytes of the block, decimal, single spaces"
unfoldable pub block_text : List ℕ → List ℕ
block_text [] = bytes "\n"
block_text (byte ∷ rest) = bytes " " ++ decimal byte ++ block_text rest

-- "Each command prints two lines. First a key line: command number from 1, `ok` or `no`, refusal .., running thread, timeslice, donation
-- count, and links followed .., else 0. Then the byte read .."
unfoldable pub two_lines : ℕ → Done → List ℕ
two_lines number d = line number d.answer ++ decimal d.byte ++ block_text d.block

unfoldable pub command_lines : ℕ → List Command → Stand → List ℕ
command_lines number [] w = []
command_lines number (c ∷ rest) w = let d = done c w in two_lines number d ++ command_lines (number + 1) rest (stand_after d)

-- "The machine begins empty."
abbrev pub at_first : List ℕ → Stand
at_first input = record { block = block_in input; state = empty; events = events_of (file_in input) }

abbrev pub card_after : ℕ → List ℕ → List ℕ
card_after zero input = command_lines 1 (commands_in input) (at_first input)
card_after (suc number) input = file_line (suc number)

-- all that the program prints
unfoldable pub card : List ℕ → List ℕ
card input = card_after (input_refusal input) input
