-- What the program `orders` reads, commands and an event file, and what it prints: a line for each command.
use Rattle.std.specs.Prelude.{ℕ, zero, suc, ◌+◌, ◌*◌, List, [], ◌∷◌, ◌++◌, cond, eqb, get_or, take, drop}
use Rattle.rules.specs.declared.Event.{Event}
use Rattle.rules.specs.State.{State, empty}
use Rattle.rules.specs.Events.{Answered}
use Rattle.rules.specs.EventFile.{word_of, events_of}
use Rattle.rules.specs.Key.{line, file_line}
use Rattle.replay.specs.Behind.{refusal_behind}
use Rattle.replay.specs.Running.{after_run}
use Rattle.abort_orders.specs.declared.Store.{Store}
use Rattle.abort_orders.specs.Orders.{empty_store, Given, give_abort, give_withdraw, Taken, take_orders}
use Rattle.orders_sheet.specs.declared.Command.{Command}

-- "a byte k; k commands of 6 bytes: op, thread, order number (4, big-endian)"
abbrev pub command_count : List ℕ → ℕ
command_count input = get_or input 0 0

abbrev pub number_at : List ℕ → ℕ → ℕ
number_at input at =
    word_of (get_or input at 0) (get_or input (at + 1) 0) * 65536 + word_of (get_or input (at + 2) 0) (get_or input (at + 3) 0)

abbrev pub command_from : List ℕ → ℕ → Command
command_from input at = record { op = get_or input at 0; thread = get_or input (at + 1) 0; number = number_at input (at + 2) }

unfoldable pub commands_from : List ℕ → ℕ → ℕ → List Command
commands_from input at zero = []
commands_from input at (suc n) = command_from input at ∷ commands_from input (at + 6) n

abbrev pub commands_in : List ℕ → List Command
commands_in input = commands_from input 1 (command_count input)

-- "the rest is an event file"
abbrev pub file_at : List ℕ → ℕ
file_at input = 1 + 6 * command_count input

abbrev pub file_in : List ℕ → List ℕ
file_in input = drop (file_at input) input

-- "An input cut short before the file prints `file 14`; a refused file prints its `file` line." What is not there counts as 0, so an empty
-- input ends before its file would begin.
abbrev pub input_refusal : List ℕ → ℕ
input_refusal input = refusal_behind (file_at input) input

-- between two commands: the store, the machine, and the events of the file that are left
pub record Stand : Type 0 where
  pub store : Store
  pub state : State
  pub events : List Event

-- after a command: the store, the machine with the columns of its line, and the events that are left. The last column, where a key has its
-- links, is "the count of a take, the links followed by these events in all, or 0 for an order".
pub record Done : Type 0 where
  pub store : Store
  pub answer : Answered
  pub events : List Event

-- "Op 0 gives an abort order; 1 a withdraw order"
abbrev pub after_given : Given → Stand → Done
after_given g w =
    record { store = g.store; answer = record { state = w.state; refusal = g.refusal; links = 0 }; events = w.events }

-- "2 takes the orders"
abbrev pub after_take : Taken → Stand → Done
after_take t w =
    record { store = t.store; answer = record { state = t.state; refusal = t.refusal; links = t.count }; events = w.events }

-- "3 and above runs the next `thread` events of the file (fewer where it ends), refused or not"
abbrev pub after_events : ℕ → Stand → Done
after_events n w = record { store = w.store; answer = after_run (take n w.events) w.state; events = drop n w.events }

unfoldable pub done : Command → Stand → Done
done c w =
    cond (eqb c.op 0) (after_given (give_abort w.store c.thread c.number) w)
    (cond (eqb c.op 1) (after_given (give_withdraw w.store c.thread c.number) w)
    (cond (eqb c.op 2) (after_take (take_orders w.store w.state) w) (after_events c.thread w)))

abbrev pub stand_after : Done → Stand
stand_after d = record { store = d.store; state = d.answer.state; events = d.events }

-- "Each command prints a key line: command number from 1, .."
unfoldable pub command_lines : ℕ → List Command → Stand → List ℕ
command_lines number [] w = []
command_lines number (c ∷ rest) w = let d = done c w in line number d.answer ++ command_lines (number + 1) rest (stand_after d)

-- "Store and machine begin empty."
abbrev pub at_first : List ℕ → Stand
at_first input = record { store = empty_store; state = empty; events = events_of (file_in input) }

abbrev pub orders_after : ℕ → List ℕ → List ℕ
orders_after zero input = command_lines 1 (commands_in input) (at_first input)
orders_after (suc number) input = file_line (suc number)

-- all that the program prints
unfoldable pub orders : List ℕ → List ℕ
orders input = orders_after (input_refusal input) input
