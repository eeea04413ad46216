-- What the functions hand back, of a file, an offset in it and a stored machine.
use Rattle.std.specs.Prelude.{ℕ, ◌≡◌, List, true}
use Rattle.rules.specs.RefusalNumbers.{number_in, links_in}
use Rattle.event_file.specs.Left.{events_at, Left}
use Rattle.dispatcher.specs.declared.Machine.{Machine}
use Rattle.dispatcher.specs.Shown.{shown, sound_machine}
use Rattle.card_sheet.specs.declared.commands.Obeyed.{Obeyed}
use Rattle.card_sheet.specs.Sheet.{Stand, Done}

-- what the code holds between two commands
abbrev pub stand_of : List ℕ → List ℕ → ℕ → Machine → Stand
stand_of block file offset m = record { block = block; state = shown m; events = events_at offset file }

-- a command has done what the definitions say
pub record Obeys (d : Done) (file after : List ℕ) (r : Obeyed) : Type 0 where
  pub block : after ≡ d.block
  pub state : shown r.machine ≡ d.answer.state
  pub refusal : number_in r.answer ≡ d.answer.refusal
  pub links : links_in r.answer ≡ d.answer.links
  pub byte : r.byte ≡ d.byte
  pub left : Left file r.offset d.events
  pub sound : sound_machine r.machine ≡ true
