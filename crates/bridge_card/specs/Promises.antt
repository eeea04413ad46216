-- How the code says what it read and which line it found, and what a poll of the stored machine promises.
use Rattle.std.specs.Prelude.{ℕ, ◌≡◌, List, Result, Ok, Err}
use Rattle.std.proofs.Math.Option.{Option, none, some}
use Rattle.rules.specs.declared.refusal.Refusal.{Refusal}
use Rattle.rules.specs.RefusalNumbers.{number_of}
use Rattle.dispatcher.specs.declared.Machine.{Machine}
use Rattle.dispatcher.specs.Promise.{Answered}
use Rattle.dispatcher.specs.Shown.{shown, sound_machine}
use Rattle.dispatcher.specs.Promise.{Answers}
use Rattle.bridge_card.specs.Card.{Reading, Polled, poll_if}

-- the number of a read's refusal, 0 for none, and the byte: "a refused read gives 0"
abbrev pub reading_of : Result ℕ Refusal → Reading
reading_of (Ok byte) = record { refusal = 0; byte = byte }
reading_of (Err refusal) = record { refusal = number_of refusal; byte = 0 }

-- 8 where there is none
abbrev pub line_number : Option ℕ → ℕ
line_number none = 8
line_number (some line) = line

-- what the definitions say of a block and a stored machine
abbrev pub poll_of : List ℕ → Machine → Polled
poll_of b m = poll_if (sound_machine m) b (shown m)

-- the block after the poll, and the answer and the machine after it, are theirs; a refusal hands back the machine as given
abbrev pub Polls : List ℕ → Machine → List ℕ → Answered → Type 0
Polls before m after r = (after ≡ (poll_of before m).block) × Answers (poll_of before m).answer m r
