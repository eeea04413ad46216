-- What the theorems say of the card: which line a poll takes and what comes of it, the operations one by one, and polls until the first
-- refusal.
use Rattle.std.specs.Prelude.{ℕ, zero, suc, ◌≤◌, ◌<◌, ◌≡◌, List, [], ◌∷◌, map, Bool, true, false, ◌&&◌, length, get_or}
use Rattle.rules.specs.declared.Event.{Event}
use Rattle.rules.specs.declared.Event.TheVariants.{Wake}
use Rattle.rules.specs.State.{State}
use Rattle.rules.specs.Events.{Answered, refused, offer_if}
use Rattle.bridge_card.specs.Card.{is_on, is_pending, is_enabled, thread_of, write, raise, line_to_take, Polled, unchanged, poll_if}
use Rattle.dispatcher.specs.declared.Machine.{Machine}
use Rattle.dispatcher.specs.Promise as code
use Rattle.bridge_card.specs.Promises.{line_number, Polls}

-- "the lowest line that is pending and enabled, with the card on"
pub record Takes (b : List ℕ) (line : ℕ) : Type 0 where
  pub on : is_on b ≡ true
  pub one_of_eight : line < 8
  pub pending : is_pending b line ≡ true
  pub enabled : is_enabled b line ≡ true
  pub lowest : (lower : ℕ) → lower < line → (is_pending b lower && is_enabled b lower) ≡ false

-- one block is another without this line's bit
pub record Cleared (b after : List ℕ) (line : ℕ) : Type 0 where
  pub bit_gone : is_pending after line ≡ false
  pub others_pending : (other : ℕ) → other < 8 → (other ≡ line → ⊥) → is_pending after other ≡ is_pending b other
  pub other_bytes : (at : ℕ) → (at ≡ 1 → ⊥) → get_or after at 0 ≡ get_or b at 0
  pub as_long : length after ≡ length b

-- the answer to the wake of a line's thread
abbrev pub wake_of : Bool → List ℕ → State → ℕ → Answered
wake_of is_sound b s line = offer_if is_sound (Wake (thread_of b line)) s

-- what a poll comes to
pub data Comes (is_sound : Bool) (b : List ℕ) (s : State) : Polled → Type 0 where
  -- 20
  no_block : (length b ≡ 12 → ⊥) → Comes is_sound b s (unchanged 20 b s)
  -- 22: no line can be taken
  no_line : length b ≡ 12 → ((line : ℕ) → Takes b line → ⊥) → Comes is_sound b s (unchanged 22 b s)
  -- the wake's own number
  wake_refused : {number : ℕ} (line : ℕ) → length b ≡ 12 → Takes b line → wake_of is_sound b s line ≡ refused (suc number) s
      → Comes is_sound b s (unchanged (suc number) b s)
  -- the line's bit is cleared, and its thread woken
  accepted : {after : List ℕ} (line : ℕ) → length b ≡ 12 → Takes b line → (wake_of is_sound b s line).refusal ≡ 0 → Cleared b after line
      → Comes is_sound b s (record { block = after; answer = wake_of is_sound b s line })

-- the four operations
pub data Operation : Type 0 where
  Read : ℕ → Operation
  Write : ℕ → ℕ → Operation
  Raise : ℕ → Operation
  Poll : Operation

-- the block after one
abbrev pub block_after_one : Operation → Bool → List ℕ → State → List ℕ
block_after_one (Read register) is_sound b s = b
block_after_one (Write register byte) is_sound b s = (write b register byte).block
block_after_one (Raise line) is_sound b s = (raise b line).block
block_after_one Poll is_sound b s = (poll_if is_sound b s).block

abbrev pub is_raise : Operation → Bool
is_raise (Read register) = false
is_raise (Write register byte) = false
is_raise (Raise line) = true
is_raise Poll = false

-- lines raised one after the other
unfoldable pub raised_all : List ℕ → List ℕ → List ℕ
raised_all b [] = b
raised_all b (line ∷ lines) = raised_all (raise b line).block lines

-- polls until the first refusal, at most so many: the lines taken, in this order; block and machine after them; and the refusal's number,
-- 0 where none came
pub record Drained : Type 0 where
  pub lines : List ℕ
  pub block : List ℕ
  pub state : State
  pub refusal : ℕ

abbrev pub taken_first : ℕ → Drained → Drained
taken_first line d = record { lines = line ∷ d.lines; block = d.block; state = d.state; refusal = d.refusal }

abbrev pub drained_after : ℕ → ℕ → Drained → List ℕ → State → Drained
drained_after zero line later b s = taken_first line later
drained_after (suc number) line later b s = record { lines = []; block = b; state = s; refusal = suc number }

unfoldable pub drain : ℕ → Bool → List ℕ → State → Drained
drain zero is_sound b s = record { lines = []; block = b; state = s; refusal = 0 }
drain (suc n) is_sound b s =
    let p = poll_if is_sound b s in
    drained_after p.answer.refusal (line_number (line_to_take b)) (drain n is_sound p.block p.answer.state) b s

-- the wakes of these lines' threads, as events of a list
abbrev pub wakes_of : List ℕ → List ℕ → List Event
wakes_of b lines = map (λ line. Wake (thread_of b line)) lines

-- lowest first: each is above the one before it, from this bound on
abbrev pub Rising : ℕ → List ℕ → Type 0
Rising from [] = Unit {0}
Rising from (line ∷ lines) = (from ≤ line) × Rising (suc line) lines

-- each of these lines
abbrev pub Each : (ℕ → Type 0) → List ℕ → Type 0
Each P [] = Unit {0}
Each P (line ∷ lines) = P line × Each P lines

-- the code's polls until the first refusal, each given the block and the machine that the last one left, known by their contract alone: the
-- lines taken, the block after them, and the refused poll's answer
pub data Until : List ℕ → Machine → List ℕ → List ℕ → code.Answered → Type 0 where
  stops : {b after : List ℕ} {m : Machine} {r : code.Answered} → Polls b m after r → (r.refusal ≡ 0 → ⊥) → Until b m [] after r
  goes_on : {b next after lines : List ℕ} {m : Machine} {r last : code.Answered} → Polls b m next r → r.refusal ≡ 0
      → Until next r.machine lines after last → Until b m (line_number (line_to_take b) ∷ lines) after last
