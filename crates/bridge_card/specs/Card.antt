-- Document 02, [9], "Interrupt lines of the bridge card": what its four operations do to the block and to the machine.
use Rattle.std.specs.Prelude.{ℕ, zero, suc, ◌+◌, List, Bool, cond, not, ◌&&◌, ◌||◌, ltb, eqb, length, get_or, set}
use Rattle.std.proofs.Math.Option.{Option, none, some}
use Rattle.rules.specs.declared.Event.TheVariants.{Wake}
use Rattle.rules.specs.State.{State}
use Rattle.rules.specs.Sound.{sound}
use Rattle.rules.specs.Refusals.{◌gives◌else◌}
use Rattle.rules.specs.Events.{Answered, refused, offer_if}
use Rattle.bits.specs.Bits.{bit, number_of}

-- the byte that has the bits that are given one by one
abbrev pub byte_of : (ℕ → Bool) → ℕ
byte_of f = number_of 8 f

-- "a register block of 12 lent bytes"
abbrev pub is_block : List ℕ → Bool
is_block b = eqb (length b) 12

-- "byte 0 control, bit 0 switches the card on, the other bits are stored and mean nothing"
abbrev pub is_on : List ℕ → Bool
is_on b = bit 0 (get_or b 0 0)

-- "byte 1 pending lines 0 to 7 as bits; byte 2 enabled lines"
abbrev pub is_pending : List ℕ → ℕ → Bool
is_pending b line = bit line (get_or b 1 0)

abbrev pub is_enabled : List ℕ → ℕ → Bool
is_enabled b line = bit line (get_or b 2 0)

-- "bytes 4 to 11 the thread of each line"
abbrev pub thread_of : List ℕ → ℕ → ℕ
thread_of b line = get_or b (4 + line) 0

-- the block in which these lines are pending, and all other bytes are as they were
abbrev pub with_pending : (ℕ → Bool) → List ℕ → List ℕ
with_pending lines b = set b 1 (byte_of lines)

-- "20, a block that is not 12 bytes, before all others; 21, .., after 20"
abbrev pub refusal_of : List ℕ → Bool → ℕ
refusal_of b wrong = not (is_block b) gives 20 else wrong gives 21 else 0

-- "21, register above 11, a write to byte 3, or line above 7"
unfoldable pub read_refusal : List ℕ → ℕ → ℕ
read_refusal b register = refusal_of b (ltb 11 register)

abbrev pub not_written : ℕ → Bool
not_written register = ltb 11 register || eqb register 3

unfoldable pub write_refusal : List ℕ → ℕ → ℕ
write_refusal b register = refusal_of b (not_written register)

unfoldable pub raise_refusal : List ℕ → ℕ → ℕ
raise_refusal b line = refusal_of b (ltb 7 line)

-- what a read hands back: its refusal number, 0 for none, and the byte
pub record Reading : Type 0 where
  pub refusal : ℕ
  pub byte : ℕ

-- "byte 3 reads 0", "a refused read gives 0"
abbrev pub read_after : ℕ → List ℕ → ℕ → Reading
read_after zero b register = record { refusal = 0; byte = cond (eqb register 3) 0 (get_or b register 0) }
read_after (suc number) b register = record { refusal = suc number; byte = 0 }

unfoldable pub read : List ℕ → ℕ → Reading
read b register = read_after (read_refusal b register) b register

-- what a write or a raise hands back: its refusal number, 0 for none, and the block after it
pub record Changed : Type 0 where
  pub refusal : ℕ
  pub block : List ℕ

-- "Every other refusal leaves block and machine unchanged too"
abbrev pub changed_after : ℕ → List ℕ → List ℕ → Changed
changed_after zero changed b = record { refusal = 0; block = changed }
changed_after (suc number) changed b = record { refusal = suc number; block = b }

-- "Writing a 1 to a pending bit clears it." A bit written 0 stays; every other register holds what is written.
abbrev pub written : List ℕ → ℕ → ℕ → List ℕ
written b register byte =
    cond (eqb register 1) (with_pending (λ line. is_pending b line && not (bit line byte)) b) (set b register byte)

unfoldable pub write : List ℕ → ℕ → ℕ → Changed
write b register byte = changed_after (write_refusal b register) (written b register byte) b

-- "Raising a line sets its bit."
abbrev pub raised : List ℕ → ℕ → List ℕ
raised b line = with_pending (λ other. is_pending b other || eqb other line) b

unfoldable pub raise : List ℕ → ℕ → Changed
raise b line = changed_after (raise_refusal b line) (raised b line) b

-- "A poll takes the lowest line that is pending and enabled, with the card on"
abbrev pub may_take : List ℕ → ℕ → Bool
may_take b line = is_pending b line && is_enabled b line

-- the lowest of so many lines from this one on for which a test holds
unfoldable pub lowest_from : (ℕ → Bool) → ℕ → ℕ → Option ℕ
lowest_from test line zero = none
lowest_from test line (suc n) = cond (test line) (some line) (lowest_from test (suc line) n)

abbrev pub lowest : (ℕ → Bool) → Option ℕ
lowest test = lowest_from test 0 8

unfoldable pub line_to_take : List ℕ → Option ℕ
line_to_take b = cond (is_on b) (lowest (may_take b)) none

-- "clears its bit"
unfoldable pub line_cleared : List ℕ → ℕ → List ℕ
line_cleared b line = with_pending (λ other. is_pending b other && not (eqb other line)) b

-- what a poll hands back: the block, and the machine with the answer
pub record Polled : Type 0 where
  pub block : List ℕ
  pub answer : Answered

abbrev pub unchanged : ℕ → List ℕ → State → Polled
unchanged number b s = record { block = b; answer = refused number s }

-- "clears its bit and wakes its thread. If the wake is refused, its number comes back and the block is unchanged."
abbrev pub block_after : ℕ → List ℕ → ℕ → List ℕ
block_after zero b line = line_cleared b line
block_after (suc number) b line = b

abbrev pub woken : List ℕ → ℕ → Answered → Polled
woken b line a = record { block = block_after a.refusal b line; answer = a }

-- "22, no line to take at a poll, after 20 and before all refusals of the wake, 1 included"; `is_sound` says whether the machine is
abbrev pub polled_with : Option ℕ → Bool → List ℕ → State → Polled
polled_with none is_sound b s = unchanged 22 b s
polled_with (some line) is_sound b s = woken b line (offer_if is_sound (Wake (thread_of b line)) s)

unfoldable pub poll_if : Bool → List ℕ → State → Polled
poll_if is_sound b s = cond (is_block b) (polled_with (line_to_take b) is_sound b s) (unchanged 20 b s)

abbrev pub poll : List ℕ → State → Polled
poll b s = poll_if (sound s) b s
