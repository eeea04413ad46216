-- THE THEOREMS of the buffers. A command prints at most 34 bytes, and there are at most 255 commands. Before the file stand at most 1,531
-- bytes, and a file with more than 65,536 is refused by its length alone.
use Prim.Native.Nat.{ℕ, zero, suc, ◌+◌, ◌*◌, ◌≤◌, ◌<◌}
use native.Mathlib.Omega.{arith}
use mathlib.Core.Path.{◌≡◌, refl}
use mathlib.Core.List.{List}
use lib.ListN.{length, take, length-append, length-replicate}
use Rattle.rules.specs.State.{limit}
use Rattle.rules.specs.EventFile.{Bytes, events_of}
use Rattle.rules.specs.Key.{line, file_line}
use Rattle.rules.proofs.Bounds.{runs_narrow}
use Rattle.rules.proofs.Demands.{empty_sound}
use Rattle.rules.proofs.Soundness.Places.{sound_of}
use Rattle.rules.proofs.Files.Records.{all_ranged}
use Rattle.rules.proofs.Files.Inverse.{events_fit}
use Rattle.rules.proofs.Files.ReadThenWritten.{bytes_drop}
use Rattle.text.proofs.DigitCounts.{eight_long, file_line_length}
use Rattle.text.proofs.Lengths.{line_within}
use Rattle.text.proofs.Enough.{enough_of_bytes}
use Rattle.replay.proofs.Inputs.{refused_small, refused_long}
use Rattle.abort_orders.specs.declared.Order.TheVariants.{Nothing}
use Rattle.orders_sheet.specs.Sheet.{command_count, command_from, commands_from, file_at, file_in, input_refusal}
use Rattle.orders_sheet.specs.Sheet.{Stand, Done, done, stand_after, command_lines, at_first, orders_after, orders}
use Rattle.orders_sheet.proofs.Inputs.{file_early}
use Rattle.orders_sheet.proofs.Fitting.{Steady, Short, short}

line_short : (number : ℕ) (d : Done) → number < 65536 → Short d → length (line number d.answer) ≤ 34
line_short number d h x =
    let sound_after_lem = sound_of d.answer.state x.steady.sound_now in
    line_within 8 number d.answer h (omega (arith, x.refusal))
    (runs_narrow d.answer.state sound_after_lem d.answer.state.running refl) (eight_long d.answer.links x.last)

-- all commands
all_short : (input : List ℕ) (at left number : ℕ) (w : Stand) → Bytes input → number + left ≤ 65536 → Steady w
    → length (command_lines number (commands_from input at left) w) ≤ 34 * left
unfolding commands_from command_lines
all_short input at zero number w narrow h x = omega arith
all_short input at (suc left) number w narrow h x =
    let c = command_from input at in
    let this = short w x c (narrow (at + 1)) in
    simp length-append
    (omega (
      arith,
      line_short number (done c w) (omega arith) this,
      all_short input (at + 6) left (number + 1) (stand_after (done c w)) narrow (omega arith) this.steady,
    ))

-- before the first command
begins_steady : (input : List ℕ) → Bytes input → Steady (at_first input)
begins_steady input narrow =
    record {
      full = length-replicate limit Nothing;
      sound_now = empty_sound;
      ranged = all_ranged (events_of (file_in input)) (events_fit (file_in input) (bytes_drop (file_at input) input narrow));
    }

fits_after : (n : ℕ) (input : List ℕ) → Bytes input → input_refusal input ≡ n → length (orders_after n input) ≤ 8670
fits_after zero input narrow h =
    let lines = all_short input 1 (command_count input) 1 (at_first input) narrow (omega (arith, narrow 0)) (begins_steady input narrow) in
    omega (arith, lines, narrow 0)
fits_after (suc n) input narrow h = omega (arith, file_line_length (suc n) (omega (arith, refused_small (file_at input) input, h)))

pub orders_fit : (input : List ℕ) → Bytes input → length (orders input) ≤ 8670
unfolding orders
orders_fit input narrow = fits_after (input_refusal input) input narrow refl

-- what is too long has a file that is too long
long_orders : (input : List ℕ) → Bytes input → 67067 < length input → orders input ≡ file_line 14
unfolding orders
long_orders input narrow h =
    let refused : input_refusal input ≡ 14 = refused_long (file_at input) input (file_early input narrow) h in rw refused refl

-- so what follows the first 67,068 bytes changes nothing
pub enough_for_orders : (n : ℕ) → 67067 < n → (input : List ℕ) → Bytes input → orders (take n input) ≡ orders input
enough_for_orders = enough_of_bytes orders 67067 (file_line 14) long_orders
