-- THE THEOREMS of the buffers. A command prints at most 1,058 bytes, and there are at most 255 commands. Before the file stand at most
-- 1,022 bytes, and a file with more than 65,536 is refused by its length alone.
use Prim.Native.Nat.{ℕ, zero, suc, ◌+◌, ◌*◌, ◌≤◌, ◌<◌}
use native.Mathlib.Omega.{arith}
use mathlib.Core.Path.{◌≡◌, refl}
use mathlib.Core.List.{List, [], ◌∷◌}
use lib.ListN.{length, get_or, take, drop, length-append}
use Rattle.rules.specs.EventFile.{Bytes, events_of}
use Rattle.rules.specs.Key.{bytes, file_line}
use Rattle.rules.proofs.Bounds.{runs_narrow}
use Rattle.rules.proofs.Demands.{empty_sound}
use Rattle.rules.proofs.Soundness.Places.{sound_of}
use Rattle.rules.proofs.Files.Records.{all_ranged}
use Rattle.rules.proofs.Files.Inverse.{events_fit}
use Rattle.rules.proofs.Files.ReadThenWritten.{bytes_take, bytes_drop}
use Rattle.text.proofs.DigitCounts.{three_long, eight_long, file_line_length}
use Rattle.text.proofs.Lengths.{line_within}
use Rattle.text.proofs.Enough.{enough_of_bytes}
use Rattle.replay.proofs.Inputs.{refused_small, refused_long}
use Rattle.card_sheet.specs.Sheet.{count_at, command_count, command_from, commands_from, file_at, file_in, input_refusal}
use Rattle.card_sheet.specs.Sheet.{Stand, Done, done, stand_after, block_text, two_lines, command_lines, at_first, card_after, card}
use Rattle.card_sheet.proofs.Inputs.{file_early, block_length}
use Rattle.card_sheet.proofs.Fitting.{Steady, Short, short}

-- the second line
block_short : (b : List ℕ) → Bytes b → length (block_text b) ≤ 4 * length b + 1
unfolding block_text bytes
block_short [] narrow = omega arith
block_short (byte ∷ rest) narrow =
    simp length-append
    (omega (arith, three_long byte (omega (arith, narrow 0)), block_short rest (λ i. narrow (suc i))))

-- both lines
two_short : {n : ℕ} (number : ℕ) (d : Done) → number < 65536 → n ≤ 255 → Short n d → length (two_lines number d) ≤ 1058
unfolding two_lines
two_short number d h few x =
    let block = x.steady.block in
    let sound_after_lem = sound_of d.answer.state x.steady.sound_now in
    let first =
    line_within 8 number d.answer h (omega (arith, x.refusal))
    (runs_narrow d.answer.state sound_after_lem d.answer.state.running refl) (eight_long d.answer.links x.links) in
    simp length-append
    (omega (arith, first, three_long d.byte (omega (arith, x.byte)), block_short d.block block.narrow, block.size))

-- all commands
all_short : {n : ℕ} (input : List ℕ) (at left number : ℕ) (w : Stand) → Bytes input → number + left ≤ 65536 → n ≤ 255 → Steady n w
    → length (command_lines number (commands_from input at left) w) ≤ 1058 * left
unfolding commands_from command_lines
all_short input at zero number w narrow h few x = omega arith
all_short {n} input at (suc left) number w narrow h few x =
    let c = command_from input at in
    let this = short c w (narrow (at + 1)) (narrow (at + 2)) x in
    simp length-append
    (omega (
      arith,
      two_short number (done c w) (omega arith) few this,
      all_short input (at + 3) left (number + 1) (stand_after (done c w)) narrow (omega arith) few this.steady,
    ))

-- before the first command
begins_steady : (input : List ℕ) → Bytes input → input_refusal input ≡ 0 → Steady (get_or input 0 0) (at_first input)
begins_steady input narrow accepted =
    record {
      block =
          record {
            size = block_length input accepted;
            narrow = bytes_take (get_or input 0 0) (drop 1 input) (bytes_drop 1 input narrow);
          };
      sound_now = empty_sound;
      ranged = all_ranged (events_of (file_in input)) (events_fit (file_in input) (bytes_drop (file_at input) input narrow));
    }

fits_after : (n : ℕ) (input : List ℕ) → Bytes input → input_refusal input ≡ n → length (card_after n input) ≤ 269790
fits_after zero input narrow h =
    let count = narrow (count_at input) in
    let lines =
    all_short input (count_at input + 1) (command_count input) 1 (at_first input) narrow (omega arith) (omega (arith, narrow 0))
    (begins_steady input narrow h) in
    omega (arith, lines, count)
fits_after (suc n) input narrow h =
    omega (arith, file_line_length (suc n) (omega (arith, refused_small (file_at input) input, h)))

pub card_fits : (input : List ℕ) → Bytes input → length (card input) ≤ 269790
unfolding card
card_fits input narrow = fits_after (input_refusal input) input narrow refl

-- what is too long has a file that is too long
long_card : (input : List ℕ) → Bytes input → 66558 < length input → card input ≡ file_line 14
unfolding card
long_card input narrow h =
    let refused : input_refusal input ≡ 14 = refused_long (file_at input) input (file_early input narrow) h in rw refused refl

-- so what follows the first 66,559 bytes changes nothing
pub enough_for_card : (n : ℕ) → 66558 < n → (input : List ℕ) → Bytes input → card (take n input) ≡ card input
enough_for_card = enough_of_bytes card 66558 (file_line 14) long_card
