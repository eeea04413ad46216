-- What an input has before its file, and what is printed of it.
use Prim.Native.Nat.{ℕ, ◌≤◌}
use native.Mathlib.Omega.{arith}
use mathlib.Core.Path.{◌≡◌, refl}
use mathlib.Core.List.{List}
use lib.ListN.{length, get_or, drop, length-drop}
use lib.Seq.{length-take-le}
use Rattle.std.specs.Prelude.{Result, Err}
use Rattle.rules.specs.declared.refusal.Refusal.{Refusal}
use Rattle.rules.specs.RefusalNumbers.{number_of, number_in}
use Rattle.rules.specs.EventFile.{Bytes}
use Rattle.rules.specs.Key.{file_line}
use Rattle.replay.proofs.Inputs.{not_short}
use Rattle.text.proofs.Refused.{refused_answer}
use Rattle.card_sheet.specs.Sheet.{block_in, count_at, commands_in, file_at, input_refusal, command_lines, at_first, card_after, card}

module _ (input : List ℕ) where
  -- of bytes, up to 1,022 stand before the file
  pub file_early : Bytes input → file_at input ≤ 1022
  file_early narrow = omega (arith, narrow 0, narrow (count_at input))

  pub block_length : input_refusal input ≡ 0 → length (block_in input) ≡ get_or input 0 0
  block_length accepted =
      length-take-le (get_or input 0 0) (drop 1 input) (omega (arith, not_short (file_at input) input accepted, length-drop 1 input))

  pub refused_card : {A : Type 0} {answer : Result A Refusal} {why : Refusal} → number_in answer ≡ input_refusal input
      → answer ≡ Err why → file_line (number_of why) ≡ card input
  unfolding card
  refused_card asked is = refused_answer (λ k. card_after k input) (λ _. refl) asked is

  pub accepted_card : input_refusal input ≡ 0 → command_lines 1 (commands_in input) (at_first input) ≡ card input
  unfolding card
  accepted_card e = rw e refl
