-- What an input has before its file, and what is printed of it.
use Prim.Native.Nat.{ℕ, ◌≤◌}
use native.Mathlib.Omega.{arith}
use mathlib.Core.Path.{◌≡◌, refl}
use mathlib.Core.List.{List}
use Rattle.std.specs.Prelude.{Result, Err}
use Rattle.rules.specs.declared.refusal.Refusal.{Refusal}
use Rattle.rules.specs.RefusalNumbers.{number_of, number_in}
use Rattle.rules.specs.EventFile.{Bytes}
use Rattle.rules.specs.Key.{file_line}
use Rattle.text.proofs.Refused.{refused_answer}
use Rattle.orders_sheet.specs.Sheet.{commands_in, file_at, input_refusal, command_lines, at_first, orders_after, orders}

module _ (input : List ℕ) where
  -- of bytes, up to 1,531 stand before the file
  pub file_early : Bytes input → file_at input ≤ 1531
  file_early narrow = omega (arith, narrow 0)

  pub refused_orders : {A : Type 0} {answer : Result A Refusal} {why : Refusal} → number_in answer ≡ input_refusal input
      → answer ≡ Err why → file_line (number_of why) ≡ orders input
  unfolding orders
  refused_orders asked is = refused_answer (λ k. orders_after k input) (λ _. refl) asked is

  pub accepted_orders : input_refusal input ≡ 0 → command_lines 1 (commands_in input) (at_first input) ≡ orders input
  unfolding orders
  accepted_orders e = rw e refl
