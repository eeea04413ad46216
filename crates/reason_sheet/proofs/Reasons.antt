-- The reason of an input by cases, in the order in which it is refused.
use Prim.Native.Nat.{ℕ, ◌-◌, ◌≤◌, ◌<◌}
use native.Mathlib.Omega.{arith}
use mathlib.Core.Path.{◌≡◌, refl, sym, ap, ◌∙◌}
use mathlib.Core.List.{List, ◌++◌}
use mathlib.Core.Bool.{true, false, not}
use lib.ListN.{length, take, drop, length-drop}
use lib.Seq.{take_all}
use borrow.Author.Tests.{lt-ltb, le-ltb, not-true, not-false}
use Rattle.std.specs.Prelude.{Result, Err}
use Rattle.rules.specs.declared.refusal.Refusal.{Refusal}
use Rattle.rules.specs.RefusalNumbers.{number_of}
use Rattle.rules.specs.RefusalNumbers as numbers
use Rattle.rules.specs.State.{State}
use Rattle.rules.specs.EventFile.{file_refusal}
use Rattle.rules.specs.Key.{file_line}
use Rattle.rules.specs.Reason.{number_in, file_in, no_such_event, reason_refusal_after, reason_refusal, reason_after, reason, machine_after}
use Rattle.rules.specs.Reason.{above, chain_line, cause_lines, reason_of}
use Rattle.text.proofs.Refused.{refused_answer}

-- all that follows the number is the file
pub whole_file : (input : List ℕ) → take (length input - 4) (drop 4 input) ≡ file_in input
whole_file input = take_all (length input - 4) (drop 4 input) (omega (arith, length-drop 4 input))

-- a shorter input than a number
pub short : (input : List ℕ) → length input < 4 → file_line 14 ≡ reason input
unfolding reason reason_refusal
short input h = rw (lt-ltb (length input) 4 h)

module _ (input : List ℕ) (long : 4 ≤ length input) {file : List ℕ} (is-file : file ≡ file_in input) where
  -- by what the file is refused for
  by_file : (n : ℕ) → n ≡ file_refusal file → reason_after (reason_refusal_after n input) input ≡ reason input
  unfolding reason reason_refusal
  by_file n e =
      rw (le-ltb (length input) 4 long) (ap (λ (k : ℕ). reason_after (reason_refusal_after k input) input) (e ∙ ap file_refusal is-file))

  pub refused_file : {A : Type 0} {answer : Result A Refusal} {why : Refusal} → numbers.number_in answer ≡ file_refusal file
      → answer ≡ Err why → file_line (number_of why) ≡ reason input
  refused_file {answer = answer} asked is =
      refused_answer (λ k. reason_after (reason_refusal_after k input) input) (λ _. refl) refl is ∙ by_file (numbers.number_in answer) asked

  module _ (accepted : file_refusal file ≡ 0) {number : ℕ} (asked : number ≡ number_in input) where
    same_test : no_such_event number file ≡ no_such_event (number_in input) (file_in input)
    same_test = λ i. no_such_event (asked i) (is-file i)

    -- by whether there is such an event
    pub no_event : not (no_such_event number file) ≡ false → file_line 19 ≡ reason input
    no_event h =
        let none : no_such_event (number_in input) (file_in input) ≡ true = sym same_test ∙ not-false (no_such_event number file) h in
        sym (rw none) ∙ by_file 0 (sym accepted)

    pub that_event : not (no_such_event number file) ≡ true → (s : State) → s ≡ machine_after number file
        → chain_line s s.running ++ cause_lines s (above s) ≡ reason input
    unfolding reason_of
    that_event h s is =
        let one : no_such_event (number_in input) (file_in input) ≡ false = sym same_test ∙ not-true (no_such_event number file) h in
        let reached : s ≡ machine_after (number_in input) (file_in input) = is ∙ (λ i. machine_after (asked i) (is-file i)) in
        ap reason_of reached ∙ sym (rw one) ∙ by_file 0 (sym accepted)
