-- The plain machine's key of a file by cases, put at the front of a buffer with room.
use Rattle.std.specs.Prelude.{Result, Err}
use Prim.Native.Nat.{ℕ}
use mathlib.Core.Path.{◌≡◌, refl}
use mathlib.Core.List.{List}
use Rattle.rules.specs.declared.refusal.Refusal.{Refusal}
use Rattle.rules.specs.RefusalNumbers.{number_of, number_in}
use Rattle.rules.specs.Lists.{plain_run}
use Rattle.rules.specs.EventFile.{file_refusal, events_of}
use Rattle.rules.specs.Plain.{empty_plain}
use Rattle.rules.specs.Key.{file_line, plain_lines, plain_key_after, plain_key}
use Rattle.text.proofs.Refused.{refused_answer}

-- a refused file
pub refused_key : (file : List ℕ) {A : Type 0} {answer : Result A Refusal} {why : Refusal} → number_in answer ≡ file_refusal file
    → answer ≡ Err why → file_line (number_of why) ≡ plain_key file
unfolding plain_key
refused_key file asked is = refused_answer (λ k. plain_key_after k file) (λ _. refl) asked is

-- an accepted file
pub accepted_key : (file : List ℕ) → file_refusal file ≡ 0 → plain_lines 1 (plain_run (events_of file) empty_plain) ≡ plain_key file
unfolding plain_key
accepted_key file e = rw e
