-- The text of a file by cases, put at the front of a buffer with room.
use Prim.Native.Nat.{ℕ}
use mathlib.Core.Path.{◌≡◌, refl}
use mathlib.Core.List.{List}
use Rattle.rules.specs.EventFile.{file_refusal, events_of}
use Rattle.rules.specs.Key.{file_line}
use Rattle.std.specs.Prelude.{Result, Err}
use Rattle.rules.specs.declared.refusal.Refusal.{Refusal}
use Rattle.rules.specs.RefusalNumbers.{number_of, number_in}
use Rattle.text.proofs.Refused.{refused_answer}
use Rattle.list_writer.specs.Writing.{text_of, text_after, file_text}

-- a refused file
pub refused_text : {A : Type 0} {answer : Result A Refusal} {e : Refusal} (file : List ℕ) → number_in answer ≡ file_refusal file
    → answer ≡ Err e → file_line (number_of e) ≡ file_text file
unfolding file_text
refused_text file asked is = refused_answer (λ k. text_after k file) (λ _. refl) asked is

-- an accepted file
pub accepted_text : (file : List ℕ) → file_refusal file ≡ 0 → text_of (events_of file) ≡ file_text file
unfolding file_text
accepted_text file e = rw e
