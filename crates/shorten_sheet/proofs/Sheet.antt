-- The answer by cases. The file is copied, so that its own bytes stay; what is left of the copy are the records of the shorter question.
use Prim.Native.Nat.{ℕ, ◌+◌, ◌-◌, ◌≤◌, ◌<◌}
use native.Mathlib.Omega.{arith}
use mathlib.Core.Path.{◌≡◌, refl, sym, ap, ◌∙◌, subst}
use mathlib.Core.List.{List, [], ◌∷◌, ◌++◌}
use mathlib.Core.Bool.{Bool}
use lib.ListN.{length, get_or, take, drop, replicate, length-replicate, length-append, length-drop}
use lib.Seq.{take_all, take-append_seam, take-append-le, drop-append-le, length-take-le}
use Rattle.std.specs.Prelude.{Result, Err}
use Rattle.rules.specs.declared.refusal.Refusal.{Refusal}
use Rattle.rules.specs.RefusalNumbers.{number_of, number_in}
use Rattle.rules.specs.declared.Event.{Event}
use Rattle.rules.specs.EventFile.{Bytes, four_bytes, records_of, file_of, file_refusal, events_of}
use Rattle.rules.specs.Key.{file_line}
use Rattle.rules.specs.Shorten.{refused_in, shortened, shorter_if, shorter_after, shorter}
use Rattle.rules.proofs.Files.Accepting.{accepted}
use Rattle.rules.proofs.Files.ReadThenWritten.{bytes_drop}
use Rattle.rules.proofs.Files.Inverse.{as_written}
use Rattle.text.specs.Put.{Put}
use Rattle.text.proofs.Puts.{at_front, keeps}
use Rattle.text.proofs.Refused.{refused_answer}
use Rattle.event_file.specs.Left.{events_at}
use Rattle.shorten_sheet.specs.Standing.{Stand}
use Rattle.shorten_sheet.specs.Promises.{Rests}
use Rattle.shorten_sheet.specs.declared.rounds.Rest.{Rest}
use Rattle.shorten_sheet.proofs.Standing.{events_at_lem, stand_read, stand_size, drop-take}

-- between the two places of a buffer stand the records of the shorter question
pub record Left (k : ℕ) (file buffer : List ℕ) (r : Rest) : Type 0 where
  pub order : r.from ≤ r.to
  pub inside : r.to ≤ length buffer
  pub short : 5 + length (take (r.to - r.from) (drop r.from buffer)) < 65537
  pub bytes : four_bytes (1 + length (take (r.to - r.from) (drop r.from buffer)))
      ++ (1 ∷ take (r.to - r.from) (drop r.from buffer)) ≡ file_of (shortened k (events_of file))

-- the records of an accepted file
module _ (file : List ℕ) (narrow : Bytes file) (h : file_refusal file ≡ 0) where
  pub file_stands : Stand file 5 (events_of file)
  unfolding file_of
  file_stands =
      record { low = omega arith; inside = (accepted file h).head.five; whole = ap (drop 5) (as_written file narrow h) }

  pub file_read : Stand file 5 (events_at 5 file)
  file_read = stand_read file_stands

  pub file_events : events_at 5 file ≡ events_of file
  file_events = events_at_lem file_stands

  -- the copy
  module _ {zeros copy : List ℕ} {end : ℕ} (z : zeros ≡ replicate 65537 0) (p : Put zeros copy 0 end file) where
    zeros_size : length zeros ≡ 65537
    zeros_size = ap length z ∙ length-replicate {A = ℕ} 65537 0

    fits : length file ≤ length zeros
    fits = omega (arith, zeros_size, (accepted file h).head.small)

    pub copy_ends : end ≡ length file
    copy_ends = (at_front fits p).0

    pub copy_inside : end ≤ length copy
    copy_inside = omega (arith, copy_ends, fits, keeps p)

    pub copy_front : take end copy ≡ file
    copy_front =
        ap (λ (n : ℕ). take n copy) copy_ends
        ∙ ap (take (length file)) (at_front fits p).1
        ∙ take-append_seam file (drop (length file) zeros)

    pub copy_stands : Stand (take end copy) 5 (events_at 5 (take end copy))
    copy_stands = subst (λ (l : List ℕ). Stand l 5 (events_at 5 l)) (sym copy_front) file_read

    pub copy_events : events_at 5 (take end copy) ≡ events_of file
    copy_events = ap (events_at 5) copy_front ∙ file_events

    -- what is left of it
    module _ (k : ℕ) {part : List ℕ} {r : Rest} (x : Rests (take end copy) part r (shortened k (events_at 5 (take end copy)))) where
      part_size : length part ≡ length file
      part_size = x.size ∙ ap length copy_front

      rest_order : r.from ≤ r.to
      rest_order = omega (arith, x.stands.inside, length-take-le r.to part x.within)

      rest_inside : r.to ≤ length (part ++ drop end copy)
      rest_inside = omega (arith, x.within, length-append part (drop end copy))

      abbrev records : List ℕ
      records = take (r.to - r.from) (drop r.from (part ++ drop end copy))

      rest_records : records ≡ records_of (shortened k (events_of file))
      rest_records =
          let low : r.from ≤ length part = omega (arith, rest_order, x.within) in
          let size : r.to ≡ r.from + (r.to - r.from) = omega (arith, rest_order) in
          ap (take (r.to - r.from)) (drop-append-le r.from part (drop end copy) low)
          ∙ take-append-le (r.to - r.from) (drop r.from part) (drop end copy) (omega (arith, length-drop r.from part, x.within))
          ∙ sym (drop-take r.from (r.to - r.from) part low)
          ∙ ap (λ (n : ℕ). drop r.from (take n part)) (sym size)
          ∙ x.stands.whole
          ∙ ap (λ (l : List Event). records_of (shortened k l)) copy_events

      rest_short : 5 + length records < 65537
      rest_short =
          omega (
            arith,
            ap length rest_records,
            ap (λ (l : List Event). length (records_of (shortened k l))) copy_events,
            stand_size x.stands,
            length-take-le r.to part x.within,
            x.within,
            x.stands.low,
            part_size,
            (accepted file h).head.small,
          )

      rest_file : four_bytes (1 + length records) ++ (1 ∷ records) ≡ file_of (shortened k (events_of file))
      unfolding file_of
      rest_file = ap (λ (l : List ℕ). four_bytes (1 + length l) ++ (1 ∷ l)) rest_records

      pub left_of_it : Left k file (part ++ drop end copy) r
      left_of_it = record { order = rest_order; inside = rest_inside; short = rest_short; bytes = rest_file }

-- BY CASES: a refused file, and an accepted one, by whether some event is refused with the number
module _ (k : ℕ) (file : List ℕ) where
  pub refused_shorter : {A : Type 0} {answer : Result A Refusal} {why : Refusal} → number_in answer ≡ file_refusal file
      → answer ≡ Err why → file_line (number_of why) ≡ shorter (k ∷ file)
  unfolding shorter
  refused_shorter asked is = refused_answer (λ m. shorter_after m k file) (λ _. refl) asked is

  pub accepted_shorter : file_refusal file ≡ 0 → {b : Bool} → refused_in k (events_of file) ≡ b
      → shorter_if b k (events_of file) ≡ shorter (k ∷ file)
  unfolding shorter
  accepted_shorter h test = rw (h, test)

-- an input that is not empty: the number, and the file behind it
abbrev pub file_behind : List ℕ → List ℕ
file_behind input = take (length input - 1) (drop 1 input)

pub file_narrow : (input : List ℕ) → Bytes input → Bytes (file_behind input)
file_narrow input narrow =
    subst Bytes (sym (take_all (length input - 1) (drop 1 input) (omega (arith, length-drop 1 input)))) (bytes_drop 1 input narrow)

pub number_and_file : (input : List ℕ) → (length input ≡ 0 → ⊥) → get_or input 0 0 ∷ file_behind input ≡ input
number_and_file [] h = absurd (h refl)
number_and_file (k ∷ file) h = ap (λ (l : List ℕ). k ∷ l) (take_all (length (k ∷ file) - 1) file (omega arith))

pub no_input : (input : List ℕ) → length input ≡ 0 → file_line 14 ≡ shorter input
unfolding shorter
no_input [] h = refl
no_input (k ∷ file) h = absurd (omega (arith, h))
