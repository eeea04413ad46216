-- Bytes moved up: they stand before what stood behind the place, and what stood before them stands there still.
use Prim.Native.Nat.{ℕ, ◌+◌, ◌-◌, ◌≤◌}
use native.Mathlib.Omega.{arith}
use mathlib.Core.Path.{◌≡◌, sym, ap, ap₂, ◌∙◌}
use mathlib.Core.List.{List, ◌++◌, append_assoc}
use lib.ListN.{length, take, drop, length-drop}
use lib.Seq.{take-take, length-take-le, drop_at}
use Rattle.std.specs.List.{copy_within}
use Rattle.std.proofs.lemmas.List.{take-append-drop, take-append-le, drop-take}
use Rattle.std.proofs.lemmas.List.Edits.{take-paste, drop-paste}
use Rattle.shorten_sheet.specs.Promises.{Moved}

module _ (before now : List ℕ) (from end place : ℕ) (order : from ≤ end) (above : end ≤ place) (inside : place ≤ length before)
    (is : now ≡ copy_within before from end (place - (end - from))) (size : length now ≡ length before) where
  abbrev at : ℕ
  at = place - (end - from)

  abbrev moved : List ℕ
  moved = take (end - from) (drop from before)

  fits : end - from ≤ length (drop from before)
  fits = omega (arith, length-drop from before)

  up_to : at + (end - from) ≡ place
  up_to = omega arith

  front_half : take place now ≡ take at before ++ moved
  front_half =
      ap (λ (n : ℕ). take n now) (sym up_to) ∙ ap (take (at + (end - from))) is
      ∙ take-paste before at (drop from before) (end - from) (omega arith) fits

  rear_half : drop place now ≡ drop place before
  rear_half =
      ap (λ (n : ℕ). drop n now) (sym up_to) ∙ ap (drop (at + (end - from))) is
      ∙ drop-paste before at (drop from before) (end - from) (omega arith) fits
      ∙ ap (λ (n : ℕ). drop n before) up_to

  long : length (take at before) ≡ at
  long = length-take-le at before (omega arith)

  pub moved_up : Moved before now from end place at
  moved_up =
      let whole : now ≡ take at before ++ (moved ++ drop place before) =
      sym (take-append-drop place now) ∙ ap₂ (λ (l l' : List ℕ). l ++ l') front_half rear_half
      ∙ append_assoc (take at before) moved (drop place before) in
      let cut : drop from (take end before) ≡ moved =
      ap (λ (n : ℕ). drop from (take n before)) (omega arith) ∙ drop-take from (end - from) before in
      record {
        begins = omega arith;
        size = size;
        front =
            sym (take-take from place now (omega arith))
            ∙ ap (take from) front_half
            ∙ take-append-le from (take at before) moved (omega (arith, long))
            ∙ take-take from at before (omega arith);
        rear =
            ap (drop at) whole
            ∙ drop_at (take at before) (moved ++ drop place before) at long
            ∙ ap (λ (l : List ℕ). l ++ drop place before) (sym cut);
      }
