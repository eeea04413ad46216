-- Which line a poll takes.
use Prim.Native.Nat.{ℕ}
use mathlib.Core.Path.{◌≡◌, refl, ap, ◌∙◌}
use mathlib.Core.List.{List}
use mathlib.Core.Bool.{true, false, ◌&&◌}
use mathlib.Core.Option.{none}
use lib.ListN.{get_or}
use Rattle.bits.specs.Bits.{bit}
use Rattle.bridge_card.specs.Card.{byte_of}
use Rattle.bridge_card.specs.Card.{is_on, may_take, lowest, line_to_take}
use Rattle.bits.proofs.BitLaws.{bit_of}
use Rattle.bridge_card.proofs.Lowest.{same_lowest}

-- with the card on, the lowest of the lines that bytes 1 and 2 have in common
pub taken_on : (b : List ℕ) (lines : ℕ) → lines ≡ byte_of (λ i. bit i (get_or b 1 0) && bit i (get_or b 2 0)) → is_on b ≡ true
    → lowest (λ i. bit i lines) ≡ line_to_take b
unfolding line_to_take
taken_on b lines e on =
    let common = same_lowest (λ i. bit i lines) (may_take b) (λ i small. ap (bit i) e ∙ bit_of 8 i (may_take b) small) in rw on common

-- with the card off, none
pub taken_off : (b : List ℕ) → is_on b ≡ false → none ≡ line_to_take b
unfolding line_to_take
taken_off b off = rw off refl
