-- A block whose byte 1 was set anew: its pending lines are those that were given, and no other byte has changed.
use Prim.Native.Nat.{ℕ, ◌<◌}
use native.Mathlib.Omega.{arith}
use mathlib.Core.Path.{◌≡◌, refl, ap, ◌∙◌}
use mathlib.Core.List.{List}
use mathlib.Core.Bool.{Bool, true, false, not, ◌&&◌}
use lib.Dec.{eqb}
use lib.ListN.{length, get_or, length-set}
use lib.Seq.{get_or-set_same, get_or-set_other}
use borrow.Author.Tests.{eq-eqb, ne_eqb}
use Rattle.rules.proofs.Basics.Views.{and_false_right}
use Rattle.bits.specs.Bits.{bit}
use Rattle.bridge_card.specs.Card.{byte_of}
use Rattle.bridge_card.specs.Card.{is_pending, with_pending, line_cleared}
use Rattle.bridge_card.specs.Meaning.{Cleared}
use Rattle.bits.proofs.BitLaws.{bit_of}

module _ (lines : ℕ → Bool) (b : List ℕ) where
  pub now_pending : length b ≡ 12 → (line : ℕ) → line < 8 → is_pending (with_pending lines b) line ≡ lines line
  now_pending twelve line small = ap (bit line) (get_or-set_same b 1 (byte_of lines) 0 (omega arith)) ∙ bit_of 8 line lines small

  pub other_bytes : (at : ℕ) → (at ≡ 1 → ⊥) → get_or (with_pending lines b) at 0 ≡ get_or b at 0
  other_bytes at other = get_or-set_other b 1 at (byte_of lines) 0 other

  pub as_long : length (with_pending lines b) ≡ length b
  as_long = length-set b 1 (byte_of lines)

-- the line taken is no longer pending
and_not : (a c : Bool) → c ≡ false → (a && not c) ≡ a
and_not true c e = ap not e
and_not false c e = refl

pub cleared : (b : List ℕ) (line : ℕ) → length b ≡ 12 → line < 8 → Cleared b (line_cleared b line) line
unfolding line_cleared
cleared b line twelve small =
    let left : ℕ → Bool = λ other. is_pending b other && not (eqb other line) in
    record {
      bit_gone =
          now_pending left b twelve line small
          ∙ and_false_right (is_pending b line) (not (eqb line line)) (ap not (eq-eqb line line refl));
      others_pending = λ other eight different.
          now_pending left b twelve other eight ∙ and_not (is_pending b other) (eqb other line) (ne_eqb other line different);
      other_bytes = other_bytes left b;
      as_long = as_long left b;
    }
