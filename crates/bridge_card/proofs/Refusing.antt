-- The refusals 20 and 21 by their tests.
use Prim.Native.Nat.{ℕ}
use native.Mathlib.Omega.{arith}
use mathlib.Core.Path.{◌≡◌, refl}
use mathlib.Core.List.{List}
use mathlib.Core.Bool.{Bool, true, false}
use lib.ListN.{length}
use borrow.Author.Tests.{eq-eqb, ne_eqb}
use Rattle.std.proofs.Common.{tests}
use Rattle.bridge_card.specs.Card.{is_block, refusal_of}

module _ (b : List ℕ) where
  -- "20, a block that is not 12 bytes, before all others"
  pub no_block : (length b ≡ 12 → ⊥) → is_block b ≡ false
  no_block other = ne_eqb (length b) 12 other

  pub a_block : length b ≡ 12 → is_block b ≡ true
  a_block twelve = eq-eqb (length b) 12 twelve

  -- what is accepted, and what is known of it
  pub not_refused : length b ≡ 12 → (wrong : Bool) → wrong ≡ false → 0 ≡ refusal_of b wrong
  not_refused twelve wrong e = rw (a_block twelve, e) refl

  pub twelve_long : (wrong : Bool) → refusal_of b wrong ≡ 0 → length b ≡ 12
  twelve_long wrong e = grind (arith, tests)
