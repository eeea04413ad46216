-- The text put so far and that of what is left make the whole: of the block's bytes, and of the commands.
use Prim.Native.Nat.{ℕ, ◌+◌, ◌≤◌, ◌<◌}
use native.Mathlib.Numerals.{add-one}
use native.Mathlib.Omega.{arith}
use mathlib.Core.Path.{◌≡◌, ap}
use mathlib.Core.List.{List, [], ◌∷◌, ◌++◌}
use lib.ListN.{length, get_or, drop, drop_of_length-le}
use lib.Seq.{drop-cons}
use Rattle.rules.specs.Key.{bytes, decimal}
use Rattle.text.specs.Put.{Put}
use Rattle.text.proofs.Puts.{◌then◌}
use Rattle.text.proofs.Putting.{Going, begin, more, finish}
use Rattle.card_sheet.specs.Sheet.{block_text}

-- the first i bytes of the block are put
pub record Bytewise (block before now : List ℕ) (at place i : ℕ) : Type 0 where
  pub inside : i ≤ length block
  pub going : Going before now at place (block_text (drop i block)) (block_text block)

pub byte_none : (block before : List ℕ) (at : ℕ) → Bytewise block before before at at 0
byte_none block before at = record { inside = omega arith; going = begin before at (block_text block) }

module _ {block before now : List ℕ} {at place i : ℕ} (x : Bytewise block before now at place i) where
  -- a space and the next one
  pub byte_one : i < length block → {spaced after : List ℕ} {space to : ℕ} → Put now spaced place space (32 ∷ [])
      → Put spaced after space to (decimal (get_or block i 0)) → Bytewise block before after at to (i + 1)
  unfolding block_text bytes
  byte_one more_left p q =
      let this = bytes " " ++ decimal (get_or block i 0) in
      let rest = block_text (drop (i + 1) block) in
      let next : drop i block ≡ get_or block i 0 ∷ drop (i + 1) block = rw add-one (drop-cons block i 0 more_left) in
      record {
        inside = omega arith;
        going = more x.going this {rest = rest} (p then q) (ap block_text next);
      }

  -- the line's end
  pub byte_all : length block ≤ i → {after : List ℕ} {to : ℕ} → Put now after place to (10 ∷ []) → Put before after at to (block_text block)
  unfolding block_text bytes
  byte_all past p = finish x.going p (ap block_text (drop_of_length-le block past))
