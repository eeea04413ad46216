-- THE THEOREM of the input: one byte more than is allowed is enough of any input, because a longer one is refused by its length alone.
use Prim.Native.Nat.{ℕ, ◌≤◌, ◌<◌}
use native.Mathlib.Omega.{arith}
use mathlib.Core.Path.{◌≡◌, sym, ap, ◌∙◌}
use mathlib.Core.List.{List}
use mathlib.Core.Bool.{false}
use lib.Dec.{ltb}
use lib.ListN.{length, take, length-drop, replicate, length-replicate}
use lib.Seq.{take_all, length-take-le}
use borrow.Author.Tests.{ltb-true, ltb-false, le-ltb}
use Rattle.rules.specs.EventFile.{Bytes}
use Rattle.rules.specs.Key.{file_line, key, plain_key}
use Rattle.rules.specs.Reason.{file_in, reason, reason_refusal}
use Rattle.rules.specs.Shares.{shares}
use Rattle.rules.proofs.Basics.Views.{Two, yes_true, no_false, two}
use Rattle.rules.proofs.Files.ReadThenWritten.{bytes_take}
use Rattle.rules.proofs.Files.Refusing.{refuses_long}

module _ {A : Type 0} (f : List ℕ → A) (most : ℕ) where
  -- a list that is not cut off is whole
  enough_of : (b : List ℕ) → ((n : ℕ) → most < n → n ≤ length b → f (take n b) ≡ f b) → (n : ℕ) → most < n → f (take n b) ≡ f b
  enough_of b long n more = by (two (ltb (length b) n))
    where
      by : Two (ltb (length b) n) → f (take n b) ≡ f b
      by (yes_true h) =
          let short : length b < n = ltb-true (length b) n h in
          ap f (take_all n b (omega arith))
      by (no_false h) = long n more (ltb-false (length b) n h)

  -- a function that a list cut off after more than `most` elements answers as the whole needs no more than one element more
  pub enough : ((b : List ℕ) (n : ℕ) → most < n → n ≤ length b → f (take n b) ≡ f b) → (n : ℕ) → most < n → (b : List ℕ)
      → f (take n b) ≡ f b
  enough long n more b = enough_of b (long b) n more

  -- nor does one that gives one answer to all lists with more than `most` elements
  pub enough_for_one : (a : A) → ((b : List ℕ) → most < length b → f b ≡ a) → (n : ℕ) → most < n → (b : List ℕ) → f (take n b) ≡ f b
  enough_for_one a long =
      enough (λ b n more fits. long (take n b) (omega (arith, length-take-le n b fits)) ∙ sym (long b (omega arith)))

  -- the same of lists of bytes
  pub enough_of_bytes : (a : A) → ((b : List ℕ) → Bytes b → most < length b → f b ≡ a) → (n : ℕ) → most < n → (b : List ℕ) → Bytes b
      → f (take n b) ≡ f b
  enough_of_bytes a long n more b narrow =
      enough_of b
      (λ n more fits. long (take n b) (bytes_take n b narrow) (omega (arith, length-take-le n b fits)) ∙ sym (long b narrow (omega arith)))
      n more

-- a file of more than 65,536 bytes is refused, and its key is that refusal's line
long_key : (file : List ℕ) → 65536 < length file → key file ≡ file_line 14
unfolding key
long_key file h = rw (refuses_long file h)

long_plain_key : (file : List ℕ) → 65536 < length file → plain_key file ≡ file_line 14
unfolding plain_key
long_plain_key file h = rw (refuses_long file h)

long_shares : (file : List ℕ) → 65536 < length file → shares file ≡ file_line 14
unfolding shares
long_shares file h = rw (refuses_long file h)

-- the buffer for a file that is read has one byte more than a file may have
pub buffer_long : (b : List ℕ) → b ≡ replicate 65537 0 → 65536 < length b
buffer_long b e = omega (arith, ap length e, length-replicate {A = ℕ} 65537 0)

-- so what follows the first 65,537 bytes changes nothing
pub enough_for_key : (n : ℕ) → 65536 < n → (b : List ℕ) → key (take n b) ≡ key b
enough_for_key = enough_for_one key 65536 (file_line 14) long_key

pub enough_for_plain_key : (n : ℕ) → 65536 < n → (b : List ℕ) → plain_key (take n b) ≡ plain_key b
enough_for_plain_key = enough_for_one plain_key 65536 (file_line 14) long_plain_key

pub enough_for_shares : (n : ℕ) → 65536 < n → (b : List ℕ) → shares (take n b) ≡ shares b
enough_for_shares = enough_for_one shares 65536 (file_line 14) long_shares

-- the program `reason` has the event number, 4 bytes, before its file: 65,540 bytes are the most that it can accept
long_reason : (input : List ℕ) → 65540 < length input → reason input ≡ file_line 14
unfolding reason reason_refusal
long_reason input h =
    let whole : ltb (length input) 4 ≡ false = le-ltb (length input) 4 (omega arith) in
    rw (whole, refuses_long (file_in input) (omega (arith, length-drop 4 input)))

-- and what follows the first 65,541 bytes changes nothing
pub enough_for_reason : (n : ℕ) → 65540 < n → (b : List ℕ) → reason (take n b) ≡ reason b
enough_for_reason = enough_for_one reason 65540 (file_line 14) long_reason
