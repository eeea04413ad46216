-- What acceptance says: a file that is not refused has none of the faults that it would be refused for, and the other way round.
use Prim.Native.Nat.{ℕ, zero, suc, ◌+◌, ◌<◌, ◌≤◌}
use mathlib.Core.Path.{◌≡◌, refl}
use mathlib.Core.List.{List}
use mathlib.Core.Option.{Option, none, some}
use native.Mathlib.Omega.{arith}
use lib.ListN.{length, get_or, take}
use lib.Seq.{length-take-le}
use borrow.Author.Tests.{ltb-false}
use Rattle.rules.specs.declared.Event.{Event}
use Rattle.rules.specs.EventFile.{records_in, or_none, length_field, head_refusal, file_refusal, events_of}
use Rattle.rules.specs.EventFile.{record_of, append_refusal_after, append_refusal}
use Rattle.rules.proofs.Basics.Views.{Same, equal, different, same, or_false_both}
use Rattle.rules.proofs.Basics.Accepting.{passes}
use Rattle.rules.proofs.Files.Refusing.{refuses_short, refuses_long, refuses_field_0, refuses_field, Counted}
use Rattle.rules.proofs.Files.Refusing.{refuses_version, head_accepted, refuses_record}

no_refusal : {r n : ℕ} → r ≡ 0 → r ≡ suc n → ⊥
no_refusal e f = omega arith

-- the first five bytes of a file that is not refused by them
pub record Headed (file : List ℕ) : Type 0 where
  pub small : length file ≤ 65536
  pub counted : length_field file + 4 ≡ length file
  pub five : 5 ≤ length file
  pub version : get_or file 4 0 ≡ 1

-- an accepted file has none of the faults that it would be refused for
module _ (file : List ℕ) (h : file_refusal file ≡ 0) where
  counts : Counted file
  counts =
      let long : length file < 4 → ⊥ = λ f. no_refusal h (refuses_short file f) in
      let small : 65536 < length file → ⊥ = λ f. no_refusal h (refuses_long file f) in
      record {
        long = omega arith;
        small = omega arith;
        filled = λ f. no_refusal h (refuses_field_0 file f);
        counted = by (same (length_field file + 4) (length file));
      }
    where
      by : Same (length_field file + 4) (length file) → length_field file + 4 ≡ length file
      by (equal e _) = e
      by (different f _) = absurd (no_refusal h (refuses_field file f))

  versioned : Same (get_or file 4 0) 1 → get_or file 4 0 ≡ 1
  versioned (equal e _) = e
  versioned (different f _) = absurd (no_refusal h (refuses_version file counts f))

  headed : Headed file
  headed =
      let filled : length_field file ≡ 0 → ⊥ = counts.filled in
      let counted : length_field file + 4 ≡ length file = counts.counted in
      let five : 5 ≤ length file = omega arith in
      record { small = counts.small; counted = counted; five = five; version = versioned (same (get_or file 4 0) 1) }

-- and the head of a file that keeps its rules is not refused
unrefused_head : (file : List ℕ) → Headed file → head_refusal file ≡ 0
unrefused_head file h =
    head_accepted file
    (record { long = omega (arith, h.five); small = h.small; filled = omega (arith, h.five, h.counted); counted = h.counted })
    h.version

-- a file is accepted where its head is and its records are events
pub record Accepted (file : List ℕ) : Type 0 where
  pub head : Headed file
  pub records : records_in file ≡ some (events_of file)

read : (file : List ℕ) → file_refusal file ≡ 0 → Headed file → (o : Option (List Event)) → records_in file ≡ o → o ≡ some (or_none o)
read file h head none e = absurd (no_refusal h (refuses_record file (unrefused_head file head) e))
read file h head (some es) e = refl

pub accepted : (file : List ℕ) → file_refusal file ≡ 0 → Accepted file
unfolding events_of
accepted file h = record { head = headed file h; records = read file h (headed file h) (records_in file) refl }

pub unrefused : (file : List ℕ) (es : List Event) → Headed file → records_in file ≡ some es → file_refusal file ≡ 0
unfolding file_refusal
unrefused file es h e = rw (unrefused_head file h, e)

-- a record may be added where the file so far is accepted and there is room
pub record Addable (buffer : List ℕ) (filled : ℕ) (e : Event) : Type 0 where
  pub filled_within : filled ≤ length buffer
  pub file : file_refusal (take filled buffer) ≡ 0
  pub room : filled + length (record_of e) ≤ length buffer
  pub small : filled + length (record_of e) ≤ 65536

addable_after :
    (n : ℕ) (buffer : List ℕ) (filled : ℕ) (e : Event) →
    filled ≤ length buffer → file_refusal (take filled buffer) ≡ n → append_refusal_after n buffer filled e ≡ 0 →
    Addable buffer filled e
addable_after zero buffer filled e h f r =
    let ways = or_false_both _ _ (passes _ 16 _ r).0 in
    record { filled_within = h; file = f; room = ltb-false _ _ ways.0; small = ltb-false _ _ ways.1 }
addable_after (suc n) buffer filled e h f r = absurd (omega arith)

pub addable : (buffer : List ℕ) (filled : ℕ) (e : Event) → append_refusal buffer filled e ≡ 0 → Addable buffer filled e
unfolding append_refusal
addable buffer filled e r =
    let ways = passes _ 13 _ r in
    addable_after _ buffer filled e (ltb-false _ _ ways.0) refl ways.1

-- the file so far has its first five bytes
pub addable_five : (buffer : List ℕ) (filled : ℕ) (e : Event) → Addable buffer filled e → 5 ≤ filled
addable_five buffer filled e a =
    let h = (accepted (take filled buffer) a.file).head.five in
    omega (arith, length-take-le filled buffer a.filled_within)
