-- Reading and writing undo each other: the theorems about event files.
use Prim.Native.Nat.{ℕ, zero, suc, ◌+◌, ◌*◌, ◌≤◌}
use mathlib.Core.Path.{◌≡◌, refl, ap, sym, ◌∙◌}
use mathlib.Core.List.{List, [], ◌∷◌}
use mathlib.Core.Bool.{true}
use mathlib.Core.Option.{Option, none, some}
use native.Mathlib.Omega.{arith}
use lib.ListN.{length, take, drop}
use lib.Seq.{take-append_seam, drop-append_seam}
use Rattle.rules.specs.declared.Event.{Event}
use Rattle.rules.specs.EventFile.{Bytes, file_of, records_in, or_none, file_refusal, events_of, opened, event, stepped, fits, all_fit}
use Rattle.rules.specs.EventFile.{Written, started, appended}
use Rattle.rules.specs.Steps.{events_from, unless_refused, appended_all, written_all}
use Rattle.rules.proofs.Files.Records.{records_length}
use Rattle.rules.proofs.Files.Accepting.{accepted}
use Rattle.rules.proofs.Files.Stepping.{opened_accepted, found_record}
use Rattle.rules.proofs.Files.WrittenThenRead.{length-file_of, accepted_back, events_of_back}
use Rattle.rules.proofs.Files.ReadThenWritten.{bytes_drop, record_fits, file_written, all_fit_lem}
use Rattle.rules.proofs.Files.Stepwise.{steps_collect}
use Rattle.rules.proofs.Files.Appending.{Holds, holds_all}

-- 1. The file of every list of events, if not too long, is accepted and read back as that list. No operand need fit its bytes.
pub reads_back : (es : List Event) → length (file_of es) ≤ 65536 → (file_refusal (file_of es) ≡ 0) × (events_of (file_of es) ≡ es)
reads_back es h = (accepted_back es h, events_of_back es)

-- 2. Every accepted file of bytes is, byte for byte, the one that the writer makes of its events.
pub as_written : (file : List ℕ) → Bytes file → file_refusal file ≡ 0 → file ≡ file_of (events_of file)
as_written file bytes h = let a = accepted file h in file_written file (events_of file) bytes a.head a.records

-- So a list of events has one file only: no two accepted files of bytes are read as the same events.
pub reading_injective :
    (file other : List ℕ) → Bytes file → Bytes other → file_refusal file ≡ 0 → file_refusal other ≡ 0 →
    events_of file ≡ events_of other → file ≡ other
reading_injective file other bytes bytes' h h' same =
    as_written file bytes h ∙ ap file_of same ∙ sym (as_written other bytes' h')

-- Every event read from bytes, of a whole file or at a step, accepted or not, holds only what its operands can hold.
pub events_fit : (file : List ℕ) → Bytes file → all_fit (events_of file) ≡ true
unfolding events_of all_fit
events_fit file bytes = go (records_in file) refl
  where
    go : (o : Option (List Event)) → records_in file ≡ o → all_fit (or_none o) ≡ true
    go none e = refl
    go (some es) e = all_fit_lem file es bytes e

pub step_fits : (file : List ℕ) (at : ℕ) (e : Event) → Bytes file → (stepped file at).found ≡ event e → fits e ≡ true
step_fits file at e bytes found = record_fits (drop at file) e (bytes_drop at file bytes) (found_record file at e found)

-- 3. Stepping through an accepted file, from offset 5 to its end, yields exactly its events.
pub steps : (file : List ℕ) → file_refusal file ≡ 0 → events_from file 5 ≡ some (events_of file)
steps file h =
    let a = accepted file h in
    let five = a.head.five in
    steps_collect (length file) file 5 (omega arith) five (omega arith) ∙ a.records

-- 4. Starting a file and appending a list, in a buffer with room for it, is never refused: the first refusal would end it and
-- stand as the answer. The bytes filled are the file of that list, and every other byte is as it was.
pub record Appends (es : List Event) (before : List ℕ) (w : Written) : Type 0 where
  pub accepted_each : w.refusal ≡ 0
  pub filled_by : w.filled ≡ length (file_of es)
  pub first_bytes : take w.filled w.buffer ≡ file_of es
  pub other_bytes : drop w.filled w.buffer ≡ drop w.filled before

pub appends :
    (es : List Event) (buffer : List ℕ) → length (file_of es) ≤ length buffer → length (file_of es) ≤ 65536 →
    Appends es buffer (written_all es buffer)
appends es buffer room small =
    let h : Holds buffer es (written_all es buffer) = holds_all es buffer room small in
    record {
      accepted_each = h.accepted;
      filled_by = h.filled;
      first_bytes = rw (h.filled, h.buffer) (take-append_seam (file_of es) _);
      other_bytes = rw (h.filled, h.buffer) (drop-append_seam (file_of es) _);
    }

-- 5. WRITTEN, THEN READ. Of every list of events whose file is not longer than the buffer and 65,536 bytes: neither the start nor any
-- append is refused; the first bytes filled are a file that opens, and whose events, read whole or step by step, are exactly that list;
-- and every other byte is as it was. No operand need fit its bytes.
abbrev pub NoneRefused : List Event → Written → Type 0
NoneRefused [] last = last.refusal ≡ 0
NoneRefused (e ∷ es) last = (last.refusal ≡ 0) × NoneRefused es (appended last.buffer last.filled e)

pub record ReadBack (es : List Event) (before : List ℕ) (w : Written) : Type 0 where
  pub none_refused : NoneRefused es (started before)
  pub accepted_last : w.refusal ≡ 0
  pub opens : opened (take w.filled w.buffer) ≡ record { refusal = 0; offset = 5 }
  pub events : events_of (take w.filled w.buffer) ≡ es
  pub events_stepped : events_from (take w.filled w.buffer) 5 ≡ some es
  pub other_bytes : drop w.filled w.buffer ≡ drop w.filled before

-- an answer without refusal comes only after writes without refusal
none_by :
    (n : ℕ) (e : Event) (es : List Event) (last : Written) → last.refusal ≡ n →
    ((appended_all es (appended last.buffer last.filled e)).refusal ≡ 0 → NoneRefused es (appended last.buffer last.filled e)) →
    (unless_refused n last (appended_all es (appended last.buffer last.filled e))).refusal ≡ 0 → NoneRefused (e ∷ es) last
none_by zero e es last now later h = (now, later h)
none_by (suc n) e es last now later h = absurd (omega arith)

none_on_the_way : (es : List Event) (last : Written) → (appended_all es last).refusal ≡ 0 → NoneRefused es last
unfolding appended_all
none_on_the_way [] last h = h
none_on_the_way (e ∷ es) last h =
    none_by last.refusal e es last refl (none_on_the_way es (appended last.buffer last.filled e)) h

pub written_then_read :
    (es : List Event) (buffer : List ℕ) → length (file_of es) ≤ length buffer → length (file_of es) ≤ 65536 →
    ReadBack es buffer (written_all es buffer)
written_then_read es buffer room small =
    let a = appends es buffer room small in
    let good : file_refusal (file_of es) ≡ 0 = accepted_back es small in
    record {
      none_refused = none_on_the_way es (started buffer) a.accepted_each;
      accepted_last = a.accepted_each;
      opens = ap opened a.first_bytes ∙ sym (opened_accepted (file_of es) 0 (sym good) refl);
      events = ap events_of a.first_bytes ∙ events_of_back es;
      events_stepped =
          ap (λ (file : List ℕ). events_from file 5) a.first_bytes ∙ steps (file_of es) good ∙ ap some (events_of_back es);
      other_bytes = a.other_bytes;
    }

-- 6. READ, THEN WRITTEN. Every accepted file of bytes is byte for byte what starting, in any buffer that is long enough, and appending its
-- events leaves in the first bytes filled. No write is refused, and every other byte is as it was.
pub record Rewritten (file before : List ℕ) (w : Written) : Type 0 where
  pub none_refused : NoneRefused (events_of file) (started before)
  pub accepted_last : w.refusal ≡ 0
  pub filled_by : w.filled ≡ length file
  pub first_bytes : take w.filled w.buffer ≡ file
  pub other_bytes : drop w.filled w.buffer ≡ drop w.filled before

pub read_then_written :
    (file buffer : List ℕ) → Bytes file → file_refusal file ≡ 0 → length file ≤ length buffer →
    Rewritten file buffer (written_all (events_of file) buffer)
read_then_written file buffer bytes h room =
    let same = as_written file bytes h in
    let size : length file ≡ length (file_of (events_of file)) = ap length same in
    let a = appends (events_of file) buffer (omega arith) (omega (arith, (accepted file h).head.small)) in
    record {
      none_refused = none_on_the_way (events_of file) (started buffer) a.accepted_each;
      accepted_last = a.accepted_each;
      filled_by = a.filled_by ∙ sym size;
      first_bytes = a.first_bytes ∙ sym same;
      other_bytes = a.other_bytes;
    }

-- 7. A record has two bytes or more, so a file has at most half as many events as bytes.
pub events_most : (file : List ℕ) → Bytes file → file_refusal file ≡ 0 → 5 + 2 * length (events_of file) ≤ length file
events_most file bytes h =
    omega (arith, ap length (as_written file bytes h), length-file_of (events_of file), records_length (events_of file))
