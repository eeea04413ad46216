-- THE THEOREM about the code of event files, demand 2. What the code answers is known by the contracts of `start` and `append` alone; by
-- these its answers are the definitions' (`as_defined`), of which rules/proofs/Files/Inverse.antt speaks.
use Prim.Native.Nat.{ℕ, ◌≤◌}
use mathlib.Core.Path.{◌≡◌, refl, ap, sym, ◌∙◌}
use mathlib.Core.List.{List, [], ◌∷◌}
use mathlib.Core.Option.{some}
use lib.ListN.{length, take, drop}
use Rattle.std.specs.Prelude.{Result}
use Rattle.rules.specs.declared.Event.{Event}
use Rattle.rules.specs.declared.refusal.Refusal.{Refusal}
use Rattle.rules.specs.EventFile.{Bytes, file_of, file_refusal, events_of, opened, started, appended}
use Rattle.rules.specs.EventFile as file
use Rattle.rules.specs.Steps.{events_from, appended_all, written_all}
use Rattle.rules.proofs.Files.Inverse.{NoneRefused, written_then_read, read_then_written}
use Rattle.event_file.specs.Answers.{written_as}

-- the contract of a write onto the bytes filled before: its answer and the buffer after it are those of the definition
pub record Writes (w : file.Written) (before : ℕ) (answer : Result ℕ Refusal) (after : List ℕ) : Type 0 where
  pub leaves : written_as before answer after ≡ w

-- events appended one after the other, each to what the last write left
pub data Appended : file.Written → List Event → file.Written → Type 0 where
  all_done : {left : file.Written} → Appended left [] left
  one_more : {left last : file.Written} {answer : Result ℕ Refusal} {after : List ℕ} {e : Event} {es : List Event}
      → Writes (appended left.buffer left.filled e) left.filled answer after → Appended (written_as left.filled answer after) es last
      → Appended left (e ∷ es) last

-- while no write is refused, the code leaves what the definitions leave
as_defined : {left last : file.Written} {es : List Event} → Appended left es last → NoneRefused es left → last ≡ appended_all es left
unfolding appended_all
as_defined all_done n = refl
as_defined (one_more {left = left} {e = e} {es = es} w rest) n =
    as_defined rest (rw w.leaves n.1) ∙ ap (appended_all es) w.leaves ∙ rw n.0 refl

-- Of every list of events whose file is not longer than the buffer and 65,536 bytes: starting a file and appending them is not refused;
-- the bytes filled open, and their events, read whole or step by step, are that list; every other byte is as it was.
pub record ReadBack (es : List Event) (before : List ℕ) (last : file.Written) : Type 0 where
  pub accepted : last.refusal ≡ 0
  pub opens : opened (take last.filled last.buffer) ≡ record { refusal = 0; offset = 5 }
  pub events : events_of (take last.filled last.buffer) ≡ es
  pub events_stepped : events_from (take last.filled last.buffer) 5 ≡ some es
  pub other_bytes : drop last.filled last.buffer ≡ drop last.filled before

-- Every accepted file of bytes is byte for byte what starting a file, in any buffer that is long enough, and appending its events leaves in
-- the bytes filled; every other byte is as it was.
pub record Rewritten (bytes before : List ℕ) (last : file.Written) : Type 0 where
  pub accepted : last.refusal ≡ 0
  pub first_bytes : take last.filled last.buffer ≡ bytes
  pub other_bytes : drop last.filled last.buffer ≡ drop last.filled before

pub record Inverse : Type 0 where
  pub written_read : {answer : Result ℕ Refusal} {before begun : List ℕ} {last : file.Written} {es : List Event}
      → Writes (started before) 0 answer begun → Appended (written_as 0 answer begun) es last
      → length (file_of es) ≤ length before → length (file_of es) ≤ 65536 → ReadBack es before last
  pub read_written : {answer : Result ℕ Refusal} {bytes before begun : List ℕ} {last : file.Written}
      → Bytes bytes → file_refusal bytes ≡ 0 → length bytes ≤ length before
      → Writes (started before) 0 answer begun → Appended (written_as 0 answer begun) (events_of bytes) last → Rewritten bytes before last

-- the writes of the code, from a start on, are those of the definitions
all_written : (before : List ℕ) {answer : Result ℕ Refusal} {begun : List ℕ} {last : file.Written} {es : List Event}
    → Writes (started before) 0 answer begun → Appended (written_as 0 answer begun) es last → NoneRefused es (started before)
    → written_all es before ≡ last
all_written before w a none = ap (appended_all _) (sym w.leaves) ∙ sym (as_defined a (rw w.leaves none))

pub demand_2_files : Inverse
demand_2_files =
    record {
      written_read =
          λ {answer} {before} {begun} {last} {es} w a room small.
          let x = written_then_read es before room small in
          let same = all_written before w a x.none_refused in
          record {
            accepted = rw same at x.accepted_last;
            opens = rw same at x.opens;
            events = rw same at x.events;
            events_stepped = rw same at x.events_stepped;
            other_bytes = rw same at x.other_bytes;
          };
      read_written =
          λ {answer} {bytes} {before} {begun} {last} narrow h room w a.
          let x = read_then_written bytes before narrow h room in
          let same = all_written before w a x.none_refused in
          record {
            accepted = rw same at x.accepted_last;
            first_bytes = rw same at x.first_bytes;
            other_bytes = rw same at x.other_bytes;
          };
    }
