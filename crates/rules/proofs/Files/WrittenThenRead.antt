-- What is written is read back: record by record, then the whole file.
use Prim.Native.Nat.{ℕ, ◌+◌, ◌≤◌}
use mathlib.Core.Path.{◌≡◌, refl, ap, ap₂, ◌∙◌}
use mathlib.Core.List.{List, [], ◌∷◌, ◌++◌}
use mathlib.Core.Option.{Option, some}
use native.Mathlib.Omega.{arith}
use lib.ListN.{length, length-append}
use lib.Seq.{take-append_seam, drop-append_seam}
use borrow.Author.Tests.{le-leb}
use Rattle.rules.specs.declared.Role.TheVariants.{Client, Server}
use Rattle.rules.specs.declared.Event.{Event}
use Rattle.rules.specs.declared.Event.TheVariants.{Create, Give, Call, Reply, Block, Wake, Charge, Abort, Refill, Remove, Rank}
use Rattle.rules.specs.EventFile.{word_of, high_byte, low_byte, kind_of, operands_of, record_of, records_of, four_bytes, file_of}
use Rattle.rules.specs.EventFile.{body_of, record_at, joined, events_after, length_field, records_in, or_none, file_refusal, events_of}
use Rattle.rules.proofs.Files.Reading.{events_after_cons}
use Rattle.rules.proofs.Files.Accepting.{Headed, unrefused}

-- two bytes hold their number
word_back : (n : ℕ) → word_of (high_byte n) (low_byte n) ≡ n
word_back n = omega arith

-- the bytes that a record's length byte counts
abbrev body_bytes : Event → List ℕ
body_bytes e = kind_of e ∷ operands_of e

-- a record's bytes are read as its event
body_back : (e : Event) → body_of (body_bytes e) ≡ some e
body_back (Create n Client) = refl
body_back (Create n Server) = refl
body_back (Give t n priority quantum) = ap (λ (q : ℕ). some (Give t n priority q)) (word_back quantum)
body_back (Call server) = refl
body_back Reply = refl
body_back Block = refl
body_back (Wake n) = refl
body_back (Charge units) = ap (λ (u : ℕ). some (Charge u)) (word_back units)
body_back (Abort n) = refl
body_back (Refill t) = refl
body_back (Remove n) = refl
body_back (Rank t priority) = refl

-- whatever follows them
within : (body rest : List ℕ) → record_at (length body ∷ (body ++ rest)) ≡ body_of body
unfolding record_at
within body rest =
    let h : length body ≤ length (body ++ rest) = simp length-append (omega arith) in
    rw (le-leb (length body) (length (body ++ rest)) h, take-append_seam)

-- a record, then the rest
record_back : (e : Event) (rest : List ℕ) → events_after 0 (record_of e ++ rest) ≡ joined (some e) (events_after 0 rest)
record_back e rest =
    events_after_cons (length (body_bytes e)) (body_bytes e ++ rest)
    ∙ ap₂ (λ (o : Option Event) (l : List ℕ). joined o (events_after 0 l))
    (within (body_bytes e) rest ∙ body_back e)
    (drop-append_seam (body_bytes e) rest)

pub records_back : (es : List Event) → events_after 0 (records_of es) ≡ some es
unfolding records_of events_after
records_back [] = refl
records_back (e ∷ es) = record_back e (records_of es) ∙ ap (λ (o : Option (List Event)). joined (some e) o) (records_back es)

-- the first five bytes
pub length-file_of : (es : List Event) → length (file_of es) ≡ 5 + length (records_of es)
unfolding file_of
length-file_of es = omega arith

four_back : (n : ℕ) (rest : List ℕ) → length_field (four_bytes n ++ rest) ≡ n
four_back n rest = omega arith

headed_back : (es : List Event) → length (file_of es) ≤ 65536 → Headed (file_of es)
unfolding file_of
headed_back es h =
    let field : length_field (file_of es) ≡ 1 + length (records_of es) = four_back (1 + length (records_of es)) (1 ∷ records_of es) in
    let size : length (file_of es) ≡ 5 + length (records_of es) = length-file_of es in
    record { small = h; counted = omega arith; five = omega arith; version = refl }

records_in_back : (es : List Event) → records_in (file_of es) ≡ some es
unfolding file_of
records_in_back es = records_back es

pub accepted_back : (es : List Event) → length (file_of es) ≤ 65536 → file_refusal (file_of es) ≡ 0
accepted_back es h = unrefused (file_of es) es (headed_back es h) (records_in_back es)

pub events_of_back : (es : List Event) → events_of (file_of es) ≡ es
unfolding events_of
events_of_back es = ap or_none (records_in_back es)
