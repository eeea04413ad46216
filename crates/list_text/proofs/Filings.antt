-- What a list that is read says of its file: it has room, and its records are those of the lines; a list that is not read names a line.
use Prim.Native.Nat.{ℕ, ◌+◌, ◌-◌, ◌≤◌}
use native.Mathlib.Omega.{arith}
use mathlib.Core.Path.{◌≡◌, refl, sym, ap, ap₂, ◌∙◌}
use mathlib.Core.Bool.{Bool, true, false, cond}
use mathlib.Core.List.{List, [], ◌∷◌, ◌++◌}
use lib.ListN.{length, take, drop, length-append}
use lib.Dec.{ltb}
use borrow.Author.Tests.{ltb-false}
use Rattle.rules.specs.declared.Event.{Event}
use Rattle.rules.specs.EventFile.{record_of, records_of, four_bytes, file_of}
use Rattle.rules.proofs.Basics.Views.{Two, yes_true, no_false, two}
use Rattle.rules.proofs.Files.WrittenThenRead.{length-file_of}
use Rattle.text.specs.Put.{Put}
use Rattle.text.proofs.Puts.{at_front, reading}
use Rattle.list_line.specs.Reading.{Line}
use Rattle.list_line.specs.Reading.{Empty, One, Wrong}
use Rattle.list_line.specs.Reading.{parts, line_feed, line_of}
use Rattle.list_text.specs.Answers.{Filed}
use Rattle.list_text.specs.Reading.{Answer, read, refused, with_event, after_line, read_lines, line_after, read_text}
use Rattle.list_text.specs.Answers.{filed_as, buffer_as}
use Rattle.list_text.specs.Counting.{counted, line_record, lines_records}

-- the file so far has `filled` bytes
abbrev pub Good : ℕ → List (List ℕ) → Answer → Type 0
Good filled lines (read es) = (filled + length (records_of es) ≤ 65536) × (records_of es ≡ lines_records lines)
Good filled lines (refused line fault) = 1 ≤ line

module _ (line : List ℕ) (rest : List (List ℕ)) where
  carry_empty : (filled : ℕ) (a : Answer) → line_of line ≡ Empty → Good filled rest a → Good filled (line ∷ rest) a
  unfolding lines_records
  carry_empty filled (read es) e g = (g.0, g.1 ∙ ap (λ (l : Line). line_record l ++ lines_records rest) (sym e))
  carry_empty filled (refused n fault) e g = g

  carry_one : (filled : ℕ) (event : Event) (a : Answer) → line_of line ≡ One event → Good (filled + length (record_of event)) rest a
      → Good filled (line ∷ rest) (with_event event a)
  unfolding lines_records records_of
  carry_one filled event (read es) e g = (
    omega (arith, g.0, length-append (record_of event) (records_of es)),
    ap (λ (l : List ℕ). record_of event ++ l) g.1 ∙ ap (λ (l : Line). line_record l ++ lines_records rest) (sym e),
  )
  carry_one filled event (refused n fault) e g = g

  after_one : (number filled : ℕ) (event : Event) (next : ℕ → Answer) → line_of line ≡ One event → 1 ≤ number
      → ((k : ℕ) → k ≤ 65536 → Good k rest (next k)) → Two (ltb 65536 (filled + length (record_of event)))
      → Good filled (line ∷ rest) (after_line number filled (One event) next)
  after_one number filled event next e some ih (yes_true t) = rw t some
  after_one number filled event next e some ih (no_false t) =
      let room = ltb-false 65536 (filled + length (record_of event)) t in
      rw t (carry_one filled event (next (filled + length (record_of event))) e (ih (filled + length (record_of event)) room))

  after_any : (number filled : ℕ) (l : Line) (next : ℕ → Answer) → line_of line ≡ l → 1 ≤ number → filled ≤ 65536
      → ((k : ℕ) → k ≤ 65536 → Good k rest (next k)) → Good filled (line ∷ rest) (after_line number filled l next)
  after_any number filled Empty next e some small ih = carry_empty filled (next filled) e (ih filled small)
  after_any number filled (Wrong fault) next e some small ih = some
  after_any number filled (One event) next e some small ih =
      after_one number filled event next e some ih (two (ltb 65536 (filled + length (record_of event))))

lines_good : (lines : List (List ℕ)) (number filled : ℕ) → 1 ≤ number → filled ≤ 65536 → Good filled lines (read_lines number filled lines)
unfolding read_lines lines_records records_of
lines_good [] number filled some small = (omega arith, refl)
lines_good (line ∷ rest) number filled some small =
    after_any line rest number filled (line_of line) _ refl some small (λ k h. lines_good rest (number + 1) k (omega arith) h)

step_by : (b : Bool) (line : ℕ) → 1 ≤ line → 1 ≤ cond b (line + 1) line
step_by true line h = omega arith
step_by false line h = h

line_named : (text : List ℕ) (line : ℕ) → 1 ≤ line → 1 ≤ line_after line text
unfolding line_after
line_named [] line h = h
line_named (b ∷ rest) line h = line_named rest _ (step_by (line_feed b) line h)

pub text_good : (text : List ℕ) → Good 5 (parts line_feed text) (read_text text)
unfolding read_text
text_good text = by (two (ltb 1048576 (length text)))
  where
    by : Two (ltb 1048576 (length text)) → Good 5 (parts line_feed text) (read_text text)
    by (yes_true e) = rw e (line_named (take 1048576 text) 1 (omega arith))
    by (no_false e) = rw e (lines_good (parts line_feed text) 1 5 (omega arith) (omega arith))

-- a list that is refused
pub refused_write : (a : Answer) (filed : Filed) (before : List ℕ) → filed ≡ counted 5 a → filed.bytes ≡ 0
    → (filed ≡ filed_as a) × (before ≡ buffer_as a before)
unfolding filed_as buffer_as
refused_write (read es) filed before e h = absurd (omega (arith, h, ap (λ (f : Filed). f.bytes) e))
refused_write (refused line fault) filed before e h = (e, refl)

-- a list that is read
pub sized : (a : Answer) (lines : List (List ℕ)) (filed : Filed) → Good 5 lines a → filed ≡ counted 5 a → filed.line ≡ 0
    → (4 ≤ filed.bytes) × (filed.bytes ≤ 65536)
sized (read es) lines filed g e h =
    let bytes = ap (λ (f : Filed). f.bytes) e in
    (omega (arith, bytes), omega (arith, bytes, g.0))
sized (refused line fault) lines filed g e h = absurd (omega (arith, g, h, ap (λ (f : Filed). f.line) e))

file_is : (es : List Event) (lines : List (List ℕ)) (bytes : ℕ) → bytes ≡ 5 + length (records_of es) → records_of es ≡ lines_records lines
    → four_bytes (bytes - 4) ++ (1 ∷ []) ++ lines_records lines ≡ file_of es
unfolding file_of
file_is es lines bytes e f =
    let count : bytes - 4 ≡ 1 + length (records_of es) = omega arith in
    ap₂ (λ (n : ℕ) (l : List ℕ). four_bytes n ++ (1 ∷ []) ++ l) count (sym f)

pub accepted_write : {before after : List ℕ} {to : ℕ} (a : Answer) (lines : List (List ℕ)) (filed : Filed) → Good 5 lines a
    → filed ≡ counted 5 a → filed.line ≡ 0 → 65536 ≤ length before
    → Put before after 0 to (four_bytes (filed.bytes - 4) ++ (1 ∷ []) ++ lines_records lines)
    → (filed ≡ filed_as a) × (after ≡ buffer_as a before)
unfolding filed_as buffer_as
accepted_write {before} {after} {to} (read es) lines filed g e h room p =
    let bytes = ap (λ (f : Filed). f.bytes) e in
    let size = length-file_of es in
    let whole = at_front (omega (arith, size, g.0)) (reading (file_is es lines filed.bytes bytes g.1) p) in
    (e ∙ ap (λ (n : ℕ). record { bytes = n; line = 0; fault = 0 }) (sym size), whole.1)
accepted_write (refused line fault) lines filed g e h room p = absurd (omega (arith, g, h, ap (λ (f : Filed). f.line) e))

-- the file is within the buffer
pub filed_within : (a : Answer) (filed : Filed) (before after : List ℕ) → filed ≡ filed_as a → after ≡ buffer_as a before
    → filed.bytes ≤ length after
unfolding filed_as buffer_as
filed_within (read es) filed before after e f =
    omega (arith, ap (λ (x : Filed). x.bytes) e, ap length f, length-append (file_of es) (drop (length (file_of es)) before))
filed_within (refused line fault) filed before after e f = omega (arith, ap (λ (x : Filed). x.bytes) e)
