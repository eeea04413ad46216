-- THE THEOREMS: reading and writing undo each other.
use Prim.Native.Nat.{ℕ, ◌+◌, ◌≤◌}
use native.Mathlib.Omega.{arith}
use mathlib.Core.Path.{◌≡◌, refl, sym, ap, ap₂, subst⁻¹, ◌∙◌}
use mathlib.Core.Bool.{true}
use mathlib.Core.List.{List, [], ◌∷◌, ◌++◌, append_assoc}
use lib.ListN.{length, take, length-append}
use lib.Dec.{ltb}
use borrow.Author.Tests.{le-ltb}
use Rattle.rules.specs.declared.Event.{Event}
use Rattle.rules.specs.EventFile.{Bytes, fits, all_fit, record_of, records_of, file_of, file_refusal, events_of}
use Rattle.rules.specs.Key.{bytes}
use Rattle.rules.proofs.Basics.Views.{Two, yes_true, no_false, two, and_true_left, and_true_right}
use Rattle.rules.proofs.Files.Accepting.{accepted}
use Rattle.rules.proofs.Files.WrittenThenRead.{length-file_of, accepted_back, events_of_back}
use Rattle.rules.proofs.Files.Inverse.{as_written, events_fit}
use Rattle.list_line.specs.Reading.{Line}
use Rattle.list_line.specs.Reading.{Empty, One, Wrong}
use Rattle.list_line.specs.Reading.{parts, line_feed, uncommented, not_empty, words_of, event_named, line_of_words, line_of}
use Rattle.list_writer.specs.Writing.{event_words, text_of, file_text}
use Rattle.list_writer.proofs.Fitting.{small}
use Rattle.list_writer.proofs.Room.{text_length}
use Rattle.list_writer.proofs.Texts.{accepted_text}
use Rattle.list_text.specs.Reading.{Answer, read, refused, with_event, after_line, read_lines, line_after, read_text}
use Rattle.list_text.specs.Form.{is_empty, space, plain_line, plain_lines, in_written_form}
use Rattle.list_text.proofs.Joining.{joined, none_pass, parts_between, Some, some_part, parts_some, joined_parts}
use Rattle.list_text.proofs.Spelling.{word_list, AllWords, words_joined, mark_free, line_of_joined, event_words_lem, event_back}
use Rattle.list_text.proofs.Filings.{Good, text_good}
use Rattle.list_text.proofs.Formed.{event_plain, line_first}
use Rattle.list_text.proofs.Bounded.{AllBounded, text_bounded}
use Rattle.list_text.proofs.Unspelling.{AllPlain, all_plain_lem, all_words, Read, read_named}

-- a line of words, the first of which is there
joined_line : (ws : List (List ℕ)) (e : Event) → AllWords ws → line_of_words ws ≡ One e → line_of (joined 32 ws) ≡ One e
unfolding line_of uncommented words_of not_empty parts joined
joined_line [] e a h = h
joined_line (w ∷ ws) e a h = line_of_joined w ws a ∙ h

-- an event's line is read as the event
line_back : (e : Event) → fits e ≡ true → line_of (event_words e) ≡ One e
line_back e h =
    ap line_of (words_joined e) ∙ joined_line (word_list e) e (event_words_lem e) (event_back e (small e h))

-- the first line of a written list
lines_back : (e : Event) (rest : List ℕ) → parts line_feed (event_words e ++ bytes "\n" ++ rest) ≡ event_words e ∷ parts line_feed rest
unfolding bytes
lines_back e rest =
    let free : none_pass line_feed (event_words e) =
    rw (words_joined e) (mark_free 10 (omega arith) (omega arith) (word_list e) (event_words_lem e)) in
    ap (parts line_feed) (append_assoc (event_words e) (10 ∷ []) rest) ∙ parts_between line_feed (event_words e) 10 rest free refl

-- line by line
events_back : (es : List Event) (line filled : ℕ) → all_fit es ≡ true → filled + length (records_of es) ≤ 65536
    → read_lines line filled (parts line_feed (text_of es)) ≡ read es
unfolding text_of read_lines all_fit records_of line_of uncommented words_of not_empty parts
events_back [] line filled h room = refl
events_back (e ∷ es) line filled h room =
    let sum = length-append (record_of e) (records_of es) in
    let fitting : filled + length (record_of e) ≤ 65536 = omega arith in
    ap (read_lines line filled) (lines_back e (text_of es))
    ∙ ap (λ (l : Line). after_line line filled l (λ filled. read_lines (line + 1) filled (parts line_feed (text_of es))))
    (line_back e (and_true_left (fits e) (all_fit es) h))
    ∙ rw (le-ltb 65536 (filled + length (record_of e)) fitting)
    (ap (with_event e) (events_back es (line + 1) (filled + length (record_of e)) (and_true_right (fits e) (all_fit es) h) (omega arith)))

-- 1. WRITTEN, THEN READ. Of every list of events that fit their operands and whose file has at most 65,536 bytes, reading what is written
-- gives exactly that list.
pub written_then_read : (es : List Event) → all_fit es ≡ true → length (file_of es) ≤ 65536 → read_text (text_of es) ≡ read es
unfolding read_text
written_then_read es h room =
    let size = length-file_of es in
    let short : length (text_of es) ≤ 1048576 = omega (arith, text_length es h) in
    rw (le-ltb 1048576 (length (text_of es)) short) (events_back es 1 5 h (omega arith))

-- the other way: what a plain line is that is read
abbrev LineIs : List ℕ → Line → Type 0
LineIs line Empty = ⊥
LineIs line (Wrong fault) = Unit {0}
LineIs line (One e) = line ≡ event_words e

spelt : (line : List ℕ) (ws : List (List ℕ)) (l : Line) → line ≡ joined 32 ws → Read (λ ws. ws) ws l → LineIs line l
spelt line ws Empty e r = r
spelt line ws (Wrong fault) e r = tt
spelt line ws (One event) e r = e ∙ ap (joined 32) r ∙ sym (words_joined event)

plain_by : (line : List ℕ) → plain_line line ≡ true → Some (parts space line) → LineIs line (line_of line)
plain_by line h (some_part w ws e) =
    let plain : AllPlain (w ∷ ws) = all_plain_lem (w ∷ ws) (rw e at h) in
    let whole : line ≡ joined 32 (w ∷ ws) = sym (joined_parts 32 line) ∙ ap (joined 32) e in
    let reads : line_of line ≡ event_named w ws = ap line_of whole ∙ line_of_joined w ws (all_words (w ∷ ws) plain) in
    subst⁻¹ (LineIs line) reads (spelt line (w ∷ ws) (event_named w ws) whole (read_named w ws plain.1))

plain_line_lem : (line : List ℕ) → plain_line line ≡ true → LineIs line (line_of line)
plain_line_lem line h = plain_by line h (parts_some space line)

-- an answer with an event
record Rest (e : Event) (a : Answer) (es : List Event) : Type 0 where
  rest : List Event
  is : a ≡ read rest
  split : es ≡ e ∷ rest

rest_of : (e : Event) (a : Answer) (es : List Event) → with_event e a ≡ read es → Rest e a es
rest_of e (read rest) es h = record { rest = rest; is = refl; split = cc }
rest_of e (refused line fault) es h = let z : ◌≡◌ {A = ℕ} 0 1 = cc in absurd (omega arith)

-- one line of a list that is read, then the others
module _ (bytes_of : List ℕ) (others : List ℕ) (line filled : ℕ) (next : ℕ → Answer) (es : List Event)
    (ih : (k : ℕ) (fs : List Event) → next k ≡ read fs → others ≡ text_of fs) where
  one_by : (e : Event) → bytes_of ≡ event_words e → Two (ltb 65536 (filled + length (record_of e)))
      → after_line line filled (One e) next ≡ read es → bytes_of ++ (10 ∷ others) ≡ text_of es
  unfolding text_of bytes
  one_by e is (yes_true t) h = let bad : refused line 7 ≡ read es = rw t at h in let z : ◌≡◌ {A = ℕ} 0 1 = cc in absurd (omega arith)
  one_by e is (no_false t) h =
      let k = filled + length (record_of e) in
      let joins : with_event e (next k) ≡ read es = rw t at h in
      let r = rest_of e (next k) es joins in
      ap₂ (λ (a b : List ℕ). a ++ (10 ∷ b)) is (ih k r.rest r.is) ∙ sym (append_assoc (event_words e) (10 ∷ []) (text_of r.rest))
      ∙ ap text_of (sym r.split)

  by_line : (l : Line) → LineIs bytes_of l → after_line line filled l next ≡ read es → bytes_of ++ (10 ∷ others) ≡ text_of es
  by_line Empty is h = absurd is
  by_line (Wrong fault) is h = let z : ◌≡◌ {A = ℕ} 0 1 = cc in absurd (omega arith)
  by_line (One e) is h = one_by e is (two (ltb 65536 (filled + length (record_of e)))) h

empty_is : (l : List ℕ) → is_empty l ≡ true → l ≡ []
empty_is [] e = refl
empty_is (b ∷ l) e = let z : ◌≡◌ {A = ℕ} 0 1 = cc in absurd (omega arith)

lines_written : (lines : List (List ℕ)) (line filled : ℕ) (es : List Event) → plain_lines lines ≡ true
    → read_lines line filled lines ≡ read es
    → joined 10 lines ≡ text_of es
unfolding plain_lines read_lines joined text_of line_of uncommented words_of not_empty parts
lines_written [] line filled es p h = let z : ◌≡◌ {A = ℕ} 0 1 = cc in absurd (omega arith)
lines_written (l ∷ []) line filled es p h =
    let nothing = empty_is l p in
    let none : read [] ≡ read es = rw nothing at h in
    let same : [] ≡ es = cc in
    nothing ∙ ap text_of same
lines_written (l ∷ m ∷ rest) line filled es p h =
    by_line l (joined 10 (m ∷ rest)) line filled (λ filled. read_lines (line + 1) filled (m ∷ rest)) es
    (λ k fs reads. lines_written (m ∷ rest) (line + 1) k fs (and_true_right (plain_line l) (plain_lines (m ∷ rest)) p) reads)
    (line_of l) (plain_line_lem l (and_true_left (plain_line l) (plain_lines (m ∷ rest)) p)) h

-- 2. READ, THEN WRITTEN. A list in the written form that is accepted is byte for byte what the writer makes of its events.
pub read_then_written : (text : List ℕ) (es : List Event) → in_written_form text ≡ true → read_text text ≡ read es → text ≡ text_of es
unfolding in_written_form read_text
read_then_written text es p h = by (two (ltb 1048576 (length text)))
  where
    by : Two (ltb 1048576 (length text)) → text ≡ text_of es
    by (yes_true t) =
        let bad : refused (line_after 1 (take 1048576 text)) 7 ≡ read es = rw t at h in
        let z : ◌≡◌ {A = ℕ} 0 1 = cc in absurd (omega arith)
    by (no_false t) =
        let reads : read_lines 1 5 (parts line_feed text) ≡ read es = rw t at h in
        sym (joined_parts 10 text) ∙ lines_written (parts line_feed text) 1 5 es p reads

-- 3. What is written is in the written form.
pub written_in_form : (es : List Event) → in_written_form (text_of es) ≡ true
unfolding in_written_form plain_lines text_of parts
written_in_form [] = refl
written_in_form (e ∷ es) =
    rw (lines_back e (text_of es))
    (line_first (event_words e) (parts line_feed (text_of es)) (parts_some line_feed (text_of es)) (event_plain e) (written_in_form es))

-- 4. FILE TO LIST TO FILE. The text of every accepted file of bytes is read as the file's events, and the file of these is that file.
pub file_to_list_to_file : (file : List ℕ) → Bytes file → file_refusal file ≡ 0
    → (read_text (file_text file) ≡ read (events_of file)) × (file_of (events_of file) ≡ file)
file_to_list_to_file file bytes h =
    let same = as_written file bytes h in
    let small : length (file_of (events_of file)) ≤ 65536 = omega (arith, ap length same, (accepted file h).head.small) in
    (ap read_text (sym (accepted_text file h)) ∙ written_then_read (events_of file) (events_fit file bytes) small, sym same)

-- 5. LIST TO FILE TO LIST. The text of the file of an accepted list is what the writer makes of its events; of a list in the written form
-- it is that list.
opened_text : (lines : List (List ℕ)) (es : List Event) → Good 5 lines (read es) → file_text (file_of es) ≡ text_of es
opened_text lines es g =
    let small : length (file_of es) ≤ 65536 = omega (arith, g.0, length-file_of es) in
    sym (accepted_text (file_of es) (accepted_back es small)) ∙ ap text_of (events_of_back es)

pub list_to_file_to_list : (text : List ℕ) (es : List Event) → read_text text ≡ read es → file_text (file_of es) ≡ text_of es
list_to_file_to_list text es h = opened_text (parts line_feed text) es (rw h at (text_good text))

pub written_list_back : (text : List ℕ) (es : List Event) → in_written_form text ≡ true → read_text text ≡ read es
    → file_text (file_of es) ≡ text
written_list_back text es p h = list_to_file_to_list text es h ∙ sym (read_then_written text es p h)

-- 6. READ, WRITTEN, READ AGAIN. What is read of any accepted list, with comments and blanks or without, fits its operands and a file;
-- written, it is read as the same events.
pub record Readable (es : List Event) : Type 0 where
  pub fitting : all_fit es ≡ true
  pub room : length (file_of es) ≤ 65536

readable : (lines : List (List ℕ)) (es : List Event) → AllBounded (read es) → Good 5 lines (read es) → Readable es
readable lines es b g = record { fitting = b; room = omega (arith, g.0, length-file_of es) }

pub read_readable : (text : List ℕ) (es : List Event) → read_text text ≡ read es → Readable es
read_readable text es h = readable (parts line_feed text) es (rw h at (text_bounded text)) (rw h at (text_good text))

pub read_written_read : (text : List ℕ) (es : List Event) → read_text text ≡ read es → read_text (text_of es) ≡ read es
read_written_read text es h = let r = read_readable text es h in written_then_read es r.fitting r.room
