-- Line by line: what is counted or put and what the lines that are left give make the whole.
use Prim.Native.Nat.{ℕ, ◌+◌, ◌≤◌, ◌<◌}
use native.Mathlib.Omega.{arith}
use mathlib.Core.Path.{◌≡◌, refl, sym, ap, subst, ◌∙◌}
use mathlib.Core.Bool.{Bool, cond}
use mathlib.Core.List.{List, [], ◌∷◌, ◌++◌, append_assoc, append-nil}
use lib.ListN.{length, take, length-append}
use lib.Seq.{length-take-le}
use borrow.Author.Tests.{lt-ltb, le-ltb}
use Rattle.rules.specs.declared.Event.{Event}
use Rattle.rules.specs.EventFile.{record_of, records_of}
use Rattle.text.specs.Put.{Put}
use Rattle.text.proofs.Puts.{put_none, ◌then◌, reading}
use Rattle.list_line.specs.Reading.{Line}
use Rattle.list_line.specs.Reading.{One}
use Rattle.list_line.specs.Reading.{parts, on_first, line_feed, line_of}
use Rattle.list_text.specs.Reading.{Answer, read, refused, with_event, read_lines, line_after, read_text}
use Rattle.std.specs.Prelude.{Result, Option, Some, None, Ok, Err, count_by}
use Rattle.std.specs.Iterator.{AlwaysYields}
use Rattle.std.specs.List.{slice_split, onto_first}
use Rattle.std.proofs.lemmas.Iterator.{YieldsList}
use Rattle.std.proofs.lemmas.List.Recursion.{is_count_by}
use Rattle.std.proofs.lemmas.List.Splits.{length-slice_split}
use Rattle.std.proofs.lemmas.List.Sums.{count_by-le-length}
use Rattle.rules.proofs.Basics.Views.{Two, yes_true, no_false, two}
use Rattle.list_line.specs.declared.fault.Fault.{Fault}
use Rattle.list_line.specs.Faults.{number_of}
use Rattle.list_text.specs.Counting.{counted, Counts, counted_on, line_record, lines_records}

-- an event more is its record more
counted_with : (filled : ℕ) (e : Event) (a : Answer) → counted filled (with_event e a) ≡ counted (filled + length (record_of e)) a
unfolding records_of
counted_with filled e (read es) =
    let sum : filled + length (records_of (e ∷ es)) ≡ filled + length (record_of e) + length (records_of es) =
    omega (arith, length-append (record_of e) (records_of es)) in
    ap (λ (n : ℕ). record { bytes = n; line = 0; fault = 0 }) sum
counted_with filled e (refused line fault) = refl

-- an event that still has room
module _ {line : Line} {e : Event} {k : ℕ} (filled : ℕ) (told : line ≡ One e) (long : k ≡ length (record_of e)) where
  pub counts_one : filled + k ≤ 65536 → Counts filled line (Ok (filled + k))
  counts_one h =
      let less : filled + length (record_of e) ≤ 65536 = omega arith in
      record {
        is = λ number next.
            rw (told, long, le-ltb 65536 (filled + length (record_of e)) less)
            (counted_with filled e (next (filled + length (record_of e))));
      }

-- the lines of a text are the parts that std's `split` gives
first_is : (b : ℕ) (ps : List (List ℕ)) → onto_first b ps ≡ on_first b ps
first_is b [] = refl
first_is b (part ∷ rest) = refl

pub parts_is : (test : ℕ → Bool) (l : List ℕ) → slice_split test l ≡ parts test l
unfolding parts
parts_is test [] = refl
parts_is test (b ∷ rest) =
    ap (λ (ps : List (List ℕ)). cond (test b) ([] ∷ ps) (onto_first b ps)) (parts_is test rest)
    ∙ ap (λ (ps : List (List ℕ)). cond (test b) ([] ∷ parts test rest) ps) (first_is b (parts test rest))

-- the lines of a text are at most one more than its bytes
few_lines : (text : List ℕ) → length (slice_split line_feed text) ≤ length text + 1
few_lines text = omega (arith, length-slice_split line_feed text, count_by-le-length line_feed text)

-- an iterator over the lines that are left
module _ {S A : Type 0} (steps : S → Option A → S → Type 0) (v : A → List ℕ) (it next : S) {answer : Option A} where
  more : {x : A} (left : List (List ℕ)) → AlwaysYields steps v it left → steps it answer next
      → answer ≡ Some x → (rest : List (List ℕ)) × (left ≡ v x ∷ rest) × AlwaysYields steps v next rest
  more {x} [] y s e = absurd (y x next (subst (λ (a : Option A). steps it a next) e s))
  more {x} (line ∷ rest) y s e =
      let given = y.1 x next (subst (λ (a : Option A). steps it a next) e s) in
      (rest, ap (λ (l : List ℕ). l ∷ rest) (sym given.0), given.1)

  none : (left : List (List ℕ)) → AlwaysYields steps v it left → steps it answer next
      → answer ≡ None → left ≡ []
  none [] y s e = refl
  none (line ∷ rest) y s e = absurd (y.0 next (subst (λ (a : Option A). steps it a next) e s))

-- counting: the lines that are left, and what they give
pub record Counting {S A : Type 0} (steps : S → Option A → S → Type 0) (v : A → List ℕ) (it : S) (text : List ℕ) (number filled : ℕ)
    : Type 0 where
  pub left : List (List ℕ)
  pub yields : AlwaysYields steps v it left
  pub few : number + length left ≤ 1048578
  pub small : filled ≤ 65536
  pub whole : counted filled (read_lines number filled left) ≡ counted 5 (read_lines 1 5 (parts line_feed text))

module _ {S A : Type 0} {steps : S → Option A → S → Type 0} {v : A → List ℕ} {it : S} {text : List ℕ} where
  pub counting_begins : YieldsList steps v it (slice_split line_feed text) → length text ≤ 1048576 → Counting steps v it text 1 5
  counting_begins y h =
      record {
        left = slice_split line_feed text;
        yields = y.runs;
        few = omega (arith, few_lines text);
        small = omega arith;
        whole = ap (λ (ls : List (List ℕ)). counted 5 (read_lines 1 5 ls)) (parts_is line_feed text);
      }

  module _ {number filled : ℕ} (c : Counting steps v it text number filled) (next : S) (answer : Option A)
      (s : steps it answer next) where
    pub counted_all : answer ≡ None → record { bytes = filled; line = 0; fault = 0 } ≡ counted 5 (read_lines 1 5 (parts line_feed text))
    unfolding read_lines records_of
    counted_all e =
        let sum : filled ≡ filled + 0 = omega arith in
        ap (λ (n : ℕ). record { bytes = n; line = 0; fault = 0 }) sum
        ∙ ap (λ (ls : List (List ℕ)). counted filled (read_lines number filled ls)) (sym (none steps v it next c.left c.yields s e)) ∙ c.whole

    module _ {x : A} (e : answer ≡ Some x) where
      here : {counts : Result ℕ Fault} → Counts filled (line_of (v x)) counts
          → counted_on number counts (λ filled. read_lines (number + 1) filled (more steps v it next c.left c.yields s e).0)
          ≡ counted 5 (read_lines 1 5 (parts line_feed text))
      unfolding read_lines
      here p =
          let m = more steps v it next c.left c.yields s e in
          sym (p.is number (λ filled. read_lines (number + 1) filled m.0))
          ∙ ap (λ (ls : List (List ℕ)). counted filled (read_lines number filled ls)) (sym m.1) ∙ c.whole

      pub counted_wrong : {fault : Fault} → Counts filled (line_of (v x)) (Err fault)
          → record { bytes = 0; line = number; fault = number_of fault } ≡ counted 5 (read_lines 1 5 (parts line_feed text))
      counted_wrong p = here p

      pub counted_on_line : {after : ℕ} → Counts filled (line_of (v x)) (Ok after) → after ≤ 65536
          → Counting steps v next text (number + 1) after
      counted_on_line p h =
          let m = more steps v it next c.left c.yields s e in
          record {
            left = m.0;
            yields = m.2;
            few = omega (arith, c.few, ap length m.1);
            small = h;
            whole = here p;
          }

-- putting: the records so far, and those of the lines that are left
pub record Filling {S A : Type 0} (steps : S → Option A → S → Type 0) (v : A → List ℕ) (it : S) (text before now : List ℕ) (from to : ℕ)
    : Type 0 where
  pub left : List (List ℕ)
  pub yields : AlwaysYields steps v it left
  pub records : List ℕ
  pub put : Put before now from to records
  pub whole : records ++ lines_records left ≡ lines_records (parts line_feed text)

module _ {S A : Type 0} {steps : S → Option A → S → Type 0} {v : A → List ℕ} {it : S} {text before : List ℕ} {from : ℕ} where
  pub filling_begins : YieldsList steps v it (slice_split line_feed text) → Filling steps v it text before before from from
  filling_begins y =
      record {
        left = slice_split line_feed text;
        yields = y.runs;
        records = [];
        put = put_none before from;
        whole = ap lines_records (parts_is line_feed text);
      }

  module _ {now : List ℕ} {to : ℕ} (f : Filling steps v it text before now from to) (next : S) (answer : Option A)
      (s : steps it answer next) where
    pub filled_all : answer ≡ None → Put before now from to (lines_records (parts line_feed text))
    unfolding lines_records
    filled_all e =
        reading (sym (append-nil f.records) ∙ ap (λ (ls : List (List ℕ)). f.records ++ lines_records ls)
        (sym (none steps v it next f.left f.yields s e))
        ∙ f.whole) f.put

    pub filled_on : {x : A} {after : List ℕ} {end : ℕ} → answer ≡ Some x → Put now after to end (line_record (line_of (v x)))
        → Filling steps v next text before after from end
    unfolding lines_records
    filled_on {x} e p =
        let m = more steps v it next f.left f.yields s e in
        record {
          left = m.0;
          yields = m.2;
          records = f.records ++ line_record (line_of (v x));
          put = f.put then p;
          whole =
              append_assoc f.records (line_record (line_of (v x))) (lines_records m.0)
              ∙ ap (λ (ls : List (List ℕ)). f.records ++ lines_records ls) (sym m.1) ∙ f.whole;
        }

-- the line of the byte after these
shift_by : (b : ℕ) (rest : List ℕ) (line : ℕ) → ((n : ℕ) → line_after n rest ≡ n + line_after 0 rest) → Two (line_feed b)
    → line_after line (b ∷ rest) ≡ line + line_after 0 (b ∷ rest)
unfolding line_after
shift_by b rest line ih (yes_true e) = rw e (omega (arith, ih (line + 1), ih 1))
shift_by b rest line ih (no_false e) = rw e (ih line)

shifted : (text : List ℕ) (line : ℕ) → line_after line text ≡ line + line_after 0 text
unfolding line_after
shifted [] line = omega arith
shifted (b ∷ rest) line = shift_by b rest line (shifted rest) (two (line_feed b))

one_more : (b : ℕ) (rest : List ℕ) → line_after 0 (b ∷ rest) ≡ cond (line_feed b) (1 + line_after 0 rest) (line_after 0 rest)
unfolding line_after
one_more b rest = by (two (line_feed b))
  where
    by : Two (line_feed b) → line_after 0 (b ∷ rest) ≡ cond (line_feed b) (1 + line_after 0 rest) (line_after 0 rest)
    by (yes_true e) = rw e (shifted rest 1)
    by (no_false e) = rw e refl

pub line_after_is : (text : List ℕ) → 1 + count_by line_feed text ≡ line_after 1 text
unfolding line_after
line_after_is text = omega (arith, shifted text 1, is_count_by (line_after 0) line_feed refl one_more text)

-- a text by its length
pub first_part : (text : List ℕ) → 1048576 < length text → length (take 1048576 text) ≡ 1048576
first_part text h = length-take-le 1048576 text (omega arith)

pub first_part_small : (text : List ℕ) → 1048576 < length text → length (take 1048576 text) ≤ 1048576
first_part_small text h = rw (first_part text h) (omega arith)

pub too_long_text : (text : List ℕ) (line : ℕ) → 1048576 < length text → line ≡ line_after 1 (take 1048576 text)
    → record { bytes = 0; line = line; fault = 7 } ≡ counted 5 (read_text text)
unfolding read_text
too_long_text text line h e = rw (lt-ltb 1048576 (length text) h) (ap (λ (n : ℕ). record { bytes = 0; line = n; fault = 7 }) e)

pub short_text : (text : List ℕ) → length text ≤ 1048576 → read_lines 1 5 (parts line_feed text) ≡ read_text text
unfolding read_text
short_text text h = rw (le-ltb 1048576 (length text) h) refl
