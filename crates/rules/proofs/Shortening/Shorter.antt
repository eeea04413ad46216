-- THE SHORTER QUESTION. What a pass that leaves out none says of each event makes the result as short as is asked; so the event that is
-- refused is its last. Its file is no longer than the old one, and is read back.
use Prim.Native.Nat.{ℕ, ◌+◌, ◌*◌, ◌≤◌}
use native.Mathlib.Omega.{arith}
use mathlib.Core.Path.{◌≡◌, refl, sym, ap, ◌∙◌, subst}
use mathlib.Core.List.{List, [], ◌∷◌, ◌++◌, append_assoc, append-nil}
use mathlib.Core.Bool.{Bool, true, false, not, ◌&&◌}
use lib.Dec.{eqb}
use lib.ListN.{length, length-append}
use lib.Seq.{append_snoc}
use borrow.Author.Tests.{ne_eqb, eqb-true}
use Rattle.rules.specs.declared.Event.{Event}
use Rattle.rules.specs.State.{State, empty, forget}
use Rattle.rules.specs.Refusals.{refusal}
use Rattle.rules.specs.Events.{Answered, dispatch, offer}
use Rattle.rules.specs.Lists.{AllRanged, run, after}
use Rattle.rules.specs.EventFile.{Bytes, record_of, records_of, file_of, file_refusal, events_of}
use Rattle.rules.specs.Key.{line, lines, key, file_line}
use Rattle.rules.specs.Shorten.{refused_from, refused_in, shortened, shorter_if, shorter}
use Rattle.rules.proofs.Basics.Views.{clash, is_false, and_true_right, and_true_both, or_true_right}
use Rattle.rules.proofs.Basics.Views.{Either, first, second, or_true_cases, Same, equal, different, same}
use Rattle.rules.proofs.Files.Accepting.{accepted}
use Rattle.rules.proofs.Files.WrittenThenRead.{length-file_of}
use Rattle.rules.proofs.Files.Records.{record_length, all_ranged}
use Rattle.rules.proofs.Files.Inverse.{reads_back, as_written, events_fit}
use Rattle.rules.proofs.Agreement.{answered_number, offer_sound}
use Rattle.rules.proofs.Numbers.{event_number, event_number_lem}
use Rattle.rules.proofs.Demands.{after_sound, refused_same, empty_sound}
use Rattle.rules.proofs.Shortening.Refusing.{Refused, refused_of, of_refused, refused_at, run_append}
use Rattle.rules.proofs.Shortening.Refusing.{refused_append, refused_front, refused_cons}
use Rattle.rules.proofs.Shortening.Passing.{Part, nothing, kept, left_out, Minimal}
use Rattle.rules.proofs.Shortening.Repeating.{Repeats, repeats, repeats_part, repeats_refused, repeats_minimal}

-- OF EVERY LIST AND NUMBER
pub record Shortened (k : ℕ) (es xs : List Event) : Type 0 where
  -- "some of its events, in their old order"
  pub some_of : Part xs es
  -- "in which some event is still refused with that number"
  pub refused : Refused k xs empty
  -- "Taking out any single event of it must leave a list where none is."
  pub none_without : (before : List Event) (e : Event) (behind : List Event) → xs ≡ before ++ (e ∷ behind)
      → Refused k (before ++ behind) empty → ⊥
  -- so the event that is refused is the last, and the only one
  pub at_its_end : (r : Refused k xs empty) → r.behind ≡ []
  -- and every other is accepted
  pub others_accepted : (before : List Event) (e : Event) (behind : List Event) → xs ≡ before ++ (e ∷ behind) → (behind ≡ [] → ⊥)
      → (offer e (after before empty)).refusal ≡ 0
  -- "over and over until a whole pass leaves out none": the procedure ends, with these events
  pub procedure : Repeats k es xs

module _ (k : ℕ) where
  -- what follows a refused event could be taken out
  last_of : {xs : List Event} → Minimal k xs → (r : Refused k xs empty) → (behind : List Event) → r.behind ≡ behind → behind ≡ []
  last_of m r [] q = refl
  last_of m r (x ∷ behind) q =
      let row = r.split ∙ ap (λ (l : List Event). r.before ++ (r.event ∷ l)) q in
      let split = row ∙ sym (append_snoc r.before r.event (x ∷ behind)) in
      clash (refused_in k (r.before ++ (r.event ∷ behind)))
      (refused_at k r.before r.event behind empty r.real r.number)
      (ap (refused_in k) (sym (append_snoc r.before r.event behind)) ∙ m (r.before ++ (r.event ∷ [])) x behind split)

  -- a refused event changes nothing, so without it what is refused later is refused still
  module _ {xs : List Event} (m : Minimal k xs) (r : Refused k xs empty) (before : List Event) (e : Event) (behind : List Event)
      (split : xs ≡ before ++ (e ∷ behind)) (more : behind ≡ [] → ⊥) where
    abbrev there : State
    there = after before empty

    -- the refusal asked for would be before e, which could be taken out; e itself, which is not the last; or behind it
    refused_is : ((offer e there).refusal ≡ 0 → ⊥) → Refused k (before ++ behind) empty
    refused_is refused = by (or_true_cases (refused_in k before) _ (sym (refused_append k before (e ∷ behind) empty) ∙ row))
      where
        row : refused_in k (before ++ (e ∷ behind)) ≡ true
        row = ap (refused_in k) (sym split) ∙ of_refused k r

        later : Either (not (eqb k 0) && eqb k (offer e there).refusal) (refused_from k behind (offer e there).state)
            → Refused k (before ++ behind) empty
        later (first q) =
            absurd (more (last_of m
            (record {
              before = before;
              event = e;
              behind = behind;
              split = split;
              number = sym (eqb-true k (offer e there).refusal (and_true_right (not (eqb k 0)) _ q));
              real = r.real;
            }) behind refl))
        later (second _ q) =
            refused_of k (before ++ behind) empty
            (refused_append k before behind empty
            ∙ or_true_right (refused_in k before) _ (ap (refused_from k behind) (sym (refused_same e there refused).0) ∙ q))

        by : Either (refused_in k before) (refused_from k (e ∷ behind) there) → Refused k (before ++ behind) empty
        by (first q) = refused_of k (before ++ behind) empty (refused_front k before behind empty q)
        by (second _ q) = later (or_true_cases _ _ (sym (refused_cons k e behind there) ∙ q))

    other_accepted : (offer e there).refusal ≡ 0
    other_accepted = by (same (offer e there).refusal 0)
      where
        by : Same (offer e there).refusal 0 → (offer e there).refusal ≡ 0
        by (equal q _) = q
        by (different q _) = clash (refused_in k (before ++ behind)) (of_refused k (refused_is q)) (m before e behind split)

  pub shortened_true : (es : List Event) → Refused k es empty → Shortened k es (shortened k es)
  shortened_true es h =
      let xs = shortened k es in
      let all = repeats k es in
      let m : Minimal k xs = repeats_minimal k all in
      let refused = refused_of k xs empty (repeats_refused k all (of_refused k h)) in
      record {
        some_of = repeats_part k all;
        refused = refused;
        none_without = λ before e behind split r. clash (refused_in k (before ++ behind)) (of_refused k r) (m before e behind split);
        at_its_end = λ r. last_of m r r.behind refl;
        others_accepted = λ before e behind split more. other_accepted m refused before e behind split more;
        procedure = all;
      }

-- each event that is left out makes the file two bytes shorter, or more
pub part_records : {xs ys : List Event} → Part xs ys → length (records_of xs) + 2 * length ys ≤ length (records_of ys) + 2 * length xs
unfolding records_of
part_records nothing = omega arith
part_records (kept {e = e} {xs = xs} {ys = ys} p) =
    omega (arith, length-append (record_of e) (records_of xs), length-append (record_of e) (records_of ys), part_records p)
part_records (left_out {e = e} {xs = xs} {ys = ys} p) =
    omega (arith, length-append (record_of e) (records_of ys), record_length e, part_records p)

part_length : {xs ys : List Event} → Part xs ys → length xs ≤ length ys
part_length nothing = omega arith
part_length (kept p) = omega (arith, part_length p)
part_length (left_out p) = omega (arith, part_length p)

-- the lines of a list of answers cut in two
lines_append : (n : ℕ) (xs ys : List Answered) → lines n (xs ++ ys) ≡ lines n xs ++ lines (n + length xs) ys
unfolding lines
lines_append n [] ys = ap (λ (m : ℕ). lines m ys) (omega arith)
lines_append n (a ∷ xs) ys =
    ap (λ (l : List ℕ). line n a ++ l) (lines_append (n + 1) xs ys ∙ ap (λ (m : ℕ). lines (n + 1) xs ++ lines m ys) (omega arith))
    ∙ sym (append_assoc (line n a) (lines (n + 1) xs) (lines (n + length (a ∷ xs)) ys))

-- the last line of a key is of an event that is refused with the number
pub record ShowsLast (k : ℕ) (text : List ℕ) : Type 0 where
  pub others : List ℕ
  pub number : ℕ
  pub answer : Answered
  pub shows : text ≡ others ++ line number answer
  pub refusal : answer.refusal ≡ k

shows_last : (k : ℕ) (xs : List Event) (r : Refused k xs empty) → r.behind ≡ [] → ShowsLast k (lines 1 (run xs empty))
unfolding run lines
shows_last k xs r q =
    let s = after r.before empty in
    let a = offer r.event s in
    let answers = ap (λ (l : List Event). run l empty) (r.split ∙ ap (λ (l : List Event). r.before ++ (r.event ∷ l)) q)
    ∙ run_append r.before (r.event ∷ []) empty in
    let n = 1 + length (run r.before empty) in
    record {
      others = lines 1 (run r.before empty);
      number = n;
      answer = a;
      shows =
          ap (lines 1) answers
          ∙ lines_append 1 (run r.before empty) (a ∷ [])
          ∙ ap (λ (l : List ℕ). lines 1 (run r.before empty) ++ l) (append-nil (line n a));
      refusal = r.number;
    }

-- OF EVERY FILE AND NUMBER
pub record ShorterFile (k : ℕ) (file xs : List ℕ) : Type 0 where
  pub bytes : xs ≡ file_of (shortened k (events_of file))
  pub true_of : Shortened k (events_of file) (shortened k (events_of file))
  pub small : length xs ≤ length file
  pub accepted_back : file_refusal xs ≡ 0
  pub events_back : events_of xs ≡ shortened k (events_of file)
  pub key_shows : ShowsLast k (key xs)

module _ (k : ℕ) (file : List ℕ) (h : file_refusal file ≡ 0) where
  pub written : Bytes file → Refused k (events_of file) empty → ShorterFile k file (shorter (k ∷ file))
  unfolding shorter key
  written narrow r =
      let es = events_of file in
      let xs = shortened k es in
      let t = shortened_true k es r in
      let bytes : shorter (k ∷ file) ≡ file_of xs = rw h (ap (λ (b : Bool). shorter_if b k es) (of_refused k r)) in
      let shorter-file : length (file_of xs) ≤ length file =
      omega (
        arith,
        length-file_of xs,
        length-file_of es,
        part_records t.some_of,
        part_length t.some_of,
        ap length (as_written file narrow h),
      ) in
      let back = reads_back xs (omega (arith, shorter-file, (accepted file h).head.small)) in
      let shown : key (shorter (k ∷ file)) ≡ lines 1 (run xs empty) =
      ap key bytes ∙ rw back.0 (ap (λ (l : List Event). lines 1 (run l empty)) back.1) in
      record {
        bytes = bytes;
        true_of = t;
        small = rw bytes shorter-file;
        accepted_back = ap file_refusal bytes ∙ back.0;
        events_back = ap events_of bytes ∙ back.1;
        key_shows = subst (ShowsLast k) (sym shown) (shows_last k xs t.refused (t.at_its_end t.refused));
      }

  -- "26, no event of the file is refused with that number"
  pub no_such : (Refused k (events_of file) empty → ⊥) → shorter (k ∷ file) ≡ file_line 26
  unfolding shorter
  no_such none =
      rw h (ap (λ (b : Bool). shorter_if b k (events_of file)) (is_false (refused_in k (events_of file)) (λ t. none (refused_of k _ empty t))))

-- "0, 1 and numbers that no event gives": of events in range, from the empty machine
ranged_front : (xs ys : List Event) → AllRanged (xs ++ ys) → AllRanged xs
ranged_front [] ys f = tt
ranged_front (x ∷ xs) ys f = (f.0, ranged_front xs ys f.1)

refused_number : (k : ℕ) (es : List Event) → AllRanged es → Refused k es empty → (not (eqb k 0) && event_number k) ≡ true
unfolding dispatch
refused_number k es f r =
    let s = after r.before empty in
    let front = ranged_front r.before (r.event ∷ r.behind) (subst AllRanged r.split f) in
    let number : refusal r.event (forget s) ≡ k =
    sym (answered_number (refusal r.event (forget s)) r.event s)
    ∙ sym (ap (λ (a : Answered). a.refusal) (offer_sound r.event s (after_sound r.before empty front empty_sound)))
    ∙ r.number in
    and_true_both (not (eqb k 0)) (event_number k) (ap not (ne_eqb k 0 r.real))
    (ap event_number (sym number) ∙ event_number_lem r.event (forget s))

pub no_such_number : (k : ℕ) (file : List ℕ) → Bytes file → file_refusal file ≡ 0 → (not (eqb k 0) && event_number k) ≡ false
    → shorter (k ∷ file) ≡ file_line 26
no_such_number k file narrow h none =
    let es = events_of file in
    no_such k file h (λ r. clash (not (eqb k 0) && event_number k)
    (refused_number k es (all_ranged es (events_fit file narrow)) r) none)
