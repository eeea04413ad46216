-- Starting a file and appending a list writes the file of that list and no other byte.
use Prim.Native.Nat.{ℕ, ◌+◌, ◌-◌, ◌≤◌}
use mathlib.Core.Path.{◌≡◌, refl, ap, ap₂, sym, subst, ◌∙◌}
use mathlib.Core.List.{List, [], ◌∷◌, ◌++◌, append_assoc, append-nil}
use native.Mathlib.Omega.{arith}
use lib.ListN.{length, take, drop, length-append, length-drop}
use lib.Seq.{sets, sets-eq, take-append_seam, drop-append-add, drop-drop, append_snoc}
use borrow.Author.Tests.{le-ltb}
use Rattle.rules.specs.declared.Event.{Event}
use Rattle.rules.specs.EventFile.{record_of, records_of, four_bytes, file_of, file_refusal, append_refusal, Written, started, appended}
use Rattle.rules.specs.Steps.{appended_all, written_all}
use Rattle.rules.proofs.Files.WrittenThenRead.{length-file_of, accepted_back}
use Rattle.rules.proofs.Files.Writing.{started_accepted, appended_accepted, refused_room}

-- the buffer holds the file of these events, and after it what it held before
pub record Holds (before : List ℕ) (es : List Event) (w : Written) : Type 0 where
  pub accepted : w.refusal ≡ 0
  pub filled : w.filled ≡ length (file_of es)
  pub buffer : w.buffer ≡ file_of es ++ drop (length (file_of es)) before

starts : (buffer : List ℕ) → 5 ≤ length buffer → Holds buffer [] (started buffer)
unfolding file_of records_of
starts buffer h =
    let e = sym (started_accepted buffer (sets buffer 0 (0 ∷ 0 ∷ 0 ∷ 1 ∷ 1 ∷ [])) h refl) in
    record {
      accepted = ap (λ (w : Written). w.refusal) e;
      filled = ap (λ (w : Written). w.filled) e;
      buffer = ap (λ (w : Written). w.buffer) e ∙ sets-eq (0 ∷ 0 ∷ 0 ∷ 1 ∷ 1 ∷ []) buffer 0 h;
    }

-- the records of two lists in a row
pub records_of_append : (es fs : List Event) → records_of (es ++ fs) ≡ records_of es ++ records_of fs
unfolding records_of
records_of_append [] fs = refl
records_of_append (e ∷ es) fs =
    ap (λ (l : List ℕ). record_of e ++ l) (records_of_append es fs) ∙ sym (append_assoc (record_of e) (records_of es) (records_of fs))

pub records_of_one : (es : List Event) (e : Event) → records_of (es ++ (e ∷ [])) ≡ records_of es ++ record_of e
unfolding records_of
records_of_one es e = records_of_append es (e ∷ []) ∙ ap (λ (l : List ℕ). records_of es ++ l) (append-nil (record_of e))

length-append-file : (es fs : List Event) → length (file_of (es ++ fs)) ≡ length (file_of es) + length (records_of fs)
length-append-file es fs =
    let sum = ap length (records_of_append es fs) ∙ length-append (records_of es) (records_of fs) in
    omega (arith, length-file_of (es ++ fs), length-file_of es)

length-one : (es : List Event) (e : Event) → length (file_of (es ++ (e ∷ []))) ≡ length (file_of es) + length (record_of e)
length-one es e =
    let sum = ap length (records_of_one es e) ∙ length-append (records_of es) (record_of e) in
    omega (arith, length-file_of (es ++ (e ∷ [])), length-file_of es)

-- bytes stored right after the first list go over the front of the second
stored_after :
    (xs rest vs : List ℕ) → length vs ≤ length rest → sets (xs ++ rest) (length xs) vs ≡ (xs ++ vs) ++ drop (length vs) rest
stored_after xs rest vs h =
    let room : length xs + length vs ≤ length (xs ++ rest) = simp length-append (omega arith) in
    sets-eq vs (xs ++ rest) (length xs) room
    ∙ ap₂ (λ (front back : List ℕ). (front ++ vs) ++ back) (take-append_seam xs rest) (drop-append-add xs rest (length vs))

-- the record goes after the file, then the length field is renewed
renewed :
    (es : List Event) (e : Event) (rest : List ℕ) → length (record_of e) ≤ length rest →
    sets (sets (file_of es ++ rest) (length (file_of es)) (record_of e)) 0 (four_bytes (length (file_of es) + length (record_of e) - 4))
    ≡ file_of (es ++ (e ∷ [])) ++ drop (length (record_of e)) rest
unfolding file_of
renewed es e rest h =
    let count : length (file_of es) + length (record_of e) - 4 ≡ 1 + length (records_of (es ++ (e ∷ []))) =
    omega (arith, length-one es e, length-file_of (es ++ (e ∷ []))) in
    ap (λ (l : List ℕ). sets l 0 (four_bytes (length (file_of es) + length (record_of e) - 4)))
    (stored_after (file_of es) rest (record_of e) h)
    ∙ ap₂ (λ (n : ℕ) (l : List ℕ). four_bytes n ++ (1 ∷ (l ++ drop (length (record_of e)) rest))) count (sym (records_of_one es e))

-- one append, to a buffer that holds the file so far
module _ (before : List ℕ) (es : List Event) (e : Event) where
  appends_one :
      length (file_of (es ++ (e ∷ []))) ≤ length before → length (file_of (es ++ (e ∷ []))) ≤ 65536 →
      Holds before (es ++ (e ∷ [])) (appended (file_of es ++ drop (length (file_of es)) before) (length (file_of es)) e)
  appends_one room small =
      let size = length-one es e in
      let rest = drop (length (file_of es)) before in
      let left : length rest ≡ length before - length (file_of es) = length-drop (length (file_of es)) before in
      let whole : length (file_of es ++ rest) ≡ length (file_of es) + length rest = length-append (file_of es) rest in
      let good : 0 ≡ file_refusal (take (length (file_of es)) (file_of es ++ rest)) =
      sym (ap file_refusal (take-append_seam (file_of es) rest) ∙ accepted_back es (omega arith)) in
      let fits-buffer : length (file_of es) + length (record_of e) ≤ length (file_of es ++ rest) = omega arith in
      let fits-file : length (file_of es) + length (record_of e) ≤ 65536 = omega arith in
      let no_refusal : 0 ≡ append_refusal (file_of es ++ rest) (length (file_of es)) e =
      rw (← refused_room (file_of es ++ rest) (length (file_of es)) e 0 (length (record_of e)) (omega arith) good refl refl)
      (simp (le-ltb _ _ fits-buffer, le-ltb _ _ fits-file)) in
      let answer =
      sym (appended_accepted (file_of es ++ rest) _ (length (file_of es)) e 0 (length (record_of e)) no_refusal refl refl refl) in
      record {
        accepted = ap (λ (w : Written). w.refusal) answer;
        filled = ap (λ (w : Written). w.filled) answer ∙ sym size;
        buffer =
            ap (λ (w : Written). w.buffer) answer
            ∙ renewed es e rest (omega arith)
            ∙ ap (λ (l : List ℕ). file_of (es ++ (e ∷ [])) ++ l)
            (drop-drop (length (record_of e)) (length (file_of es)) before ∙ ap (λ (n : ℕ). drop n before) (sym size));
      }

-- the whole list, after what is already there
appends_all :
    (es : List Event) (before : List ℕ) (done : List Event) (w : Written) → Holds before done w →
    length (file_of (done ++ es)) ≤ length before → length (file_of (done ++ es)) ≤ 65536 →
    Holds before (done ++ es) (appended_all es w)
unfolding appended_all
appends_all [] before done w h room small = rw append-nil h
appends_all (e ∷ es) before done w h room small =
    let order : done ++ (e ∷ []) ++ es ≡ done ++ (e ∷ es) = append_snoc done e es in
    let size = length-append-file (done ++ (e ∷ [])) es in
    let size' = ap (λ (l : List Event). length (file_of l)) order in
    let one : Holds before (done ++ (e ∷ [])) (appended w.buffer w.filled e) =
    rw (h.buffer, h.filled) (appends_one before done e (omega arith) (omega arith)) in
    rw h.accepted
    (subst (λ (l : List Event). Holds before l (appended_all es (appended w.buffer w.filled e))) order
    (appends_all es before (done ++ (e ∷ [])) (appended w.buffer w.filled e) one (omega arith) (omega arith)))

pub holds_all :
    (es : List Event) (buffer : List ℕ) → length (file_of es) ≤ length buffer → length (file_of es) ≤ 65536 →
    Holds buffer es (written_all es buffer)
holds_all es buffer room small =
    appends_all es buffer [] (started buffer) (starts buffer (omega (arith, length-file_of es))) room small
