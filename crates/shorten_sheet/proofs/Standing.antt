-- Records that stand in a buffer: a step finds the first of them and goes on behind it, and none where none is left. Records in a row may
-- be cut anywhere between two of them.
use Prim.Native.Nat.{ℕ, suc, ◌+◌, ◌≤◌, ◌<◌}
use native.Mathlib.Omega.{arith}
use native.Mathlib.Nat.{add-zero}
use mathlib.Core.Path.{◌≡◌, refl, sym, ap, ◌∙◌, subst}
use mathlib.Core.List.{List, [], ◌∷◌, ◌++◌}
use types.Run.{OneOf}
use denote.Enum.Declared.{tag_of}
use lib.ListN.{length, get_or, take, drop, length-append, length-drop}
use lib.Seq.{drop-drop, take-append_seam, drop-append_seam, get_or-drop, take-add, drop_at, length-take-le}
use Rattle.rules.specs.declared.Event.{Event}
use Rattle.rules.specs.EventFile.{record_of, records_of, operands_of, events_after, or_none, event, Stepped, stepped}
use Rattle.rules.proofs.Files.Records.{records_length}
use Rattle.rules.proofs.Files.WrittenThenRead.{records_back}
use Rattle.rules.proofs.Files.Appending.{records_of_append}
use Rattle.rules.proofs.Files.Stepping.{ahead}
use Rattle.event_file.specs.declared.reader.Found.{Found}
use Rattle.event_file.specs.Answers.{shown_found}
use Rattle.event_file.specs.contracts.reader.Found.{the_type}
use Rattle.event_file.specs.Left.{Left}
use Rattle.event_file.proofs.Steps.{first, none_left}
use Rattle.event_file.specs.Left.{events_at}
use Rattle.shorten_sheet.specs.Standing.{Stand}

-- no record, no event
pub no_events : (es : List Event) → length (records_of es) ≡ 0 → es ≡ []
no_events [] h = refl
no_events (e ∷ es) h = absurd (omega (arith, h, records_length (e ∷ es)))

-- the first of the events ends at `to`, where the others begin
pub record First (bytes : List ℕ) (at to : ℕ) (es : List Event) (e : Event) : Type 0 where
  pub later : List Event
  pub split : es ≡ e ∷ later
  pub ends : to ≡ at + length (record_of e)
  pub left : Stand bytes to later

module _ {bytes : List ℕ} {at : ℕ} {es : List Event} (x : Stand bytes at es) where
  -- they are read there
  pub events_at_lem : events_at at bytes ≡ es
  events_at_lem = ap (λ (l : List ℕ). or_none (events_after 0 l)) x.whole ∙ ap or_none (records_back es)

  pub stand_read : Stand bytes at (events_at at bytes)
  stand_read = subst (λ (l : List Event). Stand bytes at l) (sym events_at_lem) x

  left : Left bytes at es
  left = record { reads = ap (events_after 0) x.whole ∙ records_back es; low = x.low; inside = x.inside }

  pub stand_size : length bytes ≡ at + length (records_of es)
  stand_size = omega (arith, ap length x.whole, length-drop at bytes, x.inside)

  -- a record's first byte counts what follows it
  ends_at : {e : Event} {later : List Event} {to : ℕ} → es ≡ e ∷ later → at < length bytes → to ≡ (stepped bytes at).offset
      → to ≡ at + length (record_of e)
  unfolding records_of
  ends_at {e} {later} {to} split inside moved =
      let n = ahead bytes at es x.low inside left.reads in
      let head : get_or bytes at 0 ≡ suc (length (operands_of e)) =
      ap (λ (k : ℕ). get_or bytes k 0) (sym (add-zero at)) ∙ sym (get_or-drop at bytes 0 0)
      ∙ ap (λ (l : List ℕ). get_or l 0 0) (x.whole ∙ ap records_of split) in
      omega (arith, moved, ap (λ (s : Stepped). s.offset) n.step, head)

  stand_behind : {e : Event} {later : List Event} {to : ℕ} → es ≡ e ∷ later → to ≡ at + length (record_of e) → Stand bytes to later
  unfolding records_of
  stand_behind {e} {later} {to} split ends =
      record {
        low = omega (arith, x.low, ends);
        inside =
            omega (
              arith,
              stand_size,
              ends,
              ap (λ (l : List Event). length (records_of l)) split,
              length-append (record_of e) (records_of later),
            );
        whole =
            ap (λ (n : ℕ). drop n bytes) ends
            ∙ sym (drop-drop (length (record_of e)) at bytes)
            ∙ ap (drop (length (record_of e))) (x.whole ∙ ap records_of split)
            ∙ drop-append_seam (record_of e) (records_of later);
      }

  pub first_stands : {e : Event} {to : ℕ} → event e ≡ (stepped bytes at).found → to ≡ (stepped bytes at).offset → First bytes at to es e
  first_stands found moved =
      let n = first left found moved in
      let ends = ends_at n.split (omega (arith, n.further, n.left.inside)) moved in
      record { later = n.later; split = n.split; ends = ends; left = stand_behind n.split ends }

  pub none_stands : (f : Found) → OneOf (1 ∷ 2 ∷ []) (tag_of the_type f) → shown_found f ≡ (stepped bytes at).found → es ≡ []
  none_stands = none_left left

-- the bytes from a place on, of the first so many
pub drop-take : (at n : ℕ) (bytes : List ℕ) → at ≤ length bytes → drop at (take (at + n) bytes) ≡ take n (drop at bytes)
drop-take at n bytes inside =
    ap (drop at) (take-add at n bytes) ∙ drop_at (take at bytes) (take n (drop at bytes)) at (length-take-le at bytes inside)

-- RECORDS IN A ROW, cut where the second ones begin
module _ (xs ys : List Event) {bytes : List ℕ} {at mid : ℕ} (x : Stand bytes at (xs ++ ys)) (cut : mid ≡ at + length (records_of xs))
  where
    whole : drop at bytes ≡ records_of xs ++ records_of ys
    whole = x.whole ∙ records_of_append xs ys

    pub cut_within : mid ≤ length bytes
    cut_within = omega (arith, cut, stand_size x, ap length (records_of_append xs ys), length-append (records_of xs) (records_of ys))

    pub stand_front : Stand (take mid bytes) at xs
    stand_front =
        record {
          low = x.low;
          inside = omega (arith, cut, length-take-le mid bytes cut_within);
          whole =
              ap (λ (n : ℕ). drop at (take n bytes)) cut
              ∙ drop-take at (length (records_of xs)) bytes x.inside
              ∙ ap (take (length (records_of xs))) whole
              ∙ take-append_seam (records_of xs) (records_of ys);
        }

    pub stand_rear : Stand bytes mid ys
    stand_rear =
        record {
          low = omega (arith, cut, x.low);
          inside = cut_within;
          whole =
              ap (λ (n : ℕ). drop n bytes) cut
              ∙ sym (drop-drop (length (records_of xs)) at bytes)
              ∙ ap (drop (length (records_of xs))) whole
              ∙ drop-append_seam (records_of xs) (records_of ys);
        }
