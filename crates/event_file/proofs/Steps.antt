-- THE LAW of a step: from an offset of an accepted file on, it finds the first of the events that are left, and none where none is left.
use Prim.Native.Nat.{ℕ, ◌≤◌, ◌<◌}
use native.Mathlib.Omega.{arith}
use mathlib.Core.Path.{◌≡◌, refl, sym, ap, ◌∙◌}
use mathlib.Core.List.{List, [], ◌∷◌}
use mathlib.Core.Bool.{Bool, true, false}
use mathlib.Core.Logic.{⊎_elim, inl, inr}
use mathlib.Core.Option.{some}
use types.Run.{OneOf}
use denote.Enum.Declared.{tag_of}
use lib.Dec.{ltb}
use lib.ListN.{length, drop_of_length-le}
use borrow.Author.Tests.{ltb-true, ltb-false}
use Rattle.rules.specs.declared.Event.{Event}
use Rattle.rules.specs.EventFile.{events_after, file_refusal, events_of, event, end, bad, Stepped, stepped}
use Rattle.rules.specs.EventFile as file
use Rattle.rules.proofs.Basics.Views.{Two, yes_true, no_false, two, clash}
use Rattle.rules.proofs.Files.Accepting.{accepted}
use Rattle.rules.proofs.Files.Stepping.{ahead, stepped_end}
use Rattle.event_file.specs.declared.reader.Found.{Found}
use Rattle.event_file.specs.declared.reader.Found.TheVariants.{Record, End, Bad}
use Rattle.event_file.specs.Answers.{shown_found}
use Rattle.event_file.specs.Left.{Left}
use Rattle.event_file.specs.contracts.reader.Found.{the_type}

-- what is no event is the file's end or a bad record
pub not_record : (f : Found) → ((e : Event) → f ≡ Record e → ⊥) → OneOf (1 ∷ 2 ∷ []) (tag_of the_type f)
not_record (Record e) none = absurd (none e refl)
not_record End none = inl refl
not_record Bad none = inr refl

-- before the first event of an accepted file
pub all_left : (bytes : List ℕ) → file_refusal bytes ≡ 0 → Left bytes 5 (events_of bytes)
all_left bytes h =
    let a = accepted bytes h in
    record { reads = a.records; low = omega arith; inside = a.head.five }

-- the event e is the first of them, and the others are read from `to` on
pub record First (bytes : List ℕ) (offset to : ℕ) (events : List Event) (e : Event) : Type 0 where
  pub later : List Event
  pub split : events ≡ e ∷ later
  pub left : Left bytes to later
  pub further : offset < to

-- whether a step found an event
abbrev is_event : file.Found → Bool
is_event (event e) = true
is_event end = false
is_event bad = false

-- the code's answer of a step that is no record
no_event : (f : Found) → OneOf (1 ∷ 2 ∷ []) (tag_of the_type f) → is_event (shown_found f) ≡ false
no_event (Record e) k = absurd (⊎_elim (λ q. omega arith) (λ q. omega arith) k)
no_event End k = refl
no_event Bad k = refl

-- nothing is read from nothing
at_end_lem : (left : List Event) → events_after 0 [] ≡ some left → left ≡ []
unfolding events_after
at_end_lem left e = cc

module _ {bytes : List ℕ} {offset : ℕ} {events : List Event} (a : Left bytes offset events) where
  -- at the file's end no event is found, and none is left
  none_at_end : offset ≡ length bytes → (is_event (stepped bytes offset).found ≡ false) × (events ≡ [])
  none_at_end h =
      let found = sym (ap (λ (s : Stepped). s.found) (stepped_end bytes offset a.low h)) in
      let past : length bytes ≤ offset = omega arith in
      (ap is_event found, at_end_lem events (rw (drop_of_length-le bytes past) at a.reads))

  -- an event is found: it is the first
  module _ {e : Event} {to : ℕ} (found : event e ≡ (stepped bytes offset).found) (moved : to ≡ (stepped bytes offset).offset) where
    first_inside : offset < length bytes → First bytes offset to events e
    first_inside h =
        let n = ahead bytes offset events a.low h a.reads in
        let rest = n.rest in
        let at = ap (λ (s : Stepped). s.offset) n.step in
        let found-next = found ∙ ap (λ (s : Stepped). s.found) n.step in
        let same : e ≡ n.next = cc in
        record {
          later = rest;
          split = n.split ∙ ap (λ (x : Event). x ∷ rest) (sym same);
          left =
              record {
                reads = rw (moved ∙ at) n.reads;
                low = omega (arith, a.low, moved, at);
                inside = omega (arith, n.inside, moved, at);
              };
          further = omega (arith, moved, at);
        }

    pub first : First bytes offset to events e
    first = by (two (ltb offset (length bytes)))
      where
        by : Two (ltb offset (length bytes)) → First bytes offset to events e
        by (yes_true h) = first_inside (ltb-true offset (length bytes) h)
        by (no_false h) =
            let none = none_at_end (omega (arith, ltb-false offset (length bytes) h, a.inside)) in
            clash (is_event (stepped bytes offset).found) (sym (ap is_event found)) none.0

  -- no event is found: none is left
  pub none_left : (f : Found) → OneOf (1 ∷ 2 ∷ []) (tag_of the_type f) → shown_found f ≡ (stepped bytes offset).found → events ≡ []
  none_left f other found = by (two (ltb offset (length bytes)))
    where
      by : Two (ltb offset (length bytes)) → events ≡ []
      by (yes_true h) =
          let n = ahead bytes offset events a.low (ltb-true offset (length bytes) h) a.reads in
          clash (is_event (stepped bytes offset).found) (ap (λ (s : Stepped). is_event s.found) n.step)
          (ap is_event (sym found) ∙ no_event f other)
      by (no_false h) = (none_at_end (omega (arith, ltb-false offset (length bytes) h, a.inside))).1
