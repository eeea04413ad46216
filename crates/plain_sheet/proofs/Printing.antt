-- Printing event by event: what is put and what is left to print make the whole, since a step reads the first of the events that are left
-- and the engine answers it as the plain machine does.
use Prim.Native.Nat.{ℕ, ◌+◌, ◌≤◌, ◌<◌}
use native.Mathlib.Omega.{arith}
use mathlib.Core.Path.{◌≡◌, refl, sym, ap, ◌∙◌}
use mathlib.Core.List.{List, [], ◌∷◌, ◌++◌, append_assoc, append-nil}
use types.Run.{OneOf}
use denote.Enum.Declared.{tag_of}
use lib.ListN.{length}
use Rattle.rules.specs.declared.Event.{Event}
use Rattle.rules.specs.Sound.{shaped}
use Rattle.rules.specs.Lists.{AllRanged, plain_run}
use Rattle.rules.specs.EventFile.{Bytes, file_refusal, events_of, event, stepped}
use Rattle.rules.specs.Plain.{PlainAnswered, empty_plain, plain_offer, plain_offer_if}
use Rattle.rules.specs.Key.{bytes, columns, plain_lines}
use Rattle.rules.proofs.Files.Records.{all_ranged}
use Rattle.rules.proofs.Files.Inverse.{events_fit}
use Rattle.rules.proofs.WithoutPlaces.{OfSound, of_empty}
use Rattle.event_file.specs.declared.reader.Found.{Found}
use Rattle.event_file.specs.declared.reader.Found.TheVariants.{Record}
use Rattle.event_file.specs.Answers.{shown_found}
use Rattle.event_file.specs.contracts.reader.Found.{the_type}
use Rattle.event_file.specs.Left.{Left}
use Rattle.event_file.proofs.Steps.{all_left, first, none_left}
use Rattle.plain_engine.specs.declared.PlainMachine.{PlainMachine}
use Rattle.plain_engine.specs.Shown.{plain_shown, empty_machine}
use Rattle.plain_engine.specs.Promise.{Answered, PlainAnswers}
use Rattle.plain_engine.proofs.Runs.{answer_of, as_offered, answered_of_sound}
use Rattle.text.specs.Put.{Put}
use Rattle.text.proofs.Puts.{put_none, ◌then◌, reading}

-- the buffer was `before`; the next event is read at `offset`, has this number and goes to the machine m; its line goes to `at`
pub record Going (file before now : List ℕ) (at offset number : ℕ) (m : PlainMachine) : Type 0 where
  pub events : List Event
  pub left : Left file offset events
  pub ranged : AllRanged events
  pub of_sound : OfSound (plain_shown m)
  pub text : List ℕ
  pub put : Put before now 0 at text
  pub whole : text ++ plain_lines number (plain_run events (plain_shown m)) ≡ plain_lines 1 (plain_run (events_of file) empty_plain)
  pub few : number ≤ offset

-- before the first event
pub begin : (file before : List ℕ) (m : PlainMachine) → m ≡ empty_machine → Bytes file → file_refusal file ≡ 0
    → Going file before before 0 5 1 m
begin file before m e narrow h =
    rw e
    record {
      events = events_of file;
      left = all_left file h;
      ranged = all_ranged (events_of file) (events_fit file narrow);
      of_sound = of_empty;
      text = [];
      put = put_none before 0;
      whole = refl;
      few = omega arith;
    }

module _ {file before now : List ℕ} {at offset number : ℕ} {m : PlainMachine} (g : Going file before now at offset number m) where
  module _ {e : Event} {f : Found} {next : ℕ} {r : Answered} (is : f ≡ Record e)
      (read : shown_found f ≡ (stepped file offset).found) (moved : next ≡ (stepped file offset).offset)
      (given : PlainAnswers (plain_offer_if (shaped (plain_shown m)) e (plain_shown m)) m r) where
    found : event e ≡ (stepped file offset).found
    found = sym (ap shown_found is) ∙ read

    -- the next event's line is put, and the machine goes on
    pub printed : {after : List ℕ} {to : ℕ} → Put now after at to (columns number r.refusal r.machine.running ++ bytes "\n")
        → Going file before after to next (number + 1) r.machine
    unfolding plain_lines plain_run
    printed p =
        let n = first g.left found moved in
        let rest = n.later in
        let ranged : AllRanged (e ∷ rest) = rw n.split at g.ranged in
        let line = columns number r.refusal r.machine.running ++ bytes "\n" in
        let this : plain_offer e (plain_shown m) ≡ answer_of r = sym (as_offered e m r g.of_sound given) in
        let lines : PlainAnswered → List ℕ =
        λ a. g.text
        ++ (columns number a.refusal a.plain.running ++ bytes "\n" ++ plain_lines (number + 1) (plain_run rest a.plain)) in
        record {
          events = rest;
          left = n.left;
          ranged = ranged.1;
          of_sound = answered_of_sound e m r ranged.0 g.of_sound given;
          text = g.text ++ line;
          put = g.put then p;
          whole =
              append_assoc g.text line (plain_lines (number + 1) (plain_run rest (plain_shown r.machine)))
              ∙ sym (ap lines this)
              ∙ ap (λ (l : List Event). g.text ++ plain_lines number (plain_run l (plain_shown m))) (sym n.split)
              ∙ g.whole;
          few = omega (arith, g.few, n.further);
        }

    -- each event moves on, within the file
    pub further : (offset < next) × (next ≤ length file)
    further = let n = first g.left found moved in (n.further, n.left.inside)

  -- without an event all is put
  pub done : (f : Found) → OneOf (1 ∷ 2 ∷ []) (tag_of the_type f) → shown_found f ≡ (stepped file offset).found
      → Put before now 0 at (plain_lines 1 (plain_run (events_of file) empty_plain))
  unfolding plain_lines plain_run
  done f other found =
      let nothing_left = ap (λ (l : List Event). g.text ++ plain_lines number (plain_run l (plain_shown m)))
      (sym (none_left g.left f other found)) in
      reading (sym (append-nil g.text) ∙ nothing_left ∙ g.whole) g.put
