-- THE LAW of a turn: from an offset of an accepted file on, the answers that are left are this turn's answer and then those from the next
-- offset on, because a step reads the first of the events that are left; the machine stays sound.
use Prim.Native.Nat.{ℕ, ◌<◌}
use mathlib.Core.Path.{◌≡◌, refl, sym, ap, ◌∙◌}
use mathlib.Core.List.{List, [], ◌∷◌}
use mathlib.Core.Bool.{true}
use types.Run.{OneOf}
use denote.Enum.Declared.{tag_of}
use Rattle.std.specs.Prelude.{Result, Ok, Err}
use Rattle.std.specs.Result.{result_unwrap_or}
use Rattle.rules.specs.declared.refusal.Refusal.{Refusal}
use Rattle.rules.specs.RefusalNumbers.{links_in}
use Rattle.rules.specs.declared.Event.{Event}
use Rattle.rules.specs.State.{empty}
use Rattle.rules.specs.Sound.{sound}
use Rattle.rules.specs.Events as events
use Rattle.rules.specs.Lists.{AllRanged, run}
use Rattle.rules.specs.EventFile.{Bytes, file_refusal, events_of, event, stepped}
use Rattle.rules.specs.EventFile as file
use Rattle.rules.proofs.Basics.Views.{and_true_right}
use Rattle.rules.proofs.Agreement.{offer_sound}
use Rattle.rules.proofs.Files.Records.{all_ranged}
use Rattle.rules.proofs.Files.Inverse.{events_fit}
use Rattle.rules.proofs.Files.Stepping.{ahead}
use Rattle.event_file.specs.declared.reader.Found.{Found}
use Rattle.event_file.specs.Answers.{shown_found}
use Rattle.event_file.specs.contracts.reader.Found.{the_type}
use Rattle.event_file.specs.Left.{Left}
use Rattle.event_file.proofs.Steps.{all_left, first, none_left}
use Rattle.dispatcher.specs.declared.Machine.{Machine}
use Rattle.dispatcher.specs.Promise.{Answered}
use Rattle.dispatcher.specs.Shown.{shown, stored, sound_machine, empty_machine}
use Rattle.dispatcher.specs.Promise.{Answers}
use Rattle.dispatcher.proofs.Runs.{shows_empty, empty_machine_sound, dispatched_sound}

-- these are the answers to the events that are left from the offset on, from the machine m on
pub record Ahead (bytes : List ℕ) (offset : ℕ) (m : Machine) (answers : List events.Answered) : Type 0 where
  pub events : List Event
  pub left : Left bytes offset events
  pub ranged : AllRanged events
  pub sound : sound_machine m ≡ true
  pub answered : run events (shown m) ≡ answers

-- an answer of the code as the definitions have it
abbrev pub answer_of : Answered → events.Answered
answer_of r = record { state = shown r.machine; refusal = r.refusal; links = r.links }

-- the links that the code says
pub links_said : (r : Result ℕ Refusal) → result_unwrap_or r 0 ≡ links_in r
links_said (Ok links) = refl
links_said (Err refusal) = refl

-- before the first event of an accepted file
unfoldable pub begins : (bytes : List ℕ) (m : Machine) → m ≡ empty_machine → Bytes bytes → file_refusal bytes ≡ 0
    → Ahead bytes 5 m (run (events_of bytes) empty)
begins bytes m e narrow h =
    record {
      events = events_of bytes;
      left = all_left bytes h;
      ranged = all_ranged (events_of bytes) (events_fit bytes narrow);
      sound = ap sound_machine e ∙ empty_machine_sound;
      answered = ap (run (events_of bytes)) (shows_empty m e);
    }

-- an answer that keeps its promise is the definitions' answer
answer_of_lem : {a : events.Answered} {m : Machine} {r : Answered} → Answers a m r → answer_of r ≡ a
answer_of_lem p = λ i. record { state = p.state i; refusal = p.refusal i; links = p.links i }

-- what the definitions answer where the machine does
pub turn_answer : (e : Event) {m : Machine} {r : Answered} → sound_machine m ≡ true → Answers (events.dispatch e (shown m)) m r
    → events.offer e (shown m) ≡ answer_of r
unfolding sound_machine
turn_answer e {m} h given = offer_sound e (shown m) (and_true_right (stored m) (sound (shown m)) h) ∙ sym (answer_of_lem given)

-- what a turn leaves to do
pub record Next (bytes : List ℕ) (offset to : ℕ) (es : List Event) (e : Event) (answers : List events.Answered) (r : Answered) : Type 0
  where
    pub later : List events.Answered
    pub split : answers ≡ answer_of r ∷ later
    pub ahead : Ahead bytes to r.machine later
    pub read : es ≡ e ∷ ahead.events
    pub further : offset < to

module _ {bytes : List ℕ} {offset : ℕ} {m : Machine} {answers : List events.Answered} (a : Ahead bytes offset m answers) where
  -- an event is found, the machine answers it, and the file goes on where the step says
  pub goes_on : {e : Event} {to : ℕ} {r : Answered} → event e ≡ (stepped bytes offset).found → to ≡ (stepped bytes offset).offset
      → Answers (events.dispatch e (shown m)) m r → Next bytes offset to a.events e answers r
  unfolding run
  goes_on {e} {to} {r} found moved given =
      let n = first a.left found moved in
      let rest = n.later in
      let ranged : AllRanged (e ∷ rest) = rw n.split at a.ranged in
      let this = ap (λ (x : events.Answered). x ∷ run rest x.state) (turn_answer e a.sound given) in
      record {
        later = run rest (shown r.machine);
        split = sym a.answered ∙ ap (λ (l : List Event). run l (shown m)) n.split ∙ this;
        ahead =
            record {
              events = rest;
              left = n.left;
              ranged = ranged.1;
              sound = dispatched_sound e m r ranged.0 a.sound given;
              answered = refl;
            };
        read = n.split;
        further = n.further;
      }

  -- no event is found: no answer is left
  pub ended : (f : Found) → OneOf (1 ∷ 2 ∷ []) (tag_of the_type f) → shown_found f ≡ (stepped bytes offset).found → answers ≡ []
  unfolding run
  ended f other found = sym a.answered ∙ ap (λ (l : List Event). run l (shown m)) (none_left a.left f other found)
