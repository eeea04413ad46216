-- EVENT BY EVENT from a place of the buffer on: the events gone and those left make the whole, and the machine is the one after those gone.
use Prim.Native.Nat.{ℕ, ◌+◌, ◌-◌, ◌≤◌, ◌<◌}
use native.Mathlib.Omega.{arith}
use mathlib.Core.Path.{◌≡◌, refl, sym, ap, ◌∙◌}
use mathlib.Core.List.{List, [], ◌∷◌, ◌++◌}
use mathlib.Core.Bool.{true}
use lib.ListN.{length, length-append}
use lib.Seq.{append_snoc}
use Rattle.rules.specs.declared.Event.{Event}
use Rattle.rules.specs.State.{State}
use Rattle.rules.specs.Events as events
use Rattle.rules.specs.Lists.{after}
use Rattle.rules.specs.EventFile.{Bytes, record_of, records_of, event, stepped}
use Rattle.rules.proofs.Files.Records.{ranged}
use Rattle.rules.proofs.Files.Inverse.{step_fits}
use Rattle.rules.proofs.Files.Appending.{records_of_one}
use Rattle.rules.proofs.Shortening.Refusing.{after_append}
use Rattle.event_file.specs.declared.reader.Found.{Found}
use Rattle.event_file.specs.declared.reader.Found.TheVariants.{Record}
use Rattle.event_file.specs.Answers.{shown_found}
use Rattle.dispatcher.specs.declared.Machine.{Machine}
use Rattle.dispatcher.specs.Promise.{Answered}
use Rattle.dispatcher.specs.Shown.{shown, sound_machine}
use Rattle.dispatcher.specs.Promise.{Answers}
use Rattle.dispatcher.proofs.Runs.{dispatched_sound}
use Rattle.replay.proofs.Turns.{turn_answer}
use Rattle.event_file.specs.Left.{events_at}
use Rattle.shorten_sheet.specs.Standing.{Stand}
use Rattle.shorten_sheet.specs.Promises.{Reaches}
use Rattle.shorten_sheet.proofs.Standing.{no_events, first_stands, stand_size}

-- of the events es, which begin at `from` where the machine is s, those gone end at `at`
pub record Along (bytes : List ℕ) (from : ℕ) (s : State) (es : List Event) (at : ℕ) (m : Machine) : Type 0 where
  pub gone : List Event
  pub left : List Event
  pub all : es ≡ gone ++ left
  pub stands : Stand bytes at left
  pub place : at ≡ from + length (records_of gone)
  pub state : shown m ≡ after gone s
  pub sound : sound_machine m ≡ true

unfoldable pub begin : {bytes : List ℕ} {from : ℕ} {es : List Event} (m : Machine) → Stand bytes from es → sound_machine m ≡ true
    → Along bytes from (shown m) es from m
unfolding records_of after
begin {es = es} m x h = record { gone = []; left = es; all = refl; stands = x; place = omega arith; state = refl; sound = h }

-- an event is found at `at` and dispatched
pub record Turn (bytes : List ℕ) (at to : ℕ) (m : Machine) (e : Event) (r : Answered) : Type 0 where
  pub narrow : Bytes bytes
  pub found : event e ≡ (stepped bytes at).found
  pub moved : to ≡ (stepped bytes at).offset
  pub given : Answers (events.dispatch e (shown m)) m r

-- what the code's step and the machine say of it
pub turn : {bytes : List ℕ} {at to : ℕ} {m : Machine} {e : Event} {r : Answered} (f : Found) → Bytes bytes → f ≡ Record e
    → shown_found f ≡ (stepped bytes at).found → to ≡ (stepped bytes at).offset → Answers (events.dispatch e (shown m)) m r
    → Turn bytes at to m e r
turn f narrow is found moved given =
    record { narrow = narrow; found = sym (ap shown_found is) ∙ found; moved = moved; given = given }

-- what a turn leaves
pub record Onward (bytes : List ℕ) (from : ℕ) (s : State) (es gone : List Event) (at to : ℕ) (e : Event) (r : Answered) : Type 0 where
  pub later : List Event
  pub split : es ≡ gone ++ (e ∷ later)
  pub ends : to ≡ at + length (record_of e)
  pub number : (events.offer e (after gone s)).refusal ≡ r.refusal
  pub next : Along bytes from s es to r.machine
  pub next_gone : next.gone ≡ gone ++ (e ∷ [])

unfoldable pub onward : {bytes : List ℕ} {from : ℕ} {s : State} {es : List Event} {at to : ℕ} {m : Machine} {e : Event} {r : Answered}
    (a : Along bytes from s es at m) → Turn bytes at to m e r → Onward bytes from s es a.gone at to e r
unfolding after
onward {bytes} {from} {s} {es} {at} {to} {m} {e} {r} a t =
    let f = first_stands a.stands t.found t.moved in
    let gone = a.gone in
    let answer = turn_answer e a.sound t.given in
    let split = a.all ∙ ap (λ (l : List Event). gone ++ l) f.split in
    record {
      later = f.later;
      split = split;
      ends = f.ends;
      number = ap (λ (z : State). (events.offer e z).refusal) (sym a.state) ∙ ap (λ (w : events.Answered). w.refusal) answer;
      next =
          record {
            gone = gone ++ (e ∷ []);
            left = f.later;
            all = split ∙ sym (append_snoc gone e f.later);
            stands = f.left;
            place = omega (arith, f.ends, a.place, ap length (records_of_one gone e), length-append (records_of gone) (record_of e));
            state =
                sym (ap (λ (w : events.Answered). w.state) answer)
                ∙ ap (λ (z : State). (events.offer e z).state) a.state
                ∙ sym (after_append gone (e ∷ []) s);
            sound = dispatched_sound e m r (ranged e (step_fits bytes at e t.narrow (sym t.found))) a.sound t.given;
          };
      next_gone = refl;
    }

-- THE EVENT REACHED is found, and the run stops before it
module _ {bytes : List ℕ} {from : ℕ} {s : State} {at : ℕ} {m : Machine} (a : Along bytes from s (events_at from bytes) at m)
    {to : ℕ} {e : Event} (found : event e ≡ (stepped bytes at).found) (moved : to ≡ (stepped bytes at).offset) where
  pub within : to ≤ length bytes
  within = (first_stands a.stands found moved).left.inside

  pub reaches : (most : ℕ) → length bytes - to ≤ most → (at ≡ from → most ≡ 0)
      → Reaches (events_at from bytes) s from (record { machine = m; at = at })
  reaches most near first =
      let f = first_stands a.stands found moved in
      record {
        before = a.gone;
        event = e;
        later = f.later;
        split = a.all ∙ ap (λ (l : List Event). a.gone ++ l) f.split;
        begins = a.place;
        state = a.state;
        sound = a.sound;
        alone = λ q. no_events f.later (omega (arith, stand_size f.left, f.left.inside, near, first q));
      }

-- before the end there is one
pub found_before_end : {bytes : List ℕ} {at : ℕ} {es : List Event} {A : Type 0} → Stand bytes at es → at < length bytes → es ≡ [] → A
unfolding records_of
found_before_end x inside none = absurd (omega (arith, stand_size x, inside, ap (λ (l : List Event). length (records_of l)) none))
