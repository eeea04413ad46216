-- Event by event: the events left to dispatch from here lead to the machine after the event asked for.
use Prim.Native.Nat.{ℕ, suc, ◌+◌, ◌<◌}
use native.Mathlib.Omega.{arith}
use mathlib.Core.Path.{◌≡◌, refl, sym, ap, ◌∙◌}
use mathlib.Core.List.{List, [], ◌∷◌}
use mathlib.Core.Bool.{Bool, true, false, not}
use Rattle.std.specs.Prelude.{Option, is_some, unwrap_or}
use Rattle.std.specs.Bool.{then_some}
use lib.Dec.{ltb}
use lib.ListN.{length, take}
use borrow.Author.Tests.{lt-ltb, le-ltb, ltb-true, ltb-false, eq-eqb, ne_eqb}
use types.Run.{OneOf}
use denote.Enum.Declared.{tag_of}
use Rattle.rules.specs.declared.Event.{Event}
use Rattle.rules.specs.State.{State, empty}
use Rattle.rules.specs.Events.{dispatch}
use Rattle.rules.specs.Events as events
use Rattle.rules.specs.Lists.{run, after}
use Rattle.rules.specs.EventFile.{Bytes, file_refusal, events_of, event, stepped}
use Rattle.rules.specs.Reason.{no_such_event, machine_after}
use Rattle.rules.proofs.Basics.Views.{Two, yes_true, no_false, two, clash}
use Rattle.event_file.specs.declared.reader.Found.{Found}
use Rattle.event_file.specs.Answers.{shown_found}
use Rattle.event_file.specs.contracts.reader.Found.{the_type}
use Rattle.event_file.proofs.Steps.{none_left}
use Rattle.dispatcher.specs.declared.Machine.{Machine}
use Rattle.dispatcher.specs.Promise.{Answered}
use Rattle.dispatcher.specs.Shown.{shown, empty_machine}
use Rattle.dispatcher.proofs.Runs.{shows_empty}
use Rattle.dispatcher.specs.Promise.{Answers}
use Rattle.reason_sheet.specs.Arrived.{Arrived}
use Rattle.replay.proofs.Turns.{Ahead, begins, goes_on, turn_answer}

-- the next event is read at `offset` and goes to the machine m; so many are left to dispatch
pub record Going (file : List ℕ) (number offset left : ℕ) (m : Machine) : Type 0 where
  pub answers : List events.Answered
  pub ahead : Ahead file offset m answers
  pub leads : after (take left ahead.events) (shown m) ≡ machine_after number file
  pub counted : length ahead.events + number ≡ length (events_of file) + left

-- before the first event
pub begin : (file : List ℕ) (number : ℕ) (m : Machine) → m ≡ empty_machine → Bytes file → file_refusal file ≡ 0
    → Going file number 5 number m
unfolding machine_after begins
begin file number m e bytes h =
    record {
      answers = run (events_of file) empty;
      ahead = begins file m e bytes h;
      leads = ap (after (take number (events_of file))) (shows_empty m e);
      counted = omega arith;
    }

-- the first of so many events
step_after : (left rest : ℕ) (e : Event) (es : List Event) (s : State) → left ≡ suc rest
    → after (take left (e ∷ es)) s ≡ after (take rest es) (events.offer e s).state
unfolding after
step_after left rest e es s one = rw one

module _ {file : List ℕ} {number offset left : ℕ} {m : Machine} (g : Going file number offset left m) where
  -- an event is found and dispatched
  pub dispatched : {e : Event} {next : ℕ} {r : Answered} → event e ≡ (stepped file offset).found → next ≡ (stepped file offset).offset
      → Answers (dispatch e (shown m)) m r → (fewer : ℕ) → left ≡ suc fewer → Going file number next fewer r.machine
  dispatched {e} found moved given fewer one =
      let n = goes_on g.ahead found moved given in
      let rest = n.ahead.events in
      record {
        answers = n.later;
        ahead = n.ahead;
        leads =
            sym (ap (λ (a : events.Answered). after (take fewer rest) a.state) (turn_answer e g.ahead.sound given))
            ∙ sym (step_after left fewer e rest (shown m) one)
            ∙ ap (λ (l : List Event). after (take left l) (shown m)) (sym n.read)
            ∙ g.leads;
        counted = omega (arith, g.counted, ap length n.read);
      }

  -- no event is found, and one is asked for
  pub none_there : (f : Found) → OneOf (1 ∷ 2 ∷ []) (tag_of the_type f) → shown_found f ≡ (stepped file offset).found → 0 < left
      → false ≡ not (no_such_event number file)
  none_there f other found some =
      let none : length g.ahead.events ≡ 0 = ap length (none_left g.ahead.left f other found) in
      rw (ne_eqb number 0 (omega (arith, g.counted)), lt-ltb (length (events_of file)) number (omega (arith, g.counted)))

  -- all are dispatched
  pub there : left ≡ 0 → shown m ≡ machine_after number file
  unfolding after
  there e = rw e at g.leads

  pub asked_for : left ≡ 0 → ltb 0 number ≡ not (no_such_event number file)
  asked_for e = by (two (ltb 0 number))
    where
      low : ltb (length (events_of file)) number ≡ false
      low = le-ltb (length (events_of file)) number (omega (arith, g.counted))

      by : Two (ltb 0 number) → ltb 0 number ≡ not (no_such_event number file)
      by (yes_true h) = rw (h, low, ne_eqb number 0 (omega (arith, ltb-true 0 number h)))
      by (no_false h) = rw (h, low, eq-eqb number 0 (omega (arith, ltb-false 0 number h)))

-- the machine, if there is such an event
pub arrived : (file : List ℕ) (number : ℕ) (b : Bool) (m : Machine) {r : Option Machine} → r ≡ then_some b m
    → b ≡ not (no_such_event number file) → shown m ≡ machine_after number file → Arrived file number r
arrived file number true m e is after-it =
    rw e record { found = is; machine = λ n same. ap (λ (o : Option Machine). shown (unwrap_or o m)) (sym same) ∙ after-it }
arrived file number false m e is after-it =
    rw e record { found = is; machine = λ n none. clash true refl (ap is_some (sym none)) }
