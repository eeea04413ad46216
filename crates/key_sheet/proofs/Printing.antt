-- Printing event by event: what is put and what is left to print make the whole.
use Prim.Native.Nat.{ℕ, ◌+◌, ◌≤◌, ◌<◌}
use native.Mathlib.Omega.{arith}
use mathlib.Core.Path.{◌≡◌, refl, sym, ap, ◌∙◌}
use mathlib.Core.List.{List, [], ◌∷◌, ◌++◌, append_assoc, append-nil}
use types.Run.{OneOf}
use denote.Enum.Declared.{tag_of}
use lib.ListN.{length}
use Rattle.rules.specs.State.{empty}
use Rattle.rules.specs.declared.Event.{Event}
use Rattle.rules.specs.Events.{dispatch}
use Rattle.rules.specs.Events as events
use Rattle.rules.specs.Lists.{run}
use Rattle.rules.specs.EventFile.{Bytes, file_refusal, events_of, event, stepped}
use Rattle.rules.specs.Key.{line, lines}
use Rattle.event_file.specs.declared.reader.Found.{Found}
use Rattle.event_file.specs.Answers.{shown_found}
use Rattle.event_file.specs.contracts.reader.Found.{the_type}
use Rattle.dispatcher.specs.declared.Machine.{Machine}
use Rattle.dispatcher.specs.Promise.{Answered}
use Rattle.dispatcher.specs.Shown.{shown, empty_machine}
use Rattle.dispatcher.specs.Promise.{Answers}
use Rattle.replay.proofs.Turns.{Ahead, begins, answer_of, goes_on, ended}
use Rattle.text.specs.Put.{Put}
use Rattle.text.proofs.Puts.{put_none, ◌then◌, reading}
use Rattle.text.specs.Line.{line_bytes}

-- the buffer was `before`; the next event is read at `offset`, has this number and goes to the machine m; its line goes to `at`
pub record Going (file before now : List ℕ) (at offset number : ℕ) (m : Machine) : Type 0 where
  pub answers : List events.Answered
  pub text : List ℕ
  pub put : Put before now 0 at text
  pub whole : text ++ lines number answers ≡ lines 1 (run (events_of file) empty)
  pub ahead : Ahead file offset m answers
  pub few : number ≤ offset

-- before the first event
pub begin : (file before : List ℕ) (m : Machine) → m ≡ empty_machine → Bytes file → file_refusal file ≡ 0 → Going file before before 0 5 1 m
begin file before m e bytes h =
    record {
      answers = run (events_of file) empty;
      text = [];
      put = put_none before 0;
      whole = refl;
      ahead = begins file m e bytes h;
      few = omega arith;
    }

module _ {file before now : List ℕ} {at offset number : ℕ} {m : Machine} (g : Going file before now at offset number m) where
  module _ {e : Event} {next : ℕ} {r : Answered} (found : event e ≡ (stepped file offset).found)
      (moved : next ≡ (stepped file offset).offset) (given : Answers (dispatch e (shown m)) m r) where
    -- the next event's line is put, and the machine goes on
    pub printed : {after : List ℕ} {to : ℕ} → Put now after at to (line_bytes number r.refusal r.machine.running r.links)
        → Going file before after to next (number + 1) r.machine
    unfolding lines line line_bytes
    printed p =
        let n = goes_on g.ahead found moved given in
        let text = line number (answer_of r) in
        record {
          answers = n.later;
          text = g.text ++ text;
          put = g.put then p;
          whole =
              append_assoc g.text text (lines (number + 1) n.later)
              ∙ ap (λ (l : List events.Answered). g.text ++ lines number l) (sym n.split)
              ∙ g.whole;
          ahead = n.ahead;
          few = omega (arith, g.few, n.further);
        }

    -- each event moves on, within the file
    pub further : (offset < next) × (next ≤ length file)
    further = let n = goes_on g.ahead found moved given in (n.further, n.ahead.left.inside)

  -- without an event all is put
  pub done : (f : Found) → OneOf (1 ∷ 2 ∷ []) (tag_of the_type f) → shown_found f ≡ (stepped file offset).found
      → Put before now 0 at (lines 1 (run (events_of file) empty))
  unfolding lines
  done f other found =
      let nothing_left = ap (λ (l : List events.Answered). g.text ++ lines number l) (sym (ended g.ahead f other found)) in
      reading (sym (append-nil g.text) ∙ nothing_left ∙ g.whole) g.put
