-- Event by event: the units counted and those that the events left to come pay make the whole, and so does their total.
use Prim.Native.Nat.{ℕ, zero, suc, ◌+◌, ◌≤◌, ◌<◌}
use native.Mathlib.Omega.{arith}
use mathlib.Core.Path.{◌≡◌, refl, sym, ap, ◌∙◌}
use mathlib.Core.List.{List, [], ◌∷◌, ◌++◌}
use mathlib.Core.Bool.{true}
use types.Run.{OneOf}
use denote.Enum.Declared.{tag_of}
use lib.ListN.{length, get_or, replicate, length-replicate}
use Rattle.rules.specs.declared.Event.{Event}
use Rattle.rules.specs.State.{empty, limit}
use Rattle.rules.specs.Sound.{sound}
use Rattle.rules.specs.Events.{dispatch}
use Rattle.rules.specs.Events as events
use Rattle.rules.specs.Lists.{run}
use Rattle.rules.specs.EventFile.{Bytes, file_refusal, events_of, event, stepped}
use Rattle.rules.specs.Shares.{Payment, paid, payments, payments_of, units_of, total, has_paid}
use Rattle.rules.proofs.Basics.Views.{and_true_right, or_true_left}
use Rattle.rules.proofs.Soundness.Places.{sound_of}
use Rattle.rules.proofs.Payments.{paid_in, paid_first, units_append, total_append, has_append, all_bounded}
use Rattle.rules.proofs.Shares.{units_most, paid_below, printed}
use Rattle.event_file.specs.declared.reader.Found.{Found}
use Rattle.event_file.specs.declared.reader.Found.TheVariants.{Record}
use Rattle.event_file.specs.Answers.{shown_found}
use Rattle.event_file.specs.contracts.reader.Found.{the_type}
use Rattle.event_file.proofs.Steps.{none_left}
use Rattle.dispatcher.specs.declared.Machine.{Machine}
use Rattle.dispatcher.specs.Promise.{Answered}
use Rattle.dispatcher.specs.Shown.{shown, stored, sound_machine, empty_machine}
use Rattle.dispatcher.proofs.Runs.{shows_empty}
use Rattle.dispatcher.specs.Promise.{Answers}
use Rattle.replay.proofs.Turns.{Ahead, begins, goes_on, turn_answer}
use Rattle.shares_sheet.specs.Tallies.{Room, Added, Tallied}

-- the next event is read at `offset` and goes to the machine m; so many units are counted
pub record Going (file : List ℕ) (offset : ℕ) (m : Machine) (units : List ℕ) (all : ℕ) : Type 0 where
  pub answers : List events.Answered
  pub ahead : Ahead file offset m answers
  pub size : length units ≡ limit
  pub each : (t : ℕ) → get_or units t 0 + units_of t (paid_in ahead.events (shown m)) ≡ units_of t (payments_of (events_of file))
  pub sum : all + total (paid_in ahead.events (shown m)) ≡ total (payments_of (events_of file))
  pub bound : total (payments_of (events_of file)) < 2147483648

zero_at : (n t : ℕ) → ◌≡◌ {A = ℕ} (get_or (replicate n 0) t 0) 0
zero_at zero t = refl
zero_at (suc n) zero = refl
zero_at (suc n) (suc t) = zero_at n t

-- before the first event
pub begin : (file : List ℕ) (m : Machine) → m ≡ empty_machine → Bytes file → file_refusal file ≡ 0 → Going file 5 m (replicate limit 0) 0
unfolding begins
begin file m e bytes h =
    let es = events_of file in
    let same : paid_in es (shown m) ≡ payments_of es = ap (paid_in es) (shows_empty m e) in
    record {
      answers = run es empty;
      ahead = begins file m e bytes h;
      size = length-replicate {A = ℕ} limit 0;
      each = λ t. omega (arith, zero_at limit t, ap (units_of t) same);
      sum = omega (arith, ap total same);
      bound = (printed file bytes h).bound;
    }

-- a turn: the event e is found at `offset` and dispatched, r is the answer, and the file goes on at `next`
pub record Turn (file : List ℕ) (offset next : ℕ) (m : Machine) (e : Event) (r : Answered) : Type 0 where
  pub found : event e ≡ (stepped file offset).found
  pub moved : next ≡ (stepped file offset).offset
  pub given : Answers (dispatch e (shown m)) m r

-- the code's turn: what the step found is that event
pub turned : {file : List ℕ} {offset next : ℕ} {m : Machine} {f : Found} {e : Event} {r : Answered} → f ≡ Record e
    → shown_found f ≡ (stepped file offset).found → next ≡ (stepped file offset).offset → Answers (dispatch e (shown m)) m r
    → Turn file offset next m e r
turned is found moved given = record { found = sym (ap shown_found is) ∙ found; moved = moved; given = given }

module _ {file : List ℕ} {offset : ℕ} {m : Machine} {units : List ℕ} {all : ℕ} (g : Going file offset m units all) where
  module _ {e : Event} {next : ℕ} {r : Answered} (x : Turn file offset next m e r) where
    abbrev now : List Payment
    now = paid r.refusal m.running e

    -- what the next event pays, and what those after it do
    abbrev later : List Payment
    later = paid_in (goes_on g.ahead x.found x.moved x.given).ahead.events (shown r.machine)

    split : paid_in g.ahead.events (shown m) ≡ now ++ later
    split =
        let n = goes_on g.ahead x.found x.moved x.given in
        let rest = n.ahead.events in
        ap (λ (l : List Event). paid_in l (shown m)) n.read
        ∙ paid_first e rest (shown m)
        ∙ ap (λ (a : events.Answered). paid a.refusal m.running e ++ paid_in rest a.state)
        (turn_answer e g.ahead.sound x.given)

    units_split : (t : ℕ) → units_of t (paid_in g.ahead.events (shown m)) ≡ units_of t now + units_of t later
    units_split t = ap (units_of t) split ∙ units_append t now later

    total_split : total (paid_in g.ahead.events (shown m)) ≡ total now + total later
    total_split = ap total split ∙ total_append now later

    -- who pays is a timeslice of a sound machine, and pays no more than the total
    pub room : Room units now
    unfolding sound_machine
    room t h =
        let ps = paid_in g.ahead.events (shown m) in
        let is_sound = sound_of (shown m) (and_true_right (stored m) (sound (shown m)) g.ahead.sound) in
        let has : has_paid ps t ≡ true =
        ap (λ (l : List Payment). has_paid l t) split ∙ has_append now later t ∙ or_true_left (has_paid now t) (has_paid later t) h in
        let small = paid_below t ps (all_bounded g.ahead.events (shown m) g.ahead.ranged is_sound) has in (
          omega (arith, small, g.size),
          omega (arith, g.each t, units_split t, units_most t (payments_of (events_of file)), g.bound),
        )

    module _ {after : List ℕ} {more : ℕ} (a : Added units after now more) where
      -- the sum has room
      pub sum_fits : all + more < 18446744073709551616
      sum_fits = omega (arith, a.sum, g.sum, total_split, g.bound)

      -- and the machine goes on
      pub counted : Going file next r.machine after (all + more)
      counted =
          let n = goes_on g.ahead x.found x.moved x.given in
          record {
            answers = n.later;
            ahead = n.ahead;
            size = a.size ∙ g.size;
            each = λ t. omega (arith, a.each t, units_split t, g.each t);
            sum = omega (arith, a.sum, total_split, g.sum);
            bound = g.bound;
          }

    -- each event moves on, within the file
    pub further : (offset < next) × (next ≤ length file)
    further = let n = goes_on g.ahead x.found x.moved x.given in (n.further, n.ahead.left.inside)

  -- without an event all is counted
  pub done : (f : Found) → OneOf (1 ∷ 2 ∷ []) (tag_of the_type f) → shown_found f ≡ (stepped file offset).found
      → Tallied (payments_of (events_of file)) (record { units = units; total = all })
  unfolding payments units_of total run
  done f other found =
      let none : paid_in g.ahead.events (shown m) ≡ [] =
      ap (λ (l : List Event). paid_in l (shown m)) (none_left g.ahead.left f other found) in
      record {
        size = g.size;
        each = λ t. omega (arith, g.each t, ap (units_of t) none);
        sum = omega (arith, g.sum, ap total none);
      }
