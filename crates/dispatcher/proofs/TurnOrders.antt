-- Document 02, [8]: "from each sound machine, the list read from the neighbours is document 01's turn order after every event". The plain
-- machine keeps the turn order as a list and knows no neighbours: an event leaves it the list that the code's neighbours form.
use Prim.Native.Nat.{ℕ}
use mathlib.Core.Path.{◌≡◌, refl, ap, subst, ◌∙◌}
use mathlib.Core.List.{List, [], ◌∷◌}
use mathlib.Core.Bool.{true, false}
use lib.ListN.{length}
use Rattle.rules.specs.declared.Event.{Event}
use Rattle.rules.specs.State.{State, Plain, forget}
use Rattle.rules.specs.Events as events
use Rattle.rules.specs.Plain.{plain_offer, empty_plain}
use Rattle.rules.specs.Lists.{AllRanged}
use Rattle.rules.proofs.Basics.Views.{is_false}
use Rattle.rules.proofs.Soundness.Places.{sound_of}
use Rattle.rules.proofs.Agreement.{agrees}
use Rattle.neighbours.specs.Sides.{Sides}
use Rattle.neighbours.specs.Reading.{turns_read}
use Rattle.neighbours.specs.Forming.{Linked}
use Rattle.neighbours.proofs.TurnOrder.{linked_same}
use Rattle.dispatcher.specs.declared.Machine.{Machine}
use Rattle.dispatcher.specs.Promise.{Answered}
use Rattle.dispatcher.specs.Shown.{sides_of, shown, sound_machine, empty_machine}
use Rattle.dispatcher.proofs.Stored.{sound_stored, sound_shown, turns_linked, turns_many}
use Rattle.dispatcher.proofs.Runs.{as_offered, Runs, stops, steps, answered_sound, empty_shown, empty_machine_sound}

-- the list read from the neighbours is this turn order, and they are its neighbours, the only ones that it has
pub record Turns (m : Machine) (order : List ℕ) : Type 0 where
  pub read : turns_read m.after m.live_timeslices ≡ order
  pub links : Linked (sides_of m) order
  pub only : (s : Sides) → Linked s order → s ≡ sides_of m

-- after each event of a list: the plain machine goes on from what the last event left it
abbrev pub AllTurns : List Event → List Answered → Plain → Type 0
AllTurns [] [] p = Unit {0}
AllTurns [] (r ∷ rs) p = ⊥
AllTurns (e ∷ es) [] p = ⊥
AllTurns (e ∷ es) (r ∷ rs) p = Turns r.machine (plain_offer e p).plain.order × AllTurns es rs (plain_offer e p).plain

-- from every sound machine, and from `Machine::empty()`: before the first event, and after each
pub record Neighbours : Type 0 where
  pub from_sound : {m : Machine} {es : List Event} {rs : List Answered} → Runs m es rs → AllRanged es → sound_machine m ≡ true
      → Turns m (forget (shown m)).order × AllTurns es rs (forget (shown m))
  pub from_empty : {es : List Event} {rs : List Answered} → Runs empty_machine es rs → AllRanged es
      → Turns empty_machine empty_plain.order × AllTurns es rs empty_plain

-- of a sound machine
sound_turns : (m : Machine) (order : List ℕ) → sound_machine m ≡ true → (shown m).order ≡ order → Turns m order
sound_turns m order h e =
    let links = subst (Linked (sides_of m)) e (turns_linked m (sound_stored m h)) in
    record { read = e; links = links; only = λ s k. linked_same s (sides_of m) order k links }

turns_from_lem : {m : Machine} {es : List Event} {rs : List Answered} → Runs m es rs → AllRanged es → sound_machine m ≡ true
    → AllTurns es rs (forget (shown m))
turns_from_lem stops f h = tt
turns_from_lem (steps {m = m} {e = e} {es = es} {r = r} {rs = rs} a rest) f h =
    let z = agrees e (shown m) (sound_of (shown m) (sound_shown m h)) f.0 in
    let state : shown r.machine ≡ (events.offer e (shown m)).state =
    a.state ∙ ap (λ (w : events.Answered). w.state) (as_offered e m h) in
    let plain : forget (shown r.machine) ≡ (plain_offer e (forget (shown m))).plain = ap forget state ∙ z.plain in
    let sound = answered_sound e m r f.0 h a in (
      sound_turns r.machine (plain_offer e (forget (shown m))).plain.order sound (ap (λ (p : Plain). p.order) plain),
      subst (AllTurns es rs) plain (turns_from_lem rest f.1 sound),
    )

both_from : {m : Machine} {es : List Event} {rs : List Answered} → Runs m es rs → AllRanged es → sound_machine m ≡ true
    → Turns m (forget (shown m)).order × AllTurns es rs (forget (shown m))
both_from {m} x f h = (sound_turns m (shown m).order h refl, turns_from_lem x f h)

from_start : {es : List Event} {rs : List Answered} → Runs empty_machine es rs → AllRanged es
    → Turns empty_machine empty_plain.order × AllTurns es rs empty_plain
from_start {es} {rs} x f =
    subst (λ (s : State). Turns empty_machine (forget s).order × AllTurns es rs (forget s)) empty_shown (both_from x f empty_machine_sound)

pub neighbours : Neighbours
neighbours = record { from_sound = both_from; from_empty = from_start }

-- "Neighbours that form no such list make the machine unsound": none with as many timeslices as the machine says has these neighbours
pub no_list : (m : Machine) → ((order : List ℕ) → length order ≡ m.live_timeslices → Linked (sides_of m) order → ⊥)
    → sound_machine m ≡ false
no_list m f =
    is_false (sound_machine m)
    (λ h. let ok = sound_stored m h in f (shown m).order (turns_many m ok) (turns_linked m ok))
