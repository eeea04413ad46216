-- Lists of events whose answers are those of the dispatcher's own public methods, known by their contracts alone: a machine stays sound,
-- and the last one is what the definitions say.
use native.Mathlib.Omega.{arith}
use mathlib.Core.Path.{◌≡◌, refl, sym, ap, ◌∙◌, subst}
use mathlib.Core.List.{List, [], ◌∷◌, map}
use mathlib.Core.Bool.{Bool, true, false}
use Rattle.rules.specs.declared.Event.{Event}
use Rattle.rules.specs.State.{State, empty}
use Rattle.rules.specs.Sound.{sound}
use Rattle.rules.specs.Events as events
use Rattle.rules.specs.Lists.{Ranged, AllRanged, run, after, numbers_of}
use Rattle.rules.proofs.Basics.Views.{Two, yes_true, no_false, two, and_true_left, and_true_both}
use Rattle.rules.proofs.Computing.{computing}
use Rattle.rules.proofs.Agreement.{offer_sound}
use Rattle.rules.proofs.Demands.{accepted_sound}
use Rattle.neighbours.specs.Sides.{neighbour}
use Rattle.neighbours.specs.Reading.{turns_from}
use Rattle.neighbours.specs.Forming.{leads_back}
use Rattle.dispatcher.specs.declared.Machine.{Machine}
use Rattle.dispatcher.specs.Shown.{shown, stored, sound_machine, empty_machine}
use Rattle.dispatcher.specs.Promise.{Answered, Answers}
use Rattle.dispatcher.proofs.Stored.{sound_stored, sound_shown}
use Rattle.dispatcher.proofs.OneForm.{one_form}

-- what document 01 answers to an event offered to a stored machine
abbrev pub answer_to : Event → Machine → events.Answered
answer_to e m = events.offer_if (sound_machine m) e (shown m)

-- each event is given the machine that the last one handed back
pub data Runs : Machine → List Event → List Answered → Type 0 where
  stops : {m : Machine} → Runs m [] []
  steps : {m : Machine} {e : Event} {es : List Event} {r : Answered} {rs : List Answered}
      → Answers (answer_to e m) m r → Runs r.machine es rs → Runs m (e ∷ es) (r ∷ rs)

-- the code's answer is that of the definitions' machine
pub as_offered : (e : Event) (m : Machine) → sound_machine m ≡ true → answer_to e m ≡ events.offer e (shown m)
as_offered e m h = ap (λ (b : Bool). events.offer_if b e (shown m)) h ∙ sym (offer_sound e (shown m) (sound_shown m h))

-- an event offered to a sound machine hands back a sound machine
pub answered_sound : (e : Event) (m : Machine) (r : Answered) → Ranged e → sound_machine m ≡ true → Answers (answer_to e m) m r
    → sound_machine r.machine ≡ true
unfolding sound_machine
answered_sound e m r f h a =
    and_true_both (stored r.machine) (sound (shown r.machine))
    (a.exact ∙ and_true_left (stored m) (sound (shown m)) h)
    (ap sound (a.state ∙ ap (λ (z : events.Answered). z.state) (as_offered e m h)) ∙ accepted_sound e (shown m) f (sound_shown m h))

-- the same through the inner door, which does not test soundness: its answer is the definitions' on a sound machine
pub dispatched_sound : (e : Event) (m : Machine) (r : Answered) → Ranged e → sound_machine m ≡ true
    → Answers (events.dispatch e (shown m)) m r → sound_machine r.machine ≡ true
dispatched_sound e m r f h a =
    answered_sound e m r f h (subst (λ (z : events.Answered). Answers z m r) (sym (ap (λ (b : Bool). events.offer_if b e (shown m)) h)) a)

-- from `Machine::empty()`, which shows document 01's empty machine
pub empty_shown : shown empty_machine ≡ empty
unfolding turns_from
empty_shown = refl

pub shows_empty : (m : Machine) → m ≡ empty_machine → shown m ≡ empty
shows_empty m e = ap shown e ∙ empty_shown

pub empty_machine_sound : sound_machine empty_machine ≡ true
unfolding sound_machine stored computing neighbour turns_from leads_back
empty_machine_sound = refl

-- the machine that the last event hands back
abbrev pub last_of : Machine → List Answered → Machine
last_of m [] = m
last_of m (r ∷ rs) = last_of r.machine rs

-- of a list on a sound machine: what the definitions say
pub record Ran (m : Machine) (es : List Event) (rs : List Answered) : Type 0 where
  pub numbers : map (λ (r : Answered). r.refusal) rs ≡ numbers_of (run es (shown m))
  pub state : shown (last_of m rs) ≡ after es (shown m)
  pub sound : sound_machine (last_of m rs) ≡ true

pub ran : {m : Machine} {es : List Event} {rs : List Answered} → Runs m es rs → AllRanged es → sound_machine m ≡ true → Ran m es rs
unfolding run after
ran stops f h = record { numbers = refl; state = refl; sound = h }
ran (steps {m = m} {e = e} {es = es} {r = r} {rs = rs} a rest) f h =
    let o = as_offered e m h in
    let number = a.refusal ∙ ap (λ (w : events.Answered). w.refusal) o in
    let state = a.state ∙ ap (λ (w : events.Answered). w.state) o in
    let later = ran rest f.1 (answered_sound e m r f.0 h a) in
    let numbers = later.numbers ∙ ap (λ (s : State). numbers_of (run es s)) state in
    record { numbers = λ i. number i ∷ numbers i; state = later.state ∙ ap (after es) state; sound = later.sound }

-- and on an unsound one: every event is refused
pub all_kept : {m : Machine} {es : List Event} {rs : List Answered} → Runs m es rs → sound_machine m ≡ false → last_of m rs ≡ m
all_kept stops h = refl
all_kept (steps {m = m} {e = e} {r = r} {rs = rs} a rest) h =
    let answer : answer_to e m ≡ events.refused 1 (shown m) = ap (λ (b : Bool). events.offer_if b e (shown m)) h in
    let number : r.refusal ≡ 1 = a.refusal ∙ ap (λ (w : events.Answered). w.refusal) answer in
    let kept : r.machine ≡ m = a.kept (λ z. omega arith) in
    all_kept rest (ap sound_machine kept ∙ h) ∙ kept

-- two lists that leave the same machine by the definitions hand back the same stored machine
pub same_last : {m : Machine} {es es' : List Event} {rs rs' : List Answered} → Runs m es rs → Runs m es' rs' → AllRanged es → AllRanged es'
    → after es (shown m) ≡ after es' (shown m) → last_of m rs ≡ last_of m rs'
same_last {m} {rs = rs} {rs' = rs'} x y f g e = by (two (sound_machine m))
  where
    by : Two (sound_machine m) → last_of m rs ≡ last_of m rs'
    by (yes_true h) =
        let p = ran x f h in
        let q = ran y g h in
        one_form (last_of m rs) (last_of m rs') (sound_stored (last_of m rs) p.sound) (sound_stored (last_of m rs') q.sound)
        (p.state ∙ e ∙ sym q.state)
    by (no_false h) = all_kept x h ∙ sym (all_kept y h)
