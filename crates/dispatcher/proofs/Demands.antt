-- THE THEOREMS about the code, one for each demand. What the code answers is known by the contracts of its public methods alone: `Answers`
-- of one event, `Runs` of a list.
use Prim.Native.Nat.{ℕ, zero, suc, ◌≤◌}
use native.Mathlib.Omega.{arith}
use mathlib.Core.Path.{◌≡◌, refl, sym, ap, subst, ◌∙◌}
use mathlib.Core.List.{List, [], ◌∷◌}
use mathlib.Core.Bool.{Bool, true, false, cond}
use Rattle.rules.specs.declared.Event.{Event}
use Rattle.rules.specs.State.{State, Plain, forget, empty, who_runs, who_pays, donation_count}
use Rattle.rules.specs.Refusals.{refusal}
use Rattle.rules.specs.Events.{midway, settle, dispatch_after}
use Rattle.rules.specs.Events as events
use Rattle.rules.specs.Plain.{plain_offer, empty_plain}
use Rattle.rules.specs.Lists.{Ranged, AllRanged, links_of}
use Rattle.rules.proofs.Basics.Views.{Two, yes_true, no_false, two}
use Rattle.rules.proofs.Soundness.Places.{sound_of}
use Rattle.rules.proofs.Events.Hands.{link_limit}
use Rattle.rules.proofs.Agreement.{answered_number, agrees}
use Rattle.dispatcher.specs.declared.Machine.{Machine}
use Rattle.dispatcher.specs.Shown.{shown, stored, sound_machine, empty_machine}
use Rattle.dispatcher.specs.Promise.{Answered, Answers}
use Rattle.dispatcher.proofs.Stored.{sound_stored, sound_shown}
use Rattle.dispatcher.proofs.OneForm.{one_form}
use Rattle.dispatcher.proofs.Runs.{answer_to, as_offered, Runs, stops, steps, answered_sound, empty_shown, empty_machine_sound}

-- the first fitting number: 1 of an unsound machine, then those of document 01's list
abbrev pub first_refusal : Event → Machine → ℕ
first_refusal e m = cond (sound_machine m) (refusal e (forget (shown m))) 1

-- DEMAND 1. Every event offered to every machine, sound or not. Accepted: a sound machine. Refused: the first fitting refusal number, the
-- machine exactly as given, no link followed.
pub record Ends (e : Event) (m : Machine) (r : Answered) : Type 0 where
  pub number : r.refusal ≡ first_refusal e m
  pub accepted : r.refusal ≡ 0 → sound_machine r.machine ≡ true
  pub refused : (r.refusal ≡ 0 → ⊥) → (r.machine ≡ m) × (r.links ≡ 0)

-- the number and the links of what the definitions answer
links_after : (k : ℕ) (e : Event) (s : State) → (k ≡ 0 → ⊥) → (dispatch_after k e s).links ≡ 0
links_after zero e s n = absurd (n refl)
links_after (suc k) e s n = refl

answer_number : (b : Bool) (e : Event) (s : State) → (events.offer_if b e s).refusal ≡ cond b (refusal e (forget s)) 1
unfolding events.dispatch
answer_number true e s = answered_number (refusal e (forget s)) e s
answer_number false e s = refl

answer_links : (b : Bool) (e : Event) (s : State) → (cond b (refusal e (forget s)) 1 ≡ 0 → ⊥) → (events.offer_if b e s).links ≡ 0
unfolding events.dispatch
answer_links true e s n = links_after (refusal e (forget s)) e s n
answer_links false e s n = refl

pub demand_1 : (e : Event) (m : Machine) (r : Answered) → Ranged e → Answers (answer_to e m) m r → Ends e m r
demand_1 e m r f a =
    let number : r.refusal ≡ first_refusal e m = a.refusal ∙ answer_number (sound_machine m) e (shown m) in
    record {
      number = number;
      accepted = λ none-given. by number none-given (two (sound_machine m));
      refused = λ given. (a.kept given, a.links ∙ answer_links (sound_machine m) e (shown m) (λ z. given (number ∙ z)));
    }
  where
    by : r.refusal ≡ first_refusal e m → r.refusal ≡ 0 → Two (sound_machine m) → sound_machine r.machine ≡ true
    by number none-given (yes_true h) = answered_sound e m r f h a
    by number none-given (no_false h) = let one : r.refusal ≡ 1 = number ∙ rw h refl in absurd (omega arith)

-- DEMAND 2, of the events. An accepted event on a sound machine leaves what document 01 says, down to every timeslice's place, with the
-- links that it says; and no other rightly stored machine shows that state.
pub record Does (e : Event) (m : Machine) (r : Answered) : Type 0 where
  pub links : r.links ≡ (settle (midway e (shown m))).links
  pub state : shown r.machine ≡ (settle (midway e (shown m))).state
  pub only : (n : Machine) → stored n ≡ true → shown n ≡ (settle (midway e (shown m))).state → n ≡ r.machine

pub demand_2 : (e : Event) (m : Machine) (r : Answered) → sound_machine m ≡ true → refusal e (forget (shown m)) ≡ 0
    → Answers (answer_to e m) m r → Does e m r
unfolding events.dispatch
demand_2 e m r h accepted a =
    let answer : answer_to e m ≡ events.accepted (settle (midway e (shown m))) =
    ap (λ (b : Bool). events.offer_if b e (shown m)) h ∙ ap (λ (k : ℕ). dispatch_after k e (shown m)) accepted in
    let state = a.state ∙ ap (λ (z : events.Answered). z.state) answer in
    record {
      links = a.links ∙ ap (λ (z : events.Answered). z.links) answer;
      state = state;
      only = λ n exact shows. one_form n r.machine exact (a.exact ∙ sound_stored m h) (shows ∙ sym state);
    }

-- DEMAND 3. After an event, between the code's answer, document 01's machine s before it and the plain machine p before it: the refusal
-- number, the running thread, the paying timeslice, the donation count and all links are the plain machine's; the links reported are
-- document 01's count, and at most L × (T + 2).
pub record Same (e : Event) (r : Answered) (s : State) (p : Plain) : Type 0 where
  pub refusal : r.refusal ≡ (plain_offer e p).refusal
  pub thread : who_runs r.machine.running ≡ who_runs (plain_offer e p).plain.running
  pub timeslice : who_pays r.machine.running ≡ who_pays (plain_offer e p).plain.running
  pub count : donation_count r.machine.running ≡ donation_count (plain_offer e p).plain.running
  pub all_links : links_of r.machine.threads ≡ links_of (plain_offer e p).plain.threads
  pub followed : r.links ≡ (events.offer e s).links
  pub bounded : r.links ≤ link_limit p

-- after each event of a list: every machine goes on from what the last event left it
abbrev pub AllSame : List Event → List Answered → State → Plain → Type 0
AllSame [] [] s p = Unit {0}
AllSame [] (r ∷ rs) s p = ⊥
AllSame (e ∷ es) [] s p = ⊥
AllSame (e ∷ es) (r ∷ rs) s p = Same e r s p × AllSame es rs (events.offer e s).state (plain_offer e p).plain

-- one claim about the whole list, of all kinds and refused ones included: from every sound machine, and from `Machine::empty()`
pub record Equal : Type 0 where
  pub from_sound : {m : Machine} {es : List Event} {rs : List Answered} → Runs m es rs → AllRanged es → sound_machine m ≡ true
      → AllSame es rs (shown m) (forget (shown m))
  pub from_empty : {es : List Event} {rs : List Answered} → Runs empty_machine es rs → AllRanged es → AllSame es rs empty empty_plain

same_from : {m : Machine} {es : List Event} {rs : List Answered} → Runs m es rs → AllRanged es → sound_machine m ≡ true
    → AllSame es rs (shown m) (forget (shown m))
same_from stops f h = tt
same_from (steps {m = m} {e = e} {es = es} {r = r} {rs = rs} a rest) f h =
    let fit = f.0 in
    let z = agrees e (shown m) (sound_of (shown m) (sound_shown m h)) fit in
    let o = as_offered e m h in
    let state : shown r.machine ≡ (events.offer e (shown m)).state = a.state ∙ ap (λ (w : events.Answered). w.state) o in
    let links : r.links ≡ (events.offer e (shown m)).links = a.links ∙ ap (λ (w : events.Answered). w.links) o in
    let plain : forget (shown r.machine) ≡ (plain_offer e (forget (shown m))).plain = ap forget state ∙ z.plain in
    let later = same_from rest f.1 (answered_sound e m r fit h a) in (
      record {
        refusal = a.refusal ∙ ap (λ (w : events.Answered). w.refusal) o ∙ z.refusal;
        thread = ap (λ (p : Plain). who_runs p.running) plain;
        timeslice = ap (λ (p : Plain). who_pays p.running) plain;
        count = ap (λ (p : Plain). donation_count p.running) plain;
        all_links = ap (λ (p : Plain). links_of p.threads) plain;
        followed = links;
        bounded = rw links z.links;
      },
      rw (← state, ← plain) later,
    )

same_from_empty : {es : List Event} {rs : List Answered} → Runs empty_machine es rs → AllRanged es → AllSame es rs empty empty_plain
same_from_empty {es} {rs} x f = subst (λ (s : State). AllSame es rs s (forget s)) empty_shown (same_from x f empty_machine_sound)

pub demand_3 : Equal
demand_3 = record { from_sound = same_from; from_empty = same_from_empty }
