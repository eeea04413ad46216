-- The aborts of a take are abort events offered one after the other: a sound machine answers them as a list, each with 0, 4 or 10, stays
-- sound and goes on showing the plain machine.
use Prim.Native.Nat.{ℕ, ◌+◌, ◌≤◌}
use native.Mathlib.Nat.{zero-add}
use native.Mathlib.Omega.{arith}
use mathlib.Core.Path.{◌≡◌, refl, sym, ap, ◌∙◌}
use mathlib.Core.List.{List, [], ◌∷◌}
use mathlib.Core.Bool.{Bool, true, false, cond, not, ◌||◌}
use lib.Dec.{eqb}
use lib.ListN.{length}
use borrow.Author.Tests.{le-ltb}
use Rattle.rules.specs.declared.Event.{Event}
use Rattle.rules.specs.declared.Event.TheVariants.{Abort}
use Rattle.rules.specs.State.{State, Plain, forget, hold_at, live_at}
use Rattle.rules.specs.Sound.{sound}
use Rattle.rules.specs.Refusals.{refusal, linked}
use Rattle.rules.specs.Events.{Answered, refused, dispatch, offer_if, offer}
use Rattle.rules.specs.Lists.{Ranged, AllRanged, run, after, numbers_of}
use Rattle.rules.proofs.Basics.Views.{Two, yes_true, no_false, two}
use Rattle.rules.proofs.Files.Records.{other_kind}
use Rattle.rules.proofs.Soundness.Places.{sound_of, of_sound}
use Rattle.rules.proofs.Agreement.{agrees_dispatch, answered_number, offer_sound}
use Rattle.rules.proofs.Demands.{accepted_sound, after_sound}
use Rattle.abort_orders.specs.declared.HeldAbort.{HeldAbort}
use Rattle.abort_orders.specs.Orders.{count_one, applied}
use Rattle.abort_orders.specs.Meaning.{Each, abort_events, counted, AbortAnswer, accepted, no_thread, not_linked, AbortAnswers}
use Rattle.abort_orders.specs.Meaning.{plain_taken}

pub abort_ranged : (n : ℕ) → Ranged (Abort n)
abort_ranged n = other_kind (Abort n) (λ z. omega arith) (λ z. omega arith)

pub aborts_ranged : (l : List HeldAbort) → AllRanged (abort_events l)
aborts_ranged [] = tt
aborts_ranged (a ∷ l) = (abort_ranged a.thread, aborts_ranged l)

-- each abort adds one at most
pub count_small : (number : ℕ) → count_one number ≤ 1
count_small number = by (eqb number 4 || eqb number 10)
  where
    by : (t : Bool) → cond t 1 0 ≤ 1
    by true = omega arith
    by false = omega arith

pub applied_few : (l : List HeldAbort) (s : State) → (applied l s).count ≤ length l
unfolding applied
applied_few [] s = omega arith
applied_few (a ∷ l) s =
    let answer = dispatch (Abort a.thread) s in
    omega (arith, count_small answer.refusal, applied_few l answer.state)

-- "machine and count must equal those of the same abort events written in a list"
pub record SameAs (l : List HeldAbort) (s : State) : Type 0 where
  pub state : (applied l s).state ≡ after (abort_events l) s
  pub count : (applied l s).count ≡ counted (numbers_of (run (abort_events l) s))

pub as_events : (l : List HeldAbort) (s : State) → sound s ≡ true → SameAs l s
unfolding applied after run counted
as_events [] s h = record { state = refl; count = refl }
as_events (a ∷ l) s h =
    let e = Abort a.thread in
    let answer = sym (offer_sound e s h) in
    let later = as_events l (offer e s).state (accepted_sound e s (abort_ranged a.thread) h) in
    record {
      state = ap (λ (x : Answered). (applied l x.state).state) answer ∙ later.state;
      count =
          ap (λ (x : Answered). count_one x.refusal + (applied l x.state).count) answer
          ∙ ap (λ (k : ℕ). count_one (offer e s).refusal + k) later.count;
    }

pub applied_sound : (l : List HeldAbort) (s : State) → sound s ≡ true → sound (applied l s).state ≡ true
applied_sound l s h = ap sound (as_events l s h).state ∙ after_sound (abort_events l) s (aborts_ranged l) h

-- an unsound machine refuses each with 1, which is not counted
unsound_offer : (e : Event) (s : State) → sound s ≡ false → offer e s ≡ refused 1 s
unfolding offer
unsound_offer e s h = ap (λ (b : Bool). offer_if b e s) h

pub record AllRefused (es : List Event) (s : State) : Type 0 where
  pub state : s ≡ after es s
  pub count : 0 ≡ counted (numbers_of (run es s))

pub all_refused : (es : List Event) (s : State) → sound s ≡ false → AllRefused es s
unfolding after run counted
all_refused [] s h = record { state = refl; count = refl }
all_refused (e ∷ es) s h =
    let answer = unsound_offer e s h in
    let later = all_refused es s h in
    record {
      state = later.state ∙ ap (λ (x : Answered). after es x.state) (sym answer);
      count =
          later.count
          ∙ sym (zero-add (counted (numbers_of (run es s))))
          ∙ ap (λ (x : Answered). count_one x.refusal + counted (numbers_of (run es x.state))) (sym answer);
    }

-- an abort of a thread of the machine
abort_answer : (n : ℕ) (p : Plain) → n ≤ 127 → AbortAnswer (refusal (Abort n) p)
abort_answer n p small = rw (le-ltb 127 n small) (by (two (live_at p.threads n)) (two (linked (hold_at p.threads n))))
  where
    by : Two (live_at p.threads n) → Two (linked (hold_at p.threads n))
        → AbortAnswer (cond (not (live_at p.threads n)) 4 (cond (not (linked (hold_at p.threads n))) 10 0))
    by (yes_true live) (yes_true e) = rw (live, e) (accepted refl)
    by (yes_true live) (no_false e) = rw (live, e) (not_linked refl)
    by (no_false live) _ = rw live (no_thread refl)

offer_number : (e : Event) (s : State) → sound s ≡ true → (offer e s).refusal ≡ refusal e (forget s)
unfolding dispatch
offer_number e s h = ap (λ (x : Answered). x.refusal) (offer_sound e s h) ∙ answered_number (refusal e (forget s)) e s

pub abort_answers : (l : List HeldAbort) (s : State) → Each (λ a. a.thread ≤ 127) l → sound s ≡ true
    → AbortAnswers (numbers_of (run (abort_events l) s))
unfolding run
abort_answers [] s small h = tt
abort_answers (a ∷ l) s small h =
    let e = Abort a.thread in (
      rw (offer_number e s h) (abort_answer a.thread (forget s) small.0),
      abort_answers l (offer e s).state small.1 (accepted_sound e s (abort_ranged a.thread) h),
    )

-- the plain machine's answers to the same aborts
pub record SamePlain (l : List HeldAbort) (s : State) : Type 0 where
  pub plain : forget (applied l s).state ≡ (plain_taken l (forget s)).plain
  pub count : (applied l s).count ≡ (plain_taken l (forget s)).count

pub as_plain : (l : List HeldAbort) (s : State) → sound s ≡ true → SamePlain l s
unfolding applied plain_taken
as_plain [] s h = record { plain = refl; count = refl }
as_plain (a ∷ l) s h =
    let e = Abort a.thread in
    let both = agrees_dispatch e s (sound_of s h) (abort_ranged a.thread) in
    let later = as_plain l (dispatch e s).state (of_sound (dispatch e s).state both.sound) in
    record {
      plain = later.plain ∙ ap (λ (p : Plain). (plain_taken l p).plain) both.plain;
      count =
          ap (λ (k : ℕ). count_one (dispatch e s).refusal + k) later.count
          ∙ (λ i. count_one (both.refusal i) + (plain_taken l (both.plain i)).count);
    }
