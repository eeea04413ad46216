-- The code's polls until the first refusal, known by their contract alone, are those of the definitions, on every stored machine.
use Prim.Native.Nat.{ℕ, zero, suc, ◌+◌, ◌≤◌}
use native.Mathlib.Omega.{arith}
use mathlib.Core.Path.{◌≡◌, sym, ap, ◌∙◌, subst}
use mathlib.Core.List.{List, [], ◌∷◌}
use Rattle.rules.specs.declared.Event.TheVariants.{Wake}
use Rattle.rules.specs.Events as events
use Rattle.dispatcher.specs.declared.Machine.{Machine}
use Rattle.dispatcher.specs.Promise.{Answered}
use Rattle.dispatcher.specs.Shown.{shown, sound_machine}
use Rattle.dispatcher.specs.Promise.{Answers}
use Rattle.dispatcher.proofs.Runs.{answered_sound}
use Rattle.bridge_card.specs.Card.{thread_of, line_to_take, Polled, unchanged}
use Rattle.bridge_card.specs.Promises.{line_number, poll_of, Polls}
use Rattle.bridge_card.specs.Meaning.{wake_of, Drained, taken_first, drain, Until, stops, goes_on}
use Rattle.bridge_card.proofs.Exactly.{found_takes}
use Rattle.bridge_card.proofs.Waking.{wake_ranged, wakes_sound}
use Rattle.bridge_card.proofs.Draining.{Step, is_refused, takes_line, step, drain_stops, drain_goes_on, NoneBelow, not_lower}
use Rattle.bridge_card.proofs.Draining.{none_below_next}

-- what the code's polls came to
abbrev pub came_to : List ℕ → List ℕ → Answered → Drained
came_to lines after last = record { lines = lines; block = after; state = shown last.machine; refusal = last.refusal }

-- a poll of the code, by what it is in the definitions
module _ (b next : List ℕ) (m : Machine) (r : Answered) (p : Polled) (polls : Polls b m next r) (is : poll_of b m ≡ p) where
  block_is : next ≡ p.block
  block_is = polls.0 ∙ ap (λ (q : Polled). q.block) is

  answers : Answers p.answer m r
  answers = subst (λ (q : Polled). Answers q.answer m r) is polls.1

-- an accepted wake leaves the stored machine as sound as it was
as_sound : (n : ℕ) (m : Machine) (r : Answered) → Answers (events.offer_if (sound_machine m) (Wake n) (shown m)) m r
    → (events.offer_if (sound_machine m) (Wake n) (shown m)).refusal ≡ 0 → sound_machine r.machine ≡ sound_machine m
as_sound n m r a none-given =
    let yes-sound = wakes_sound (sound_machine m) (Wake n) (shown m) none-given in
    answered_sound (Wake n) m r (wake_ranged n) yes-sound a ∙ sym yes-sound

-- and so does every poll
pub polled_sound : (b after : List ℕ) (m : Machine) (r : Answered) → Polls b m after r → sound_machine r.machine ≡ sound_machine m
polled_sound b after m r polls = by (step (sound_machine m) b (shown m))
  where
    by : Step (sound_machine m) b (shown m) → sound_machine r.machine ≡ sound_machine m
    by (is_refused number e) =
        let a = answers b after m r (unchanged (suc number) b (shown m)) polls e in
        ap sound_machine (a.kept (λ z. omega (arith, a.refusal)))
    by (takes_line line next t c none-given e) =
        let a = answers b after m r (record { block = next; answer = wake_of (sound_machine m) b (shown m) line }) polls e in
        as_sound (thread_of b line) m r a none-given

abbrev Enough : ℕ → ℕ → Type 0
Enough from n = (from ≤ 8) × (9 ≤ from + n)

-- the refused poll
stopping : (b after : List ℕ) (m : Machine) (r : Answered) → Polls b m after r → (r.refusal ≡ 0 → ⊥) → (n : ℕ)
    → Step (sound_machine m) b (shown m) → came_to [] after r ≡ drain (suc n) (sound_machine m) b (shown m)
stopping b after m r polls given n (is_refused number e) =
    let block = block_is b after m r (unchanged (suc number) b (shown m)) polls e in
    let a = answers b after m r (unchanged (suc number) b (shown m)) polls e in
    (λ i. record { lines = []; block = block i; state = a.state i; refusal = a.refusal i })
    ∙ sym (drain_stops n (sound_machine m) b (shown m) number e)
stopping b after m r polls given n (takes_line line next t c none-given e) =
    let a = answers b after m r (record { block = next; answer = wake_of (sound_machine m) b (shown m) line }) polls e in
    absurd (given (a.refusal ∙ none-given))

-- an accepted one
going_on : (b next lines after : List ℕ) (m : Machine) (r last : Answered) → Polls b m next r → r.refusal ≡ 0 → (n from : ℕ)
    → Enough from (suc n) → NoneBelow b from → Step (sound_machine m) b (shown m)
    → ((from' : ℕ) → Enough from' n → NoneBelow next from'
    → came_to lines after last ≡ drain n (sound_machine r.machine) next (shown r.machine))
    → came_to (line_number (line_to_take b) ∷ lines) after last ≡ drain (suc n) (sound_machine m) b (shown m)
going_on b next lines after m r last polls zero-given n from enough none_below (is_refused number e) later =
    let a = answers b next m r (unchanged (suc number) b (shown m)) polls e in
    let number-given = a.refusal in
    absurd (omega arith)
going_on b next lines after m r last polls zero-given n from enough none_below (takes_line line cleared t c none-given e) later =
    let wake = wake_of (sound_machine m) b (shown m) line in
    let outcome : Polled = record { block = cleared; answer = wake } in
    let block = block_is b next m r outcome polls e in
    let a = answers b next m r outcome polls e in
    let small = t.one_of_eight in
    let higher = not_lower b line t from none_below in
    let none-next = subst (λ (l : List ℕ). NoneBelow l (suc line)) (sym block) (none_below_next b line t cleared c) in
    let rest = later (suc line) (omega arith, omega arith) none-next in
    let still = as_sound (thread_of b line) m r a none-given in
    let this = ap line_number (found_takes b line t) in
    (λ i. came_to (this i ∷ lines) after last)
    ∙ ap (taken_first line) (rest ∙ (λ i. drain n (still i) (block i) (a.state i)))
    ∙ sym (drain_goes_on n (sound_machine m) b (shown m) line cleared wake t none-given e)

pub follows : {b lines after : List ℕ} {m : Machine} {last : Answered} → Until b m lines after last → (n from : ℕ) → Enough from n
    → NoneBelow b from → came_to lines after last ≡ drain n (sound_machine m) b (shown m)
follows u zero from enough none_below = absurd (omega arith)
follows (stops {b = b} {after = after} {m = m} {r = r} polls given) (suc n) from enough none_below =
    stopping b after m r polls given n (step (sound_machine m) b (shown m))
follows (goes_on {b = b} {next = next} {after = after} {lines = lines} {m = m} {r = r} {last = last} polls z rest) (suc n) from few below =
    going_on b next lines after m r last polls z n from few below (step (sound_machine m) b (shown m))
    (follows {b = next} {lines = lines} {m = r.machine} rest n)
