-- Polls until the first refusal, from a line below which none can be taken: they clear the lines whose wakes were accepted, lowest first.
use Prim.Native.Nat.{ℕ, zero, suc, ◌+◌, ◌≤◌, ◌<◌}
use native.Mathlib.Omega.{arith}
use mathlib.Core.Path.{◌≡◌, refl, sym, ap, ◌∙◌, subst}
use mathlib.Core.List.{List, [], ◌∷◌}
use mathlib.Core.Bool.{Bool, true, false, ◌&&◌, ◌||◌, not}
use lib.Dec.{eqb}
use lib.ListN.{length, get_or, replicate}
use Rattle.rules.specs.declared.Event.TheVariants.{Wake}
use Rattle.rules.specs.Tests.{member}
use Rattle.rules.specs.State.{State}
use Rattle.rules.specs.Sound.{sound}
use Rattle.rules.specs.Events.{Answered, offer}
use Rattle.rules.specs.Lists.{run, after, numbers_of}
use Rattle.rules.proofs.Basics.Views.{Same, equal, different, same, clash, and_false_right}
use Rattle.bits.specs.Bits.{bit}
use Rattle.bridge_card.specs.Card.{is_on, is_pending, is_enabled, thread_of, unchanged, poll_if}
use Rattle.bridge_card.specs.Meaning.{Takes, Cleared, wake_of, Drained, taken_first, drain, wakes_of, Rising, Each}
use Rattle.bridge_card.proofs.Waking.{accepted_offered, stays_sound}
use Rattle.bridge_card.proofs.Draining.{Step, is_refused, takes_line, step, drain_stops, drain_goes_on, NoneBelow, not_lower}
use Rattle.bridge_card.proofs.Draining.{none_below_next}

-- a line that a poll may have taken
abbrev pub Taken : List ℕ → ℕ → Type 0
Taken b line = (line < 8) × (is_pending b line ≡ true) × (is_enabled b line ≡ true) × (is_on b ≡ true)

pub record Empties (from : ℕ) (is_sound : Bool) (b : List ℕ) (s : State) (d : Drained) : Type 0 where
  pub refused : d.refusal ≡ 0 → ⊥
  pub lowest_first : Rising from d.lines
  pub taken : Each (Taken b) d.lines
  pub cleared : (line : ℕ) → line < 8 → is_pending d.block line ≡ is_pending b line && not (member line d.lines)
  pub other_bytes : (at : ℕ) → (at ≡ 1 → ⊥) → get_or d.block at 0 ≡ get_or b at 0
  pub last : poll_if is_sound d.block d.state ≡ unchanged d.refusal d.block d.state
  pub wakes : (is_sound ≡ true → sound s ≡ true) → (numbers_of (run (wakes_of b d.lines) s) ≡ replicate (length d.lines) 0)
      × (d.state ≡ after (wakes_of b d.lines) s)

-- the first poll is refused
pub empties_none : (from : ℕ) (is_sound : Bool) (b : List ℕ) (s : State) (number : ℕ) → poll_if is_sound b s ≡ unchanged (suc number) b s
    → Empties from is_sound b s (record { lines = []; block = b; state = s; refusal = suc number })
unfolding run after member
empties_none from is_sound b s number e =
    record {
      refused = λ z. absurd (omega arith);
      lowest_first = tt;
      taken = tt;
      cleared = λ line small. as_it_was (is_pending b line);
      other_bytes = λ at other. refl;
      last = e;
      wakes = λ _. (refl, refl);
    }
  where
    as_it_was : (p : Bool) → p ≡ (p && true)
    as_it_was true = refl
    as_it_was false = refl

each_of : (P Q : ℕ → Type 0) → ((line : ℕ) → P line → Q line) → (lines : List ℕ) → Each P lines → Each Q lines
each_of P Q f [] e = tt
each_of P Q f (line ∷ lines) e = (f line e.0, each_of P Q f lines e.1)

-- the first poll takes a line
module _ (from : ℕ) (is_sound : Bool) (b next : List ℕ) (s : State) (line : ℕ) (t : Takes b line) (c : Cleared b next line)
    (none-given : (wake_of is_sound b s line).refusal ≡ 0) (none_below : NoneBelow b from) where
  taken_before : (l : ℕ) → Taken next l → Taken b l
  taken_before l p = (
    p.0,
    by (same l line),
    ap (bit l) (sym (c.other_bytes 2 (λ e. omega arith))) ∙ p.2,
    ap (bit 0) (sym (c.other_bytes 0 (λ e. omega arith))) ∙ p.3,
  )
    where
      by : Same l line → is_pending b l ≡ true
      by (equal q _) = clash (is_pending next l) p.1 (ap (is_pending next) q ∙ c.bit_gone)
      by (different q _) = sym (c.others_pending l p.0 q) ∙ p.1

  still_pending : (l : ℕ) (lines : List ℕ) → l < 8
      → (is_pending next l && not (member l lines)) ≡ (is_pending b l && not (member l (line ∷ lines)))
  unfolding member
  still_pending l lines small = by (same l line)
    where
      by : Same l line → (is_pending next l && not (member l lines)) ≡ (is_pending b l && not (eqb l line || member l lines))
      by (equal q is) =
          ap (λ (p : Bool). p && not (member l lines)) (ap (is_pending next) q ∙ c.bit_gone)
          ∙ sym (and_false_right (is_pending b l) (not (eqb l line || member l lines)) (ap (λ (p : Bool). not (p || member l lines)) is))
      by (different q is) =
          let pending = c.others_pending l small q in
          λ i. pending i && not (sym is i || member l lines)

  same_wakes : (lines : List ℕ) → wakes_of next lines ≡ wakes_of b lines
  same_wakes [] = refl
  same_wakes (l ∷ lines) =
      let thread = c.other_bytes (4 + l) (λ e. omega arith) in
      let rest = same_wakes lines in
      λ i. Wake (thread i) ∷ rest i

  abbrev wake : Answered
  wake = wake_of is_sound b s line

  first_wake : (lines : List ℕ) (state : State) → (is_sound ≡ true → sound s ≡ true)
      → (numbers_of (run (wakes_of next lines) wake.state) ≡ replicate (length lines) 0)
      × (state ≡ after (wakes_of next lines) wake.state)
      → (numbers_of (run (wakes_of b (line ∷ lines)) s) ≡ replicate (length (line ∷ lines)) 0)
      × (state ≡ after (wakes_of b (line ∷ lines)) s)
  unfolding run after
  first_wake lines state if-held w =
      let offered : wake ≡ offer (Wake (thread_of b line)) s = accepted_offered is_sound (thread_of b line) s if-held none-given in
      let events = same_wakes lines in
      let number : (offer (Wake (thread_of b line)) s).refusal ≡ 0 = ap (λ (a : Answered). a.refusal) (sym offered) ∙ none-given in
      let numbers = (λ i. numbers_of (run (sym events i) (sym offered i).state)) ∙ w.0 in
      (λ i. number i ∷ numbers i, w.1 ∙ (λ i. after (events i) (offered i).state))

  pub empties_line : (d : Drained) → Empties (suc line) is_sound next wake.state d → Empties from is_sound b s (taken_first line d)
  empties_line d r =
      record {
        refused = r.refused;
        lowest_first = (not_lower b line t from none_below, r.lowest_first);
        taken = ((t.one_of_eight, t.pending, t.enabled, t.on), each_of (Taken next) (Taken b) taken_before d.lines r.taken);
        cleared = λ l small. r.cleared l small ∙ still_pending l d.lines small;
        other_bytes = λ at other. r.other_bytes at other ∙ c.other_bytes at other;
        last = r.last;
        wakes = λ if-held.
            let later = r.wakes (λ _. stays_sound is_sound (thread_of b line) s if-held none-given) in
            first_wake d.lines d.state if-held later;
      }

-- so many polls are enough from there
pub empties : (n from : ℕ) (is_sound : Bool) (b : List ℕ) (s : State) → from ≤ 8 → 9 ≤ from + n → NoneBelow b from
    → Empties from is_sound b s (drain n is_sound b s)
empties zero from is_sound b s few enough none_below = absurd (omega arith)
empties (suc n) from is_sound b s few enough none_below = by (step is_sound b s) (empties n)
  where
    by : Step is_sound b s
        → ((f : ℕ) (q : Bool) (next : List ℕ) (s' : State) → f ≤ 8 → 9 ≤ f + n → NoneBelow next f → Empties f q next s' (drain n q next s'))
        → Empties from is_sound b s (drain (suc n) is_sound b s)
    by (is_refused number e) later =
        subst (Empties from is_sound b s) (sym (drain_stops n is_sound b s number e)) (empties_none from is_sound b s number e)
    by (takes_line line next t c none-given e) later =
        let small = t.one_of_eight in
        let higher = not_lower b line t from none_below in
        let wake = wake_of is_sound b s line in
        let rest = later (suc line) is_sound next wake.state (omega arith) (omega arith) (none_below_next b line t next c) in
        subst (Empties from is_sound b s) (sym (drain_goes_on n is_sound b s line next wake t none-given e))
        (empties_line from is_sound b next s line t c none-given none_below (drain n is_sound next wake.state) rest)
