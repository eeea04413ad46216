-- One poll of those until the first refusal: it is refused, or it takes a line below which none could be taken, and below the next line
-- none can be taken after it.
use Prim.Native.Nat.{ℕ, suc, ◌≤◌, ◌<◌}
use native.Mathlib.Omega.{arith}
use mathlib.Core.Path.{◌≡◌, refl, ap, ◌∙◌}
use mathlib.Core.List.{List, []}
use mathlib.Core.Bool.{Bool, false, ◌&&◌}
use Rattle.rules.specs.State.{State}
use Rattle.rules.specs.Events.{Answered}
use Rattle.rules.proofs.Basics.Views.{Same, equal, different, same, clash, and_true_both, and_false_left}
use Rattle.bits.specs.Bits.{bit}
use Rattle.bridge_card.specs.Card.{is_pending, is_enabled, may_take, line_to_take, Polled, unchanged, poll_if}
use Rattle.bridge_card.specs.Promises.{line_number}
use Rattle.bridge_card.specs.Meaning.{Takes, Cleared, wake_of, Comes, no_block, no_line, wake_refused, accepted}
use Rattle.bridge_card.specs.Meaning.{Drained, taken_first, drained_after, drain}
use Rattle.bridge_card.proofs.Exactly.{found_takes}
use Rattle.bridge_card.proofs.Coming.{comes}

pub data Step (is_sound : Bool) (b : List ℕ) (s : State) : Type 0 where
  is_refused : (number : ℕ) → poll_if is_sound b s ≡ unchanged (suc number) b s → Step is_sound b s
  takes_line : (line : ℕ) (next : List ℕ) → Takes b line → Cleared b next line → (wake_of is_sound b s line).refusal ≡ 0
      → poll_if is_sound b s ≡ record { block = next; answer = wake_of is_sound b s line } → Step is_sound b s

step_of : (is_sound : Bool) (b : List ℕ) (s : State) {p : Polled} → Comes is_sound b s p → poll_if is_sound b s ≡ p → Step is_sound b s
step_of is_sound b s (no_block other) e = is_refused 19 e
step_of is_sound b s (no_line twelve none_taken) e = is_refused 21 e
step_of is_sound b s (wake_refused {number = number} line twelve t w) e = is_refused number e
step_of is_sound b s (accepted {after = after} line twelve t w c) e = takes_line line after t c w e

pub step : (is_sound : Bool) (b : List ℕ) (s : State) → Step is_sound b s
step is_sound b s = step_of is_sound b s (comes is_sound b s) refl

-- what it adds to those that follow
module _ (n : ℕ) (is_sound : Bool) (b : List ℕ) (s : State) where
  abbrev polled : Polled → Drained
  polled p = drained_after p.answer.refusal (line_number (line_to_take b)) (drain n is_sound p.block p.answer.state) b s

  pub drain_stops : (number : ℕ) → poll_if is_sound b s ≡ unchanged (suc number) b s
      → drain (suc n) is_sound b s ≡ record { lines = []; block = b; state = s; refusal = suc number }
  unfolding drain
  drain_stops number e = ap polled e

  pub drain_goes_on : (line : ℕ) (next : List ℕ) (a : Answered) → Takes b line → a.refusal ≡ 0
      → poll_if is_sound b s ≡ record { block = next; answer = a }
      → drain (suc n) is_sound b s ≡ taken_first line (drain n is_sound next a.state)
  unfolding drain
  drain_goes_on line next a t none-given e =
      let taken = found_takes b line t in
      ap polled e ∙ (λ i. drained_after (none-given i) (line_number (taken i)) (drain n is_sound next a.state) b s)

-- no line below this one can be taken
abbrev pub NoneBelow : List ℕ → ℕ → Type 0
NoneBelow b from = (line : ℕ) → line < from → may_take b line ≡ false

pub none_below_0 : (b : List ℕ) → NoneBelow b 0
none_below_0 b line below = absurd (omega arith)

module _ (b : List ℕ) (line : ℕ) (t : Takes b line) where
  pub not_lower : (from : ℕ) → NoneBelow b from → from ≤ line
  not_lower from none_below =
      let not-less : (line < from) → ⊥ =
      λ h. clash (may_take b line) (and_true_both (is_pending b line) (is_enabled b line) t.pending t.enabled) (none_below line h) in
      omega arith

  pub none_below_next : (next : List ℕ) → Cleared b next line → NoneBelow next (suc line)
  none_below_next next c lower below = by (same lower line)
    where
      enabled : is_enabled next lower ≡ is_enabled b lower
      enabled = ap (bit lower) (c.other_bytes 2 (λ e. omega arith))

      by : Same lower line → may_take next lower ≡ false
      by (equal q _) = and_false_left (is_pending next lower) (is_enabled next lower) (ap (is_pending next) q ∙ c.bit_gone)
      by (different q _) =
          let small = t.one_of_eight in
          let pending = c.others_pending lower (omega arith) q in
          (λ i. pending i && enabled i) ∙ t.lowest lower (omega arith)
