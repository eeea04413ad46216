-- What a poll comes to, for every block and every machine.
use Prim.Native.Nat.{ℕ, zero, suc, ◌<◌}
use mathlib.Core.Path.{◌≡◌, refl, sym, ap, ◌∙◌, subst}
use mathlib.Core.List.{List}
use mathlib.Core.Bool.{Bool, true}
use mathlib.Core.Option.{Option, none, some}
use lib.ListN.{length}
use Rattle.rules.specs.declared.Event.TheVariants.{Wake}
use Rattle.rules.specs.State.{State}
use Rattle.rules.specs.Events.{Answered}
use Rattle.rules.proofs.Basics.Views.{Same, equal, different, same, clash}
use Rattle.bridge_card.specs.Card.{is_pending, thread_of, line_to_take, Polled, block_after, woken, poll_if}
use Rattle.bridge_card.specs.Meaning.{Takes, Cleared, wake_of, Comes, no_block, no_line, wake_refused, accepted}
use Rattle.bridge_card.proofs.Polling.{polled_20, polled_22, polled_line}
use Rattle.bridge_card.proofs.Pending.{cleared}
use Rattle.bridge_card.proofs.Exactly.{not_found, takes_found, found_takes}
use Rattle.bridge_card.proofs.Waking.{as_given}

-- a line is taken: by the wake's answer
module _ (is_sound : Bool) (b : List ℕ) (s : State) (line : ℕ) (twelve : length b ≡ 12) (t : Takes b line) where
  abbrev wake : Answered
  wake = wake_of is_sound b s line

  wakes : (k : ℕ) → wake.refusal ≡ k → Comes is_sound b s (woken b line wake)
  wakes zero e =
      let gone : Cleared b (block_after wake.refusal b line) line =
      subst (λ (n : ℕ). Cleared b (block_after n b line) line) (sym e) (cleared b line twelve t.one_of_eight) in
      accepted line twelve t e gone
  wakes (suc number) e =
      let answer = as_given is_sound (Wake (thread_of b line)) s number e in
      subst (λ (a : Answered). Comes is_sound b s (woken b line a)) (sym answer) (wake_refused line twelve t answer)

module _ (is_sound : Bool) (b : List ℕ) (s : State) where
  finds_one : length b ≡ 12 → (o : Option ℕ) → line_to_take b ≡ o → Comes is_sound b s (poll_if is_sound b s)
  finds_one twelve none e =
      subst (Comes is_sound b s) (sym (polled_22 is_sound b s twelve e))
      (no_line twelve (λ line t. not_found line (sym e ∙ found_takes b line t)))
  finds_one twelve (some line) e =
      subst (Comes is_sound b s) (sym (polled_line is_sound b s line twelve e))
      (wakes is_sound b s line twelve (takes_found b line e) (wake_of is_sound b s line).refusal refl)

  by_length : Same (length b) 12 → Comes is_sound b s (poll_if is_sound b s)
  by_length (equal twelve _) = finds_one twelve (line_to_take b) refl
  by_length (different other _) = subst (Comes is_sound b s) (sym (polled_20 is_sound b s other)) (no_block other)

  pub comes : Comes is_sound b s (poll_if is_sound b s)
  comes = by_length (same (length b) 12)

-- a poll sets no pending bit
sets_none : (is_sound : Bool) (b : List ℕ) (s : State) (line : ℕ) → line < 8 → {p : Polled} → Comes is_sound b s p
    → is_pending p.block line ≡ true → is_pending b line ≡ true
sets_none is_sound b s line small (no_block other) pending = pending
sets_none is_sound b s line small (no_line twelve none_taken) pending = pending
sets_none is_sound b s line small (wake_refused taken twelve t w) pending = pending
sets_none is_sound b s line small (accepted {after = after} taken twelve t w c) pending = by (same line taken)
  where
    by : Same line taken → is_pending b line ≡ true
    by (equal q _) = clash (is_pending after line) pending (ap (is_pending after) q ∙ c.bit_gone)
    by (different q _) = sym (c.others_pending line small q) ∙ pending

pub poll_sets_none : (is_sound : Bool) (b : List ℕ) (s : State) (line : ℕ) → line < 8 → is_pending (poll_if is_sound b s).block line ≡ true
    → is_pending b line ≡ true
poll_sets_none is_sound b s line small = sets_none is_sound b s line small (comes is_sound b s)
