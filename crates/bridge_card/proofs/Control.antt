-- Two blocks that differ in control alone: raise, write and read answer alike on both, and leave them alike; so does a poll if bit 0 of
-- control is the same.
use Prim.Native.Nat.{ℕ, zero, suc, ◌+◌}
use native.Mathlib.Omega.{arith}
use mathlib.Core.Path.{◌≡◌, refl, sym, ap, ◌∙◌}
use mathlib.Core.List.{List}
use mathlib.Core.Bool.{Bool, cond, not, ◌&&◌, ◌||◌}
use mathlib.Core.Option.{Option, none, some}
use lib.Dec.{ltb, eqb}
use lib.ListN.{length, get_or, set, length-set}
use lib.Seq.{get_or-set_same, get_or-set_other, set_comm}
use Rattle.rules.specs.declared.Event.TheVariants.{Wake}
use Rattle.rules.specs.State.{State}
use Rattle.rules.specs.Refusals.{◌gives◌else◌}
use Rattle.rules.specs.Events.{offer_if}
use Rattle.rules.proofs.Basics.Views.{Same, equal, different, same}
use Rattle.bits.specs.Bits.{bit}
use Rattle.bridge_card.specs.Card.{byte_of}
use Rattle.bridge_card.specs.Card.{is_on, thread_of, with_pending, read_refusal, read_after, read, changed_after}
use Rattle.bridge_card.specs.Card.{write_refusal, written, write, raise_refusal, raised, raise, lowest, line_to_take, line_cleared}
use Rattle.bridge_card.specs.Card.{Polled, block_after, woken, poll_if}
use Rattle.bridge_card.proofs.Polling.{polled_20, polled_22, polled_line}

module _ (b : List ℕ) (control : ℕ) where
  -- the other block
  abbrev other : List ℕ
  other = set b 0 control

  other_byte : (at : ℕ) → (at ≡ 0 → ⊥) → get_or other at 0 ≡ get_or b at 0
  other_byte at apart = get_or-set_other b 0 at control 0 apart

  pending_byte : get_or other 1 0 ≡ get_or b 1 0
  pending_byte = other_byte 1 (λ e. omega arith)

  other_long : length other ≡ length b
  other_long = length-set b 0 control

  -- a change of the pending lines, which depends on these alone, made on both
  both_pending : (f : ℕ → ℕ → Bool) → with_pending (f (get_or other 1 0)) other ≡ set (with_pending (f (get_or b 1 0)) b) 0 control
  both_pending f =
      ap (λ (byte : ℕ). set other 1 (byte_of (f byte))) pending_byte
      ∙ set_comm b 0 1 control (byte_of (f (get_or b 1 0))) (λ e. omega arith)

  -- a write and a raise
  both_changed : (k : ℕ) (changed : List ℕ) → changed_after k (set changed 0 control) other
      ≡ record { refusal = (changed_after k changed b).refusal; block = set (changed_after k changed b).block 0 control }
  both_changed zero changed = refl
  both_changed (suc k) changed = refl

  pub raises_alike : (line : ℕ) → raise other line
      ≡ record { refusal = (raise b line).refusal; block = set (raise b line).block 0 control }
  unfolding raise raise_refusal
  raises_alike line =
      let number : raise_refusal other line ≡ raise_refusal b line =
      ap (λ (n : ℕ). not (eqb n 12) gives 20 else ltb 7 line gives 21 else 0) other_long in
      let changed : raised other line ≡ set (raised b line) 0 control = both_pending (λ byte i. bit i byte || eqb i line) in
      (λ i. changed_after (number i) (changed i) other) ∙ both_changed (raise_refusal b line) (raised b line)

  both_written : (register byte : ℕ) → (register ≡ 0 → ⊥) → Same register 1
      → written other register byte ≡ set (written b register byte) 0 control
  both_written register byte apart (equal _ is) = rw is (both_pending (λ pending i. bit i pending && not (bit i byte)))
  both_written register byte apart (different _ is) = rw is (set_comm b 0 register control byte (λ e. apart (sym e)))

  pub writes_alike : (register byte : ℕ) → (register ≡ 0 → ⊥) → write other register byte
      ≡ record { refusal = (write b register byte).refusal; block = set (write b register byte).block 0 control }
  unfolding write write_refusal
  writes_alike register byte apart =
      let number : write_refusal other register ≡ write_refusal b register =
      ap (λ (n : ℕ). not (eqb n 12) gives 20 else ltb 11 register || eqb register 3 gives 21 else 0) other_long in
      let changed = both_written register byte apart (same register 1) in
      (λ i. changed_after (number i) (changed i) other) ∙ both_changed (write_refusal b register) (written b register byte)

  -- a read
  both_read : (k register : ℕ) → get_or other register 0 ≡ get_or b register 0 → read_after k other register ≡ read_after k b register
  both_read zero register e = λ i. record { refusal = 0; byte = cond (eqb register 3) 0 (e i) }
  both_read (suc k) register e = refl

  pub reads_alike : (register : ℕ) → (register ≡ 0 → ⊥) → read other register ≡ read b register
  unfolding read read_refusal
  reads_alike register apart =
      let number : read_refusal other register ≡ read_refusal b register =
      ap (λ (n : ℕ). not (eqb n 12) gives 20 else ltb 11 register gives 21 else 0) other_long in
      ap (λ (k : ℕ). read_after k other register) number ∙ both_read (read_refusal b register) register (other_byte register apart)

  -- a poll
  both_cleared : (k line : ℕ) → block_after k other line ≡ set (block_after k b line) 0 control
  unfolding line_cleared
  both_cleared zero line = both_pending (λ byte i. bit i byte && not (eqb i line))
  both_cleared (suc k) line = refl

  same_line : bit 0 control ≡ is_on b → length b ≡ 12 → line_to_take other ≡ line_to_take b
  unfolding line_to_take
  same_line same_bit twelve =
      let on = ap (bit 0) (get_or-set_same b 0 control 0 (omega arith)) ∙ same_bit in
      let enabled = other_byte 2 (λ e. omega arith) in
      λ j. cond (on j) (lowest (λ line. bit line (pending_byte j) && bit line (enabled j))) none

  module _ (is_sound : Bool) (s : State) where
    -- the same poll, with the other control
    abbrev with_control : Polled → Polled
    with_control p = record { block = set p.block 0 control; answer = p.answer }

    both_woken : (line : ℕ) → woken other line (offer_if is_sound (Wake (thread_of other line)) s)
        ≡ with_control (woken b line (offer_if is_sound (Wake (thread_of b line)) s))
    both_woken line =
        let answer = ap (λ (n : ℕ). offer_if is_sound (Wake n) s) (other_byte (4 + line) (λ e. omega arith)) in
        let block = both_cleared (offer_if is_sound (Wake (thread_of b line)) s).refusal line in
        ap (woken other line) answer ∙ (λ i. record { block = block i; answer = offer_if is_sound (Wake (thread_of b line)) s })

    found_both : length b ≡ 12 → (o : Option ℕ) → line_to_take b ≡ o → line_to_take other ≡ o
        → poll_if is_sound other s ≡ with_control (poll_if is_sound b s)
    found_both twelve none e e' =
        polled_22 is_sound other s (other_long ∙ twelve) e' ∙ ap with_control (sym (polled_22 is_sound b s twelve e))
    found_both twelve (some line) e e' =
        polled_line is_sound other s line (other_long ∙ twelve) e'
        ∙ both_woken line
        ∙ ap with_control (sym (polled_line is_sound b s line twelve e))

    pub polls_alike : bit 0 control ≡ is_on b → poll_if is_sound other s ≡ with_control (poll_if is_sound b s)
    polls_alike same_bit = by (same (length b) 12)
      where
        by : Same (length b) 12 → poll_if is_sound other s ≡ with_control (poll_if is_sound b s)
        by (equal twelve _) = found_both twelve (line_to_take b) refl (same_line same_bit twelve)
        by (different short _) =
            polled_20 is_sound other s (λ e. short (sym other_long ∙ e)) ∙ ap with_control (sym (polled_20 is_sound b s short))
