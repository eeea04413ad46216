-- What a raise and a write leave of a block: either nothing has changed, or it was accepted and only its own byte has.
use Prim.Native.Nat.{ℕ, zero, suc, ◌+◌, ◌<◌}
use native.Mathlib.Omega.{arith}
use mathlib.Core.Path.{◌≡◌, refl, sym, ap, ◌∙◌}
use mathlib.Core.List.{List}
use mathlib.Core.Bool.{Bool, true, false, not, ◌&&◌, ◌||◌}
use lib.Dec.{eqb, ltb}
use lib.ListN.{length, get_or}
use lib.Seq.{get_or-set_other}
use borrow.Author.Tests.{ne_eqb}
use Rattle.rules.proofs.Basics.Views.{Same, equal, different, same, and_true_left}
use Rattle.bits.specs.Bits.{bit}
use Rattle.bridge_card.specs.Card.{is_pending, thread_of, raise_refusal, changed_after, write_refusal, not_written, written, write}
use Rattle.bridge_card.specs.Card.{raised, raise}
use Rattle.bridge_card.specs.Meaning.{Takes, Cleared}
use Rattle.bridge_card.proofs.Refusing.{twelve_long}
use Rattle.bridge_card.proofs.Pending.{now_pending, other_bytes, as_long}

-- whatever holds of the block as it was, and of the changed one
by_change : (P : List ℕ → Type 0) (k : ℕ) (changed b : List ℕ) → (k ≡ 0 → P changed) → P b → P (changed_after k changed b).block
by_change P zero changed b accepted kept = accepted refl
by_change P (suc k) changed b accepted kept = kept

pub by_raise : (P : List ℕ → Type 0) (b : List ℕ) (line : ℕ) → (length b ≡ 12 → P (raised b line)) → P b → P (raise b line).block
unfolding raise raise_refusal
by_raise P b line accepted kept =
    by_change P (raise_refusal b line) (raised b line) b (λ e. accepted (twelve_long b (ltb 7 line) e)) kept

pub by_write : (P : List ℕ → Type 0) (b : List ℕ) (register byte : ℕ) → (length b ≡ 12 → P (written b register byte)) → P b
    → P (write b register byte).block
unfolding write write_refusal
by_write P b register byte accepted kept =
    by_change P (write_refusal b register) (written b register byte) b (λ e. accepted (twelve_long b (not_written register) e)) kept

-- a write sets no pending bit
pub write_sets_none : (b : List ℕ) (register byte line : ℕ) → line < 8 → is_pending (write b register byte).block line ≡ true
    → is_pending b line ≡ true
write_sets_none b register byte line small =
    by_write (λ (c : List ℕ). is_pending c line ≡ true → is_pending b line ≡ true) b register byte
    (λ twelve. by twelve (same register 1)) (λ pending. pending)
  where
    by : length b ≡ 12 → Same register 1 → is_pending (written b register byte) line ≡ true → is_pending b line ≡ true
    by twelve (equal one is) =
        let left : ℕ → Bool = λ i. is_pending b i && not (bit i byte) in
        rw is (λ pending. and_true_left (is_pending b line) (not (bit line byte)) (sym (now_pending left b twelve line small) ∙ pending))
    by twelve (different other is) =
        rw is (λ pending. ap (bit line) (sym (get_or-set_other b register 1 byte 0 (λ e. other (sym e)))) ∙ pending)

module _ (b : List ℕ) (line : ℕ) where
  abbrev and_this : ℕ → Bool
  and_this other = is_pending b other || eqb other line

  -- an accepted raise
  pub raised_pending : (raise b line).refusal ≡ 0 → (other : ℕ) → other < 8 → is_pending (raise b line).block other ≡ and_this other
  unfolding raise raise_refusal
  raised_pending e other small = by (raise_refusal b line) (twelve_long b (ltb 7 line)) e
    where
      by : (k : ℕ) → (k ≡ 0 → length b ≡ 12) → (changed_after k (raised b line) b).refusal ≡ 0
          → is_pending (changed_after k (raised b line) b).block other ≡ and_this other
      by zero twelve e = now_pending and_this b (twelve refl) other small
      by (suc k) twelve e = absurd (omega arith)

  -- any raise
  pub raise_others : (other : ℕ) → other < 8 → (other ≡ line → ⊥) → is_pending (raise b line).block other ≡ is_pending b other
  raise_others other small apart =
      by_raise (λ (c : List ℕ). is_pending c other ≡ is_pending b other) b line
      (λ twelve. now_pending and_this b twelve other small ∙ or_none (is_pending b other) (eqb other line) (ne_eqb other line apart)) refl
    where
      or_none : (a c : Bool) → c ≡ false → (a || c) ≡ a
      or_none true c e = refl
      or_none false c e = e

  pub raise_bytes : (at : ℕ) → (at ≡ 1 → ⊥) → get_or (raise b line).block at 0 ≡ get_or b at 0
  raise_bytes at other = by_raise (λ (c : List ℕ). get_or c at 0 ≡ get_or b at 0) b line (λ _. other_bytes and_this b at other) refl

  pub raise_as_long : length (raise b line).block ≡ length b
  raise_as_long = by_raise (λ (c : List ℕ). length c ≡ length b) b line (λ _. as_long and_this b) refl

  pub raise_thread : (of : ℕ) → thread_of (raise b line).block of ≡ thread_of b of
  raise_thread of = raise_bytes (4 + of) (λ e. omega arith)

  -- the line that a poll would take is still the one, if a line above it is raised
  pub still_takes : (lower : ℕ) → lower < line → Takes b lower → Takes (raise b line).block lower
  still_takes lower less t =
      let small = t.one_of_eight in
      let enabled = raise_bytes 2 (λ e. omega arith) in
      record {
        on = ap (bit 0) (raise_bytes 0 (λ e. omega arith)) ∙ t.on;
        one_of_eight = small;
        pending = raise_others lower small (λ e. omega arith) ∙ t.pending;
        enabled = ap (bit lower) enabled ∙ t.enabled;
        lowest = λ i below.
            let same-pending = raise_others i (omega arith) (λ e. omega arith) in
            (λ j. same-pending j && bit i (enabled j)) ∙ t.lowest i below;
      }

  -- raised and then cleared: as if it had never been raised
  pub raised_cleared : (after : List ℕ) → Cleared (raise b line).block after line → Cleared b after line
  raised_cleared after c =
      record {
        bit_gone = c.bit_gone;
        others_pending = λ other small apart. c.others_pending other small apart ∙ raise_others other small apart;
        other_bytes = λ at other. c.other_bytes at other ∙ raise_bytes at other;
        as_long = c.as_long ∙ raise_as_long;
      }
