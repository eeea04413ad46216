-- The line that a poll finds is the lowest that is pending and enabled, with the card on; and such a line is found.
use Prim.Native.Nat.{ℕ}
use native.Mathlib.Omega.{arith}
use mathlib.Core.Path.{◌≡◌, sym, ap, ◌∙◌}
use mathlib.Core.List.{List}
use mathlib.Core.Bool.{Bool, cond}
use mathlib.Core.Option.{Option, none, some}
use Rattle.rules.proofs.Basics.Views.{Two, yes_true, no_false, two, and_true_left, and_true_right, and_true_both}
use Rattle.bridge_card.specs.Card.{is_on, is_pending, is_enabled, may_take, lowest, line_to_take}
use Rattle.bridge_card.specs.Meaning.{Takes}
use Rattle.bridge_card.proofs.Lowest.{finds, finds_line, found_lowest}

pub not_found : (line : ℕ) → none ≡ some line → ⊥
not_found line e = let z : ◌≡◌ {A = ℕ} 0 1 = cc in omega arith

pub takes_found : (b : List ℕ) (line : ℕ) → line_to_take b ≡ some line → Takes b line
unfolding line_to_take
takes_found b line e = by (two (is_on b))
  where
    with_on : Bool → Option ℕ
    with_on on = cond on (lowest (may_take b)) none

    by : Two (is_on b) → Takes b line
    by (yes_true on) =
        let this = finds_line (may_take b) line (sym (ap with_on on) ∙ e) in
        record {
          on = on;
          one_of_eight = this.inside;
          pending = and_true_left (is_pending b line) (is_enabled b line) this.passes;
          enabled = and_true_right (is_pending b line) (is_enabled b line) this.passes;
          lowest = λ lower below. this.first lower (omega arith) below;
        }
    by (no_false off) = absurd (not_found line (sym (ap with_on off) ∙ e))

pub found_takes : (b : List ℕ) (line : ℕ) → Takes b line → line_to_take b ≡ some line
unfolding line_to_take
found_takes b line t =
    ap (λ (on : Bool). cond on (lowest (may_take b)) none) t.on
    ∙ found_lowest (may_take b) line t.one_of_eight (and_true_both (is_pending b line) (is_enabled b line) t.pending t.enabled)
    t.lowest (lowest (may_take b)) (finds (may_take b))
