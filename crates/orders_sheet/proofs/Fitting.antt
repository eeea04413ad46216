-- Whatever the commands are, the machine stays sound, and the columns of a command's line are narrow.
use Prim.Native.Nat.{ℕ, zero, suc, ◌≤◌, ◌<◌}
use native.Mathlib.Omega.{arith}
use mathlib.Core.Path.{◌≡◌, ◌∙◌}
use mathlib.Core.Bool.{Bool, true, false, cond}
use lib.Dec.{ltb, eqb}
use lib.ListN.{length, length-set, length-replicate}
use Rattle.rules.specs.State.{limit}
use Rattle.rules.specs.Sound.{sound}
use Rattle.rules.specs.Lists.{AllRanged}
use Rattle.rules.proofs.Bounds.{most}
use Rattle.replay.proofs.Within.{run_within}
use Rattle.abort_orders.specs.declared.Order.{Order}
use Rattle.abort_orders.specs.declared.Order.TheVariants.{Nothing, Abort, Withdraw}
use Rattle.abort_orders.specs.Orders.{order_at, not_above, order_refusal, given_after, give_abort, give_withdraw, held_aborts}
use Rattle.abort_orders.specs.Orders.{take_if, take_orders}
use Rattle.abort_orders.proofs.Inserting.{aborts_few}
use Rattle.abort_orders.proofs.Aborting.{applied_few, applied_sound}
use Rattle.orders_sheet.specs.declared.Command.{Command}
use Rattle.orders_sheet.specs.Sheet.{Stand, Done, after_given, after_take, after_events, done, stand_after}

-- between two commands
pub record Steady (w : Stand) : Type 0 where
  pub full : length w.store.orders ≡ limit
  pub sound_now : sound w.state ≡ true
  pub ranged : AllRanged w.events

-- after one
pub record Short (d : Done) : Type 0 where
  pub steady : Steady (stand_after d)
  pub refusal : d.answer.refusal < 100
  pub last : d.answer.links < 100000000

module _ (w : Stand) (x : Steady w) where
  -- an order given: 2 or 27, and as many slots as before
  order_short : (n number : ℕ) (order : Order) → Short (after_given (given_after (order_refusal w.store n number) w.store n order) w)
  unfolding order_refusal
  order_short n number order =
      by (order_refusal w.store n number)
      (most (ltb 127 n) 2 tt (most (not_above number (order_at w.store n)) 27 tt (omega arith)))
    where
      by : (k : ℕ) → k ≤ 27 → Short (after_given (given_after k w.store n order) w)
      by zero small =
          record {
            steady =
                record {
                  full = length-set w.store.orders n order ∙ x.full;
                  sound_now = x.sound_now;
                  ranged = x.ranged;
                };
            refusal = omega arith;
            last = omega arith;
          }
      by (suc k) small =
          record {
            steady = record { full = x.full; sound_now = x.sound_now; ranged = x.ranged };
            refusal = omega arith;
            last = omega arith;
          }

  -- the orders taken: no more counted than there are slots
  take_short : Short (after_take (take_orders w.store w.state) w)
  unfolding take_if
  take_short =
      let few = applied_few (held_aborts w.store) w.state in
      let slots = aborts_few 0 w.store.orders in
      rw x.sound_now record {
        steady =
            record {
              full = length-replicate limit Nothing;
              sound_now = applied_sound (held_aborts w.store) w.state x.sound_now;
              ranged = x.ranged;
            };
        refusal = omega arith;
        last = omega (arith, few, slots, x.full);
      }

  run_short : (n : ℕ) → n < 256 → Short (after_events n w)
  run_short n small =
      let ran = run_within n w.events w.state small x.ranged x.sound_now in
      record {
        steady = record { full = x.full; sound_now = ran.sound_after_lem; ranged = ran.ranged };
        refusal = omega arith;
        last = ran.links;
      }

  pub short : (c : Command) → c.thread < 256 → Short (done c w)
  unfolding done give_abort give_withdraw
  short c small = by (eqb c.op 0) (eqb c.op 1) (eqb c.op 2)
    where
      by : (q0 q1 q2 : Bool) → Short
          (cond q0 (after_given (give_abort w.store c.thread c.number) w)
          (cond q1 (after_given (give_withdraw w.store c.thread c.number) w)
          (cond q2 (after_take (take_orders w.store w.state) w) (after_events c.thread w))))
      by true q1 q2 = order_short c.thread c.number (Abort c.number)
      by false true q2 = order_short c.thread c.number (Withdraw c.number)
      by false false true = take_short
      by false false false = run_short c.thread small
