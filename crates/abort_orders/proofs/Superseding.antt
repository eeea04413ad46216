-- What giving an order comes to, by its two tests: an order that neither refuses is written over what is held for its thread, and over
-- nothing else.
use Prim.Native.Nat.{ℕ, zero, suc, ◌≤◌, ◌<◌}
use native.Mathlib.Omega.{arith}
use mathlib.Core.Path.{◌≡◌, refl, ap, ◌∙◌}
use mathlib.Core.Bool.{true, false}
use lib.Dec.{ltb}
use lib.ListN.{length, get_or-replicate}
use lib.Seq.{get_or-set_same, get_or-set_other}
use borrow.Author.Tests.{lt-ltb, le-ltb, le-leb, lt-leb, ltb-false}
use Rattle.rules.specs.State.{limit}
use Rattle.rules.specs.Refusals.{◌gives◌else◌}
use Rattle.rules.proofs.Basics.Accepting.{passes}
use Rattle.abort_orders.specs.declared.Order.{Order}
use Rattle.abort_orders.specs.declared.Order.TheVariants.{Nothing, Abort, Withdraw}
use Rattle.abort_orders.specs.declared.Store.{Store}
use Rattle.abort_orders.specs.Orders.{order_at, empty_store, not_above, order_refusal, given_after}
use Rattle.abort_orders.specs.Meaning.{Holds, an_abort, a_withdraw, Supersedes, Comes}

module _ (store : Store) (n number : ℕ) where
  -- the number of an answer is the refusal's
  pub given_number : (k : ℕ) (order : Order) → (given_after k store n order).refusal ≡ k
  given_number zero order = refl
  given_number (suc k) order = refl

  -- an order that is held, and whose number the new one is not above
  held_above : (held : ℕ) → Holds store n held → number ≤ held → not_above number (order_at store n) ≡ true
  held_above held (an_abort e) small = ap (not_above number) e ∙ le-leb number held small
  held_above held (a_withdraw e) small = ap (not_above number) e ∙ le-leb number held small

  -- one whose number the new one is above, or none
  held_below : ((held : ℕ) → Holds store n held → held < number) → not_above number (order_at store n) ≡ false
  held_below less = by (order_at store n) refl
    where
      by : (o : Order) → order_at store n ≡ o → not_above number o ≡ false
      by Nothing e = refl
      by (Abort held) e = lt-leb number held (less held (an_abort e))
      by (Withdraw held) e = lt-leb number held (less held (a_withdraw e))

  pub refused_2 : 127 < n → order_refusal store n number ≡ 2
  unfolding order_refusal
  refused_2 above = rw (lt-ltb 127 n above) refl

  pub refused_27 : n ≤ 127 → not_above number (order_at store n) ≡ true → order_refusal store n number ≡ 27
  unfolding order_refusal
  refused_27 small e = rw (le-ltb 127 n small, e) refl

  pub not_refused : n ≤ 127 → not_above number (order_at store n) ≡ false → order_refusal store n number ≡ 0
  unfolding order_refusal
  not_refused small e = rw (le-ltb 127 n small, e) refl

  -- only a thread of the machine is given an order
  is_thread : order_refusal store n number ≡ 0 → n ≤ 127
  unfolding order_refusal
  is_thread e = ltb-false 127 n (passes (ltb 127 n) 1 (not_above number (order_at store n) gives 27 else 0) e).0

  module _ (order : Order) (full : length store.orders ≡ limit) where
    pub supersedes : order_refusal store n number ≡ 0
        → Supersedes store (given_after (order_refusal store n number) store n order).store n order
    supersedes e =
        let small = is_thread e in
        rw e record {
          now = get_or-set_same store.orders n order Nothing (omega arith);
          others = λ other apart. get_or-set_other store.orders n other order Nothing apart;
        }

    pub comes : Comes store n number order (given_after (order_refusal store n number) store n order)
    comes =
        record {
          no_thread = λ above. rw (refused_2 above) (refl, refl);
          too_low = λ small held holds too_low. rw (refused_27 small (held_above held holds too_low)) (refl, refl);
          taken = λ small less.
              let accepted = not_refused small (held_below less) in
              (given_number (order_refusal store n number) order ∙ accepted, supersedes accepted);
        }

-- an empty store refuses no order of a thread
pub none_held : (n number : ℕ) (order : Order) → n ≤ 127
    → (given_after (order_refusal empty_store n number) empty_store n order).refusal ≡ 0
none_held n number order small =
    let free = get_or-replicate limit n Nothing Nothing (omega arith) in
    given_number empty_store n number (order_refusal empty_store n number) order
    ∙ not_refused empty_store n number small (ap (not_above number) free)
