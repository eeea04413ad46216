-- What the code hands back of a take keeps its promise, by whether the machine is sound.
use Prim.Native.Nat.{ℕ}
use mathlib.Core.Path.{◌≡◌, refl, sym, ap, ◌∙◌}
use mathlib.Core.Bool.{Bool, true, false}
use Rattle.std.specs.Prelude.{Ok, Err}
use Rattle.rules.specs.declared.refusal.Refusal.TheVariants.{Unsound}
use Rattle.dispatcher.specs.declared.Machine.{Machine}
use Rattle.dispatcher.specs.Shown.{shown, sound_machine}
use Rattle.abort_orders.specs.declared.Store.{Store}
use Rattle.abort_orders.specs.Orders.{empty_store, held_aborts, applied, Taken, take_if}
use Rattle.abort_orders.specs.Promises.{Applies, taken_of, Takes}

module _ (store : Store) (m : Machine) where
  pub refused_with_1 : sound_machine m ≡ false → Takes store m (record { machine = m; store = store; answer = Err Unsound })
  unfolding take_if
  refused_with_1 h =
      let is : taken_of store m ≡ take_if false store (shown m) = ap (λ (b : Bool). take_if b store (shown m)) h in
      record {
        refusal = ap (λ (t : Taken). t.refusal) (sym is);
        count = ap (λ (t : Taken). t.count) (sym is);
        store = ap (λ (t : Taken). t.store) (sym is);
        state = ap (λ (t : Taken). t.state) (sym is);
        exact = refl;
        kept = λ given. refl;
      }

  pub take_done : {after : Machine} {count : ℕ} {cleared : Store} → sound_machine m ≡ true
      → Applies (applied (held_aborts store) (shown m)) m after count → cleared ≡ empty_store
      → Takes store m (record { machine = after; store = cleared; answer = Ok count })
  unfolding take_if
  take_done h a empty =
      let is : taken_of store m ≡ take_if true store (shown m) = ap (λ (b : Bool). take_if b store (shown m)) h in
      record {
        refusal = ap (λ (t : Taken). t.refusal) (sym is);
        count = a.count ∙ ap (λ (t : Taken). t.count) (sym is);
        store = empty ∙ ap (λ (t : Taken). t.store) (sym is);
        state = a.state ∙ ap (λ (t : Taken). t.state) (sym is);
        exact = a.exact;
        kept = λ given. absurd (given refl);
      }
