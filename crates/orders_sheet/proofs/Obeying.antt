-- What a command does, by its op.
use Prim.Native.Nat.{ℕ}
use mathlib.Core.Path.{◌≡◌, refl, sym, ap, ◌∙◌, subst}
use mathlib.Core.List.{List}
use mathlib.Core.Bool.{Bool}
use borrow.Author.Tests.{ne_eqb}
use Rattle.std.specs.Prelude.{Result, Ok}
use Rattle.rules.specs.declared.refusal.Refusal.{Refusal}
use Rattle.rules.specs.RefusalNumbers.{number_in, links_in}
use Rattle.dispatcher.specs.declared.Machine.{Machine}
use Rattle.dispatcher.specs.Shown.{shown}
use Rattle.dispatcher.proofs.Stored.{sound_shown}
use Rattle.replay.specs.declared.Ran.{Ran}
use Rattle.replay.specs.Running.{Ready, RanOn}
use Rattle.abort_orders.specs.declared.Store.{Store}
use Rattle.abort_orders.specs.declared.Taken.{Taken}
use Rattle.abort_orders.specs.Orders as orders
use Rattle.abort_orders.specs.Orders.{Given, give_abort, give_withdraw, take_if, take_orders}
use Rattle.abort_orders.specs.Promises.{count_of, taken_of, Takes}
use Rattle.abort_orders.proofs.Taking.{takes_all}
use Rattle.orders_sheet.specs.declared.Command.{Command}
use Rattle.orders_sheet.specs.Sheet.{Stand, Done, after_given, after_take, after_events, done}
use Rattle.orders_sheet.specs.Promises.{stand_of, Obeys}

-- the cases of `done`
module _ (c : Command) (w : Stand) where
  aborts_done : c.op ≡ 0 → done c w ≡ after_given (give_abort w.store c.thread c.number) w
  unfolding done
  aborts_done e = rw e refl

  withdraws_done : c.op ≡ 1 → done c w ≡ after_given (give_withdraw w.store c.thread c.number) w
  unfolding done
  withdraws_done e = rw e refl

  takes_done : c.op ≡ 2 → done c w ≡ after_take (take_orders w.store w.state) w
  unfolding done
  takes_done e = rw e refl

  runs_done : (c.op ≡ 0 → ⊥) → (c.op ≡ 1 → ⊥) → (c.op ≡ 2 → ⊥) → done c w ≡ after_events c.thread w
  unfolding done
  runs_done no_Abort no-withdraw no-take = rw (ne_eqb c.op 0 no_Abort, ne_eqb c.op 1 no-withdraw, ne_eqb c.op 2 no-take) refl

module _ {file : List ℕ} {offset : ℕ} {m : Machine} (ready : Ready file offset m) (store : Store) (c : Command) where
  abbrev here : Stand
  here = stand_of store file offset m

  -- an order given does not look at the machine
  module _ {after : Store} {number : ℕ} {answer : Result ℕ Refusal} (said : number_in answer ≡ number) (none : links_in answer ≡ 0) where
    given : after_given (record { store = after; refusal = number }) here ≡ done c here
        → Obeys (done c here) file after (record { machine = m; offset = offset; answer = answer })
    given is =
        subst (λ (z : Done). Obeys z file after (record { machine = m; offset = offset; answer = answer })) is
        (record { store = refl; state = refl; refusal = said; last = none; left = ready.left; sound = ready.sound })

    pub obeys_abort : c.op ≡ 0 → record { store = after; refusal = number } ≡ give_abort store c.thread c.number
        → Obeys (done c here) file after (record { machine = m; offset = offset; answer = answer })
    obeys_abort e is = given (ap (λ (z : Given). after_given z here) is ∙ sym (aborts_done c here e))

    pub obeys_withdraw : c.op ≡ 1 → record { store = after; refusal = number } ≡ give_withdraw store c.thread c.number
        → Obeys (done c here) file after (record { machine = m; offset = offset; answer = answer })
    obeys_withdraw e is = given (ap (λ (z : Given). after_given z here) is ∙ sym (withdraws_done c here e))

  -- a sound machine's take is the definitions'
  pub obeys_take : {r : Taken} {answer : Result ℕ Refusal} → c.op ≡ 2 → Takes store m r → number_in answer ≡ number_in r.answer
      → links_in answer ≡ count_of r
      → Obeys (done c here) file r.store (record { machine = r.machine; offset = offset; answer = answer })
  obeys_take {r} {answer} e t said counted =
      let same : taken_of store m ≡ take_orders store (shown m) =
      ap (λ (q : Bool). take_if q store (shown m)) (ready.sound ∙ sym (sound_shown m ready.sound)) in
      let is = ap (λ (z : orders.Taken). after_take z here) same ∙ sym (takes_done c here e) in
      subst (λ (z : Done). Obeys z file r.store (record { machine = r.machine; offset = offset; answer = answer })) is
      (record {
        store = t.store;
        state = t.state;
        refusal = said ∙ t.refusal;
        last = counted ∙ t.count;
        left = ready.left;
        sound = (takes_all store m r t ready.sound).sound;
      })

  pub obeys_run : {r : Ran} → (c.op ≡ 0 → ⊥) → (c.op ≡ 1 → ⊥) → (c.op ≡ 2 → ⊥) → RanOn file offset m c.thread r
      → Obeys (done c here) file store (record { machine = r.machine; offset = r.offset; answer = Ok r.links })
  obeys_run {r} no_Abort no-withdraw no-take x =
      subst (λ (z : Done). Obeys z file store (record { machine = r.machine; offset = r.offset; answer = Ok r.links }))
      (sym (runs_done c here no_Abort no-withdraw no-take))
      (record { store = refl; state = x.state; refusal = refl; last = x.links; left = x.left; sound = x.sound })
