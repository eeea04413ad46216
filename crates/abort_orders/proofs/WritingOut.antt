-- Steps leave a sound machine with the state of the same events in one list, where a take's aborts are written out; a state is stored in
-- one form.
use mathlib.Core.Path.{◌≡◌, refl, sym, ap, ◌∙◌}
use mathlib.Core.List.{List, [], ◌∷◌, ◌++◌}
use mathlib.Core.Bool.{true}
use Rattle.rules.specs.declared.Event.{Event}
use Rattle.rules.specs.Events as events
use Rattle.rules.specs.Lists.{AllRanged, after}
use Rattle.rules.proofs.Shortening.Refusing.{after_append}
use Rattle.dispatcher.specs.declared.Machine.{Machine}
use Rattle.dispatcher.specs.Promise.{Answered}
use Rattle.dispatcher.specs.Shown.{shown, sound_machine}
use Rattle.dispatcher.proofs.Stored.{sound_stored, sound_shown}
use Rattle.dispatcher.proofs.OneForm.{one_form}
use Rattle.dispatcher.proofs.Runs.{as_offered, answered_sound, Runs, last_of, ran}
use Rattle.abort_orders.specs.declared.Store.{Store}
use Rattle.abort_orders.specs.Orders.{empty_store, Given, give_abort, give_withdraw, held_aborts}
use Rattle.abort_orders.specs.Meaning.{abort_events, Step, Happens, OrdersAbort, OrdersWithdraw, TakesOrders, RangedSteps, Outcome}
use Rattle.abort_orders.specs.Meaning.{Works, stops, happens, orders_abort, orders_withdraw, takes_orders, last_left, written_out}
use Rattle.abort_orders.proofs.Aborting.{aborts_ranged, as_events}
use Rattle.abort_orders.proofs.Taking.{takes_all}

ranged_both : (es fs : List Event) → AllRanged es → AllRanged fs → AllRanged (es ++ fs)
ranged_both [] fs x y = y
ranged_both (e ∷ es) fs x y = (x.0, ranged_both es fs x.1 y)

all_ranged : (steps : List Step) (s : Store) → RangedSteps steps → AllRanged (written_out steps s)
unfolding written_out
all_ranged [] s f = tt
all_ranged (Happens e ∷ steps) s f = (f.0, all_ranged steps s f.1)
all_ranged (OrdersAbort n number ∷ steps) s f = all_ranged steps (give_abort s n number).store f
all_ranged (OrdersWithdraw n number ∷ steps) s f = all_ranged steps (give_withdraw s n number).store f
all_ranged (TakesOrders ∷ steps) s f =
    let aborts = held_aborts s in
    ranged_both (abort_events aborts) (written_out steps empty_store) (aborts_ranged aborts) (all_ranged steps empty_store f)

-- what steps leave, by the definitions
record Leaves (m : Machine) (s : Store) (steps : List Step) (os : List Outcome) : Type 0 where
  state : shown (last_left m os) ≡ after (written_out steps s) (shown m)
  sound : sound_machine (last_left m os) ≡ true

leaves : {m : Machine} {s : Store} {steps : List Step} {os : List Outcome} → Works m s steps os → RangedSteps steps
    → sound_machine m ≡ true → Leaves m s steps os
unfolding written_out after
leaves stops f h = record { state = refl; sound = h }
leaves (happens {m = m} {s = s} {e = e} {r = r} {steps = steps} a rest) f h =
    let state = a.state ∙ ap (λ (w : events.Answered). w.state) (as_offered e m h) in
    let later = leaves rest f.1 (answered_sound e m r f.0 h a) in
    record { state = later.state ∙ ap (after (written_out steps s)) state; sound = later.sound }
leaves (orders_abort {m = m} {g = g} {steps = steps} is rest) f h =
    let later = leaves rest f h in
    record { state = later.state ∙ ap (λ (x : Given). after (written_out steps x.store) (shown m)) is; sound = later.sound }
leaves (orders_withdraw {m = m} {g = g} {steps = steps} is rest) f h =
    let later = leaves rest f h in
    record { state = later.state ∙ ap (λ (x : Given). after (written_out steps x.store) (shown m)) is; sound = later.sound }
leaves (takes_orders {m = m} {s = s} {r = r} {steps = steps} t rest) f h =
    let taken = takes_all s m r t h in
    let aborts = abort_events (held_aborts s) in
    let state : shown r.machine ≡ after aborts (shown m) = taken.state ∙ (as_events (held_aborts s) (shown m) (sound_shown m h)).state in
    let later = leaves rest f taken.sound in
    record {
      state =
          later.state
          ∙ (λ i. after (written_out steps (taken.store i)) (state i))
          ∙ sym (after_append aborts (written_out steps empty_store) (shown m));
      sound = later.sound;
    }

pub left_alike : {m : Machine} {s : Store} {steps : List Step} {os : List Outcome} {rs : List Answered} → Works m s steps os
    → RangedSteps steps → sound_machine m ≡ true → Runs m (written_out steps s) rs → last_left m os ≡ last_of m rs
left_alike {m} {s} {steps} {os} {rs} w f h x =
    let left = leaves w f h in
    let list = ran x (all_ranged steps s f) h in
    one_form (last_left m os) (last_of m rs) (sound_stored (last_left m os) left.sound) (sound_stored (last_of m rs) list.sound)
    (left.state ∙ sym list.state)
