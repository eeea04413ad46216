-- What a take hands back, by its contract alone: on a sound machine the aborts' machine and count with an empty store, and on an unsound
-- one 1 and all as given. So it hands back what the code's own aborts do, in the one form that a state is stored in.
use native.Mathlib.Omega.{arith}
use mathlib.Core.Path.{◌≡◌, refl, sym, ap, ◌∙◌}
use mathlib.Core.List.{List, map}
use mathlib.Core.Bool.{Bool, true, false}
use Rattle.rules.specs.declared.Event.{Event}
use Rattle.rules.specs.RefusalNumbers.{number_in}
use Rattle.rules.specs.Sound.{sound}
use Rattle.rules.specs.Events as events
use Rattle.rules.proofs.Basics.Views.{Two, yes_true, no_false, and_true_both}
use Rattle.dispatcher.specs.declared.Machine.{Machine}
use Rattle.dispatcher.specs.Promise.{Answered}
use Rattle.dispatcher.specs.Shown.{shown, stored, sound_machine}
use Rattle.dispatcher.proofs.Stored.{sound_stored, sound_shown}
use Rattle.dispatcher.proofs.OneForm.{one_form}
use Rattle.dispatcher.proofs.Runs.{answer_to, Runs, stops, steps, last_of, ran, all_kept}
use Rattle.abort_orders.specs.declared.Store.{Store}
use Rattle.abort_orders.specs.declared.Taken.{Taken}
use Rattle.abort_orders.specs.Orders as orders
use Rattle.abort_orders.specs.Orders.{empty_store, held_aborts, applied, take_if}
use Rattle.abort_orders.specs.Promises.{count_of, taken_of, Takes}
use Rattle.abort_orders.specs.Meaning.{abort_events, counted}
use Rattle.abort_orders.proofs.Aborting.{aborts_ranged, as_events, applied_sound}

-- on a sound machine
pub record TakesAll (given : Store) (m : Machine) (r : Taken) : Type 0 where
  pub refusal : number_in r.answer ≡ 0
  pub count : count_of r ≡ (applied (held_aborts given) (shown m)).count
  pub store : r.store ≡ empty_store
  pub state : shown r.machine ≡ (applied (held_aborts given) (shown m)).state
  pub sound : sound_machine r.machine ≡ true

-- on an unsound one
pub record TakesNone (given : Store) (m : Machine) (r : Taken) : Type 0 where
  pub refusal : number_in r.answer ≡ 1
  pub count : count_of r ≡ 0
  pub store : r.store ≡ given
  pub machine : r.machine ≡ m

module _ (store : Store) (m : Machine) (r : Taken) (t : Takes store m r) where
  taken_by : (b : Bool) → sound_machine m ≡ b → taken_of store m ≡ take_if b store (shown m)
  taken_by b e = ap (λ (q : Bool). take_if q store (shown m)) e

  pub takes_all : sound_machine m ≡ true → TakesAll store m r
  unfolding take_if sound_machine
  takes_all h =
      let is = taken_by true h in
      let state = t.state ∙ ap (λ (x : orders.Taken). x.state) is in
      record {
        refusal = t.refusal ∙ ap (λ (x : orders.Taken). x.refusal) is;
        count = t.count ∙ ap (λ (x : orders.Taken). x.count) is;
        store = t.store ∙ ap (λ (x : orders.Taken). x.store) is;
        state = state;
        sound =
            and_true_both (stored r.machine) (sound (shown r.machine)) (t.exact ∙ sound_stored m h)
            (ap sound state ∙ applied_sound (held_aborts store) (shown m) (sound_shown m h));
      }

  pub takes_none : sound_machine m ≡ false → TakesNone store m r
  unfolding take_if
  takes_none h =
      let is = taken_by false h in
      let one : number_in r.answer ≡ 1 = t.refusal ∙ ap (λ (x : orders.Taken). x.refusal) is in
      record {
        refusal = one;
        count = t.count ∙ ap (λ (x : orders.Taken). x.count) is;
        store = t.store ∙ ap (λ (x : orders.Taken). x.store) is;
        machine = t.kept (λ z. omega arith);
      }

-- the code's events on an unsound machine: none is counted
none_counted : {m : Machine} {es : List Event} {rs : List Answered} → Runs m es rs → sound_machine m ≡ false
    → counted (map (λ (a : Answered). a.refusal) rs) ≡ 0
unfolding counted
none_counted stops h = refl
none_counted (steps {m = m} {e = e} {r = r} {rs = rs} a rest) h =
    let answer : answer_to e m ≡ events.refused 1 (shown m) = ap (λ (b : Bool). events.offer_if b e (shown m)) h in
    let number : r.refusal ≡ 1 = a.refusal ∙ ap (λ (w : events.Answered). w.refusal) answer in
    let kept : r.machine ≡ m = a.kept (λ z. omega arith) in
    rw number (omega (arith, none_counted rest (ap sound_machine kept ∙ h)))

-- the code's take and the code's aborts hand back the same
module _ (store : Store) (m : Machine) (r : Taken) (rs : List Answered) (t : Takes store m r)
    (x : Runs m (abort_events (held_aborts store)) rs) where
  pub same_machine : Two (sound_machine m) → r.machine ≡ last_of m rs
  same_machine (yes_true h) =
      let taken = takes_all store m r t h in
      let list = ran x (aborts_ranged (held_aborts store)) h in
      one_form r.machine (last_of m rs) (sound_stored r.machine taken.sound) (sound_stored (last_of m rs) list.sound)
      (taken.state ∙ (as_events (held_aborts store) (shown m) (sound_shown m h)).state ∙ sym list.state)
  same_machine (no_false h) = (takes_none store m r t h).machine ∙ sym (all_kept x h)

  pub same_count : Two (sound_machine m) → count_of r ≡ counted (map (λ (a : Answered). a.refusal) rs)
  same_count (yes_true h) =
      (takes_all store m r t h).count
      ∙ (as_events (held_aborts store) (shown m) (sound_shown m h)).count
      ∙ ap counted (sym (ran x (aborts_ranged (held_aborts store)) h).numbers)
  same_count (no_false h) = (takes_none store m r t h).count ∙ sym (none_counted x h)
