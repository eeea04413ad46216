-- Events, orders and takes, one after the other: each leaves a sound machine that shows the plain machine's, with the same store, refusal
-- number and count, so the next one starts alike on both.
use mathlib.Core.Path.{◌≡◌, refl, ap, ◌∙◌, subst}
use mathlib.Core.List.{List}
use mathlib.Core.Bool.{true}
use Rattle.rules.specs.State.{Plain, forget, who_runs, who_pays, donation_count}
use Rattle.rules.specs.Events as events
use Rattle.rules.specs.Plain.{plain_offer}
use Rattle.rules.specs.Lists.{links_of}
use Rattle.rules.proofs.Soundness.Places.{sound_of}
use Rattle.rules.proofs.Agreement.{agrees}
use Rattle.dispatcher.specs.declared.Machine.{Machine}
use Rattle.dispatcher.specs.Shown.{shown, sound_machine}
use Rattle.dispatcher.proofs.Stored.{sound_shown}
use Rattle.dispatcher.proofs.Runs.{as_offered, answered_sound}
use Rattle.abort_orders.specs.declared.Store.{Store}
use Rattle.abort_orders.specs.declared.Taken.{Taken}
use Rattle.abort_orders.specs.Orders.{Given, held_aborts}
use Rattle.abort_orders.specs.Promises.{count_of, Takes}
use Rattle.abort_orders.specs.Meaning.{plain_taken, Step, RangedSteps, Outcome, Works, stops, happens, orders_abort, orders_withdraw}
use Rattle.abort_orders.specs.Meaning.{takes_orders, PlainOutcome, plain_given, SameStep, AllSameSteps}
use Rattle.abort_orders.proofs.Aborting.{as_plain}
use Rattle.abort_orders.proofs.Taking.{takes_all}

-- a take on a sound machine
module _ (store : Store) (m : Machine) (r : Taken) (h : sound_machine m ≡ true) (t : Takes store m r) where
  pub taken_plain : forget (shown r.machine) ≡ (plain_taken (held_aborts store) (forget (shown m))).plain
  taken_plain = ap forget (takes_all store m r t h).state ∙ (as_plain (held_aborts store) (shown m) (sound_shown m h)).plain

  pub taken_count : count_of r ≡ (plain_taken (held_aborts store) (forget (shown m))).count
  taken_count = (takes_all store m r t h).count ∙ (as_plain (held_aborts store) (shown m) (sound_shown m h)).count

-- what a step's outcome shares with the plain machine's, if its machine shows that one
same_step : (o : Outcome) (x : PlainOutcome) → forget (shown o.machine) ≡ x.plain → o.refusal ≡ x.refusal → o.count ≡ x.count
    → o.store ≡ x.store → SameStep o x
same_step o x plain refusal count store =
    record {
      refusal = refusal;
      count = count;
      store = store;
      thread = ap (λ (p : Plain). who_runs p.running) plain;
      timeslice = ap (λ (p : Plain). who_pays p.running) plain;
      donations = ap (λ (p : Plain). donation_count p.running) plain;
      all_links = ap (λ (p : Plain). links_of p.threads) plain;
    }

-- an order given does not look at the machine
same_given : (m : Machine) (g given : Given) (steps : List Step) (os : List Outcome) → g ≡ given
    → AllSameSteps steps os g.store (forget (shown m))
    → SameStep (record { machine = m; store = g.store; refusal = g.refusal; count = 0 }) (plain_given given (forget (shown m)))
    × AllSameSteps steps os given.store (forget (shown m))
same_given m g given steps os is later = (
  same_step (record { machine = m; store = g.store; refusal = g.refusal; count = 0 }) (plain_given given (forget (shown m))) refl
      (ap (λ (x : Given). x.refusal) is) refl (ap (λ (x : Given). x.store) is),
  subst (λ (x : Given). AllSameSteps steps os x.store (forget (shown m))) is later,
)

pub works_same : {m : Machine} {s : Store} {steps : List Step} {os : List Outcome} → Works m s steps os → RangedSteps steps
    → sound_machine m ≡ true → AllSameSteps steps os s (forget (shown m))
works_same stops f h = tt
works_same (happens {m = m} {s = s} {e = e} {r = r} {steps = steps} {os = os} a rest) f h =
    let both = agrees e (shown m) (sound_of (shown m) (sound_shown m h)) f.0 in
    let answer = as_offered e m h in
    let plain : forget (shown r.machine) ≡ (plain_offer e (forget (shown m))).plain =
    ap forget (a.state ∙ ap (λ (w : events.Answered). w.state) answer) ∙ both.plain in
    let later = works_same rest f.1 (answered_sound e m r f.0 h a) in (
      same_step _ _ plain (a.refusal ∙ ap (λ (w : events.Answered). w.refusal) answer ∙ both.refusal) refl refl,
      subst (AllSameSteps steps os s) plain later,
    )
works_same (orders_abort {m = m} {g = g} {steps = steps} {os = os} is rest) f h =
    same_given m g _ steps os is (works_same rest f h)
works_same (orders_withdraw {m = m} {g = g} {steps = steps} {os = os} is rest) f h =
    same_given m g _ steps os is (works_same rest f h)
works_same (takes_orders {m = m} {s = s} {r = r} {steps = steps} {os = os} t rest) f h =
    let taken = takes_all s m r t h in
    let plain = taken_plain s m r h t in
    let later = works_same rest f taken.sound in (
      same_step _ _ plain taken.refusal (taken_count s m r h t) taken.store,
      rw (← taken.store, ← plain) later,
    )
