-- THE THEOREM about the code of both engines, known by the contracts of their public functions alone: from each sound machine, which the
-- plain engine takes without its places, after every event of every list they agree, and neither refuses with 1.
use mathlib.Core.Path.{◌≡◌, sym, ap, subst, ◌∙◌}
use mathlib.Core.List.{List, [], ◌∷◌}
use mathlib.Core.Bool.{true}
use Rattle.rules.specs.declared.Event.{Event}
use Rattle.rules.specs.State.{State, Plain, forget, who_runs, who_pays, donation_count}
use Rattle.rules.specs.Events as events
use Rattle.rules.specs.Plain.{PlainAnswered, plain_offer}
use Rattle.rules.specs.Lists.{AllRanged, links_of}
use Rattle.rules.proofs.WithoutPlaces.{OfSound, of_sound_machine}
use Rattle.dispatcher.specs.declared.Machine.{Machine}
use Rattle.dispatcher.specs.Promise as dispatcher
use Rattle.dispatcher.specs.Shown.{shown, sound_machine}
use Rattle.dispatcher.specs.Shown as machines
use Rattle.dispatcher.proofs.Stored.{sound_shown}
use Rattle.dispatcher.proofs.Runs.{Runs, empty_shown, empty_machine_sound}
use Rattle.dispatcher.proofs.Demands.{Same, AllSame, demand_3}
use Rattle.plain_engine.specs.declared.PlainMachine.{PlainMachine}
use Rattle.plain_engine.specs.Promise as plain
use Rattle.plain_engine.specs.Shown.{plain_shown, empty_machine}
use Rattle.plain_engine.proofs.Runs.{PlainRuns, Plainly, AllPlainly, plain_engine}

-- the two engines' answers to an event: the refusal number, the running thread, the paying timeslice, the donation count and all links
pub record Agree (r : dispatcher.Answered) (q : plain.Answered) : Type 0 where
  pub refusal : r.refusal ≡ q.refusal
  pub thread : who_runs r.machine.running ≡ who_runs q.machine.running
  pub timeslice : who_pays r.machine.running ≡ who_pays q.machine.running
  pub count : donation_count r.machine.running ≡ donation_count q.machine.running
  pub all_links : links_of r.machine.threads ≡ links_of q.machine.threads
  pub not_1 : r.refusal ≡ 1 → ⊥

-- after each event of a list
abbrev pub AllAgree : List dispatcher.Answered → List plain.Answered → Type 0
AllAgree [] [] = Unit {0}
AllAgree [] (q ∷ qs) = ⊥
AllAgree (r ∷ rs) [] = ⊥
AllAgree (r ∷ rs) (q ∷ qs) = Agree r q × AllAgree rs qs

-- both are the plain machine's
agree_at : {e : Event} {r : dispatcher.Answered} {q : plain.Answered} {s : State} {p : Plain} → Same e r s p → Plainly e q p → Agree r q
agree_at x y =
    let a = sym y.answer in
    record {
      refusal = x.refusal ∙ ap (λ (z : PlainAnswered). z.refusal) a;
      thread = x.thread ∙ ap (λ (z : PlainAnswered). who_runs z.plain.running) a;
      timeslice = x.timeslice ∙ ap (λ (z : PlainAnswered). who_pays z.plain.running) a;
      count = x.count ∙ ap (λ (z : PlainAnswered). donation_count z.plain.running) a;
      all_links = x.all_links ∙ ap (λ (z : PlainAnswered). links_of z.plain.threads) a;
      not_1 = λ one. y.not_1 (sym (x.refusal ∙ ap (λ (z : PlainAnswered). z.refusal) a) ∙ one);
    }

agree_along : (es : List Event) (rs : List dispatcher.Answered) (qs : List plain.Answered) (s : State) (p : Plain)
    → AllSame es rs s p → AllPlainly es qs p → AllAgree rs qs
agree_along [] [] [] s p x y = tt
agree_along [] [] (q ∷ qs) s p x y = y
agree_along [] (r ∷ rs) qs s p x y = absurd x
agree_along (e ∷ es) [] qs s p x y = absurd x
agree_along (e ∷ es) (r ∷ rs) [] s p x y = y
agree_along (e ∷ es) (r ∷ rs) (q ∷ qs) s p x y =
    (agree_at x.0 y.0, agree_along es rs qs (events.offer e s).state (plain_offer e p).plain x.1 y.1)

-- from every sound machine, taken without its places as `without_places` promises, and from the empty machines of both
pub record TwoEngines : Type 0 where
  pub from_sound : {m : Machine} {n : PlainMachine} {es : List Event} {rs : List dispatcher.Answered} {qs : List plain.Answered}
      → sound_machine m ≡ true → plain_shown n ≡ forget (shown m) → AllRanged es → Runs m es rs → PlainRuns n es qs → AllAgree rs qs
  pub from_empty : {es : List Event} {rs : List dispatcher.Answered} {qs : List plain.Answered}
      → AllRanged es → Runs machines.empty_machine es rs → PlainRuns empty_machine es qs → AllAgree rs qs

agree_from : {m : Machine} {n : PlainMachine} {es : List Event} {rs : List dispatcher.Answered} {qs : List plain.Answered}
    → sound_machine m ≡ true → plain_shown n ≡ forget (shown m) → AllRanged es → Runs m es rs → PlainRuns n es qs → AllAgree rs qs
agree_from {m} {n} {es} {rs} {qs} h e f x y =
    let p = forget (shown m) in
    let of_sound = subst OfSound (sym e) (of_sound_machine (shown m) (sound_shown m h)) in
    agree_along es rs qs (shown m) p (demand_3.from_sound x f h)
    (subst (AllPlainly es qs) e (plain_engine.from_sound y f of_sound))

pub two_engines : TwoEngines
two_engines = record { from_sound = agree_from; from_empty = λ f x y. agree_from empty_machine_sound (ap forget (sym empty_shown)) f x y }
