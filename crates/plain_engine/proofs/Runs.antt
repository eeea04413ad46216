-- THE THEOREM about the engine's code, known by its contract alone: from a sound machine without its places, each event of a list is
-- answered as the plain machine answers it, and never with 1.
use mathlib.Core.Path.{◌≡◌, sym, ap, subst, ◌∙◌}
use mathlib.Core.List.{List, [], ◌∷◌}
use mathlib.Core.Bool.{Bool, true}
use Rattle.rules.specs.declared.Event.{Event}
use Rattle.rules.specs.State.{Plain}
use Rattle.rules.specs.Sound.{shaped}
use Rattle.rules.specs.Plain.{PlainAnswered, empty_plain, plain_offer, plain_offer_if}
use Rattle.rules.specs.Lists.{Ranged, AllRanged}
use Rattle.rules.proofs.WithoutPlaces.{OfSound, of_empty, of_sound_shaped, of_sound_after, never_1}
use Rattle.plain_engine.specs.declared.PlainMachine.{PlainMachine}
use Rattle.plain_engine.specs.Shown.{plain_shown, empty_machine}
use Rattle.plain_engine.specs.Promise.{Answered, PlainAnswers}

-- what the definitions answer to an event offered to the engine
abbrev pub answer_to : Event → PlainMachine → PlainAnswered
answer_to e m = plain_offer_if (shaped (plain_shown m)) e (plain_shown m)

-- an answer of the code as the definitions have it
abbrev pub answer_of : Answered → PlainAnswered
answer_of r = record { plain = plain_shown r.machine; refusal = r.refusal }

module _ (e : Event) (m : PlainMachine) (r : Answered) where
  -- on a sound machine without its places it is the plain machine's
  pub as_offered : OfSound (plain_shown m) → PlainAnswers (answer_to e m) m r → answer_of r ≡ plain_offer e (plain_shown m)
  as_offered x a =
      (λ i. record { plain = a.plain i; refusal = a.refusal i })
      ∙ ap (λ (b : Bool). plain_offer_if b e (plain_shown m)) (of_sound_shaped x)

  -- and leaves another
  pub answered_of_sound : Ranged e → OfSound (plain_shown m) → PlainAnswers (answer_to e m) m r → OfSound (plain_shown r.machine)
  answered_of_sound f x a =
      subst OfSound (sym (ap (λ (z : PlainAnswered). z.plain) (as_offered x a))) (of_sound_after e f x)

-- each event is given the machine that the last one handed back
pub data PlainRuns : PlainMachine → List Event → List Answered → Type 0 where
  stops : {m : PlainMachine} → PlainRuns m [] []
  steps : {m : PlainMachine} {e : Event} {es : List Event} {r : Answered} {rs : List Answered}
      → PlainAnswers (answer_to e m) m r → PlainRuns r.machine es rs → PlainRuns m (e ∷ es) (r ∷ rs)

-- the engine's answer to an event is that of the plain machine p: a shaped machine, and not 1
pub record Plainly (e : Event) (r : Answered) (p : Plain) : Type 0 where
  pub answer : answer_of r ≡ plain_offer e p
  pub shape : shaped (plain_shown r.machine) ≡ true
  pub not_1 : r.refusal ≡ 1 → ⊥

-- after each event of a list: the plain machine goes on from what the last event left it
abbrev pub AllPlainly : List Event → List Answered → Plain → Type 0
AllPlainly [] [] p = Unit {0}
AllPlainly [] (r ∷ rs) p = ⊥
AllPlainly (e ∷ es) [] p = ⊥
AllPlainly (e ∷ es) (r ∷ rs) p = Plainly e r p × AllPlainly es rs (plain_offer e p).plain

plainly_from : {m : PlainMachine} {es : List Event} {rs : List Answered} → PlainRuns m es rs → AllRanged es → OfSound (plain_shown m)
    → AllPlainly es rs (plain_shown m)
plainly_from stops f x = tt
plainly_from (steps {m = m} {e = e} {es = es} {r = r} {rs = rs} a rest) f x =
    let answer = as_offered e m r x a in
    let x' = answered_of_sound e m r f.0 x a in (
      record {
        answer = answer;
        shape = of_sound_shaped x';
        not_1 = λ one. never_1 e (plain_shown m) (sym (ap (λ (z : PlainAnswered). z.refusal) answer) ∙ one);
      },
      subst (AllPlainly es rs) (ap (λ (z : PlainAnswered). z.plain) answer) (plainly_from rest f.1 x'),
    )

-- from every sound machine without its places, and from `PlainMachine::empty()`
pub record PlainEngine : Type 0 where
  pub from_sound : {m : PlainMachine} {es : List Event} {rs : List Answered} → PlainRuns m es rs → AllRanged es → OfSound (plain_shown m)
      → AllPlainly es rs (plain_shown m)
  pub from_empty : {es : List Event} {rs : List Answered} → PlainRuns empty_machine es rs → AllRanged es → AllPlainly es rs empty_plain

pub plain_engine : PlainEngine
plain_engine = record { from_sound = plainly_from; from_empty = λ x f. plainly_from x f of_empty }
