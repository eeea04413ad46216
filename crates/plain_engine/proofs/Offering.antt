-- The answer, by what became of the event: refused or accepted. What runs is the judging's alone, so leaving it to the judging gives the
-- definition's machine.
use Prim.Native.Nat.{ℕ, zero, suc}
use mathlib.Core.Path.{◌≡◌, refl, ap, ◌∙◌}
use mathlib.Core.Bool.{true}
use native.Mathlib.Omega.{arith}
use Rattle.std.specs.Prelude.{Result, Ok, Err}
use Rattle.rules.specs.declared.Event.{Event}
use Rattle.rules.specs.declared.refusal.Refusal.{Refusal}
use Rattle.rules.specs.Sound.{shaped}
use Rattle.rules.specs.Refusals.{refusal}
use Rattle.rules.specs.RefusalNumbers.{number_of}
use Rattle.rules.specs.Plain.{judge, update, plain_offer_after, plain_offer, plain_offer_if}
use Rattle.rules.proofs.JudgingAnew.{judge_anew}
use Rattle.plain_engine.specs.declared.PlainMachine.{PlainMachine}
use Rattle.plain_engine.specs.Shown.{plain_shown}
use Rattle.plain_engine.specs.Changed.{Takes, Changed}
use Rattle.plain_engine.specs.Promise.{PlainAnswers, answered}

-- no refusal's number is 0
some_number : (f : Refusal) → number_of f ≡ 0 → ⊥
some_number f = grind arith

module _ (e : Event) (m : PlainMachine) where
  -- by the number
  refused_after : (f : Refusal) (k : ℕ) → number_of f ≡ k
      → PlainAnswers (plain_offer_after k e (plain_shown m)) m (answered {A = Unit {0}} m (Err f))
  refused_after f zero is = absurd (some_number f is)
  refused_after f (suc k) is = record { refusal = is; plain = refl; kept = λ _. refl }

  pub refused : (f : Refusal) (r : Result (Unit {0}) Refusal) → r ≡ Err f → shaped (plain_shown m) ≡ true
      → number_of f ≡ refusal e (plain_shown m)
      → PlainAnswers (plain_offer_if (shaped (plain_shown m)) e (plain_shown m)) m (answered m r)
  unfolding plain_offer
  refused f r is h number = rw (is, h) (refused_after f (refusal e (plain_shown m)) number)

  pub accepted : (changed after : PlainMachine) → Takes e m → Changed e m changed
      → plain_shown after ≡ judge (plain_shown changed)
      → PlainAnswers (plain_offer_if (shaped (plain_shown m)) e (plain_shown m)) m (answered {A = Unit {0}} after (Ok tt))
  unfolding plain_offer
  accepted changed after k change judged =
      let machine : plain_shown after ≡ judge (update e (plain_shown m)) =
      judged ∙ ap judge change ∙ judge_anew e (plain_shown m) k.shape k.accepted in
      rw (k.shape, k.accepted) (record { refusal = refl; plain = machine; kept = λ none. absurd (none refl) })
