-- The answer to a wake, as a poll offers it: a refusal hands back the machine as given, and an accepted wake leaves a sound machine sound.
use Prim.Native.Nat.{ℕ, zero, suc}
use native.Mathlib.Omega.{arith}
use mathlib.Core.Path.{◌≡◌, refl, sym, ap, ◌∙◌}
use mathlib.Core.Bool.{Bool, true, false}
use Rattle.rules.specs.declared.Event.{Event}
use Rattle.rules.specs.declared.Event.TheVariants.{Wake}
use Rattle.rules.specs.State.{State, forget}
use Rattle.rules.specs.Sound.{sound}
use Rattle.rules.specs.Refusals.{refusal}
use Rattle.rules.specs.Events.{Answered, refused, dispatch_after, dispatch, offer_if, offer}
use Rattle.rules.specs.Lists.{Ranged}
use Rattle.rules.proofs.Files.Records.{other_kind}
use Rattle.rules.proofs.Demands.{accepted_sound}

-- refused, on a machine sound or not
dispatched : (k number : ℕ) (e : Event) (s : State) → (dispatch_after k e s).refusal ≡ suc number
    → dispatch_after k e s ≡ refused (suc number) s
dispatched zero number e s is = absurd (omega arith)
dispatched (suc k) number e s is = ap (λ (n : ℕ). refused n s) is

pub as_given : (is_sound : Bool) (e : Event) (s : State) (number : ℕ) → (offer_if is_sound e s).refusal ≡ suc number
    → offer_if is_sound e s ≡ refused (suc number) s
unfolding dispatch
as_given true e s number is = dispatched (refusal e (forget s)) number e s is
as_given false e s number is = ap (λ (n : ℕ). refused n s) is

-- accepted, on a sound machine
pub wakes_sound : (is_sound : Bool) (e : Event) (s : State) → (offer_if is_sound e s).refusal ≡ 0 → is_sound ≡ true
wakes_sound true e s is = refl
wakes_sound false e s is = absurd (omega arith)

pub wake_ranged : (n : ℕ) → Ranged (Wake n)
wake_ranged n = other_kind (Wake n) (λ z. omega arith) (λ z. omega arith)

-- offered as in a list
pub as_offered : (is_sound : Bool) (e : Event) (s : State) → is_sound ≡ sound s → offer_if is_sound e s ≡ offer e s
unfolding offer
as_offered is_sound e s is = ap (λ (q : Bool). offer_if q e s) is

-- an accepted wake is so already if a machine held for sound is sound: no other accepts one
module _ (is_sound : Bool) (n : ℕ) (s : State) (if-held : is_sound ≡ true → sound s ≡ true)
    (none-given : (offer_if is_sound (Wake n) s).refusal ≡ 0) where
  held : is_sound ≡ true
  held = wakes_sound is_sound (Wake n) s none-given

  pub accepted_offered : offer_if is_sound (Wake n) s ≡ offer (Wake n) s
  accepted_offered = as_offered is_sound (Wake n) s (held ∙ sym (if-held held))

  pub stays_sound : sound (offer_if is_sound (Wake n) s).state ≡ true
  stays_sound =
      ap (λ (a : Answered). sound a.state) accepted_offered ∙ accepted_sound (Wake n) s (wake_ranged n) (if-held held)
