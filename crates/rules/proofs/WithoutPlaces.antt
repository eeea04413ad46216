-- A sound machine without its places is shaped and stays one, event by event, since the plain machine goes where the sound one goes; and of
-- what is shaped no event is refused with 1.
use Prim.Native.Nat.{ℕ, zero, suc}
use mathlib.Core.Path.{◌≡◌, refl, ap, sym, ◌∙◌}
use mathlib.Core.Bool.{true}
use Rattle.rules.specs.declared.Event.{Event}
use Rattle.rules.specs.State.{State, Plain, forget, empty}
use Rattle.rules.specs.Sound.{shaped, placed, settled, sound}
use Rattle.rules.specs.Refusals.{refusal}
use Rattle.rules.specs.Events.{offer}
use Rattle.rules.specs.Plain.{empty_plain, plain_offer_after, plain_offer}
use Rattle.rules.specs.Lists.{Ranged}
use Rattle.rules.proofs.Basics.Views.{and3}
use Rattle.rules.proofs.Soundness.Places.{sound_of}
use Rattle.rules.proofs.Agreement.{agrees}
use Rattle.rules.proofs.Demands.{accepted_sound, empty_sound}
use Rattle.rules.proofs.Numbers.{event_number_lem, not_one}

-- p is a sound machine without its places
pub record OfSound (p : Plain) : Type 0 where
  pub state : State
  pub sound_state : sound state ≡ true
  pub forgotten : forget state ≡ p

pub of_sound_machine : (s : State) → sound s ≡ true → OfSound (forget s)
of_sound_machine s h = record { state = s; sound_state = h; forgotten = refl }

pub of_empty : OfSound empty_plain
of_empty = of_sound_machine empty empty_sound

pub of_sound_shaped : {p : Plain} → OfSound p → shaped p ≡ true
unfolding sound
of_sound_shaped x =
    let s = x.state in
    sym (ap shaped x.forgotten) ∙ (and3 (shaped (forget s)) (placed s) (settled s) x.sound_state).0

pub of_sound_after : {p : Plain} (e : Event) → Ranged e → OfSound p → OfSound (plain_offer e p).plain
of_sound_after e f x =
    let s = x.state in
    record {
      state = (offer e s).state;
      sound_state = accepted_sound e s f x.sound_state;
      forgotten = (agrees e s (sound_of s x.sound_state) f).plain ∙ ap (λ (q : Plain). (plain_offer e q).plain) x.forgotten;
    }

number_after : (k : ℕ) (e : Event) (p : Plain) → (plain_offer_after k e p).refusal ≡ k
number_after zero e p = refl
number_after (suc k) e p = refl

-- "1 never arises"
pub never_1 : (e : Event) (p : Plain) → (plain_offer e p).refusal ≡ 1 → ⊥
unfolding plain_offer
never_1 e p one = not_one (refusal e p) (event_number_lem e p) (sym (number_after (refusal e p) e p) ∙ one)
