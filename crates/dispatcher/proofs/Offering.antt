-- The two doors: an unsound machine is refused with 1, a sound one is dispatched.
use mathlib.Core.Path.{◌≡◌, refl}
use mathlib.Core.Bool.{true, false}
use Rattle.rules.specs.declared.Event.{Event}
use Rattle.rules.specs.Events as events
use Rattle.dispatcher.specs.declared.Machine.{Machine}
use Rattle.dispatcher.specs.Shown.{shown, sound_machine}
use Rattle.dispatcher.specs.Promise.{Answered, Answers}

pub unsound_refused : (e : Event) (m : Machine) (r : Answered) → r ≡ record { machine = m; refusal = 1; links = 0 }
    → sound_machine m ≡ false → Answers (events.offer_if (sound_machine m) e (shown m)) m r
unsound_refused e m r is h =
    rw (is, h) (record { refusal = refl; links = refl; state = refl; exact = refl; kept = λ n. refl })

pub sound_dispatched : (e : Event) (m : Machine) (r : Answered) → sound_machine m ≡ true → Answers (events.dispatch e (shown m)) m r
    → Answers (events.offer_if (sound_machine m) e (shown m)) m r
sound_dispatched e m r h a = rw h a
