-- The answer of an event: refused, or accepted and settled.
use Prim.Native.Nat.{ℕ, suc, ◌-◌}
use mathlib.Core.Path.{◌≡◌, refl, sym, ◌∙◌, subst}
use mathlib.Core.Bool.{true}
use Rattle.std.specs.Prelude.{Ok, Err}
use Rattle.rules.specs.declared.Event.{Event}
use Rattle.rules.specs.declared.refusal.Refusal.{Refusal}
use Rattle.rules.specs.declared.refusal.Refusal.TheVariants.{Unsound, AboveLimit, InUse, NotLive, NothingRuns, NotAServer}
use Rattle.rules.specs.declared.refusal.Refusal.TheVariants.{Itself, RunsAClient, NotBlocked, NotLinked, BadCharge, NoQuantum}
use Rattle.rules.specs.declared.refusal.Refusal.TheVariants.{OwnsOne, BadLength, BadVersion, BadRecord, NoRoom, NotSpent}
use Rattle.rules.specs.declared.refusal.Refusal.TheVariants.{NoSuchEvent, BadBlock, NoSuchRegister, NoLine, BadRow, Overlap}
use Rattle.rules.specs.declared.refusal.Refusal.TheVariants.{Gap, NeverRefused, NotAboveHeld}
use Rattle.rules.specs.RefusalNumbers.{number_of}
use Rattle.rules.specs.State.{State, forget}
use Rattle.rules.specs.Refusals.{refusal}
use Rattle.rules.specs.Choice.{choose}
use Rattle.rules.specs.Events.{Midway, midway, settle, dispatch, dispatch_after}
use Rattle.dispatcher.specs.declared.Machine.{Machine}
use Rattle.dispatcher.specs.Shown.{shown, stored, sound_machine}
use Rattle.dispatcher.specs.Choosing.{Settled, Chosen}
use Rattle.dispatcher.specs.Promise.{Answered, Answers, answered}
use Rattle.dispatcher.proofs.Stored.{sound_stored}

-- no refusal has the number 0, which is an accepted event's
pub numbered : (x : Refusal) → number_of x ≡ suc (number_of x - 1)
numbered Unsound = refl
numbered AboveLimit = refl
numbered InUse = refl
numbered NotLive = refl
numbered NothingRuns = refl
numbered NotAServer = refl
numbered Itself = refl
numbered RunsAClient = refl
numbered NotBlocked = refl
numbered NotLinked = refl
numbered BadCharge = refl
numbered NoQuantum = refl
numbered OwnsOne = refl
numbered BadLength = refl
numbered BadVersion = refl
numbered BadRecord = refl
numbered NoRoom = refl
numbered NotSpent = refl
numbered NoSuchEvent = refl
numbered BadBlock = refl
numbered NoSuchRegister = refl
numbered NoLine = refl
numbered BadRow = refl
numbered Overlap = refl
numbered Gap = refl
numbered NeverRefused = refl
numbered NotAboveHeld = refl

module _ (e : Event) (m : Machine) where
  pub refuse : (x : Refusal) → refusal e (forget (shown m)) ≡ number_of x → Answers (dispatch e (shown m)) m (answered m (Err x))
  unfolding dispatch
  refuse x h = rw (h, numbered x) (record { refusal = refl; links = refl; state = refl; exact = refl; kept = λ _. refl })

  pub accept : sound_machine m ≡ true → refusal e (forget (shown m)) ≡ 0 → (w : Midway) → w ≡ midway e (shown m) → (r : Answered)
      → Settled (settle w) r
      → Answers (dispatch e (shown m)) m r
  unfolding dispatch
  accept ok h w is r s =
      let t : Settled (settle (midway e (shown m))) r = subst (λ (x : Midway). Settled (settle x) r) is s in
      subst (λ (k : ℕ). Answers (dispatch_after k e (shown m)) m r) (sym h)
      (record {
        refusal = t.refusal;
        links = t.links;
        state = t.state;
        exact = t.exact
            ∙ sym (sound_stored m ok);
        kept = λ no. absurd (no t.refusal);
      })

-- no choice
pub stands : {m : Machine} {s : State} → shown m ≡ s → stored m ≡ true → Settled (record { state = s; links = 0 }) (answered m (Ok 0))
stands e exact = record { refusal = refl; links = refl; state = e; exact = exact }

-- a choice from the machine that shows this state
pub chosen : (m : Machine) (links : ℕ) (s : State) (r : Answered) → shown m ≡ s → Chosen m links r
    → Settled (choose (record { state = s; links = links })) r
chosen m links s r e c = subst (λ (u : State). Settled (choose (record { state = u; links = links })) r) e c

-- what a machine settles on, said of the state that it shows
pub said_of : (f : State → Midway) (m : Machine) (s : State) (r : Answered) → shown m ≡ s → Settled (settle (f (shown m))) r
    → Settled (settle (f s)) r
said_of f m s r e c = subst (λ (u : State). Settled (settle (f u)) r) e c
