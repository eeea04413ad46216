-- What the functions hand back.
use Rattle.std.specs.Prelude.{ℕ, ◌+◌, ◌-◌, ◌≤◌, ◌≡◌, List, [], ◌∷◌, ◌++◌, reverse, true, false, cond, length, take, drop, Option, Some, is_some}
use Rattle.rules.specs.declared.Event.{Event}
use Rattle.rules.specs.State.{State}
use Rattle.rules.specs.Lists.{after}
use Rattle.rules.specs.EventFile.{record_of, records_of}
use Rattle.rules.specs.Shorten.{refused_from}
use Rattle.dispatcher.specs.Shown.{shown, sound_machine}
use Rattle.shorten_sheet.specs.Standing.{Stand}
use Rattle.shorten_sheet.specs.declared.ask.Asked.{Asked}
use Rattle.shorten_sheet.specs.declared.reach.Reached.{Reached}
use Rattle.shorten_sheet.specs.declared.rounds.Rest.{Rest}

-- the first event refused with the number, of events whose records begin at `from`
pub record FirstAsked (k : ℕ) (es : List Event) (s : State) (from : ℕ) (r : Asked) : Type 0 where
  pub before : List Event
  pub event : Event
  pub behind : List Event
  pub split : es ≡ before ++ (event ∷ behind)
  pub quiet : refused_from k before s ≡ false
  pub refused : refused_from k (before ++ (event ∷ [])) s ≡ true
  pub begins : r.at ≡ from + length (records_of before)
  pub ends : r.to ≡ r.at + length (record_of event)

pub record Asks (k : ℕ) (es : List Event) (s : State) (from : ℕ) (r : Option Asked) : Type 0 where
  pub found : is_some r ≡ refused_from k es s
  pub first : (a : Asked) → r ≡ Some a → FirstAsked k es s from a

-- the machine before one of the events, and where its record begins: the first only if it is the only one
pub record Reaches (es : List Event) (s : State) (from : ℕ) (r : Reached) : Type 0 where
  pub before : List Event
  pub event : Event
  pub later : List Event
  pub split : es ≡ before ++ (event ∷ later)
  pub begins : r.at ≡ from + length (records_of before)
  pub state : shown r.machine ≡ after before s
  pub sound : sound_machine r.machine ≡ true
  pub alone : r.at ≡ from → later ≡ []

-- the bytes between two places end at a third now, and what stood before them and behind the third stands there still
pub record Moved (before now : List ℕ) (from to at r : ℕ) : Type 0 where
  pub begins : r ≡ at - (to - from)
  pub size : length now ≡ length before
  pub front : take from now ≡ take from before
  pub rear : drop r now ≡ drop from (take to before) ++ drop at before

-- what the tries keep, where s is the machine before the first of the events and none of them is refused with the number
unfoldable pub tried_from : ℕ → State → List Event → List Event → List Event
tried_from k s [] stay = stay
tried_from k s (e ∷ before) stay =
    tried_from k s before (cond (refused_from k stay (after (reverse before) s)) stay (e ∷ stay))

-- the events that stay stand from r on now, and what stood before `from` stands there still
pub record Keeps (before now : List ℕ) (from r : ℕ) (stay : List Event) : Type 0 where
  pub size : length now ≡ length before
  pub front : take from now ≡ take from before
  pub above : from ≤ r
  pub rear : Stand now r stay

-- these events stand between the two places
pub record Rests (before now : List ℕ) (r : Rest) (es : List Event) : Type 0 where
  pub size : length now ≡ length before
  pub within : r.to ≤ length now
  pub stands : Stand (take r.to now) r.from es
