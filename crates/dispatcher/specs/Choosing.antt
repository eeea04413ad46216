-- The choice over the stored machine.
use Rattle.std.specs.Prelude.{ℕ, ◌≤◌, ◌≡◌, true}
use Rattle.rules.specs.declared.Place.{Place}
use Rattle.rules.specs.declared.Place.TheVariants.{Behind, On, Stalled}
use Rattle.rules.specs.State.{State}
use Rattle.rules.specs.Choice.{Outcome, choose}
use Rattle.dispatcher.specs.declared.Machine.{Machine}
use Rattle.dispatcher.specs.Promise.{Answered}
use Rattle.tables.specs.declared.ends.Verdict.{Verdict}
use Rattle.tables.specs.declared.ends.Verdict.TheVariants.{Runs, Retries, Waits, Stalls}
use Rattle.dispatcher.specs.Shown.{shown, stored}

-- where a timeslice that may not run is put aside
abbrev pub aside_of : Verdict → ℕ → Place
aside_of Runs end = On end
aside_of Retries end = On end
aside_of Waits end = On end
aside_of Stalls end = Stalled

-- what is released then: "those On the end are released", "Leaving Queue releases a timeslice's followers"
abbrev pub freed_by : Verdict → ℕ → ℕ → Place
freed_by Runs t end = Behind t
freed_by Retries t end = On end
freed_by Waits t end = Behind t
freed_by Stalls t end = Behind t

-- a machine from which a choice is made, after these links
pub record Choosable (m : Machine) (links : ℕ) : Type 0 where
  pub exact : stored m ≡ true
  pub few : links ≤ 128

-- a stored machine that shows this state
pub record Shows (s : State) (m : Machine) : Type 0 where
  pub state : shown m ≡ s
  pub exact : stored m ≡ true

abbrev pub before : Machine → ℕ → Outcome
before m links = record { state = shown m; links = links }

-- an accepted event's answer: what is settled on
pub record Settled (o : Outcome) (r : Answered) : Type 0 where
  pub refusal : r.refusal ≡ 0
  pub links : r.links ≡ o.links
  pub state : shown r.machine ≡ o.state
  pub exact : stored r.machine ≡ true

-- the choice's result
abbrev pub Chosen : Machine → ℕ → Answered → Type 0
Chosen m links r = Settled (choose (before m links)) r
