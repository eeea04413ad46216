-- Lists of events, run on either machine: each event gets the machine that the last one handed back.
use Rattle.std.specs.Prelude.{ℕ, ◌≤◌, ◌+◌, ◌≡◌, List, [], ◌∷◌, map}
use Rattle.rules.specs.declared.Thread.{Thread}
use Rattle.rules.specs.declared.Running.{Running}
use Rattle.rules.specs.declared.Event.{Event}
use Rattle.rules.specs.declared.Event.TheVariants.{Give, Rank}
use Rattle.rules.specs.State.{State, Plain}
use Rattle.rules.specs.Walk.{Link, link_of}
use Rattle.rules.specs.Events.{Answered, offer}
use Rattle.rules.specs.Plain.{PlainAnswered, plain_offer}

-- the answers, each with the machine after its event
unfoldable pub run : List Event → State → List Answered
run [] s = []
run (e ∷ es) s = let a = offer e s in a ∷ run es a.state

-- the machine after the whole list
unfoldable pub after : List Event → State → State
after [] s = s
after (e ∷ es) s = after es (offer e s).state

-- the refusal numbers
abbrev pub numbers_of : List Answered → List ℕ
numbers_of l = map (λ a. a.refusal) l

-- the links followed in all
unfoldable pub links_in_all : List Answered → ℕ
links_in_all [] = 0
links_in_all (a ∷ rest) = a.links + links_in_all rest

unfoldable pub plain_run : List Event → Plain → List PlainAnswered
plain_run [] p = []
plain_run (e ∷ es) p = let a = plain_offer e p in a ∷ plain_run es a.plain

-- what demand 3 compares after each event: the refusal number; the running thread, the paying timeslice and the donation count; all links
pub record Seen : Type 0 where
  pub refusal : ℕ
  pub running : Running
  pub links : List Link

abbrev pub links_of : List Thread → List Link
links_of ts = map (λ t. link_of t.hold) ts

abbrev pub seen : Answered → Seen
seen a = record { refusal = a.refusal; running = a.state.running; links = links_of a.state.threads }

abbrev pub plain_seen : PlainAnswered → Seen
plain_seen a = record { refusal = a.refusal; running = a.plain.running; links = links_of a.plain.threads }

-- "a priority 0 to 255 .., a quantum 1 to 65,535": a give and a rank hold no more. Their operands cannot, so an event of the code and an
-- event read from bytes never do; of the other events nothing is asked.
pub record Ranged (e : Event) : Type 0 where
  pub give : (t n priority quantum : ℕ) → e ≡ Give t n priority quantum → (priority ≤ 255) × (quantum ≤ 65535)
  pub rank : (t priority : ℕ) → e ≡ Rank t priority → priority ≤ 255

abbrev pub AllRanged : List Event → Type 0
AllRanged [] = Unit {0}
AllRanged (e ∷ es) = Ranged e × AllRanged es
