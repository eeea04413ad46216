-- Document 02, [9]: operations on the bridge card, worked out by hand, as one table that every row meets. Proved by computation.
use Prim.Native.Nat.{ℕ}
use mathlib.Core.Path.{◌≡◌, refl}
use mathlib.Core.List.{List, [], ◌∷◌}
use Rattle.rules.specs.declared.Role.TheVariants.{Client, Server}
use Rattle.rules.specs.declared.Running.{Running}
use Rattle.rules.specs.declared.Running.TheVariants.{Nothing, Runs}
use Rattle.rules.specs.declared.Event.{Event}
use Rattle.rules.specs.declared.Event.TheVariants.{Create, Give, Call, Block}
use Rattle.rules.specs.State.{State, empty}
use Rattle.rules.specs.Lists.{after}
use Rattle.rules.proofs.Computing.{computing}
use Rattle.bits.specs.Bits.{bit, number_of}
use Rattle.bridge_card.specs.Card.{read_refusal, write_refusal, raise_refusal, Reading, read, Changed, write, raise, lowest_from}
use Rattle.bridge_card.specs.Card.{line_to_take, line_cleared, Polled, poll_if, poll}
use Rattle.bridge_card.specs.Meaning.{Operation, Read, Write, Raise, Poll}
use Rattle.marked.proofs.MarkedSequences.{All, ◌also◌}

-- what an operation says: its refusal number, the byte read, the links followed, who runs after it, and the block after it
pub record Said : Type 0 where
  pub refusal : ℕ
  pub byte : ℕ
  pub links : ℕ
  pub running : Running
  pub block : List ℕ

pub record One : Type 0 where
  pub said : Said
  pub state : State

abbrev pub one_read : Reading → List ℕ → State → One
one_read r b s = record { said = record { refusal = r.refusal; byte = r.byte; links = 0; running = s.running; block = b }; state = s }

abbrev pub one_change : Changed → State → One
one_change c s = record { said = record { refusal = c.refusal; byte = 0; links = 0; running = s.running; block = c.block }; state = s }

abbrev pub one_poll : Polled → One
one_poll p =
    record {
      said =
          record {
            refusal = p.answer.refusal;
            byte = 0;
            links = p.answer.links;
            running = p.answer.state.running;
            block = p.block;
          };
      state = p.answer.state;
    }

abbrev pub one : Operation → List ℕ → State → One
one (Read register) b s = one_read (read b register) b s
one (Write register byte) b s = one_change (write b register byte) s
one (Raise line) b s = one_change (raise b line) s
one Poll b s = one_poll (poll b s)

unfoldable pub sayings : List Operation → List ℕ → State → List Said
sayings [] b s = []
sayings (o ∷ rest) b s = let x = one o b s in x.said ∷ sayings rest x.said.block x.state

-- a list of events, and behind it operations on a block
pub record Operated : Type 0 where
  pub events : List Event
  pub block : List ℕ
  pub operations : List Operation
  pub says : List Said

-- the statement
abbrev pub Meets : Operated → Type 0
Meets o = sayings o.operations o.block (after o.events empty) ≡ o.says

-- control, pending and enabled lines, byte 3, and the threads of lines 0, 1 and 2; the other lines have thread 9
abbrev card : ℕ → ℕ → ℕ → ℕ → ℕ → ℕ → ℕ → List ℕ
card control pending enabled third a b c = control ∷ pending ∷ enabled ∷ third ∷ a ∷ b ∷ c ∷ 9 ∷ 9 ∷ 9 ∷ 9 ∷ 9 ∷ []

abbrev said : ℕ → ℕ → ℕ → Running → List ℕ → Said
said refusal byte links running block = record { refusal = refusal; byte = byte; links = links; running = running; block = block }

-- clients 0 and 1 have a timeslice each, and are Blocked
abbrev sleepers : List Event
sleepers =
    Create 0 Client ∷ Create 1 Client ∷ Give 0 0 20 5 ∷ Give 1 1 10 5 ∷ Block ∷ Block ∷ []

-- client 0 has called server 1, which is Blocked
abbrev served : List Event
served = Create 0 Client ∷ Create 1 Server ∷ Give 0 0 20 5 ∷ Call 1 ∷ Block ∷ []

-- two lines with threads that can be woken: the lowest first; then none is left. Client 0 stands above
abbrev lowest_first : Operated
lowest_first = record {
  events = sleepers;
  block = card 1 0 3 0 1 0 9;
  operations = Raise 1 ∷ Raise 0 ∷ Poll ∷ Poll ∷ Poll ∷ [];
  says =
      said 0 0 0 Nothing (card 1 2 3 0 1 0 9)
      ∷ said 0 0 0 Nothing (card 1 3 3 0 1 0 9)
      ∷ said 0 0 0 (Runs 1 1 0) (card 1 2 3 0 1 0 9)
      ∷ said 0 0 0 (Runs 0 0 0) (card 1 0 3 0 1 0 9)
      ∷ said 22 0 0 (Runs 0 0 0) (card 1 0 3 0 1 0 9)
      ∷ [];
}

-- a poll that follows a link: the server ends the client's chain
abbrev follows : Operated
follows = record {
  events = served;
  block = card 1 4 4 0 9 9 1;
  operations = Poll ∷ [];
  says = said 0 0 1 (Runs 1 0 1) (card 1 0 4 0 9 9 1) ∷ [];
}

-- a refused wake: the block stays, and line 1, whose thread could be woken, is held back until line 0 is cleared by a write
abbrev held : Operated
held = record {
  events = sleepers;
  block = card 1 3 255 7 9 0 9;
  operations = Poll ∷ Poll ∷ Write 1 1 ∷ Poll ∷ [];
  says =
      said 4 0 0 Nothing (card 1 3 255 7 9 0 9)
      ∷ said 4 0 0 Nothing (card 1 3 255 7 9 0 9)
      ∷ said 0 0 0 Nothing (card 1 2 255 7 9 0 9)
      ∷ said 0 0 0 (Runs 0 0 0) (card 1 0 255 7 9 0 9)
      ∷ [];
}

-- threads above 127 and not Blocked
abbrev refusals : Operated
refusals = record {
  events = sleepers;
  block = card 1 1 1 0 128 0 0;
  operations = Poll ∷ Write 4 0 ∷ Poll ∷ Raise 0 ∷ Poll ∷ [];
  says =
      said 2 0 0 Nothing (card 1 1 1 0 128 0 0)
      ∷ said 0 0 0 Nothing (card 1 1 1 0 0 0 0)
      ∷ said 0 0 0 (Runs 0 0 0) (card 1 0 1 0 0 0 0)
      ∷ said 0 0 0 (Runs 0 0 0) (card 1 1 1 0 0 0 0)
      ∷ said 9 0 0 (Runs 0 0 0) (card 1 1 1 0 0 0 0)
      ∷ [];
}

-- off, though control's other bits are set; on; a disabled line is passed over
abbrev switched : Operated
switched = record {
  events = sleepers;
  block = card 254 3 2 0 0 1 9;
  operations = Poll ∷ Write 0 255 ∷ Read 0 ∷ Poll ∷ Poll ∷ [];
  says =
      said 22 0 0 Nothing (card 254 3 2 0 0 1 9)
      ∷ said 0 0 0 Nothing (card 255 3 2 0 0 1 9)
      ∷ said 0 255 0 Nothing (card 255 3 2 0 0 1 9)
      ∷ said 0 0 0 (Runs 1 1 0) (card 255 1 2 0 0 1 9)
      ∷ said 22 0 0 (Runs 1 1 0) (card 255 1 2 0 0 1 9)
      ∷ [];
}

-- writes to byte 1 clear the bits written 1; byte 3 reads 0 and is not written; registers and lines that are not there
abbrev registers : Operated
registers = record {
  events = [];
  block = card 0 170 0 77 0 0 0;
  operations = Write 1 0 ∷ Write 1 15 ∷ Read 1 ∷ Read 3 ∷ Write 3 5 ∷ Read 12 ∷ Write 12 0 ∷ Raise 8 ∷ Raise 7 ∷ Write 2 255 ∷ Poll ∷ [];
  says =
      said 0 0 0 Nothing (card 0 170 0 77 0 0 0)
      ∷ said 0 0 0 Nothing (card 0 160 0 77 0 0 0)
      ∷ said 0 160 0 Nothing (card 0 160 0 77 0 0 0)
      ∷ said 0 0 0 Nothing (card 0 160 0 77 0 0 0)
      ∷ said 21 0 0 Nothing (card 0 160 0 77 0 0 0)
      ∷ said 21 0 0 Nothing (card 0 160 0 77 0 0 0)
      ∷ said 21 0 0 Nothing (card 0 160 0 77 0 0 0)
      ∷ said 21 0 0 Nothing (card 0 160 0 77 0 0 0)
      ∷ said 0 0 0 Nothing (card 0 160 0 77 0 0 0)
      ∷ said 0 0 0 Nothing (card 0 160 255 77 0 0 0)
      ∷ said 22 0 0 Nothing (card 0 160 255 77 0 0 0)
      ∷ [];
}

-- no block of 12 bytes: before every other refusal
abbrev no_block : Operated
no_block = record {
  events = [];
  block = 1 ∷ 255 ∷ 255 ∷ [];
  operations = Read 0 ∷ Read 12 ∷ Write 0 1 ∷ Write 3 1 ∷ Raise 0 ∷ Raise 8 ∷ Poll ∷ [];
  says =
      let same = said 20 0 0 Nothing (1 ∷ 255 ∷ 255 ∷ []) in
      same ∷ same ∷ same ∷ same ∷ same ∷ same ∷ same ∷ [];
}

unfoldable pub rows : List Operated
rows = lowest_first ∷ follows ∷ held ∷ refusals ∷ switched ∷ registers ∷ no_block ∷ []

pub marked : All Meets rows
unfolding computing rows sayings bit number_of read_refusal write_refusal raise_refusal read write raise lowest_from line_to_take
    line_cleared poll_if
marked = refl also refl also refl also refl also refl also refl also refl also tt
