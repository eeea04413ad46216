-- Document 02, [12]: orders given and taken, worked out by hand, as one table that every row meets. Proved by computation.
use Prim.Native.Nat.{ℕ}
use mathlib.Core.Path.{◌≡◌, refl}
use mathlib.Core.List.{List, [], ◌∷◌}
use Rattle.rules.specs.declared.Role.TheVariants.{Client, Server}
use Rattle.rules.specs.declared.Running.{Running}
use Rattle.rules.specs.declared.Running.TheVariants.{Nothing, Runs}
use Rattle.rules.specs.declared.Event.TheVariants.{Create, Give, Call, Block}
use Rattle.rules.specs.State.{State, empty, with_running}
use Rattle.rules.specs.Events.{Answered, offer}
use Rattle.rules.specs.Lists.{after}
use Rattle.rules.proofs.Computing.{computing}
use Rattle.abort_orders.specs.declared.Store.{Store}
use Rattle.abort_orders.specs.declared.HeldAbort.{HeldAbort}
use Rattle.abort_orders.specs.Orders.{empty_store, order_refusal, Given, give_abort, give_withdraw, comes_before, insert, aborts_from}
use Rattle.abort_orders.specs.Orders.{held_aborts, applied, Taken, take_if, take_orders}
use Rattle.abort_orders.specs.Meaning.{Step, Happens, OrdersAbort, OrdersWithdraw, TakesOrders}
use Rattle.marked.proofs.MarkedSequences.{All, ◌also◌}

-- what a step says: its refusal number, the links of an event or the count of a take, who runs after it, and the aborts held after it
pub record Said : Type 0 where
  pub refusal : ℕ
  pub last : ℕ
  pub running : Running
  pub held : List HeldAbort

pub record One : Type 0 where
  pub said : Said
  pub store : Store
  pub state : State

abbrev pub one_of : ℕ → ℕ → Store → State → One
one_of refusal last store s =
    record {
      said = record { refusal = refusal; last = last; running = s.running; held = held_aborts store };
      store = store;
      state = s;
    }

abbrev pub one_event : Answered → Store → One
one_event a store = one_of a.refusal a.links store a.state

abbrev pub one_given : Given → State → One
one_given g s = one_of g.refusal 0 g.store s

abbrev pub one_taken : Taken → One
one_taken t = one_of t.refusal t.count t.store t.state

abbrev pub one : Step → Store → State → One
one (Happens e) store s = one_event (offer e s) store
one (OrdersAbort n number) store s = one_given (give_abort store n number) s
one (OrdersWithdraw n number) store s = one_given (give_withdraw store n number) s
one TakesOrders store s = one_taken (take_orders store s)

unfoldable pub sayings : List Step → Store → State → List Said
sayings [] store s = []
sayings (step ∷ rest) store s = let x = one step store s in x.said ∷ sayings rest x.store x.state

-- a machine, and steps from it on; no order is held at first
pub record Ordered : Type 0 where
  pub machine : State
  pub steps : List Step
  pub says : List Said

-- the statement
abbrev pub Meets : Ordered → Type 0
Meets o = sayings o.steps empty_store o.machine ≡ o.says

abbrev said : ℕ → ℕ → Running → List HeldAbort → Said
said refusal last running held = record { refusal = refusal; last = last; running = running; held = held }

-- the abort of a thread, with its order number
abbrev abort_of : ℕ → ℕ → HeldAbort
abort_of n number = record { thread = n; number = number }

-- clients 1 and 3 wait for server 10, client 2 for server 11, and both servers are Blocked
abbrev waiting : State
waiting =
    after
    (Create 1 Client
    ∷ Create 2 Client
    ∷ Create 3 Client
    ∷ Create 10 Server
    ∷ Create 11 Server
    ∷ Give 1 1 10 100
    ∷ Call 10
    ∷ Block
    ∷ Give 3 3 20 100
    ∷ Call 10
    ∷ Give 2 2 30 100
    ∷ Call 11
    ∷ Block
    ∷ [])
    empty

-- 5 before 9, so thread 2 before 1: timeslice 3 is in Queue when 2 blocks, and is walked then, one link
abbrev smallest_first : Ordered
smallest_first = record {
  machine = waiting;
  steps = OrdersAbort 1 9 ∷ OrdersAbort 2 5 ∷ TakesOrders ∷ Happens Block ∷ [];
  says =
      said 0 0 Nothing (abort_of 1 9 ∷ [])
      ∷ said 0 0 Nothing (abort_of 2 5 ∷ abort_of 1 9 ∷ [])
      ∷ said 0 0 (Runs 2 2 0) []
      ∷ said 0 1 (Runs 1 1 0) []
      ∷ [];
}

-- equal numbers, so thread 1 before 2: timeslice 3 was walked in that abort, and there is no link when 2 blocks
abbrev equal_numbers : Ordered
equal_numbers = record {
  machine = waiting;
  steps = OrdersAbort 2 5 ∷ OrdersAbort 1 5 ∷ TakesOrders ∷ Happens Block ∷ [];
  says =
      said 0 0 Nothing (abort_of 2 5 ∷ [])
      ∷ said 0 0 Nothing (abort_of 1 5 ∷ abort_of 2 5 ∷ [])
      ∷ said 0 0 (Runs 2 2 0) []
      ∷ said 0 0 (Runs 1 1 0) []
      ∷ [];
}

-- threads above 127; numbers not above the one held; a withdraw supersedes an abort, and is held where nothing was; after a take every
-- number is taken again, and a withdraw is cleared too
abbrev superseded : Ordered
superseded = record {
  machine = waiting;
  steps =
      OrdersAbort 128 1
      ∷ OrdersAbort 1 4294967294
      ∷ OrdersAbort 1 4294967294
      ∷ OrdersWithdraw 1 7
      ∷ OrdersWithdraw 1 4294967295
      ∷ OrdersWithdraw 3 8
      ∷ OrdersAbort 3 8
      ∷ OrdersAbort 3 9
      ∷ TakesOrders
      ∷ OrdersAbort 1 0
      ∷ OrdersWithdraw 3 0
      ∷ [];
  says =
      said 2 0 Nothing []
      ∷ said 0 0 Nothing (abort_of 1 4294967294 ∷ [])
      ∷ said 27 0 Nothing (abort_of 1 4294967294 ∷ [])
      ∷ said 27 0 Nothing (abort_of 1 4294967294 ∷ [])
      ∷ said 0 0 Nothing []
      ∷ said 0 0 Nothing []
      ∷ said 27 0 Nothing []
      ∷ said 0 0 Nothing (abort_of 3 9 ∷ [])
      ∷ said 0 0 (Runs 3 3 0) []
      ∷ said 0 0 (Runs 3 3 0) (abort_of 1 0 ∷ [])
      ∷ said 0 0 (Runs 3 3 0) (abort_of 1 0 ∷ [])
      ∷ [];
}

-- no thread 9 (4), a Blocked one (10), and one that leaves its call: two are counted; then nothing is held
abbrev two_counted : Ordered
two_counted = record {
  machine = waiting;
  steps = OrdersAbort 9 3 ∷ OrdersAbort 10 2 ∷ OrdersAbort 2 1 ∷ TakesOrders ∷ TakesOrders ∷ [];
  says =
      said 0 0 Nothing (abort_of 9 3 ∷ [])
      ∷ said 0 0 Nothing (abort_of 10 2 ∷ abort_of 9 3 ∷ [])
      ∷ said 0 0 Nothing (abort_of 2 1 ∷ abort_of 10 2 ∷ abort_of 9 3 ∷ [])
      ∷ said 0 2 (Runs 2 2 0) []
      ∷ said 0 0 (Runs 2 2 0) []
      ∷ [];
}

-- a machine that runs a thread it does not have: an order is taken all the same, and a take is refused with 1 and keeps it
abbrev unsound_kept : Ordered
unsound_kept = record {
  machine = with_running (Runs 1 1 0) empty;
  steps = OrdersAbort 1 3 ∷ TakesOrders ∷ [];
  says = said 0 0 (Runs 1 1 0) (abort_of 1 3 ∷ []) ∷ said 1 0 (Runs 1 1 0) (abort_of 1 3 ∷ []) ∷ [];
}

unfoldable pub rows : List Ordered
rows = smallest_first ∷ equal_numbers ∷ superseded ∷ two_counted ∷ unsound_kept ∷ []

pub marked : All Meets rows
unfolding computing rows sayings order_refusal give_abort give_withdraw comes_before insert aborts_from applied take_if
marked = refl also refl also refl also refl also refl also tt
