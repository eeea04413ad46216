-- The threads of a chain after one of them.
use Rattle.std.specs.Prelude.{ℕ, zero, suc, List, []}
use Rattle.rules.specs.declared.Hold.{Hold}
use Rattle.rules.specs.declared.Hold.TheVariants.{Ready, Idle, Blocked, Calling, Helping}
use Rattle.rules.specs.declared.Thread.{Thread}
use Rattle.rules.specs.State.{hold_at}
use Rattle.rules.specs.Reason.{over_link, threads_from}

-- the thread that a link leads to; 0 without a link
abbrev pub linked_thread : Hold → ℕ
linked_thread Ready = 0
linked_thread Idle = 0
linked_thread Blocked = 0
linked_thread (Calling server) = server
linked_thread (Helping server) = server

-- over so many links
unfoldable pub later : ℕ → List Thread → ℕ → List ℕ
later zero ts n = []
later (suc left) ts n = over_link (threads_from left ts) (hold_at ts n)
