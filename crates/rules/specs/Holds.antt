-- What a thread's record holds, as tests: for the refusals and for soundness.
use Rattle.std.specs.Prelude.{ℕ, List, Bool, true, false, eqb}
use Rattle.rules.specs.declared.Role.{Role}
use Rattle.rules.specs.declared.Role.TheVariants.{Client, Server}
use Rattle.rules.specs.declared.Hold.{Hold}
use Rattle.rules.specs.declared.Hold.TheVariants.{Ready, Idle, Blocked, Calling, Helping}
use Rattle.rules.specs.declared.Service.{Service}
use Rattle.rules.specs.declared.Service.TheVariants.{Nobody, Serving, Orphan}
use Rattle.rules.specs.declared.Thread.{Thread}
use Rattle.rules.specs.State.{thread_at}

abbrev pub is_server : Role → Bool
is_server Client = false
is_server Server = true

abbrev pub is_ready : Hold → Bool
is_ready Ready = true
is_ready Idle = false
is_ready Blocked = false
is_ready (Calling s) = false
is_ready (Helping s) = false

abbrev pub is_idle : Hold → Bool
is_idle Ready = false
is_idle Idle = true
is_idle Blocked = false
is_idle (Calling s) = false
is_idle (Helping s) = false

abbrev pub is_blocked : Hold → Bool
is_blocked Ready = false
is_blocked Idle = false
is_blocked Blocked = true
is_blocked (Calling s) = false
is_blocked (Helping s) = false

-- Calling that server
abbrev pub is_calling : ℕ → Hold → Bool
is_calling n Ready = false
is_calling n Idle = false
is_calling n Blocked = false
is_calling n (Calling s) = eqb s n
is_calling n (Helping s) = false

abbrev pub is_nobody : Service → Bool
is_nobody Nobody = true
is_nobody (Serving n) = false
is_nobody Orphan = false

-- serving that caller
abbrev pub is_serving : ℕ → Service → Bool
is_serving n Nobody = false
is_serving n (Serving m) = eqb m n
is_serving n Orphan = false

abbrev pub server_at : List Thread → ℕ → Bool
server_at ts n = is_server (thread_at ts n).role

-- Calling or Helping that thread
abbrev pub linked_to : ℕ → Hold → Bool
linked_to n Ready = false
linked_to n Idle = false
linked_to n Blocked = false
linked_to n (Calling s) = eqb s n
linked_to n (Helping s) = eqb s n

-- Calling or Helping
abbrev pub linked : Hold → Bool
linked Ready = false
linked Idle = false
linked Blocked = false
linked (Calling s) = true
linked (Helping s) = true
