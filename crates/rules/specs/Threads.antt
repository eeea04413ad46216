-- Document 01, "Events" and "Release and choice", and document 02, [3]: what they do to the threads, in either machine.
use Rattle.std.specs.Prelude.{ℕ, List, map, true, cond, set}
use Rattle.rules.specs.declared.Role.{Role}
use Rattle.rules.specs.declared.Role.TheVariants.{Client, Server}
use Rattle.rules.specs.declared.Hold.{Hold}
use Rattle.rules.specs.declared.Hold.TheVariants.{Ready, Idle, Blocked, Calling, Helping}
use Rattle.rules.specs.declared.Service.{Service}
use Rattle.rules.specs.declared.Service.TheVariants.{Nobody, Serving, Orphan}
use Rattle.rules.specs.declared.Thread.{Thread}
use Rattle.rules.specs.State.{free_thread, thread_at, hold_at, service_at}
use Rattle.rules.specs.Holds.{linked_to}

abbrev pub with_hold : Hold → Thread → Thread
with_hold h t = record { live = t.live; role = t.role; hold = h; service = t.service }

abbrev pub with_service : Service → Thread → Thread
with_service v t = record { live = t.live; role = t.role; hold = t.hold; service = v }

unfoldable pub set_hold : ℕ → Hold → List Thread → List Thread
set_hold n h ts = set ts n (with_hold h (thread_at ts n))

unfoldable pub set_service : ℕ → Service → List Thread → List Thread
set_service n v ts = set ts n (with_service v (thread_at ts n))

-- Create: "a client starts Ready, a server Idle, service none"
abbrev pub starts_as : Role → Hold
starts_as Client = Ready
starts_as Server = Idle

unfoldable pub created : ℕ → Role → List Thread → List Thread
created n r ts = set ts n (record { live = true; role = r; hold = starts_as r; service = Nobody })

-- Donation: "The caller is Calling, the server Ready and serving it". The last helper's retry is the same.
unfoldable pub donate : ℕ → ℕ → List Thread → List Thread
donate caller server ts = set_service server (Serving caller) (set_hold server Ready (set_hold caller (Calling server) ts))

-- Reply: "the caller served (if any) becomes Ready, the server Idle with service none"
abbrev pub free_caller : Service → List Thread → List Thread
free_caller Nobody ts = ts
free_caller (Serving caller) ts = set_hold caller Ready ts
free_caller Orphan ts = ts

unfoldable pub replied : ℕ → List Thread → List Thread
replied server ts = set_service server Nobody (set_hold server Idle (free_caller (service_at ts server) ts))

-- Abort: "It becomes Ready; if it was Calling, its server's service becomes Orphan."
abbrev pub orphan_server : Hold → List Thread → List Thread
orphan_server Ready ts = ts
orphan_server Idle ts = ts
orphan_server Blocked ts = ts
orphan_server (Calling server) ts = set_service server Orphan ts
orphan_server (Helping server) ts = ts

unfoldable pub aborted : ℕ → List Thread → List Thread
aborted n ts = set_hold n Ready (orphan_server (hold_at ts n) ts)

-- Remove: "Threads Calling or Helping it become Ready."
abbrev pub cut_from : ℕ → Thread → Thread
cut_from n t = cond (linked_to n t.hold) (with_hold Ready t) t

unfoldable pub links_cut : ℕ → List Thread → List Thread
links_cut n ts = map (cut_from n) ts

-- Remove: "A server it was Calling becomes Orphan." "The thread's record is freed"
unfoldable pub removed : ℕ → List Thread → List Thread
removed n ts = set (orphan_server (hold_at ts n) (links_cut n ts)) n free_thread
