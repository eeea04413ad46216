-- How many threads are Idle: a donation to an Idle one leaves one less, whoever the caller is; and where Idle threads are live, as in every
-- shaped machine and after a donation or a reply in one, there are no more of them than of the live.
use Prim.Native.Nat.{ℕ, zero, suc, ◌≤◌, ◌<◌}
use native.Mathlib.Omega.{arith}
use mathlib.Core.Path.{◌≡◌, refl, sym, ap, ◌∙◌}
use mathlib.Core.List.{List, [], ◌∷◌}
use mathlib.Core.Bool.{Bool, true, false}
use lib.ListN.{set}
use Rattle.rules.specs.declared.Hold.{Hold}
use Rattle.rules.specs.declared.Hold.TheVariants.{Ready, Idle, Calling}
use Rattle.rules.specs.declared.Service.{Service}
use Rattle.rules.specs.declared.Service.TheVariants.{Nobody, Serving, Orphan}
use Rattle.rules.specs.declared.Thread.{Thread}
use Rattle.rules.specs.State.{Plain, thread_at, hold_at, service_at, live_at, live_thread_count, one_more_if}
use Rattle.rules.specs.Holds.{is_idle}
use Rattle.rules.specs.Threads.{with_hold, with_service, set_hold, set_service, donate, free_caller, replied}
use Rattle.rules.proofs.Basics.Views.{Two, yes_true, no_false, two, clash, Same, equal, different, same}
use Rattle.rules.proofs.Soundness.Shapes.{Shape}
use Rattle.rules.proofs.Tables.Writes.{hold_there, freed_relabels}

-- THE COUNT
unfoldable pub idlers : List Thread → ℕ
idlers [] = zero
idlers (t ∷ ts) = one_more_if (is_idle t.hold) (idlers ts)

more : (b : Bool) {m n : ℕ} → (m ≤ n → one_more_if b m ≤ one_more_if b n) × (m < n → one_more_if b m < one_more_if b n)
more true = omega arith
more false = omega arith

-- one that is not Idle now makes no more of them, and one less where it was
fewer : (ts : List Thread) (n : ℕ) (t : Thread) → is_idle t.hold ≡ false
    → (idlers (set ts n t) ≤ idlers ts) × (is_idle (hold_at ts n) ≡ true → idlers (set ts n t) < idlers ts)
unfolding idlers
fewer [] n t e = (omega arith, λ h. clash false h refl)
fewer (x ∷ ts) zero t e = by (two (is_idle x.hold))
  where
    by : Two (is_idle x.hold)
        → (one_more_if (is_idle t.hold) (idlers ts) ≤ one_more_if (is_idle x.hold) (idlers ts))
        × (is_idle x.hold ≡ true → one_more_if (is_idle t.hold) (idlers ts) < one_more_if (is_idle x.hold) (idlers ts))
    by (yes_true h) = rw (e, h) (omega arith)
    by (no_false h) = (rw (e, h) (omega arith), λ g. clash (is_idle x.hold) g h)
fewer (x ∷ ts) (suc n) t e =
    let rest = fewer ts n t e in
    ((more (is_idle x.hold)).0 rest.0, λ h. (more (is_idle x.hold)).1 (rest.1 h))

same_idlers : (ts : List Thread) (n : ℕ) (t : Thread) → t.hold ≡ hold_at ts n → idlers (set ts n t) ≡ idlers ts
unfolding idlers
same_idlers [] n t e = refl
same_idlers (x ∷ ts) zero t e = rw e
same_idlers (x ∷ ts) (suc n) t e = ap (one_more_if (is_idle x.hold)) (same_idlers ts n t e)

hold_fewer : (ts : List Thread) (n : ℕ) (h : Hold) → is_idle h ≡ false
    → (idlers (set_hold n h ts) ≤ idlers ts) × (is_idle (hold_at ts n) ≡ true → idlers (set_hold n h ts) < idlers ts)
unfolding set_hold
hold_fewer ts n h e = fewer ts n (with_hold h (thread_at ts n)) e

service_idlers : (ts : List Thread) (n : ℕ) (v : Service) → idlers (set_service n v ts) ≡ idlers ts
unfolding set_service
service_idlers ts n v = same_idlers ts n (with_service v (thread_at ts n)) refl

-- a donation to an Idle server leaves one less, whoever the caller is
module _ (ts : List Thread) (caller server : ℕ) where
  abbrev called : List Thread
  called = set_hold caller (Calling server) ts

  abbrev answering : List Thread
  answering = set_hold server Ready called

  donate_idlers : idlers (donate caller server ts) ≡ idlers answering
  unfolding donate
  donate_idlers = service_idlers answering server (Serving caller)

  pub donate_fewer : is_idle (hold_at ts server) ≡ true → idlers (donate caller server ts) < idlers ts
  donate_fewer h = by (same server caller)
    where
      by : Same server caller → idlers (donate caller server ts) < idlers ts
      by (equal e _) =
          let idle : is_idle (hold_at ts caller) ≡ true = rw (← e) h in
          omega (arith, donate_idlers, (hold_fewer ts caller (Calling server) refl).1 idle, (hold_fewer called server Ready refl).0)
      by (different o _) =
          let idle : is_idle (hold_at called server) ≡ true = ap is_idle (hold_there ts caller server (Calling server) o) ∙ h in
          omega (arith, donate_idlers, (hold_fewer ts caller (Calling server) refl).0, (hold_fewer called server Ready refl).1 idle)

-- IDLE THREADS ARE LIVE, one by one along the table
abbrev pub IdlesLive : List Thread → Type 0
IdlesLive [] = Unit {0}
IdlesLive (t ∷ ts) = (is_idle t.hold ≡ true → t.live ≡ true) × IdlesLive ts

live_at_lem : (ts : List Thread) → IdlesLive ts → (n : ℕ) → is_idle (hold_at ts n) ≡ true → live_at ts n ≡ true
live_at_lem [] f n h = clash false h refl
live_at_lem (t ∷ ts) f zero h = f.0 h
live_at_lem (t ∷ ts) f (suc n) h = live_at_lem ts f.1 n h

lives_at : (ts : List Thread) → ((n : ℕ) → is_idle (hold_at ts n) ≡ true → live_at ts n ≡ true) → IdlesLive ts
lives_at [] f = tt
lives_at (t ∷ ts) f = (f zero, lives_at ts (λ n. f (suc n)))

-- so there are no more of them
counted : (idle live : Bool) {m n : ℕ} → (idle ≡ true → live ≡ true) → m ≤ n → one_more_if idle m ≤ one_more_if live n
counted true live f few = rw (f refl) (omega arith)
counted false true f few = omega arith
counted false false f few = few

pub few_idle : (ts : List Thread) → IdlesLive ts → idlers ts ≤ live_thread_count ts
unfolding idlers live_thread_count
few_idle [] f = omega arith
few_idle (t ∷ ts) f = counted (is_idle t.hold) t.live f.0 (few_idle ts f.1)

set-lives : (ts : List Thread) (n : ℕ) (t : Thread) → (is_idle t.hold ≡ true → t.live ≡ true) → IdlesLive ts → IdlesLive (set ts n t)
set-lives [] n t g f = tt
set-lives (x ∷ ts) zero t g f = (g, f.1)
set-lives (x ∷ ts) (suc n) t g f = (f.0, set-lives ts n t g f.1)

hold_lives : (ts : List Thread) (n : ℕ) (h : Hold) → (is_idle h ≡ true → live_at ts n ≡ true) → IdlesLive ts → IdlesLive (set_hold n h ts)
unfolding set_hold
hold_lives ts n h g f = set-lives ts n (with_hold h (thread_at ts n)) g f

service_lives : (ts : List Thread) (n : ℕ) (v : Service) → IdlesLive ts → IdlesLive (set_service n v ts)
unfolding set_service
service_lives ts n v f = set-lives ts n (with_service v (thread_at ts n)) (live_at_lem ts f n) f

-- in a shaped machine
dead_not_idle : {p : Plain} → Shape p → (n : ℕ) → is_idle (hold_at p.threads n) ≡ true → Two (live_at p.threads n)
    → live_at p.threads n ≡ true
dead_not_idle x n h (yes_true e) = e
dead_not_idle x n h (no_false e) = clash false (sym (ap (λ (t : Thread). is_idle t.hold) (x.sane.free n e)) ∙ h) refl

pub shape_lives : {p : Plain} → Shape p → IdlesLive p.threads
shape_lives {p} x = lives_at p.threads (λ n h. dead_not_idle x n h (two (live_at p.threads n)))

-- and after a donation or a reply in one
pub donate_lives : (ts : List Thread) (caller server : ℕ) → IdlesLive ts → IdlesLive (donate caller server ts)
unfolding donate
donate_lives ts caller server f =
    let calls = hold_lives ts caller (Calling server) (λ h. clash false h refl) f in
    service_lives _ server (Serving caller) (hold_lives _ server Ready (λ h. clash false h refl) calls)

freed_lives : (ts : List Thread) (v : Service) → IdlesLive ts → IdlesLive (free_caller v ts)
freed_lives ts Nobody f = f
freed_lives ts (Serving caller) f = hold_lives ts caller Ready (λ h. clash false h refl) f
freed_lives ts Orphan f = f

pub replied_lives : (ts : List Thread) (server : ℕ) → live_at ts server ≡ true → IdlesLive ts → IdlesLive (replied server ts)
unfolding replied
replied_lives ts server live f =
    let v = service_at ts server in
    service_lives _ server Nobody
    (hold_lives _ server Idle (λ _. (freed_relabels ts v).live server ∙ live) (freed_lives ts v f))
