-- The stored machine after an event's changes shows the state after them, and is stored.
use Prim.Native.Nat.{ℕ, suc, ◌+◌, ◌≤◌, ◌<◌}
use mathlib.Core.Path.{◌≡◌, refl, sym, ◌∙◌, ap}
use mathlib.Core.List.{List}
use mathlib.Core.Bool.{true, false}
use native.Mathlib.Omega.{arith}
use native.Mathlib.Numerals.{add-one}
use lib.ListN.{length}
use Rattle.rules.specs.declared.Role.{Role}
use Rattle.rules.specs.declared.Hold.{Hold}
use Rattle.rules.specs.declared.Hold.TheVariants.{Ready, Idle, Blocked, Calling, Helping}
use Rattle.rules.specs.Sound.{is_idle}
use Rattle.rules.specs.Events.{call_donates, call_helps, call_at}
use Rattle.rules.specs.declared.Thread.{Thread}
use Rattle.rules.specs.declared.Chain.{Chain}
use Rattle.rules.specs.declared.Running.{Running}
use Rattle.rules.specs.State.{State, thread_at, live_thread_count, with_threads, with_running}
use Rattle.rules.specs.Walk.{walk}
use Rattle.rules.specs.Threads.{created}
use Rattle.dispatcher.specs.declared.Machine.{Machine}
use Rattle.dispatcher.specs.Shown.{shown, stored}
use Rattle.dispatcher.specs.Choosing.{Choosable}
use Rattle.rules.proofs.Bounds.{live_most}
use Rattle.rules.proofs.Links.Chains.{walk_links}
use Rattle.rules.proofs.Tables.Writes.{created_made}
use Rattle.dispatcher.proofs.Stored.{live_is, stored_with}

-- other threads, with the same L
abbrev pub threads_to : List Thread → Machine → Machine
threads_to ths m =
    record {
      threads = ths;
      timeslices = m.timeslices;
      before = m.before;
      after = m.after;
      live_threads = m.live_threads;
      live_timeslices =
          m.live_timeslices;
      running = m.running;
    }

pub threads_shown : (m : Machine) (ths ths' : List Thread) → ths ≡ ths' → shown (threads_to ths m) ≡ with_threads ths' (shown m)
threads_shown m ths ths' e = ap (λ (l : List Thread). with_threads l (shown m)) e

pub threads_exact : (m : Machine) (ths ths' : List Thread) → stored m ≡ true → ths ≡ ths'
    → live_thread_count ths' ≡ live_thread_count m.threads
    → stored (threads_to ths m) ≡ true
threads_exact m ths ths' ok e l = stored_with m ok (threads_to ths m) refl refl (live_is m ok ∙ sym l ∙ sym (ap live_thread_count e))

-- a walk over the threads of a machine follows few links
pub few_links : (ts : List Thread) (n : ℕ) (c : Chain) → length ts ≡ 128 → c ≡ walk ts n → c.links ≤ 128
few_links ts n c full is =
    let most : c.links ≤ live_thread_count ts = rw is (walk_links ts n) in
    omega (arith, most, live_most ts)

-- a new thread
module _ (m : Machine) (n : ℕ) (r : Role) (ths : List Thread) (new : ths ≡ created n r m.threads) where
  abbrev creation : Machine
  creation =
      record {
        threads = ths;
        timeslices = m.timeslices;
        before = m.before;
        after = m.after;
        live_threads = m.live_threads + 1;
        live_timeslices = m.live_timeslices;
        running = m.running;
      }

  pub creation_shown : shown creation ≡ with_threads (created n r m.threads) (shown m)
  creation_shown = ap (λ (l : List Thread). with_threads l (shown m)) new

  pub creation_exact : stored m ≡ true → n < length m.threads → (thread_at m.threads n).live ≡ false → stored creation ≡ true
  creation_exact ok short free =
      stored_with m ok creation refl refl
      (add-one m.live_threads ∙ ap suc (live_is m ok) ∙ sym (created_made m.threads n r short free).count
      ∙ sym (ap live_thread_count new))

pub choosable : (m : Machine) → stored m ≡ true → Choosable m 0
choosable m ok = record { exact = ok; few = omega arith }

-- the server runs, after a donation to it
abbrev pub running_to : List Thread → Running → Machine → Machine
running_to ths r m =
    record {
      threads = ths;
      timeslices = m.timeslices;
      before = m.before;
      after = m.after;
      live_threads = m.live_threads;
      live_timeslices =
          m.live_timeslices;
      running = r;
    }

pub running_shown : (m : Machine) (ths ths' : List Thread) (r : Running) → ths ≡ ths'
    → shown (running_to ths r m) ≡ with_running r (with_threads ths' (shown m))
running_shown m ths ths' r e = ap (λ (l : List Thread). with_running r (with_threads l (shown m))) e

pub running_exact : (m : Machine) (ths ths' : List Thread) (r : Running) → stored m ≡ true → ths ≡ ths'
    → live_thread_count ths' ≡ live_thread_count m.threads
    → stored (running_to ths r m) ≡ true
running_exact m ths ths' r ok e l = stored_with m ok (running_to ths r m) refl refl (live_is m ok ∙ sym l ∙ sym (ap live_thread_count e))

-- a call, by the server's hold
pub call_idle : (server caller t count : ℕ) (s : State) (h : Hold) → is_idle h ≡ true
    → call_donates server caller t count s ≡ call_at server caller t count s h
call_idle server caller t count s Ready e = let z : ◌≡◌ {A = ℕ} 0 1 = cc in absurd (omega arith)
call_idle server caller t count s Idle e = refl
call_idle server caller t count s Blocked e = let z : ◌≡◌ {A = ℕ} 0 1 = cc in absurd (omega arith)
call_idle server caller t count s (Calling n) e = let z : ◌≡◌ {A = ℕ} 0 1 = cc in absurd (omega arith)
call_idle server caller t count s (Helping n) e = let z : ◌≡◌ {A = ℕ} 0 1 = cc in absurd (omega arith)

pub call_busy : (server caller t count : ℕ) (s : State) (h : Hold) → is_idle h ≡ false
    → call_helps server caller s ≡ call_at server caller t count s h
call_busy server caller t count s Ready e = refl
call_busy server caller t count s Idle e = let z : ◌≡◌ {A = ℕ} 0 1 = cc in absurd (omega arith)
call_busy server caller t count s Blocked e = refl
call_busy server caller t count s (Calling n) e = refl
call_busy server caller t count s (Helping n) e = refl
