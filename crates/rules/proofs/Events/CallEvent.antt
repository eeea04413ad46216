-- Call. The caller was Ready: nothing waited at it, and no loop passes it. At a donation the chain that ended at the caller goes on to
-- the server.
use Prim.Native.Nat.{ℕ, ◌+◌}
use mathlib.Core.Path.{◌≡◌, refl, ap}
use mathlib.Core.List.{List}
use mathlib.Core.Bool.{true, false, not}
use native.Mathlib.Omega.{arith}
use lib.Dec.{eqb}
use borrow.Author.Tests.{not-false, eqb-false}
use Rattle.rules.specs.declared.Hold.{Hold}
use Rattle.rules.specs.declared.Hold.TheVariants.{Ready, Idle, Blocked, Calling, Helping}
use Rattle.rules.specs.declared.Thread.{Thread}
use Rattle.rules.specs.declared.Running.{Running}
use Rattle.rules.specs.declared.Running.TheVariants.{Nothing, Runs}
use Rattle.rules.specs.declared.Event.TheVariants.{Call}
use Rattle.rules.specs.State.{State, forget, hold_at, live_at, nothing_runs, running_thread, with_threads, with_running}
use Rattle.rules.specs.Walk.{link_of, no_links, donated}
use Rattle.rules.specs.Threads.{set_hold, donate}
use Rattle.rules.specs.Release.{on_thread}
use Rattle.rules.specs.Sound.{server_at}
use Rattle.rules.specs.Refusals.{refusal, above_limit}
use Rattle.rules.specs.Events.{call, call_by, call_at, call_helps, call_donates}
use Rattle.rules.specs.Plain.{update, plain_call, plain_call_at, plain_helps, plain_donates}
use Rattle.rules.proofs.Basics.Views.{clash, Same, equal, different, same}
use Rattle.rules.proofs.Links.Chains.{link_at, Ends, one_call}
use Rattle.rules.proofs.Links.Frames.{kept_up_to}
use Rattle.rules.proofs.Soundness.Standings.{Target, Waits}
use Rattle.rules.proofs.Tables.Updates.{HoldUpdate, hold_update, PairUpdate, donate_update, ready_free, helping_free}
use Rattle.rules.proofs.Soundness.Places.{Settled, runs_on, Sound}
use Rattle.rules.proofs.Choosing.Changes.{Change, reframed, change_releasable, change_mid, ready_change, releasable_running, OnKept}
use Rattle.rules.proofs.Choosing.Changes.{freed, stay, stay_there, avoids, ends_here, not_ready}
use Rattle.rules.proofs.Events.Hands.{Handed, same_limit, Active, active}
use Rattle.rules.proofs.Basics.Accepting.{passes}
use Rattle.rules.proofs.Events.Joining.{releases_handed}

module _ (s : State) (x : Sound s) (caller t count : ℕ) (a : Active s caller t count) (server : ℕ)
    (to : Target s.threads caller server) where
  -- the server is busy: the caller helps
  helping_update : HoldUpdate s.threads (set_hold caller (Helping server) s.threads) caller (Helping server)
  helping_update =
      hold_update s.threads caller (Helping server) x.mid.shape.sane a.live (rw a.runs.ready ready_free)
      (helping_free server)
      (λ k q. let z : server ≡ k = cc in rw (← z) to)

  helps : Handed s (call_helps server caller s) (plain_helps server caller (forget s))
  unfolding call_helps
  helps =
      let u = helping_update in
      record {
        mid = change_mid (ready_change x.mid u.update a.runs.ready u.others);
        plain = refl;
        settled = λ q. clash true refl q;
        unwalked = λ q. refl;
        links = λ q. same_limit s 0 (plain_helps server caller (forget s)) (omega arith) u.update.count refl;
      }

  -- the server is Idle: a donation
  module _ (idle : hold_at s.threads server ≡ Idle) where
    abbrev ts' : List Thread
    ts' = donate caller server s.threads

    pair : PairUpdate s.threads ts' caller server (Calling server) Ready
    pair = donate_update s.threads caller server x.mid.shape.sane a.live (rw a.runs.ready ready_free) idle

    here : Ends (link_at s.threads) caller no_links caller no_links
    here = ends_here s.threads caller (ap link_of a.runs.ready)

    change : Change (on_thread server) s ts' caller
    change =
        record {
          mid = x.mid;
          threads = reframed x.mid pair.update;
          queue = refl;
          spared = refl;
          on = λ y m _ w. by m w (same m server);
          loops = stay here;
        }
      where
        by : {y : ℕ} (m : ℕ) → Waits s.threads y m → Same m server → OnKept (on_thread server) ts' y m
        by m w (equal e f) = freed f
        by m w (different o f) =
            let n = not_ready w caller a.runs.ready in
            stay_there (reframed x.mid pair.update) w (pair.others m n o) (avoids s.threads here n)

    -- the current timeslice pays for the server, with one donation more
    settled : Settled (with_running (Runs server t (count + 1)) (with_threads ts' s))
    settled =
        runs_on t server (count + 1) refl a.topmost
        (record {
          chain = donated caller a.runs.chain;
          ends =
              record {
                path = one_call (kept_up_to pair.update.links (ap link_of a.runs.ready) a.runs.ends.path)
                    (ap link_of pair.at_caller);
                last = ap link_of pair.at_server;
              };
          ready = pair.at_server;
          counted = ap (λ (k : ℕ). k + 1) a.runs.counted;
        })

    donates : Handed s (call_donates server caller t count s) (plain_donates server caller t count (forget s))
    unfolding call_donates
    donates =
        releases_handed s server (with_running (Runs server t (count + 1)) (with_threads ts' s))
        (releasable_running (Runs server t (count + 1)) (change_releasable change)) settled pair.update.count refl

  called_at : (h : Hold) → hold_at s.threads server ≡ h
      → Handed s (call_at server caller t count s h) (plain_call_at server caller t count (forget s) h)
  called_at Ready e = helps
  called_at Idle e = donates e
  called_at Blocked e = helps
  called_at (Calling n) e = helps
  called_at (Helping n) e = helps

call_by_lem : (s : State) → Sound s → (server : ℕ) (r : Running) → s.running ≡ r → nothing_runs r ≡ false
    → live_at s.threads server ≡ true → server_at s.threads server ≡ true → eqb server (running_thread r) ≡ false
    → Handed s (call_by server s r) (plain_call server (forget s) r)
call_by_lem s x server Nothing e f live serves other = clash true refl f
call_by_lem s x server (Runs caller t count) e f live serves other =
    called_at s x caller t count (active s x caller t count e) server
    (record { live = live; server = serves; other = eqb-false server caller other })
    (hold_at s.threads server) refl

pub call_handed : (s : State) → Sound s → (server : ℕ) → refusal (Call server) (forget s) ≡ 0
    → Handed s (call server s) (update (Call server) (forget s))
unfolding call
call_handed s x server e =
    let a = passes (nothing_runs s.running) 4 _ e in
    let b = passes (above_limit server) 1 _ a.1 in
    let c = passes (not (live_at s.threads server)) 3 _ b.1 in
    let d = passes (not (server_at s.threads server)) 5 _ c.1 in
    let f = passes (eqb server (running_thread s.running)) 6 0 d.1 in
    call_by_lem s x server s.running refl a.0 (not-false (live_at s.threads server) c.0)
    (not-false (server_at s.threads server) d.0) f.0
