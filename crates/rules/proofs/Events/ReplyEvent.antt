-- Reply. The caller's chain ended at the running server, which was Ready: nothing waited there, and no loop passes the caller.
use Prim.Native.Nat.{ℕ, ◌-◌, ◌<◌}
use mathlib.Core.Path.{◌≡◌, refl, sym, ap, ◌∙◌, subst}
use mathlib.Core.List.{List}
use mathlib.Core.Bool.{true, false, not}
use native.Mathlib.Omega.{arith}
use lib.Dec.{ltb}
use borrow.Author.Tests.{not-false, ltb-true}
use Rattle.rules.specs.declared.Hold.TheVariants.{Ready, Idle, Calling}
use Rattle.rules.specs.declared.Service.{Service}
use Rattle.rules.specs.declared.Service.TheVariants.{Nobody, Serving, Orphan}
use Rattle.rules.specs.declared.Thread.{Thread}
use Rattle.rules.specs.declared.Chain.{Chain}
use Rattle.rules.specs.declared.Running.{Running}
use Rattle.rules.specs.declared.Running.TheVariants.{Nothing, Runs}
use Rattle.rules.specs.declared.Event.TheVariants.{Reply}
use Rattle.rules.specs.State.{State, forget, hold_at, service_at, nothing_runs, running_thread, with_threads, with_running}
use Rattle.rules.specs.Walk.{link_of, donation, no_links, donated}
use Rattle.rules.specs.Threads.{replied}
use Rattle.rules.specs.Sound.{server_at}
use Rattle.rules.specs.Refusals.{refusal}
use Rattle.rules.specs.Events.{reply, reply_by, reply_to, chooses_in}
use Rattle.rules.specs.Plain.{update, plain_reply, plain_reply_to, plain_threads}
use Rattle.rules.proofs.Basics.Views.{Two, yes_true, no_false, two, clash}
use Rattle.rules.proofs.Links.Chains.{link_at, To, stop, call, help, Ends, one_call, last, Split, same, via, split}
use Rattle.rules.proofs.Links.Frames.{at_once, Donor, donor}
use Rattle.rules.proofs.Soundness.Standings.{donation_is}
use Rattle.rules.proofs.Tables.Updates.{orphan_update, PairUpdate, reply_update, ready_serves}
use Rattle.rules.proofs.Soundness.Places.{owner, Settled, runs_on, Sound}
use Rattle.rules.proofs.Choosing.Changes.{Change, reframed, nowhere, change_mid, mid_running, ready_change, stay, stay_there, avoids}
use Rattle.rules.proofs.Choosing.Changes.{not_ready, not_calling}
use Rattle.rules.proofs.Events.Hands.{Handed, same_limit, Active, active}
use Rattle.rules.proofs.Basics.Accepting.{passes}

module _ (s : State) (x : Sound s) (server t count : ℕ) (a : Active s server t count) where
  abbrev ts' : List Thread
  ts' = replied server s.threads

  -- nobody waits for the reply
  orphan : service_at s.threads server ≡ Orphan → Handed s (chooses_in (with_threads ts' s)) (plain_threads ts' (forget s))
  orphan serves =
      let u = orphan_update s.threads server x.mid.shape.sane a.runs.ready serves in
      record {
        mid = change_mid (ready_change x.mid u.update a.runs.ready u.others);
        plain = refl;
        settled = λ q. clash true refl q;
        unwalked = λ q. refl;
        links = λ q. same_limit s 0 (plain_threads ts' (forget s)) (omega arith) u.update.count refl;
      }

  -- the caller served gets its reply
  module _ (caller : ℕ) (serves : service_at s.threads server ≡ Serving caller) where
    pair : PairUpdate s.threads ts' caller server Ready Idle
    pair = reply_update s.threads caller server x.mid.shape.sane a.runs.ready serves

    calls : hold_at s.threads caller ≡ Calling server
    calls = x.mid.shape.sane.calling caller server serves

    -- the caller's chain ended at the server
    there : Ends (link_at s.threads) caller no_links server (donated caller no_links)
    there = record { path = one_call stop (ap link_of calls); last = ap link_of a.runs.ready }

    change : Change nowhere s ts' caller
    change =
        record {
          mid = x.mid;
          threads = reframed x.mid pair.update;
          queue = refl;
          spared = refl;
          on = λ y m _ w.
              let n = not_ready w server a.runs.ready in
              stay_there (reframed x.mid pair.update) w (pair.others m (not_calling w caller server calls) n)
              (avoids s.threads there n);
          loops = stay there;
        }

    -- from the caller the links do not come back to it
    comes_once : {m : ℕ} {e d : Chain} → m ≡ caller → To (link_at s.threads) caller e m d → e ≡ d
    comes_once at stop = refl
    comes_once at (call {s = k} f p) =
        let to : donation k ≡ donation server = sym f ∙ ap link_of calls in
        let z : k ≡ server = cc in
        let back : k ≡ caller = at_once (ap (link_at s.threads) z ∙ ap link_of a.runs.ready) p ∙ at in
        let ready = a.runs.ready in
        let same-hold : hold_at s.threads server ≡ hold_at s.threads caller = ap (hold_at s.threads) (sym z ∙ back) in
        let w : ◌≡◌ {A = ℕ} 0 1 = cc in absurd (omega arith)
    comes_once at (help f p) =
        let g = ap link_of calls in let w : ◌≡◌ {A = ℕ} 0 1 = cc in absurd (omega arith)

    -- with a count above 0 the last link is the caller's donation
    backed : 0 < count → Donor (link_at s.threads) (owner s t) no_links server a.runs.chain
    backed h = donor refl (rw a.runs.counted h) (last a.runs.ends.path)

    donor_is : (d : Donor (link_at s.threads) (owner s t) no_links server a.runs.chain) → d.thread ≡ caller
    donor_is d =
        let served = x.mid.shape.sane.served d.thread server (donation_is (hold_at s.threads d.thread) server d.link) in
        cc

    -- so the chain now ends at the caller
    goes_back : {d : Chain} → To (link_at s.threads) (owner s t) no_links caller d → To (link_at ts') (owner s t) no_links caller d
    goes_back {d} p = by (split caller pair.update.links.elsewhere p)
      where
        by : Split (link_at s.threads) (link_at ts') caller (owner s t) no_links caller d → To (link_at ts') (owner s t) no_links caller d
        by (same q) = q
        by (via q q' rest) = subst (λ (c : Chain). To (link_at ts') (owner s t) no_links caller c) (comes_once refl rest) q'

    settled : 0 < count → Settled (with_running (Runs caller t (count - 1)) (with_threads ts' s))
    settled h =
        let d = backed h in
        let r = a.runs in
        runs_on t caller (count - 1) refl a.topmost
        (record {
          chain = d.chain;
          ends =
              record {
                path = goes_back (subst (λ (j : ℕ). To (link_at s.threads) (owner s t) no_links j d.chain) (donor_is d) d.path);
                last = ap link_of pair.at_caller;
              };
          ready = pair.at_caller;
          counted = omega (arith, d.counted, r.counted);
        })

    reply_to_lem : Two (ltb 0 count)
        → Handed s (reply_to t count (with_threads ts' s) (Serving caller))
        (plain_reply_to t count (plain_threads ts' (forget s)) (Serving caller))
    reply_to_lem (yes_true e) =
        rw e
        (record {
          mid = mid_running (Runs caller t (count - 1)) (change_mid change);
          plain = refl;
          settled = λ q. settled (ltb-true 0 count e);
          unwalked = λ q. refl;
          links = λ q. clash false q refl;
        })
    reply_to_lem (no_false e) =
        rw e
        (record {
          mid = change_mid change;
          plain = refl;
          settled = λ q. clash true refl q;
          unwalked = λ q. refl;
          links = λ q. same_limit s 0 (plain_threads ts' (forget s)) (omega arith) pair.update.count refl;
        })

  reply_at : server_at s.threads server ≡ true → (v : Service) → service_at s.threads server ≡ v
      → Handed s (reply_to t count (with_threads ts' s) v) (plain_reply_to t count (plain_threads ts' (forget s)) v)
  reply_at serves Nobody e = absurd (ready_serves s.threads server x.mid.shape.sane a.runs.ready serves e)
  reply_at serves (Serving caller) e = reply_to_lem caller e (two (ltb 0 count))
  reply_at serves Orphan e = orphan e

reply_by_lem : (s : State) → Sound s → (r : Running) → s.running ≡ r → nothing_runs r ≡ false → server_at s.threads (running_thread r) ≡ true
    → Handed s (reply_by s r) (plain_reply (forget s) r)
reply_by_lem s x Nothing e f serves = clash true refl f
reply_by_lem s x (Runs server t count) e f serves =
    reply_at s x server t count (active s x server t count e) serves (service_at s.threads server) refl

pub reply_handed : (s : State) → Sound s → refusal Reply (forget s) ≡ 0 → Handed s (reply s) (update Reply (forget s))
unfolding reply
reply_handed s x e =
    let a = passes (nothing_runs s.running) 4 _ e in
    let b = passes (not (server_at s.threads (running_thread s.running))) 7 0 a.1 in
    reply_by_lem s x s.running refl a.0 (not-false (server_at s.threads (running_thread s.running)) b.0)
