-- Wake: all that was On the thread is released, and no chain but theirs ended there.
use Prim.Native.Nat.{ℕ}
use mathlib.Core.Path.{◌≡◌, refl, ap, ◌∙◌}
use mathlib.Core.List.{List}
use mathlib.Core.Bool.{true, false, not}
use native.Mathlib.Omega.{arith}
use borrow.Author.Tests.{le-ltb, not-false}
use Rattle.rules.specs.declared.Hold.{Hold}
use Rattle.rules.specs.declared.Hold.TheVariants.{Ready, Idle, Blocked, Calling, Helping}
use Rattle.rules.specs.declared.Thread.{Thread}
use Rattle.rules.specs.declared.Event.TheVariants.{Wake}
use Rattle.rules.specs.State.{State, forget, hold_at, live_at, with_threads}
use Rattle.rules.specs.Walk.{link_of, no_links}
use Rattle.rules.specs.Threads.{set_hold}
use Rattle.rules.specs.Release.{on_thread}
use Rattle.rules.specs.Sound.{is_blocked}
use Rattle.rules.specs.Refusals.{refusal, above_limit}
use Rattle.rules.specs.Events.{wake}
use Rattle.rules.specs.Plain.{update}
use Rattle.rules.proofs.Basics.Views.{clash, Same, equal, different, same}
use Rattle.rules.proofs.Links.Chains.{link_at, Ends}
use Rattle.rules.proofs.Links.Frames.{kept_end}
use Rattle.rules.proofs.Soundness.Standings.{Waits}
use Rattle.rules.proofs.Tables.Updates.{HoldUpdate, held_live, hold_update, ready_free, blocked_free}
use Rattle.rules.proofs.Tables.Writes.{within}
use Rattle.rules.proofs.Soundness.Places.{Settled, nothing, runs_on, Sound}
use Rattle.rules.proofs.Choosing.Releases.{Releasable}
use Rattle.rules.proofs.Choosing.Changes.{Change, reframed, change_releasable, OnKept, freed, stay, stay_there, avoids, ends_here}
use Rattle.rules.proofs.Events.Hands.{Handed}
use Rattle.rules.proofs.Basics.Accepting.{passes}
use Rattle.rules.proofs.Events.Joining.{releases_handed}

pub blocked_is : (h : Hold) → is_blocked h ≡ true → h ≡ Blocked
blocked_is Ready e = clash false e refl
blocked_is Idle e = clash false e refl
blocked_is Blocked e = refl
blocked_is (Calling s) e = clash false e refl
blocked_is (Helping s) e = clash false e refl

module _ (s : State) (x : Sound s) (n : ℕ) (was-blocked : hold_at s.threads n ≡ Blocked) where
  abbrev ts' : List Thread
  ts' = set_hold n Ready s.threads

  -- a Blocked thread is live, so it is within the table
  blocked_live : live_at s.threads n ≡ true
  blocked_live = held_live s.threads n x.mid.shape.sane (λ r. let z : ◌≡◌ {A = ℕ} 0 1 = cc in omega arith)

  -- so a wake of it is accepted
  pub wake_accepted : refusal (Wake n) (forget s) ≡ 0
  wake_accepted =
      let small = within s.threads n blocked_live in
      rw (le-ltb 127 n (omega (arith, x.mid.shape.sane.full)), blocked_live, was-blocked) refl

  pub woken : HoldUpdate s.threads (set_hold n Ready s.threads) n Ready
  woken =
      hold_update s.threads n Ready x.mid.shape.sane blocked_live (rw was-blocked blocked_free) ready_free
      (λ k q. let z : ◌≡◌ {A = ℕ} 0 1 = cc in absurd (omega arith))

  here : Ends (link_at s.threads) n no_links n no_links
  here = ends_here s.threads n (ap link_of was-blocked)

  change : Change (on_thread n) s ts' n
  change =
      record {
        mid = x.mid;
        threads = reframed x.mid woken.update;
        queue = refl;
        spared = refl;
        on = λ y m _ w. by y m w (same m n);
        loops = stay here;
      }
    where
      by : (y m : ℕ) → Waits s.threads y m → Same m n → OnKept (on_thread n) ts' y m
      by y m w (equal e f) = freed f
      by y m w (different o f) = stay_there (reframed x.mid woken.update) w (woken.others m o) (avoids s.threads here o)

  pub wake_releasable : Releasable (on_thread n) (with_threads (set_hold n Ready s.threads) s)
  wake_releasable = change_releasable change

  -- what ran still runs: its chain ended, Ready, elsewhere
  settled : Settled s → Settled (with_threads ts' s)
  settled (nothing q f) = nothing q f
  settled (runs_on t m count q f r) =
      let ready = r.ready in
      let o : m ≡ n → ⊥ = λ e. let z : ◌≡◌ {A = ℕ} 0 1 = cc (ap (hold_at s.threads) e) in omega arith in
      runs_on t m count q f
      (record {
        chain = r.chain;
        ends = kept_end woken.update.links (avoids s.threads here o) r.ends;
        ready = woken.others m o ∙ r.ready;
        counted = r.counted;
      })

-- only a Blocked thread is woken
pub accepted_blocked : (s : State) (n : ℕ) → refusal (Wake n) (forget s) ≡ 0 → hold_at s.threads n ≡ Blocked
accepted_blocked s n e =
    let a = passes (above_limit n) 1 _ e in
    let b = passes (not (live_at s.threads n)) 3 _ a.1 in
    let c = passes (not (is_blocked (hold_at s.threads n))) 8 0 b.1 in
    blocked_is (hold_at s.threads n) (not-false (is_blocked (hold_at s.threads n)) c.0)

pub wake_handed : (s : State) → Sound s → (n : ℕ) → refusal (Wake n) (forget s) ≡ 0 → Handed s (wake n s) (update (Wake n) (forget s))
unfolding wake
wake_handed s x n e =
    let was-blocked = accepted_blocked s n e in
    releases_handed s n (with_threads (set_hold n Ready s.threads) s) (wake_releasable s x n was-blocked)
    (settled s x n was-blocked x.settled) (woken s x n was-blocked).update.count refl
