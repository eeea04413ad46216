-- Links are cut at thread n, and those that waited where n led are released: what abort and remove hand to the choice. A timeslice that
-- waited elsewhere, or whose chain looped where n's ended, stands as it stood.
use Prim.Native.Nat.{ℕ, ◌≤◌}
use mathlib.Core.Path.{◌≡◌, refl, sym, ap, ◌∙◌, subst}
use mathlib.Core.List.{List}
use mathlib.Core.Bool.{Bool, true, false}
use native.Mathlib.Omega.{arith}
use lib.ListN.{length}
use Rattle.rules.specs.declared.Hold.TheVariants.{Idle}
use Rattle.rules.specs.declared.Thread.{Thread}
use Rattle.rules.specs.declared.Chain.{Chain}
use Rattle.rules.specs.State.{State, forget, hold_at, live_at, live_thread_count, with_threads}
use Rattle.rules.specs.Walk.{unlinked, link_of, no_links, walk}
use Rattle.rules.specs.Release.{on_thread, stalled, release}
use Rattle.rules.specs.Sound.{is_blocked}
use Rattle.rules.specs.Events.{release_end, after_walk, end_blocked}
use Rattle.rules.specs.Plain.{plain_threads}
use Rattle.rules.proofs.Basics.Views.{clash, Same, equal, different, same}
use Rattle.rules.proofs.Links.Chains.{link_at, Ends, Found, ends, loops, found, again, walk_links}
use Rattle.rules.proofs.Links.Frames.{one_end}
use Rattle.rules.proofs.Soundness.Standings.{Waits, blocked, idle, links_live}
use Rattle.rules.proofs.Soundness.Places.{Mid}
use Rattle.rules.proofs.Choosing.Releases.{release_mid, forget_release}
use Rattle.rules.proofs.Choosing.Changes.{Change, Reframed, nowhere, change_releasable, change_mid, OnKept, freed, stay, stay_there}
use Rattle.rules.proofs.Choosing.Changes.{Avoids, avoids, ends_here}
use Rattle.rules.proofs.Events.Hands.{Handed, fewer_limit}

-- who had no link keeps its hold, but for n; and n, if it was Idle, is gone
pub record CutAt (s : State) (ts' : List Thread) (n : ℕ) : Type 0 where
  pub threads : Reframed s ts' n
  pub holds : (m : ℕ) → (m ≡ n → ⊥) → link_at s.threads m ≡ unlinked → hold_at ts' m ≡ hold_at s.threads m
  pub gone : hold_at s.threads n ≡ Idle → live_at ts' n ≡ true → ⊥

-- a thread at which a timeslice waits has no link
waits_unlinked : {ts : List Thread} {y k : ℕ} → Waits ts y k → link_at ts k ≡ unlinked
waits_unlinked (blocked p b) = p.last
waits_unlinked (idle e i) = ap link_of i

module _ {s : State} (x : Mid s) {ts' : List Thread} {n : ℕ} (u : CutAt s ts' n) where
  abbrev ts : List Thread
  ts = s.threads

  -- a thread without a link that is not n's end is not n
  apart : {k m : ℕ} {c d : Chain} → Ends (link_at ts) n c m d → (k ≡ m → ⊥) → link_at ts k ≡ unlinked → k ≡ n → ⊥
  apart {k} {m} p o l e = o (e ∙ sym (one_end p (ends_here ts n {c = no_links} (rw e at l))))

  -- who waits at such a thread waits there still
  elsewhere : {at : _} {y k m : ℕ} {c d : Chain} → Ends (link_at ts) n c m d → (k ≡ m → ⊥) → Waits ts y k → OnKept at ts' y k
  elsewhere {k = k} p o w =
      let l = waits_unlinked w in
      stay_there u.threads w (u.holds k (apart p o l) l) (avoids ts p o)

  -- the links from n end at a Blocked thread
  at_blocked : (m : ℕ) {d : Chain} → Ends (link_at ts) n no_links m d → Change (on_thread m) s ts' n
  at_blocked m p =
      record { mid = x; threads = u.threads; queue = refl; spared = refl; on = λ y k _ w. by y k w (same k m); loops = stay p }
    where
      by : (y k : ℕ) → Waits ts y k → Same k m → OnKept (on_thread m) ts' y k
      by y k w (equal e f) = freed f
      by y k w (different o f) = elsewhere p o w

  -- they end elsewhere: an Idle end has nothing On it but its own timeslice
  at_unblocked : (m : ℕ) {d : Chain} → Ends (link_at ts) n no_links m d → is_blocked (hold_at ts m) ≡ false → Change nowhere s ts' n
  at_unblocked m p f =
      record { mid = x; threads = u.threads; queue = refl; spared = refl; on = by; loops = stay p }
    where
      by : (y k : ℕ) → live_at ts' y ≡ true → Waits ts y k → OnKept nowhere ts' y k
      by y k live (blocked q b) =
          elsewhere p (λ e. clash (is_blocked (hold_at ts m)) (ap is_blocked (ap (hold_at ts) (sym e) ∙ b)) f) (blocked q b)
      by y k live (idle q i) =
          stay (idle q (u.holds k (λ e. u.gone (ap (hold_at ts) (sym e) ∙ i) (rw (q ∙ e) at live)) (ap link_of i) ∙ i))

  -- they end nowhere
  at_loop : ((m : ℕ) (d : Chain) → Ends (link_at ts) n no_links m d → ⊥) → Change stalled s ts' n
  at_loop never =
      record {
        mid = x;
        threads = u.threads;
        queue = refl;
        spared = refl;
        on = λ y k _ w. stay_there u.threads w (u.holds k (linked k (waits_unlinked w)) (waits_unlinked w)) (nowhere_ends k);
        loops = freed refl;
      }
    where
      linked : (k : ℕ) → link_at ts k ≡ unlinked → k ≡ n → ⊥
      linked k l e = never n no_links (ends_here ts n (rw e at l))

      nowhere_ends : (k : ℕ) → Avoids ts n k
      nowhere_ends k c d q = let z = again q.path no_links in never k z.chain (record { path = z.path; last = q.last })

-- THE CUT, after the walk from n over the threads of s, whose end is read there; s₀ is the machine that the event was offered to
module _
    {s₀ s : State} (x : Mid s) {ts' : List Thread} {n : ℕ} (u : CutAt s ts' n) (live : live_at s.threads n ≡ true)
    (before : live_thread_count s.threads ≤ live_thread_count s₀.threads) (lives : live_thread_count ts' ≤ live_thread_count s₀.threads)
    (turns : length s.order ≤ length s₀.order)
  where
    hand : (after : State) (links : ℕ) → Mid after → forget after ≡ plain_threads ts' (forget s) → links ≤ live_thread_count s.threads
        → Handed s₀ (record { state = after; links = links; chooses = true }) (plain_threads ts' (forget s))
    hand after links mid plain few =
        record {
          mid = mid;
          plain = plain;
          settled = λ q. clash true refl q;
          unwalked = λ q. clash true refl q;
          links = λ q. fewer_limit s₀ links (plain_threads ts' (forget s)) (omega arith) lives turns;
        }

    released : (m : ℕ) {d : Chain} → Ends (link_at s.threads) n no_links m d → (links : ℕ) → links ≤ live_thread_count s.threads
        → (b : Bool) → is_blocked (hold_at s.threads m) ≡ b
        → Handed s₀ (record { state = release_end b m (with_threads ts' s); links = links; chooses = true }) (plain_threads ts' (forget s))
    released m p links few true f =
        hand (release (on_thread m) (with_threads ts' s)) links
        (release_mid (on_thread m) (with_threads ts' s) (change_releasable (at_blocked x u m p)))
        (forget_release (on_thread m) (with_threads ts' s)) few
    released m p links few false f = hand (with_threads ts' s) links (change_mid (at_unblocked x u m p f)) refl few

    pub cut_handed : (c : Chain) → c ≡ walk s.threads n → (b : Bool) → b ≡ end_blocked c s.threads
        → Handed s₀ (after_walk c b (with_threads ts' s)) (plain_threads ts' (forget s))
    unfolding after_walk
    cut_handed c is b at = by (found s.threads (links_live x.shape.sane) n live)
      where
        by : Found s.threads n → Handed s₀ (after_walk c b (with_threads ts' s)) (plain_threads ts' (forget s))
        by (ends m d p e) =
            let at_end_lem : is_blocked (hold_at s.threads m) ≡ b =
            sym (at ∙ ap (λ (k : Chain). end_blocked k s.threads) (is ∙ e)) in
            let few : d.links ≤ live_thread_count s.threads =
            subst (λ (k : Chain). k.links ≤ live_thread_count s.threads) e (walk_links s.threads n) in
            rw (is ∙ e) (released m p d.links few b at_end_lem)
        by (loops h e never) =
            rw (is ∙ e)
            (hand (release stalled (with_threads ts' s)) (live_thread_count s.threads)
            (release_mid stalled (with_threads ts' s) (change_releasable (at_loop x u never)))
            (forget_release stalled (with_threads ts' s)) (omega arith))
