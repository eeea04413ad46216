-- What a removal does to the table of threads: the record of thread n is free, all links into it are cut, and it stays sane.
use Prim.Native.Nat.{ℕ, suc, ◌<◌}
use mathlib.Core.Path.{◌≡◌, refl, sym, ap, ◌∙◌, subst}
use mathlib.Core.List.{List, [], ◌∷◌, map}
use mathlib.Core.Bool.{Bool, true, false, cond}
use lib.ListN.{length, length-set, length-map, get_or-map}
use lib.Seq.{get_or-set_same, get_or-set_other}
use lib.Dec.{eqb}
use borrow.Author.Tests.{eqb-true, eq-eqb, eqb-false, ne_eqb}
use Rattle.rules.specs.declared.Hold.{Hold}
use Rattle.rules.specs.declared.Hold.TheVariants.{Ready, Idle, Blocked, Calling, Helping}
use Rattle.rules.specs.declared.Service.TheVariants.{Nobody, Serving, Orphan}
use Rattle.rules.specs.declared.Thread.{Thread}
use Rattle.rules.specs.State.{free_thread, thread_at, hold_at, service_at, live_at, live_thread_count, one_more_if}
use Rattle.rules.specs.Holds.{linked_to}
use Rattle.rules.specs.Threads.{with_hold, cut_from, links_cut, orphan_server, removed}
use Rattle.rules.specs.Walk.{unlinked, donation, helping, link_of, no_links}
use Rattle.rules.specs.Sound.{is_idle, is_nobody, is_calling, link_good, idle_good}
use Rattle.rules.proofs.Basics.Views.{Two, yes_true, no_false, two, clash, Same, equal, different, same}
use Rattle.rules.proofs.Links.Chains.{link_at, To, stop, call, help, Again}
use Rattle.rules.proofs.Links.Frames.{Cut, keeps, cut, Cuts}
use Rattle.rules.proofs.Soundness.Shapes.{Sane, calling_is}
use Rattle.rules.proofs.Soundness.Standings.{call_target}
use Rattle.rules.proofs.Tables.Writes.{role_at, within, Relabels, then_relabels, orphaned_relabels, orphaned_hold}
use Rattle.rules.proofs.Tables.Writes.{orphaned_other, orphaned_here, set-lowers-count}
use Rattle.rules.proofs.Tables.Updates.{Stays, target_stays}

-- one thread, with its link into n cut: what else it holds it keeps
cut_keeps : {B : Type 0} (f : Thread → B) (t : Thread) → ((h : Hold) → f (with_hold h t) ≡ f t) → (n : ℕ) → f (cut_from n t) ≡ f t
cut_keeps f t e n = by (linked_to n t.hold) _ (e _)
  where
    by : (b : Bool) (u : Thread) → f u ≡ f t → f (cond b u t) ≡ f t
    by true u z = z
    by false u z = refl

-- the whole table
cut_at : (n : ℕ) (ts : List Thread) (m : ℕ) → thread_at (links_cut n ts) m ≡ cut_from n (thread_at ts m)
unfolding links_cut
cut_at n ts m = get_or-map (cut_from n) ts m free_thread

cut_count : (n : ℕ) (ts : List Thread) → live_thread_count (map (cut_from n) ts) ≡ live_thread_count ts
unfolding live_thread_count
cut_count n [] = refl
cut_count n (t ∷ ts) =
    ap (λ (b : Bool). one_more_if b (live_thread_count (map (cut_from n) ts))) (cut_keeps (λ (y : Thread). y.live) t (λ h. refl) n)
    ∙ ap (one_more_if t.live) (cut_count n ts)

cut_relabels : (n : ℕ) (ts : List Thread) → Relabels ts (links_cut n ts)
unfolding links_cut
cut_relabels n ts =
    record {
      size = length-map ts (cut_from n);
      live = λ m. ap (λ (y : Thread). y.live) (cut_at n ts m) ∙ cut_keeps (λ (y : Thread). y.live) (thread_at ts m) (λ h. refl) n;
      role = λ m. ap (λ (y : Thread). y.role) (cut_at n ts m) ∙ cut_keeps (λ (y : Thread). y.role) (thread_at ts m) (λ h. refl) n;
      count = cut_count n ts;
    }

-- before the record is freed
abbrev pub left : ℕ → List Thread → List Thread
left n ts = orphan_server (hold_at ts n) (links_cut n ts)

left_relabels : (n : ℕ) (ts : List Thread) → Relabels ts (left n ts)
left_relabels n ts = then_relabels (cut_relabels n ts) (orphaned_relabels (links_cut n ts) (hold_at ts n))

pub left_size : (n : ℕ) (ts : List Thread) → length (left n ts) ≡ length ts
left_size n ts = (left_relabels n ts).size

-- the live threads are one less
pub removed_count : (ts : List Thread) (n : ℕ) → live_at ts n ≡ true → suc (live_thread_count (removed n ts)) ≡ live_thread_count ts
unfolding removed
removed_count ts n live =
    let kept = left_relabels n ts in
    set-lowers-count (left n ts) n _ (rw kept.size (within ts n live)) (kept.live n ∙ live) refl ∙ kept.count

-- the reads after the removal of a live thread
module _ {ts : List Thread} (x : Sane ts) (n : ℕ) (live : live_at ts n ≡ true) where
  size : length (removed n ts) ≡ length ts
  unfolding removed
  size = length-set (left n ts) n _ ∙ (left_relabels n ts).size

  here : thread_at (removed n ts) n ≡ free_thread
  unfolding removed
  here = get_or-set_same (left n ts) n _ free_thread (rw (left_relabels n ts).size (within ts n live))

  is_free : {B : Type 0} (f : Thread → B) (m : ℕ) → m ≡ n → f (thread_at (removed n ts) m) ≡ f free_thread
  is_free f m e = ap (λ (k : ℕ). f (thread_at (removed n ts) k)) e ∙ ap f here

  there : (m : ℕ) → (m ≡ n → ⊥) → thread_at (removed n ts) m ≡ thread_at (left n ts) m
  unfolding removed
  there m o = get_or-set_other (left n ts) n m _ free_thread o

  pub removed_gone : live_at (removed n ts) n ≡ false
  removed_gone = ap (λ (t : Thread). t.live) here

  live_there : (m : ℕ) → (m ≡ n → ⊥) → live_at (removed n ts) m ≡ live_at ts m
  live_there m o = ap (λ (t : Thread). t.live) (there m o) ∙ (left_relabels n ts).live m

  role_there : (m : ℕ) → (m ≡ n → ⊥) → role_at (removed n ts) m ≡ role_at ts m
  role_there m o = ap (λ (t : Thread). t.role) (there m o) ∙ (left_relabels n ts).role m

  hold_there : (m : ℕ) → (m ≡ n → ⊥) → hold_at (removed n ts) m ≡ (cut_from n (thread_at ts m)).hold
  hold_there m o =
      ap (λ (t : Thread). t.hold) (there m o) ∙ orphaned_hold (links_cut n ts) (hold_at ts n) m
      ∙ ap (λ (t : Thread). t.hold) (cut_at n ts m)

  hold_kept : (m : ℕ) → (m ≡ n → ⊥) → linked_to n (hold_at ts m) ≡ false → hold_at (removed n ts) m ≡ hold_at ts m
  hold_kept m o e = hold_there m o ∙ rw e refl

  hold_cut : (m : ℕ) → (m ≡ n → ⊥) → linked_to n (hold_at ts m) ≡ true → hold_at (removed n ts) m ≡ Ready
  hold_cut m o e = hold_there m o ∙ rw e refl

  service_cut : (m : ℕ) → service_at (links_cut n ts) m ≡ service_at ts m
  service_cut m = ap (λ (t : Thread). t.service) (cut_at n ts m) ∙ cut_keeps (λ (y : Thread). y.service) (thread_at ts m) (λ h. refl) n

  service_kept : (m : ℕ) → (m ≡ n → ⊥) → is_calling m (hold_at ts n) ≡ false → service_at (removed n ts) m ≡ service_at ts m
  service_kept m o e =
      ap (λ (t : Thread). t.service) (there m o) ∙ orphaned_other (links_cut n ts) (hold_at ts n) m e ∙ service_cut m

  service_orphan : (m : ℕ) → (m ≡ n → ⊥) → is_calling m (hold_at ts n) ≡ true → service_at (removed n ts) m ≡ Orphan
  service_orphan m o e =
      let calls = calling_is (hold_at ts n) m e in
      let inside : m < length (links_cut n ts) = rw (cut_relabels n ts).size (within ts m (call_target x n m calls).live) in
      ap (λ (t : Thread). t.service) (there m o) ∙ orphaned_here (links_cut n ts) (hold_at ts n) m inside calls

  -- a link that is left goes to another thread, which stays
  stays : (s : ℕ) → eqb s n ≡ false → live_at ts s ≡ true → Stays ts (removed n ts) s
  stays s e l = let o = eqb-false s n e in record { live = live_there s o ∙ l; role = role_there s o }

  link_left : (m : ℕ) (h : Hold) → linked_to n h ≡ false → link_good ts m h ≡ true → link_good (removed n ts) m h ≡ true
  link_left m Ready e g = refl
  link_left m Idle e g = refl
  link_left m Blocked e g = refl
  link_left m (Calling s) e g = target_stays m s (stays s e) g
  link_left m (Helping s) e g = target_stays m s (stays s e) g

  linked_after : (m : ℕ) → Same m n → Two (linked_to n (hold_at ts m)) → link_good (removed n ts) m (hold_at (removed n ts) m) ≡ true
  linked_after m (equal e _) _ = ap (link_good (removed n ts) m) (is_free (λ t. t.hold) m e)
  linked_after m (different o _) (yes_true f) = rw (hold_cut m o f) refl
  linked_after m (different o _) (no_false f) = rw (hold_kept m o f) (link_left m (hold_at ts m) f (x.linked m))

  -- who is still Calling was Calling, and another
  served_after : (m s : ℕ) → hold_at (removed n ts) m ≡ Calling s → Same m n → Two (linked_to n (hold_at ts m))
      → service_at (removed n ts) s ≡ Serving m
  served_after m s e (equal z _) _ = let h = is_free (λ t. t.hold) m z in cc
  served_after m s e (different o _) (yes_true f) = let h = hold_cut m o f in cc
  served_after m s e (different o _) (no_false f) = by (two (is_calling s (hold_at ts n)))
    where
      calls : hold_at ts m ≡ Calling s
      calls = sym (hold_kept m o f) ∙ e

      by : Two (is_calling s (hold_at ts n)) → service_at (removed n ts) s ≡ Serving m
      by (yes_true c) =
          let mine = x.served n s (calling_is (hold_at ts n) s c) in
          let theirs = x.served m s calls in
          let z : m ≡ n = cc in
          absurd (o z)
      by (no_false c) = service_kept s (eqb-false s n (rw calls at f)) c ∙ x.served m s calls

  -- who is still served was served, and the server is another
  calling_after : (m s : ℕ) → service_at (removed n ts) s ≡ Serving m → Same s n → Two (is_calling s (hold_at ts n))
      → hold_at (removed n ts) m ≡ Calling s
  calling_after m s e (equal z _) _ = let v = is_free (λ t. t.service) s z in cc
  calling_after m s e (different o _) (yes_true c) = let v = service_orphan s o c in cc
  calling_after m s e (different o _) (no_false c) =
      let calls = x.calling m s (sym (service_kept s o c) ∙ e) in
      let other : m ≡ n → ⊥ = λ z. clash (is_calling s (hold_at ts n)) (rw (← z, calls) (eq-eqb s s refl)) c in
      hold_kept m other (rw calls (ne_eqb s n o)) ∙ calls

  -- Idle and serving nobody are as they were
  linked_busy : (h : Hold) → linked_to n h ≡ true → is_idle h ≡ false
  linked_busy Ready e = refl
  linked_busy Idle e = clash false e refl
  linked_busy Blocked e = refl
  linked_busy (Calling s) e = refl
  linked_busy (Helping s) e = refl

  same_idle : (m : ℕ) → (m ≡ n → ⊥) → Two (linked_to n (hold_at ts m)) → is_idle (hold_at (removed n ts) m) ≡ is_idle (hold_at ts m)
  same_idle m o (yes_true f) = ap is_idle (hold_cut m o f) ∙ sym (linked_busy (hold_at ts m) f)
  same_idle m o (no_false f) = ap is_idle (hold_kept m o f)

  same_nobody : (m : ℕ) → (m ≡ n → ⊥) → Two (is_calling m (hold_at ts n))
      → is_nobody (service_at (removed n ts) m) ≡ is_nobody (service_at ts m)
  same_nobody m o (yes_true c) =
      ap is_nobody (service_orphan m o c) ∙ sym (ap is_nobody (x.served n m (calling_is (hold_at ts n) m c)))
  same_nobody m o (no_false c) = ap is_nobody (service_kept m o c)

  idle_after : (m : ℕ) → Same m n → idle_good (thread_at (removed n ts) m) ≡ true
  idle_after m (equal e _) = is_free idle_good m e
  idle_after m (different o _) =
      rw (same_idle m o (two (linked_to n (hold_at ts m))), role_there m o, same_nobody m o (two (is_calling m (hold_at ts n)))) (x.idle m)

  -- a slot that was free is free
  free_after : (m : ℕ) → live_at (removed n ts) m ≡ false → Same m n → thread_at (removed n ts) m ≡ free_thread
  free_after m e (equal z _) = is_free (λ t. t) m z
  free_after m e (different o _) =
      let dead : live_at ts m ≡ false = sym (live_there m o) ∙ e in
      let before = x.free m dead in
      let uncalled : is_calling m (hold_at ts n) ≡ false = by dead (two (is_calling m (hold_at ts n))) in
      let role : role_at (removed n ts) m ≡ _ = role_there m o ∙ ap (λ (t : Thread). t.role) before in
      let hold : hold_at (removed n ts) m ≡ Ready =
      hold_kept m o (ap (λ (t : Thread). linked_to n t.hold) before) ∙ ap (λ (t : Thread). t.hold) before in
      let service : service_at (removed n ts) m ≡ Nobody = service_kept m o uncalled ∙ ap (λ (t : Thread). t.service) before in
      λ i. record { live = e i; role = role i; hold = hold i; service = service i }
    where
      by : live_at ts m ≡ false → Two (is_calling m (hold_at ts n)) → is_calling m (hold_at ts n) ≡ false
      by dead (yes_true c) = clash (live_at ts m) (call_target x n m (calling_is (hold_at ts n) m c)).live dead
      by dead (no_false c) = c

  pub removed_sane : Sane (removed n ts)
  removed_sane =
      record {
        full = size ∙ x.full;
        served = λ m s e. served_after m s e (same m n) (two (linked_to n (hold_at ts m)));
        calling = λ m s e. calling_after m s e (same s n) (two (is_calling s (hold_at ts n)));
        linked = λ m. linked_after m (same m n) (two (linked_to n (hold_at ts m)));
        idle = λ m. idle_after m (same m n);
        free = λ m e. free_after m e (same m n);
      }

  -- who has lost its link led to n
  led : (m : ℕ) (h : Hold) → hold_at ts m ≡ h → linked_to n h ≡ true → Again (link_at ts) m no_links n
  led m Ready e f = clash false f refl
  led m Idle e f = clash false f refl
  led m Blocked e f = clash false f refl
  led m (Calling s) e f =
      record { chain = _; path = call (ap link_of e ∙ ap donation (eqb-true s n f)) stop }
  led m (Helping s) e f =
      record { chain = _; path = help (ap link_of e ∙ ap helping (eqb-true s n f)) stop }

  pub removed_cuts : Cuts (link_at ts) (link_at (removed n ts)) n
  removed_cuts m = by (same m n) (two (linked_to n (hold_at ts m)))
    where
      by : Same m n → Two (linked_to n (hold_at ts m)) → Cut (link_at ts) (link_at (removed n ts)) n m
      by (equal e _) _ =
          cut (is_free (λ t. link_of t.hold) m e) (subst (λ (k : ℕ). To (link_at ts) m no_links k no_links) e stop)
      by (different o _) (yes_true f) = cut (ap link_of (hold_cut m o f)) (led m (hold_at ts m) refl f).path
      by (different o _) (no_false f) = keeps (ap link_of (hold_kept m o f))

  -- who had no link keeps its hold, and the other threads stay live
  unlinked_other : (h : Hold) → link_of h ≡ unlinked → linked_to n h ≡ false
  unlinked_other Ready e = refl
  unlinked_other Idle e = refl
  unlinked_other Blocked e = refl
  unlinked_other (Calling s) e = cc
  unlinked_other (Helping s) e = cc

  pub removed_holds : (m : ℕ) → (m ≡ n → ⊥) → link_at ts m ≡ unlinked → hold_at (removed n ts) m ≡ hold_at ts m
  removed_holds m o e = hold_kept m o (unlinked_other (hold_at ts m) e)

  pub removed_live : (m : ℕ) → (m ≡ n → ⊥) → live_at ts m ≡ true → live_at (removed n ts) m ≡ true
  removed_live m o e = live_there m o ∙ e
