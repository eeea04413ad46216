-- Remove, in two steps: its own timeslice is struck out, so that the thread owns nothing; then all links into it are cut.
use Prim.Native.Nat.{ℕ, ◌≤◌}
use mathlib.Core.Path.{◌≡◌, refl, sym, ap, ◌∙◌, subst}
use mathlib.Core.List.{List}
use mathlib.Core.Bool.{Bool, true, not}
use mathlib.Core.Option.{Option, none, some}
use native.Mathlib.Omega.{arith}
use lib.ListN.{length, length-set}
use lib.Seq.{get_or-set_same, get_or-set_other}
use borrow.Author.Tests.{eq-eqb, not-false}
use Rattle.rules.specs.declared.Place.TheVariants.{Queue}
use Rattle.rules.specs.declared.Thread.{Thread}
use Rattle.rules.specs.declared.Chain.{Chain}
use Rattle.rules.specs.declared.Event.TheVariants.{Remove}
use Rattle.rules.specs.Tests.{member}
use Rattle.rules.specs.declared.Slice.{Slice}
use Rattle.rules.specs.State.{State, Plain, forget, free_slice, live_at, owner_at, live_thread_count, with_threads}
use Rattle.rules.specs.Walk.{walk}
use Rattle.rules.specs.Threads.{removed}
use Rattle.rules.specs.Timeslices.{own_of, without, struck}
use Rattle.rules.specs.Release.{behind}
use Rattle.rules.specs.Choice.{park}
use Rattle.rules.specs.Refusals.{refusal, above_limit}
use Rattle.rules.specs.Events.{after_walk, end_blocked, strike_out, remove}
use Rattle.rules.specs.Plain.{update, plain_threads, plain_strike}
use Rattle.rules.proofs.Basics.Views.{clash, Same, equal, different, same}
use Rattle.rules.proofs.Basics.Accepting.{passes}
use Rattle.rules.proofs.Order.Orders.{member_without, member_without_other, distinct_without, length_without, above_without}
use Rattle.rules.proofs.Order.Owners.{Own, owns, owns_none, own}
use Rattle.rules.proofs.Links.Frames.{cut_frame}
use Rattle.rules.proofs.Soundness.Places.{owner, Mid, Sound}
use Rattle.rules.proofs.Tables.Removals.{removed_count, removed_gone, removed_sane, removed_cuts, removed_holds, removed_live}
use Rattle.rules.proofs.Choosing.Releases.{Releasable, release_mid, forget_release}
use Rattle.rules.proofs.Choosing.Slices.{Retimed, retimed, freed, retimed_releasable}
use Rattle.rules.proofs.Events.Hands.{Handed}
use Rattle.rules.proofs.Events.Cutting.{CutAt, cut_handed}

-- the timeslice is gone, its slot is free, and the others keep records and order
module _ {s : State} (x : Mid s) (t : ℕ) (listed : member t s.order ≡ true) where
  struck_retimed : Retimed s.threads s.slices (struck t s.slices) s.order (without t s.order) t
  unfolding struck
  struck_retimed =
      let turns = x.shape.turns in
      let missing : member t (without t s.order) ≡ true → ⊥ =
      λ h. clash (member t (without t s.order)) h (member_without t s.order turns.once) in
      record {
        full = length-set s.slices t free_slice;
        once = distinct_without t s.order turns.once;
        small = turns.small t listed;
        range = λ h. absurd (missing h);
        live = λ h. absurd (missing h);
        own = λ h. absurd (missing h);
        gone = λ _. get_or-set_same s.slices t free_slice free_slice (rw turns.full (turns.small t listed));
        listed = λ u n. member_without_other t u s.order n;
        others = λ u n. get_or-set_other s.slices t u free_slice free_slice n;
        above = above_without s.slices t s.order;
      }

  after : State
  after = retimed (struck t s.slices) (without t s.order) t Queue s

  struck_releasable : Releasable (behind t) after
  unfolding after
  struck_releasable =
      let gone = member_without t s.order x.shape.turns.once in
      retimed_releasable x struck_retimed Queue
      (record {
        good = λ h. tt;
        spent = λ h. clash (member t (without t s.order)) h gone;
        free = λ h. refl;
      })
      (freed (eq-eqb t t refl)) refl refl

-- by what the thread owns: the machine is midway, the plain machine sees the same, and the thread owns nothing now
record Struck (s : State) (n : ℕ) (o : Option ℕ) : Type 0 where
  mid : Mid (strike_out o s)
  plain : forget (strike_out o s) ≡ plain_strike o (forget s)
  turns : length (strike_out o s).order ≤ length s.order
  owners : (u : ℕ) → member u (strike_out o s).order ≡ true → owner (strike_out o s) u ≡ n → ⊥

strikes : (s : State) → Mid s → (n : ℕ) → Own s.slices n s.order → Struck s n (own_of s.slices n s.order)
unfolding park after
strikes s x n (owns_none e others) = rw e (record { mid = x; plain = refl; turns = omega arith; owners = others })
strikes s x n (owns t e listed mine) =
    let plain = forget_release (behind t) (after x t listed) in
    let others : (u : ℕ) → member u (without t s.order) ≡ true → owner_at (struck t s.slices) u ≡ n → ⊥ =
    λ u h o. apart u h o (same u t) in
    rw e
    (record {
      mid = release_mid (behind t) (after x t listed) (struck_releasable x t listed);
      plain = plain;
      turns = omega (arith, length_without t s.order listed, ap (λ (p : Plain). length p.order) plain);
      owners = λ u h o. others u (rw (ap (λ (p : Plain). p.order) plain) at h) (rw (ap (λ (p : Plain). p.slices) plain) at o);
    })
  where
    apart : (u : ℕ) → member u (without t s.order) ≡ true → owner_at (struck t s.slices) u ≡ n → Same u t → ⊥
    apart u h o (equal z _) = clash (member t (without t s.order)) (rw z at h) (member_without t s.order x.shape.turns.once)
    apart u h o (different d _) =
        let r = struck_retimed x t listed in
        d (x.shape.turns.owners u t (sym (r.listed u d) ∙ h) listed
        (sym (ap (λ (y : Slice). y.owner) (r.others u d)) ∙ o ∙ sym mine))

-- the thread, which owns nothing now, is cut off
cuts : (s : State) → Mid s → (n : ℕ) → live_at s.threads n ≡ true → ((u : ℕ) → member u s.order ≡ true → owner s u ≡ n → ⊥)
    → CutAt s (removed n s.threads) n
cuts s x n live owners =
    let sane = x.shape.sane in
    record {
      threads =
          record {
            sane = removed_sane sane n live;
            owners = λ t h. removed_live sane n live (owner s t) (owners t h) (x.shape.turns.owner t h);
            frame = cut_frame (removed_cuts sane n live);
          };
      holds = removed_holds sane n live;
      gone = λ _ l. clash (live_at (removed n s.threads) n) l (removed_gone sane n live);
    }

-- after the timeslice is struck out, with the threads of before
removes : (s₀ s : State) (n : ℕ) → Mid s → s.threads ≡ s₀.threads → length s.order ≤ length s₀.order
    → ((u : ℕ) → member u s.order ≡ true → owner s u ≡ n → ⊥) → live_at s₀.threads n ≡ true
    → (c : Chain) → c ≡ walk s₀.threads n → (b : Bool) → b ≡ end_blocked c s₀.threads
    → Handed s₀ (after_walk c b (with_threads (removed n s₀.threads) s)) (plain_threads (removed n s₀.threads) (forget s))
removes s₀ s n x e turns owners live c is b blocked =
    let live_now : live_at s.threads n ≡ true = rw e live in
    let as_many : live_thread_count s.threads ≡ live_thread_count s₀.threads = ap live_thread_count e in
    let cut : CutAt s (removed n s₀.threads) n = subst (λ (ts : List Thread). CutAt s (removed n ts) n) e (cuts s x n live_now owners) in
    cut_handed x cut live_now (omega arith) (omega (arith, removed_count s₀.threads n live)) turns
    c (is ∙ ap (λ (ts : List Thread). walk ts n) (sym e)) b (blocked ∙ ap (end_blocked c) (sym e))

pub remove_handed : (s : State) → Sound s → (n : ℕ) → refusal (Remove n) (forget s) ≡ 0
    → Handed s (remove n s) (update (Remove n) (forget s))
unfolding remove
remove_handed s x n e =
    let a = passes (above_limit n) 1 _ e in
    let b = passes (not (live_at s.threads n)) 3 0 a.1 in
    let o = own_of s.slices n s.order in
    let z = strikes s x.mid n (own s.slices n s.order) in
    subst
    (λ (p : Plain). Handed s (remove n s) (plain_threads (removed n s.threads) p)) z.plain
    (removes s (strike_out o s) n z.mid (threads_kept o z.plain) z.turns z.owners (not-false (live_at s.threads n) b.0)
    _ refl _ refl)
  where
    threads_kept : (o : Option ℕ) → forget (strike_out o s) ≡ plain_strike o (forget s) → (strike_out o s).threads ≡ s.threads
    threads_kept none q = refl
    threads_kept (some t) q = ap (λ (p : Plain). p.threads) q
