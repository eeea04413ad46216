-- The rounds of the judging: those that are left, from the machine reached, come to what all of them come to from the first.
use Prim.Native.Nat.{ℕ, suc, ◌+◌, ◌-◌, ◌≤◌, ◌<◌}
use native.Mathlib.Omega.{arith}
use mathlib.Core.Path.{◌≡◌, refl, sym, ap, ap₂, ◌∙◌}
use mathlib.Core.List.{List}
use mathlib.Core.Logic.{◌⊎◌, inl, inr}
use mathlib.Core.Option.{Option, none, some}
use Rattle.rules.specs.declared.Chain.{Chain}
use Rattle.rules.specs.declared.Running.TheVariants.{Nothing, Runs}
use Rattle.rules.specs.declared.Thread.{Thread}
use Rattle.rules.specs.State.{Plain, live_thread_count, slice_at}
use Rattle.rules.specs.declared.Slice.{Slice}
use Rattle.rules.specs.Walk.{walk, chain_of, verdict, Verdict, runs, retries, waits, stalls}
use Rattle.rules.specs.Threads.{donate}
use Rattle.rules.specs.Plain.{plain_running, judge_by, judge_top, topmost_runnable, judge_from, judge}
use Rattle.tables.specs.declared.ends.Verdict.{Verdict as Said}
use Rattle.tables.specs.declared.ends.Verdict.TheVariants.{Waits, Stalls}
use Rattle.tables.specs.Verdicts.{verdict_of}
use Rattle.plain_engine.specs.declared.PlainMachine.{PlainMachine}
use Rattle.plain_engine.specs.Shown.{plain_shown}

abbrev pub Judging : Plain → ℕ → PlainMachine → Type 0
Judging all rounds m = judge_from rounds (plain_shown m) ≡ all

pub begin : (m : PlainMachine) (lives : ℕ) → lives ≡ live_thread_count m.threads → Judging (judge (plain_shown m)) (lives + 1 - 0) m
unfolding judge
begin m lives e = let all : lives + 1 - 0 ≡ suc (live_thread_count m.threads) = omega (arith, e) in rw all refl

-- no round is left
pub out : {all : Plain} (last done : ℕ) (m : PlainMachine) → Judging all (last - done) m → last ≤ done → plain_shown m ≡ all
unfolding judge_from
out last done m j past = let none_left : last - done ≡ 0 = omega arith in rw none_left at j

-- other threads
abbrev threads_to : List Thread → PlainMachine → PlainMachine
threads_to ths m = record { threads = ths; slices = m.slices; order = m.order; live = m.live; running = m.running }

-- one round after those done, by the topmost that may run
module _ {all : Plain} (last done : ℕ) (m : PlainMachine) (j : Judging all (last - done) m) (some_left : done < last) where
  abbrev later : ℕ
  later = last - (done + 1)

  round : (o : Option ℕ) → o ≡ topmost_runnable (plain_shown m)
      → judge_top (λ q. judge_from later q) (plain_shown m) o ≡ all
  unfolding judge_from
  round o e =
      let next : suc later ≡ last - done = omega arith in
      ap (judge_top (λ q. judge_from later q) (plain_shown m)) e ∙ ap (λ (k : ℕ). judge_from k (plain_shown m)) next ∙ j

  -- none
  pub nothing_runs_lem : (o : Option ℕ) → o ≡ topmost_runnable (plain_shown m) → o ≡ none
      → plain_running Nothing (plain_shown m) ≡ all
  nothing_runs_lem o e is = rw is at (round o e)

  -- timeslice t, with its chain and what the chain's end says
  module _ (o : Option ℕ) (e : o ≡ topmost_runnable (plain_shown m)) (t : ℕ) (is : o ≡ some t) (x : Slice) (read : x ≡ slice_at m.slices t)
      (c : Chain) (walked : c ≡ walk m.threads x.owner) (v : Verdict) (said : v ≡ verdict m.threads c) where
    by : (w : Verdict) → v ≡ w → judge_by (λ q. judge_from later q) (plain_shown m) t c w ≡ all
    by w s =
        let chain : c ≡ chain_of m.threads m.slices t = walked ∙ ap (λ (y : Slice). walk m.threads y.owner) read in
        let end : w ≡ verdict m.threads (chain_of m.threads m.slices t) = sym s ∙ said ∙ ap (verdict m.threads) chain in
        ap₂ (judge_by (λ q. judge_from later q) (plain_shown m) t) chain end ∙ rw is at (round o e)

    pub one_runs : v ≡ runs → plain_running (Runs c.end t c.count) (plain_shown m) ≡ all
    one_runs s = by runs s

    pub one_retries : (ths : List Thread) → v ≡ retries → ths ≡ donate c.helper c.end m.threads
        → Judging all (last - (done + 1)) (threads_to ths m)
    one_retries ths s new = ap (λ (l : List Thread). judge_from later (plain_shown (threads_to l m))) new ∙ by retries s

    -- it does not arise, since the topmost may run
    pub one_stays : (f : Said) → (f ≡ Waits) ⊎ (f ≡ Stalls) → v ≡ verdict_of f → plain_shown m ≡ all
    one_stays f (inl e) s = by waits (s ∙ ap verdict_of e)
    one_stays f (inr e) s = by stalls (s ∙ ap verdict_of e)
