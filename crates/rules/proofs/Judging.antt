-- Judging makes retries and says what runs: what neither changes, the plain machine has after it as before.
use Prim.Native.Nat.{ℕ, zero, suc}
use mathlib.Core.Path.{◌≡◌, refl, ◌∙◌}
use mathlib.Core.Option.{Option, none, some}
use Rattle.rules.specs.declared.Running.{Running}
use Rattle.rules.specs.declared.Chain.{Chain}
use Rattle.rules.specs.State.{Plain, live_at}
use Rattle.rules.specs.Walk.{chain_of, verdict, Verdict, runs, retries, waits, stalls}
use Rattle.rules.specs.Threads.{donate}
use Rattle.rules.specs.Plain.{plain_threads, plain_running, judge_by, judge_top, topmost_runnable, judge_from, judge}
use Rattle.rules.proofs.Tables.Writes.{donate_relabels}

module _ {B : Type 0} (f : Plain → B)
    (donation : (caller server : ℕ) (p : Plain) → f (plain_threads (donate caller server p.threads) p) ≡ f p)
    (running : (r : Running) (p : Plain) → f (plain_running r p) ≡ f p) where
  judged_by : (k : ℕ) (p : Plain) → ((q : Plain) → f (judge_from k q) ≡ f q) → (t : ℕ) (c : Chain) (v : Verdict)
      → f (judge_by (λ q. judge_from k q) p t c v) ≡ f p
  judged_by k p ih t c runs = running _ p
  judged_by k p ih t c retries =
      ih (plain_threads (donate c.helper c.end p.threads) p) ∙ donation c.helper c.end p
  judged_by k p ih t c waits = refl
  judged_by k p ih t c stalls = refl

  judged_top : (k : ℕ) (p : Plain) → ((q : Plain) → f (judge_from k q) ≡ f q) → (o : Option ℕ)
      → f (judge_top (λ q. judge_from k q) p o) ≡ f p
  judged_top k p ih none = running _ p
  judged_top k p ih (some t) =
      let c = chain_of p.threads p.slices t in
      judged_by k p ih t c (verdict p.threads c)

  judged : (k : ℕ) (p : Plain) → f (judge_from k p) ≡ f p
  unfolding judge_from
  judged zero p = refl
  judged (suc k) p = judged_top k p (judged k) (topmost_runnable p)

  pub judge_keeps : (p : Plain) → f (judge p) ≡ f p
  unfolding judge
  judge_keeps p = judged _ p

pub judge_slices : (p : Plain) → (judge p).slices ≡ p.slices
judge_slices = judge_keeps (λ (p : Plain). p.slices) (λ a b p. refl) (λ r p. refl)

pub judge_order : (p : Plain) → (judge p).order ≡ p.order
judge_order = judge_keeps (λ (p : Plain). p.order) (λ a b p. refl) (λ r p. refl)

pub judge_live : (n : ℕ) (p : Plain) → live_at (judge p).threads n ≡ live_at p.threads n
judge_live n =
    judge_keeps (λ (p : Plain). live_at p.threads n) (λ a b p. (donate_relabels p.threads a b).live n) (λ r p. refl)
