-- The walk as a loop: what is left to walk from here is the whole walk.
use Prim.Native.Nat.{ℕ, suc, ◌+◌, ◌-◌, ◌≤◌, ◌<◌}
use mathlib.Core.Path.{◌≡◌, refl, sym, ◌∙◌, ap}
use mathlib.Core.List.{List}
use mathlib.Core.Bool.{Bool, true, false, not}
use mathlib.Core.Logic.{◌⊎◌, ⊎_elim}
use native.Mathlib.Omega.{arith}
use lib.Dec.{eqb}
use borrow.Author.Tests.{eqb-true, eqb-false, not-true, not-false}
use Rattle.std.specs.Prelude.{Some, None}
use Rattle.rules.specs.declared.Hold.{Hold}
use Rattle.rules.specs.declared.Hold.TheVariants.{Ready, Idle, Blocked, Calling, Helping}
use Rattle.rules.specs.declared.Thread.{Thread}
use Rattle.rules.specs.declared.Chain.{Chain}
use Rattle.rules.specs.State.{hold_at, live_thread_count}
use Rattle.rules.specs.Walk.{walk_from, walk, follow, no_links, ended, loop}

-- the links so far, of which the code's chain has the counts
abbrev pub so_far : Chain → Chain
so_far c =
    record {
      looped = false;
      end = 0;
      links = c.links;
      count = c.count;
      helper = c.helper;
      helping = c.helping;
      last = c.last;
    }

-- after the chain c, at this thread; the livelock test says whether a link is left to spend
pub record Walked (ts : List Thread) (live from : ℕ) (c : Chain) (at : ℕ) : Type 0 where
  pub spent : c.links ≤ live
  pub counted : c.count ≤ c.links
  pub helps : c.helping ≤ c.links
  pub rest : walk_from (live - c.links) ts at (so_far c) ≡ walk_from live ts from no_links
  pub nowhere : c.end ≡ 0
  pub tested : c.looped ≡ eqb c.links live

spends_none : (ts : List Thread) (n : ℕ) (c : Chain) → walk_from 0 ts n c ≡ loop c
unfolding walk_from
spends_none ts n c = refl

step : (left : ℕ) (ts : List Thread) (n : ℕ) (c : Chain)
    → walk_from (suc left) ts n c ≡ follow (λ m d. walk_from left ts m d) n c (hold_at ts n)
unfolding walk_from
step left ts n c = refl

-- a thread that is neither Calling nor Helping ends the chain
abbrev pub Unlinked : Hold → Type 0
Unlinked h = (h ≡ Ready) ⊎ ((h ≡ Idle) ⊎ (h ≡ Blocked))

ends : (go : ℕ → Chain → Chain) (n : ℕ) (c : Chain) (h : Hold) → Unlinked h → follow go n c h ≡ ended n c
ends go n c h e = ⊎_elim (λ x. rw x refl) (⊎_elim (λ x. rw x refl) (λ x. rw x refl)) e

module _ (ts : List Thread) (live from : ℕ) (c : Chain) (at : ℕ) (w : Walked ts live from c at) where
  pub left : not c.looped ≡ true → c.links < live
  left unspent = let other = eqb-false c.links live (sym w.tested ∙ not-true _ unspent) in omega (arith, w.spent)

  -- a link is left to spend, at a thread with this hold
  pub next : not c.looped ≡ true → (h : Hold) → h ≡ hold_at ts at
      → follow (λ m d. walk_from (live - (c.links + 1)) ts m d) at (so_far c) h ≡ walk_from live ts from no_links
  next unspent h e =
      let short = left unspent in
      let one : live - c.links ≡ suc (live - (c.links + 1)) = omega arith in
      rw e (sym (step (live - (c.links + 1)) ts at (so_far c)) ∙ (rw one at w.rest))

  -- the chain ends here
  pub end : not c.looped ≡ true → (h : Hold) → h ≡ hold_at ts at → Unlinked h
      → record { looped = c.looped; end = at; links = c.links; count = c.count; helper = c.helper; helping = c.helping; last = c.last }
      ≡ walk_from live ts from no_links
  end unspent h e none =
      rw (not-true _ unspent)
      (sym (ends (λ m d. walk_from (live - (c.links + 1)) ts m d) at (so_far c) h none) ∙ next unspent h e)

  -- a link is followed
  pub calls : not c.looped ≡ true → (server : ℕ) → Calling server ≡ hold_at ts at
      → Walked ts live from
      (record {
        looped = eqb (c.links + 1) live;
        end = c.end;
        links = c.links + 1;
        count = c.count + 1;
        helper = c.helper;
        helping = c.helping;
        last = Some at;
      }) server
  calls unspent server e =
      let short = left unspent in
      record {
        spent = omega arith;
        counted = omega (arith, w.counted);
        helps = omega (arith, w.helps);
        rest = next unspent (Calling server) e;
        nowhere = w.nowhere;
        tested = refl;
      }

  pub helps : not c.looped ≡ true → (server : ℕ) → Helping server ≡ hold_at ts at
      → Walked ts live from
      (record {
        looped = eqb (c.links + 1) live;
        end = c.end;
        links = c.links + 1;
        count = 0;
        helper = at;
        helping = c.helping + 1;
        last = Some at;
      }) server
  helps unspent server e =
      let short = left unspent in
      record {
        spent = omega arith;
        counted = omega arith;
        helps = omega (arith, w.helps);
        rest = next unspent (Helping server) e;
        nowhere = w.nowhere;
        tested = refl;
      }

  -- no link is left to spend
  pub out : not c.looped ≡ false
      → record { looped = c.looped; end = c.end; links = c.links; count = 0; helper = 0; helping = c.helping; last = None }
      ≡ walk_from live ts from no_links
  out shut =
      let all = eqb-true c.links live (sym w.tested ∙ not-false _ shut) in
      let none : live - c.links ≡ 0 = omega arith in
      rw (not-false _ shut, w.nowhere) (sym (spends_none ts at (so_far c)) ∙ (rw none at w.rest))

pub start : (ts : List Thread) (live from : ℕ) → (looped : Bool) → looped ≡ eqb 0 live
    → Walked ts live from (record { looped = looped; end = 0; links = 0; count = 0; helper = 0; helping = 0; last = None }) from
start ts live from looped e =
    record {
      spent = omega arith;
      counted = omega arith;
      helps = omega arith;
      rest = ap (λ (k : ℕ). walk_from k ts from no_links) (omega arith);
      nowhere = refl;
      tested = e;
    }

-- with L links to spend it is document 01's walk
pub walks : (ts : List Thread) (live from : ℕ) (c : Chain) → live ≡ live_thread_count ts → c ≡ walk_from live ts from no_links
    → c ≡ walk ts from
unfolding walk
walks ts live from c counted is = is ∙ ap (λ (k : ℕ). walk_from k ts from no_links) counted
