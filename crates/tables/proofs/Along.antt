-- A loop along the turn order, from an entry on, that computes a recursive test: what is left to test from here gives the whole.
use Prim.Native.Nat.{ℕ, suc, ◌+◌, ◌≤◌, ◌<◌}
use mathlib.Core.Path.{◌≡◌, refl, sym, ◌∙◌, ap}
use mathlib.Core.List.{List, [], ◌∷◌}
use mathlib.Core.Bool.{Bool, true, false}
use native.Mathlib.Omega.{arith}
use native.Mathlib.Numerals.{add-one}
use lib.ListN.{length, get_or, take, drop}
use Rattle.rules.specs.Tests.{all}
use Rattle.tables.specs.Turning.{entries_of}
use Rattle.tables.proofs.Lookups.{turn, turns_out}

module _ {A : Type 0} (f : List ℕ → A) (live : ℕ) (order : List ℕ) (from : ℕ) where
  -- at entry i of n
  pub record AlongFrom (n i : ℕ) : Type 0 where
    pub last : n ≡ entries_of live
    pub rest : f (drop i (take live order)) ≡ f (drop from (take live order))

  pub begin_at : (n : ℕ) → n ≡ entries_of live → AlongFrom n from
  begin_at n e = record { last = e; rest = refl }

-- the whole turn order
abbrev pub Along : {A : Type 0} → (List ℕ → A) → ℕ → List ℕ → ℕ → ℕ → Type 0
Along f live order n i = AlongFrom f live order 0 n i

module _ {A : Type 0} (f : List ℕ → A) (live : ℕ) (order : List ℕ) where
  pub begin : (n : ℕ) → n ≡ entries_of live → Along f live order n 0
  begin n e = begin_at f live order 0 n e

module _ {A : Type 0} (f : List ℕ → A) (live : ℕ) (order : List ℕ) {from : ℕ} (n i : ℕ) (full : length order ≡ 128)
    (a : AlongFrom f live order from n i) where
  -- the entry and what follows it give the whole
  pub here : i < n → f (get_or order i 0 ∷ drop (suc i) (take live order)) ≡ f (drop from (take live order))
  here short = sym (ap f (turn order live i full (omega (arith, a.last)))) ∙ a.rest

  -- the entry does not decide
  pub next : i < n → f (drop (suc i) (take live order)) ≡ f (get_or order i 0 ∷ drop (suc i) (take live order))
      → AlongFrom f live order from n (i + 1)
  next short e = record { last = a.last; rest = rw add-one (e ∙ here short) }

  pub out : n ≤ i → f [] ≡ f (drop from (take live order))
  out past = rw (turns_out order live i full (omega (arith, a.last))) at a.rest

-- a test of every entry
module _ (f : ℕ → Bool) (live : ℕ) (order : List ℕ) (n i : ℕ) (full : length order ≡ 128) (a : Along (λ l. all f l) live order n i) where
  -- an entry passes
  pub all_more : (r : Bool) → i < n → r ≡ f (get_or order i 0) → r ≡ true → Along (λ l. all f l) live order n (i + 1)
  unfolding all
  all_more r short e h =
      let yes : f (get_or order i 0) ≡ true = sym e ∙ h in
      next (λ l. all f l) live order n i full a short (rw yes refl)

  -- an entry fails
  pub all_fails : (r : Bool) → i < n → r ≡ f (get_or order i 0) → r ≡ false → false ≡ all f (take live order)
  unfolding all
  all_fails r short e h =
      let no : f (get_or order i 0) ≡ false = sym e ∙ h in
      rw no at (here (λ l. all f l) live order n i full a short)

  pub all_passed : n ≤ i → true ≡ all f (take live order)
  unfolding all
  all_passed past = out (λ l. all f l) live order n i full a past
