-- Reading step by step: what is left of the turn order from an entry on is its neighbour, and then what is left from there.
use Prim.Native.Nat.{ℕ, zero, suc, ◌+◌, ◌-◌, ◌≤◌, ◌<◌}
use mathlib.Core.Path.{◌≡◌, refl, sym, ◌∙◌, ap, ap₂, subst}
use mathlib.Core.List.{List, [], ◌∷◌, ◌++◌, append-nil}
use native.Mathlib.Omega.{arith}
use native.Mathlib.Numerals.{add-one}
use lib.ListN.{length, get_or, set, take, drop, replicate, length-append, length-replicate}
use lib.Seq.{take-suc, drop-cons, append_snoc, length-take-le, set_at, take_at, take_all}
use mathlib.Core.Bool.{cond}
use lib.Dec.{leb, ltb}
use borrow.Author.Tests.{leb-true, leb-false, ltb-true, ltb-false}
use Rattle.std.proofs.lemmas.List.{get_or_default, get_or_past}
use Rattle.rules.specs.State.{limit}
use Rattle.rules.proofs.Basics.Views.{Two, yes_true, no_false, two}
use Rattle.tables.specs.Turning.{entries_of}
use Rattle.neighbours.specs.Sides.{sentinel, room, unlisted, neighbour}
use Rattle.neighbours.specs.Reading.{turns_from, turns_read, laid_out}

-- an entry read with what stands past the list's own entry
pub neighbour_is : (side : List ℕ) (t : ℕ) → length side ≡ room → get_or side t unlisted ≡ neighbour side t
unfolding neighbour
neighbour_is side t full = go (two (ltb t room))
  where
    go : Two (ltb t room) → get_or side t unlisted ≡ cond (ltb t room) (get_or side t 0) unlisted
    go (yes_true e) = let inside = ltb-true t room e in rw e (get_or_default side t unlisted 0 (omega arith))
    go (no_false e) = let past = ltb-false t room e in rw e (get_or_past side t unlisted (omega arith))

pub length-turns : (n : ℕ) (after : List ℕ) (t : ℕ) → length (turns_from n after t) ≡ n
unfolding turns_from
length-turns zero after t = refl
length-turns (suc n) after t = ap suc (length-turns n after (neighbour after t))

-- one step
pub turn_from : (n : ℕ) (after : List ℕ) (t u : ℕ) → 0 < n → u ≡ neighbour after t → turns_from n after t ≡ u ∷ turns_from (n - 1) after u
unfolding turns_from
turn_from zero after t u some e = absurd (omega arith)
turn_from (suc n) after t u some e = let less : suc n - 1 ≡ n = omega arith in rw (e, less) refl

pub no_turn : (n : ℕ) (after : List ℕ) (t : ℕ) → n ≤ 0 → turns_from n after t ≡ []
unfolding turns_from
no_turn zero after t e = refl
no_turn (suc n) after t e = absurd (omega arith)

-- a loop along the neighbours: what is left decides the whole
pub record Along {A : Type 0} (f : List ℕ → A) (after : List ℕ) (live left at : ℕ) : Type 0 where
  pub whole : f (turns_from left after at) ≡ f (turns_read after live)

module _ {A : Type 0} (f : List ℕ → A) (after : List ℕ) (live : ℕ) where
  pub begin : (n : ℕ) → n ≡ entries_of live → Along f after live n sentinel
  begin n e = record { whole = ap (λ (k : ℕ). f (turns_from k after sentinel)) e }

  -- the timeslice that stands here, and what is left after it
  pub here : (left at t : ℕ) → Along f after live left at → 0 < left → t ≡ neighbour after at
      → f (t ∷ turns_from (left - 1) after t) ≡ f (turns_read after live)
  here left at t a some e = ap f (sym (turn_from left after at t some e)) ∙ a.whole

  -- it is passed over
  pub next : (left at t : ℕ) → Along f after live left at → 0 < left → t ≡ neighbour after at
      → f (turns_from (left - 1) after t) ≡ f (t ∷ turns_from (left - 1) after t)
      → Along f after live (left - 1) t
  next left at t a some e same = record { whole = same ∙ here left at t a some e }

  -- in a loop `for _ in 0..n`, in its turn i
  pub here_for : (n i at t : ℕ) → Along f after live (n - i) at → i < n → t ≡ neighbour after at
      → f (t ∷ turns_from (n - (i + 1)) after t) ≡ f (turns_read after live)
  here_for n i at t a short e =
      let one : n - i - 1 ≡ n - (i + 1) = omega arith in
      ap (λ (k : ℕ). f (t ∷ turns_from k after t)) (sym one) ∙ here (n - i) at t a (omega arith) e

  pub next_for : (n i at t : ℕ) → Along f after live (n - i) at → i < n → t ≡ neighbour after at
      → f (turns_from (n - (i + 1)) after t) ≡ f (t ∷ turns_from (n - (i + 1)) after t)
      → Along f after live (n - (i + 1)) t
  next_for n i at t a short e same = record { whole = same ∙ here_for n i at t a short e }

  -- from the index of an entry
  pub from_index : (left t k : ℕ) → Along f after live left t → k ≡ t → Along f after live left k
  from_index left t k a e = subst (λ (j : ℕ). Along f after live left j) (sym e) a

  pub out : (left at : ℕ) → Along f after live left at → left ≤ 0 → f [] ≡ f (turns_read after live)
  out left at a none_left = ap f (sym (no_turn left after at none_left)) ∙ a.whole

-- what is left of the turn order after i steps
pub record Read (after : List ℕ) (live n at i : ℕ) : Type 0 where
  pub last : n ≡ entries_of live
  pub inside : i ≤ n
  pub left : turns_from (n - i) after at ≡ drop i (turns_read after live)

module _ (after : List ℕ) (live n : ℕ) where
  pub read_none : n ≡ entries_of live → Read after live n sentinel 0
  read_none e =
      let all : n - 0 ≡ entries_of live = omega (arith, e) in
      record { last = e; inside = omega arith; left = ap (λ (k : ℕ). turns_from k after sentinel) all }

  module _ (at i t : ℕ) (r : Read after live n at i) (short : i < n) (e : t ≡ neighbour after at) where
    long : i < length (turns_read after live)
    long = rw (length-turns (entries_of live) after sentinel) (omega (arith, r.last))

    both_ways : t ∷ turns_from (n - i - 1) after t ≡ get_or (turns_read after live) i 0 ∷ drop (suc i) (turns_read after live)
    both_ways = sym (turn_from (n - i) after at t (omega arith) e) ∙ r.left ∙ drop-cons (turns_read after live) i 0 long

    -- the next timeslice of the turn order
    pub read_this : t ≡ get_or (turns_read after live) i 0
    read_this = cc both_ways

    pub read_one : Read after live n t (i + 1)
    read_one =
        let rest : turns_from (n - i - 1) after t ≡ drop (suc i) (turns_read after live) = cc both_ways in
        let fewer : n - (i + 1) ≡ n - i - 1 = omega arith in
        record { last = r.last; inside = omega arith; left = rw (fewer, add-one i) rest }

-- the turn order put into an array of 128 entries, of which i are filled
pub record Laid (turns order : List ℕ) (i : ℕ) : Type 0 where
  pub exact : order ≡ take i turns ++ replicate (limit - i) 0

pub lay_none : (turns : List ℕ) → Laid turns (replicate limit 0) 0
lay_none turns = record { exact = refl }

pub lay_one : (turns order : List ℕ) (i t : ℕ) → Laid turns order i → i < length turns → i < limit → t ≡ get_or turns i 0
    → Laid turns (set order i t) (i + 1)
lay_one turns order i t l inside short e =
    let more : limit - i ≡ suc (limit - (i + 1)) = omega arith in
    record {
      exact =
          rw (l.exact, more, set_at (take i turns) 0 (replicate (limit - (i + 1)) 0) t i (length-take-le i turns (omega arith)))
          (sym (append_snoc (take i turns) t (replicate (limit - (i + 1)) 0))
          ∙ ap (λ (l : List ℕ). l ++ replicate (limit - (i + 1)) 0)
          (ap (λ (u : ℕ). take i turns ++ (u ∷ [])) e ∙ sym (take-suc turns i 0 inside) ∙ ap (λ (k : ℕ). take k turns) (sym (add-one i))));
    }

pub lay_all : (after : List ℕ) (live i : ℕ) (order : List ℕ) → Laid (turns_read after live) order i → i ≡ entries_of live
    → order ≡ laid_out after live
lay_all after live i order l e =
    l.exact
    ∙ ap₂ ◌++◌ (take_all i (turns_read after live) (omega (arith, length-turns (entries_of live) after sentinel)))
    (ap (λ (k : ℕ). replicate (limit - k) 0) e)

-- an array of 128 entries, of which the first are the turn order
pub length-laid : (after : List ℕ) (live : ℕ) → length (laid_out after live) ≡ limit
length-laid after live =
    length-append (turns_read after live) (replicate (limit - entries_of live) 0)
    ∙ ap₂ ◌+◌ (length-turns (entries_of live) after sentinel) (length-replicate (limit - entries_of live) 0)
    ∙ omega arith

pub take-laid : (after : List ℕ) (live : ℕ) → take live (laid_out after live) ≡ turns_read after live
take-laid after live = by (two (leb live limit))
  where
    by : Two (leb live limit) → take live (laid_out after live) ≡ turns_read after live
    by (yes_true e) =
        let fits = leb-true live limit e in
        let all : length (turns_read after live) ≡ live = length-turns (entries_of live) after sentinel ∙ omega arith in
        take_at (turns_read after live) (replicate (limit - entries_of live) 0) live all
    by (no_false e) =
        let past = leb-false live limit e in
        let none_left : limit - entries_of live ≡ 0 = omega arith in
        take_all live (laid_out after live) (omega (arith, length-laid after live))
        ∙ ap (λ (k : ℕ). turns_read after live ++ replicate k 0) none_left ∙ append-nil (turns_read after live)
