-- Along the entries of a list of timeslices: the first that a thread owns, and a test of each.
use Prim.Native.Nat.{ℕ, ◌+◌, ◌≤◌, ◌<◌}
use native.Mathlib.Numerals.{add-one}
use mathlib.Core.Path.{◌≡◌, refl}
use mathlib.Core.List.{List}
use mathlib.Core.Bool.{Bool, true, false}
use mathlib.Core.Option.{none, some}
use lib.ListN.{length, get_or, drop, drop_of_length-le}
use lib.Seq.{drop-cons}
use borrow.Author.Tests.{eq-eqb, ne_eqb}
use Rattle.rules.specs.declared.Slice.{Slice}
use Rattle.rules.specs.Tests.{all}
use Rattle.rules.specs.State.{owner_at}
use Rattle.rules.specs.Timeslices.{own_of}

module _ (slices : List Slice) (n : ℕ) (turns : List ℕ) (i : ℕ) where
  module _ (short : i < length turns) where
    abbrev this : ℕ
    this = get_or turns i 0

    pub own_here : owner_at slices this ≡ n → some this ≡ own_of slices n (drop i turns)
    unfolding own_of
    own_here owns = rw (drop-cons turns i 0 short, eq-eqb _ _ owns) refl

    pub own_later : (owner_at slices this ≡ n → ⊥) → own_of slices n (drop i turns) ≡ own_of slices n (drop (i + 1) turns)
    unfolding own_of
    own_later other = rw (add-one, drop-cons turns i 0 short, ne_eqb _ _ other) refl

  pub own_none : length turns ≤ i → none ≡ own_of slices n (drop i turns)
  unfolding own_of
  own_none past = rw (drop_of_length-le turns {i = i} past) refl

module _ (f : ℕ → Bool) (turns : List ℕ) (i : ℕ) where
  module _ (short : i < length turns) where
    pub all_here : f (get_or turns i 0) ≡ false → false ≡ all f (drop i turns)
    unfolding all
    all_here fails = rw (drop-cons turns i 0 short, fails) refl

    pub all_later : f (get_or turns i 0) ≡ true → all f (drop i turns) ≡ all f (drop (i + 1) turns)
    unfolding all
    all_later passes = rw (add-one, drop-cons turns i 0 short, passes) refl

  pub all_none : length turns ≤ i → true ≡ all f (drop i turns)
  unfolding all
  all_none past = rw (drop_of_length-le turns {i = i} past) refl
