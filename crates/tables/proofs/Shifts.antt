-- Leaving the turn order, or going to its back: the first entry that holds the timeslice is found, and the later ones move up by one.
use Prim.Native.Nat.{ℕ, suc, ◌+◌, ◌-◌, ◌≤◌, ◌<◌}
use mathlib.Core.Path.{◌≡◌, refl, sym, ◌∙◌, ap}
use mathlib.Core.List.{List, [], ◌∷◌, ◌++◌}
use mathlib.Core.Bool.{true, false}
use native.Mathlib.Omega.{arith}
use native.Mathlib.Numerals.{add-one}
use lib.ListN.{length, get_or, set, take, drop, length-set, length-drop, length-take}
use lib.Seq.{take-paste, drop-paste, get_or-set_other, get_or-drop}
use lib.Dec.{eqb}
use borrow.Author.Tests.{lt-ltb, le-ltb}
use Rattle.std.specs.Prelude.{Option, Some, None}
use Rattle.std.specs.List.{position, position_or_len, copy_within}
use Rattle.std.proofs.lemmas.List.{take-take, take_more_set}
use Rattle.rules.specs.Tests.{member}
use Rattle.rules.specs.Timeslices.{without, last}
use Rattle.rules.proofs.Basics.Views.{Same, equal, different, same}
use Rattle.tables.specs.Turning.{entries_of, Position, listed, absent, Shifted, TakenOut}
use Rattle.tables.proofs.Lookups.{take-entries, part, eqb_swap}

module _ (t : ℕ) where
  -- entry i of the list is the first that holds t, or i is past the list, which does not hold it
  pub data First (l : List ℕ) (i : ℕ) : Type 0 where
    stands : i < length l → member t l ≡ true → without t l ≡ take i l ++ drop (suc i) l → First l i
    nowhere : i ≡ length l → member t l ≡ false → First l i

  abbrev at : List ℕ → ℕ
  at l = position_or_len (λ u. eqb u t) l

  behind : (x : ℕ) (l : List ℕ) (i : ℕ) → eqb x t ≡ false → First l i → First (x ∷ l) (1 + i)
  unfolding member without
  behind x l i off (stands short m others) =
      let one : 1 + i ≡ suc i = omega arith in
      rw one (stands (omega arith) (rw (eqb_swap t x, off) m) (rw off (ap (λ (r : List ℕ). x ∷ r) others)))
  behind x l i off (nowhere end m) = nowhere (omega arith) (rw (eqb_swap t x, off) m)

  pub first : (l : List ℕ) → First l (at l)
  unfolding member without
  first [] = nowhere refl refl
  first (x ∷ l) = go (same x t) (first l)
    where
      go : Same x t → First l (at l) → First (x ∷ l) (at (x ∷ l))
      go (equal e on) later = rw on (stands (omega arith) (rw (eqb_swap t x, on) refl) (rw on refl))
      go (different e off) later = rw off (behind x l (at l) off later)

-- what `position` finds
abbrev pub Found : ℕ → ℕ → List ℕ → Option ℕ → Type 0
Found t live order (Some i) = (i < entries_of live) × Position t live order i
Found t live order None = Position t live order (entries_of live)

pub found : (t live : ℕ) (order : List ℕ) → length order ≡ 128
    → (r : Option ℕ) → r ≡ position (λ u. eqb u t) (take (entries_of live) order) → Found t live order r
found t live order full r is = rw is (go (first t listing))
  where
    listing : List ℕ
    listing = take (entries_of live) order

    go : First t listing (at t listing) → Found t live order (position (λ u. eqb u t) listing)
    go (stands short m others) =
        let long = length-take (entries_of live) order in
        let whole = take-entries order live full in
        let i = at t listing in
        let before : take i listing ≡ take i order = take-take i (entries_of live) order (omega arith) in
        let left_out = others ∙ ap (λ (l : List ℕ). l ++ drop (suc i) listing) before in
        rw (lt-ltb _ _ short) (omega arith, listed (rw whole m) (omega arith) (rw whole left_out))
    go (nowhere end m) =
        let whole = take-entries order live full in
        rw (le-ltb (at t listing) (length listing) (omega arith)) (absent (rw whole m) (omega arith))

-- the later entries are copied one place forward, and z is put behind them
pub shifts : (z live : ℕ) (order : List ℕ) (i n : ℕ) (moved : List ℕ) → length order ≡ 128 → n ≡ entries_of live → i < n
    → moved ≡ copy_within order (i + 1) n i → length moved ≡ length order → Shifted z live order i (set moved (n - 1) z)
shifts z live order i n moved full e short is size =
    let m = n - (i + 1) in
    let later = drop (i + 1) order in
    let fits : m ≤ length later = omega (arith, length-drop (i + 1) order) in
    let end : n - 1 ≡ i + m = omega arith in
    let head : take (n - 1) moved ≡ take i order ++ take m later = rw (is, end) (take-paste order i later m (omega arith) fits) in
    let tail : drop (n - 1) moved ≡ drop (n - 1) order = rw (is, end) (drop-paste order i later m (omega arith) fits) in
    let rest : take m later ≡ drop (suc i) (take live order) = rw (← add-one i) (part order live n (i + 1) full e (omega arith)) in
    let after = set moved (n - 1) z in
    let whole : take live after ≡ take (n - 1 + 1) after =
    take-entries after live (length-set moved (n - 1) z ∙ size ∙ full) ∙ ap (λ (k : ℕ). take k after) (omega arith) in
    record {
      size = length-set moved (n - 1) z ∙ size;
      turns =
          whole ∙ take_more_set moved (n - 1) z (omega arith)
          ∙ ap (λ (l : List ℕ). l ++ (z ∷ [])) (head ∙ ap (λ (l : List ℕ). take i order ++ l) rest);
      free = λ k h.
          let at : n - 1 + (k - (n - 1)) ≡ k = omega arith in
          get_or-set_other moved (n - 1) k z 0 (λ q. absurd (omega arith)) ∙ ap (λ (j : ℕ). get_or moved j 0) (sym at)
          ∙ sym (get_or-drop (n - 1) moved (k - (n - 1)) 0) ∙ ap (λ (l : List ℕ). get_or l (k - (n - 1)) 0) tail
          ∙ get_or-drop (n - 1) order (k - (n - 1)) 0
          ∙ ap (λ (j : ℕ). get_or order j 0) at;
    }

-- a listed timeslice is taken out
pub taken : (t z live : ℕ) (order : List ℕ) (i : ℕ) (after : List ℕ) → i < entries_of live → Position t live order i
    → Shifted z live order i after
    → TakenOut t z live order after
unfolding last
taken t z live order i after short (listed m inside others) s =
    record { size = s.size; turns = s.turns ∙ ap (λ (l : List ℕ). l ++ (z ∷ [])) (sym others) ∙ rw m refl; free = s.free }
taken t z live order i after short (absent m past) s = absurd (omega arith)

-- and one that is not listed stays away
pub untaken : (t z live : ℕ) (order : List ℕ) (i : ℕ) → entries_of live ≤ i → Position t live order i → TakenOut t z live order order
untaken t z live order i past (listed m inside others) = absurd (omega arith)
untaken t z live order i past (absent m out) = record { size = refl; turns = rw m refl; free = λ k h. refl }
