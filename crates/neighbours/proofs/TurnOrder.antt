-- Neighbours pass the test exactly if they are those of a turn order; then that is the list read from them, and they are the only ones.
use Prim.Native.Nat.{ℕ, zero, suc, ◌≤◌, ◌<◌}
use mathlib.Core.Path.{◌≡◌, refl, sym, ◌∙◌, ap, subst}
use mathlib.Core.List.{List, [], ◌∷◌}
use mathlib.Core.Bool.{Bool, true, false, ◌&&◌}
use native.Mathlib.Omega.{arith}
use native.Mathlib.Nat.{eq-or-lt_of_le}
use mathlib.Core.Logic.{⊎_elim}
use lib.ListN.{length, get_or}
use lib.Seq.{ext_get_or}
use lib.Dec.{leb, ltb, eqb}
use borrow.Author.Tests.{eqb-true, leb-true, eq-eqb, ne_eqb, lt-ltb, le-leb}
use Rattle.rules.specs.Tests.{member, below, all}
use Rattle.rules.specs.State.{limit}
use Rattle.rules.proofs.Basics.Views.{Two, yes_true, no_false, two, clash, and3, and5, and_true_left, and_true_right, and_true_both}
use Rattle.rules.proofs.Basics.Views.{Either, first, second, or_true_cases, or_true_left, or_true_right}
use Rattle.rules.proofs.Basics.Members.{below_at, below_of, all_head, all_tail, member_here, member_there}
use Rattle.tables.specs.Turning.{entries_of}
use Rattle.neighbours.specs.Sides.{Sides, sides, sentinel, room, unlisted, neighbour}
use Rattle.neighbours.specs.Reading.{turns_from, turns_read, is_listed}
use Rattle.neighbours.specs.Forming.{leads_back, entries_free, forms_list, Leads, Linked}
use Rattle.neighbours.proofs.Stepping.{length-turns}
use Rattle.neighbours.proofs.Paths.{read_path, after_start, same_afters, same_befores, same_last, from_it, Stands, stands}
use Rattle.neighbours.proofs.Changing.{chained, in_back}

abbrev is_low : ℕ → Bool
is_low t = ltb t limit

-- each step back asked is a step of the path
module _ (s : Sides) where
  back_path : (n a : ℕ) → leads_back n s a ≡ true → Leads s a (turns_from n s.after a) sentinel
  unfolding leads_back turns_from
  back_path zero a h = (
    eqb-true _ _ (and_true_left (eqb (neighbour s.after a) sentinel) (eqb (neighbour s.before sentinel) a) h),
    eqb-true _ _ (and_true_right (eqb (neighbour s.after a) sentinel) (eqb (neighbour s.before sentinel) a) h),
  )
  back_path (suc n) a h =
      let u = neighbour s.after a in
      let parts = and3 (ltb u limit) (eqb (neighbour s.before u) a) (leads_back n s u) h in
      (refl, eqb-true _ _ parts.1, back_path n u parts.2)

  back_low : (n a : ℕ) → leads_back n s a ≡ true → all is_low (turns_from n s.after a) ≡ true
  unfolding leads_back turns_from all
  back_low zero a h = refl
  back_low (suc n) a h =
      let u = neighbour s.after a in
      let parts = and3 (ltb u limit) (eqb (neighbour s.before u) a) (leads_back n s u) h in
      and_true_both (is_low u) (all is_low (turns_from n s.after u)) parts.0 (back_low n u parts.2)

  path_back : (l : List ℕ) (a : ℕ) → Leads s a l sentinel → all is_low l ≡ true → leads_back (length l) s a ≡ true
  unfolding leads_back
  path_back [] a r low = and_true_both _ _ (eq-eqb _ _ r.0) (eq-eqb _ _ r.1)
  path_back (t ∷ l) a r low =
      rw r.0
      (and_true_both _ _ (and_true_both _ _ (all_head is_low t l low) (eq-eqb _ _ r.1)) (path_back l t r.2 (all_tail is_low t l low)))

-- neighbours that pass the test
module _ (s : Sides) (live : ℕ) (h : forms_list s live ≡ true) where
  parts : (eqb (length s.before) room ≡ true) × (eqb (length s.after) room ≡ true) × (leb live limit ≡ true)
      × (leads_back live s sentinel ≡ true) × (below limit (λ t. entries_free s (turns_read s.after live) t) ≡ true)
  parts = and5 (eqb (length s.before) room) (eqb (length s.after) room) (leb live limit) (leads_back live s sentinel)
      (below limit (λ t. entries_free s (turns_read s.after live) t)) h

  pub forms_few : live ≤ limit
  forms_few = leb-true live limit parts.2

  steps : live ≡ entries_of live
  steps = omega (arith, forms_few)

  pub forms_linked : Linked s (turns_read s.after live)
  forms_linked =
      record {
        befores = eqb-true _ _ parts.0;
        afters = eqb-true _ _ parts.1;
        path = back_path s (entries_of live) sentinel (rw steps at parts.3);
        low = back_low s (entries_of live) sentinel (rw steps at parts.3);
        free = λ t small none. clears t none (or_true_cases _ _ (below_at _ limit parts.4 t small));
      }
    where
      clears : (t : ℕ) → member t (turns_read s.after live) ≡ false
          → Either (member t (turns_read s.after live))
          (eqb (neighbour s.before t) unlisted && eqb (neighbour s.after t) unlisted)
          → (neighbour s.before t ≡ unlisted) × (neighbour s.after t ≡ unlisted)
      clears t none (first e) = clash (member t (turns_read s.after live)) e none
      clears t none (second _ e) = (
        eqb-true _ _ (and_true_left (eqb (neighbour s.before t) unlisted) (eqb (neighbour s.after t) unlisted) e),
        eqb-true _ _ (and_true_right (eqb (neighbour s.before t) unlisted) (eqb (neighbour s.after t) unlisted) e),
      )

  pub forms_length : length (turns_read s.after live) ≡ live
  forms_length = length-turns (entries_of live) s.after sentinel ∙ sym steps

-- neighbours of a turn order
module _ (s : Sides) (order : List ℕ) (k : Linked s order) where
  -- THE LIST READ FROM THE NEIGHBOURS
  pub linked_read : length order ≤ limit → turns_read s.after (length order) ≡ order
  linked_read few =
      let steps : entries_of (length order) ≡ length order = omega arith in
      rw steps (read_path s sentinel order sentinel k.path)

  pub linked_forms : length order ≤ limit → forms_list s (length order) ≡ true
  linked_forms few =
      and_true_both _ _ (and_true_both _ _ (and_true_both _ _ (and_true_both _ _ (eq-eqb _ _ k.befores) (eq-eqb _ _ k.afters))
      (le-leb (length order) limit few)) (path_back s order sentinel k.path k.low))
      (below_of _ limit (λ t small. rw (linked_read few) (clear t small (two (member t order)))))
    where
      clear : (t : ℕ) → t < limit → Two (member t order) → entries_free s order t ≡ true
      clear t small (yes_true e) = or_true_left _ _ e
      clear t small (no_false e) =
          let free = k.free t small e in
          or_true_right (member t order) _ (and_true_both _ _ (eq-eqb _ _ free.0) (eq-eqb _ _ free.1))

  -- a timeslice is listed exactly if it has a neighbour
  pub has_neighbour : (t : ℕ) → t < limit → is_listed s.after t ≡ member t order
  has_neighbour t small = by (two (member t order))
    where
      followed : Stands t order → neighbour s.after t ≡ unlisted → ⊥
      followed p =
          let c = chained s order k in
          let whole = subst (λ (l : List ℕ). Leads s sentinel l sentinel) p.is k.path in
          let path = from_it s sentinel p.front t p.back sentinel whole in
          let behind : (x : ℕ) → member x p.back ≡ true → member x order ≡ true =
          λ x i. subst (λ (l : List ℕ). member x l ≡ true) (sym p.is)
          (in_back x p.front (t ∷ p.back) (member_there x t p.back i)) in
          after_start s (λ x. x ≡ unlisted → ⊥) t p.back sentinel path (λ e. absurd (omega arith))
          (λ x i e. absurd (omega (arith, c.low x (behind x i))))

      by : Two (member t order) → is_listed s.after t ≡ member t order
      by (yes_true e) = rw (e, ne_eqb (neighbour s.after t) unlisted (followed (stands t order e))) refl
      by (no_false e) = rw (e, eq-eqb (neighbour s.after t) unlisted (k.free t small e).1) refl

entry : (side : List ℕ) (i : ℕ) → i < room → neighbour side i ≡ get_or side i 0
unfolding neighbour
entry side i h = rw (lt-ltb i room h) refl

-- THE ONLY ONES of a turn order
pub linked_same : (s s' : Sides) (order : List ℕ) → Linked s order → Linked s' order → s ≡ s'
linked_same s s' order k q =
    let before : s.before ≡ s'.before =
    ext_get_or 0 s.before s'.before (k.befores ∙ sym q.befores) (λ i h. entry_before i (omega (arith, k.befores))) in
    let after : s.after ≡ s'.after =
    ext_get_or 0 s.after s'.after (k.afters ∙ sym q.afters) (λ i h. entry_after i (omega (arith, k.afters))) in
    λ i. sides (before i) (after i)
  where
    at_before : (i : ℕ) → i < room → Two (member i order) → neighbour s.before i ≡ neighbour s'.before i
    at_before i h (yes_true e) = same_befores s s' sentinel order sentinel k.path q.path i e
    at_before i h (no_false e) =
        let le : i ≤ limit = omega arith in
        ⊎_elim (λ own. ap (neighbour s.before) own ∙ same_last s s' sentinel order sentinel k.path q.path
        ∙ sym (ap (neighbour s'.before) own))
        (λ small. (k.free i small e).0 ∙ sym (q.free i small e).0) (eq-or-lt_of_le le)

    at_after : (i : ℕ) → i < room → Two (member i order) → neighbour s.after i ≡ neighbour s'.after i
    at_after i h (yes_true e) =
        same_afters s s' sentinel order sentinel k.path q.path i (member_there i sentinel order e)
    at_after i h (no_false e) =
        let le : i ≤ limit = omega arith in
        ⊎_elim (λ own. same_afters s s' sentinel order sentinel k.path q.path i (member_here i sentinel order own))
        (λ small. (k.free i small e).1 ∙ sym (q.free i small e).1) (eq-or-lt_of_le le)

    entry_before : (i : ℕ) → i < room → get_or s.before i 0 ≡ get_or s'.before i 0
    entry_before i h = sym (entry s.before i h) ∙ at_before i h (two (member i order)) ∙ entry s'.before i h

    entry_after : (i : ℕ) → i < room → get_or s.after i 0 ≡ get_or s'.after i 0
    entry_after i h = sym (entry s.after i h) ∙ at_after i h (two (member i order)) ∙ entry s'.after i h
