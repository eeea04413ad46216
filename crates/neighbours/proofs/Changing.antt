-- Each change of the neighbours changes the turn order as document 01 says: only the paths next to the entries that are written change.
use Prim.Native.Nat.{ℕ, ◌<◌}
use mathlib.Core.Path.{◌≡◌, refl, sym, ◌∙◌, ap, subst}
use mathlib.Core.List.{List, [], ◌∷◌, ◌++◌, append-nil}
use mathlib.Core.Bool.{Bool, true, false, not, ◌&&◌}
use native.Mathlib.Omega.{arith}
use lib.ListN.{length}
use lib.Dec.{ltb}
use borrow.Author.Tests.{ltb-true, lt-ltb}
use Rattle.rules.specs.Tests.{member, distinct, all}
use Rattle.rules.specs.State.{limit}
use Rattle.rules.specs.Timeslices.{last, without, to_back}
use Rattle.rules.proofs.Basics.Views.{clash, is_false, and_true_left, and_true_right, or_true_left, or_true_right}
use Rattle.rules.proofs.Basics.Views.{Same, equal, different, same}
use Rattle.rules.proofs.Basics.Members.{not_listed, member_here, member_there, member_none, distinct_head, distinct_tail}
use Rattle.rules.proofs.Basics.Members.{each, all_at, all_of}
use Rattle.rules.proofs.Basics.Filters.{member_append}
use Rattle.rules.proofs.Order.Orders.{member_last, member_last_other, member_without, member_without_other}
use Rattle.neighbours.specs.Sides.{Sides, sentinel, room, unlisted, neighbour}
use Rattle.neighbours.specs.Joining.{appended, passed_over, cleared, struck_out, moved_back}
use Rattle.neighbours.specs.Forming.{Leads, Linked, Changes}
use Rattle.neighbours.proofs.Paths.{put_here, put_other, length-put, to_it, from_it, through, before_end, after_start}
use Rattle.neighbours.proofs.Paths.{Stands, stands, not_again, once, ends_at, kept}

-- a member is no number that is not listed
pub unlike : (x v : ℕ) (l : List ℕ) → member x l ≡ true → member v l ≡ false → x ≡ v → ⊥
unlike x v l h out e = clash (member v l) (subst (λ (y : ℕ). member y l ≡ true) e h) out

in_front : (x : ℕ) (xs ys : List ℕ) → member x xs ≡ true → member x (xs ++ ys) ≡ true
in_front x xs ys h = member_append x xs ys ∙ or_true_left (member x xs) (member x ys) h

pub in_back : (x : ℕ) (xs ys : List ℕ) → member x ys ≡ true → member x (xs ++ ys) ≡ true
in_back x xs ys h = member_append x xs ys ∙ or_true_right (member x xs) (member x ys) h

-- in a list without doubles the front has nothing of the back
parted : (xs ys : List ℕ) → distinct (xs ++ ys) ≡ true → (x : ℕ) → member x xs ≡ true → member x ys ≡ false
parted [] ys d x h = clash (member x []) h (not_listed x)
parted (y ∷ xs) ys d x h =
    each (λ z. member z ys ≡ false) x y xs
    (is_false (member y ys) (λ inside. clash (member y (xs ++ ys)) (in_back y xs ys inside) (distinct_head y (xs ++ ys) d)))
    (λ h. parted xs ys (distinct_tail y (xs ++ ys) d) x h) h

-- what is said of the list's own entry and of all members
own_or_listed : (P : ℕ → Type 0) (order : List ℕ) → P sentinel → ((x : ℕ) → member x order ≡ true → P x)
    → (x : ℕ) → member x (sentinel ∷ order) ≡ true → P x
own_or_listed P order own on x h = each P x sentinel order own (on x) h

-- neighbours of a turn order, whatever stands in free entries
pub record Chained (s : Sides) (order : List ℕ) : Type 0 where
  pub befores : length s.before ≡ room
  pub afters : length s.after ≡ room
  pub path : Leads s sentinel order sentinel
  pub low : (t : ℕ) → member t order ≡ true → t < limit

pub chained : (s : Sides) (order : List ℕ) → Linked s order → Chained s order
chained s order k =
    record {
      befores = k.befores;
      afters = k.afters;
      path = k.path;
      low = λ t h. ltb-true t limit (all_at (λ t. ltb t limit) order k.low t h);
    }

module _ (s : Sides) (order : List ℕ) (k : Chained s order) where
  pub own_not_listed : member sentinel order ≡ false
  own_not_listed = is_false (member sentinel order) (λ h. absurd (omega (arith, k.low sentinel h)))

  pub listed_once : distinct order ≡ true
  listed_once = once s sentinel sentinel order k.path own_not_listed

  all_low : all (λ t. ltb t limit) order ≡ true
  all_low = all_of (λ t. ltb t limit) order (λ t h. lt-ltb t limit (k.low t h))

  -- the last is within the sides, and none that is not listed
  last_low : neighbour s.before sentinel < room
  last_low = before_end s (λ x. x < room) sentinel order sentinel k.path (omega arith) (λ x h. omega (arith, k.low x h))

  last_other : (v : ℕ) → v < limit → member v order ≡ false → v ≡ neighbour s.before sentinel → ⊥
  last_other v small out =
      before_end s (λ x. v ≡ x → ⊥) sentinel order sentinel k.path (λ e. absurd (omega arith))
      (λ x h e. unlike x v order h out (sym e))

  -- last in turn order
  module _ (t : ℕ) (small : t < limit) (out : member t order ≡ false) where
    after_last : neighbour (appended t s).after (neighbour s.before sentinel) ≡ t
    unfolding appended
    after_last =
        put_other _ t sentinel _ (λ e. last_other t small out (sym e)) ∙ put_here s.after _ t k.afters last_low

    after_it : neighbour (appended t s).after t ≡ sentinel
    unfolding appended
    after_it = put_here _ t sentinel (length-put s.after _ t ∙ k.afters) (omega arith)

    after_others : (v : ℕ) → (v ≡ neighbour s.before sentinel → ⊥) → (v ≡ t → ⊥)
        → neighbour (appended t s).after v ≡ neighbour s.after v
    unfolding appended
    after_others v other apart = put_other _ t sentinel v apart ∙ put_other s.after _ t v other

    before_it : neighbour (appended t s).before t ≡ neighbour s.before sentinel
    unfolding appended
    before_it = put_other _ sentinel t t (λ e. absurd (omega arith)) ∙ put_here s.before t _ k.befores (omega arith)

    before_own : neighbour (appended t s).before sentinel ≡ t
    unfolding appended
    before_own = put_here _ sentinel t (length-put s.before t _ ∙ k.befores) (omega arith)

    before_others : (v : ℕ) → (v ≡ sentinel → ⊥) → (v ≡ t → ⊥) → neighbour (appended t s).before v ≡ neighbour s.before v
    unfolding appended
    before_others v other apart = put_other _ sentinel t v other ∙ put_other s.before t _ v apart

    sizes : (length (appended t s).before ≡ room) × (length (appended t s).after ≡ room)
    unfolding appended
    sizes = (
      length-put _ sentinel t ∙ length-put s.before t _ ∙ k.befores,
      length-put _ t sentinel ∙ length-put s.after _ t ∙ k.afters,
    )

    append-chained : Chained (appended t s) (last t order)
    unfolding last
    append-chained =
        record {
          befores = sizes.0;
          afters = sizes.1;
          path = through (appended t s) sentinel order t [] sentinel
              (ends_at s (appended t s) sentinel order sentinel t k.path own_not_listed after_last before_it
              (λ x h other. after_others x other
              (own_or_listed (λ y. y ≡ t → ⊥) order (λ e. absurd (omega arith)) (λ y h. unlike y t order h out) x h))
              (λ x h. before_others x (λ e. absurd (omega (arith, k.low x h))) (unlike x t order h out)))
              (after_it, before_own);
          low = λ x h. by x h (same x t);
        }
      where
        by : (x : ℕ) → member x (last t order) ≡ true → Same x t → x < limit
        by x h (equal e _) = omega arith
        by x h (different other _) = k.low x (sym (member_last_other t x order other) ∙ h)

    -- the free entries of others stay
    append-free : (v : ℕ) → v < limit → member v order ≡ false → (v ≡ t → ⊥)
        → (neighbour (appended t s).before v ≡ neighbour s.before v) × (neighbour (appended t s).after v ≡ neighbour s.after v)
    append-free v low none apart = (
      before_others v (λ e. absurd (omega arith)) apart,
      after_others v (last_other v low none) apart,
    )

  -- a timeslice passed over
  module _ (t : ℕ) (h : member t order ≡ true) where
    place : Stands t order
    place = stands t order h

    abbrev previous : ℕ
    previous = neighbour s.before t

    abbrev following : ℕ
    following = neighbour s.after t

    whole : Leads s sentinel (place.front ++ t ∷ place.back) sentinel
    whole = subst (λ (l : List ℕ). Leads s sentinel l sentinel) place.is k.path

    left : Leads s sentinel place.front t
    left = to_it s sentinel place.front t place.back sentinel whole

    right : Leads s t place.back sentinel
    right = from_it s sentinel place.front t place.back sentinel whole

    fronts : (x : ℕ) → member x place.front ≡ true → member x order ≡ true
    fronts x i = subst (λ (l : List ℕ). member x l ≡ true) (sym place.is) (in_front x place.front (t ∷ place.back) i)

    backs : (x : ℕ) → member x place.back ≡ true → member x order ≡ true
    backs x i = subst (λ (l : List ℕ). member x l ≡ true) (sym place.is)
        (in_back x place.front (t ∷ place.back) (member_there x t place.back i))

    apart : (x : ℕ) → member x place.front ≡ true → member x (t ∷ place.back) ≡ false
    apart = parted place.front (t ∷ place.back) (subst (λ (l : List ℕ). distinct l ≡ true) place.is listed_once)

    -- what is said of the list's own entry and of the members is said of both neighbours
    is_previous : (P : ℕ → Type 0) → P sentinel → ((x : ℕ) → member x place.front ≡ true → P x) → P previous
    is_previous P own on = before_end s P sentinel place.front t left own on

    is_following : (P : ℕ → Type 0) → P sentinel → ((x : ℕ) → member x place.back ≡ true → P x) → P following
    is_following P own on = after_start s P t place.back sentinel right own on

    previous_low : previous < room
    previous_low = is_previous (λ x. x < room) (omega arith) (λ x i. omega (arith, k.low x (fronts x i)))

    following_low : following < room
    following_low = is_following (λ x. x < room) (omega arith) (λ x i. omega (arith, k.low x (backs x i)))

    after_previous : neighbour (passed_over t s).after previous ≡ following
    unfolding passed_over
    after_previous = put_here s.after previous following k.afters previous_low

    before_following : neighbour (passed_over t s).before following ≡ previous
    unfolding passed_over
    before_following = put_here s.before following previous k.befores following_low

    pass_after : (v : ℕ) → (v ≡ previous → ⊥) → neighbour (passed_over t s).after v ≡ neighbour s.after v
    unfolding passed_over
    pass_after v other = put_other s.after previous following v other

    pass_before : (v : ℕ) → (v ≡ following → ⊥) → neighbour (passed_over t s).before v ≡ neighbour s.before v
    unfolding passed_over
    pass_before v other = put_other s.before following previous v other

    pass_sizes : (length (passed_over t s).before ≡ room) × (length (passed_over t s).after ≡ room)
    unfolding passed_over
    pass_sizes = (length-put s.before following previous ∙ k.befores, length-put s.after previous following ∙ k.afters)

    -- up to the timeslice, to the one that follows it
    up_to : (u : ℕ) → following ≡ u → Leads (passed_over t s) sentinel place.front u
    up_to u e =
        ends_at s (passed_over t s) sentinel place.front t u left place.first (after_previous ∙ e)
        (ap (neighbour (passed_over t s).before) (sym e) ∙ before_following)
        (λ x i other. pass_after x other)
        (λ x i. pass_before x (is_following (λ y. x ≡ y → ⊥) (λ e. absurd (omega (arith, k.low x (fronts x i))))
        (λ y j e. unlike y x place.back j (member_none x t place.back (apart x i)) (sym e))))

    closes : (ys : List ℕ) → place.back ≡ ys → Leads (passed_over t s) sentinel (place.front ++ ys) sentinel
    closes [] e = subst (λ (l : List ℕ). Leads (passed_over t s) sentinel l sentinel) (sym (append-nil place.front))
        (up_to sentinel (subst (λ (l : List ℕ). Leads s t l sentinel) e right).0)
    closes (y ∷ ys) e =
        let r : Leads s t (y ∷ ys) sentinel = subst (λ (l : List ℕ). Leads s t l sentinel) e right in
        let on : (x : ℕ) → member x (y ∷ ys) ≡ true → member x place.back ≡ true =
        λ x i. subst (λ (l : List ℕ). member x l ≡ true) (sym e) i in
        let own : member sentinel ys ≡ false =
        is_false (member sentinel ys) (λ i. clash (member sentinel order) (backs sentinel (on sentinel (member_there sentinel y ys i)))
        own_not_listed) in
        let this : following ≡ y = r.0 in
        through (passed_over t s) sentinel place.front y ys sentinel (up_to y this)
        (kept s (passed_over t s) y ys sentinel r.2
        (λ x i. pass_after x (is_previous (λ z. x ≡ z → ⊥)
        (λ z. absurd (omega (arith, k.low x (backs x (on x i)))))
        (λ z j q. unlike x z place.back (on x i) (member_none z t place.back (apart z j)) q)))
        (λ x i. pass_before x (λ q. unlike x y ys i (not_again s sentinel y ys r.2 own) (q ∙ this)))
        (pass_before sentinel (λ q. absurd (omega (arith, k.low y (backs y (on y (member_here y y ys refl))), q, this)))))

    still_low : (x : ℕ) → member x (without t order) ≡ true → x < limit
    still_low x i =
        k.low x (sym (member_without_other t x order (unlike x t (without t order) i (member_without t order listed_once))) ∙ i)

    pass_chained : Chained (passed_over t s) (without t order)
    pass_chained =
        record {
          befores = pass_sizes.0;
          afters = pass_sizes.1;
          path = subst (λ (l : List ℕ). Leads (passed_over t s) sentinel l sentinel) (sym place.rest) (closes place.back refl);
          low = still_low;
        }

    -- the free entries of others stay
    pass_free : (v : ℕ) → v < limit → member v order ≡ false
        → (neighbour (passed_over t s).before v ≡ neighbour s.before v) × (neighbour (passed_over t s).after v ≡ neighbour s.after v)
    pass_free v low none = (
      pass_before v (is_following (λ x. v ≡ x → ⊥) (λ e. absurd (omega arith)) (λ x i e. unlike x v order (backs x i) none (sym e))),
      pass_after v (is_previous (λ x. v ≡ x → ⊥) (λ e. absurd (omega arith)) (λ x i e. unlike x v order (fronts x i) none (sym e))),
    )

-- LAST IN TURN ORDER
pub append-links : (s : Sides) (order : List ℕ) (t : ℕ) → Linked s order → t < limit → member t order ≡ false
    → Linked (appended t s) (last t order)
append-links s order t k small out =
    let c = append-chained s order (chained s order k) t small out in
    record {
      befores = c.befores;
      afters = c.afters;
      path = c.path;
      low = all_low (appended t s) (last t order) c;
      free = λ v low none.
          let apart : v ≡ t → ⊥ = λ e. unlike t v (last t order) (member_last t order) none (sym e) in
          let before : member v order ≡ false = sym (member_last_other t v order apart) ∙ none in
          let same = append-free s order (chained s order k) t small out v low before apart in
          (same.0 ∙ (k.free v low before).0, same.1 ∙ (k.free v low before).1);
    }

-- STRUCK OUT
pub strike_links : (s : Sides) (order : List ℕ) (t : ℕ) → Linked s order → member t order ≡ true → Linked (struck_out t s) (without t order)
unfolding struck_out
strike_links s order t k h =
    let c = chained s order k in
    let p = pass_chained s order c t h in
    let small = c.low t h in
    let gone = member_without t order (listed_once s order c) in
    record {
      befores = length-put _ t unlisted ∙ p.befores;
      afters = length-put _ t unlisted ∙ p.afters;
      path = kept (passed_over t s) (cleared t (passed_over t s)) sentinel (without t order) sentinel p.path
          (λ x i. put_other _ t unlisted x
          (own_or_listed (λ y. y ≡ t → ⊥) (without t order) (λ e. absurd (omega arith)) (λ y j. unlike y t (without t order) j gone) x i))
          (λ x i. put_other _ t unlisted x (unlike x t (without t order) i gone))
          (put_other _ t unlisted sentinel (λ e. absurd (omega arith)));
      low = all_low (passed_over t s) (without t order) p;
      free = λ v low none. by c p v low none (same v t);
    }
  where
    by : (c : Chained s order) → Chained (passed_over t s) (without t order) → (v : ℕ) → v < limit → member v (without t order) ≡ false
        → Same v t
        → (neighbour (cleared t (passed_over t s)).before v ≡ unlisted) × (neighbour (cleared t (passed_over t s)).after v ≡ unlisted)
    by c p v low none (equal e _) = (
      ap (neighbour _) e ∙ put_here _ t unlisted p.befores (omega arith),
      ap (neighbour _) e ∙ put_here _ t unlisted p.afters (omega arith),
    )
    by c p v low none (different apart _) =
        let before : member v order ≡ false = sym (member_without_other t v order apart) ∙ none in
        let same = pass_free s order c t h v low before in (
          put_other _ t unlisted v apart ∙ same.0 ∙ (k.free v low before).0,
          put_other _ t unlisted v apart ∙ same.1 ∙ (k.free v low before).1,
        )

-- TO THE BACK
pub back_links : (s : Sides) (order : List ℕ) (t : ℕ) → Linked s order → member t order ≡ true → Linked (moved_back t s) (to_back t order)
unfolding moved_back to_back
back_links s order t k h =
    let c = chained s order k in
    let p = pass_chained s order c t h in
    let small = c.low t h in
    let gone = member_without t order (listed_once s order c) in
    let b = append-chained (passed_over t s) (without t order) p t small gone in
    record {
      befores = b.befores;
      afters = b.afters;
      path = b.path;
      low = all_low (moved_back t s) (last t (without t order)) b;
      free = λ v low none.
          let apart : v ≡ t → ⊥ = λ e. unlike t v (last t (without t order)) (member_last t (without t order)) none (sym e) in
          let rest : member v (without t order) ≡ false = sym (member_last_other t v (without t order) apart) ∙ none in
          let before : member v order ≡ false = sym (member_without_other t v order apart) ∙ rest in
          let passed = pass_free s order c t h v low before in
          let same = append-free (passed_over t s) (without t order) p t small gone v low rest apart in
          (same.0 ∙ passed.0 ∙ (k.free v low before).0, same.1 ∙ passed.1 ∙ (k.free v low before).1);
    }

-- the same of sides that are known to be changed so
pub appends : (s s' : Sides) (t : ℕ) → s' ≡ appended t s
    → (s' ≡ appended t s) × Changes (λ order. ltb t limit && not (member t order)) (last t) s s'
appends s s' t e = (
  e,
  λ order k when.
      subst (λ (x : Sides). Linked x (last t order)) (sym e)
      (append-links s order t k (ltb-true t limit (and_true_left (ltb t limit) (not (member t order)) when))
      (not_listed_here (member t order) (and_true_right (ltb t limit) (not (member t order)) when))),
)
  where
    not_listed_here : (b : Bool) → not b ≡ true → b ≡ false
    not_listed_here true e = clash false e refl
    not_listed_here false e = refl

pub strikes : (s s' : Sides) (t : ℕ) → s' ≡ struck_out t s → (s' ≡ struck_out t s) × Changes (member t) (without t) s s'
strikes s s' t e = (e, λ order k when. subst (λ (x : Sides). Linked x (without t order)) (sym e) (strike_links s order t k when))

pub moves_back : (s s' : Sides) (t : ℕ) → s' ≡ moved_back t s → (s' ≡ moved_back t s) × Changes (member t) (to_back t) s s'
moves_back s s' t e = (e, λ order k when. subst (λ (x : Sides). Linked x (to_back t order)) (sym e) (back_links s order t k when))
