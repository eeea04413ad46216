-- The clauses asked of every number and of every timeslice are together the whole test of a machine without its places: each side implies
-- the other.
use Prim.Native.Nat.{ℕ, ◌<◌}
use mathlib.Core.Path.{◌≡◌, ◌∙◌}
use mathlib.Core.List.{List}
use mathlib.Core.Bool.{Bool, true, ◌&&◌, ◌||◌}
use lib.ListN.{length}
use lib.Dec.{ltb, eqb}
use borrow.Author.Tests.{eq-eqb}
use Rattle.rules.specs.Tests.{member, distinct, all, below}
use Rattle.rules.specs.State.{Plain, limit, thread_at, hold_at, service_at, live_at, slice_at, owner_at}
use Rattle.rules.specs.Sound.{call_is_served, served_is_calling, link_good, idle_good, thread_free, slice_free, in_range, shaped}
use Rattle.rules.proofs.Basics.Views.{and_true_left, and_true_right, and_true_both, and3, and4, and5}
use Rattle.rules.proofs.Basics.Members.{all_at, all_of, below_at, below_of}
use Rattle.rules.proofs.Soundness.Shapes.{clauses, from_clauses}
use Rattle.soundness.proofs.Whole.{same_test}
use Rattle.plain_engine.specs.Shape.{slot_test, turn_test, owners_in}

module _ (p : Plain) where
  abbrev turns : List ℕ
  turns = p.order

  abbrev owners : List ℕ
  owners = owners_in p.slices turns

  -- what the code joins
  abbrev slot : ℕ → Bool
  slot n = slot_test p.threads p.slices turns n

  abbrev turn : ℕ → Bool
  turn t = turn_test p.threads p.slices t

  abbrev pub joined : Bool
  joined = below limit slot && all turn turns && distinct turns && distinct owners

  -- one clause of one number or timeslice
  abbrev calling : ℕ → Bool
  calling n = call_is_served p.threads n (hold_at p.threads n) && served_is_calling p.threads n (service_at p.threads n)

  abbrev linking : ℕ → Bool
  linking n = link_good p.threads n (hold_at p.threads n)

  abbrev idling : ℕ → Bool
  idling n = idle_good (thread_at p.threads n)

  abbrev freed : ℕ → Bool
  freed n = live_at p.threads n || thread_free (thread_at p.threads n)

  abbrev unlisted : ℕ → Bool
  unlisted t = member t turns || slice_free (slice_at p.slices t)

  abbrev numbered : ℕ → Bool
  numbered t = ltb t limit

  abbrev owned : ℕ → Bool
  owned t = live_at p.threads (owner_at p.slices t)

  abbrev ranged : ℕ → Bool
  ranged t = in_range (slice_at p.slices t)

  module _ (full : length p.threads ≡ 128) (long : length p.slices ≡ 128) where
    -- from what the code joins to the whole test
    to_shaped : joined ≡ true → shaped p ≡ true
    to_shaped e =
        let x = and4 (below limit slot) (all turn turns) (distinct turns) (distinct owners) e in
        let at : (n : ℕ) → n < limit
        → (calling n ≡ true) × (linking n ≡ true) × (idling n ≡ true) × (freed n ≡ true) × (unlisted n ≡ true) =
        λ n h. and5 (calling n) (linking n) (idling n) (freed n) (unlisted n) (below_at slot limit x.0 n h) in
        let of : (t : ℕ) → member t turns ≡ true → (numbered t ≡ true) × (owned t ≡ true) × (ranged t ≡ true) =
        λ t h. and3 (numbered t) (owned t) (ranged t) (all_at turn turns x.1 t h) in
        from_clauses p record {
          tables =
              and_true_both (eqb (length p.threads) limit) _ (eq-eqb (length p.threads) limit full)
              (eq-eqb (length p.slices) limit long);
          turns = and_true_both _ (distinct turns) (all_of numbered turns (λ t h. (of t h).0)) x.2;
          owners = and_true_both _ (distinct owners) (all_of owned turns (λ t h. (of t h).1)) x.3;
          ranges = all_of ranged turns (λ t h. (of t h).2);
          calls = below_of calling limit (λ n h. (at n h).0);
          links = below_of linking limit (λ n h. (at n h).1);
          idles = below_of idling limit (λ n h. (at n h).2);
          free = and_true_both _ _ (below_of freed limit (λ n h. (at n h).3)) (below_of unlisted limit (λ n h. (at n h).4));
        }

    -- and back
    from_shaped : shaped p ≡ true → joined ≡ true
    from_shaped e =
        let c = clauses p e in
        let at : (n : ℕ) → n < limit → slot n ≡ true =
        λ n h.
        let called = below_at calling limit c.calls n h in
        let linked = below_at linking limit c.links n h in
        let idled = below_at idling limit c.idles n h in
        let free = below_at freed limit (and_true_left (below limit freed) (below limit unlisted) c.free) n h in
        let slice = below_at unlisted limit (and_true_right (below limit freed) (below limit unlisted) c.free) n h in
        simp (called, linked, idled, free, slice) in
        let of : (t : ℕ) → member t turns ≡ true → turn t ≡ true =
        λ t h.
        let number = all_at numbered turns (and_true_left (all numbered turns) (distinct turns) c.turns) t h in
        let owner = all_at owned turns (and_true_left (all owned turns) (distinct owners) c.owners) t h in
        let range = all_at ranged turns c.ranges t h in
        simp (number, owner, range) in
        let slots = below_of slot limit at in
        let places = all_of turn turns of in
        let once = and_true_right (all numbered turns) (distinct turns) c.turns in
        let apart = and_true_right (all owned turns) (distinct owners) c.owners in
        simp (slots, places, once, apart)

    pub whole : joined ≡ shaped p
    whole = same_test joined (shaped p) to_shaped from_shaped

    -- as the code joins them
    pub whole_of : (r : Bool) → r ≡ joined → r ≡ shaped p
    whole_of r e = e ∙ whole
