-- Any wakes, in any machine. A wake that is refused changes nothing, and is refused after the other wakes too; so any two wakes may change
-- places, a second wake of a thread may be left out, and only the set of the threads matters.
use Prim.Native.Nat.{ℕ}
use mathlib.Core.Path.{◌≡◌, refl, sym, ap, ◌∙◌, subst}
use mathlib.Core.List.{List, [], ◌∷◌, map}
use mathlib.Core.Bool.{Bool, true, false}
use native.Mathlib.Omega.{arith}
use Rattle.rules.specs.declared.Hold.TheVariants.{Blocked}
use Rattle.rules.specs.declared.Event.TheVariants.{Wake}
use Rattle.rules.specs.Tests.{member}
use Rattle.rules.specs.State.{State, forget, hold_at}
use Rattle.rules.specs.Sound.{is_blocked, sound}
use Rattle.rules.specs.Refusals.{refusal}
use Rattle.rules.specs.Events.{dispatch, offer_if, offer}
use Rattle.rules.specs.Lists.{after}
use Rattle.rules.proofs.Basics.Views.{Two, yes_true, no_false, two, clash, Same, equal, different, same}
use Rattle.rules.proofs.Basics.Members.{not_listed, member_here, member_there, member_tail}
use Rattle.rules.proofs.Events.WakeEvent.{blocked_is, accepted_blocked}
use Rattle.rules.proofs.Agreement.{answered_number}
use Rattle.rules.proofs.Demands.{refused_same}
use Rattle.wakes.proofs.EitherWay.{ready_now, others_held, two_wakes}

-- the machine after a wake of any thread, in any machine
abbrev woken_in : ℕ → State → State
woken_in n s = (offer (Wake n) s).state

-- only Blocked threads are woken, and only in a sound machine; other wakes leave everything as it is
offered_blocked : (n : ℕ) (s : State) → (offer (Wake n) s).refusal ≡ 0 → hold_at s.threads n ≡ Blocked
unfolding offer dispatch
offered_blocked n s k = by (two (sound s))
  where
    by : Two (sound s) → hold_at s.threads n ≡ Blocked
    by (yes_true h) =
        accepted_blocked s n (sym (answered_number (refusal (Wake n) (forget s)) (Wake n) s) ∙ (rw h at k))
    by (no_false h) = let z : ◌≡◌ {A = ℕ} 1 0 = rw h at k in absurd (omega arith)

unsound_kept : (n : ℕ) (s : State) → sound s ≡ false → woken_in n s ≡ s
unfolding offer
unsound_kept n s h = ap (λ (b : Bool). (offer_if b (Wake n) s).state) h

free_kept : (n : ℕ) (s : State) → (hold_at s.threads n ≡ Blocked → ⊥) → woken_in n s ≡ s
free_kept n s free = (refused_same (Wake n) s (λ k. free (offered_blocked n s k))).0

-- what a wake finds
data Finds (n : ℕ) (s : State) : Type 0 where
  sleeping : sound s ≡ true → hold_at s.threads n ≡ Blocked → Finds n s
  awake : (hold_at s.threads n ≡ Blocked → ⊥) → Finds n s
  unsound : sound s ≡ false → Finds n s

finds : (n : ℕ) (s : State) → Finds n s
finds n s = by (two (sound s)) (two (is_blocked (hold_at s.threads n)))
  where
    by : Two (sound s) → Two (is_blocked (hold_at s.threads n)) → Finds n s
    by (no_false h) _ = unsound h
    by (yes_true h) (yes_true b) = sleeping h (blocked_is (hold_at s.threads n) b)
    by (yes_true h) (no_false b) = awake (λ z. clash (is_blocked (hold_at s.threads n)) (ap is_blocked z) b)

-- any two wakes
swap : (a b : ℕ) (s : State) → woken_in b (woken_in a s) ≡ woken_in a (woken_in b s)
unfolding after
swap a b s = by (same a b)
  where
    neither : woken_in a s ≡ s → woken_in b s ≡ s → woken_in b (woken_in a s) ≡ woken_in a (woken_in b s)
    neither p q = ap (woken_in b) p ∙ q ∙ sym p ∙ ap (woken_in a) (sym q)

    one : (a b : ℕ) → (b ≡ a → ⊥) → sound s ≡ true → hold_at s.threads a ≡ Blocked → (hold_at s.threads b ≡ Blocked → ⊥)
        → woken_in b (woken_in a s) ≡ woken_in a (woken_in b s)
    one a b o h p f =
        free_kept b (woken_in a s) (λ z. f (sym (others_held s h a p b o) ∙ z)) ∙ ap (woken_in a) (sym (free_kept b s f))

    go : (a ≡ b → ⊥) → Finds a s → Finds b s → woken_in b (woken_in a s) ≡ woken_in a (woken_in b s)
    go o (sleeping h p) (sleeping _ q) = (two_wakes a b s h o p q).machine
    go o (sleeping h p) (awake g) = one a b (λ e. o (sym e)) h p g
    go o (sleeping h p) (unsound k) = clash (sound s) h k
    go o (awake f) (sleeping h q) = sym (one b a o h q f)
    go o (awake f) (awake g) = neither (free_kept a s f) (free_kept b s g)
    go o (awake f) (unsound k) = neither (unsound_kept a s k) (unsound_kept b s k)
    go o (unsound k) _ = neither (unsound_kept a s k) (unsound_kept b s k)

    by : Same a b → woken_in b (woken_in a s) ≡ woken_in a (woken_in b s)
    by (equal e _) = subst (λ (k : ℕ). woken_in k (woken_in a s) ≡ woken_in a (woken_in k s)) e refl
    by (different o _) = go o (finds a s) (finds b s)

-- the second wake of a thread changes nothing
twice : (n : ℕ) (s : State) → woken_in n (woken_in n s) ≡ woken_in n s
twice n s = by (finds n s)
  where
    by : Finds n s → woken_in n (woken_in n s) ≡ woken_in n s
    by (sleeping h b) =
        let ready = ready_now s h n b in
        free_kept n (woken_in n s) (λ z. let w : ◌≡◌ {A = ℕ} 0 1 = cc in omega arith)
    by (awake f) = ap (woken_in n) (free_kept n s f)
    by (unsound h) = ap (woken_in n) (unsound_kept n s h)

-- a list of wakes before another wake, and before another list
past : (n : ℕ) (ns : List ℕ) (s : State) → after (map Wake ns) (woken_in n s) ≡ woken_in n (after (map Wake ns) s)
unfolding after
past n [] s = refl
past n (x ∷ xs) s = ap (after (map Wake xs)) (swap n x s) ∙ past n xs (woken_in x s)

past_all : (ns ms : List ℕ) (s : State) → after (map Wake ns) (after (map Wake ms) s) ≡ after (map Wake ms) (after (map Wake ns) s)
unfolding after
past_all ns [] s = refl
past_all ns (m ∷ ms) s = past_all ns ms (woken_in m s) ∙ ap (after (map Wake ms)) (past m ns s)

-- a thread that the list wakes may be woken before it, and so may all threads of a list
absorbs : (n : ℕ) (ns : List ℕ) (s : State) → member n ns ≡ true → after (map Wake ns) (woken_in n s) ≡ after (map Wake ns) s
unfolding after
absorbs n [] s l = clash (member n []) l (not_listed n)
absorbs n (x ∷ xs) s l = by (same x n) (absorbs n xs (woken_in x s))
  where
    by : Same x n → (member n xs ≡ true → after (map Wake xs) (woken_in n (woken_in x s)) ≡ after (map Wake xs) (woken_in x s))
        → after (map Wake xs) (woken_in x (woken_in n s)) ≡ after (map Wake xs) (woken_in x s)
    by (equal e _) _ =
        ap (after (map Wake xs)) (subst (λ (k : ℕ). woken_in k (woken_in n s) ≡ woken_in k s) (sym e) (twice n s))
    by (different o _) rest = ap (after (map Wake xs)) (swap n x s) ∙ rest (member_tail n x xs o l)

absorbs_all : (ns ms : List ℕ) (s : State) → ((n : ℕ) → member n ns ≡ true → member n ms ≡ true)
    → after (map Wake ms) (after (map Wake ns) s) ≡ after (map Wake ms) s
unfolding after
absorbs_all [] ms s i = refl
absorbs_all (n ∷ ns) ms s i =
    absorbs_all ns ms (woken_in n s) (λ m l. i m (member_there m n ns l)) ∙ absorbs n ms s (i n (member_here n n ns refl))

-- ANY WAKES. In every machine, sound or not, and for any threads, Blocked or not: the same threads woken in any order, and any of them
-- more than once, leave the same machine.
pub same_wakes : (ns ms : List ℕ) → ((n : ℕ) → member n ns ≡ member n ms) → (s : State) → after (map Wake ns) s ≡ after (map Wake ms) s
same_wakes ns ms e s =
    sym (absorbs_all ms ns s (λ n l. e n ∙ l)) ∙ past_all ns ms s ∙ absorbs_all ns ms s (λ n l. sym (e n) ∙ l)
