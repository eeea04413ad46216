-- The wakes of the code, document 02, [14]: the stored machines are equal where the definitions' machines are, by the one stored form.
use Prim.Native.Nat.{ℕ}
use mathlib.Core.Path.{◌≡◌, ◌∙◌}
use mathlib.Core.List.{List, [], ◌∷◌, map}
use mathlib.Core.Bool.{true}
use Rattle.rules.specs.declared.Hold.TheVariants.{Blocked}
use Rattle.rules.specs.declared.Event.TheVariants.{Wake}
use Rattle.rules.specs.Tests.{member}
use Rattle.rules.specs.State.{hold_at}
use Rattle.rules.specs.Lists.{AllRanged}
use Rattle.wakes.proofs.EitherWay as either_way
use Rattle.wakes.proofs.AnyOrder as any_order
use Rattle.dispatcher.specs.declared.Machine.{Machine}
use Rattle.dispatcher.specs.Promise.{Answered}
use Rattle.dispatcher.specs.Shown.{shown, sound_machine}
use Rattle.dispatcher.proofs.Stored.{sound_shown}
use Rattle.dispatcher.proofs.Runs.{Runs, last_of, ran, same_last}

all_ranged : (ns : List ℕ) → AllRanged (map Wake ns)
all_ranged [] = tt
all_ranged (n ∷ ns) = (either_way.wake_ranged n, all_ranged ns)

-- TWO WAKES. Of two different Blocked threads of a sound machine, by the method `wake`: all four are accepted, and the machine handed back
-- last is the same either way round.
pub record EitherWay (rs rs' : List Answered) (m : Machine) : Type 0 where
  pub one_way : map (λ (r : Answered). r.refusal) rs ≡ 0 ∷ 0 ∷ []
  pub other_way : map (λ (r : Answered). r.refusal) rs' ≡ 0 ∷ 0 ∷ []
  pub machine : last_of m rs ≡ last_of m rs'

pub two_wakes : {m : Machine} {a b : ℕ} {rs rs' : List Answered} → Runs m (Wake a ∷ Wake b ∷ []) rs → Runs m (Wake b ∷ Wake a ∷ []) rs'
    → sound_machine m ≡ true → (a ≡ b → ⊥) → hold_at m.threads a ≡ Blocked → hold_at m.threads b ≡ Blocked → EitherWay rs rs' m
two_wakes {m} {a} {b} x y h n p q =
    let both = either_way.two_wakes a b (shown m) (sound_shown m h) n p q in
    let ranged = all_ranged (a ∷ b ∷ []) in
    let other = all_ranged (b ∷ a ∷ []) in
    record {
      one_way = (ran x ranged h).numbers ∙ both.one_way;
      other_way = (ran y other h).numbers ∙ both.other_way;
      machine = same_last x y ranged other both.machine;
    }

-- ANY WAKES. Offered to any machine, sound or not: the same threads woken in any order, and any of them more than once, leave the same
-- machine.
pub same_wakes : {m : Machine} (ns ms : List ℕ) {rs rs' : List Answered} → Runs m (map Wake ns) rs → Runs m (map Wake ms) rs'
    → ((n : ℕ) → member n ns ≡ member n ms) → last_of m rs ≡ last_of m rs'
same_wakes {m} ns ms x y e = same_last x y (all_ranged ns) (all_ranged ms) (any_order.same_wakes ns ms e (shown m))
