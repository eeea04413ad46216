-- Document 02, [14]: "Only the links followed may differ, and one case is proved where their sums do."
-- Proved by computation, from the list of tests/sequences/two-wakes-one-way.
use Prim.Native.Nat.{ℕ}
use mathlib.Core.Path.{◌≡◌, refl}
use mathlib.Core.List.{[], ◌∷◌}
use mathlib.Core.Bool.{true}
use Rattle.rules.specs.declared.Role.TheVariants.{Client, Server}
use Rattle.rules.specs.declared.Hold.TheVariants.{Blocked}
use Rattle.rules.specs.declared.Event.TheVariants.{Create, Give, Call, Block}
use Rattle.rules.specs.State.{State, empty, hold_at}
use Rattle.rules.specs.Sound.{sound}
use Rattle.rules.specs.Lists.{after}
use Rattle.rules.proofs.Computing.{computing}
use Rattle.wakes.proofs.Sums.{links_of_both}

-- a sound machine with two Blocked threads: a then b follow so many links in all, b then a so many
pub record Sums (a b : ℕ) (s : State) (one_way other_way : ℕ) : Type 0 where
  pub is_sound : sound s ≡ true
  pub first : hold_at s.threads a ≡ Blocked
  pub second : hold_at s.threads b ≡ Blocked
  pub a_then_b : links_of_both a b s ≡ one_way
  pub b_then_a : links_of_both b a s ≡ other_way

-- client 1 calls server 2, which blocks, paid by timeslice 1; client 0 blocks, paid by its timeslice 0, which stands above
unfoldable pub asleep : State
asleep =
    after
    (Create 0 Client ∷ Create 1 Client ∷ Create 2 Server ∷ Give 1 1 10 100 ∷ Call 2 ∷ Block ∷ Give 0 0 20 100 ∷ Block ∷ [])
    empty

-- Timeslice 0 has no link to follow. Timeslice 1 has one, and follows it only where nothing stands above it yet.
pub sums_differ : Sums 0 2 asleep 0 1
unfolding computing asleep
sums_differ = record { is_sound = refl; first = refl; second = refl; a_then_b = refl; b_then_a = refl }
