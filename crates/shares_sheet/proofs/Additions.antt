-- An event pays nothing, and nothing changes; or it is an accepted charge, which is added at the number of the timeslice that runs, and
-- every other number keeps its units.
use Prim.Native.Nat.{ℕ, zero, suc, ◌+◌, ◌<◌}
use native.Mathlib.Omega.{arith}
use mathlib.Core.Path.{◌≡◌, refl, ◌∙◌}
use mathlib.Core.List.{List, [], ◌∷◌}
use lib.ListN.{length, get_or, set, length-set}
use lib.Seq.{get_or-set_same, get_or-set_other}
use Rattle.rules.specs.declared.Event.{Event}
use Rattle.rules.specs.declared.Event.TheVariants.{Charge}
use Rattle.rules.specs.declared.Running.{Running}
use Rattle.rules.specs.declared.Running.TheVariants.{Nothing, Runs}
use Rattle.rules.specs.Shares.{Payment, paid, units_of, total}
use Rattle.rules.proofs.Basics.Views.{Same, equal, different, same}
use Rattle.rules.proofs.Basics.Members.{member_here}
use Rattle.rules.proofs.Payments.{ChargeOr, is_charge, pays_nothing, charge_or}
use Rattle.shares_sheet.specs.Tallies.{Room, Added}

-- no payment
added_none : (units : List ℕ) → Added units units [] 0
unfolding units_of total
added_none units = record { size = refl; each = λ t. omega arith; sum = refl }

nothing_paid : (units : List ℕ) {ps : List Payment} → ps ≡ [] → Added units units ps 0
nothing_paid units e = rw e (added_none units)

module _ (units : List ℕ) where
  -- a refused event
  pub refused : (k : ℕ) (r : Running) (e : Event) → (k ≡ 0 → ⊥) → Added units units (paid k r e) 0
  refused zero r e h = absurd (h refl)
  refused (suc k) r e h = added_none units

  -- an event that is no charge
  pub no_charge : (k : ℕ) (r : Running) (e : Event) → k ≡ 0 → ((u : ℕ) → e ≡ Charge u → ⊥) → Added units units (paid k r e) 0
  no_charge k r e z other = by (charge_or e)
    where
      by : ChargeOr e → Added units units (paid k r e) 0
      by (is_charge u c) = absurd (other u c)
      by (pays_nothing f) = rw z (nothing_paid units (f r))

  -- a charge while nothing runs
  pub none_runs : (k : ℕ) (r : Running) (e : Event) (u : ℕ) → k ≡ 0 → r ≡ Nothing → e ≡ Charge u → Added units units (paid k r e) 0
  none_runs k r e u z n c = rw (z, n, c) (added_none units)

abbrev one : ℕ → ℕ → List Payment
one t u = record { timeslice = t; units = u } ∷ []

-- an accepted charge: there is a place for it, and room, and there it is added
pub record Pays (units : List ℕ) (t u : ℕ) (ps : List Payment) : Type 0 where
  pub inside : t < length units
  pub fits : get_or units t 0 + u < 18446744073709551616
  pub added : Added units (set units t (get_or units t 0 + u)) ps u

module _ (units : List ℕ) (n t count u : ℕ) where
  -- what an accepted charge asks for
  one_place : Room units (one t u) → (t < length units) × (get_or units t 0 + u < 18446744073709551616)
  unfolding units_of
  one_place room = by (same t t) (room t (member_here t t [] refl))
    where
      by : Same t t → (t < length units) × (get_or units t 0 + units_of t (one t u) < 18446744073709551616)
          → (t < length units) × (get_or units t 0 + u < 18446744073709551616)
      by (equal _ q) given = let g = rw q at given in (g.0, omega (arith, g.1))
      by (different d _) given = absurd (d refl)

  -- and what it adds
  added_one : t < length units → Added units (set units t (get_or units t 0 + u)) (one t u) u
  unfolding units_of total
  added_one small = record { size = length-set units t (get_or units t 0 + u); each = λ s. by s (same s t); sum = omega arith }
    where
      by : (s : ℕ) → Same s t → get_or (set units t (get_or units t 0 + u)) s 0 ≡ get_or units s 0 + units_of s (one t u)
      by s (equal e q) = rw (q, e) (get_or-set_same units t (get_or units t 0 + u) 0 small ∙ omega arith)
      by s (different d q) = rw q (get_or-set_other units t s (get_or units t 0 + u) 0 d ∙ omega arith)

  pub pays : {k : ℕ} {r : Running} {e : Event} → k ≡ 0 → r ≡ Runs n t count → e ≡ Charge u → Room units (paid k r e)
      → Pays units t u (paid k r e)
  pays z runs charge room =
      let place = one_place (rw (z, runs, charge) at room) in
      record { inside = place.0; fits = place.1; added = rw (z, runs, charge) (added_one place.0) }
