-- THE PAYMENTS of a list, document 02, [13]: who pays is said of the events themselves. A list cut in two has the payments of its parts, so
-- nothing that comes between takes away what was paid. On a sound machine an accepted charge is within what is left.
use Prim.Native.Nat.{ℕ, zero, suc, ◌+◌, ◌*◌, ◌≤◌, ◌<◌}
use native.Mathlib.Omega.{arith}
use mathlib.Core.Path.{◌≡◌, refl, sym, ap, ◌∙◌}
use mathlib.Core.List.{List, [], ◌∷◌, ◌++◌, map, append_assoc, map-append}
use mathlib.Core.Bool.{Bool, true, false, ◌||◌}
use lib.Dec.{ltb, eqb}
use lib.ListN.{length, length-append}
use borrow.Author.Tests.{eqb-false, ltb-false}
use Rattle.rules.specs.declared.Running.{Running}
use Rattle.rules.specs.declared.Running.TheVariants.{Nothing, Runs}
use Rattle.rules.specs.declared.Event.{Event}
use Rattle.rules.specs.declared.Event.TheVariants.{Create, Give, Call, Reply, Block, Wake, Charge, Abort, Refill, Remove, Rank}
use Rattle.rules.specs.Tests.{member}
use Rattle.rules.specs.State.{State, forget, limit, left_at, nothing_runs, current_timeslice}
use Rattle.rules.specs.Refusals.{refusal, ◌gives◌else◌}
use Rattle.rules.specs.Events.{Answered, dispatch, offer}
use Rattle.rules.specs.Plain.{empty_plain}
use Rattle.rules.specs.Lists.{AllRanged, run, after, plain_run, seen, plain_seen}
use Rattle.rules.specs.Shares.{Payment, paid_by, charged_to, paid, payments, payments_of, units_of, total, has_paid}
use Rattle.rules.proofs.Basics.Views.{Same, equal, different, same, clash, or_false_left, or_false_right}
use Rattle.rules.proofs.Basics.Views.{Either, first, second, or_true_cases, or_true_left, or_true_right}
use Rattle.rules.proofs.Basics.Members.{Listed, here, there, listed, member_here, not_listed}
use Rattle.rules.proofs.Basics.Filters.{member_append}
use Rattle.rules.proofs.Basics.Accepting.{passes}
use Rattle.rules.proofs.Soundness.Places.{Sound, of_sound}
use Rattle.rules.proofs.Events.Hands.{active}
use Rattle.rules.proofs.Events.Rewrites.{range}
use Rattle.rules.proofs.Agreement.{agrees, answered_number, offer_sound}
use Rattle.rules.proofs.Demands.{equal as same_seen}

-- from any machine on; from the empty one they are the definition's
abbrev pub paid_in : List Event → State → List Payment
paid_in es s = payments s.running es (map seen (run es s))

-- the first event's, and then the others'
pub paid_first : (e : Event) (es : List Event) (s : State)
    → paid_in (e ∷ es) s ≡ paid (offer e s).refusal s.running e ++ paid_in es (offer e s).state
unfolding run payments
paid_first e es s = refl

-- THE PLAIN MACHINE's are the same
pub same_plain : (es : List Event) → AllRanged es → payments_of es ≡ payments Nothing es (map plain_seen (plain_run es empty_plain))
same_plain es f = ap (payments Nothing es) (same_seen es f)

-- A LIST CUT IN TWO, from any machine, sound or not
paid_append : (es fs : List Event) (s : State) → paid_in (es ++ fs) s ≡ paid_in es s ++ paid_in fs (after es s)
unfolding run payments after
paid_append [] fs s = refl
paid_append (e ∷ es) fs s =
    let a = offer e s in
    let now = paid a.refusal s.running e in
    ap (λ (l : List Payment). now ++ l) (paid_append es fs a.state) ∙ sym (append_assoc now (paid_in es a.state) _)

pub units_append : (t : ℕ) (ps qs : List Payment) → units_of t (ps ++ qs) ≡ units_of t ps + units_of t qs
unfolding units_of
units_append t [] qs = omega arith
units_append t (p ∷ ps) qs = by (same t p.timeslice) (units_append t ps qs)
  where
    by : Same t p.timeslice → units_of t (ps ++ qs) ≡ units_of t ps + units_of t qs
        → units_of t (p ∷ (ps ++ qs)) ≡ units_of t (p ∷ ps) + units_of t qs
    by (equal _ q) r = rw q (omega arith)
    by (different _ q) r = rw q r

pub total_append : (ps qs : List Payment) → total (ps ++ qs) ≡ total ps + total qs
unfolding total
total_append [] qs = omega arith
total_append (p ∷ ps) qs = omega (arith, total_append ps qs)

-- "A number given again after a removal keeps adding": whatever the first events are and do, what the number paid in them is kept
pub keeps_adding : (t : ℕ) (es fs : List Event) (s : State)
    → units_of t (paid_in (es ++ fs) s) ≡ units_of t (paid_in es s) + units_of t (paid_in fs (after es s))
keeps_adding t es fs s = ap (units_of t) (paid_append es fs s) ∙ units_append t (paid_in es s) (paid_in fs (after es s))

-- an event is a charge, or it pays nothing
pub data ChargeOr (e : Event) : Type 0 where
  is_charge : (units : ℕ) → e ≡ Charge units → ChargeOr e
  pays_nothing : ((r : Running) → charged_to r e ≡ []) → ChargeOr e

pub charge_or : (e : Event) → ChargeOr e
charge_or (Create n r) = pays_nothing (λ _. refl)
charge_or (Give t n priority quantum) = pays_nothing (λ _. refl)
charge_or (Call server) = pays_nothing (λ _. refl)
charge_or Reply = pays_nothing (λ _. refl)
charge_or Block = pays_nothing (λ _. refl)
charge_or (Wake n) = pays_nothing (λ _. refl)
charge_or (Charge units) = is_charge units refl
charge_or (Abort n) = pays_nothing (λ _. refl)
charge_or (Refill t) = pays_nothing (λ _. refl)
charge_or (Remove n) = pays_nothing (λ _. refl)
charge_or (Rank t priority) = pays_nothing (λ _. refl)

-- WHO PAYS. Somewhere in the list a charge is accepted, and t is the current timeslice when it comes.
pub data Charged (t : ℕ) : List Event → State → Type 0 where
  now : {s : State} {e : Event} {es : List Event} {units n count : ℕ} → e ≡ Charge units → s.running ≡ Runs n t count
      → (offer e s).refusal ≡ 0 → Charged t (e ∷ es) s
  later : {s : State} {e : Event} {es : List Event} → Charged t es (offer e s).state → Charged t (e ∷ es) s

-- one who has paid in two lists of payments joined has paid in one of them
pub has_append : (ps qs : List Payment) (t : ℕ) → has_paid (ps ++ qs) t ≡ has_paid ps t || has_paid qs t
has_append ps qs t =
    ap (member t) (map-append (λ p. p.timeslice) ps qs) ∙ member_append t (map (λ p. p.timeslice) ps) (map (λ p. p.timeslice) qs)

none_paid : {A : Type 0} (t : ℕ) → has_paid [] t ≡ true → A
none_paid t h = clash (member t []) h (not_listed t)

-- who pays for an event is current when it comes, and the event is a charge that is accepted
charged_now : (t : ℕ) (e : Event) (es : List Event) (s : State) (k : ℕ) (r : Running) → (offer e s).refusal ≡ k → s.running ≡ r
    → has_paid (paid k r e) t ≡ true → Charged t (e ∷ es) s
charged_now t e es s (suc k) r a q h = none_paid t h
charged_now t e es s zero r a q h = by (charge_or e)
  where
    units_by : (units : ℕ) → e ≡ Charge units → (r' : Running) → r ≡ r' → has_paid (paid_by r' units) t ≡ true → Charged t (e ∷ es) s
    units_by units c Nothing z p = none_paid t p
    units_by units c (Runs n u count) z p = only (listed t u [] p)
      where
        only : Listed t u [] → Charged t (e ∷ es) s
        only (here same-slice) = now c (q ∙ z ∙ ap (λ (v : ℕ). Runs n v count) (sym same-slice)) a
        only (there n-one) = clash (member t []) n-one (not_listed t)

    by : ChargeOr e → Charged t (e ∷ es) s
    by (is_charge units c) = units_by units c r refl (rw c at h)
    by (pays_nothing f) = none_paid t (rw (f r) at h)

pub charged_of : (t : ℕ) (es : List Event) (s : State) → has_paid (paid_in es s) t ≡ true → Charged t es s
unfolding run payments
charged_of t [] s h = none_paid t h
charged_of t (e ∷ es) s h =
    by (or_true_cases (has_paid first_paid t) _ (sym (has_append first_paid (paid_in es (offer e s).state) t) ∙ h))
    (charged_of t es (offer e s).state)
  where
    first_paid : List Payment
    first_paid = paid (offer e s).refusal s.running e

    by : Either (has_paid first_paid t) (has_paid (paid_in es (offer e s).state) t)
        → (has_paid (paid_in es (offer e s).state) t ≡ true → Charged t es (offer e s).state) → Charged t (e ∷ es) s
    by (first p) r = charged_now t e es s (offer e s).refusal s.running refl refl p
    by (second _ p) r = later (r p)

-- and whoever is so charged has paid
pub of_charged : (t : ℕ) (es : List Event) (s : State) → Charged t es s → has_paid (paid_in es s) t ≡ true
unfolding run payments
of_charged t [] s x = elim x [ ]
of_charged t (e ∷ es) s (now c q a) =
    let first_paid = paid (offer e s).refusal s.running e in
    let rest = paid_in es (offer e s).state in
    let has : has_paid first_paid t ≡ true = rw (a, q, c) (member_here t t [] refl) in
    has_append first_paid rest t ∙ or_true_left (has_paid first_paid t) (has_paid rest t) has
of_charged t (e ∷ es) s (later p) =
    let first_paid = paid (offer e s).refusal s.running e in
    let rest = paid_in es (offer e s).state in
    has_append first_paid rest t ∙ or_true_right (has_paid first_paid t) (has_paid rest t) (of_charged t es (offer e s).state p)

-- THE UNITS. What is true of a payment from a sound machine
pub record Bounded (p : Payment) : Type 0 where
  pub number : p.timeslice < limit
  pub some : 0 < p.units
  pub most : p.units ≤ 65535

abbrev pub AllBounded : List Payment → Type 0
AllBounded [] = Unit {0}
AllBounded (p ∷ ps) = Bounded p × AllBounded ps

bounded_append : (ps qs : List Payment) → AllBounded ps → AllBounded qs → AllBounded (ps ++ qs)
bounded_append [] qs a b = b
bounded_append (p ∷ ps) qs a b = (a.0, bounded_append ps qs a.1 b)

-- an accepted charge is not 0, and within what is left
bounded_charge : (s : State) → Sound s → (units : ℕ) → refusal (Charge units) (forget s) ≡ 0 → AllBounded (paid_by s.running units)
bounded_charge s x units e = by s.running refl (passes (nothing_runs s.running) 4 _ e)
  where
    too_much : Running → Bool
    too_much r = eqb units 0 || ltb (left_at s.slices (current_timeslice r)) units

    by : (r : Running) → s.running ≡ r → (nothing_runs r ≡ false) × ((too_much r gives 11 else 0) ≡ 0) → AllBounded (paid_by r units)
    by Nothing q p = tt
    by (Runs n t count) q p =
        let a = active s x n t count q in
        let fitting = (passes (too_much (Runs n t count)) 10 0 p.1).0 in
        let some = eqb-false units 0 (or_false_left (eqb units 0) _ fitting) in
        let within = ltb-false (left_at s.slices t) units (or_false_right (eqb units 0) _ fitting) in
        let r = range x.mid t a.listed in
        let small = x.mid.shape.turns.small t a.listed in
        (record { number = small; some = omega (arith, some); most = omega (arith, r.most, r.bound) }, tt)

bounded_now : (e : Event) (s : State) → Sound s → (k : ℕ) → refusal e (forget s) ≡ k → AllBounded (paid k s.running e)
bounded_now e s x (suc k) h = tt
bounded_now e s x zero h = by (charge_or e)
  where
    by : ChargeOr e → AllBounded (charged_to s.running e)
    by (is_charge units c) = rw c (bounded_charge s x units (rw c at h))
    by (pays_nothing f) = rw (f s.running) tt

-- on a sound machine an event's number is its refusal's
offer_number : (e : Event) (s : State) → Sound s → refusal e (forget s) ≡ (offer e s).refusal
unfolding dispatch
offer_number e s x =
    sym (ap (λ (a : Answered). a.refusal) (offer_sound e s (of_sound s x)) ∙ answered_number (refusal e (forget s)) e s)

pub all_bounded : (es : List Event) (s : State) → AllRanged es → Sound s → AllBounded (paid_in es s)
unfolding run payments
all_bounded [] s f x = tt
all_bounded (e ∷ es) s f x =
    let a = offer e s in
    bounded_append (paid a.refusal s.running e) (paid_in es a.state)
    (bounded_now e s x a.refusal (offer_number e s x))
    (all_bounded es a.state f.1 (agrees e s x f.0).sound)

-- there are no more payments than events
paid_once : (k : ℕ) (r : Running) (e : Event) → length (paid k r e) ≤ 1
paid_once (suc k) r e = omega arith
paid_once zero r e = by (charge_or e)
  where
    once : (r' : Running) (units : ℕ) → length (paid_by r' units) ≤ 1
    once Nothing units = omega arith
    once (Runs n t count) units = omega arith

    by : ChargeOr e → length (charged_to r e) ≤ 1
    by (is_charge units c) = rw c (once r units)
    by (pays_nothing f) = rw (f r) (omega arith)

few_payments : (es : List Event) (s : State) → length (paid_in es s) ≤ length es
unfolding run payments
few_payments [] s = omega arith
few_payments (e ∷ es) s =
    let a = offer e s in
    rw length-append (omega (arith, paid_once a.refusal s.running e, few_payments es a.state))

total_most : (ps : List Payment) → AllBounded ps → total ps ≤ 65535 * length ps
unfolding total
total_most [] x = omega arith
total_most (p ∷ ps) x = omega (arith, x.0.most, total_most ps x.1)

-- so a list's total is bounded by its length
pub total_bound : (es : List Event) (s : State) → AllBounded (paid_in es s) → total (paid_in es s) ≤ 65535 * length es
total_bound es s x = omega (arith, total_most (paid_in es s) x, few_payments es s)
