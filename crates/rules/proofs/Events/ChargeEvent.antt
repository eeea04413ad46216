-- Charge: what is left falls, and at 0 the timeslice goes to the back of the turn order and is Spent, and its followers are released.
use Prim.Native.Nat.{ℕ, ◌<◌, ◌-◌}
use mathlib.Core.Path.{◌≡◌, refl, sym, ◌∙◌, subst}
use mathlib.Core.Bool.{Bool, true, false, ◌||◌}
use mathlib.Core.Option.{some}
use native.Mathlib.Omega.{arith}
use lib.ListN.{length}
use lib.Dec.{eqb, ltb}
use borrow.Author.Tests.{ltb-false, eq-eqb, ne_eqb, eqb-true, eqb-false}
use Rattle.rules.specs.declared.Place.TheVariants.{Queue, Spent}
use Rattle.rules.specs.declared.Running.{Running}
use Rattle.rules.specs.declared.Running.TheVariants.{Nothing, Runs}
use Rattle.rules.specs.declared.Event.TheVariants.{Charge}
use Rattle.rules.specs.State.{State, forget, left_at, place_at, with_timeslices, nothing_runs, current_timeslice}
use Rattle.rules.specs.Timeslices.{set_left, to_back, charged}
use Rattle.rules.specs.Release.{in_queue, behind, topmost_at}
use Rattle.rules.specs.Choice.{park}
use Rattle.rules.specs.Refusals.{refusal, ◌gives◌else◌}
use Rattle.rules.specs.Events.{charge, charge_by, depletes, spends}
use Rattle.rules.specs.Plain.{update, plain_charge, plain_timeslices}
use Rattle.rules.proofs.Basics.Views.{Two, yes_true, no_false, two, clash, or_false_right}
use Rattle.rules.proofs.Basics.Accepting.{passes}
use Rattle.rules.proofs.Order.Orders.{is_top, member_back, length_back}
use Rattle.rules.proofs.Soundness.Places.{runs_on, Mid, Sound}
use Rattle.rules.proofs.Choosing.Releases.{release_mid, forget_release}
use Rattle.rules.proofs.Choosing.Tops.{queue_top, top_queued}
use Rattle.rules.proofs.Choosing.Slices.{retimed, put_listed, freed, stay, retimed_releasable, retimed_mid, stays_put}
use Rattle.rules.proofs.Events.Hands.{Handed, same_limit, Active, active}
use Rattle.rules.proofs.Events.Rewrites.{in_table, range}
use Rattle.rules.proofs.Events.Lefts.{left_is, left_owner, left_above, left_changed, left_back}

-- the current timeslice: listed and in Queue
module _ {s : State} (x : Sound s) {n t count : ℕ} (a : Active s n t count) where
  queued : place_at s.places t ≡ Queue
  queued = top_queued s t a.topmost

  inside : t < length s.slices
  inside = in_table x.mid t a.listed

  -- some is left: every timeslice stands as it stood, and the current one is still the topmost
  still_top : (k : ℕ) → topmost_at in_queue (with_timeslices (set_left t k s.slices) s.order s) ≡ some t
  still_top k =
      let top = queue_top s t a.topmost in
      is_top (set_left t k s.slices) (λ u. in_queue (place_at s.places u)) s.order t
      (record {
        listed = top.listed;
        taken = top.taken;
        above = λ u h q d. left_above s.slices t k inside s.order t u ∙ top.above u h q d;
      })

  spends_handed : s.running ≡ Runs n t count → (units : ℕ) → units < left_at s.slices t
      → Handed s (spends t units s) (plain_timeslices (charged t units s.slices) s.order (forget s))
  unfolding spends charged
  spends_handed q units less =
      let ss = s.slices in
      let k = left_at ss t - units in
      let r = left_changed x.mid t a.listed k (omega (arith, (range x.mid t a.listed).most)) in
      let left = left_is ss t k inside in
      let timed : eqb (left_at (set_left t k ss) t) 0 ≡ false = ne_eqb (left_at (set_left t k ss) t) 0 (λ z. omega (arith, left)) in
      record {
        mid =
            subst Mid (stays_put s (set_left t k ss) s.order t Queue queued)
            (retimed_mid x.mid r Queue
            (put_listed (retimed (set_left t k ss) s.order t Queue s) t Queue a.listed tt (sym timed))
            (stay a.listed refl (λ u g. left_above ss t k inside s.order t u ∙ g.above)));
        plain = refl;
        settled = λ z. runs_on t n count q (still_top k) (rw (left_owner ss t k inside t) a.runs);
        unwalked = λ z. refl;
        links = λ z. clash false z refl;
      }

  -- nothing is left: the others stand as they stood, and the followers are released
  depletes_handed : (units : ℕ) → left_at s.slices t ≡ units
      → Handed s (depletes t units s) (plain_timeslices (charged t units s.slices) (to_back t s.order) (forget s))
  unfolding depletes charged park
  depletes_handed units e =
      let ss = s.slices in
      let order = s.order in
      let k = left_at ss t - units in
      let r = left_back x.mid t a.listed k (omega (arith, (range x.mid t a.listed).most)) in
      let left = left_is ss t k inside in
      let none_left : eqb (left_at (set_left t k ss) t) 0 ≡ true = eq-eqb (left_at (set_left t k ss) t) 0 (omega (arith, left)) in
      let after = retimed (set_left t k ss) (to_back t order) t Spent s in
      record {
        mid =
            release_mid (behind t) after
            (retimed_releasable x.mid r Spent
            (put_listed after t Spent (member_back t t order a.listed ∙ a.listed) tt (sym none_left)) (freed (eq-eqb t t refl))
            refl refl);
        plain = forget_release (behind t) after;
        settled = λ z. clash true refl z;
        unwalked = λ z. refl;
        links = λ z. same_limit s 0 (forget after) (omega arith) refl (length_back t order a.listed);
      }

-- by what runs, and by whether the charge is all that is left
pub charge_handed : (s : State) → Sound s → (units : ℕ) → refusal (Charge units) (forget s) ≡ 0
    → Handed s (charge units s) (update (Charge units) (forget s))
unfolding charge
charge_handed s x units e = by s.running refl (passes (nothing_runs s.running) 4 _ e)
  where
    too_much : Running → Bool
    too_much r = eqb units 0 || ltb (left_at s.slices (current_timeslice r)) units

    left_or_not : (n t count : ℕ) → s.running ≡ Runs n t count → too_much (Runs n t count) ≡ false
        → Two (eqb (left_at s.slices t) units)
        → Handed s (charge_by units s (Runs n t count)) (plain_charge units (forget s) (Runs n t count))
    left_or_not n t count q m (yes_true k) =
        rw k (depletes_handed x (active s x n t count q) units (eqb-true (left_at s.slices t) units k))
    left_or_not n t count q m (no_false k) =
        let least = ltb-false (left_at s.slices t) units (or_false_right (eqb units 0) _ m) in
        let other = eqb-false (left_at s.slices t) units k in
        rw k (spends_handed x (active s x n t count q) q units (omega arith))

    by : (r : Running) → s.running ≡ r → (nothing_runs r ≡ false) × ((too_much r gives 11 else 0) ≡ 0)
        → Handed s (charge_by units s r) (plain_charge units (forget s) r)
    by Nothing q p = clash true refl p.0
    by (Runs n t count) q p =
        left_or_not n t count q (passes (too_much (Runs n t count)) 10 0 p.1).0 (two (eqb (left_at s.slices t) units))
