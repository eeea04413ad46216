-- Create: no link differs and every live thread keeps its hold, so the places and what runs stay as they were.
use Prim.Native.Nat.{ℕ, ◌<◌}
use mathlib.Core.Path.{◌≡◌, refl, sym, ap, ◌∙◌, subst, fun_ext}
use mathlib.Core.List.{List}
use mathlib.Core.Bool.{true, false}
use native.Mathlib.Omega.{arith}
use borrow.Author.Tests.{ltb-false}
use Rattle.rules.specs.declared.Role.{Role}
use Rattle.rules.specs.declared.Hold.{Hold}
use Rattle.rules.specs.declared.Hold.TheVariants.{Ready, Idle, Blocked}
use Rattle.rules.specs.declared.Thread.{Thread}
use Rattle.rules.specs.declared.Place.{Place}
use Rattle.rules.specs.declared.Place.TheVariants.{Queue, Behind, On, Stalled, Spent}
use Rattle.rules.specs.declared.Chain.{Chain}
use Rattle.rules.specs.declared.Event.TheVariants.{Create}
use Rattle.rules.specs.Tests.{member}
use Rattle.rules.specs.State.{State, forget, limit, hold_at, live_at, place_at, with_threads}
use Rattle.rules.specs.Walk.{Link, no_links}
use Rattle.rules.specs.Sound.{is_ready}
use Rattle.rules.specs.Refusals.{refusal, ◌gives◌else◌, above_limit}
use Rattle.rules.specs.Events.{create}
use Rattle.rules.specs.Plain.{update}
use Rattle.rules.proofs.Basics.Views.{clash, Same, equal, different, same}
use Rattle.rules.proofs.Basics.Accepting.{passes}
use Rattle.rules.proofs.Links.Chains.{link_at, Ends}
use Rattle.rules.proofs.Soundness.Shapes.{Sane}
use Rattle.rules.proofs.Soundness.Standings.{Waits, blocked, idle, Stalls, RunsAt}
use Rattle.rules.proofs.Tables.Updates.{CreateUpdate, create_update}
use Rattle.rules.proofs.Soundness.Places.{owner, Good, Mid, Settled, nothing, runs_on, Sound}
use Rattle.rules.proofs.Choosing.Changes.{turns_kept}
use Rattle.rules.proofs.Events.Hands.{Handed, active}

-- the threads before and after, where n is new
module _ {ts ts' : List Thread} {n : ℕ} (x : Sane ts) (free : live_at ts n ≡ false) (u : CreateUpdate ts ts' n) where
  -- what is live stays live
  live_kept : (m : ℕ) → live_at ts m ≡ true → live_at ts' m ≡ true
  live_kept m h = by (same m n)
    where
      by : Same m n → live_at ts' m ≡ true
      by (equal e _) = rw e u.live
      by (different d _) = u.live_others m d ∙ h

  -- the same links, so the same chains
  links_kept : link_at ts ≡ link_at ts'
  links_kept = fun_ext (λ m. sym (u.links m))

  ends_kept : {k m : ℕ} {c d : Chain} → Ends (link_at ts) k c m d → Ends (link_at ts') k c m d
  ends_kept {k} {m} {c} {d} p = subst (λ (ln : ℕ → Link). Ends ln k c m d) links_kept p

  stalls_kept : (k : ℕ) → Stalls ts k → Stalls ts' k
  stalls_kept k never = subst (λ (ln : ℕ → Link). (m : ℕ) (d : Chain) → Ends ln k no_links m d → ⊥) links_kept never

  -- a thread that is live, or not Ready, is not the new one
  hold_kept : (m : ℕ) → live_at ts m ≡ true → hold_at ts' m ≡ hold_at ts m
  hold_kept m h = u.others m (λ e. clash (live_at ts n) (rw e at h) free)

  unready : (m : ℕ) (h : Hold) → hold_at ts m ≡ h → is_ready h ≡ false → hold_at ts' m ≡ h
  unready m h e d =
      let ready : hold_at ts n ≡ Ready = ap (λ (t : Thread). t.hold) (x.free n free) in
      u.others m (λ z. clash (is_ready h) (ap is_ready (sym e ∙ ap (hold_at ts) z ∙ ready)) d) ∙ e

  -- who waits waits at a thread that is not Ready, and who runs runs at a live one
  waits_kept : {k m : ℕ} → Waits ts k m → Waits ts' k m
  waits_kept {k} {m} (blocked p b) = blocked (ends_kept p) (unready m Blocked b refl)
  waits_kept {k} {m} (idle e i) = idle e (unready m Idle i refl)

  runs_kept : {k m count : ℕ} → live_at ts m ≡ true → RunsAt ts k m count → RunsAt ts' k m count
  runs_kept {k} {m} h r =
      record { chain = r.chain; ends = ends_kept r.ends; ready = hold_kept m h ∙ r.ready; counted = r.counted }

-- the machine after
module _ {s : State} {ts' : List Thread} {n : ℕ}
    (x : Sound s) (free : live_at s.threads n ≡ false) (u : CreateUpdate s.threads ts' n) where
  -- every place is still true
  good_kept : (t : ℕ) (p : Place) → Good s t p → Good (with_threads ts' s) t p
  good_kept t Queue g = tt
  good_kept t (Behind q) g = record { listed = g.listed; queued = g.queued; above = g.above }
  good_kept t (On m) g = waits_kept x.mid.shape.sane free u g
  good_kept t Stalled g = stalls_kept x.mid.shape.sane free u (owner s t) g
  good_kept t Spent g = tt

  owners_live_lem : (t : ℕ) → member t s.order ≡ true → live_at ts' (owner s t) ≡ true
  owners_live_lem t h = live_kept x.mid.shape.sane free u (owner s t) (x.mid.shape.turns.owner t h)

  mid_kept : Mid (with_threads ts' s)
  mid_kept =
      record {
        shape = record { sane = u.sane; turns = turns_kept x.mid.shape.turns owners_live_lem };
        placed =
            record {
              full = x.mid.placed.full;
              good = λ t h. good_kept t (place_at s.places t) (x.mid.placed.good t h);
              spent = x.mid.placed.spent;
              free = x.mid.placed.free;
            };
      }

  -- the running thread was live, so it is not the new one
  settled_kept : Settled s → Settled (with_threads ts' s)
  settled_kept (nothing q f) = nothing q f
  settled_kept (runs_on t m count q f r) =
      runs_on t m count q f (runs_kept x.mid.shape.sane free u (active s x m t count q).live r)

pub create_handed : (s : State) → Sound s → (n : ℕ) (r : Role) → refusal (Create n r) (forget s) ≡ 0
    → Handed s (create n r s) (update (Create n r) (forget s))
unfolding create
create_handed s x n r e =
    let first = passes (above_limit n) 1 (live_at s.threads n gives 3 else 0) e in
    let free = (passes (live_at s.threads n) 2 0 first.1).0 in
    let small : n < limit = omega (arith, ltb-false 127 n first.0) in
    let u = create_update s.threads n r x.mid.shape.sane small free in
    record {
      mid = mid_kept x free u;
      plain = refl;
      settled = λ z. settled_kept x free u x.settled;
      unwalked = λ z. refl;
      links = λ z. clash false z refl;
    }
