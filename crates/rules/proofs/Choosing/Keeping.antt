-- What putting aside, a retry and what runs leave true, the whole choice leaves true.
use Prim.Native.Nat.{ℕ, zero, suc}
use mathlib.Core.Path.{◌≡◌, refl, sym, subst}
use mathlib.Core.Bool.{false}
use mathlib.Core.Option.{Option, none, some}
use lib.ListN.{length}
use Rattle.rules.specs.declared.Place.{Place}
use Rattle.rules.specs.declared.Place.TheVariants.{On, Stalled}
use Rattle.rules.specs.declared.Running.{Running}
use Rattle.rules.specs.declared.Running.TheVariants.{Nothing}
use Rattle.rules.specs.declared.Chain.{Chain}
use Rattle.rules.specs.State.{State, with_running}
use Rattle.rules.specs.Walk.{ended, walk, chain_of}
use Rattle.rules.specs.Release.{in_queue, topmost_at}
use Rattle.rules.specs.Choice.{Outcome, park, retry, walked, look, choose_from, choose}
use Rattle.rules.proofs.Soundness.Standings.{Waits, RetriesAt, Standing, running, retrying, waiting, stalling}
use Rattle.rules.proofs.Soundness.Places.{owner, stands, Good, Mid}
use Rattle.rules.proofs.Choosing.Tops.{queue_top}
use Rattle.rules.proofs.Choosing.Parking.{unparked, park_mid}
use Rattle.rules.proofs.Choosing.Retrying.{retry_mid}

module _ (I : State → Type 0) (running-kept : (r : Running) (s : State) → I s → I (with_running r s))
    (park-kept :
    (s : State) → Mid s → (t : ℕ) → topmost_at in_queue s ≡ some t → (p : Place) → unparked p ≡ false → Good s t p → I s → I (park t p s))
    (retry-kept :
    (s : State) → Mid s → (t : ℕ) → topmost_at in_queue s ≡ some t → (n : ℕ) (r : RetriesAt s.threads (owner s t) n) → I s
    → I (retry (ended n r.chain) s)) where
  -- one look, by what the topmost in Queue says
  look_kept : (k : ℕ) (s : State) (links : ℕ) → Mid s → I s → ((o : Outcome) → Mid o.state → I o.state → I (choose_from k o).state)
      → (t : ℕ) → topmost_at in_queue s ≡ some t → Standing s.threads (owner s t)
      → I (walked (λ u. choose_from k u) links s t (chain_of s.threads s.slices t)).state
  look_kept k s links x i rest t e (running n count r w v) = rw v (running-kept _ s i)
  look_kept k s links x i rest t e (retrying n r w v) =
      rw v
      (rest _ (subst (λ (c : Chain). Mid (retry c s)) (sym w) (retry_mid s x t e n r))
      (subst (λ (c : Chain). I (retry c s)) (sym w) (retry-kept s x t e n r i)))
  look_kept k s links x i rest t e (waiting n w q v) =
      let p = On (walk s.threads (owner s t)).end in
      let good : Good s t p = subst (λ (m : ℕ). Waits s.threads (owner s t) m) (sym q) w in
      rw v (rest _ (park_mid s x t e p refl good) (park-kept s x t e p refl good i))
  look_kept k s links x i rest t e (stalling h never w v) =
      rw v (rest _ (park_mid s x t e Stalled refl never) (park-kept s x t e Stalled refl never i))

  looks_kept : (k : ℕ) (o : Outcome) → Mid o.state → I o.state → I (choose_from k o).state
  unfolding choose_from
  looks_kept zero o x i = i
  looks_kept (suc k) o x i = by (topmost_at in_queue o.state) refl (looks_kept k)
    where
      by : (q : Option ℕ) → topmost_at in_queue o.state ≡ q
          → ((u : Outcome) → Mid u.state → I u.state → I (choose_from k u).state)
          → I (look (λ u. choose_from k u) o.links o.state q).state
      by none e rest = running-kept Nothing o.state i
      by (some t) e rest =
          look_kept k o.state o.links x i rest t e (stands o.state x.shape t (queue_top o.state t e).listed)

  pub choice_kept : (o : Outcome) → Mid o.state → I o.state → I (choose o).state
  unfolding choose
  choice_kept o x i = looks_kept (suc (suc (length o.state.order))) o x i
