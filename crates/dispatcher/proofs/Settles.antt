-- What an event settles on: a choice, or the machine as it stands.
use Prim.Native.Nat.{ℕ}
use mathlib.Core.Path.{◌≡◌, refl, sym, ◌∙◌, ap, ap₂, subst}
use mathlib.Core.List.{List, map}
use mathlib.Core.Bool.{true}
use mathlib.Core.Option.{none, some}
use lib.ListN.{length, get_or, set}
use lib.Seq.{map-set_same}
use Rattle.std.specs.Prelude.{Ok}
use Rattle.rules.specs.declared.Place.TheVariants.{Queue}
use Rattle.rules.specs.declared.Timeslice.{Timeslice}
use Rattle.rules.specs.Tests.{filter}
use Rattle.rules.specs.declared.Running.{Running}
use Rattle.rules.specs.declared.Running.TheVariants.{Nothing, Runs}
use Rattle.rules.specs.State.{State, place_at}
use Rattle.rules.specs.Order.{stands_above}
use Rattle.rules.specs.Release.{on_thread, topmost_at, released_places, release, release_to}
use Rattle.rules.specs.Choice.{Outcome}
use Rattle.rules.specs.Events.{above_running, overtakes, releases, settle_if, settle}
use Rattle.dispatcher.specs.declared.Machine.{Machine}
use Rattle.dispatcher.specs.Promise.{Answered, answered}
use Rattle.tables.specs.Timeslices.{with_place, slice_of, place_of, free_timeslice}
use Rattle.tables.proofs.Lookups.{map-set}
use Rattle.timeslices.proofs.Alone.{one_released}
use Rattle.dispatcher.specs.Shown.{shown, stored}
use Rattle.timeslices.specs.Releasing.{Replaced}
use Rattle.dispatcher.specs.Choosing.{Choosable, before, Settled}
use Rattle.dispatcher.proofs.Stored.{live_is, stored_with}

-- a timeslice that joined Queue overtakes by the timeslices without their places
over_same : (s u : State) (q : ℕ) (r : Running) → s.slices ≡ u.slices → s.order ≡ u.order → above_running s q r ≡ above_running u q r
over_same s u q Nothing a b = refl
over_same s u q (Runs n t count) a b = ap₂ (λ ss order. stands_above ss order q t) a b

-- nobody was On the thread
pub none_released : (n : ℕ) (m : Machine) → topmost_at (on_thread n) (shown m) ≡ none → stored m ≡ true
    → Settled (settle (releases n (shown m))) (answered m (Ok 0))
unfolding releases release
none_released n m top exact =
    rw top (record { refusal = refl; links = refl; state = refl; exact = exact })

-- other timeslices
abbrev pub timeslices_to : List Timeslice → Machine → Machine
timeslices_to ts m =
    record {
      threads = m.threads;
      timeslices = ts;
      before = m.before;
      after = m.after;
      live_threads = m.live_threads;
      live_timeslices = m.live_timeslices;
      running = m.running;
    }

-- the one timeslice that was On the thread goes to Queue where it is stored
module _ (n : ℕ) (m : Machine) (q k : ℕ) (at : k ≡ q) (top : topmost_at (on_thread n) (shown m) ≡ some q)
    (one : length (filter (λ t. on_thread n (place_at (shown m).places t)) (shown m).order) ≡ 1) where
  pub alone_moved :
      Replaced m.timeslices (released_places (on_thread n) q (shown m).order (map place_of m.timeslices))
      (set m.timeslices k (with_place Queue (get_or m.timeslices k free_timeslice)))
  alone_moved =
      let y = with_place Queue (get_or m.timeslices k free_timeslice) in
      record {
        slices = map-set_same slice_of m.timeslices k y free_timeslice refl;
        places =
            map-set place_of m.timeslices k y
            ∙ ap (λ (j : ℕ). set (map place_of m.timeslices) j Queue) at
            ∙ sym (one_released (on_thread n) (shown m).slices (shown m).places (shown m).order q top one);
      }

-- the topmost one joined Queue
module _ (n : ℕ) (m : Machine) (q : ℕ) (ts : List Timeslice) (top : topmost_at (on_thread n) (shown m) ≡ some q)
    (r : Replaced m.timeslices (released_places (on_thread n) q (shown m).order (map place_of m.timeslices)) ts)
  where
    abbrev freed : Machine
    freed = timeslices_to ts m

    shows : shown freed ≡ release (on_thread n) (shown m)
    unfolding release
    shows =
        let ss = r.slices in
        let ps = r.places in
        (λ i. record {
          threads = m.threads;
          slices = ss i;
          places = ps i;
          order = (shown m).order;
          running =
              m.running;
        })
        ∙ sym (ap (release_to (on_thread n) (shown m)) top)

    pub freed_exact : Choosable m 0 → Choosable freed 0
    freed_exact c = record { exact = stored_with m c.exact freed refl refl (live_is m c.exact); few = c.few }

    pub first_released : (a : Answered) → Settled (settle_if (overtakes (shown freed) (some q)) (before freed 0)) a
        → Settled (settle (releases n (shown m))) a
    unfolding releases
    first_released a s =
        let over : overtakes (shown freed) (some q) ≡ overtakes (shown m) (topmost_at (on_thread n) (shown m)) =
        over_same (shown freed) (shown m) q m.running r.slices refl ∙ ap (overtakes (shown m)) (sym top) in
        subst (λ (o : Outcome). Settled o a) (ap₂ (λ b u. settle_if b (record { state = u; links = 0 })) over shows) s
