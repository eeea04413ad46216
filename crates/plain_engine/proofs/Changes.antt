-- An accepted event's changes, kind by kind: what the engine stores shows what `update` says, with what runs left as it was.
use Prim.Native.Nat.{ℕ, suc, ◌+◌, ◌-◌, ◌≤◌, ◌<◌}
use native.Mathlib.Omega.{arith}
use native.Mathlib.Numerals.{add-one}
use mathlib.Core.Path.{◌≡◌, sym, ap, ◌∙◌}
use mathlib.Core.List.{List, [], ◌∷◌, ◌++◌}
use mathlib.Core.Bool.{Bool, true, false, cond, not, ◌||◌}
use mathlib.Core.Option.{Option, some}
use lib.ListN.{length, set, take}
use lib.Seq.{take-suc-set, take-take, take-append_seam}
use lib.Dec.{ltb, eqb}
use borrow.Author.Tests.{eqb-false, ltb-false, eq-eqb, ne_eqb, not-false}
use Rattle.rules.specs.declared.Thread.{Thread}
use Rattle.rules.specs.declared.Slice.{Slice}
use Rattle.rules.specs.declared.Running.{Running}
use Rattle.rules.specs.declared.Running.TheVariants.{Runs}
use Rattle.rules.specs.declared.Event.TheVariants.{Give, Charge, Refill, Remove, Rank}
use Rattle.rules.specs.Tests.{member}
use Rattle.rules.specs.State.{Plain, free_slice, left_at, slice_at, nothing_runs, current_timeslice}
use Rattle.rules.specs.Threads.{removed}
use Rattle.rules.specs.Timeslices.{own_of, with_left, set_left, given, last, without, to_back, charged, refilled, struck}
use Rattle.rules.specs.Timeslices.{with_priority, ranked}
use Rattle.rules.specs.Refusals.{above_limit, ◌gives◌else◌}
use Rattle.rules.specs.Plain.{plain_threads, plain_timeslices, plain_running}
use Rattle.rules.specs.Plain.{plain_charge, plain_strike, update}
use Rattle.rules.proofs.Basics.Views.{Two, yes_true, no_false, two, or_false_left, or_false_both}
use Rattle.rules.proofs.Basics.Accepting.{passes}
use Rattle.rules.proofs.Bounds.{turns_room}
use Rattle.rules.proofs.Order.Orders.{length_without}
use Rattle.rules.proofs.Order.Owners.{own_listed}
use Rattle.rules.proofs.Soundness.Shapes.{shape_of}
use Rattle.tables.specs.Turning.{entries_of, Turned, StruckOut}
use Rattle.tables.proofs.Lookups.{entries_are}
use Rattle.plain_engine.specs.declared.PlainMachine.{PlainMachine}
use Rattle.plain_engine.specs.Shown.{plain_shown}
use Rattle.plain_engine.specs.Changed.{Takes, Changed}

-- the machine with other threads, with other timeslices and turn order
abbrev pub threads_to : List Thread → PlainMachine → PlainMachine
threads_to ths m = record { threads = ths; slices = m.slices; order = m.order; live = m.live; running = m.running }

abbrev pub turns_to : List Slice → List ℕ → ℕ → PlainMachine → PlainMachine
turns_to ss order live m = record { threads = m.threads; slices = ss; order = order; live = live; running = m.running }

module _ (m : PlainMachine) where
  abbrev p : Plain
  p = plain_shown m

  -- Give: the turn order has room
  pub give_room : (t n priority quantum : ℕ) → length m.order ≡ 128 → Takes (Give t n priority quantum) m → m.live < 128
  give_room t n priority quantum full k =
      let numbers = passes (above_limit t || above_limit n) 1 _ k.accepted in
      let unlisted = (passes (member t p.order) 2 _ numbers.1).0 in
      let small = ltb-false 127 t (or_false_left (above_limit t) (above_limit n) numbers.0) in
      let few = turns_room p (shape_of p k.shape) t (omega arith) unlisted in
      omega (arith, few, entries_are m.order m.live full)

  pub give_changes : (t n priority quantum i : ℕ) (ss : List Slice) → length m.order ≡ 128 → Takes (Give t n priority quantum) m
      → i ≡ m.live
      → ss ≡ set m.slices t (record { owner = n; priority = priority; quantum = quantum; left = quantum })
      → Changed (Give t n priority quantum) m (turns_to ss (set m.order i t) (m.live + 1) m)
  unfolding given last
  give_changes t n priority quantum i ss full k at new =
      let short = give_room t n priority quantum full k in
      let order : take (m.live + 1) (set m.order i t) ≡ take m.live m.order ++ (t ∷ []) =
      rw (at, add-one m.live) (take-suc-set m.order m.live t (omega arith)) in
      λ j. record { threads = m.threads; slices = new j; order = order j; running = m.running }

  module _ (n t count : ℕ) (run : m.running ≡ Runs n t count) where
    -- Charge: it is accepted, so the current timeslice has time left, and is listed
    pub charge_fits : (units : ℕ) → Takes (Charge units) m → (1 ≤ units) × (units ≤ left_at m.slices t)
    charge_fits units k =
        let number = ap (λ (r : Running). nothing_runs r gives 5 else
        eqb units 0 || ltb (left_at m.slices (current_timeslice r)) units gives 11 else 0) run in
        let tests = or_false_both (eqb units 0) (ltb (left_at m.slices t) units) (passes _ 10 0 (sym number ∙ k.accepted)).0 in
        let some-units = eqb-false units 0 tests.0 in
        (omega (arith, some-units), ltb-false _ _ tests.1)

    pub charge_listed : (units : ℕ) → Takes (Charge units) m → member t (take m.live m.order) ≡ true
    charge_listed units k = by (two (member t (take m.live m.order)))
      where
        by : Two (member t (take m.live m.order)) → member t (take m.live m.order) ≡ true
        by (yes_true e) = e
        by (no_false e) =
            let nothing_left : left_at m.slices t ≡ 0 = ap (λ (x : Slice). x.left) ((shape_of p k.shape).turns.free t e) in
            absurd (omega (arith, charge_fits units k, nothing_left))

    -- at 0 to the back
    module _ (units : ℕ) (k : Takes (Charge units) m) (x : Slice) (read : x ≡ slice_at m.slices t) (ss : List Slice)
        (new : ss ≡ set m.slices t (record { owner = x.owner; priority = x.priority; quantum = x.quantum; left = x.left - units }))
      where
        charges : ss ≡ charged t units m.slices
        unfolding charged set_left
        charges = new ∙ ap (λ (y : Slice). set m.slices t (with_left (y.left - units) y)) read

        abbrev charged_to : Bool → Plain
        charged_to b =
            cond b (plain_timeslices (charged t units m.slices) (to_back t p.order) p)
            (plain_timeslices (charged t units m.slices) p.order p)

        said : (b : Bool) → b ≡ eqb x.left units
            → plain_running m.running (charged_to b) ≡ plain_running m.running (update (Charge units) p)
        said b e =
            ap (λ (c : Bool). plain_running m.running (charged_to c)) (e ∙ ap (λ (y : Slice). eqb y.left units) read)
            ∙ ap (λ (r : Running). plain_running m.running (plain_charge units p r)) (sym run)

        pub charge_spends : (x.left - units ≡ 0 → ⊥) → Changed (Charge units) m (turns_to ss m.order m.live m)
        charge_spends more =
            let other = ne_eqb x.left units (λ e. more (omega (arith, e))) in
            ap (λ (l : List Slice). plain_timeslices l p.order p) charges ∙ said false (sym other)

        pub charge_depletes : (back : List ℕ) → x.left - units ≡ 0 → Turned t m.live m.order back
            → Changed (Charge units) m (turns_to ss back m.live m)
        unfolding to_back
        charge_depletes back none_left d =
            let fits = charge_fits units k in
            let all : x.left ≡ units = omega (arith, none_left, fits.1, ap (λ (y : Slice). y.left) read) in
            let order : take m.live back ≡ last t (without t p.order) = rw (charge_listed units k) at d.turns in
            (λ i. record { threads = m.threads; slices = charges i; order = order i; running = m.running })
            ∙ said true (sym (eq-eqb x.left units all))

  -- Refill
  pub refill_changes : (t : ℕ) (x : Slice) (ss : List Slice) → x ≡ slice_at m.slices t
      → ss ≡ set m.slices t (record { owner = x.owner; priority = x.priority; quantum = x.quantum; left = x.quantum })
      → Changed (Refill t) m (turns_to ss m.order m.live m)
  unfolding refilled set_left
  refill_changes t x ss read new =
      ap (λ (l : List Slice). plain_timeslices l p.order p)
      (new ∙ ap (λ (y : Slice). set m.slices t (with_left y.quantum y)) read)

  -- Rank
  pub rank_listed : (t priority : ℕ) → Takes (Rank t priority) m → member t p.order ≡ true
  rank_listed t priority k =
      let above = passes (above_limit t) 1 _ k.accepted in
      not-false _ (passes (not (member t p.order)) 3 0 above.1).0

  pub rank_changes : (t priority : ℕ) (x : Slice) (ss : List Slice) (back : List ℕ) → x ≡ slice_at m.slices t
      → ss ≡ set m.slices t (record { owner = x.owner; priority = priority; quantum = x.quantum; left = x.left })
      → Takes (Rank t priority) m → Turned t m.live m.order back
      → Changed (Rank t priority) m (turns_to ss back m.live m)
  unfolding ranked to_back
  rank_changes t priority x ss back read new k d =
      let slices = new ∙ ap (λ (y : Slice). set m.slices t (with_priority priority y)) read in
      let order : take m.live back ≡ last t (without t p.order) = rw (rank_listed t priority k) at d.turns in
      λ i. record { threads = m.threads; slices = slices i; order = order i; running = m.running }

  -- Remove, by whether the thread owns a timeslice
  abbrev removal : ℕ → Option ℕ → Plain
  removal n o = plain_running m.running (plain_threads (removed n m.threads) (plain_strike o p))

  -- it is listed, so one entry of the turn order less is live
  module _ (n t : ℕ) (full : length m.order ≡ 128) (own : own_of m.slices n p.order ≡ some t) where
    listed : member t p.order ≡ true
    listed = own_listed m.slices n p.order t own

    one_less : suc (length (without t p.order)) ≡ entries_of m.live
    one_less = length_without t p.order listed ∙ entries_are m.order m.live full

    pub some_live : 1 ≤ m.live
    some_live = omega (arith, one_less)

    pub remove_changes : (ths : List Thread) (ss : List Slice) (rest : List ℕ) (k : ℕ) → ths ≡ removed n m.threads
        → ss ≡ set m.slices t free_slice → StruckOut t m.live m.order rest → k ≡ entries_of m.live - 1
        → Changed (Remove n) m (threads_to ths (turns_to ss rest k m))
    unfolding struck last
    remove_changes ths ss rest k new slot d less =
        let turns = without t p.order in
        let few : k ≡ length turns = omega (arith, one_less) in
        let entries : take m.live rest ≡ turns ++ (0 ∷ []) = rw listed at d.turns in
        let order : take k rest ≡ turns =
        sym (take-take k m.live rest (omega arith)) ∙ ap (take k) entries ∙ ap (λ (j : ℕ). take j (turns ++ (0 ∷ []))) few
        ∙ take-append_seam turns (0 ∷ []) in
        (λ i. record { threads = new i; slices = slot i; order = order i; running = m.running }) ∙ ap (removal n) (sym own)
