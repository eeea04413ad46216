-- The choice: from every machine midway it ends in a sound machine, which without its places is what the plain machine judges,
-- and it follows at most L links for each timeslice that is not put aside, and L more.
use Prim.Native.Nat.{ℕ, zero, suc, ◌<◌, ◌≤◌, ◌+◌, ◌*◌}
use mathlib.Core.Path.{◌≡◌, refl, sym, ap, ◌∙◌, subst}
use mathlib.Core.List.{List}
use mathlib.Core.Bool.{false}
use mathlib.Core.Option.{Option, none, some}
use native.Mathlib.Omega.{arith}
use native.Mathlib.Nat.{mul-le-mul_left}
use lib.ListN.{length}
use Rattle.rules.specs.declared.Place.{Place}
use Rattle.rules.specs.declared.Place.TheVariants.{On, Stalled}
use Rattle.rules.specs.declared.Running.{Running}
use Rattle.rules.specs.declared.Running.TheVariants.{Nothing, Runs}
use Rattle.rules.specs.declared.Thread.{Thread}
use Rattle.rules.specs.declared.Chain.{Chain}
use Rattle.rules.specs.State.{State, Plain, forget, live_thread_count, place_at, with_running}
use Rattle.rules.specs.Walk.{ended, walk, chain_of, verdict, lets, runs, retries}
use Rattle.rules.specs.Threads.{donate}
use Rattle.rules.specs.Release.{in_queue, topmost_at}
use Rattle.rules.specs.Choice.{Outcome, park, retry, walked, look, choose_from, choose}
use Rattle.rules.specs.Plain.{plain_running, plain_threads, topmost_runnable, judge_from, judge}
use Rattle.rules.proofs.Basics.Views.{clash}
use Rattle.rules.proofs.Links.Chains.{walk_links}
use Rattle.rules.proofs.Soundness.Standings.{Waits, RunsAt, RetriesAt, Standing, running, retrying, waiting, stalling, runs_walk}
use Rattle.rules.proofs.Soundness.Places.{owner, owner_live, stands, Good, Mid, Settled, nothing, runs_on, Sound}
use Rattle.rules.proofs.Choosing.Tops.{queue_top, top_queued, top_runs, none_runs}
use Rattle.rules.proofs.Choosing.Parking.{unparked, unparked_in, unparked_most, how_many_fewer, park_mid, park_forget, park_fewer}
use Rattle.rules.proofs.Choosing.Changes.{mid_running}
use Rattle.rules.proofs.Choosing.Retrying.{retry_mid, retry_forget, retry_live, Next, retry_next}

-- judging, with the number of retries made
pub data Judges : ℕ → Plain → Plain → Type 0 where
  finds_none : {p : Plain} → topmost_runnable p ≡ none → Judges 0 p (plain_running Nothing p)
  finds : {p : Plain} (t : ℕ) → topmost_runnable p ≡ some t → verdict p.threads (chain_of p.threads p.slices t) ≡ runs
      → Judges 0 p (plain_running (Runs (chain_of p.threads p.slices t).end t (chain_of p.threads p.slices t).count) p)
  tries : {k : ℕ} {p p' : Plain} (t : ℕ) → topmost_runnable p ≡ some t → verdict p.threads (chain_of p.threads p.slices t) ≡ retries
      → Judges k
      (plain_threads (donate (chain_of p.threads p.slices t).helper (chain_of p.threads p.slices t).end p.threads) p) p'
      → Judges (suc k) p p'

-- the plain machine finds what the relation says, with rounds enough
judges_from : {k : ℕ} {p p' : Plain} → Judges k p p' → (rounds : ℕ) → k ≤ rounds → judge_from (suc rounds) p ≡ p'
unfolding judge_from
judges_from (finds_none e) rounds h = rw e
judges_from (finds t e v) rounds h = rw (e, v)
judges_from (tries t e v j) zero h = absurd (omega arith)
judges_from (tries t e v j) (suc rounds) h = rw (e, v) (judges_from j rounds (omega arith))

pub judges_is : {k : ℕ} {p p' : Plain} → Judges k p p' → k ≤ live_thread_count p.threads → judge p ≡ p'
unfolding judge
judges_is {p = p} j h = judges_from j (live_thread_count p.threads) h

-- a sound machine is judged as it stands
chain_runs : {ts : List Thread} {x n count : ℕ} (r : RunsAt ts x n count) → walk ts x ≡ ended n r.chain
    → RunsAt ts x (walk ts x).end (walk ts x).count
chain_runs {ts} {x} r w =
    subst (λ (c : Chain). RunsAt ts x c.end c.count) (sym w)
    (record { chain = r.chain; ends = r.ends; ready = r.ready; counted = refl })

-- the outcome of a choice from a machine that shows p without its places, with u timeslices not put aside, after so many links
pub record Chosen (p : Plain) (u from : ℕ) (o : Outcome) : Type 0 where
  pub sound : Sound o.state
  pub retries : ℕ
  pub judged : Judges retries p (forget o.state)
  pub few : retries ≤ live_thread_count p.threads
  pub links : o.links ≤ from + live_thread_count p.threads * (u + 1)

-- a choice that ends at this look
record Done (p : Plain) (from : ℕ) (o : Outcome) : Type 0 where
  pub sound : Sound o.state
  pub judged : Judges 0 p (forget o.state)
  pub links : o.links ≤ from + live_thread_count p.threads

done : {p : Plain} {u from : ℕ} {o : Outcome} → Done p from o → Chosen p u from o
done {p} {u} d =
    let m : live_thread_count p.threads * 1 ≤ live_thread_count p.threads * (u + 1) = mul-le-mul_left (live_thread_count p.threads) (omega arith) in
    record { sound = d.sound; retries = 0; judged = d.judged; few = omega arith; links = omega (arith, m, d.links) }

-- Queue is empty: nothing runs
nothing_now : (s : State) → Mid s → (links : ℕ) → topmost_at in_queue s ≡ none
    → Done (forget s) links (record { state = with_running Nothing s; links = links })
nothing_now s x links e =
    record {
      sound = record { mid = mid_running Nothing x; settled = nothing refl e };
      judged = finds_none (none_runs s x e);
      links = omega arith;
    }

-- the topmost in Queue runs
runs_now : (s : State) → Mid s → (links t : ℕ) → topmost_at in_queue s ≡ some t → {n count : ℕ} (r : RunsAt s.threads (owner s t) n count)
    → walk s.threads (owner s t) ≡ ended n r.chain → verdict s.threads (chain_of s.threads s.slices t) ≡ runs
    → (again : Outcome → Outcome) → Done (forget s) links (walked again links s t (chain_of s.threads s.slices t))
runs_now s x links t e r w v again =
    rw v
    (record {
      sound = record { mid = mid_running _ x; settled = runs_on t _ _ refl e (chain_runs r w) };
      judged = finds t (top_runs s x t e (ap lets v)) v;
      links = let l = walk_links s.threads (owner s t) in omega (arith, l);
    })

-- the topmost in Queue is put aside: the choice goes on with one timeslice less
parks_now : (s : State) → Mid s → (links t : ℕ) → topmost_at in_queue s ≡ some t → (p : Place) → unparked p ≡ false → Good s t p
    → (o : Outcome)
    → Chosen (forget (park t p s)) (unparked_in (park t p s)) (links + (walk s.threads (owner s t)).links) o
    → Chosen (forget s) (unparked_in s) links o
parks_now s x links t e p aside good o c =
    let same = park_forget s x t e p aside good in
    let fewer = park_fewer s x t e p aside good in
    let lives : live_thread_count (park t p s).threads ≡ live_thread_count s.threads = ap (λ (q : Plain). live_thread_count q.threads) same in
    let l : (walk s.threads (owner s t)).links ≤ live_thread_count s.threads = walk_links s.threads (owner s t) in
    let m : live_thread_count s.threads * (unparked_in (park t p s) + 1) ≤ live_thread_count s.threads * unparked_in s =
    mul-le-mul_left (live_thread_count s.threads) (omega arith) in
    let b : o.links ≤ links + (walk s.threads (owner s t)).links + live_thread_count s.threads * (unparked_in (park t p s) + 1) =
    rw lives at c.links in
    record {
      sound = c.sound;
      retries = c.retries;
      judged = subst (λ (q : Plain). Judges c.retries q (forget o.state)) same c.judged;
      few = rw lives at c.few;
      links = omega (arith, l, m, b);
    }

-- a timeslice in Queue is not put aside
some_unparked : (s : State) (t : ℕ) → topmost_at in_queue s ≡ some t → 0 < unparked_in s
some_unparked s t e =
    let top = queue_top s t e in
    let none_pass = how_many_fewer (λ u. false) (λ u. unparked (place_at s.places u)) s.order (λ u h k. clash false k refl) t
    top.listed refl
    (ap unparked (top_queued s t e)) in
    omega (arith, none_pass)

-- the topmost in Queue retries: the next look ends the choice
retries_now : (s : State) → Mid s → (links t : ℕ) → topmost_at in_queue s ≡ some t → (n : ℕ) (r : RetriesAt s.threads (owner s t) n)
    → (c : Chain) → walk s.threads (owner s t) ≡ c → c ≡ ended n r.chain → verdict s.threads c ≡ retries
    → (k : ℕ) → Chosen (forget s) (unparked_in s) links (choose_from (suc k) (record { state = retry c s; links = links + c.links }))
unfolding choose_from
retries_now s x links t e n r c f w v k = by next_look
  where
    after : State
    after = retry c s

    mid : Mid (retry c s)
    mid = subst (λ (d : Chain). Mid (retry d s)) (sym w) (retry_mid s x t e n r)

    plain : forget (retry c s) ≡ plain_threads (donate c.helper c.end s.threads) (forget s)
    plain =
        subst (λ (d : Chain). forget (retry d s) ≡ plain_threads (donate d.helper d.end s.threads) (forget s)) (sym w)
        (retry_forget s x t e n r)

    lives : live_thread_count (retry c s).threads ≡ live_thread_count s.threads
    lives =
        ap (λ (p : Plain). live_thread_count p.threads) plain
        ∙ subst (λ (d : Chain). live_thread_count (donate d.helper d.end s.threads) ≡ live_thread_count s.threads) (sym w)
        (retry_live s x t e n r)

    next_look : Next s x t e n r (retry c s)
    next_look = subst (λ (d : Chain). Next s x t e n r (retry d s)) (sym w) (retry_next s x t e n r)

    some_link : 0 < c.links
    some_link = subst (λ (d : Chain). 0 < d.links) (sym w) r.links

    most : c.links ≤ live_thread_count s.threads
    most = subst (λ (d : Chain). d.links ≤ live_thread_count s.threads) f (walk_links s.threads (owner s t))

    again : Outcome → Outcome
    again u = choose_from k u

    from_next : (o : Outcome) → Done (forget (retry c s)) (links + c.links) o → Chosen (forget s) (unparked_in s) links o
    from_next o z =
        let b : o.links ≤ links + c.links + live_thread_count s.threads = rw lives at z.links in
        let m : live_thread_count s.threads * 2 ≤ live_thread_count s.threads * (unparked_in s + 1) =
        mul-le-mul_left (live_thread_count s.threads) (omega (arith, some_unparked s t e)) in
        let v' : verdict s.threads (chain_of s.threads s.slices t) ≡ retries = ap (verdict s.threads) f ∙ v in
        record {
          sound = z.sound;
          retries = 1;
          judged =
              tries t (top_runs s x t e (ap lets v')) v'
              (subst (λ (d : Chain). Judges 0 (plain_threads (donate d.helper d.end s.threads) (forget s)) (forget o.state))
              (sym f)
              (subst (λ (p : Plain). Judges 0 p (forget o.state)) plain z.judged));
          few = omega (arith, some_link, most);
          links = omega (arith, b, m, most);
        }

    by : Next s x t e n r (retry c s)
        → Chosen (forget s) (unparked_in s) links (look again (links + c.links) (retry c s) (topmost_at in_queue (retry c s)))
    by z =
        let live = owner_live (retry c s) mid.shape z.timeslice (queue_top (retry c s) z.timeslice z.topmost).listed in
        let ends = runs_walk mid.shape.sane live z.runs in
        rw z.topmost
        (from_next
        (walked again (links + c.links) (retry c s) z.timeslice (chain_of (retry c s).threads (retry c s).slices z.timeslice))
        (runs_now (retry c s) mid (links + c.links) z.timeslice z.topmost z.runs ends.0 ends.1 again))

-- the choice, by what the topmost in Queue says
choosing_by : (k : ℕ) (s : State) (links : ℕ) → Mid s → unparked_in s < suc k
    → ((o : Outcome) → Mid o.state → unparked_in o.state < k → Chosen (forget o.state) (unparked_in o.state) o.links
    (choose_from k o))
    → (t : ℕ) → topmost_at in_queue s ≡ some t → Standing s.threads (owner s t)
    → Chosen (forget s) (unparked_in s) links (walked (λ u. choose_from k u) links s t (chain_of s.threads s.slices t))
choosing_by k s links x h rest t e (running n count r w v) = done (runs_now s x links t e r w v (λ u. choose_from k u))
choosing_by zero s links x h rest t e (retrying n r w v) = absurd (omega (arith, some_unparked s t e))
choosing_by (suc k) s links x h rest t e (retrying n r w v) =
    rw v (retries_now s x links t e n r (walk s.threads (owner s t)) refl w v k)
choosing_by k s links x h rest t e (waiting n w q v) =
    let p = On (walk s.threads (owner s t)).end in
    let good : Good s t p = subst (λ (m : ℕ). Waits s.threads (owner s t) m) (sym q) w in
    let o : Outcome = record { state = park t p s; links = links + (walk s.threads (owner s t)).links } in
    rw v
    (parks_now s x links t e p refl good (choose_from k o)
    (rest o (park_mid s x t e p refl good) (omega (arith, park_fewer s x t e p refl good))))
choosing_by k s links x h rest t e (stalling _ never w v) =
    let o : Outcome = record { state = park t Stalled s; links = links + (walk s.threads (owner s t)).links } in
    rw v
    (parks_now s x links t e Stalled refl never (choose_from k o)
    (rest o (park_mid s x t e Stalled refl never) (omega (arith, park_fewer s x t e Stalled refl never))))

-- THE CHOICE
pub choosing : (k : ℕ) (o : Outcome) → Mid o.state → unparked_in o.state < k
    → Chosen (forget o.state) (unparked_in o.state) o.links (choose_from k o)
unfolding choose_from
choosing zero o x h = absurd (omega arith)
choosing (suc k) o x h = by (topmost_at in_queue o.state) refl (choosing k)
  where
    by : (q : Option ℕ) → topmost_at in_queue o.state ≡ q
        → ((u : Outcome) → Mid u.state → unparked_in u.state < k → Chosen (forget u.state) (unparked_in u.state) u.links
        (choose_from k u))
        → Chosen (forget o.state) (unparked_in o.state) o.links (look (λ u. choose_from k u) o.links o.state q)
    by none e rest = done (nothing_now o.state x o.links e)
    by (some t) e rest =
        choosing_by k o.state o.links x h rest t e (stands o.state x.shape t (queue_top o.state t e).listed)

pub chosen : (o : Outcome) → Mid o.state → Chosen (forget o.state) (unparked_in o.state) o.links (choose o)
unfolding choose
chosen o x = choosing (suc (suc (length o.state.order))) o x (omega (arith, unparked_most o.state))

-- a sound machine is judged as it stands
pub judged_sound : (s : State) → Sound s → judge (forget s) ≡ forget s
judged_sound s x = by x.settled
  where
    by : Settled s → judge (forget s) ≡ forget s
    by (nothing q e) =
        judges_is (finds_none (none_runs s x.mid e)) (omega arith) ∙ ap (λ (r : Running). plain_running r (forget s)) (sym q)
    by (runs_on t n count q e r) =
        let h = (queue_top s t e).listed in
        let w = runs_walk x.mid.shape.sane (owner_live s x.mid.shape t h) r in
        judges_is (finds t (top_runs s x.mid t e (ap lets w.1)) w.1) (omega arith)
        ∙ ap (λ (z : Running). plain_running z (forget s))
        (ap (λ (c : Chain). Runs c.end t c.count) w.0 ∙ ap (λ (k : ℕ). Runs n t k) r.counted ∙ sym q)
