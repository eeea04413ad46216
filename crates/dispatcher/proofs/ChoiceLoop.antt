-- The choice as a loop: what is left to choose from here is the whole choice.
use Prim.Native.Nat.{ℕ, suc, ◌+◌, ◌*◌, ◌-◌, ◌≤◌, ◌<◌}
use mathlib.Core.Path.{◌≡◌, refl, sym, ◌∙◌, ap, ap₂, subst}
use mathlib.Core.Logic.{⊎_elim}
use mathlib.Core.List.{List, [], ◌∷◌, map}
use mathlib.Core.Bool.{Bool, true, false, cond}
use mathlib.Core.Option.{none, some}
use native.Mathlib.Omega.{arith}
use lib.ListN.{length, get_or, set, take, length-map}
use lib.Seq.{map-set_same}
use types.Run.{OneOf}
use denote.Enum.Declared.{tag_of}
use Rattle.rules.specs.declared.Hold.{Hold}
use Rattle.rules.specs.declared.Thread.{Thread}
use Rattle.rules.specs.declared.Place.{Place}
use Rattle.rules.specs.declared.Place.TheVariants.{Queue}
use Rattle.rules.specs.declared.Chain.{Chain}
use Rattle.rules.specs.declared.Timeslice.{Timeslice}
use Rattle.rules.specs.declared.Running.{Running}
use Rattle.rules.specs.declared.Running.TheVariants.{Nothing, Runs}
use Rattle.rules.specs.State.{State, owner_at, hold_at, live_thread_count, with_places, with_running}
use Rattle.rules.specs.Walk.{walk, walk_from, no_links, chain_of, at_end, verdict, Verdict, runs, stalls}
use Rattle.rules.specs.Threads.{donate}
use Rattle.rules.specs.Release.{in_queue, behind, topmost_at, released_places, release}
use Rattle.rules.specs.Choice.{Outcome, park, retry, decide, look, choose_from, choose}
use Rattle.dispatcher.specs.declared.Machine.{Machine}
use Rattle.neighbours.specs.Sides.{Sides}
use Rattle.neighbours.specs.Reading.{turns_read}
use Rattle.tables.specs.Timeslices.{with_place, slice_of, place_of, free_timeslice}
use Rattle.dispatcher.specs.Shown.{sides_of, shown, stored}
use Rattle.std.specs.Prelude as std
use Rattle.std.specs.Prelude.{Some, None, Ok}
use Rattle.tables.specs.declared.ends.Verdict.{Verdict as Said}
use Rattle.tables.specs.declared.ends.Verdict.TheVariants.{Runs as RunsNow, Retries, Waits, Stalls}
use Rattle.tables.specs.Sets.{set_of, sought_of}
use Rattle.timeslices.specs.Releasing.{places_after, Replaced}
use Rattle.tables.specs.Turning.{entries_of}
use Rattle.timeslices.specs.Codes.{code_of, top_of, highest, parked_code, Recoded, Coded}
use Rattle.tables.specs.Verdicts.{verdict_of}
use Rattle.dispatcher.specs.Promise.{answered}
use Rattle.dispatcher.specs.Choosing.{aside_of, freed_by, Choosable, before, Chosen}
use Rattle.tables.specs.contracts.ends.Verdict.{the_type}
use Rattle.tables.proofs.Lookups.{map-set, owns}
use Rattle.tables.proofs.Walks.{walks}
use Rattle.rules.proofs.Bounds.{live_most}
use Rattle.rules.proofs.Links.Chains.{walk_links}
use Rattle.timeslices.proofs.ReleaseLoop.{release_is}
use Rattle.timeslices.proofs.Searches.{top_is}
use Rattle.timeslices.proofs.Recodings.{Freed, park_coded}
use Rattle.rules.proofs.Tables.Writes.{donate_relabels}
use Rattle.dispatcher.proofs.Stored.{live_is, turns_fit, turns_many, stored_with, topmost_fits}

-- what a look finds: the topmost timeslice in Queue, its chain and what its end says
pub record Look (s : State) (t : ℕ) (c : Chain) (v : Verdict) : Type 0 where
  pub top : topmost_at in_queue s ≡ some t
  pub chain : c ≡ chain_of s.threads s.slices t
  pub says : v ≡ verdict s.threads c

pub looked : (s : State) (f : std.Option ℕ) (t owner : ℕ) (c : Chain) (h : Hold) (v : Said)
    → sought_of f ≡ topmost_at in_queue s → f ≡ Some t
    → owner ≡ owner_at s.slices t → c ≡ walk s.threads owner → h ≡ hold_at s.threads c.end
    → verdict_of v ≡ cond c.looped stalls (at_end h c.links) → Look s t c (verdict_of v)
looked s f t owner c h v e at owns walks hold judged =
    record {
      top = sym e ∙ ap sought_of at;
      chain = walks ∙ ap (walk s.threads) owns;
      says = judged ∙ ap (λ (g : Hold). cond c.looped stalls (at_end g c.links)) hold;
    }

-- one look, by what it finds
module _ (n links : ℕ) (s : State) where
  pub looks_empty : topmost_at in_queue s ≡ none → record { state = with_running Nothing s; links = links } ≡ choose_from (suc n)
      (record { state = s; links = links })
  unfolding choose_from
  looks_empty e = sym (ap (look (λ u. choose_from n u) links s) e)

  pub looks_at : (t : ℕ) (c : Chain) (v : Verdict) → Look s t c v
      → decide (λ u. choose_from n u) links s t c v ≡ choose_from (suc n) (record { state = s; links = links })
  unfolding choose_from
  looks_at t c v l =
      ap (decide (λ u. choose_from n u) links s t c) l.says
      ∙ ap (λ (d : Chain). decide (λ u. choose_from n u) links s t d (verdict s.threads d)) l.chain
      ∙ sym (ap (look (λ u. choose_from n u) links s) l.top)

-- the state that a machine shows, with the turn order laid out so
abbrev pub state_of : Machine → ℕ → List ℕ → State
state_of m live order =
    record {
      threads = m.threads;
      slices = map slice_of m.timeslices;
      places = map place_of m.timeslices;
      order = take live order;
      running = m.running;
    }

-- timeslices at other places are as many
pub as_many : (ts us : List Timeslice) (ps : List Place) → Replaced ts ps us → length us ≡ length ts
as_many ts us ps r = sym (length-map us slice_of) ∙ ap length r.slices ∙ length-map ts slice_of

-- a machine with other tables
abbrev pub tables_to : List Thread → List Timeslice → Machine → Machine
tables_to ths ts m =
    record {
      threads = ths;
      timeslices = ts;
      before = m.before;
      after = m.after;
      live_threads = m.live_threads;
      live_timeslices = m.live_timeslices;
      running = m.running;
    }

-- and with another running thread
abbrev pub runs_to : Running → Machine → Machine
runs_to r m =
    record {
      threads = m.threads;
      timeslices = m.timeslices;
      before = m.before;
      after = m.after;
      live_threads = m.live_threads;
      live_timeslices = m.live_timeslices;
      running = r;
    }

-- the timeslices at other places show the state with those places
replaced_shown : (m : Machine) (live : ℕ) (order : List ℕ) (ps : List Place) (ts : List Timeslice) → Replaced m.timeslices ps ts
    → state_of (tables_to m.threads ts m) live order ≡ with_places ps (state_of m live order)
replaced_shown m live order ps ts r =
    let slices = r.slices in
    let places = r.places in
    λ i. record { threads = m.threads; slices = slices i; places = places i; order = take live order; running = m.running }

-- the machine with timeslice t at a place, before the followers of t are released
pub record Aside (m : Machine) (live : ℕ) (order : List ℕ) (t : ℕ) (p : Place) (n : Machine) (codes heights : List ℕ) : Type 0 where
  pub others : n ≡ tables_to m.threads n.timeslices m
  pub placed : Replaced m.timeslices (set (map place_of m.timeslices) t p) n.timeslices
  pub coded : Coded n.timeslices order live codes heights

module _ (m : Machine) (live : ℕ) (order codes heights : List ℕ) (r : Coded m.timeslices order live codes heights)
    (full : length m.timeslices ≡ 128) (k t : ℕ) (e : k ≡ t) (p : Place) (n : Machine) (after : List ℕ) where
  pub put_aside : k < 128 → n ≡ tables_to m.threads (set m.timeslices k (with_place p (get_or m.timeslices k free_timeslice))) m
      → (c : ℕ) → c ≡ code_of p → (parked : List ℕ) → after ≡ parked → Recoded (parked_code t c) order live codes parked
      → Aside m live order t p n after heights
  put_aside inside is c coded parked kept ch =
      let y = with_place p (get_or m.timeslices k free_timeslice) in
      rw (is, kept)
      (record {
        others = refl;
        placed =
            record {
              slices = map-set_same slice_of m.timeslices k y free_timeslice refl;
              places = map-set place_of m.timeslices k y ∙ ap (λ (j : ℕ). set (map place_of m.timeslices) j p) e;
            };
        coded = park_coded m.timeslices order live codes parked heights k t c p full r e inside coded ch;
      })

-- a timeslice that waits or whose chain is a loop is put aside
aside_next : (go : Outcome → Outcome) (links : ℕ) (s : State) (t : ℕ) (c : Chain) (v : Said) → OneOf (2 ∷ 3 ∷ []) (tag_of the_type v)
    → decide go links s t c (verdict_of v) ≡ go (record { state = park t (aside_of v c.end) s; links = links + c.links })
aside_next go links s t c RunsNow h = absurd (⊎_elim (λ e. omega arith) (λ e. omega arith) h)
aside_next go links s t c Retries h = absurd (⊎_elim (λ e. omega arith) (λ e. omega arith) h)
aside_next go links s t c Waits h = refl
aside_next go links s t c Stalls h = refl

-- and its followers are released
followers : (v : Said) (t end : ℕ) → OneOf (2 ∷ 3 ∷ []) (tag_of the_type v) → set_of (freed_by v t end) ≡ behind t
followers RunsNow t end h = refl
followers Retries t end h = absurd (⊎_elim (λ e. omega arith) (λ e. omega arith) h)
followers Waits t end h = refl
followers Stalls t end h = refl

-- no release takes what is in Queue
pub none_queued : (v : Said) (t end : ℕ) → set_of (freed_by v t end) Queue ≡ false
none_queued RunsNow t end = refl
none_queued Retries t end = refl
none_queued Waits t end = refl
none_queued Stalls t end = refl

-- the machine before the release that ends a look: the retry is made, or the timeslice is put aside
pub record Unreleased (m : Machine) (live : ℕ) (order : List ℕ) (t : ℕ) (c : Chain) (v : Said) (n : Machine) (codes heights : List ℕ) : Type
    0 where
  pub others : n ≡ tables_to n.threads n.timeslices m
  pub lives : live_thread_count n.threads ≡ live_thread_count m.threads
  pub size : length n.threads ≡ length m.threads
  pub many : length n.timeslices ≡ length m.timeslices
  pub coded : Coded n.timeslices order live codes heights
  pub next : (go : Outcome → Outcome) (links : ℕ) → decide go links (state_of m live order) t c (verdict_of v)
      ≡ go (record { state = release (set_of (freed_by v t c.end)) (state_of n live order); links = links + c.links })

module _ (m : Machine) (live : ℕ) (order codes heights : List ℕ) (r : Coded m.timeslices order live codes heights) (t : ℕ) (c : Chain)
    (v : Said) (n : Machine) (after : List ℕ) where
  pub unreleased_retry : v ≡ Retries → (ths : List Thread) → ths ≡ donate c.helper c.end m.threads
      → n ≡ tables_to ths m.timeslices m
      → after ≡ codes → Unreleased m live order t c v n after heights
  unfolding retry
  unreleased_retry told ths e is kept =
      rw (told, is, kept, e)
      (record {
        others = refl;
        lives = (donate_relabels m.threads c.helper c.end).count;
        size = (donate_relabels m.threads c.helper c.end).size;
        many = refl;
        coded = r;
        next = λ go links. refl;
      })

  pub unreleased_aside : OneOf (2 ∷ 3 ∷ []) (tag_of the_type v) → (p : Place) → p ≡ aside_of v c.end
      → Aside m live order t p n after heights
      → Unreleased m live order t c v n after heights
  unfolding park
  unreleased_aside which p is a =
      let s = state_of m live order in
      let shows : state_of n live order ≡ with_places (set s.places t (aside_of v c.end)) s =
      ap (λ (o : Machine). state_of o live order) a.others
      ∙ replaced_shown m live order (set s.places t p) n.timeslices a.placed
      ∙ ap (λ (q : Place). with_places (set s.places t q) s) is in
      let threads : n.threads ≡ m.threads = ap (λ (o : Machine). o.threads) a.others in
      record {
        others = a.others ∙ ap (λ (l : List Thread). tables_to l n.timeslices m) (sym threads);
        lives = ap live_thread_count threads;
        size = ap length threads;
        many = as_many m.timeslices n.timeslices _ a.placed;
        coded = a.coded;
        next = λ go links.
            aside_next go links s t c v which
            ∙ ap (λ (u : State). go (record { state = u; links = links + c.links }))
            (sym (ap₂ release (followers v t c.end which) shows));
      }

-- the loop, with so many looks left
pub record Choosing (first : Machine) (start live : ℕ) (order : List ℕ) (m : Machine) (links looks : ℕ) (codes heights : List ℕ) :
    Type 0 where
  pub exact : stored m ≡ true
  pub turns : take live order ≡ turns_read m.after live
  pub turned : m.live_timeslices ≡ live
  pub fits : live ≤ 128
  pub entries : length order ≡ 128
  pub threads : length m.threads ≡ 128
  pub timeslices : length m.timeslices ≡ 128
  pub coded : Coded m.timeslices order live codes heights
  pub few : links + 128 * looks ≤ 16768
  pub rest : choose_from looks (record { state = state_of m live order; links = links }) ≡ choose (before first start)

pub begin : (m : Machine) (links looks : ℕ) (codes heights : List ℕ) → Choosable m links → length m.threads ≡ 128
    → length m.timeslices ≡ 128 → looks ≡ m.live_timeslices + 2
    → (order : List ℕ) → length order ≡ 128 → take m.live_timeslices order ≡ (shown m).order
    → Coded m.timeslices order m.live_timeslices codes heights
    → Choosing m links m.live_timeslices order m links looks codes heights
unfolding choose
begin m links looks codes heights c ths ts e order full laid r =
    let fits = turns_fit m c.exact in
    let two : looks ≡ suc (suc (length (shown m).order)) = omega (arith, turns_many m c.exact) in
    record {
      exact = c.exact;
      turns = laid;
      turned = refl;
      fits = fits;
      entries = full;
      threads = ths;
      timeslices = ts;
      coded = r;
      few = omega (arith, c.few);
      rest = rw laid (ap (λ (k : ℕ). choose_from k (before m links)) two);
    }

module _ (first : Machine) (start live : ℕ) (order : List ℕ) (m : Machine) (links looks : ℕ) (codes heights : List ℕ)
    (w : Choosing first start live order m links looks codes heights) where
  -- the timeslice of the highest height in Queue, whose code is 0
  pub tops_queue : (f : std.Option ℕ) → sought_of f ≡ top_of order (highest 0 codes heights 0 (entries_of live))
      → sought_of f ≡ topmost_at in_queue (state_of m live order)
  tops_queue f e = e ∙ top_is m.timeslices order live codes heights w.entries w.coded Queue

  -- the topmost one is in the table
  pub looks_within : (f : std.Option ℕ) (t : ℕ) → sought_of f ≡ top_of order (highest 0 codes heights 0 (entries_of live)) → f ≡ Some t
      → t < 128
  looks_within f t e at =
      topmost_fits m w.exact in_queue t (rw (w.turned, ← w.turns) (sym (tops_queue f e) ∙ ap sought_of at))

  -- the look at the topmost one: the walk from its owner, and what the chain's end says
  pub looks_up : (f : std.Option ℕ) (k t : ℕ) (c : Chain) (h : Hold) (v : Said)
      → sought_of f ≡ top_of order (highest 0 codes heights 0 (entries_of live)) → f ≡ Some t → k ≡ t
      → c ≡ walk_from m.live_threads m.threads (get_or m.timeslices k free_timeslice).owner no_links → h ≡ hold_at m.threads c.end
      → verdict_of v ≡ cond c.looped stalls (at_end h c.links) → Look (state_of m live order) t c (verdict_of v)
  looks_up f k t c h v e at is walked held judged =
      let owner = (get_or m.timeslices k free_timeslice).owner in
      looked (state_of m live order) f t owner c h v (tops_queue f e) at (owns m.timeslices k t owner is refl)
      (walks m.threads m.live_threads owner c (live_is m w.exact) walked) held judged

  shows : (r : Running)
      → shown (runs_to r m) ≡ with_running r (state_of m live order)
  shows r = rw (w.turned, w.turns) refl

  running_exact : (r : Running)
      → stored (runs_to r m) ≡ true
  running_exact r = stored_with m w.exact _ refl refl (live_is m w.exact)

  -- the choice ends with this running thread, or with none
  pub ends : (r : Running) (k : ℕ) → record { state = with_running r (state_of m live order); links = k } ≡ choose_from looks
      (record { state = state_of m live order; links = links })
      → Chosen first start (answered (runs_to r m) (Ok k))
  ends r k e =
      let o : record { state = with_running r (state_of m live order); links = k } ≡ choose (before first start) = e ∙ w.rest in
      record {
        refusal = refl;
        links = ap (λ (u : Outcome). u.links) o;
        state = shows r ∙ ap (λ (u : Outcome). u.state) o;
        exact = running_exact r;
      }

  -- no look is left
  pub out : looks ≤ 0 → Chosen first start (answered m (Ok links))
  unfolding choose_from
  out spent =
      let z : looks ≡ 0 = omega arith in
      ends m.running links (rw z refl)

  -- the next look, from a machine with the same turn order and live threads
  pub again : (left : ℕ) → looks ≡ suc left → (n : Machine) (after : List ℕ) (k t : ℕ) (c : Chain) (v : Verdict) (s : State)
      → sides_of n ≡ sides_of m → n.live_timeslices ≡ m.live_timeslices → n.live_threads ≡ m.live_threads
      → live_thread_count n.threads ≡ live_thread_count m.threads → length n.threads ≡ length m.threads → length n.timeslices ≡ length
      m.timeslices
      → Coded n.timeslices order live after heights → k ≡ links + c.links → Look (state_of m live order) t c v → state_of n
      live order ≡ s
      → decide (λ u. choose_from left u) links (state_of m live order) t c v ≡ choose_from left
      (record { state = s; links = links + c.links })
      → Choosing first start live order n k left after heights
  again left one n after k t c v s o tn ln lv lths lts r e l shows' step =
      let most : c.links ≤ live_thread_count m.threads = rw l.chain (walk_links m.threads (owner_at (map slice_of m.timeslices) t)) in
      let rest' : choose_from (suc left) (record { state = state_of m live order; links = links }) ≡ choose (before first start) =
      rw one at w.rest in
      record {
        exact = stored_with m w.exact n o tn (ln ∙ live_is m w.exact ∙ sym lv);
        turns = w.turns ∙ ap (λ (s : Sides). turns_read s.after live) (sym o);
        turned = tn ∙ w.turned;
        fits = w.fits;
        entries = w.entries;
        threads = lths ∙ w.threads;
        timeslices = lts ∙ w.timeslices;
        coded = r;
        few = omega (arith, one, w.few, live_most m.threads, w.threads);
        rest = rw (e, shows') (sym step ∙ looks_at left links (state_of m live order) t c v l ∙ rest');
      }

  -- the look's timeslice runs
  pub runs_at : (t k : ℕ) (c : Chain) → 0 < looks → k ≡ links + c.links → Look (state_of m live order) t c runs
      → Chosen first start (answered (runs_to (Runs c.end t c.count) m) (Ok k))
  runs_at t k c left e l =
      let one : looks ≡ suc (looks - 1) = omega arith in
      ends (Runs c.end t c.count) k (rw (e, one) (looks_at (looks - 1) links (state_of m live order) t c runs l))

  -- Queue is empty
  pub runs_none : (f : std.Option ℕ) → 0 < looks → sought_of f ≡ topmost_at in_queue (state_of m live order) → f ≡ None
      → Chosen first start (answered (runs_to Nothing m) (Ok links))
  runs_none f left e is =
      let one : looks ≡ suc (looks - 1) = omega arith in
      ends Nothing links (rw one (looks_empty (looks - 1) links (state_of m live order) (sym e ∙ ap sought_of is)))

  -- what is released along the neighbours is released in the turn order that was laid out: they have not changed
  pub as_laid : (t : ℕ) (c : Chain) (v : Said) (n : Machine) (coded : List ℕ) → Unreleased m live order t c v n coded heights
      → (at : Place → Bool) (q : ℕ) (us : List Timeslice)
      → Replaced n.timeslices (released_places at q (turns_read n.after live) (map place_of n.timeslices)) us
      → Replaced n.timeslices (released_places at q (take live order) (map place_of n.timeslices)) us
  as_laid t c v n coded u at q us r =
      let same : turns_read n.after live ≡ take live order =
      ap (λ (o : Machine). turns_read o.after live) u.others ∙ sym w.turns in
      subst (λ (l : List ℕ). Replaced n.timeslices (released_places at q l (map place_of n.timeslices)) us) same r

  -- it does not run yet: a set is released, and the choice goes on
  pub goes_on : (left : ℕ) → looks ≡ suc left → (t k : ℕ) (c : Chain) (v : Said) (n : Machine) (coded after : List ℕ) (us : List Timeslice)
      → k ≡ links + c.links
      → Look (state_of m live order) t c (verdict_of v) → Unreleased m live order t c v n coded heights
      → Freed (freed_by v t c.end) n.timeslices order live us after heights
      → Choosing first start live order (tables_to n.threads us n) k left after heights
  goes_on left one t k c v n coded after us e l u f =
      let at = set_of (freed_by v t c.end) in
      let s = state_of n live order in
      let shows : state_of (tables_to n.threads us n) live order ≡ release at s =
      replaced_shown n live order (places_after at s.slices s.order s.places) us f.replaced ∙ sym (release_is at s) in
      again left one (tables_to n.threads us n) after k t c (verdict_of v) (release at s)
      (ap sides_of u.others) (ap (λ (o : Machine). o.live_timeslices) u.others)
      (ap (λ (o : Machine). o.live_threads) u.others)
      u.lives u.size (as_many n.timeslices us _ f.replaced ∙ u.many) f.coded e l shows
      (u.next (λ o. choose_from left o) links)
