-- How large the numbers of an answer can be: a refusal's is one of document 01's, and on a sound machine the links are bounded by L and T,
-- and these by the number of slots.
use Prim.Native.Nat.{ℕ, zero, suc, ◌+◌, ◌*◌, ◌≤◌, ◌<◌}
use native.Mathlib.Nat.{mul-le-mul}
use native.Mathlib.Omega.{arith}
use mathlib.Core.Path.{◌≡◌, refl, ap}
use mathlib.Core.List.{List, [], ◌∷◌, map}
use mathlib.Core.Bool.{Bool, true, false}
use lib.ListN.{length, replicate, length-map, length-replicate, get_or-replicate}
use lib.Dec.{T, leb, leb→le, lit≤}
use Rattle.rules.specs.declared.Role.TheVariants.{Client}
use Rattle.rules.specs.declared.Thread.{Thread}
use Rattle.rules.specs.declared.Chain.{Chain}
use Rattle.rules.specs.declared.Running.{Running}
use Rattle.rules.specs.declared.Running.TheVariants.{Nothing, Runs}
use Rattle.rules.specs.declared.Event.{Event}
use Rattle.rules.specs.Tests.{member, distinct}
use Rattle.rules.specs.State.{State, Plain, forget, limit, free_thread, owner_at, live_at, one_more_if, live_thread_count}
use Rattle.rules.specs.Walk.{Link, no_links}
use Rattle.rules.specs.Refusals.{◌gives◌else◌, refusal}
use Rattle.rules.specs.Events.{Answered, dispatch_after, dispatch, offer_if, offer}
use Rattle.rules.specs.Sound.{sound}
use Rattle.rules.specs.Lists.{AllRanged, run}
use Rattle.rules.specs.EventFile.{head_refusal, file_refusal_after, file_refusal}
use Rattle.rules.proofs.Basics.Members.{member_here, member_there, distinct_head, distinct_tail, distinct_cons, each, image_of}
use Rattle.rules.proofs.Basics.Members.{map-distinct}
use Rattle.rules.proofs.Tables.Writes.{starting, within}
use Rattle.rules.proofs.Links.Counting.{live_that, live_that_at_most, live_that_more}
use Rattle.rules.proofs.Links.Chains.{To, stop, call, help, walk_ends, walk_links}
use Rattle.rules.proofs.Soundness.Standings.{links_live}
use Rattle.rules.proofs.Soundness.Shapes.{Shape}
use Rattle.rules.proofs.Soundness.Places.{Sound, owner, owner_live}
use Rattle.rules.proofs.Events.Hands.{link_limit, active}
use Rattle.rules.proofs.Agreement.{agrees}
use Rattle.rules.proofs.Numbers.{event_number_lem, number_most}

-- the first fitting number is within a bound if every number is
pub most : {bound rest : ℕ} (b : Bool) (k : ℕ) → T (leb k bound) → rest ≤ bound → (b gives k else rest) ≤ bound
most {bound} true k h g = leb→le k bound h
most {bound} false k h g = g

ruleset refusal-numbers = (most, lit≤)

-- an event's is at most 18
pub refusal_most : (e : Event) (p : Plain) → refusal e p ≤ 18
refusal_most e p = number_most (refusal e p) (event_number_lem e p)

after_most : (k : ℕ) (e : Event) (s : State) → k ≤ 18 → (dispatch_after k e s).refusal ≤ 18
after_most zero e s h = h
after_most (suc k) e s h = h

pub offer_most : (e : Event) (s : State) → (offer e s).refusal ≤ 18
unfolding offer dispatch
offer_most e s = by (sound s)
  where
    by : (b : Bool) → (offer_if b e s).refusal ≤ 18
    by true = after_most (refusal e (forget s)) e s (refusal_most e (forget s))
    by false = omega arith

-- there are as many threads as slots, or fewer
pub live_most : (ts : List Thread) → live_thread_count ts ≤ length ts
unfolding live_thread_count
live_most [] = omega arith
live_most (t ∷ ts) = by t.live (live_most ts)
  where
    by : (b : Bool) → live_thread_count ts ≤ length ts → one_more_if b (live_thread_count ts) ≤ suc (length ts)
    by true h = omega arith
    by false h = omega arith

-- a chain has no more donations than links
pub count_most : {ln : ℕ → Link} {n m : ℕ} {c d : Chain} → c.count ≤ c.links → To ln n c m d → d.count ≤ d.links
count_most h stop = h
count_most h (call l p) = count_most (omega arith) p
count_most h (help l p) = count_most (omega arith) p

-- what runs on a sound machine: the count is at most L
pub running_most : (s : State) → Sound s → (n t count : ℕ) → s.running ≡ Runs n t count
    → (n < limit) × (t < limit) × (count ≤ live_thread_count s.threads)
running_most s x n t count e =
    let a = active s x n t count e in
    let shape = x.mid.shape in
    let found = walk_ends s.threads (links_live shape.sane) (owner s t) (owner_live s shape t a.listed) a.runs.ends in
    let links : a.runs.chain.links ≤ live_thread_count s.threads = rw found at (walk_links s.threads (owner s t)) in (
      omega (arith, within s.threads n a.live, shape.sane.full),
      shape.turns.small t a.listed,
      omega (arith, count_most {c = no_links} (omega arith) a.runs.ends.path, a.runs.counted),
    )

-- L is at most the number of slots
pub sound_live_most : (s : State) → Sound s → live_thread_count s.threads ≤ limit
sound_live_most s x = omega (arith, live_most s.threads, x.mid.shape.sane.full)

-- an answer whose refusal number and running numbers are bytes, and its links a number of two bytes
abbrev pub RunsNarrow : Running → Type 0
RunsNarrow Nothing = Unit {0}
RunsNarrow (Runs n t count) = (n < 256) × (t < 256) × (count < 256)

pub record Narrow (a : Answered) : Type 0 where
  pub refusal : a.refusal < 256
  pub running : RunsNarrow a.state.running
  pub links : a.links < 65536

abbrev pub AllNarrow : List Answered → Type 0
AllNarrow [] = Unit {0}
AllNarrow (a ∷ rest) = Narrow a × AllNarrow rest

pub runs_narrow : (s : State) → Sound s → (r : Running) → s.running ≡ r → RunsNarrow r
runs_narrow s x Nothing e = tt
runs_narrow s x (Runs n t count) e =
    let m = running_most s x n t count e in
    (omega (arith, m.0), omega (arith, m.1), omega (arith, m.2, sound_live_most s x))

-- different numbers of live threads are no more than the live threads
listed_live : (ts : List Thread) (ns : List ℕ) → distinct ns ≡ true → ((n : ℕ) → member n ns ≡ true → live_at ts n ≡ true)
    → length ns ≤ live_that (λ n. member n ns) ts
listed_live ts [] d live = omega arith
listed_live ts (n ∷ ns) d live =
    let more =
    live_that_more (λ m. member m ns) (λ m. member m (n ∷ ns)) (λ m h. member_there m n ns h) ts n
    (live n (member_here n n ns refl)) (distinct_head n ns d) (member_here n n ns refl) in
    omega (arith, listed_live ts ns (distinct_tail n ns d) (λ m h. live m (member_there m n ns h)))

-- so different numbers below n, as the numbers of n live threads, are at most n
pub distinct_below : (n : ℕ) (l : List ℕ) → distinct l ≡ true → ((t : ℕ) → member t l ≡ true → t < n) → length l ≤ n
distinct_below n l d small =
    let alive : Thread = starting Client in
    omega (
      arith,
      listed_live (replicate n alive) l d
          (λ t h. ap (λ (x : Thread). x.live) (get_or-replicate n t alive free_thread (small t h))),
      live_that_at_most (λ t. member t l) (replicate n alive),
      live_most (replicate n alive),
      length-replicate n alive,
    )

-- and a turn order that lacks a number has room for it
pub turns_room : (p : Plain) → Shape p → (t : ℕ) → t < limit → member t p.order ≡ false → length p.order < limit
turns_room p x t h unlisted =
    distinct_below limit (t ∷ p.order) (distinct_cons t p.order unlisted x.turns.once)
    (λ u. each (λ m. m < limit) u t p.order h (x.turns.small u))

-- each timeslice has a live owner of its own, so there are no more timeslices than threads
pub timeslices_most : (s : State) → Sound s → length s.order ≤ live_thread_count s.threads
timeslices_most s x =
    let turns = x.mid.shape.turns in
    let owners = map (λ t. owner_at s.slices t) s.order in
    let listed =
    listed_live s.threads owners (map-distinct (λ t. owner_at s.slices t) s.order turns.once turns.owners)
    (λ n h. let i = image_of (λ t. owner_at s.slices t) s.order n h in rw i.image at (turns.owner i.of i.member_of)) in
    omega (arith, length-map s.order (λ t. owner_at s.slices t), live_that_at_most (λ n. member n owners) s.threads)

-- the links of an event
pub links_most : (s : State) → Sound s → link_limit (forget s) ≤ 128 * 130
links_most s x =
    let live : live_thread_count s.threads ≤ 128 = sound_live_most s x in
    let timeslices : length s.order + 2 ≤ 130 = omega (arith, timeslices_most s x) in
    mul-le-mul live timeslices

-- every answer of a list of events
pub run_narrow : (es : List Event) (s : State) → AllRanged es → Sound s → AllNarrow (run es s)
unfolding run
run_narrow [] s f x = tt
run_narrow (e ∷ es) s f x =
    let a = agrees e s x f.0 in (
      record {
        refusal = omega (arith, offer_most e s);
        running = runs_narrow (offer e s).state a.sound (offer e s).state.running refl;
        links = omega (arith, a.links, links_most s x);
      },
      run_narrow es (offer e s).state f.1 a.sound,
    )

-- as many answers as events
pub run_length : (es : List Event) (s : State) → length (run es s) ≡ length es
unfolding run
run_length [] s = refl
run_length (e ∷ es) s = ap suc (run_length es (offer e s).state)

-- a file is refused with 14, 15 or 16
refused_small : (n : ℕ) (file : List ℕ) → n ≤ 16 → file_refusal_after n file ≤ 16
refused_small zero file h = search refusal-numbers
refused_small (suc n) file h = h

pub refusal_small : (file : List ℕ) → file_refusal file ≤ 16
unfolding file_refusal
refusal_small file = refused_small (head_refusal file) file (search refusal-numbers)
