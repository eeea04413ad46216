-- THE THEOREMS of the reason, document 02, [5]. A timeslice that stands above the current one is not in Queue, nor Behind one that is,
-- because the current one is the topmost in Queue: so it is On its chain's end, Stalled or Spent.
use Prim.Native.Nat.{ℕ, zero, suc, ◌+◌, ◌<◌}
use mathlib.Core.Path.{◌≡◌, refl, sym, ap, ◌∙◌, subst}
use mathlib.Core.List.{List, [], ◌∷◌}
use mathlib.Core.Bool.{Bool, true, false, ◌&&◌, ◌||◌}
use native.Mathlib.Omega.{arith}
use lib.ListN.{take}
use lib.Dec.{leb, ltb, eqb}
use borrow.Author.Tests.{ltb-true, ltb-false, lt-ltb, le-ltb, leb-true, eqb-true, eq-eqb}
use Rattle.rules.specs.declared.Hold.{Hold}
use Rattle.rules.specs.declared.Hold.TheVariants.{Ready, Idle, Blocked, Calling, Helping}
use Rattle.rules.specs.declared.Thread.{Thread}
use Rattle.rules.specs.declared.Place.{Place}
use Rattle.rules.specs.declared.Place.TheVariants.{Queue, Behind, On, Stalled, Spent as SpentPlace}
use Rattle.rules.specs.declared.Running.{Running}
use Rattle.rules.specs.declared.Running.TheVariants.{Nothing, Runs}
use Rattle.rules.specs.declared.Chain.{Chain}
use Rattle.rules.specs.declared.Cause.{Cause}
use Rattle.rules.specs.declared.Cause.TheVariants.{Waits, Loops, Spent}
use Rattle.rules.specs.declared.Event.{Event}
use Rattle.rules.specs.Tests.{member, distinct}
use Rattle.rules.specs.State.{State, forget, empty, hold_at, slice_at, owner_at, priority_at, left_at, place_at, live_thread_count}
use Rattle.rules.specs.Order.{earlier, stands_above}
use Rattle.rules.specs.Walk.{unlinked, donation, helping, link_of, no_links, chain_of, at_end, lets}
use Rattle.rules.specs.Release.{in_queue, is_spent}
use Rattle.rules.specs.Sound.{sound}
use Rattle.rules.specs.Lists.{AllRanged}
use Rattle.rules.specs.EventFile.{Bytes, events_of}
use Rattle.rules.specs.Reason.{over_link, threads_from, threads_on, above_current, above_with, above_below, above, cause_by, cause}
use Rattle.rules.specs.Reason.{reason_of, reason_refusal, reason, number_in, file_in, machine_after}
use Rattle.rules.proofs.Basics.Views.{Two, yes_true, no_false, two, clash, is_false, Same, equal, different, same}
use Rattle.rules.proofs.Basics.Views.{and_true_left, and_true_right, and_false_right, and4}
use Rattle.rules.proofs.Basics.Filters.{member_filter, distinct_filter, earlier_filter, member_append, distinct_append}
use Rattle.rules.proofs.Basics.Filters.{Sooner, within, across, beyond, earlier_append}
use Rattle.rules.proofs.Order.Orders.{higher, numbers_above, earlier_above, above_trans, above_asym}
use Rattle.rules.proofs.Links.Chains.{link_at, To, stop, call, help, Ends, links_grow, few_links, walk_ends, walk_loops}
use Rattle.rules.proofs.Soundness.Shapes.{Shape}
use Rattle.rules.proofs.Soundness.Standings.{Waits as WaitsAt, blocked, idle, Stalls, donation_is, helping_is, links_live}
use Rattle.rules.proofs.Soundness.Standings.{owner_ends}
use Rattle.rules.proofs.Soundness.Places.{owner, owner_live, Good, Mid, Settled, nothing, runs_on, Sound, sound_of}
use Rattle.rules.proofs.Choosing.Tops.{queue_top, queue_none, is_queued}
use Rattle.rules.proofs.Events.Hands.{active}
use Rattle.rules.proofs.Files.Records.{all_ranged}
use Rattle.rules.proofs.Files.ReadThenWritten.{bytes_drop}
use Rattle.rules.proofs.Files.Inverse.{events_fit}
use Rattle.rules.proofs.Demands.{after_sound, empty_sound}

-- a true cause, said of the links themselves, followed without a limit: the chain ends at n and does not let the timeslice run; it ends
-- nowhere; nothing is left of the timeslice
pub data True (s : State) (t : ℕ) : Cause → Type 0 where
  waits : {n : ℕ} {d : Chain} → Ends (link_at s.threads) (owner_at s.slices t) no_links n d
      → lets (at_end (hold_at s.threads n) d.links) ≡ false → True s t (Waits n)
  loops : ((n : ℕ) (d : Chain) → Ends (link_at s.threads) (owner_at s.slices t) no_links n d → ⊥) → True s t Loops
  spent : left_at s.slices t ≡ 0 → True s t Spent

-- a chain written out: first this thread, each next the one linked, the last that thread, which has no link
pub data Chained (ts : List Thread) : ℕ → ℕ → List ℕ → Type 0 where
  end : {n : ℕ} → link_at ts n ≡ unlinked → Chained ts n n (n ∷ [])
  calls : {n server m : ℕ} {rest : List ℕ} → link_at ts n ≡ donation server → Chained ts server m rest → Chained ts n m (n ∷ rest)
  helps : {n server m : ℕ} {rest : List ℕ} → link_at ts n ≡ helping server → Chained ts server m rest → Chained ts n m (n ∷ rest)

pub record Reason (s : State) : Type 0 where
  -- the chain of the current timeslice, from its owner to the running thread
  pub chain : (n t count : ℕ) → s.running ≡ Runs n t count → Chained s.threads (owner_at s.slices t) n (threads_on s t)
  -- "the timeslices above, and no others, are listed", each once
  pub listed : (t : ℕ) → member t (above s) ≡ member t s.order && above_current s s.running t
  pub once : distinct (above s) ≡ true
  -- "topmost first"
  pub ordered : (t u : ℕ) → member u (above s) ≡ true → earlier (above s) t u ≡ true → stands_above s.slices s.order t u ≡ true
  -- "Each cause is proved to hold of the machine"; where nothing is left of a timeslice, that is its cause
  pub causes : (t : ℕ) → member t (above s) ≡ true → True s t (cause s t)
  pub spents : (t : ℕ) → member t (above s) ≡ true → left_at s.slices t ≡ 0 → cause s t ≡ Spent

-- THE CHAIN. It has fewer than L links, so L are enough to write it out to its end.

-- a thread without a link is the last that is written
over_unlinked : (next : ℕ → List ℕ) (h : Hold) → link_of h ≡ unlinked → over_link next h ≡ []
over_unlinked next Ready e = refl
over_unlinked next Idle e = refl
over_unlinked next Blocked e = refl
over_unlinked next (Calling server) e = let z : ◌≡◌ {A = ℕ} 0 1 = cc in absurd (omega arith)
over_unlinked next (Helping server) e = let z : ◌≡◌ {A = ℕ} 0 1 = cc in absurd (omega arith)

-- a chain that ends within k links is written out whole
written : (ts : List Thread) (k : ℕ) {n m : ℕ} {c d : Chain} → To (link_at ts) n c m d → link_at ts m ≡ unlinked
    → d.links < c.links + k → Chained ts n m (threads_from k ts n)
unfolding threads_from
written ts zero p e h = absurd (omega (arith, links_grow p))
written ts (suc k) (stop {n = n}) e h = rw (over_unlinked (threads_from k ts) (hold_at ts n) e) (end e)
written ts (suc k) (call {n = n} {s = s} l p) e h = rw (donation_is (hold_at ts n) s l) (calls l (written ts k p e (omega arith)))
written ts (suc k) (help {n = n} {s = s} l p) e h = rw (helping_is (hold_at ts n) s l) (helps l (written ts k p e (omega arith)))

-- the current timeslice's chain ends at the running thread
chain_written : (s : State) → Sound s → (n t count : ℕ) → s.running ≡ Runs n t count
    → Chained s.threads (owner_at s.slices t) n (threads_on s t)
unfolding threads_on
chain_written s x n t count e =
    let a = active s x n t count e in
    let shape = x.mid.shape in
    let p = a.runs.ends in
    written s.threads (live_thread_count s.threads) p.path p.last
    (omega (arith, few_links s.threads (links_live shape.sane) (owner s t) (owner_live s shape t a.listed) p))

-- THE LIST. The priorities are gone through from 255 down, and every timeslice has one of them.

-- what two conjunctions share
share : (a b c d : Bool) → ((a && (b && d)) || (a && (c && d))) ≡ (a && ((b || c) && d))
share false b c d = refl
share true true c true = refl
share true true true false = refl
share true true false false = refl
share true false c d = refl

-- a number below p + 1 is p or below p
at_or_below : (n p : ℕ) → Same n p → ltb n (suc p) ≡ eqb n p || ltb n p
at_or_below n p (equal e q) = rw q (lt-ltb n (suc p) (omega arith))
at_or_below n p (different d q) = rw q (by (two (ltb n p)))
  where
    by : Two (ltb n p) → ltb n (suc p) ≡ ltb n p
    by (yes_true h) = rw h (lt-ltb n (suc p) (omega (arith, ltb-true n p h)))
    by (no_false h) = rw h (le-ltb n (suc p) (omega (arith, ltb-false n p h, d)))

-- a priority that is low enough where it matters
low_enough : (a c : Bool) (p : ℕ) → (a ≡ true → p < 256) → (a && (ltb p 256 && c)) ≡ a && c
low_enough true c p h = rw (lt-ltb p 256 (h refl))
low_enough false c p h = refl

module _ (s : State) where
  -- of that priority, and above the current one
  abbrev takes : ℕ → ℕ → Bool
  takes p t = eqb (priority_at s.slices t) p && above_current s s.running t

  -- who is listed with one priority, and with those below
  listed_with : (p t : ℕ) → member t (above_with p s) ≡ member t s.order && takes p t
  listed_with p t = member_filter (takes p) t s.order

  listed_below : (p t : ℕ)
      → member t (above_below p s) ≡ member t s.order && (ltb (priority_at s.slices t) p && above_current s s.running t)
  unfolding above_below member
  listed_below zero t = rw (le-ltb (priority_at s.slices t) 0 (omega arith)) (sym (and_false_right (member t s.order) false refl))
  listed_below (suc p) t =
      let n = priority_at s.slices t in
      member_append t (above_with p s) (above_below p s)
      ∙ rw (listed_with p t, listed_below p t, at_or_below n p (same n p))
      (share (member t s.order) (eqb n p) (ltb n p) (above_current s s.running t))

  -- what that says
  with_takes : (p t : ℕ) → member t (above_with p s) ≡ true → takes p t ≡ true
  with_takes p t h = and_true_right (member t s.order) (takes p t) (sym (listed_with p t) ∙ h)

  with_priority_lem : (p t : ℕ) → member t (above_with p s) ≡ true → priority_at s.slices t ≡ p
  with_priority_lem p t h =
      eqb-true (priority_at s.slices t) p (and_true_left _ (above_current s s.running t) (with_takes p t h))

  below_priority : (p t : ℕ) → member t (above_below p s) ≡ true → priority_at s.slices t < p
  below_priority p t h =
      ltb-true (priority_at s.slices t) p
      (and_true_left _ (above_current s s.running t) (and_true_right (member t s.order) _ (sym (listed_below p t) ∙ h)))

  -- each once, because each has one priority
  once_below : distinct s.order ≡ true → (p : ℕ) → distinct (above_below p s) ≡ true
  unfolding above_below distinct
  once_below d zero = refl
  once_below d (suc p) =
      distinct_append (above_with p s) (above_below p s) (distinct_filter (takes p) s.order d) (once_below d p)
      (λ t h. is_false (member t (above_below p s)) (λ k. omega (arith, with_priority_lem p t h, below_priority p t k)))

  -- topmost first: of one priority in turn order, of two the higher first
  ordered_by : (p t u : ℕ)
      → (member u (above_below p s) ≡ true → earlier (above_below p s) t u ≡ true → stands_above s.slices s.order t u ≡ true)
      → Sooner (above_with p s) (above_below p s) t u → stands_above s.slices s.order t u ≡ true
  ordered_by p t u r (within ht hu e) =
      earlier_above s.slices s.order t u (with_priority_lem p t ht ∙ sym (with_priority_lem p u hu))
      (sym (earlier_filter (takes p) s.order t u (with_takes p t ht) (with_takes p u hu)) ∙ e)
  ordered_by p t u r (across ht hu) =
      numbers_above s.slices s.order (higher (omega (arith, with_priority_lem p t ht, below_priority p u hu)))
  ordered_by p t u r (beyond hu e) = r hu e

  ordered_below : (p t u : ℕ) → member u (above_below p s) ≡ true → earlier (above_below p s) t u ≡ true
      → stands_above s.slices s.order t u ≡ true
  unfolding above_below member
  ordered_below zero t u h e = clash false h refl
  ordered_below (suc p) t u h e =
      ordered_by p t u (ordered_below p t u) (earlier_append (above_with p s) (above_below p s) t u h e)

  -- no priority is above 255
  low_priority : Shape (forget s) → (t : ℕ) → member t s.order ≡ true → priority_at s.slices t < 256
  low_priority x t h =
      let u = slice_at s.slices t in
      let range = and4 (leb u.priority 255) (leb 1 u.quantum) (leb u.quantum 65535) (leb u.left u.quantum)
      (x.turns.range t h) in
      omega (arith, leb-true u.priority 255 range.0)

  -- so all that stand above are listed, once each and topmost first
  listed_above : Shape (forget s) → (t : ℕ) → member t (above s) ≡ member t s.order && above_current s s.running t
  unfolding above
  listed_above x t =
      listed_below 256 t
      ∙ low_enough (member t s.order) (above_current s s.running t) (priority_at s.slices t) (low_priority x t)

  once_above : distinct s.order ≡ true → distinct (above s) ≡ true
  unfolding above
  once_above d = once_below d 256

  ordered_above : (t u : ℕ) → member u (above s) ≡ true → earlier (above s) t u ≡ true → stands_above s.slices s.order t u ≡ true
  unfolding above
  ordered_above t u h e = ordered_below 256 t u h e

-- THE CAUSES. Who stands above the current one is put aside: the other places would have one in Queue above the topmost there.

-- the current timeslice is the topmost in Queue: none in Queue stands above it
none_queued : (s : State) → Settled s → (q : ℕ) → member q s.order ≡ true → place_at s.places q ≡ Queue
    → above_current s s.running q ≡ false
none_queued s (nothing r e) q h p = clash (in_queue (place_at s.places q)) (is_queued p) (queue_none s e q h)
none_queued s (runs_on t n count r e _) q h p = rw r (by (same q t))
  where
    by : Same q t → stands_above s.slices s.order q t ≡ false
    by (equal z _) =
        rw z (is_false _ (λ k. clash (stands_above s.slices s.order t t) k (above_asym s.slices s.order t t k)))
    by (different o _) = above_asym s.slices s.order t q ((queue_top s t e).above q h (is_queued p) o)

-- who stands above one that stands above the current one does so too
above_above_current : (s : State) (r : Running) (q t : ℕ) → stands_above s.slices s.order q t ≡ true → above_current s r t ≡ true
    → above_current s r q ≡ true
above_above_current s Nothing q t a h = refl
above_above_current s (Runs n current count) q t a h = above_trans s.slices s.order q t current a h

-- the cause of one that is not Spent is in its chain
unspent : (s : State) (t : ℕ) → is_spent (place_at s.places t) ≡ false → cause s t ≡ cause_by (chain_of s.threads s.slices t)
unfolding cause
unspent s t e = rw e

-- and a Spent one is given as Spent
is_spent_lem : (s : State) (t : ℕ) → is_spent (place_at s.places t) ≡ true → cause s t ≡ Spent
unfolding cause
is_spent_lem s t e = rw e

module _ (s : State) (x : Mid s) (t : ℕ) (h : member t s.order ≡ true) where
  -- the chain has an end that does not let it run
  held_true : {n : ℕ} {d : Chain} → is_spent (place_at s.places t) ≡ false → Ends (link_at s.threads) (owner s t) no_links n d
      → lets (at_end (hold_at s.threads n) d.links) ≡ false → True s t (cause s t)
  held_true u p held =
      let w = walk_ends s.threads (links_live x.shape.sane) (owner s t) (owner_live s x.shape t h) p in
      subst (True s t) (sym (unspent s t u ∙ ap cause_by w)) (waits p held)

  -- On a thread
  waits_true : {n : ℕ} → is_spent (place_at s.places t) ≡ false → WaitsAt s.threads (owner s t) n → True s t (cause s t)
  waits_true u (blocked {d = d} p b) = held_true u p (ap (λ k. lets (at_end k d.links)) b)
  waits_true u (idle q i) = held_true u (owner_ends s.threads q (ap link_of i)) (ap (λ k. lets (at_end k 0)) i)

  -- Stalled
  stalls_true : is_spent (place_at s.places t) ≡ false → Stalls s.threads (owner s t) → True s t (cause s t)
  stalls_true u never = subst (True s t) (sym (unspent s t u ∙ ap cause_by (walk_loops s.threads (owner s t) never))) (loops never)

  -- Spent
  spent_true : is_spent (place_at s.places t) ≡ true → True s t (cause s t)
  spent_true u =
      subst (True s t) (sym (is_spent_lem s t u)) (spent (eqb-true (left_at s.slices t) 0 (sym (x.placed.spent t h) ∙ u)))

-- every true place gives a true cause, or one in Queue would stand above the current one
cause_true : (s : State) → Sound s → (t : ℕ) → member t s.order ≡ true → above_current s s.running t ≡ true → (p : Place)
    → place_at s.places t ≡ p → Good s t p → True s t (cause s t)
cause_true s x t h a Queue e g = clash (above_current s s.running t) a (none_queued s x.settled t h e)
cause_true s x t h a (Behind q) e g =
    clash (above_current s s.running q) (above_above_current s s.running q t g.above a)
    (none_queued s x.settled q g.listed g.queued)
cause_true s x t h a (On n) e g = waits_true s x.mid t h (ap is_spent e) g
cause_true s x t h a Stalled e g = stalls_true s x.mid t h (ap is_spent e) g
cause_true s x t h a SpentPlace e g = spent_true s x.mid t h (ap is_spent e)

-- from every sound machine
pub reason_true : (s : State) → sound s ≡ true → Reason s
reason_true s h =
    let x = sound_of s h in
    let shape = x.mid.shape in
    let placed = x.mid.placed in
    let listed = listed_above s shape in
    let both : (t : ℕ) → member t (above s) ≡ true → (member t s.order && above_current s s.running t) ≡ true =
    λ t m. sym (listed t) ∙ m in
    let live : (t : ℕ) → member t (above s) ≡ true → member t s.order ≡ true =
    λ t m. and_true_left (member t s.order) (above_current s s.running t) (both t m) in
    record {
      chain = chain_written s x;
      listed = listed;
      once = once_above s shape.turns.once;
      ordered = ordered_above s;
      causes =
          λ t m. cause_true s x t (live t m) (and_true_right (member t s.order) (above_current s s.running t) (both t m))
          (place_at s.places t) refl (placed.good t (live t m));
      spents = λ t m e. is_spent_lem s t (placed.spent t (live t m) ∙ eq-eqb (left_at s.slices t) 0 e);
    }

-- events taken from the front of a list in range are in range
ranged_take : (k : ℕ) (es : List Event) → AllRanged es → AllRanged (take k es)
ranged_take zero es f = tt
ranged_take (suc k) [] f = tt
ranged_take (suc k) (e ∷ es) f = (f.0, ranged_take k es f.1)

-- the machine after any number of events of a file of bytes is sound
pub machine_sound : (number : ℕ) (file : List ℕ) → Bytes file → sound (machine_after number file) ≡ true
unfolding machine_after
machine_sound number file b =
    after_sound (take number (events_of file)) empty
    (ranged_take number (events_of file) (all_ranged (events_of file) (events_fit file b))) empty_sound

-- the file of an input of bytes is one of bytes
pub file_bytes : (input : List ℕ) → Bytes input → Bytes (file_in input)
file_bytes input b = bytes_drop 4 input b

-- of every input of bytes that is not refused: what is printed, and that it is true of the machine after the event
pub record Printed (input : List ℕ) : Type 0 where
  pub bytes : reason input ≡ reason_of (machine_after (number_in input) (file_in input))
  pub true_of : Reason (machine_after (number_in input) (file_in input))

pub printed : (input : List ℕ) → Bytes input → reason_refusal input ≡ 0 → Printed input
unfolding reason
printed input b h =
    record {
      bytes = rw h;
      true_of =
          reason_true (machine_after (number_in input) (file_in input))
          (machine_sound (number_in input) (file_in input) (file_bytes input b));
    }
