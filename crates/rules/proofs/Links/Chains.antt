-- Chains without a limit. `To` follows links for as long as it likes; the walk of specs/Walk.antt, which may follow L links, finds
-- the same ends.
use Prim.Native.Nat.{ℕ, zero, suc, ◌+◌, ◌≤◌, ◌<◌}
use mathlib.Core.Path.{◌≡◌, refl, sym, ap, ◌∙◌}
use mathlib.Core.List.{List}
use mathlib.Core.Bool.{Bool, true, false, true≢false, false≢true}
use native.Mathlib.Omega.{arith}
use native.Mathlib.Decide.{ℕ_discrete}
use Rattle.rules.specs.declared.Hold.{Hold}
use Rattle.rules.specs.declared.Hold.TheVariants.{Ready, Idle, Blocked, Calling, Helping}
use Rattle.rules.specs.declared.Thread.{Thread}
use Rattle.rules.specs.declared.Chain.{Chain}
use Rattle.std.specs.Prelude.{None}
use Rattle.rules.specs.State.{hold_at, live_at, live_thread_count}
use Rattle.rules.specs.Walk.{Link, unlinked, donation, helping, link_of}
use Rattle.rules.specs.Walk.{no_links, donated, helped, ended, follow, walk_from, walk}
use Rattle.rules.proofs.Links.Counting.{Wider, live_that, live_that_at_most, live_that_more}

-- the link of each thread
abbrev pub link_at : List Thread → ℕ → Link
link_at ts n = link_of (hold_at ts n)

-- from thread n, after the chain c, the links lead to thread m, after the chain d
pub data To (ln : ℕ → Link) : ℕ → Chain → ℕ → Chain → Type 0 where
  stop : {n : ℕ} {c : Chain} → To ln n c n c
  call : {n s m : ℕ} {c d : Chain} → ln n ≡ donation s → To ln s (donated n c) m d → To ln n c m d
  help : {n s m : ℕ} {c d : Chain} → ln n ≡ helping s → To ln s (helped n c) m d → To ln n c m d

-- the links from n end at m
pub record Ends (ln : ℕ → Link) (n : ℕ) (c : Chain) (m : ℕ) (d : Chain) : Type 0 where
  pub path : To ln n c m d
  pub last : ln m ≡ unlinked

-- a chain that goes on
pub joins : {ln : ℕ → Link} {n m k : ℕ} {c d e : Chain} → To ln n c m d → To ln m d k e → To ln n c k e
joins stop q = q
joins (call l p) q = call l (joins p q)
joins (help l p) q = help l (joins p q)

-- one link more
pub one_call : {ln : ℕ → Link} {n m s : ℕ} {c d : Chain} → To ln n c m d → ln m ≡ donation s → To ln n c s (donated m d)
one_call p l = joins p (call l stop)

pub one_help : {ln : ℕ → Link} {n m s : ℕ} {c d : Chain} → To ln n c m d → ln m ≡ helping s → To ln n c s (helped m d)
one_help p l = joins p (help l stop)

-- the same links from another chain so far
pub record Again (ln : ℕ → Link) (n : ℕ) (c : Chain) (m : ℕ) : Type 0 where
  pub chain : Chain
  pub path : To ln n c m chain

pub again : {ln : ℕ → Link} {n m : ℕ} {c d : Chain} → To ln n c m d → (c' : Chain) → Again ln n c' m
again stop c' = record { chain = c'; path = stop }
again (call {n = n} l p) c' = let rest = again p (donated n c') in record { chain = rest.chain; path = call l rest.path }
again (help {n = n} l p) c' = let rest = again p (helped n c') in record { chain = rest.chain; path = help l rest.path }

-- links are counted
pub links_grow : {ln : ℕ → Link} {n m : ℕ} {c d : Chain} → To ln n c m d → c.links ≤ d.links
links_grow stop = omega arith
links_grow (call l p) = omega (arith, links_grow p)
links_grow (help l p) = omega (arith, links_grow p)

-- no link was followed
stays_after : {ln : ℕ → Link} {n m : ℕ} {c d : Chain} → To ln n c m d → d.links ≡ c.links → (n ≡ m) × (d ≡ c)
stays_after stop e = (refl, refl)
stays_after (call l p) e = absurd (omega (arith, links_grow p))
stays_after (help l p) e = absurd (omega (arith, links_grow p))

pub stays : {ln : ℕ → Link} {n m : ℕ} {d : Chain} → To ln n no_links m d → d.links ≡ 0 → (n ≡ m) × (d ≡ no_links)
stays p e = stays_after p e

-- how a chain ends: with no link, a donation or a helping link
pub data Last (ln : ℕ → Link) : ℕ → Chain → ℕ → Chain → Type 0 where
  none : {n : ℕ} {c : Chain} → Last ln n c n c
  donates : {n k m : ℕ} {c d : Chain} → To ln n c k d → ln k ≡ donation m → Last ln n c m (donated k d)
  helps : {n k m : ℕ} {c d : Chain} → To ln n c k d → ln k ≡ helping m → Last ln n c m (helped k d)

-- the chain that ends so
whole : {ln : ℕ → Link} {n m : ℕ} {c d : Chain} → Last ln n c m d → To ln n c m d
whole none = stop
whole (donates p l) = one_call p l
whole (helps p l) = one_help p l

-- the chain that ended with `before` goes on: each link on the way is the last in its turn
last_after : {ln : ℕ → Link} {n k m : ℕ} {b c d : Chain} → Last ln n b k c → To ln k c m d → Last ln n b m d
last_after before stop = before
last_after before (call l p) = last_after (donates (whole before) l) p
last_after before (help l p) = last_after (helps (whole before) l) p

pub last : {ln : ℕ → Link} {n m : ℕ} {c d : Chain} → To ln n c m d → Last ln n c m d
last p = last_after none p

-- THE FRAME. Where only the link of r differs, a chain is the same, or it comes to r, the same way in both, and goes on from there.
pub data Split (ln ln' : ℕ → Link) (r : ℕ) (n : ℕ) (c : Chain) (m : ℕ) (d : Chain) : Type 0 where
  same : To ln' n c m d → Split ln ln' r n c m d
  via : {e : Chain} → To ln n c r e → To ln' n c r e → To ln r e m d → Split ln ln' r n c m d

-- a chain from r
split_here : {ln ln' : ℕ → Link} {r n m : ℕ} {c d : Chain} → n ≡ r → To ln n c m d → Split ln ln' r n c m d
split_here e p = rw (← e) (via stop stop p)

-- a link in front that both have
split_later :
    {ln ln' : ℕ → Link} {r n s m : ℕ} {b c d : Chain} → ((k : ℕ) (e : Chain) → To ln s b k e → To ln n c k e)
    → ((k : ℕ) (e : Chain) → To ln' s b k e → To ln' n c k e) → Split ln ln' r s b m d → Split ln ln' r n c m d
split_later link link' (same p) = same (link' _ _ p)
split_later link link' (via there there' p) = via (link _ _ there) (link' _ _ there') p

pub split :
    {ln ln' : ℕ → Link} (r : ℕ) → ((n : ℕ) → (n ≡ r → ⊥) → ln n ≡ ln' n)
    → {n m : ℕ} {c d : Chain} → To ln n c m d → Split ln ln' r n c m d
split r keeps stop = same stop
split r keeps (call {n = n} l p) =
    elim (ℕ_discrete n r) [
      | yes here ↦ split_here here (call l p)
      | no other ↦ split_later (λ k e. call l) (λ k e. call (sym (keeps n other) ∙ l)) (split r keeps p)
    ]
split r keeps (help {n = n} l p) =
    elim (ℕ_discrete n r) [
      | yes here ↦ split_here here (help l p)
      | no other ↦ split_later (λ k e. help l) (λ k e. help (sym (keeps n other) ∙ l)) (split r keeps p)
    ]

-- a link goes to a live thread
pub record LinksLive (ts : List Thread) : Type 0 where
  pub calls : (n s : ℕ) → link_at ts n ≡ donation s → live_at ts s ≡ true
  pub helps : (n s : ℕ) → link_at ts n ≡ helping s → live_at ts s ≡ true

-- THE COUNT. A chain that ends has fewer than L links: the threads on it are live, and each is one link nearer to the end.

-- whether the links end, from a thread with this link
after_link : (ℕ → Bool) → Link → Bool
after_link rest unlinked = true
after_link rest (donation s) = rest s
after_link rest (helping s) = rest s

-- the links from n end before k of them are followed
ends_within : (ℕ → Link) → ℕ → ℕ → Bool
ends_within ln zero n = false
ends_within ln (suc k) n = after_link (ends_within ln k) (ln n)

-- a test that is wider behind the link is wider before it
after_link_wider : {f g : ℕ → Bool} → Wider f g → (l : Link) → after_link f l ≡ true → after_link g l ≡ true
unfolding after_link
after_link_wider wider unlinked h = h
after_link_wider wider (donation s) h = wider s h
after_link_wider wider (helping s) h = wider s h

-- more links do no harm
ends_within_wider : (ln : ℕ → Link) (k : ℕ) → Wider (ends_within ln k) (ends_within ln (suc k))
unfolding ends_within
ends_within_wider ln zero n h = absurd (false≢true h)
ends_within_wider ln (suc k) n h = after_link_wider (ends_within_wider ln k) (ln n) h

-- the chain from n has exactly `distance` links, and more live threads than that end as near or nearer
record Passes (ts : List Thread) (n : ℕ) (c d : Chain) : Type 0 where
  distance : ℕ
  counted : d.links ≡ c.links + distance
  inside : ends_within (link_at ts) (suc distance) n ≡ true
  out : ends_within (link_at ts) distance n ≡ false
  many : distance < live_that (ends_within (link_at ts) (suc distance)) ts

-- at the end itself
passes_end : (ts : List Thread) (n : ℕ) (c : Chain) → live_at ts n ≡ true → link_at ts n ≡ unlinked → Passes ts n c c
unfolding ends_within after_link
passes_end ts n c live l =
    let inside : ends_within (link_at ts) 1 n ≡ true = rw l in
    record {
      distance = 0;
      counted = omega arith;
      inside = inside;
      out = refl;
      many = omega (arith, live_that_more _ _ (ends_within_wider (link_at ts) 0) ts n live refl inside);
    }

-- n leads to s, which is one nearer: n is the one live thread more
passes_link :
    (ts : List Thread) (n s : ℕ) (b c d : Chain) → live_at ts n ≡ true → b.links ≡ c.links + 1
    → ((k : ℕ) → ends_within (link_at ts) (suc k) n ≡ ends_within (link_at ts) k s) → Passes ts s b d → Passes ts n c d
passes_link ts n s b c d live one leads p =
    let inside = leads (suc p.distance) ∙ p.inside in
    let out = leads p.distance ∙ p.out in
    record {
      distance = suc p.distance;
      counted = omega arith;
      inside = inside;
      out = out;
      many = omega (arith, live_that_more _ _ (ends_within_wider (link_at ts) (suc p.distance)) ts n live out inside);
    }

-- along the whole chain
passes :
    (ts : List Thread) → LinksLive ts → {n m : ℕ} {c d : Chain} → live_at ts n ≡ true → To (link_at ts) n c m d
    → link_at ts m ≡ unlinked → Passes ts n c d
unfolding ends_within after_link
passes ts ll live (stop {n = n} {c = c}) e = passes_end ts n c live e
passes ts ll live (call {n = n} {s = s} {c = c} {d = d} l p) e =
    passes_link ts n s (donated n c) c d live refl (λ k. rw l) (passes ts ll (ll.calls n s l) p e)
passes ts ll live (help {n = n} {s = s} {c = c} {d = d} l p) e =
    passes_link ts n s (helped n c) c d live refl (λ k. rw l) (passes ts ll (ll.helps n s l) p e)

-- the live threads counted at the first thread are at most L
pub few_links :
    (ts : List Thread) → LinksLive ts → (n : ℕ) → live_at ts n ≡ true → {m : ℕ} {d : Chain} → Ends (link_at ts) n no_links m d
    → d.links < live_thread_count ts
few_links ts ll n h p =
    let all = passes ts ll h p.path p.last in
    omega (arith, live_that_at_most (ends_within (link_at ts) (suc all.distance)) ts)

-- THE WALK, link by link: what it does at a hold it does by the link.
unfoldable pub by_link : (ℕ → Chain → Chain) → ℕ → Chain → Link → Chain
by_link go n c unlinked = ended n c
by_link go n c (donation s) = go s (donated n c)
by_link go n c (helping s) = go s (helped n c)

follow_by_link : (go : ℕ → Chain → Chain) (n : ℕ) (c : Chain) (h : Hold) → follow go n c h ≡ by_link go n c (link_of h)
unfolding by_link
follow_by_link go n c Ready = refl
follow_by_link go n c Idle = refl
follow_by_link go n c Blocked = refl
follow_by_link go n c (Calling s) = refl
follow_by_link go n c (Helping s) = refl

-- so one step goes over the link to the rest of the walk, with one link less to spend
pub step :
    (k : ℕ) (ts : List Thread) (n : ℕ) (c : Chain) (l : Link) → link_at ts n ≡ l
    → walk_from (suc k) ts n c ≡ by_link (walk_from k ts) n c l
unfolding walk_from
step k ts n c l e = rw (← e) (follow_by_link (walk_from k ts) n c (hold_at ts n))

-- a walk that may follow enough links finds where they end
finds :
    (ts : List Thread) (k : ℕ) {n m : ℕ} {c d : Chain} → To (link_at ts) n c m d → link_at ts m ≡ unlinked
    → d.links < c.links + k → walk_from k ts n c ≡ ended m d
unfolding by_link
finds ts zero p e h = absurd (omega (arith, links_grow p))
finds ts (suc k) (stop {n = n} {c = c}) e h = step k ts n c unlinked e
finds ts (suc k) (call {n = n} {s = s} {c = c} l p) e h = step k ts n c (donation s) l ∙ finds ts k p e (omega arith)
finds ts (suc k) (help {n = n} {s = s} {c = c} l p) e h = step k ts n c (helping s) l ∙ finds ts k p e (omega arith)

-- what a loop says: its links, so many of them helping
abbrev pub looping : List Thread → ℕ → Chain
looping ts h = record { looped = true; end = 0; links = live_thread_count ts; count = 0; helper = 0; helping = h; last = None }

-- what is left of a walk, with k of its L links to spend: the links end before that, or it says that they do not
data Outcome (ts : List Thread) (k n : ℕ) (c : Chain) : Type 0 where
  comes : {m : ℕ} {d : Chain} → Ends (link_at ts) n c m d → d.links < live_thread_count ts → Outcome ts k n c
  cut : (h : ℕ) → walk_from k ts n c ≡ looping ts h → Outcome ts k n c

-- over one link
outcome_link :
    {ts : List Thread} {k n s : ℕ} {b c : Chain} → walk_from (suc k) ts n c ≡ walk_from k ts s b
    → ((m : ℕ) (d : Chain) → To (link_at ts) s b m d → To (link_at ts) n c m d) → Outcome ts k s b → Outcome ts (suc k) n c
outcome_link w link (comes p few) = comes (record { path = link _ _ p.path; last = p.last }) few
outcome_link w link (cut h e) = cut h (w ∙ e)

-- at a thread with this link
outcome_at :
    (ts : List Thread) (k n : ℕ) (c : Chain) (l : Link) → link_at ts n ≡ l → live_thread_count ts ≡ c.links + suc k
    → ((m : ℕ) (d : Chain) → live_thread_count ts ≡ d.links + k → Outcome ts k m d) → Outcome ts (suc k) n c
unfolding by_link
outcome_at ts k n c unlinked e h rest = comes (record { path = stop; last = e }) (omega arith)
outcome_at ts k n c (donation s) e h rest =
    outcome_link (step k ts n c (donation s) e) (λ m d. call e) (rest s (donated n c) (omega arith))
outcome_at ts k n c (helping s) e h rest =
    outcome_link (step k ts n c (helping s) e) (λ m d. help e) (rest s (helped n c) (omega arith))

-- the links followed and those to spend are L together
outcome : (ts : List Thread) (k n : ℕ) (c : Chain) → live_thread_count ts ≡ c.links + k → Outcome ts k n c
unfolding walk_from
outcome ts zero n c h = let e : c.links ≡ live_thread_count ts = omega arith in cut c.helping (rw e)
outcome ts (suc k) n c h = outcome_at ts k n c (link_at ts n) refl h (outcome ts k)

-- the whole walk
walked : (ts : List Thread) (n : ℕ) → Outcome ts (live_thread_count ts) n no_links
walked ts n = outcome ts (live_thread_count ts) n no_links (omega arith)

-- THE BRIDGE. A walk from a live thread finds where the links end, or says that they end nowhere.
pub data Found (ts : List Thread) (n : ℕ) : Type 0 where
  ends : (m : ℕ) (d : Chain) → Ends (link_at ts) n no_links m d → walk ts n ≡ ended m d → Found ts n
  loops : (h : ℕ) → walk ts n ≡ looping ts h → ((m : ℕ) (d : Chain) → Ends (link_at ts) n no_links m d → ⊥) → Found ts n

-- the chain that ends is the one that the walk finds
pub walk_ends :
    (ts : List Thread) → LinksLive ts → (n : ℕ) → live_at ts n ≡ true → {m : ℕ} {d : Chain} → Ends (link_at ts) n no_links m d
    → walk ts n ≡ ended m d
unfolding walk
walk_ends ts ll n h p = finds ts (live_thread_count ts) p.path p.last (omega (arith, few_links ts ll n h p))

-- a walk that says loop cannot have an end: it would have found it
pub found : (ts : List Thread) → LinksLive ts → (n : ℕ) → live_at ts n ≡ true → Found ts n
unfolding walk
found ts ll n h =
    elim (walked ts n) [
      | comes p few ↦ ends _ _ p (walk_ends ts ll n h p)
      | cut k e ↦ loops k e (λ m d p. true≢false (ap (λ (c : Chain). c.looped) (sym e ∙ walk_ends ts ll n h p)))
    ]

-- links that end nowhere
pub walk_loops : (ts : List Thread) → (n : ℕ) → ((m : ℕ) (d : Chain) → Ends (link_at ts) n no_links m d → ⊥)
    → walk ts n ≡ looping ts (walk ts n).helping
unfolding walk
walk_loops ts n never = elim (walked ts n) [ comes p few ↦ absurd (never _ _ p) | cut h e ↦ rw e ]

-- a walk follows at most L links, whatever the threads hold
pub walk_links : (ts : List Thread) (n : ℕ) → (walk ts n).links ≤ live_thread_count ts
unfolding walk
walk_links ts n =
    elim (walked ts n) [
      | comes p few ↦ rw (finds ts (live_thread_count ts) p.path p.last (omega arith)) (omega arith)
      | cut h e ↦ rw e (omega arith)
    ]
