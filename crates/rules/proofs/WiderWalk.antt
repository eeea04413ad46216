-- THE THEOREM of the walk's wider answer, document 02, [5]: every link followed is a helping or a donation link, and the last thread is the
-- one whose link is the end. It holds of all threads, sound or not.
use Prim.Native.Nat.{ℕ, zero, suc, ◌+◌}
use mathlib.Core.Path.{◌≡◌, refl}
use mathlib.Core.List.{List}
use mathlib.Core.Bool.{Bool, true, false, ◌||◌}
use native.Mathlib.Omega.{arith}
use lib.Dec.{eqb}
use borrow.Author.Tests.{eq-eqb, ne_eqb}
use Rattle.rules.specs.declared.Thread.{Thread}
use Rattle.rules.specs.declared.Chain.{Chain}
use Rattle.std.specs.Prelude.{Option, None, Some}
use Rattle.rules.specs.State.{hold_at, live_thread_count}
use Rattle.rules.specs.Holds.{linked_to}
use Rattle.rules.specs.Walk.{Link, unlinked, donation, helping, no_links, donated, helped, ended, walk_from, walk}
use Rattle.rules.specs.Walk.{donations_from, donations}
use Rattle.rules.proofs.Links.Chains.{link_at, To, stop, one_call, one_help, by_link, step}
use Rattle.rules.proofs.Soundness.Standings.{donation_is, helping_is}

abbrev pub is_none : Option ℕ → Bool
is_none None = true
is_none (Some n) = false

-- thread m is the last before the end of the chain c from n: the links lead there, all but one of them, and its own link is the end
pub record Before (ts : List Thread) (n : ℕ) (c : Chain) (m : ℕ) : Type 0 where
  pub chain : Chain
  pub path : To (link_at ts) n no_links m chain
  pub but_one : chain.links + 1 ≡ c.links
  pub linked : linked_to c.end (hold_at ts m) ≡ true

pub record Wider (ts : List Thread) (n : ℕ) : Type 0 where
  -- helping links and all donation links followed, not the donation count, are the links
  pub links : (walk ts n).helping + donations ts n ≡ (walk ts n).links
  -- "the last thread before the end"
  pub last : (m : ℕ) → (walk ts n).last ≡ Some m → Before ts n (walk ts n) m
  -- "or none where no link was followed or the walk loops"
  pub none : is_none (walk ts n).last ≡ (walk ts n).looped || eqb (walk ts n).links 0

module _ (ts : List Thread) where
  -- the links that a walk adds to the chain so far are helping and donation links
  abbrev Adds : ℕ → ℕ → Chain → Type 0
  Adds k n c = (walk_from k ts n c).helping + donations_from k ts n + c.links ≡ (walk_from k ts n c).links + c.helping

  -- at a thread with this link
  adds_at : (k n : ℕ) (c : Chain) (l : Link) → link_at ts n ≡ l → ((m : ℕ) (d : Chain) → Adds k m d) → Adds (suc k) n c
  unfolding donations_from by_link
  adds_at k n c unlinked e rest = rw (step k ts n c unlinked e, e) (omega arith)
  adds_at k n c (donation s) e rest = rw (step k ts n c (donation s) e, e) (omega (arith, rest s (donated n c)))
  adds_at k n c (helping s) e rest = rw (step k ts n c (helping s) e, e) (omega (arith, rest s (helped n c)))

  -- so with any number of links to spend
  adds : (k n : ℕ) (c : Chain) → Adds k n c
  unfolding walk_from donations_from
  adds zero n c = omega arith
  adds (suc k) n c = adds_at k n c (link_at ts n) refl (adds k)

  -- a chain so far, from the thread `from` to thread n: no link was followed, or the last from a thread with a link to n
  data Comes (from n : ℕ) (c : Chain) : Type 0 where
    at_once : c.last ≡ None → c.links ≡ 0 → Comes from n c
    over : {m : ℕ} {d : Chain} → c.last ≡ Some m → To (link_at ts) from no_links m d → d.links + 1 ≡ c.links
        → linked_to n (hold_at ts m) ≡ true → Comes from n c

  -- what a walk says at its end: it has come there, or it loops
  data Walked (from : ℕ) (c : Chain) : Type 0 where
    comes : c.looped ≡ false → Comes from c.end c → Walked from c
    cut : c.looped ≡ true → c.last ≡ None → Walked from c

  -- a thread's link goes to the thread that it names
  calls_to : (n s : ℕ) → link_at ts n ≡ donation s → linked_to s (hold_at ts n) ≡ true
  calls_to n s e = rw (donation_is (hold_at ts n) s e) (eq-eqb s s refl)

  helps_to : (n s : ℕ) → link_at ts n ≡ helping s → linked_to s (hold_at ts n) ≡ true
  helps_to n s e = rw (helping_is (hold_at ts n) s e) (eq-eqb s s refl)

  -- the walk goes on from a thread with this link
  walked_at : (from k n : ℕ) (c : Chain) (l : Link) → link_at ts n ≡ l → To (link_at ts) from no_links n c → Comes from n c
      → ((m : ℕ) (d : Chain) → To (link_at ts) from no_links m d → Comes from m d → Walked from (walk_from k ts m d))
      → Walked from (walk_from (suc k) ts n c)
  unfolding by_link
  walked_at from k n c unlinked e p so rest = rw (step k ts n c unlinked e) (comes refl (ended_so so))
    where
      ended_so : Comes from n c → Comes from n (ended n c)
      ended_so (at_once a b) = at_once a b
      ended_so (over a q b d) = over a q b d
  walked_at from k n c (donation s) e p so rest =
      rw (step k ts n c (donation s) e) (rest s (donated n c) (one_call p e) (over refl p refl (calls_to n s e)))
  walked_at from k n c (helping s) e p so rest =
      rw (step k ts n c (helping s) e) (rest s (helped n c) (one_help p e) (over refl p refl (helps_to n s e)))

  -- so with any number of links to spend
  walked : (from k n : ℕ) (c : Chain) → To (link_at ts) from no_links n c → Comes from n c → Walked from (walk_from k ts n c)
  unfolding walk_from
  walked from zero n c p so = cut refl refl
  walked from (suc k) n c p so = walked_at from k n c (link_at ts n) refl p so (walked from k)

  -- the last thread that a walk names is the last before the end
  last_before : (from : ℕ) (c : Chain) → Walked from c → (m : ℕ) → c.last ≡ Some m → Before ts from c m
  last_before from c (comes l (at_once a b)) m e = let z : ◌≡◌ {A = ℕ} 0 1 = cc in absurd (omega arith)
  last_before from c (comes l (over {m = k} {d = d} a p b h)) m e =
      let z : k ≡ m = cc in
      rw (← z) (record { chain = d; path = p; but_one = b; linked = h })
  last_before from c (cut l a) m e = let z : ◌≡◌ {A = ℕ} 0 1 = cc in absurd (omega arith)

  -- it names none where no link was followed, and where the walk loops
  none_named : (from : ℕ) (c : Chain) → Walked from c → is_none c.last ≡ c.looped || eqb c.links 0
  none_named from c (comes l (at_once a b)) = rw (a, l, b)
  none_named from c (comes l (over a p b h)) = rw (a, l, ne_eqb c.links 0 (omega arith))
  none_named from c (cut l a) = rw (a, l)

-- every walk begins before the first link
pub wider : (ts : List Thread) (n : ℕ) → Wider ts n
unfolding walk donations
wider ts n =
    let w = walked ts n (live_thread_count ts) n no_links stop (at_once refl refl) in
    record {
      links = omega (arith, adds ts (live_thread_count ts) n no_links);
      last = last_before ts n (walk_from (live_thread_count ts) ts n no_links) w;
      none = none_named ts n (walk_from (live_thread_count ts) ts n no_links) w;
    }
