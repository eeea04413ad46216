-- What stays true of a chain when the link of one thread changes, or all links into one thread are cut. Every change of an event and of a
-- retry is of one kind or the other.
use Prim.Native.Nat.{ℕ, ◌+◌, ◌<◌}
use mathlib.Core.Path.{◌≡◌, refl, sym, ap, ◌∙◌, subst}
use native.Mathlib.Omega.{arith}
use Rattle.rules.specs.declared.Chain.{Chain}
use Rattle.rules.specs.Walk.{Link, unlinked, donation, helping, donated, helped}
use Rattle.rules.proofs.Basics.Views.{Same, equal, different, same}
use Rattle.rules.proofs.Links.Chains.{To, stop, call, help, Ends, Split, via, split, again, joins, Last, none, donates, helps}
use Rattle.rules.proofs.Links.Chains.{same as unchanged}

-- no thread has two links, nor a link and none
pub no_both {ℓ} : {A : Type ℓ} {l : Link} {s : ℕ} → l ≡ unlinked → l ≡ donation s → A
no_both p q = let z : ◌≡◌ {A = ℕ} 0 1 = cc in absurd (omega arith)

pub no_both_help {ℓ} : {A : Type ℓ} {l : Link} {s : ℕ} → l ≡ unlinked → l ≡ helping s → A
no_both_help p q = let z : ◌≡◌ {A = ℕ} 0 1 = cc in absurd (omega arith)

-- a chain from a thread without a link goes nowhere
pub at_once : {ln : ℕ → Link} {n m : ℕ} {c d : Chain} → ln n ≡ unlinked → To ln n c m d → n ≡ m
at_once u stop = refl
at_once u (call e p) = no_both u e
at_once u (help e p) = no_both_help u e

pub at_once_chain : {ln : ℕ → Link} {n m : ℕ} {c d : Chain} → ln n ≡ unlinked → To ln n c m d → c ≡ d
at_once_chain u stop = refl
at_once_chain u (call e p) = no_both u e
at_once_chain u (help e p) = no_both_help u e

-- the links from a thread end at one thread only, whatever the chain so far
same_end : {ln : ℕ → Link} {n n' m m' : ℕ} {c c' d d' : Chain} → n ≡ n' → To ln n c m d → ln m ≡ unlinked → To ln n' c' m' d'
    → ln m' ≡ unlinked → m ≡ m'
same_end {ln = ln} z stop u q v = z ∙ at_once (rw z at u) q
same_end {ln = ln} z (call e p) u stop v = no_both (rw (sym z) at v) e
same_end {ln = ln} z (call e p) u (call f q) v = same_end (cc (ap ln z)) p u q v
same_end {ln = ln} z (call e p) u (help f q) v = let w : ◌≡◌ {A = ℕ} 0 1 = cc (ap ln z) in absurd (omega arith)
same_end {ln = ln} z (help e p) u stop v = no_both_help (rw (sym z) at v) e
same_end {ln = ln} z (help e p) u (call f q) v = let w : ◌≡◌ {A = ℕ} 0 1 = cc (ap ln z) in absurd (omega arith)
same_end {ln = ln} z (help e p) u (help f q) v = same_end (cc (ap ln z)) p u q v

pub one_end : {ln : ℕ → Link} {n m m' : ℕ} {c c' d d' : Chain} → Ends ln n c m d → Ends ln n c' m' d' → m ≡ m'
one_end x y = same_end refl x.path x.last y.path y.last

-- two tables of links that differ at thread r alone
pub record Differ (ln ln' : ℕ → Link) (r : ℕ) : Type 0 where
  pub elsewhere : (n : ℕ) → (n ≡ r → ⊥) → ln n ≡ ln' n

pub turned : {ln ln' : ℕ → Link} {r : ℕ} → Differ ln ln' r → Differ ln' ln r
turned x = record { elsewhere = λ n o. sym (x.elsewhere n o) }

-- THE FRAME, for an end. A chain that ends where the changed thread did not end, ends there still.
pub kept_end : {ln ln' : ℕ → Link} {r : ℕ} → Differ ln ln' r → {n m : ℕ} {c d : Chain}
    → ((c' d' : Chain) → Ends ln r c' m d' → ⊥) → Ends ln n c m d → Ends ln' n c m d
kept_end {ln} {ln'} {r} x {n} {m} {c} {d} never p = by (split r x.elsewhere p.path)
  where
    other : m ≡ r → ⊥
    other e = never d d (subst (λ (k : ℕ). Ends ln k d m d) e (record { path = stop; last = p.last }))

    by : Split ln ln' r n c m d → Ends ln' n c m d
    by (unchanged q) = record { path = q; last = sym (x.elsewhere m other) ∙ p.last }
    by (via {e = e} q q' rest) = absurd (never e d (record { path = rest; last = p.last }))

-- THE FRAME, for a loop. Where the changed thread's chain ended somewhere, a chain that ended nowhere still ends nowhere.
pub kept_loop : {ln ln' : ℕ → Link} {r k : ℕ} {c₀ d₀ : Chain} → Differ ln ln' r → Ends ln r c₀ k d₀ → {n : ℕ} {c : Chain}
    → ((m : ℕ) (d : Chain) → Ends ln n c m d → ⊥) → (m : ℕ) (d : Chain) → Ends ln' n c m d → ⊥
kept_loop {ln} {ln'} {r} {k} x end {n} {c} never m d p = by (split r (turned x).elsewhere p.path)
  where
    past : {e : Chain} → To ln n c r e → ⊥
    past {e} q =
        let z = again end.path e in
        never k z.chain (record { path = joins q z.path; last = end.last })

    at_end_lem : To ln n c m d → Same m r → ⊥
    at_end_lem q (equal e _) = past (subst (λ (j : ℕ). To ln n c j d) e q)
    at_end_lem q (different o _) = never m d (record { path = q; last = x.elsewhere m o ∙ p.last })

    by : Split ln' ln r n c m d → ⊥
    by (unchanged q) = at_end_lem q (same m r)
    by (via q' q rest) = past q

-- Links are cut: a thread keeps its link, or it has none now and led to thread r.
pub data Cut (ln ln' : ℕ → Link) (r n : ℕ) : Type 0 where
  keeps : ln' n ≡ ln n → Cut ln ln' r n
  cut : {c d : Chain} → ln' n ≡ unlinked → To ln n c r d → Cut ln ln' r n

abbrev pub Cuts : (ℕ → Link) → (ℕ → Link) → ℕ → Type 0
Cuts ln ln' r = (n : ℕ) → Cut ln ln' r n

-- who leads to r ends where r ends
leads : {ln : ℕ → Link} {n n' r m : ℕ} {c c' d d' : Chain} → n ≡ n' → To ln n c r d → To ln n' c' m d' → ln m ≡ unlinked
    → ((e f : Chain) → Ends ln r e m f → ⊥) → ⊥
leads {ln = ln} {m = m} {c' = c'} {d' = d'} z stop q u never =
    never c' d' (record { path = subst (λ (k : ℕ). To ln k c' m d') (sym z) q; last = u })
leads {ln = ln} z (call e p) stop u never = no_both (rw (sym z) at u) e
leads {ln = ln} z (call e p) (call f q) u never = leads (cc (ap ln z)) p q u never
leads {ln = ln} z (call e p) (help f q) u never = let w : ◌≡◌ {A = ℕ} 0 1 = cc (ap ln z) in absurd (omega arith)
leads {ln = ln} z (help e p) stop u never = no_both_help (rw (sym z) at u) e
leads {ln = ln} z (help e p) (call f q) u never = let w : ◌≡◌ {A = ℕ} 0 1 = cc (ap ln z) in absurd (omega arith)
leads {ln = ln} z (help e p) (help f q) u never = leads (cc (ap ln z)) p q u never

module _ {ln ln' : ℕ → Link} {r : ℕ} (x : Cuts ln ln' r) where
  -- a chain that ends where r did not end has lost no link
  uncut : {n m : ℕ} {c d : Chain} → ((e f : Chain) → Ends ln r e m f → ⊥) → To ln n c m d → ln m ≡ unlinked → To ln' n c m d
  uncut never stop u = stop
  uncut {m = m} never (call {n = n} {s = s} {c = c} {d = d} e p) u = by (uncut never p u) (x n)
    where
      by : To ln' s (donated n c) m d → Cut ln ln' r n → To ln' n c m d
      by rest (keeps k) = call (k ∙ e) rest
      by rest (cut k q) = absurd (leads refl q (call {c = c} e p) u never)
  uncut {m = m} never (help {n = n} {s = s} {c = c} {d = d} e p) u = by (uncut never p u) (x n)
    where
      by : To ln' s (helped n c) m d → Cut ln ln' r n → To ln' n c m d
      by rest (keeps k) = help (k ∙ e) rest
      by rest (cut k q) = absurd (leads refl q (help {c = c} e p) u never)

  -- every link that is left was there before
  before : {n m : ℕ} {c d : Chain} → To ln' n c m d → To ln n c m d
  before stop = stop
  before {m = m} (call {n = n} {s = s} {c = c} {d = d} e p) = by (before p) (x n)
    where
      by : To ln s (donated n c) m d → Cut ln ln' r n → To ln n c m d
      by rest (keeps k) = call (sym k ∙ e) rest
      by rest (cut k q) = no_both k e
  before {m = m} (help {n = n} {s = s} {c = c} {d = d} e p) = by (before p) (x n)
    where
      by : To ln s (helped n c) m d → Cut ln ln' r n → To ln n c m d
      by rest (keeps k) = help (sym k ∙ e) rest
      by rest (cut k q) = no_both_help k e

  -- THE FRAME, for links cut, and an end
  cut_end : {n m : ℕ} {c d : Chain} → ((e f : Chain) → Ends ln r e m f → ⊥) → Ends ln n c m d → Ends ln' n c m d
  cut_end {m = m} never p = record { path = uncut never p.path p.last; last = by (x m) }
    where
      by : Cut ln ln' r m → ln' m ≡ unlinked
      by (keeps k) = k ∙ p.last
      by (cut k q) = k

  -- THE FRAME, for links cut, and a loop
  cut_loop : {k : ℕ} {c₀ d₀ : Chain} → Ends ln r c₀ k d₀ → {n : ℕ} {c : Chain}
      → ((m : ℕ) (d : Chain) → Ends ln n c m d → ⊥) → (m : ℕ) (d : Chain) → Ends ln' n c m d → ⊥
  cut_loop {k} end never m d p = by (x m)
    where
      by : Cut ln ln' r m → ⊥
      by (keeps f) = never m d (record { path = before p.path; last = sym f ∙ p.last })
      by (cut f q) =
          let there = again q d in
          let rest = again end.path there.chain in
          never k rest.chain (record { path = joins (before p.path) (joins there.path rest.path); last = end.last })

-- what both kinds of change say, where r is the thread that changed or into which the links were cut
pub record Frame (ln ln' : ℕ → Link) (r : ℕ) : Type 0 where
  pub ends : {n m : ℕ} {c d : Chain} → ((c' d' : Chain) → Ends ln r c' m d' → ⊥) → Ends ln n c m d → Ends ln' n c m d
  pub loops : {k : ℕ} {c₀ d₀ : Chain} → Ends ln r c₀ k d₀ → {n : ℕ} {c : Chain}
      → ((m : ℕ) (d : Chain) → Ends ln n c m d → ⊥) → (m : ℕ) (d : Chain) → Ends ln' n c m d → ⊥

pub differ_frame : {ln ln' : ℕ → Link} {r : ℕ} → Differ ln ln' r → Frame ln ln' r
differ_frame x = record { ends = λ never p. kept_end x never p; loops = λ end never m d p. kept_loop x end never m d p }

pub cut_frame : {ln ln' : ℕ → Link} {r : ℕ} → Cuts ln ln' r → Frame ln ln' r
cut_frame x = record { ends = λ never p. cut_end x never p; loops = λ end never m d p. cut_loop x end never m d p }

-- THE FRAME, for a chain up to the changed thread, which had no link: it comes there as before.
pub kept_up_to : {ln ln' : ℕ → Link} {r : ℕ} → Differ ln ln' r → {n : ℕ} {c d : Chain} → ln r ≡ unlinked → To ln n c r d → To ln' n c r d
kept_up_to {ln} {ln'} {r} x {n} {c} {d} u p = by (split r x.elsewhere p)
  where
    by : Split ln ln' r n c r d → To ln' n c r d
    by (unchanged q) = q
    by (via q q' rest) = subst (λ (k : Chain). To ln' n c r k) (at_once_chain u rest) q'

-- a donation count above 0: the last link is a donation
pub record Donor (ln : ℕ → Link) (n : ℕ) (c : Chain) (m : ℕ) (d : Chain) : Type 0 where
  pub thread : ℕ
  pub chain : Chain
  pub path : To ln n c thread chain
  pub link : ln thread ≡ donation m
  pub counted : chain.count + 1 ≡ d.count

pub donor : {ln : ℕ → Link} {n m : ℕ} {c d : Chain} → c.count ≡ 0 → 0 < d.count → Last ln n c m d → Donor ln n c m d
donor z h none = absurd (omega arith)
donor z h (donates {k = k} {d = d} p e) = record { thread = k; chain = d; path = p; link = e; counted = refl }
donor z h (helps p e) = absurd (omega arith)
