-- What the verdict on a chain says of the links alone, and back.
use Prim.Native.Nat.{ℕ, ◌<◌}
use mathlib.Core.Path.{◌≡◌, refl, ap, ◌∙◌, subst}
use mathlib.Core.List.{List}
use mathlib.Core.Bool.{true, ◌&&◌, not}
use native.Mathlib.Omega.{arith}
use lib.Dec.{eqb, ltb}
use borrow.Author.Tests.{ltb-true, ltb-false, lt-ltb, eqb-false, not-true}
use Rattle.rules.specs.declared.Hold.{Hold}
use Rattle.rules.specs.declared.Hold.TheVariants.{Ready, Idle, Blocked, Calling, Helping}
use Rattle.rules.specs.declared.Thread.{Thread}
use Rattle.rules.specs.declared.Chain.{Chain}
use Rattle.rules.specs.State.{hold_at, live_at}
use Rattle.rules.specs.Walk.{unlinked, donation, helping, link_of, no_links, ended, walk, verdict, at_end, runs, retries, waits, stalls}
use Rattle.rules.specs.Sound.{link_to, server_at}
use Rattle.rules.proofs.Basics.Views.{Two, yes_true, no_false, two, and_true_left, and_true_right}
use Rattle.rules.proofs.Links.Chains.{link_at, stop, Ends, LinksLive, looping, Found, ends, loops, found, walk_ends, walk_loops}
use Rattle.rules.proofs.Links.Chains.{stays}
use Rattle.rules.proofs.Soundness.Shapes.{Sane}

-- the link of a hold, and the hold of a link
pub donation_is : (h : Hold) (s : ℕ) → link_of h ≡ donation s → h ≡ Calling s
donation_is Ready s e = cc
donation_is Idle s e = cc
donation_is Blocked s e = cc
donation_is (Calling n) s e = cc
donation_is (Helping n) s e = cc

pub helping_is : (h : Hold) (s : ℕ) → link_of h ≡ helping s → h ≡ Helping s
helping_is Ready s e = cc
helping_is Idle s e = cc
helping_is Blocked s e = cc
helping_is (Calling n) s e = cc
helping_is (Helping n) s e = cc

-- what soundness says of a link's target
pub record Target (ts : List Thread) (n s : ℕ) : Type 0 where
  pub live : live_at ts s ≡ true
  pub server : server_at ts s ≡ true
  pub other : s ≡ n → ⊥

target_of : (ts : List Thread) (n s : ℕ) → link_to ts n s ≡ true → Target ts n s
target_of ts n s e =
    let ls = and_true_left (live_at ts s && server_at ts s) (not (eqb s n)) e in
    record {
      live = and_true_left (live_at ts s) (server_at ts s) ls;
      server = and_true_right (live_at ts s) (server_at ts s) ls;
      other = eqb-false s n (not-true (eqb s n) (and_true_right (live_at ts s && server_at ts s) (not (eqb s n)) e));
    }

pub call_target : {ts : List Thread} → Sane ts → (n s : ℕ) → hold_at ts n ≡ Calling s → Target ts n s
call_target {ts} x n s e = target_of ts n s (rw e at (x.linked n))

pub help_target : {ts : List Thread} → Sane ts → (n s : ℕ) → hold_at ts n ≡ Helping s → Target ts n s
help_target {ts} x n s e = target_of ts n s (rw e at (x.linked n))

pub links_live : {ts : List Thread} → Sane ts → LinksLive ts
links_live {ts} x =
    record {
      calls = λ n s e. (call_target x n s (donation_is (hold_at ts n) s e)).live;
      helps = λ n s e. (help_target x n s (helping_is (hold_at ts n) s e)).live;
    }

-- the timeslice of owner x waits at thread n: the chain ends there, Blocked, or the owner itself is Idle
pub data Waits (ts : List Thread) (x n : ℕ) : Type 0 where
  blocked : {d : Chain} → Ends (link_at ts) x no_links n d → hold_at ts n ≡ Blocked → Waits ts x n
  idle : x ≡ n → hold_at ts n ≡ Idle → Waits ts x n

-- its chain ends nowhere
abbrev pub Stalls : List Thread → ℕ → Type 0
Stalls ts x = (m : ℕ) (d : Chain) → Ends (link_at ts) x no_links m d → ⊥

-- its chain ends, Ready, at thread n with this donation count
pub record RunsAt (ts : List Thread) (x n count : ℕ) : Type 0 where
  pub chain : Chain
  pub ends : Ends (link_at ts) x no_links n chain
  pub ready : hold_at ts n ≡ Ready
  pub counted : chain.count ≡ count

-- its chain ends at the Idle thread n after a link
pub record RetriesAt (ts : List Thread) (x n : ℕ) : Type 0 where
  pub chain : Chain
  pub ends : Ends (link_at ts) x no_links n chain
  pub idle : hold_at ts n ≡ Idle
  pub links : 0 < chain.links

pub data Standing (ts : List Thread) (x : ℕ) : Type 0 where
  running : (n count : ℕ) (r : RunsAt ts x n count) → walk ts x ≡ ended n r.chain → verdict ts (walk ts x) ≡ runs → Standing ts x
  retrying : (n : ℕ) (r : RetriesAt ts x n) → walk ts x ≡ ended n r.chain → verdict ts (walk ts x) ≡ retries → Standing ts x
  waiting : (n : ℕ) → Waits ts x n → (walk ts x).end ≡ n → verdict ts (walk ts x) ≡ waits → Standing ts x
  stalling : (h : ℕ) → Stalls ts x → walk ts x ≡ looping ts h → verdict ts (walk ts x) ≡ stalls → Standing ts x

-- what a thread without a link holds
data Unlinked (h : Hold) : Type 0 where
  ready : h ≡ Ready → Unlinked h
  idle : h ≡ Idle → Unlinked h
  blocked : h ≡ Blocked → Unlinked h

unlinked_is : (h : Hold) → link_of h ≡ unlinked → Unlinked h
unlinked_is Ready e = ready refl
unlinked_is Idle e = idle refl
unlinked_is Blocked e = blocked refl
unlinked_is (Calling s) e = ready (cc)
unlinked_is (Helping s) e = ready (cc)

-- the verdict on a chain that ends, by what its end holds
at_ready : (ts : List Thread) (x m : ℕ) (d : Chain) → walk ts x ≡ ended m d → hold_at ts m ≡ Ready → verdict ts (walk ts x) ≡ runs
at_ready ts x m d e h = ap (verdict ts) e ∙ ap (λ k. at_end k d.links) h

at_blocked : (ts : List Thread) (x m : ℕ) (d : Chain) → walk ts x ≡ ended m d → hold_at ts m ≡ Blocked → verdict ts (walk ts x) ≡ waits
at_blocked ts x m d e h = ap (verdict ts) e ∙ ap (λ k. at_end k d.links) h

at_idle : (ts : List Thread) (x m : ℕ) (d : Chain) → walk ts x ≡ ended m d → hold_at ts m ≡ Idle → 0 < d.links
    → verdict ts (walk ts x) ≡ retries
at_idle ts x m d e h l = ap (verdict ts) e ∙ ap (λ k. at_end k d.links) h ∙ rw (lt-ltb 0 d.links l)

at_idle_owner : (ts : List Thread) (x m : ℕ) (d : Chain) → walk ts x ≡ ended m d → hold_at ts m ≡ Idle → d.links ≡ 0
    → verdict ts (walk ts x) ≡ waits
at_idle_owner ts x m d e h l = ap (verdict ts) e ∙ ap (λ k. at_end k d.links) h ∙ rw l

at_loop : (ts : List Thread) (x h : ℕ) → walk ts x ≡ looping ts h → verdict ts (walk ts x) ≡ stalls
at_loop ts x h e = ap (verdict ts) e

-- every live thread's chain has one of the four verdicts, with what it means
pub standing : (ts : List Thread) → Sane ts → (x : ℕ) → live_at ts x ≡ true → Standing ts x
standing ts s x h = by (found ts (links_live s) x h)
  where
    at_idle_end : (m : ℕ) (d : Chain) → Ends (link_at ts) x no_links m d → walk ts x ≡ ended m d → hold_at ts m ≡ Idle
        → Two (ltb 0 d.links) → Standing ts x
    at_idle_end m d p e i (yes_true l) =
        retrying m (record { chain = d; ends = p; idle = i; links = ltb-true 0 d.links l }) e
        (at_idle ts x m d e i (ltb-true 0 d.links l))
    at_idle_end m d p e i (no_false l) =
        let z : d.links ≡ 0 = omega (arith, ltb-false 0 d.links l) in
        waiting m (idle (stays p.path z).0 i) (ap (λ (c : Chain). c.end) e) (at_idle_owner ts x m d e i z)

    at_end_lem : (m : ℕ) (d : Chain) → Ends (link_at ts) x no_links m d → walk ts x ≡ ended m d → Unlinked (hold_at ts m) → Standing ts x
    at_end_lem m d p e (ready r) = running m d.count (record { chain = d; ends = p; ready = r; counted = refl }) e (at_ready ts x m d e r)
    at_end_lem m d p e (idle i) = at_idle_end m d p e i (two (ltb 0 d.links))
    at_end_lem m d p e (blocked b) = waiting m (blocked p b) (ap (λ (c : Chain). c.end) e) (at_blocked ts x m d e b)

    by : Found ts x → Standing ts x
    by (ends m d p e) = at_end_lem m d p e (unlinked_is (hold_at ts m) p.last)
    by (loops h e never) = stalling h never e (at_loop ts x h e)

-- an owner without a link is its chain's end
pub owner_ends : (ts : List Thread) {x n : ℕ} → x ≡ n → link_at ts n ≡ unlinked → Ends (link_at ts) x no_links n no_links
owner_ends ts {x} q u =
    subst (λ (k : ℕ). Ends (link_at ts) x no_links k no_links) q (record { path = stop; last = ap (link_at ts) q ∙ u })

-- from what the links say to the walk and its verdict
pub waits_walk : {ts : List Thread} → Sane ts → {x n : ℕ} → live_at ts x ≡ true → Waits ts x n
    → (verdict ts (walk ts x) ≡ waits) × ((walk ts x).end ≡ n)
waits_walk {ts} s {x} {n} h (blocked {d = d} p b) =
    let e = walk_ends ts (links_live s) x h p in
    (at_blocked ts x n d e b, ap (λ (c : Chain). c.end) e)
waits_walk {ts} s {x} {n} h (idle q i) =
    let e : walk ts x ≡ ended n no_links = walk_ends ts (links_live s) x h (owner_ends ts q (ap link_of i)) in
    (at_idle_owner ts x n no_links e i refl, ap (λ (c : Chain). c.end) e)

pub stalls_walk : (ts : List Thread) (x : ℕ) → Stalls ts x → verdict ts (walk ts x) ≡ stalls
stalls_walk ts x never = at_loop ts x (walk ts x).helping (walk_loops ts x never)

pub runs_walk : {ts : List Thread} → Sane ts → {x n count : ℕ} → live_at ts x ≡ true → (r : RunsAt ts x n count)
    → (walk ts x ≡ ended n r.chain) × (verdict ts (walk ts x) ≡ runs)
runs_walk {ts} s {x} {n} h r =
    let e = walk_ends ts (links_live s) x h r.ends in
    (e, at_ready ts x n r.chain e r.ready)
