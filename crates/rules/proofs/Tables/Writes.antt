-- Reads after writes: what stands in the table of threads after a change of document 01's events.
use Prim.Native.Nat.{ℕ, zero, suc, ◌<◌}
use mathlib.Core.Path.{◌≡◌, refl, sym, ap, ◌∙◌}
use mathlib.Core.List.{List, [], ◌∷◌}
use mathlib.Core.Bool.{Bool, true, false}
use native.Mathlib.Omega.{arith}
use lib.ListN.{length, get_or, set, length-set, get_or-map}
use lib.Seq.{get_or-set_same, get_or-set_other, map-set_same}
use borrow.Author.Tests.{eqb-false}
use Rattle.rules.specs.declared.Role.{Role}
use Rattle.rules.specs.declared.Hold.{Hold}
use Rattle.rules.specs.declared.Hold.TheVariants.{Ready, Idle, Blocked, Calling, Helping}
use Rattle.rules.specs.declared.Service.{Service}
use Rattle.rules.specs.declared.Service.TheVariants.{Nobody, Serving, Orphan}
use Rattle.rules.specs.declared.Thread.{Thread}
use Rattle.rules.specs.State.{free_thread, thread_at, hold_at, service_at, live_at, live_thread_count, one_more_if}
use Rattle.rules.specs.Threads.{with_hold, with_service, set_hold, set_service, starts_as, created, donate, free_caller, replied}
use Rattle.rules.specs.Threads.{orphan_server, aborted}
use Rattle.rules.specs.Holds.{is_calling}
use Rattle.rules.proofs.Basics.Views.{clash}

abbrev pub role_at : List Thread → ℕ → Role
role_at ts n = (thread_at ts n).role

-- a thread as it is created
abbrev pub starting : Role → Thread
starting r = record { live = true; role = r; hold = starts_as r; service = Nobody }

-- past the table stands the free thread, which is not live
pub within : (ts : List Thread) (n : ℕ) → live_at ts n ≡ true → n < length ts
within [] n e = clash false e refl
within (t ∷ ts) zero e = omega arith
within (t ∷ ts) (suc n) e = omega (arith, within ts n e)

-- a field that a write keeps is kept at every number, also where the write falls past the table
set_keeps : {B : Type 0} (f : Thread → B) (ts : List Thread) (n m : ℕ) (t : Thread)
    → f t ≡ f (thread_at ts n) → f (thread_at (set ts n t) m) ≡ f (thread_at ts m)
set_keeps f ts n m t e =
    sym (get_or-map f (set ts n t) m free_thread)
    ∙ ap (λ l. get_or l m (f free_thread)) (map-set_same f ts n t free_thread e)
    ∙ get_or-map f ts m free_thread

-- the live threads are as many where the one written is as live as before, and one more where a free slot becomes live
pub set-keeps-count : (ts : List Thread) (n : ℕ) (t : Thread) → t.live ≡ live_at ts n → live_thread_count (set ts n t) ≡ live_thread_count ts
unfolding live_thread_count
set-keeps-count [] n t e = refl
set-keeps-count (x ∷ ts) zero t e = rw e
set-keeps-count (x ∷ ts) (suc n) t e = ap (one_more_if x.live) (set-keeps-count ts n t e)

pub one_more : (b : Bool) (n : ℕ) → one_more_if b (suc n) ≡ suc (one_more_if b n)
one_more true n = refl
one_more false n = refl

pub set-raises-count : (ts : List Thread) (n : ℕ) (t : Thread) → n < length ts → live_at ts n ≡ false → t.live ≡ true
    → live_thread_count (set ts n t) ≡ suc (live_thread_count ts)
unfolding live_thread_count
set-raises-count [] n t h free live = absurd (omega arith)
set-raises-count (x ∷ ts) zero t h free live = rw (free, live)
set-raises-count (x ∷ ts) (suc n) t h free live =
    ap (one_more_if x.live) (set-raises-count ts n t (omega arith) free live) ∙ one_more x.live (live_thread_count ts)

-- and one less where a live one is freed
pub set-lowers-count : (ts : List Thread) (n : ℕ) (t : Thread) → n < length ts → live_at ts n ≡ true → t.live ≡ false
    → suc (live_thread_count (set ts n t)) ≡ live_thread_count ts
unfolding live_thread_count
set-lowers-count [] n t h live free = absurd (omega arith)
set-lowers-count (x ∷ ts) zero t h live free = rw (free, live)
set-lowers-count (x ∷ ts) (suc n) t h live free =
    sym (one_more x.live (live_thread_count (set ts n t))) ∙ ap (one_more_if x.live) (set-lowers-count ts n t (omega arith) live free)

-- what every change of holds and services keeps
pub record Relabels (ts ts' : List Thread) : Type 0 where
  pub size : length ts' ≡ length ts
  pub live : (m : ℕ) → live_at ts' m ≡ live_at ts m
  pub role : (m : ℕ) → role_at ts' m ≡ role_at ts m
  pub count : live_thread_count ts' ≡ live_thread_count ts

pub then_relabels : {ts ts' ts'' : List Thread} → Relabels ts ts' → Relabels ts' ts'' → Relabels ts ts''
then_relabels x y =
    record {
      size = y.size ∙ x.size;
      live = λ m. y.live m ∙ x.live m;
      role = λ m. y.role m ∙ x.role m;
      count = y.count ∙ x.count;
    }

pub set-relabels : (ts : List Thread) (n : ℕ) (t : Thread) → t.live ≡ live_at ts n → t.role ≡ role_at ts n → Relabels ts (set ts n t)
set-relabels ts n t live role =
    record {
      size = length-set ts n t;
      live = λ m. set_keeps (λ t. t.live) ts n m t live;
      role = λ m. set_keeps (λ t. t.role) ts n m t role;
      count = set-keeps-count ts n t live;
    }

-- after set_hold
pub hold_relabels : (ts : List Thread) (n : ℕ) (h : Hold) → Relabels ts (set_hold n h ts)
unfolding set_hold
hold_relabels ts n h = set-relabels ts n (with_hold h (thread_at ts n)) refl refl

hold_here : (ts : List Thread) (n : ℕ) (h : Hold) → n < length ts → hold_at (set_hold n h ts) n ≡ h
unfolding set_hold
hold_here ts n h small = ap (λ (t : Thread). t.hold) (get_or-set_same ts n (with_hold h (thread_at ts n)) free_thread small)

pub hold_there : (ts : List Thread) (n m : ℕ) (h : Hold) → (m ≡ n → ⊥) → hold_at (set_hold n h ts) m ≡ hold_at ts m
unfolding set_hold
hold_there ts n m h o = ap (λ (t : Thread). t.hold) (get_or-set_other ts n m (with_hold h (thread_at ts n)) free_thread o)

hold_service : (ts : List Thread) (n m : ℕ) (h : Hold) → service_at (set_hold n h ts) m ≡ service_at ts m
unfolding set_hold
hold_service ts n m h = set_keeps (λ t. t.service) ts n m (with_hold h (thread_at ts n)) refl

-- after set_service
pub service_relabels : (ts : List Thread) (n : ℕ) (v : Service) → Relabels ts (set_service n v ts)
unfolding set_service
service_relabels ts n v = set-relabels ts n (with_service v (thread_at ts n)) refl refl

service_here : (ts : List Thread) (n : ℕ) (v : Service) → n < length ts → service_at (set_service n v ts) n ≡ v
unfolding set_service
service_here ts n v small = ap (λ (t : Thread). t.service) (get_or-set_same ts n (with_service v (thread_at ts n)) free_thread small)

service_there : (ts : List Thread) (n m : ℕ) (v : Service) → (m ≡ n → ⊥) → service_at (set_service n v ts) m ≡ service_at ts m
unfolding set_service
service_there ts n m v o = ap (λ (t : Thread). t.service) (get_or-set_other ts n m (with_service v (thread_at ts n)) free_thread o)

service_hold : (ts : List Thread) (n m : ℕ) (v : Service) → hold_at (set_service n v ts) m ≡ hold_at ts m
unfolding set_service
service_hold ts n m v = set_keeps (λ t. t.hold) ts n m (with_service v (thread_at ts n)) refl

-- after every change of document 01's events between two threads, whoever they are
pub donate_relabels : (ts : List Thread) (caller server : ℕ) → Relabels ts (donate caller server ts)
unfolding donate
donate_relabels ts caller server =
    then_relabels
    (then_relabels (hold_relabels ts caller (Calling server)) (hold_relabels _ server Ready))
    (service_relabels _ server (Serving caller))

same_relabels : (ts : List Thread) → Relabels ts ts
same_relabels ts = record { size = refl; live = λ m. refl; role = λ m. refl; count = refl }

pub freed_relabels : (ts : List Thread) (v : Service) → Relabels ts (free_caller v ts)
freed_relabels ts Nobody = same_relabels ts
freed_relabels ts (Serving caller) = hold_relabels ts caller Ready
freed_relabels ts Orphan = same_relabels ts

pub replied_relabels : (ts : List Thread) (server : ℕ) → Relabels ts (replied server ts)
unfolding replied
replied_relabels ts server =
    then_relabels
    (then_relabels (freed_relabels ts (service_at ts server)) (hold_relabels _ server Idle))
    (service_relabels _ server Nobody)

pub orphaned_relabels : (ts : List Thread) (h : Hold) → Relabels ts (orphan_server h ts)
orphaned_relabels ts Ready = same_relabels ts
orphaned_relabels ts Idle = same_relabels ts
orphaned_relabels ts Blocked = same_relabels ts
orphaned_relabels ts (Calling server) = service_relabels ts server _
orphaned_relabels ts (Helping server) = same_relabels ts

-- the server called is left an orphan, and nothing else changes
pub orphaned_hold : (ts : List Thread) (h : Hold) (m : ℕ) → hold_at (orphan_server h ts) m ≡ hold_at ts m
orphaned_hold ts Ready m = refl
orphaned_hold ts Idle m = refl
orphaned_hold ts Blocked m = refl
orphaned_hold ts (Calling server) m = service_hold ts server m _
orphaned_hold ts (Helping server) m = refl

pub orphaned_other : (ts : List Thread) (h : Hold) (m : ℕ) → is_calling m h ≡ false → service_at (orphan_server h ts) m ≡ service_at ts m
orphaned_other ts Ready m e = refl
orphaned_other ts Idle m e = refl
orphaned_other ts Blocked m e = refl
orphaned_other ts (Calling server) m e = service_there ts server m _ (λ z. eqb-false server m e (sym z))
orphaned_other ts (Helping server) m e = refl

pub orphaned_here : (ts : List Thread) (h : Hold) (m : ℕ) → m < length ts → h ≡ Calling m → service_at (orphan_server h ts) m ≡ Orphan
orphaned_here ts h m small e = rw e (service_here ts m Orphan small)

pub aborted_relabels : (ts : List Thread) (n : ℕ) → Relabels ts (aborted n ts)
unfolding aborted
aborted_relabels ts n = then_relabels (orphaned_relabels ts (hold_at ts n)) (hold_relabels _ n Ready)

-- the reads after a whole change: thread a has hold h, thread b hold k and service v, and the rest stands; one thread may be both
pub record Written (ts ts' : List Thread) (a b : ℕ) (h k : Hold) (v : Service) : Type 0 where
  pub kept : Relabels ts ts'
  pub hold_a : hold_at ts' a ≡ h
  pub hold_b : hold_at ts' b ≡ k
  pub service_b : service_at ts' b ≡ v
  pub holds : (m : ℕ) → (m ≡ a → ⊥) → (m ≡ b → ⊥) → hold_at ts' m ≡ hold_at ts m
  pub services : (m : ℕ) → (m ≡ b → ⊥) → service_at ts' m ≡ service_at ts m

-- the hold of one thread: block, wake, helping
pub hold_written : (ts : List Thread) (n : ℕ) (h : Hold) → n < length ts → Written ts (set_hold n h ts) n n h h (service_at ts n)
hold_written ts n h small =
    record {
      kept = hold_relabels ts n h;
      hold_a = hold_here ts n h small;
      hold_b = hold_here ts n h small;
      service_b = hold_service ts n n h;
      holds = λ m o _. hold_there ts n m h o;
      services = λ m _. hold_service ts n m h;
    }

-- hold and service of one thread
state_written : (ts : List Thread) (n : ℕ) (h : Hold) (v : Service) → n < length ts
    → Written ts (set_service n v (set_hold n h ts)) n n h h v
state_written ts n h v small =
    let x = hold_written ts n h small in
    let us = set_hold n h ts in
    record {
      kept = then_relabels x.kept (service_relabels us n v);
      hold_a = service_hold us n n v ∙ x.hold_a;
      hold_b = service_hold us n n v ∙ x.hold_b;
      service_b = service_here us n v (rw x.kept.size small);
      holds = λ m o p. service_hold us n m v ∙ x.holds m o p;
      services = λ m o. service_there us n m v o ∙ x.services m o;
    }

-- the hold of a caller, hold and service of its server
pair_written : (ts : List Thread) (a b : ℕ) (h k : Hold) (v : Service) → a < length ts → b < length ts → (a ≡ b → ⊥)
    → Written ts (set_service b v (set_hold b k (set_hold a h ts))) a b h k v
pair_written ts a b h k v small-a small_b other =
    let x = hold_written ts a h small-a in
    let us = set_hold a h ts in
    let y = state_written us b k v (rw x.kept.size small_b) in
    record {
      kept = then_relabels x.kept y.kept;
      hold_a = y.holds a other other ∙ x.hold_a;
      hold_b = y.hold_b;
      service_b = y.service_b;
      holds = λ m o p. y.holds m p p ∙ x.holds m o o;
      services = λ m o. y.services m o ∙ hold_service ts a m h;
    }

-- the service of a server, then the hold of its caller
orphan_written : (ts : List Thread) (a b : ℕ) (h : Hold) (v : Service) → a < length ts → b < length ts → (b ≡ a → ⊥)
    → Written ts (set_hold a h (set_service b v ts)) a b h (hold_at ts b) v
orphan_written ts a b h v small-a small_b other =
    let us = set_service b v ts in
    let x = service_relabels ts b v in
    let y = hold_written us a h (rw x.size small-a) in
    record {
      kept = then_relabels x y.kept;
      hold_a = y.hold_a;
      hold_b = y.holds b other other ∙ service_hold ts b b v;
      service_b = hold_service us a b h ∙ service_here ts b v small_b;
      holds = λ m o _. y.holds m o o ∙ service_hold ts b m v;
      services = λ m o. hold_service us a m h ∙ service_there ts b m v o;
    }

-- the changes of document 01's events, between two threads of the table
module _
    (ts : List Thread) (caller server : ℕ)
    (small-caller : caller < length ts) (small-server : server < length ts) (other : server ≡ caller → ⊥)
  where
    pub donate_written : Written ts (donate caller server ts) caller server (Calling server) Ready (Serving caller)
    unfolding donate
    donate_written =
        pair_written ts caller server (Calling server) Ready (Serving caller) small-caller small-server (λ e. other (sym e))

    pub reply_written : service_at ts server ≡ Serving caller → Written ts (replied server ts) caller server Ready Idle Nobody
    unfolding replied
    reply_written serves =
        rw serves (pair_written ts caller server Ready Idle Nobody small-caller small-server (λ e. other (sym e)))

    pub abort_written : hold_at ts caller ≡ Calling server
        → Written ts (aborted caller ts) caller server Ready (hold_at ts server) Orphan
    unfolding aborted
    abort_written calls = rw calls (orphan_written ts caller server Ready Orphan small-caller small-server other)

-- and of one
pub reply_orphan_written : (ts : List Thread) (server : ℕ) → server < length ts → service_at ts server ≡ Orphan
    → Written ts (replied server ts) server server Idle Idle Nobody
unfolding replied
reply_orphan_written ts server small serves = rw serves (state_written ts server Idle Nobody small)

-- the reads after a thread is created
pub record Made (ts ts' : List Thread) (n : ℕ) (r : Role) : Type 0 where
  pub size : length ts' ≡ length ts
  pub here : thread_at ts' n ≡ starting r
  pub there : (m : ℕ) → (m ≡ n → ⊥) → thread_at ts' m ≡ thread_at ts m
  pub count : live_thread_count ts' ≡ suc (live_thread_count ts)

pub created_made : (ts : List Thread) (n : ℕ) (r : Role) → n < length ts → live_at ts n ≡ false → Made ts (created n r ts) n r
unfolding created
created_made ts n r small free =
    record {
      size = length-set ts n (starting r);
      here = get_or-set_same ts n (starting r) free_thread small;
      there = λ m o. get_or-set_other ts n m (starting r) free_thread o;
      count = set-raises-count ts n (starting r) small free refl;
    }
