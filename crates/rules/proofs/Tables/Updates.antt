-- What each change of document 01's events does to the table of threads: it stays sane, the live threads stay, and the link of one
-- thread changes.
use Prim.Native.Nat.{ℕ, suc, ◌<◌}
use mathlib.Core.Path.{◌≡◌, refl, sym, ap, ◌∙◌, subst}
use mathlib.Core.List.{List}
use mathlib.Core.Option.{Option, none}
use mathlib.Core.Bool.{Bool, true, false, not, ◌&&◌}
use native.Mathlib.Omega.{arith}
use lib.Dec.{eqb}
use borrow.Author.Tests.{ne_eqb}
use Rattle.rules.specs.declared.Role.{Role}
use Rattle.rules.specs.declared.Role.TheVariants.{Client, Server}
use Rattle.rules.specs.declared.Hold.{Hold}
use Rattle.rules.specs.declared.Hold.TheVariants.{Ready, Idle, Blocked, Calling, Helping}
use Rattle.rules.specs.declared.Service.{Service}
use Rattle.rules.specs.declared.Service.TheVariants.{Nobody, Serving, Orphan}
use Rattle.rules.specs.declared.Thread.{Thread}
use Rattle.rules.specs.Tests.{implies, agree}
use Rattle.rules.specs.State.{limit, free_thread, thread_at, hold_at, service_at, live_at, live_thread_count}
use Rattle.rules.specs.Threads.{set_hold, starts_as, created, donate, replied, aborted}
use Rattle.rules.specs.Walk.{unlinked, link_of}
use Rattle.rules.specs.Sound.{is_ready, is_idle, is_nobody, server_at, link_to, link_good, idle_good}
use Rattle.rules.proofs.Basics.Views.{Two, yes_true, no_false, two, clash, Same, equal, different, same, and3}
use Rattle.rules.proofs.Links.Chains.{link_at}
use Rattle.rules.proofs.Links.Frames.{Differ}
use Rattle.rules.proofs.Soundness.Shapes.{Sane, free_service}
use Rattle.rules.proofs.Soundness.Standings.{Target, call_target}
use Rattle.rules.proofs.Tables.Partners.{donee, patron, Matched, matched, matched_served, matched_calling}
use Rattle.rules.proofs.Tables.Partners.{same_partners, Bond, apart, bound, turned_partners}
use Rattle.rules.proofs.Tables.Writes.{role_at, starting, within, Relabels, Written, Made}
use Rattle.rules.proofs.Tables.Writes.{hold_written, donate_written, reply_written, reply_orphan_written, abort_written}
use Rattle.rules.proofs.Tables.Writes.{created_made}

-- "Idle holds exactly for servers with service none; clients serve nobody", over the three tests
abbrev fit : Bool → Bool → Bool → Bool
fit idle server nobody = agree idle (server && nobody) && implies (not server) nobody

-- who is Idle is a server and serves nobody
idle_fit : (server nobody : Bool) → fit true server nobody ≡ true → (server ≡ true) × (nobody ≡ true)
idle_fit true true e = (refl, refl)
idle_fit true false e = clash false e refl
idle_fit false nobody e = clash false e refl

-- who serves somebody, or is an orphan, is a server
serving_fit : (idle server : Bool) → fit idle server false ≡ true → server ≡ true
serving_fit idle true e = refl
serving_fit true false e = clash false e refl
serving_fit false false e = clash false e refl

-- a slot that is not free is live
unfree_live : {ts : List Thread} → Sane ts → (n : ℕ) → (thread_at ts n ≡ free_thread → ⊥) → live_at ts n ≡ true
unfree_live {ts} x n unfree = by (two (live_at ts n))
  where
    by : Two (live_at ts n) → live_at ts n ≡ true
    by (yes_true e) = e
    by (no_false e) = absurd (unfree (x.free n e))

-- what is not Ready with no link is live; so is every thread with a link
pub held_live : (ts : List Thread) (n : ℕ) → Sane ts → (hold_at ts n ≡ Ready → ⊥) → live_at ts n ≡ true
held_live ts n x unready = unfree_live x n (λ e. unready (ap (λ (t : Thread). t.hold) e))

unready_live : {ts : List Thread} → Sane ts → (n : ℕ) → is_ready (hold_at ts n) ≡ false → live_at ts n ≡ true
unready_live {ts} x n e = held_live ts n x (λ r. clash (is_ready (hold_at ts n)) (ap is_ready r) e)

serving_live : {ts : List Thread} → Sane ts → (n : ℕ) → is_nobody (service_at ts n) ≡ false → live_at ts n ≡ true
serving_live {ts} x n e =
    unfree_live x n (λ r. clash (is_nobody (service_at ts n)) (ap (λ (t : Thread). is_nobody t.service) r) e)

-- a Ready server serves somebody, or an orphan
pub ready_serves : (ts : List Thread) (n : ℕ) → Sane ts → hold_at ts n ≡ Ready → server_at ts n ≡ true → service_at ts n ≡ Nobody → ⊥
ready_serves ts n x ready server nobody = clash false (rw (ready, server, nobody) at (x.idle n)) refl

-- an Idle thread is a server, and serves nobody
idle_server : {ts : List Thread} → Sane ts → (n : ℕ) → hold_at ts n ≡ Idle → (server_at ts n ≡ true) × (service_at ts n ≡ Nobody)
idle_server {ts} x n idle =
    let f = idle_fit (server_at ts n) (is_nobody (service_at ts n)) (rw idle at (x.idle n)) in
    (f.0, free_service (service_at ts n) f.1)

-- and a target for everybody not Idle
idle_target : {ts : List Thread} (n s : ℕ) → Sane ts → is_idle (hold_at ts n) ≡ false → hold_at ts s ≡ Idle → Target ts n s
idle_target {ts} n s x busy idle =
    record {
      live = unready_live x s (ap is_ready idle);
      server = (idle_server x s idle).0;
      other = λ e. clash (is_idle (hold_at ts n)) (ap is_idle (ap (hold_at ts) (sym e) ∙ idle)) busy;
    }

-- an Idle server serves nobody, so nobody is Calling it
pub idle_uncalled : (ts : List Thread) (n s : ℕ) → Sane ts → hold_at ts s ≡ Idle → hold_at ts n ≡ Calling s → ⊥
idle_uncalled ts n s x idle calls =
    let z : ◌≡◌ {A = ℕ} 0 1 = cc (x.served n s calls, (idle_server x s idle).1) in absurd (omega arith)

-- a table after a change of holds and services, where only the link of thread r differs
pub record Update (ts ts' : List Thread) (r : ℕ) : Type 0 where
  pub sane : Sane ts'
  pub live : (m : ℕ) → live_at ts' m ≡ live_at ts m
  pub count : live_thread_count ts' ≡ live_thread_count ts
  pub links : Differ (link_at ts) (link_at ts') r

-- a hold that no service speaks of: neither Idle nor Calling
pub record Free (h : Hold) : Type 0 where
  pub busy : is_idle h ≡ false
  pub uncalled : (s : ℕ) → h ≡ Calling s → ⊥

-- the holds of block, wake and helping
pub ready_free : Free Ready
ready_free = record { busy = refl; uncalled = λ s e. clash true refl (ap is_ready e) }

pub blocked_free : Free Blocked
blocked_free = record { busy = refl; uncalled = λ s e. let z : ◌≡◌ {A = ℕ} 0 1 = cc in absurd (omega arith) }

pub helping_free : (s : ℕ) → Free (Helping s)
helping_free s = record { busy = refl; uncalled = λ t e. let z : ◌≡◌ {A = ℕ} 0 1 = cc in absurd (omega arith) }

-- a link to a target is good
target_good : {ts : List Thread} {n s : ℕ} → Target ts n s → link_to ts n s ≡ true
target_good {ts} {n} {s} t = simp (t.live, t.server, ne_eqb s n t.other)

free_good : {ts : List Thread} (n : ℕ) (h : Hold) → Free h → ((s : ℕ) → h ≡ Helping s → Target ts n s) → link_good ts n h ≡ true
free_good n Ready f to = refl
free_good n Idle f to = refl
free_good n Blocked f to = refl
free_good n (Calling s) f to = absurd (f.uncalled s refl)
free_good n (Helping s) f to = target_good (to s refl)

-- a link is as good in a table where the live threads are live with the same roles
pub record Stays (ts ts' : List Thread) (s : ℕ) : Type 0 where
  pub live : live_at ts' s ≡ true
  pub role : role_at ts' s ≡ role_at ts s

pub target_stays : {ts ts' : List Thread} (n s : ℕ) → (live_at ts s ≡ true → Stays ts ts' s) → link_to ts n s ≡ true → link_to ts' n s ≡ true
target_stays {ts} n s stay e =
    let z = and3 (live_at ts s) (server_at ts s) (not (eqb s n)) e in
    let y = stay z.0 in
    simp (y.live, y.role, z.1, z.2)

link_stays : {ts ts' : List Thread} → ((s : ℕ) → live_at ts s ≡ true → Stays ts ts' s) → (n : ℕ) (h : Hold)
    → link_good ts n h ≡ true → link_good ts' n h ≡ true
link_stays stay n Ready e = refl
link_stays stay n Idle e = refl
link_stays stay n Blocked e = refl
link_stays stay n (Calling s) e = target_stays n s (stay s) e
link_stays stay n (Helping s) e = target_stays n s (stay s) e

-- whoever has a free hold calls nobody
free_calls : (h : Hold) → Free h → donee (link_of h) ≡ none
free_calls Ready f = refl
free_calls Idle f = refl
free_calls Blocked f = refl
free_calls (Calling s) f = absurd (f.uncalled s refl)
free_calls (Helping s) f = refl

-- a hold and a service that a thread of the table may have
record Fits (ts : List Thread) (m : ℕ) (h : Hold) (v : Service) : Type 0 where
  linked : link_good ts m h ≡ true
  idle : fit (is_idle h) (server_at ts m) (is_nobody v) ≡ true
  free : live_at ts m ≡ false → (h ≡ Ready) × (v ≡ Nobody)

fits_before : {ts : List Thread} → Sane ts → (m : ℕ) → Fits ts m (hold_at ts m) (service_at ts m)
fits_before {ts} x m =
    record {
      linked = x.linked m;
      idle = x.idle m;
      free = λ e. (ap (λ (t : Thread). t.hold) (x.free m e), ap (λ (t : Thread). t.service) (x.free m e));
    }

live_fits : {ts : List Thread} {m : ℕ} (h : Hold) (v : Service) → live_at ts m ≡ true → link_good ts m h ≡ true
    → fit (is_idle h) (server_at ts m) (is_nobody v) ≡ true → Fits ts m h v
live_fits {ts} {m} h v live linked idle = record { linked = linked; idle = idle; free = λ e. clash (live_at ts m) live e }

-- a thread that was not Idle may have any hold but Idle, with a good link
busy_fits : {ts : List Thread} → Sane ts → (m : ℕ) (h : Hold) → live_at ts m ≡ true → is_idle (hold_at ts m) ≡ false
    → is_idle h ≡ false → link_good ts m h ≡ true → Fits ts m h (service_at ts m)
busy_fits {ts} x m h live old new linked = live_fits h (service_at ts m) live linked (rw new (rw old at (x.idle m)))

-- a table whose threads all fit, and are matched, is sane
sane_after : {ts ts' : List Thread} → Sane ts → Relabels ts ts' → ((m : ℕ) → Fits ts m (hold_at ts' m) (service_at ts' m))
    → Matched ts' → Sane ts'
sane_after {ts} {ts'} x kept fits partners =
    record {
      full = kept.size ∙ x.full;
      served = matched_served ts' partners;
      calling = matched_calling ts' partners;
      linked = λ n. link_stays (λ s e. record { live = kept.live s ∙ e; role = kept.role s }) n (hold_at ts' n) (fits n).linked;
      idle = λ n. rw (kept.role n) (fits n).idle;
      free = free;
    }
  where
    free : (n : ℕ) → live_at ts' n ≡ false → thread_at ts' n ≡ free_thread
    free n e =
        let dead : live_at ts n ≡ false = sym (kept.live n) ∙ e in
        let role : role_at ts' n ≡ Client = kept.role n ∙ ap (λ (t : Thread). t.role) (x.free n dead) in
        λ i. record { live = e i; role = role i; hold = ((fits n).free dead).0 i; service = ((fits n).free dead).1 i }

-- nobody's partner changes; or a and b, each other's partners or without one before, are so after
data Calls (a b : ℕ) (x y x' y' : Option ℕ) : Type 0 where
  stay : x' ≡ x → y' ≡ y → Calls a b x y x' y'
  turn : Bond a b x y → Bond a b x' y' → Calls a b x y x' y'

-- what a change of threads a and b asks, for soundness: both fit, the link of b stays, and the calls stay matched
record Change (ts : List Thread) (a b : ℕ) (h k : Hold) (v : Service) : Type 0 where
  fits_a : (a ≡ b → ⊥) → Fits ts a h (service_at ts a)
  fits_b : Fits ts b k v
  link_b : (b ≡ a → ⊥) → link_at ts b ≡ link_of k
  calls : Calls a b (donee (link_at ts a)) (patron (service_at ts b)) (donee (link_of h)) (patron v)

module _
    {ts ts' : List Thread} {a b : ℕ} {h k : Hold} {v : Service}
    (x : Sane ts) (w : Written ts ts' a b h k v) (c : Change ts a b h k v)
  where
    fits_after : (m : ℕ) → Fits ts m (hold_at ts' m) (service_at ts' m)
    fits_after m = by (same m a) (same m b)
      where
        by : Same m a → Same m b → Fits ts m (hold_at ts' m) (service_at ts' m)
        by _ (equal e _) = rw (e, w.hold_b, w.service_b) c.fits_b
        by (equal e _) (different q _) = rw (w.services m q, e, w.hold_a) (c.fits_a (λ z. q (e ∙ z)))
        by (different p _) (different q _) = rw (w.holds m p q, w.services m q) (fits_before x m)

    links_after : Differ (link_at ts) (link_at ts') a
    links_after = record { elsewhere = λ m p. by m p (same m b) }
      where
        by : (m : ℕ) → (m ≡ a → ⊥) → Same m b → link_at ts m ≡ link_at ts' m
        by m p (equal e _) = rw (e, w.hold_b) (c.link_b (λ z. p (e ∙ z)))
        by m p (different q _) = ap link_of (sym (w.holds m p q))

    matched_after : Matched ts'
    matched_after = by c.calls
      where
        donee_else : (m : ℕ) → (m ≡ a → ⊥) → donee (link_at ts' m) ≡ donee (link_at ts m)
        donee_else m p = ap donee (sym (links_after.elsewhere m p))

        patron_else : (m : ℕ) → (m ≡ b → ⊥) → patron (service_at ts' m) ≡ patron (service_at ts m)
        patron_else m q = ap patron (w.services m q)

        donee_same : donee (link_of h) ≡ donee (link_at ts a) → (m : ℕ) → Same m a → donee (link_at ts' m) ≡ donee (link_at ts m)
        donee_same f m (equal e _) = rw (e, w.hold_a) f
        donee_same f m (different p _) = donee_else m p

        patron_same : patron v ≡ patron (service_at ts b) → (m : ℕ) → Same m b → patron (service_at ts' m) ≡ patron (service_at ts m)
        patron_same g m (equal e _) = rw (e, w.service_b) g
        patron_same g m (different q _) = patron_else m q

        by : Calls a b (donee (link_at ts a)) (patron (service_at ts b)) (donee (link_of h)) (patron v) → Matched ts'
        by (stay f g) = same_partners (λ m. donee_same f m (same m a)) (λ m. patron_same g m (same m b)) (matched x)
        by (turn old new) = turned_partners a b donee_else patron_else old (rw (w.hold_a, w.service_b) new) (matched x)

    update_of : Update ts ts' a
    update_of =
        record {
          sane = sane_after x w.kept fits_after matched_after;
          live = w.kept.live;
          count = w.kept.count;
          links = links_after;
        }

-- one hold changes: block, wake, helping, and the abort of a helper
pub record HoldUpdate (ts ts' : List Thread) (n : ℕ) (h : Hold) : Type 0 where
  pub update : Update ts ts' n
  pub now : hold_at ts' n ≡ h
  pub others : (m : ℕ) → (m ≡ n → ⊥) → hold_at ts' m ≡ hold_at ts m

alone : {ts ts' : List Thread} {n : ℕ} {h : Hold} {v : Service} → Sane ts → Written ts ts' n n h h v → Change ts n n h h v
    → HoldUpdate ts ts' n h
alone x w c = record { update = update_of x w c; now = w.hold_a; others = λ m o. w.holds m o o }

pub hold_update : (ts : List Thread) (n : ℕ) (h : Hold) → Sane ts → live_at ts n ≡ true → Free (hold_at ts n) → Free h
    → ((s : ℕ) → h ≡ Helping s → Target ts n s) → HoldUpdate ts (set_hold n h ts) n h
hold_update ts n h x live old new to =
    let fits = busy_fits x n h live old.busy new.busy (free_good n h new to) in
    alone x (hold_written ts n h (within ts n live))
    (record {
      fits_a = λ _. fits;
      fits_b = fits;
      link_b = λ o. absurd (o refl);
      calls = stay (free_calls h new ∙ sym (free_calls (hold_at ts n) old)) refl;
    })

-- two threads change: the caller, whose link changes, and its server
pub record PairUpdate (ts ts' : List Thread) (caller server : ℕ) (a b : Hold) : Type 0 where
  pub update : Update ts ts' caller
  pub at_caller : hold_at ts' caller ≡ a
  pub at_server : hold_at ts' server ≡ b
  pub others : (m : ℕ) → (m ≡ caller → ⊥) → (m ≡ server → ⊥) → hold_at ts' m ≡ hold_at ts m

pair : {ts ts' : List Thread} {caller server : ℕ} {a b : Hold} {v : Service} → Sane ts → Written ts ts' caller server a b v
    → Change ts caller server a b v → PairUpdate ts ts' caller server a b
pair x w c = record { update = update_of x w c; at_caller = w.hold_a; at_server = w.hold_b; others = w.holds }

-- a donation, and the retry of a helper
pub donate_update : (ts : List Thread) (caller server : ℕ) → Sane ts → live_at ts caller ≡ true → Free (hold_at ts caller)
    → hold_at ts server ≡ Idle
    → PairUpdate ts (donate caller server ts) caller server (Calling server) Ready
donate_update ts caller server x live old idle =
    let to = idle_target caller server x old.busy idle in
    let serves = idle_server x server idle in
    pair x (donate_written ts caller server (within ts caller live) (within ts server to.live) to.other)
    (record {
      fits_a = λ _. busy_fits x caller (Calling server) live old.busy refl (target_good to);
      fits_b = live_fits Ready (Serving caller) to.live refl (rw to.server);
      link_b = λ _. ap link_of idle;
      calls = turn (apart (free_calls (hold_at ts caller) old) (ap patron serves.1)) (bound refl refl);
    })

-- a reply to the caller served
pub reply_update : (ts : List Thread) (caller server : ℕ) → Sane ts → hold_at ts server ≡ Ready → service_at ts server ≡ Serving caller
    → PairUpdate ts (replied server ts) caller server Ready Idle
reply_update ts caller server x ready serves =
    let calls = x.calling caller server serves in
    let to = call_target x caller server calls in
    let live = unready_live x caller (ap is_ready calls) in
    pair x (reply_written ts caller server (within ts caller live) (within ts server to.live) to.other serves)
    (record {
      fits_a = λ _. busy_fits x caller Ready live (ap is_idle calls) refl refl;
      fits_b = live_fits Idle Nobody to.live refl (rw to.server);
      link_b = λ _. ap link_of ready;
      calls = turn (bound (ap (λ h. donee (link_of h)) calls) (ap patron serves)) (apart refl refl);
    })

-- a reply to nobody: the server alone changes
pub orphan_update : (ts : List Thread) (server : ℕ) → Sane ts → hold_at ts server ≡ Ready → service_at ts server ≡ Orphan
    → HoldUpdate ts (replied server ts) server Idle
orphan_update ts server x ready serves =
    let live = serving_live x server (ap is_nobody serves) in
    let is-server = serving_fit (is_idle (hold_at ts server)) (server_at ts server) (rw serves at (x.idle server)) in
    alone x (reply_orphan_written ts server (within ts server live) serves)
    (record {
      fits_a = λ o. absurd (o refl);
      fits_b = live_fits Idle Nobody live refl (rw is-server);
      link_b = λ _. ap link_of ready;
      calls = stay (sym (ap (λ h. donee (link_of h)) ready)) (sym (ap patron serves));
    })

-- the abort of a caller: its server is left an orphan, with the hold that it had
pub abort_update : (ts : List Thread) (caller server : ℕ) → Sane ts → hold_at ts caller ≡ Calling server
    → HoldUpdate ts (aborted caller ts) caller Ready
abort_update ts caller server x calls =
    let to = call_target x caller server calls in
    let live = unready_live x caller (ap is_ready calls) in
    let serves = x.served caller server calls in
    let w = abort_written ts caller server (within ts caller live) (within ts server to.live) to.other calls in
    let c : Change ts caller server Ready (hold_at ts server) Orphan =
    record {
      fits_a = λ _. busy_fits x caller Ready live (ap is_idle calls) refl refl;
      fits_b = live_fits (hold_at ts server) Orphan to.live (x.linked server) (rw serves at (x.idle server));
      link_b = λ _. refl;
      calls = turn (bound (ap (λ h. donee (link_of h)) calls) (ap patron serves)) (apart refl refl);
    } in
    record { update = update_of x w c; now = w.hold_a; others = λ m o. by w m o (same m server) }
  where
    by : Written ts (aborted caller ts) caller server Ready (hold_at ts server) Orphan
        → (m : ℕ) → (m ≡ caller → ⊥) → Same m server → hold_at (aborted caller ts) m ≡ hold_at ts m
    by w m o (equal e _) = rw e w.hold_b
    by w m o (different p _) = w.holds m o p

-- the abort of a helper
pub abort_help_update : (ts : List Thread) (n server : ℕ) → Sane ts → hold_at ts n ≡ Helping server → HoldUpdate ts (aborted n ts) n Ready
unfolding aborted
abort_help_update ts n server x helps =
    let old : Free (hold_at ts n) = rw helps (helping_free server) in
    let live = unready_live x n (ap is_ready helps) in
    rw helps (hold_update ts n Ready x live old ready_free (λ s e. clash true refl (ap is_ready e)))

-- a thread is created: one live thread more, and no link differs
pub record CreateUpdate (ts ts' : List Thread) (n : ℕ) : Type 0 where
  pub sane : Sane ts'
  pub live : live_at ts' n ≡ true
  pub live_others : (m : ℕ) → (m ≡ n → ⊥) → live_at ts' m ≡ live_at ts m
  pub count : live_thread_count ts' ≡ suc (live_thread_count ts)
  pub links : (m : ℕ) → link_at ts' m ≡ link_at ts m
  pub others : (m : ℕ) → (m ≡ n → ⊥) → hold_at ts' m ≡ hold_at ts m

-- a thread starts without a link, and fits
starts_unlinked : (r : Role) → link_of (starts_as r) ≡ unlinked
starts_unlinked Client = refl
starts_unlinked Server = refl

starts_good : (ts : List Thread) (n : ℕ) (r : Role) → link_good ts n (starts_as r) ≡ true
starts_good ts n Client = refl
starts_good ts n Server = refl

starts_fit : (r : Role) → idle_good (starting r) ≡ true
starts_fit Client = refl
starts_fit Server = refl

-- what holds of the new thread, and of all before, holds of all after
made_every : {ts ts' : List Thread} {n : ℕ} {r : Role} → Made ts ts' n r → (P : ℕ → Thread → Type 0) → P n (starting r)
    → ((m : ℕ) → P m (thread_at ts m)) → (m : ℕ) → P m (thread_at ts' m)
made_every {ts} {ts'} {n} w P new old m = by (same m n)
  where
    by : Same m n → P m (thread_at ts' m)
    by (equal e _) = subst (λ (k : ℕ). P k (thread_at ts' k)) (sym e) (subst (P n) (sym w.here) new)
    by (different o _) = subst (P m) (sym (w.there m o)) (old m)

-- the slot was free: what the new thread has of a free one stays everywhere
made_keeps : {B : Type 0} {ts ts' : List Thread} {n : ℕ} {r : Role} → Made ts ts' n r → thread_at ts n ≡ free_thread
    → (f : Thread → B) → f (starting r) ≡ f free_thread → (m : ℕ) → f (thread_at ts' m) ≡ f (thread_at ts m)
made_keeps {ts = ts} w before f e = made_every w (λ m t. f t ≡ f (thread_at ts m)) (e ∙ sym (ap f before)) (λ m. refl)

-- no link led to the slot, and all others stand as before
created_update : {ts ts' : List Thread} {n : ℕ} {r : Role} → Sane ts → Made ts ts' n r → live_at ts n ≡ false
    → CreateUpdate ts ts' n
created_update {ts} {ts'} {n} {r} x w free =
    record {
      sane =
          record {
            full = w.size ∙ x.full;
            served = matched_served ts' partners;
            calling = matched_calling ts' partners;
            linked = made_every w (λ m t. link_good ts' m t.hold ≡ true) (starts_good ts' n r) linked;
            idle = made_every w (λ m t. idle_good t ≡ true) (starts_fit r) x.idle;
            free = made_every w (λ m t. t.live ≡ false → t ≡ free_thread) (λ f. clash true refl f) x.free;
          };
      live = ap (λ (t : Thread). t.live) w.here;
      live_others = λ m o. ap (λ (t : Thread). t.live) (w.there m o);
      count = w.count;
      links = links;
      others = λ m o. ap (λ (t : Thread). t.hold) (w.there m o);
    }
  where
    links : (m : ℕ) → link_at ts' m ≡ link_at ts m
    links = made_keeps w (x.free n free) (λ t. link_of t.hold) (starts_unlinked r)

    partners : Matched ts'
    partners =
        same_partners (λ m. ap donee (links m)) (made_keeps w (x.free n free) (λ t. patron t.service) refl) (matched x)

    stays : (s : ℕ) → live_at ts s ≡ true → Stays ts ts' s
    stays s live =
        let t = w.there s (λ e. clash (live_at ts s) live (rw e free)) in
        record { live = ap (λ (t : Thread). t.live) t ∙ live; role = ap (λ (t : Thread). t.role) t }

    linked : (m : ℕ) → link_good ts' m (hold_at ts m) ≡ true
    linked m = link_stays stays m (hold_at ts m) (x.linked m)

pub create_update : (ts : List Thread) (n : ℕ) (r : Role) → Sane ts → n < limit → live_at ts n ≡ false → CreateUpdate ts (created n r ts) n
create_update ts n r x small free = created_update x (created_made ts n r (rw x.full small) free) free
