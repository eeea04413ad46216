-- A change of the threads, where the link of one thread r differs or all links into it are cut, leaves every timeslice well placed or
-- released. Everything that an event or a retry does to the threads is such a change; what it has to show is where r ended.
use Prim.Native.Nat.{ℕ}
use mathlib.Core.Path.{◌≡◌, refl, sym, ap, ◌∙◌}
use mathlib.Core.List.{List}
use mathlib.Core.Bool.{Bool, true, false}
use native.Mathlib.Omega.{arith}
use Rattle.rules.specs.declared.Hold.TheVariants.{Ready, Calling}
use Rattle.rules.specs.declared.Place.{Place}
use Rattle.rules.specs.declared.Place.TheVariants.{Queue, Behind, On, Stalled, Spent}
use Rattle.rules.specs.declared.Running.{Running}
use Rattle.rules.specs.declared.Thread.{Thread}
use Rattle.rules.specs.declared.Chain.{Chain}
use Rattle.rules.specs.Tests.{member}
use Rattle.rules.specs.declared.Slice.{Slice}
use Rattle.rules.specs.State.{State, forget, hold_at, live_at, place_at, owner_at, with_threads, with_running}
use Rattle.rules.specs.Walk.{unlinked, link_of, no_links}
use Rattle.rules.proofs.Order.Orders.{is_none}
use Rattle.rules.proofs.Links.Chains.{link_at, stop, Ends}
use Rattle.rules.proofs.Links.Frames.{Frame, differ_frame, one_end}
use Rattle.rules.proofs.Soundness.Shapes.{Sane, Turns, Shape}
use Rattle.rules.proofs.Soundness.Standings.{Waits, blocked, idle, Stalls}
use Rattle.rules.proofs.Tables.Updates.{Update}
use Rattle.rules.proofs.Soundness.Places.{owner, Good, Mid}
use Rattle.rules.proofs.Choosing.Releases.{Releasable, selected, kept, none_placed}
use Rattle.rules.proofs.Choosing.Releases.{Ready as OneReady}

-- the turn order does not care which threads are live, so long as owners are
pub turns_kept : {ts ts' : List Thread} {ss : List Slice} {order : List ℕ} → Turns ts ss order
    → ((t : ℕ) → member t order ≡ true → live_at ts' (owner_at ss t) ≡ true) → Turns ts' ss order
turns_kept x live =
    record {
      full = x.full;
      small = x.small;
      once = x.once;
      owner = live;
      owners = x.owners;
      range = x.range;
      free = x.free;
    }

-- a thread without a link ends at itself
pub ends_here : (ts : List Thread) (n : ℕ) {c : Chain} → link_at ts n ≡ unlinked → Ends (link_at ts) n c n c
ends_here ts n u = record { path = stop; last = u }

-- r does not end at m
abbrev pub Avoids : List Thread → ℕ → ℕ → Type 0
Avoids ts r m = (c d : Chain) → Ends (link_at ts) r c m d → ⊥

-- it does not, if it ends elsewhere
pub avoids : (ts : List Thread) {r k m : ℕ} {c d : Chain} → Ends (link_at ts) r c k d → (m ≡ k → ⊥) → Avoids ts r m
avoids ts p n = λ c' d' q. n (sym (one_end p q))

-- who waits at m still waits there
pub waits_kept : {ts ts' : List Thread} {r x m : ℕ} → Frame (link_at ts) (link_at ts') r → Waits ts x m → hold_at ts' m ≡ hold_at ts m
    → Avoids ts r m → Waits ts' x m
waits_kept l (blocked p b) h a = blocked (l.ends a p) (h ∙ b)
waits_kept l (idle e i) h a = idle e (h ∙ i)

-- the threads after a change at r: they are sane, the owners live, and the frame holds
pub record Reframed (s : State) (ts' : List Thread) (r : ℕ) : Type 0 where
  pub sane : Sane ts'
  pub owners : (t : ℕ) → member t s.order ≡ true → live_at ts' (owner s t) ≡ true
  pub frame : Frame (link_at s.threads) (link_at ts') r

pub reframed : {s : State} {ts' : List Thread} {r : ℕ} → Mid s → Update s.threads ts' r → Reframed s ts' r
reframed {s} x u =
    record {
      sane = u.sane;
      owners = λ t h. u.live (owner s t) ∙ x.shape.turns.owner t h;
      frame = differ_frame u.links;
    }

-- what happens to the timeslice of owner x that is On thread m: it is released, or waits there still
pub data OnKept (at : Place → Bool) (ts' : List Thread) (x m : ℕ) : Type 0 where
  freed : at (On m) ≡ true → OnKept at ts' x m
  stay : Waits ts' x m → OnKept at ts' x m

pub stay_there : {at : Place → Bool} {s : State} {ts' : List Thread} {r x m : ℕ} → Reframed s ts' r → Waits s.threads x m
    → hold_at ts' m ≡ hold_at s.threads m → Avoids s.threads r m → OnKept at ts' x m
stay_there u w h a = stay (waits_kept u.frame w h a)

-- and to the Stalled: they are released, or r ends somewhere
pub data StalledKept (at : Place → Bool) (ts : List Thread) (r : ℕ) : Type 0 where
  freed : at Stalled ≡ true → StalledKept at ts r
  stay : {k : ℕ} {c d : Chain} → Ends (link_at ts) r c k d → StalledKept at ts r

-- what a change of the threads has to show
pub record Change (at : Place → Bool) (s : State) (ts' : List Thread) (r : ℕ) : Type 0 where
  pub mid : Mid s
  pub threads : Reframed s ts' r
  pub queue : at Queue ≡ false
  pub spared : at Spent ≡ false
  pub on : (x m : ℕ) → live_at ts' x ≡ true → Waits s.threads x m → OnKept at ts' x m
  pub loops : StalledKept at s.threads r

module _ {at : Place → Bool} {s : State} {ts' : List Thread} {r : ℕ} (c : Change at s ts' r) where
  shape : Shape (forget (with_threads ts' s))
  shape =
      record {
        sane = c.threads.sane;
        turns = turns_kept c.mid.shape.turns c.threads.owners;
      }

  on_ready : (t m : ℕ) → place_at s.places t ≡ On m → OnKept at ts' (owner s t) m → OneReady at (with_threads ts' s) t
  on_ready t m e (freed k) = selected (rw e k)
  on_ready t m e (stay w) = kept (rw e w)

  stalled_ready : (t : ℕ) → place_at s.places t ≡ Stalled → Stalls s.threads (owner s t) → StalledKept at s.threads r
      → OneReady at (with_threads ts' s) t
  stalled_ready t e w (freed k) = selected (rw e k)
  stalled_ready t e w (stay p) = kept (rw e (c.threads.frame.loops p w))

  ready : (t : ℕ) → member t s.order ≡ true → (p : Place) → place_at s.places t ≡ p → Good s t p → OneReady at (with_threads ts' s) t
  ready t h Queue e g = kept (rw e tt)
  ready t h (Behind q) e g = kept (rw e (record { listed = g.listed; queued = g.queued; above = g.above }))
  ready t h (On m) e g = on_ready t m e (c.on (owner s t) m (c.threads.owners t h) g)
  ready t h Stalled e g = stalled_ready t e g c.loops
  ready t h Spent e g = kept (rw e tt)

  pub change_releasable : Releasable at (with_threads ts' s)
  change_releasable =
      record {
        shape = shape;
        full = c.mid.placed.full;
        queue = c.queue;
        spared = c.spared;
        spent = c.mid.placed.spent;
        each = λ t h. ready t h (place_at s.places t) refl (c.mid.placed.good t h);
        free = c.mid.placed.free;
      }

-- no release
abbrev pub nowhere : Place → Bool
nowhere p = false

-- where nobody has to be released, the machine is midway as it stands
pub change_mid : {s : State} {ts' : List Thread} {r : ℕ} → Change nowhere s ts' r → Mid (with_threads ts' s)
change_mid {s} {ts'} c =
    let x = change_releasable c in
    record {
      shape = x.shape;
      placed = none_placed nowhere (with_threads ts' s) x
          (is_none s.slices (λ t. false) s.order (λ u h. refl));
    }

-- what runs does not matter midway
good_running : (s : State) (n : Running) (t : ℕ) (p : Place) → Good s t p → Good (with_running n s) t p
good_running s n t Queue g = tt
good_running s n t (Behind q) g = record { listed = g.listed; queued = g.queued; above = g.above }
good_running s n t (On m) g = g
good_running s n t Stalled g = g
good_running s n t Spent g = tt

pub mid_running : {s : State} (n : Running) → Mid s → Mid (with_running n s)
mid_running {s} n x =
    record {
      shape = record { sane = x.shape.sane; turns = x.shape.turns };
      placed =
          record {
            full = x.placed.full;
            good = λ t h. good_running s n t (place_at s.places t) (x.placed.good t h);
            spent = x.placed.spent;
            free = x.placed.free;
          };
    }

pub releasable_running : {at : Place → Bool} {s : State} (n : Running) → Releasable at s → Releasable at (with_running n s)
releasable_running {at} {s} n x =
    record {
      shape = record { sane = x.shape.sane; turns = x.shape.turns };
      full = x.full;
      queue = x.queue;
      spared = x.spared;
      spent = x.spent;
      each = λ t h. by t (x.each t h);
      free = x.free;
    }
  where
    by : (t : ℕ) → OneReady at s t → OneReady at (with_running n s) t
    by t (selected k) = selected k
    by t (kept g) = kept (good_running s n t (place_at s.places t) g)

-- nobody waits at a Ready thread, nor at one with a link
pub not_ready : {ts : List Thread} {x m : ℕ} → Waits ts x m → (n : ℕ) → hold_at ts n ≡ Ready → m ≡ n → ⊥
not_ready {ts} (blocked p b) n h e = let z : ◌≡◌ {A = ℕ} 0 1 = cc (ap (hold_at ts) e) in omega arith
not_ready {ts} (idle p i) n h e = let z : ◌≡◌ {A = ℕ} 0 1 = cc (ap (hold_at ts) e) in omega arith

pub not_calling : {ts : List Thread} {x m : ℕ} → Waits ts x m → (n s : ℕ) → hold_at ts n ≡ Calling s → m ≡ n → ⊥
not_calling {ts} (blocked p b) n s h e = let z : ◌≡◌ {A = ℕ} 0 1 = cc (ap (hold_at ts) e) in omega arith
not_calling {ts} (idle p i) n s h e = let z : ◌≡◌ {A = ℕ} 0 1 = cc (ap (hold_at ts) e) in omega arith

-- a Ready thread changes its hold: nothing waited at it, and no loop passes it
pub ready_change : {s : State} {ts' : List Thread} {n : ℕ} → Mid s → Update s.threads ts' n → hold_at s.threads n ≡ Ready
    → ((m : ℕ) → (m ≡ n → ⊥) → hold_at ts' m ≡ hold_at s.threads m) → Change nowhere s ts' n
ready_change {s} {ts'} {n} x u h others =
    let here = ends_here s.threads n {c = no_links} (ap link_of h) in
    record {
      mid = x;
      threads = reframed x u;
      queue = refl;
      spared = refl;
      on = λ y m _ w. let o = not_ready w n h in stay_there (reframed x u) w (others m o) (avoids s.threads here o);
      loops = stay here;
    }
