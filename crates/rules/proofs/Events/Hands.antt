-- What every event hands to the choice, and what follows from it: the same for all kinds of event.
use Prim.Native.Nat.{ℕ, ◌≤◌, ◌+◌, ◌*◌}
use mathlib.Core.Path.{◌≡◌, refl, sym, ap, ◌∙◌, subst}
use mathlib.Core.List.{List}
use mathlib.Core.Bool.{Bool, true, false}
use mathlib.Core.Option.{some}
use native.Mathlib.Omega.{arith}
use native.Mathlib.Nat.{mul-le-mul_left, mul-le-mul_right}
use lib.ListN.{length}
use Rattle.rules.specs.declared.Running.TheVariants.{Runs}
use Rattle.rules.specs.declared.Thread.{Thread}
use Rattle.rules.specs.declared.Chain.{Chain}
use Rattle.rules.specs.Tests.{member}
use Rattle.rules.specs.State.{State, Plain, forget, live_at, live_thread_count}
use Rattle.rules.specs.Release.{in_queue, topmost_at}
use Rattle.rules.specs.Choice.{Outcome, choose}
use Rattle.rules.specs.Events.{Midway, settle, settle_if}
use Rattle.rules.specs.Plain.{judge}
use Rattle.rules.proofs.Links.Chains.{link_at, To, stop, call, help, LinksLive}
use Rattle.rules.proofs.Soundness.Standings.{RunsAt, links_live}
use Rattle.rules.proofs.Soundness.Places.{owner, owner_live, Mid, Settled, nothing, runs_on, Sound}
use Rattle.rules.proofs.Choosing.Tops.{queue_top}
use Rattle.rules.proofs.Choosing.Parking.{unparked_in, unparked_most}
use Rattle.rules.proofs.Choosing.Choices.{Chosen, chosen, judges_is, judged_sound}

-- L × (T + 2)
abbrev pub link_limit : Plain → ℕ
link_limit p = live_thread_count p.threads * (length p.order + 2)

-- an event on the machine s hands m to the choice, where the plain machine's update gives p
pub record Handed (s : State) (m : Midway) (p : Plain) : Type 0 where
  pub mid : Mid m.state
  pub plain : forget m.state ≡ p
  pub settled : m.chooses ≡ false → Settled m.state
  pub unwalked : m.chooses ≡ false → m.links ≡ 0
  pub links : m.chooses ≡ true → m.links + live_thread_count p.threads * (length p.order + 1) ≤ link_limit (forget s)

-- what an accepted event hands back
pub record Accepted (s : State) (o : Outcome) (p : Plain) : Type 0 where
  pub sound : Sound o.state
  pub plain : forget o.state ≡ judge p
  pub links : o.links ≤ link_limit (forget s)

pub accepts : (s : State) (m : Midway) (p : Plain) → Handed s m p → Accepted s (settle m) p
accepts s m p h = by m.chooses refl
  where
    chose : m.chooses ≡ true
        → Chosen (forget m.state) (unparked_in m.state) m.links (choose (record { state = m.state; links = m.links }))
        → Accepted s (choose (record { state = m.state; links = m.links })) p
    chose e c =
        let o = choose (record { state = m.state; links = m.links }) in
        let lives : live_thread_count m.state.threads ≡ live_thread_count p.threads = ap (λ (q : Plain). live_thread_count q.threads) h.plain in
        let turns : length m.state.order ≡ length p.order = ap (λ (q : Plain). length q.order) h.plain in
        let few : unparked_in m.state + 1 ≤ length p.order + 1 = omega (arith, unparked_most m.state, turns) in
        let most = mul-le-mul_left (live_thread_count p.threads) few in
        let b : o.links ≤ m.links + live_thread_count p.threads * (unparked_in m.state + 1) = rw lives at c.links in
        record {
          sound = c.sound;
          plain = sym (judges_is c.judged c.few) ∙ ap judge h.plain;
          links = omega (arith, b, most, h.links e);
        }

    by : (b : Bool) → m.chooses ≡ b → Accepted s (settle_if b (record { state = m.state; links = m.links })) p
    by true e = chose e (chosen (record { state = m.state; links = m.links }) h.mid)
    by false e =
        let x : Sound m.state = record { mid = h.mid; settled = h.settled e } in
        record {
          sound = x;
          plain = sym (judged_sound m.state x) ∙ ap judge h.plain;
          links = omega (arith, h.unwalked e);
        }

-- the links of a choice from no more threads and timeslices than before
pub fewer_limit : (s : State) (links : ℕ) (p : Plain) → links ≤ live_thread_count s.threads
    → live_thread_count p.threads ≤ live_thread_count s.threads → length p.order ≤ length s.order
    → links + live_thread_count p.threads * (length p.order + 1) ≤ link_limit (forget s)
fewer_limit s links p h lives turns =
    let longer : length p.order + 1 ≤ length s.order + 1 = omega arith in
    let a = mul-le-mul_left (live_thread_count p.threads) longer in
    let b = mul-le-mul_right (length s.order + 1) lives in
    omega (arith, a, b)

pub same_limit : (s : State) (links : ℕ) (p : Plain) → links ≤ live_thread_count s.threads
    → live_thread_count p.threads ≡ live_thread_count s.threads → length p.order ≡ length s.order
    → links + live_thread_count p.threads * (length p.order + 1) ≤ link_limit (forget s)
same_limit s links p h e f = fewer_limit s links p h (omega arith) (omega arith)

-- a chain from a live thread comes to live threads
pub comes_live : {ts : List Thread} → LinksLive ts → {n m : ℕ} {c d : Chain} → live_at ts n ≡ true → To (link_at ts) n c m d
    → live_at ts m ≡ true
comes_live l h stop = h
comes_live l h (call {n = n} {s = s} e p) = comes_live l (l.calls n s e) p
comes_live l h (help {n = n} {s = s} e p) = comes_live l (l.helps n s e) p

-- what a sound machine says of the running thread
pub record Active (s : State) (n t count : ℕ) : Type 0 where
  pub topmost : topmost_at in_queue s ≡ some t
  pub listed : member t s.order ≡ true
  pub runs : RunsAt s.threads (owner s t) n count
  pub live : live_at s.threads n ≡ true

pub active : (s : State) → Sound s → (n t count : ℕ) → s.running ≡ Runs n t count → Active s n t count
active s x n t count e = by x.settled
  where
    by : Settled s → Active s n t count
    by (nothing q f) = let z : ◌≡◌ {A = ℕ} 0 1 = cc in absurd (omega arith)
    by (runs_on u m k q f r) =
        let same-thread : m ≡ n = cc in
        let same-slice : u ≡ t = cc in
        let same_count : k ≡ count = cc in
        let found : topmost_at in_queue s ≡ some t = f ∙ ap some same-slice in
        let listed = (queue_top s t found).listed in
        let runs : RunsAt s.threads (owner s t) n count =
        subst (λ (w : ℕ). RunsAt s.threads (owner s w) n count) same-slice
        (subst (λ (w : ℕ). RunsAt s.threads (owner s u) w count) same-thread
        (subst (λ (w : ℕ). RunsAt s.threads (owner s u) m w) same_count r)) in
        record {
          topmost = found;
          listed = listed;
          runs = runs;
          live = comes_live (links_live x.mid.shape.sane) (owner_live s x.mid.shape t listed) runs.ends.path;
        }
