-- The links that two wakes follow in all. The second wake finds those On its thread, and their chains, as the first one found them; only
-- what runs may be another. So the sums are equal unless each of the two would take over alone: then the lower one follows its links only
-- if it is woken first.
use Prim.Native.Nat.{ℕ, ◌+◌}
use mathlib.Core.Path.{◌≡◌, refl, sym, ap, ◌∙◌}
use mathlib.Core.List.{[], ◌∷◌}
use mathlib.Core.Bool.{Bool, true, false, cond}
use mathlib.Core.Option.{Option, none, some}
use native.Mathlib.Omega.{arith}
use Rattle.rules.specs.declared.Hold.TheVariants.{Ready, Blocked}
use Rattle.rules.specs.declared.Running.{Running}
use Rattle.rules.specs.declared.Running.TheVariants.{Nothing, Runs}
use Rattle.rules.specs.declared.Event.TheVariants.{Wake}
use Rattle.rules.specs.State.{State, Plain, forget, hold_at, with_threads}
use Rattle.rules.specs.Order.{stands_above}
use Rattle.rules.specs.Walk.{link_of, no_links, chain_of}
use Rattle.rules.specs.Threads.{set_hold}
use Rattle.rules.specs.Release.{on_thread, topmost_at, release}
use Rattle.rules.specs.Sound.{sound}
use Rattle.rules.specs.Events.{Answered, above_running, overtakes, wake, releases, offer}
use Rattle.rules.specs.Lists.{run, links_in_all}
use Rattle.rules.proofs.Basics.Views.{Two, yes_true, no_false, two, clash, is_false}
use Rattle.rules.proofs.Order.Orders.{top_some, above_trans, above_asym}
use Rattle.rules.proofs.Links.Chains.{walk_ends}
use Rattle.rules.proofs.Links.Frames.{kept_end}
use Rattle.rules.proofs.Soundness.Standings.{Waits, blocked, idle, links_live}
use Rattle.rules.proofs.Soundness.Places.{owner, owner_live, sound_of}
use Rattle.rules.proofs.Choosing.Releases.{forget_release}
use Rattle.rules.proofs.Choosing.Changes.{avoids, ends_here}
use Rattle.rules.proofs.Events.WakeEvent.{woken}
use Rattle.wakes.proofs.TwoReleases.{topmost_unmoved}
use Rattle.wakes.proofs.AtOnce.{woken_by, above_threads, waited, wake_at_once}
use Rattle.wakes.proofs.EitherWay.{still, wake_still, on_apart, listing, wake_sound, others_held}

-- whether one of those On the thread would take over from what runs, and the links of its chain
abbrev overtakes_as : State → Option ℕ → Running → Bool
overtakes_as s none r = false
overtakes_as s (some t) r = above_running s t r

abbrev chain_links : State → Option ℕ → ℕ
chain_links s none = 0
chain_links s (some t) = (chain_of s.threads s.slices t).links

-- as a wake says it
chooses_as : (n : ℕ) (s : State) → (wake n s).chooses ≡ overtakes_as s (topmost_at (on_thread n) s) s.running
unfolding wake releases
chooses_as n s = by (topmost_at (on_thread n) s)
  where
    by : (o : Option ℕ) → overtakes (with_threads (set_hold n Ready s.threads) s) o ≡ overtakes_as s o s.running
    by none = refl
    by (some t) = above_threads (set_hold n Ready s.threads) s t s.running

module _ (s : State) (h : sound s ≡ true) (n : ℕ) (b : hold_at s.threads n ≡ Blocked) where
  wake_follows : (offer (Wake n) s).links
      ≡ cond (overtakes_as s (topmost_at (on_thread n) s) s.running) (chain_links s (topmost_at (on_thread n) s)) 0
  wake_follows = ap (λ (a : Answered). a.links) (wake_at_once s h n b) ∙ by (topmost_at (on_thread n) s)
    where
      either : (t : ℕ) → Two (above_running s t s.running)
          → (woken_by n s (some t)).links ≡ cond (above_running s t s.running) (chain_of s.threads s.slices t).links 0
      either t (yes_true k) = rw k
      either t (no_false k) = rw k

      by : (o : Option ℕ) → (woken_by n s o).links ≡ cond (overtakes_as s o s.running) (chain_links s o) 0
      by none = refl
      by (some t) = either t (two (above_running s t s.running))

  -- what runs after it
  quiet_running : overtakes_as s (topmost_at (on_thread n) s) s.running ≡ false → (offer (Wake n) s).state.running ≡ s.running
  unfolding wake releases
  quiet_running = λ quiet. ap (λ (a : Answered). a.state.running) (wake_at_once s h n b) ∙ by (topmost_at (on_thread n) s) quiet
    where
      ran : (release (on_thread n) (with_threads (set_hold n Ready s.threads) s)).running ≡ s.running
      ran = ap (λ (p : Plain). p.running) (forget_release (on_thread n) (with_threads (set_hold n Ready s.threads) s))

      by : (o : Option ℕ) → overtakes_as s o s.running ≡ false → (woken_by n s o).state.running ≡ s.running
      by none quiet = ran
      by (some t) quiet = rw quiet ran

  taken_running : (t : ℕ) → topmost_at (on_thread n) s ≡ some t → above_running s t s.running ≡ true
      → (offer (Wake n) s).state.running ≡ Runs n t (chain_of s.threads s.slices t).count
  taken_running t e k =
      ap (λ (a : Answered). a.state.running) (wake_at_once s h n b) ∙ rw (e, k)

  takes : (t : ℕ) → topmost_at (on_thread n) s ≡ some t → (wake n s).chooses ≡ true → above_running s t s.running ≡ true
  takes t e k = sym (ap (λ (o : Option ℕ). overtakes_as s o s.running) e) ∙ sym (chooses_as n s) ∙ k

  taken_follows : (t : ℕ) → topmost_at (on_thread n) s ≡ some t → above_running s t s.running ≡ true
      → (offer (Wake n) s).links ≡ (chain_of s.threads s.slices t).links
  taken_follows t e k = ap (λ (a : Answered). a.links) (wake_at_once s h n b) ∙ rw (e, k) refl

-- a second wake, of another thread
module _ (s : State) (h : sound s ≡ true) (a b : ℕ) (n : a ≡ b → ⊥) (p : hold_at s.threads a ≡ Blocked)
    (q : hold_at s.threads b ≡ Blocked) where
  abbrev s₁ : State
  s₁ = (offer (Wake a) s).state

  plain : forget (still s₁) ≡ forget (with_threads (set_hold a Ready s.threads) (still s))
  plain = ap forget (wake_still s h a p) ∙ forget_release (on_thread a) (with_threads (set_hold a Ready s.threads) (still s))

  same_waiter : topmost_at (on_thread b) s₁ ≡ topmost_at (on_thread b) s
  same_waiter =
      ap (topmost_at (on_thread b)) (wake_still s h a p)
      ∙ topmost_unmoved (on_apart b a (λ e. n (sym e))) (with_threads (set_hold a Ready s.threads) (still s)) (listing s h)

  same_chain : (u : ℕ) → topmost_at (on_thread b) s ≡ some u
      → chain_of s₁.threads s₁.slices u ≡ chain_of s.threads s.slices u
  same_chain u e = ap (λ (z : Plain). chain_of z.threads z.slices u) plain ∙ by (waited s h b q u e)
    where
      by : Waits s.threads (owner s u) b → chain_of (set_hold a Ready s.threads) s.slices u ≡ chain_of s.threads s.slices u
      by (idle _ i) = let z : ◌≡◌ {A = ℕ} 0 1 = cc in absurd (omega arith)
      by (blocked {d = d} w _) =
          let x = (sound_of s h).mid.shape in
          let live = owner_live s x u (top_some s.slices _ s.order u e).listed in
          let u' = (woken s (sound_of s h) a p).update in
          walk_ends (set_hold a Ready s.threads) (links_live u'.sane) (owner s u) (u'.live (owner s u) ∙ live)
          (kept_end u'.links (avoids s.threads (ends_here s.threads a {c = no_links} (ap link_of p)) (λ z. n (sym z))) w)
          ∙ sym (walk_ends s.threads (links_live x.sane) (owner s u) live w)

  same_above : (o : Option ℕ) (r : Running) → overtakes_as s₁ o r ≡ overtakes_as s o r
  same_above none r = refl
  same_above (some t) Nothing = refl
  same_above (some t) (Runs m c count) = ap (λ (z : Plain). stands_above z.slices z.order t c) plain

  second_follows : (offer (Wake b) s₁).links
      ≡ cond (overtakes_as s (topmost_at (on_thread b) s) s₁.running) (chain_links s (topmost_at (on_thread b) s)) 0
  second_follows =
      wake_follows s₁ (wake_sound s h a) b (others_held s h a p b (λ e. n (sym e)) ∙ q)
      ∙ ap (λ (o : Option ℕ). cond (overtakes_as s₁ o s₁.running) (chain_links s₁ o) 0) same_waiter
      ∙ by (topmost_at (on_thread b) s) refl
    where
      by : (o : Option ℕ) → topmost_at (on_thread b) s ≡ o
          → cond (overtakes_as s₁ o s₁.running) (chain_links s₁ o) 0 ≡ cond (overtakes_as s o s₁.running) (chain_links s o) 0
      by none e = refl
      by (some u) e = λ i. cond (same_above (some u) s₁.running i) (same_chain u e i).links 0

-- who stands below what runs stands below whoever takes over from it
stays_under : (s : State) (t u : ℕ) (r : Running) → above_running s t r ≡ false → above_running s u r ≡ true
    → stands_above s.slices s.order t u ≡ false
stays_under s t u Nothing low high = clash true refl low
stays_under s t u (Runs n c count) low high =
    is_false (stands_above s.slices s.order t u)
    (λ z. clash (stands_above s.slices s.order t c) (above_trans s.slices s.order t u c z high) low)

-- both wakes, one after the other
abbrev pub links_of_both : ℕ → ℕ → State → ℕ
links_of_both a b s = links_in_all (run (Wake a ∷ Wake b ∷ []) s)

sum_is : (a b : ℕ) (s : State) → links_of_both a b s ≡ (offer (Wake a) s).links + (offer (Wake b) (offer (Wake a) s).state).links
unfolding run links_in_all
sum_is a b s = omega arith

module _ (s : State) (h : sound s ≡ true) (a b : ℕ) (n : a ≡ b → ⊥) (p : hold_at s.threads a ≡ Blocked)
    (q : hold_at s.threads b ≡ Blocked) where
  -- THE SUMS AGREE, if after the wake of one of the two alone there is no choice.
  pub sums_agree : (wake a s).chooses ≡ false → links_of_both a b s ≡ links_of_both b a s
  sums_agree quiet =
      let first : (offer (Wake a) s).links ≡ 0 = wake_follows s h a p ∙ ap (λ (z : Bool). cond z (chain_links s waiter_a) 0) alone in
      let second : (offer (Wake b) (offer (Wake a) s).state).links ≡ (offer (Wake b) s).links =
      second_follows s h a b n p q
      ∙ ap (λ (r : Running). cond (overtakes_as s waiter_b r) (chain_links s waiter_b) 0) (quiet_running s h a p alone)
      ∙ sym (wake_follows s h b q) in
      let none_then : (offer (Wake a) (offer (Wake b) s).state).links ≡ 0 =
      second_follows s h b a (λ e. n (sym e)) q p
      ∙ ap (λ (z : Bool). cond z (chain_links s waiter_a) 0) (by (two (overtakes_as s waiter_b s.running))) in
      omega (arith, sum_is a b s, sum_is b a s, first, second, none_then)
    where
      waiter_a : Option ℕ
      waiter_a = topmost_at (on_thread a) s

      waiter_b : Option ℕ
      waiter_b = topmost_at (on_thread b) s

      alone : overtakes_as s (topmost_at (on_thread a) s) s.running ≡ false
      alone = sym (chooses_as a s) ∙ quiet

      low : (u count : ℕ) (o : Option ℕ) → above_running s u s.running ≡ true → overtakes_as s o s.running ≡ false
          → overtakes_as s o (Runs b u count) ≡ false
      low u count none k l = refl
      low u count (some t) k l = stays_under s t u s.running l k

      taken : (o : Option ℕ) → topmost_at (on_thread b) s ≡ o → overtakes_as s o s.running ≡ true
          → overtakes_as s (topmost_at (on_thread a) s) (offer (Wake b) s).state.running ≡ false
      taken none f k = clash false k refl
      taken (some u) f k =
          ap (overtakes_as s (topmost_at (on_thread a) s)) (taken_running s h b q u f k)
          ∙ low u (chain_of s.threads s.slices u).count (topmost_at (on_thread a) s) k alone

      by : Two (overtakes_as s (topmost_at (on_thread b) s) s.running)
          → overtakes_as s (topmost_at (on_thread a) s) (offer (Wake b) s).state.running ≡ false
      by (yes_true k) = taken (topmost_at (on_thread b) s) refl k
      by (no_false k) = ap (overtakes_as s (topmost_at (on_thread a) s)) (quiet_running s h b q k) ∙ alone

  -- If there is one after each alone, the upper timeslice's links are followed either way, the lower one's only if it comes first.
  pub sums_apart : (t u : ℕ) → topmost_at (on_thread a) s ≡ some t → topmost_at (on_thread b) s ≡ some u
      → (wake a s).chooses ≡ true → (wake b s).chooses ≡ true → stands_above s.slices s.order t u ≡ true
      → (links_of_both a b s ≡ (chain_of s.threads s.slices t).links)
      × (links_of_both b a s ≡ (chain_of s.threads s.slices u).links + (chain_of s.threads s.slices t).links)
  sums_apart t u e f k l over =
      let above-t = takes s h a p t e k in
      let above-u = takes s h b q u f l in
      let first_t = taken_follows s h a p t e above-t in
      let first-u = taken_follows s h b q u f above-u in
      let links-t = (chain_of s.threads s.slices t).links in
      let links-u = (chain_of s.threads s.slices u).links in
      let second-u : (offer (Wake b) (offer (Wake a) s).state).links ≡ 0 =
      second_follows s h a b n p q ∙ rw (f, taken_running s h a p t e above-t, above_asym s.slices s.order t u over) refl in
      let second-t : (offer (Wake a) (offer (Wake b) s).state).links ≡ links-t =
      second_follows s h b a (λ z. n (sym z)) q p ∙ rw (e, taken_running s h b q u f above-u, over) refl in
      (omega (arith, sum_is a b s, first_t, second-u), omega (arith, sum_is b a s, first-u, second-t))
