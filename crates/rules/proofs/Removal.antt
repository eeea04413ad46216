-- "Freed numbers can be created and given again": the plain machine's update frees the thread and strikes its timeslice out, and judging
-- brings neither back.
use Prim.Native.Nat.{ℕ, ◌<◌}
use mathlib.Core.Path.{◌≡◌, refl, ap, ◌∙◌}
use mathlib.Core.Bool.{true, false, not}
use mathlib.Core.Option.{Option, some}
use native.Mathlib.Omega.{arith}
use lib.Dec.{eqb}
use borrow.Author.Tests.{le-ltb, not-false}
use Rattle.rules.specs.declared.Role.{Role}
use Rattle.rules.specs.declared.Event.TheVariants.{Create, Give, Remove}
use Rattle.rules.specs.Tests.{member}
use Rattle.rules.specs.State.{State, Plain, forget, limit, live_at}
use Rattle.rules.specs.Timeslices.{own_of}
use Rattle.rules.specs.Sound.{sound}
use Rattle.rules.specs.Refusals.{refusal, above_limit, owns_one}
use Rattle.rules.specs.Events.{offer}
use Rattle.rules.specs.Plain.{plain_strike, update, judge, plain_offer}
use Rattle.rules.specs.Lists.{Ranged}
use Rattle.rules.proofs.Basics.Accepting.{passes}
use Rattle.rules.proofs.Files.Records.{other_kind}
use Rattle.rules.proofs.Order.Orders.{member_without}
use Rattle.rules.proofs.Order.Owners.{own_listed}
use Rattle.rules.proofs.Soundness.Places.{Sound, sound_of}
use Rattle.rules.proofs.Tables.Writes.{within}
use Rattle.rules.proofs.Tables.Removals.{removed_gone}
use Rattle.rules.proofs.Judging.{judge_order, judge_live}
use Rattle.rules.proofs.Agreement.{agrees}

-- a removal has no priority or quantum
unranged : (n : ℕ) → Ranged (Remove n)
unranged n = other_kind (Remove n) (λ z. omega arith) (λ z. omega arith)

module _ (s : State) (h : sound s ≡ true) (n : ℕ) (accepted : refusal (Remove n) (forget s) ≡ 0) where
  x : Sound s
  x = sound_of s h

  after : State
  after = (offer (Remove n) s).state

  after_sound : Sound after
  unfolding after
  after_sound = (agrees (Remove n) s x (unranged n)).sound

  -- what the plain machine has
  plain : forget after ≡ judge (update (Remove n) (forget s))
  unfolding after plain_offer
  plain = (agrees (Remove n) s x (unranged n)).plain ∙ rw accepted refl

  thread_gone : live_at after.threads n ≡ false
  thread_gone =
      let small = passes (above_limit n) 1 _ accepted in
      let live = passes (not (live_at s.threads n)) 3 0 small.1 in
      ap (λ (p : Plain). live_at p.threads n) plain ∙ judge_live n (update (Remove n) (forget s))
      ∙ removed_gone x.mid.shape.sane n (not-false (live_at s.threads n) live.0)

  -- the number can be created again, as a client or a server
  pub created_again : (r : Role) → refusal (Create n r) (forget (offer (Remove n) s).state) ≡ 0
  unfolding after
  created_again r = rw ((passes (above_limit n) 1 _ accepted).0, thread_gone) refl

  module _ (t : ℕ) (own : own_of s.slices n s.order ≡ some t) where
    timeslice_gone : member t after.order ≡ false
    timeslice_gone =
        ap (λ (p : Plain). member t p.order) plain
        ∙ ap (member t) (judge_order (update (Remove n) (forget s)))
        ∙ ap (λ (o : Option ℕ). member t (plain_strike o (forget s)).order) own
        ∙ member_without t s.order x.mid.shape.turns.once

    -- and its timeslice's number given again, to every live thread that owns none
    pub given_again : (m priority quantum : ℕ) → live_at (offer (Remove n) s).state.threads m ≡ true
        → owns_one (forget (offer (Remove n) s).state) m ≡ false → eqb quantum 0 ≡ false
        → refusal (Give t m priority quantum) (forget (offer (Remove n) s).state) ≡ 0
    unfolding after
    given_again m priority quantum live owns some-time =
        let listed = own_listed s.slices n s.order t own in
        let small-t : above_limit t ≡ false = le-ltb 127 t (omega (arith, x.mid.shape.turns.small t listed)) in
        let inside : m < limit = rw (← after_sound.mid.shape.sane.full) (within after.threads m live) in
        let small-m : above_limit m ≡ false = le-ltb 127 m (omega arith) in
        rw (small-t, small-m, timeslice_gone, live, owns, some-time) refl
