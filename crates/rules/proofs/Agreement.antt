-- Every event, accepted or refused: a sound machine stays sound and goes on showing the plain machine.
use Prim.Native.Nat.{ℕ, zero, suc, ◌≤◌}
use mathlib.Core.Path.{◌≡◌, refl, ap, ◌∙◌}
use mathlib.Core.Bool.{true}
use native.Mathlib.Omega.{arith}
use Rattle.rules.specs.declared.Event.{Event}
use Rattle.rules.specs.declared.Event.TheVariants.{Create, Give, Call, Reply, Block, Wake, Charge, Abort, Refill, Remove, Rank}
use Rattle.rules.specs.State.{State, forget}
use Rattle.rules.specs.Sound.{sound}
use Rattle.rules.specs.Refusals.{refusal}
use Rattle.rules.specs.Events.{Answered, midway, settle, accepted, dispatch_after, dispatch, offer}
use Rattle.rules.specs.Plain.{PlainAnswered, update, plain_offer_after, plain_offer}
use Rattle.rules.specs.Lists.{Ranged}
use Rattle.rules.proofs.Soundness.Places.{Sound, of_sound}
use Rattle.rules.proofs.Events.Hands.{link_limit, Handed, accepts}
use Rattle.rules.proofs.Events.CreateEvent.{create_handed}
use Rattle.rules.proofs.Events.GiveEvent.{give_handed}
use Rattle.rules.proofs.Events.CallEvent.{call_handed}
use Rattle.rules.proofs.Events.ReplyEvent.{reply_handed}
use Rattle.rules.proofs.Events.BlockEvent.{block_handed}
use Rattle.rules.proofs.Events.WakeEvent.{wake_handed}
use Rattle.rules.proofs.Events.ChargeEvent.{charge_handed}
use Rattle.rules.proofs.Events.AbortEvent.{abort_handed}
use Rattle.rules.proofs.Events.RefillEvent.{refill_handed}
use Rattle.rules.proofs.Events.RemoveEvent.{remove_handed}
use Rattle.rules.proofs.Events.RankEvent.{rank_handed}

-- all kinds of event: a further kind is one more line
handed : (e : Event) (s : State) → Sound s → Ranged e → refusal e (forget s) ≡ 0 → Handed s (midway e s) (update e (forget s))
handed (Create n r) s x f k = create_handed s x n r k
handed (Give t n priority quantum) s x f k = give_handed s x t n priority quantum (f.give t n priority quantum refl) k
handed (Call server) s x f k = call_handed s x server k
handed Reply s x f k = reply_handed s x k
handed Block s x f k = block_handed s x k
handed (Wake n) s x f k = wake_handed s x n k
handed (Charge units) s x f k = charge_handed s x units k
handed (Abort n) s x f k = abort_handed s x n k
handed (Refill t) s x f k = refill_handed s x t k
handed (Remove n) s x f k = remove_handed s x n k
handed (Rank t priority) s x f k = rank_handed s x t priority (f.rank t priority refl) k

-- the two machines' answers to one event
pub record Agrees (s : State) (a : Answered) (b : PlainAnswered) : Type 0 where
  pub sound : Sound a.state
  pub plain : forget a.state ≡ b.plain
  pub refusal : a.refusal ≡ b.refusal
  pub links : a.links ≤ link_limit (forget s)

agrees_after : (e : Event) (s : State) → Sound s → Ranged e → (k : ℕ) → refusal e (forget s) ≡ k
    → Agrees s (dispatch_after k e s) (plain_offer_after k e (forget s))
agrees_after e s x f zero q =
    let a = accepts s (midway e s) (update e (forget s)) (handed e s x f q) in
    record { sound = a.sound; plain = a.plain; refusal = refl; links = a.links }
agrees_after e s x f (suc k) q = record { sound = x; plain = refl; refusal = refl; links = omega arith }

pub agrees_dispatch : (e : Event) (s : State) → Sound s → Ranged e → Agrees s (dispatch e s) (plain_offer e (forget s))
unfolding dispatch plain_offer
agrees_dispatch e s x f = agrees_after e s x f (refusal e (forget s)) refl

-- the number of an answer is the refusal's
pub answered_number : (k : ℕ) (e : Event) (s : State) → (dispatch_after k e s).refusal ≡ k
answered_number zero e s = refl
answered_number (suc k) e s = refl

-- a sound machine is not refused with 1
pub offer_sound : (e : Event) (s : State) → sound s ≡ true → offer e s ≡ dispatch e s
unfolding offer
offer_sound e s h = rw h

-- and what it accepts is settled
pub offer_accepted : (e : Event) (s : State) → sound s ≡ true → refusal e (forget s) ≡ 0 → offer e s ≡ accepted (settle (midway e s))
unfolding dispatch
offer_accepted e s h k = offer_sound e s h ∙ ap (λ (n : ℕ). dispatch_after n e s) k

pub agrees : (e : Event) (s : State) → Sound s → Ranged e → Agrees s (offer e s) (plain_offer e (forget s))
agrees e s x f = rw (offer_sound e s (of_sound s x)) (agrees_dispatch e s x f)
