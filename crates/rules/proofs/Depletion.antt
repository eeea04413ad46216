-- A timeslice is Spent as long as nothing is left of it, and no event but its own refill gives it time: the plain machine's update shows
-- that, and a sound machine's place follows what is left.
use Prim.Native.Nat.{ℕ, zero, suc, ◌-◌}
use mathlib.Core.Path.{◌≡◌, refl, sym, ap, ◌∙◌}
use mathlib.Core.List.{List}
use mathlib.Core.Bool.{Bool, true, false, cond, not, ◌||◌}
use mathlib.Core.Option.{Option, none, some}
use native.Mathlib.Omega.{arith}
use lib.Seq.{get_or-set_other}
use lib.Dec.{eqb, ltb}
use borrow.Author.Tests.{le-ltb, not-false}
use Rattle.rules.specs.declared.Hold.{Hold}
use Rattle.rules.specs.declared.Hold.TheVariants.{Ready, Idle, Blocked, Calling, Helping}
use Rattle.rules.specs.declared.Service.{Service}
use Rattle.rules.specs.declared.Service.TheVariants.{Nobody, Serving, Orphan}
use Rattle.rules.specs.declared.Place.{Place}
use Rattle.rules.specs.declared.Place.TheVariants.{Queue, Behind, On, Stalled, Spent}
use Rattle.rules.specs.declared.Running.{Running}
use Rattle.rules.specs.declared.Running.TheVariants.{Nothing, Runs}
use Rattle.rules.specs.declared.Event.{Event}
use Rattle.rules.specs.declared.Event.TheVariants.{Create, Give, Call, Reply, Block, Wake, Charge, Abort, Refill, Remove, Rank}
use Rattle.rules.specs.Tests.{member}
use Rattle.rules.specs.declared.Slice.{Slice}
use Rattle.rules.specs.State.{State, Plain, forget, free_slice, hold_at, service_at, slice_at, left_at, place_at}
use Rattle.rules.specs.Threads.{replied}
use Rattle.rules.specs.Timeslices.{with_priority, own_of, given, without, charged, refilled, struck, ranked}
use Rattle.rules.specs.Release.{is_spent}
use Rattle.rules.specs.Sound.{sound}
use Rattle.rules.specs.Refusals.{refusal, above_limit}
use Rattle.rules.specs.Events.{offer}
use Rattle.rules.specs.Plain.{plain_threads, plain_running, plain_call, plain_call_at, plain_reply, plain_reply_to, plain_block}
use Rattle.rules.specs.Plain.{plain_charge, plain_strike, update}
use Rattle.rules.specs.Plain.{plain_offer_after, plain_offer}
use Rattle.rules.specs.Lists.{Ranged}
use Rattle.rules.proofs.Basics.Views.{clash}
use Rattle.rules.proofs.Basics.Accepting.{passes}
use Rattle.rules.proofs.Order.Orders.{member_without}
use Rattle.rules.proofs.Soundness.Places.{Sound, sound_of}
use Rattle.rules.proofs.Choosing.Tops.{top_queued}
use Rattle.rules.proofs.Events.Hands.{active}
use Rattle.rules.proofs.Events.Rewrites.{field_kept, in_table}
use Rattle.rules.proofs.Events.Lefts.{left_others}
use Rattle.rules.proofs.Judging.{judge_slices, judge_order}
use Rattle.rules.proofs.Agreement.{agrees}

-- "Left is 0 exactly for Spent."
pub spent_left : (s : State) → sound s ≡ true → (t : ℕ) → member t s.order ≡ true
    → is_spent (place_at s.places t) ≡ eqb (left_at s.slices t) 0
spent_left s h = (sound_of s h).mid.placed.spent

-- "18, refill of a live timeslice that is not Spent": refused by what is left, and so by the place
pub refill_refused : (s : State) → sound s ≡ true → (t : ℕ) → member t s.order ≡ true
    → refusal (Refill t) (forget s) ≡ cond (is_spent (place_at s.places t)) 0 18
refill_refused s h t l =
    let fits : above_limit t ≡ false = le-ltb 127 t (omega (arith, (sound_of s h).mid.shape.turns.small t l)) in
    rw (fits, l, ← spent_left s h t l) (by (is_spent (place_at s.places t)))
  where
    by : (b : Bool) → ◌≡◌ {A = ℕ} (cond (not b) 18 0) (cond b 0 18)
    by true = refl
    by false = refl

-- a call, a reply and a block change no timeslice
called_at : (server caller t count : ℕ) (p : Plain) (h : Hold) → (plain_call_at server caller t count p h).slices ≡ p.slices
called_at server caller t count p Ready = refl
called_at server caller t count p Idle = refl
called_at server caller t count p Blocked = refl
called_at server caller t count p (Calling n) = refl
called_at server caller t count p (Helping n) = refl

called : (server : ℕ) (p : Plain) (r : Running) → (plain_call server p r).slices ≡ p.slices
called server p Nothing = refl
called server p (Runs caller t count) = called_at server caller t count p (hold_at p.threads server)

one_of : {ss : List Slice} (b : Bool) (p q : Plain) → p.slices ≡ ss → q.slices ≡ ss → (cond b p q).slices ≡ ss
one_of true p q e f = e
one_of false p q e f = f

replied_to : (t count : ℕ) (p : Plain) (v : Service) → (plain_reply_to t count p v).slices ≡ p.slices
replied_to t count p Nobody = refl
replied_to t count p (Serving caller) = one_of (ltb 0 count) (plain_running (Runs caller t (count - 1)) p) p refl refl
replied_to t count p Orphan = refl

replies : (p : Plain) (r : Running) → (plain_reply p r).slices ≡ p.slices
replies p Nothing = refl
replies p (Runs server t count) = replied_to t count (plain_threads (replied server p.threads) p) (service_at p.threads server)

blocks : (p : Plain) (r : Running) → (plain_block p r).slices ≡ p.slices
blocks p Nothing = refl
blocks p (Runs n t count) = refl

-- what is left of a Spent timeslice after an accepted event that is not its refill: the current timeslice and one that is given are others
module _ (s : State) (x : Sound s) (t : ℕ) (listed : member t s.order ≡ true) (spent : place_at s.places t ≡ Spent) where
  abbrev p : Plain
  p = forget s

  -- the same table has the same left
  same_left : {ss ss' : List Slice} → ss ≡ ss' → left_at ss t ≡ left_at ss' t
  same_left e = ap (λ (l : List Slice). left_at l t) e

  given_kept : (u n priority quantum : ℕ) → refusal (Give u n priority quantum) p ≡ 0
      → left_at (given u n priority quantum s.slices) t ≡ left_at s.slices t
  unfolding given
  given_kept u n priority quantum k =
      let free = (passes (member u s.order) 2 _ (passes (above_limit u || above_limit n) 1 _ k).1).0 in
      let other : t ≡ u → ⊥ = λ z. clash (member u s.order) (rw z at listed) free in
      ap (λ (y : Slice). y.left) (get_or-set_other s.slices u t _ free_slice other)

  current_other : {n c count : ℕ} → s.running ≡ Runs n c count → t ≡ c → ⊥
  current_other {n} {c} {count} e z =
      let queued = top_queued s c (active s x n c count e).topmost in
      clash (is_spent (place_at s.places t)) (ap is_spent spent) (ap is_spent (ap (place_at s.places) z ∙ queued))

  charged_kept : (units : ℕ) (r : Running) → s.running ≡ r → left_at (plain_charge units p r).slices t ≡ left_at s.slices t
  unfolding charged
  charged_kept units Nothing e = refl
  charged_kept units (Runs n c count) e =
      let inside = in_table x.mid c (active s x n c count e).listed in
      same_left {ss' = charged c units s.slices} (one_of (eqb (left_at s.slices c) units) _ _ refl refl)
      ∙ ap (λ (y : Slice). y.left) (left_others s.slices c _ inside t (current_other e))

  refilled_kept : (u : ℕ) → refusal (Refill u) p ≡ 0 → (Refill u ≡ Refill t → ⊥) → left_at (refilled u s.slices) t ≡ left_at s.slices t
  unfolding refilled
  refilled_kept u k other =
      let live = (passes (not (member u s.order)) 3 _ (passes (above_limit u) 1 _ k).1).0 in
      let inside = in_table x.mid u (not-false (member u s.order) live) in
      ap (λ (y : Slice). y.left) (left_others s.slices u _ inside t (λ z. other (ap Refill (sym z))))

  -- the one that is struck out is not listed any more
  struck_kept : (o : Option ℕ) → member t (plain_strike o p).order ≡ true → left_at (plain_strike o p).slices t ≡ left_at s.slices t
  unfolding struck
  struck_kept none still = refl
  struck_kept (some u) still =
      let gone = member_without u s.order x.mid.shape.turns.once in
      let other : t ≡ u → ⊥ = λ z. clash (member u (without u s.order)) (rw z at still) gone in
      ap (λ (y : Slice). y.left) (get_or-set_other s.slices u t free_slice free_slice other)

  -- a rank changes no `left`
  ranked_kept : (u priority : ℕ) → refusal (Rank u priority) p ≡ 0 → left_at (ranked u priority s.slices) t ≡ left_at s.slices t
  unfolding ranked
  ranked_kept u priority k =
      let live = (passes (not (member u s.order)) 3 0 (passes (above_limit u) 1 _ k).1).0 in
      let inside = in_table x.mid u (not-false (member u s.order) live) in
      field_kept s.slices u (with_priority priority (slice_at s.slices u)) inside (λ y. y.left) refl t

  -- all kinds of event: a further kind is one more line
  update_kept : (e : Event) → refusal e p ≡ 0 → (e ≡ Refill t → ⊥) → member t (update e p).order ≡ true
      → left_at (update e p).slices t ≡ left_at s.slices t
  update_kept (Create n r) k other still = refl
  update_kept (Give u n priority quantum) k other still = given_kept u n priority quantum k
  update_kept (Call server) k other still = same_left (called server p s.running)
  update_kept Reply k other still = same_left (replies p s.running)
  update_kept Block k other still = same_left (blocks p s.running)
  update_kept (Wake n) k other still = refl
  update_kept (Charge units) k other still = charged_kept units s.running refl
  update_kept (Abort n) k other still = refl
  update_kept (Refill u) k other still = refilled_kept u k other
  update_kept (Remove n) k other still = struck_kept (own_of s.slices n s.order) still
  update_kept (Rank u priority) k other still = ranked_kept u priority k

  offered_kept : (e : Event) (k : ℕ) → refusal e p ≡ k → (e ≡ Refill t → ⊥) → member t (plain_offer_after k e p).plain.order ≡ true
      → left_at (plain_offer_after k e p).plain.slices t ≡ left_at s.slices t
  offered_kept e zero q other still =
      same_left (judge_slices (update e p)) ∙ update_kept e q other (rw (judge_order (update e p)) at still)
  offered_kept e (suc k) q other still = refl

spent_is : (p : Place) → is_spent p ≡ true → p ≡ Spent
spent_is Queue e = clash false e refl
spent_is (Behind q) e = clash false e refl
spent_is (On n) e = clash false e refl
spent_is Stalled e = clash false e refl
spent_is Spent e = refl

-- a Spent timeslice is Spent after every event but its refill, accepted or refused, as long as it is there
pub spent_until_refilled : (e : Event) (s : State) → Ranged e → sound s ≡ true → (t : ℕ) → member t s.order ≡ true
    → place_at s.places t ≡ Spent → (e ≡ Refill t → ⊥) → member t (offer e s).state.order ≡ true
    → place_at (offer e s).state.places t ≡ Spent
unfolding plain_offer
spent_until_refilled e s f h t listed spent other still =
    let x = sound_of s h in
    let a = agrees e s x f in
    let s' = (offer e s).state in
    let left : left_at s'.slices t ≡ left_at s.slices t =
    ap (λ (p : Plain). left_at p.slices t) a.plain
    ∙ offered_kept s x t listed spent e (refusal e (forget s)) refl other
    (sym (ap (λ (p : Plain). member t p.order) a.plain) ∙ still) in
    let none_left : eqb (left_at s.slices t) 0 ≡ true = sym (spent_left s h t listed) ∙ ap is_spent spent in
    spent_is (place_at s'.places t) (a.sound.mid.placed.spent t still ∙ ap (λ (l : ℕ). eqb l 0) left ∙ none_left)
