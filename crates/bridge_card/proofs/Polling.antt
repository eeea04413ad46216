-- What a poll of a stored machine answers, by the line that was found and by the wake's answer.
use Prim.Native.Nat.{ℕ, ◌<◌}
use native.Mathlib.Omega.{arith}
use mathlib.Core.Path.{◌≡◌, refl, sym, ap, ◌∙◌, subst}
use mathlib.Core.List.{List}
use mathlib.Core.Bool.{Bool, true, false, cond, not, ◌&&◌}
use mathlib.Core.Option.{Option, none, some}
use lib.Dec.{eqb}
use lib.ListN.{length, set}
use Rattle.std.specs.Prelude.{Result, Ok, Err, is_ok}
use Rattle.rules.specs.declared.refusal.Refusal.{Refusal}
use Rattle.rules.specs.declared.refusal.Refusal.TheVariants.{NoLine}
use Rattle.rules.specs.RefusalNumbers.{number_of}
use Rattle.rules.specs.declared.Event.TheVariants.{Wake}
use Rattle.rules.specs.State.{State}
use Rattle.rules.specs.Events.{refused, offer_if}
use Rattle.rules.specs.Events as events
use Rattle.dispatcher.specs.declared.Machine.{Machine}
use Rattle.dispatcher.specs.Promise.{Answered}
use Rattle.dispatcher.specs.Shown.{shown, sound_machine}
use Rattle.dispatcher.specs.Promise.{answered, Answers}
use Rattle.bridge_card.specs.Card.{is_on, may_take, thread_of, lowest, line_to_take, line_cleared, Polled, unchanged, block_after, woken}
use Rattle.bridge_card.specs.Card.{is_block, is_pending, byte_of, refusal_of, poll_if}
use Rattle.bridge_card.specs.Promises.{poll_of, Polls}
use Rattle.rules.proofs.Basics.Views.{Two, yes_true, no_false, two, clash}
use Rattle.bridge_card.proofs.Refusing.{no_block, a_block, twelve_long}
use Rattle.bridge_card.proofs.Lowest.{Finds, finds}

-- a line is one of the eight
abbrev Within : Option ℕ → Type 0
Within none = Unit {0}
Within (some line) = line < 8

within : (b : List ℕ) → Within (line_to_take b)
unfolding line_to_take
within b = by (is_on b) (lowest (may_take b)) (finds (may_take b))
  where
    by : (on : Bool) (o : Option ℕ) → Finds (may_take b) 0 8 o → Within (cond on o none)
    by true none f = tt
    by true (some line) f = f.inside
    by false o f = tt

-- the line that a poll takes
pub one_of_eight : (b : List ℕ) (line : ℕ) → some line ≡ line_to_take b → line < 8
one_of_eight b line e = subst Within (sym e) (within b)

-- "20, a block that is not 12 bytes, before all others"
pub polled_20 : (is_sound : Bool) (b : List ℕ) (s : State) → (length b ≡ 12 → ⊥) → poll_if is_sound b s ≡ unchanged 20 b s
unfolding poll_if
polled_20 is_sound b s other = rw (no_block b other) refl

-- "22, no line to take at a poll, after 20 and before all refusals of the wake, 1 included"
pub polled_22 : (is_sound : Bool) (b : List ℕ) (s : State) → length b ≡ 12 → line_to_take b ≡ none → poll_if is_sound b s ≡ unchanged 22 b s
unfolding poll_if
polled_22 is_sound b s twelve e = rw (a_block b twelve, e) refl

-- "takes the lowest line .., clears its bit and wakes its thread"
pub polled_line : (is_sound : Bool) (b : List ℕ) (s : State) (line : ℕ) → length b ≡ 12 → line_to_take b ≡ some line
    → poll_if is_sound b s ≡ woken b line (offer_if is_sound (Wake (thread_of b line)) s)
unfolding poll_if
polled_line is_sound b s line twelve e = rw (a_block b twelve, e) refl

module _ (b : List ℕ) (m : Machine) where
  -- a poll of a stored machine that is refused before the wake
  refused_before : (x : Refusal) → poll_of b m ≡ unchanged (number_of x) b (shown m) → Polls b m b (answered m (Err x))
  refused_before x e =
      let answer = ap (λ (p : Polled). p.answer) e in (
        ap (λ (p : Polled). p.block) (sym e),
        record {
          refusal = ap (λ (a : events.Answered). a.refusal) (sym answer);
          links = ap (λ (a : events.Answered). a.links) (sym answer);
          state = ap (λ (a : events.Answered). a.state) (sym answer);
          exact = refl;
          kept = λ given. refl;
        },
      )

  pub poll_20 : (x : Refusal) → number_of x ≡ refusal_of b false → Polls b m b (answered m (Err x))
  unfolding poll_if
  poll_20 x e = by (two (is_block b))
    where
      by : Two (is_block b) → Polls b m b (answered m (Err x))
      by (yes_true block) = let none_given : number_of x ≡ 0 = e ∙ rw block refl in absurd (grind (arith, none_given))
      by (no_false other) =
          let twenty : number_of x ≡ 20 = e ∙ rw other refl in refused_before x (rw (other, twenty) refl)

  pub poll_22 : 0 ≡ refusal_of b false → none ≡ line_to_take b → Polls b m b (answered m (Err NoLine))
  poll_22 e none_there =
      refused_before NoLine (polled_22 (sound_machine m) b (shown m) (twelve_long b false (sym e)) (sym none_there))

  -- one that wakes a thread: the bit is cleared if the wake is accepted, and only then
  module _ {line thread : ℕ} {r : Answered} (e : 0 ≡ refusal_of b false) (taken : some line ≡ line_to_take b)
      (its : thread ≡ thread_of b line) (given : Answers (offer_if (sound_machine m) (Wake thread) (shown m)) m r) where
    polls : (after : List ℕ) → after ≡ block_after r.refusal b line → Polls b m after r
    polls after is =
        let answer = offer_if (sound_machine m) (Wake thread) (shown m) in
        let this : poll_of b m ≡ woken b line answer =
        polled_line (sound_machine m) b (shown m) line (twelve_long b false (sym e)) (sym taken)
        ∙ ap (λ (n : ℕ). woken b line (offer_if (sound_machine m) (Wake n) (shown m))) (sym its) in (
          is ∙ ap (λ (k : ℕ). block_after k b line) given.refusal ∙ ap (λ (p : Polled). p.block) (sym this),
          subst (λ (p : Polled). Answers p.answer m r) (sym this) given,
        )

  module _ {line thread : ℕ} {after : Machine} (e : 0 ≡ refusal_of b false) (taken : some line ≡ line_to_take b)
      (its : thread ≡ thread_of b line) where
    pub poll_held : (r : Result ℕ Refusal) → is_ok r ≡ false
        → Answers (offer_if (sound_machine m) (Wake thread) (shown m)) m (answered after r) → Polls b m b (answered after r)
    poll_held (Ok links) ok given = clash true refl ok
    poll_held (Err x) ok given = polls e taken its given b (grind arith)

    pub poll_accepted : (r : Result ℕ Refusal) (byte : ℕ) → is_ok r ≡ true
        → Answers (offer_if (sound_machine m) (Wake thread) (shown m)) m (answered after r)
        → byte ≡ byte_of (λ j. is_pending b j && not (eqb j line)) → Polls b m (set b 1 byte) (answered after r)
    unfolding line_cleared
    poll_accepted (Ok links) byte ok given cleared = polls e taken its given (set b 1 byte) (ap (set b 1) cleared)
    poll_accepted (Err x) byte ok given cleared = clash false ok refl
