-- THE THEOREMS of request [9], of every block and every machine. `line_exactly`: a line is to be taken exactly where it is the lowest that
-- is pending and enabled, with the card on. `poll_comes`: what a poll comes to. `poll_sound`: its machine stays sound. `held_back`: a
-- refused wake holds back the lines above. `raise_then_poll`, `as_the_wake`, `as_in_a_list`: it wakes the thread as the event would.
-- `reads_back`, `control_alike`: control's other bits are stored and change nothing. `only_raise_sets`, `raise_sets`: which operation sets
-- a pending bit. `drains`, `code_drains`: polls until the first refusal.
use Prim.Native.Nat.{ℕ, zero, suc, ◌≤◌, ◌<◌}
use native.Mathlib.Omega.{arith}
use mathlib.Core.Path.{◌≡◌, refl, sym, ap, ◌∙◌, subst}
use mathlib.Core.List.{List, [], ◌∷◌, ◌++◌}
use mathlib.Core.Bool.{Bool, true, false, ◌&&◌, ◌||◌, not, cond}
use mathlib.Core.Option.{Option, none, some}
use lib.Dec.{eqb, ltb}
use lib.ListN.{length, get_or, set, replicate, length-set}
use lib.Seq.{get_or-set_same}
use borrow.Author.Tests.{le-ltb, ne_eqb}
use Rattle.rules.specs.declared.Event.{Event}
use Rattle.rules.specs.declared.Event.TheVariants.{Wake}
use Rattle.rules.specs.Tests.{member}
use Rattle.rules.specs.State.{State}
use Rattle.rules.specs.Sound.{sound}
use Rattle.rules.specs.Events.{Answered, refused, offer_if, offer}
use Rattle.rules.specs.Lists.{run, after, numbers_of}
use Rattle.rules.proofs.Basics.Views.{clash}
use Rattle.rules.proofs.Shortening.Refusing.{run_append}
use Rattle.bits.specs.Bits.{bit}
use Rattle.bridge_card.specs.Card.{is_on, is_pending, is_enabled, thread_of, read, Changed, not_written, written, write, raise}
use Rattle.bridge_card.specs.Card.{line_to_take, Polled, unchanged, block_after, woken, poll_if, poll}
use Rattle.bridge_card.specs.Promises.{Polls}
use Rattle.bridge_card.specs.Meaning.{Takes, Cleared, wake_of, Comes, Operation, block_after_one, is_raise, raised_all}
use Rattle.bridge_card.specs.Meaning.{Read, Write, Raise, Poll}
use Rattle.bridge_card.specs.Meaning.{Drained, drain, wakes_of, Rising, Each, Until}
use Rattle.dispatcher.specs.declared.Machine.{Machine}
use Rattle.dispatcher.specs.Promise as code
use Rattle.dispatcher.specs.Shown.{shown, sound_machine}
use Rattle.dispatcher.specs.Promise.{Answers}
use Rattle.dispatcher.proofs.Runs.{answer_to}
use Rattle.bridge_card.proofs.Refusing.{not_refused}
use Rattle.bridge_card.proofs.Answering.{read_done, write_done}
use Rattle.bridge_card.proofs.Polling.{polled_line}
use Rattle.bridge_card.proofs.Pending.{cleared}
use Rattle.bridge_card.proofs.Exactly.{not_found, takes_found, found_takes}
use Rattle.bridge_card.proofs.Waking.{as_offered}
use Rattle.bridge_card.proofs.Coming.{comes, poll_sets_none}
use Rattle.bridge_card.proofs.Raising.{write_sets_none, raised_pending, raise_as_long, raise_thread, still_takes, raised_cleared}
use Rattle.bridge_card.proofs.Control.{polls_alike, raises_alike, writes_alike, reads_alike}
use Rattle.bridge_card.proofs.Draining.{none_below_0}
use Rattle.bridge_card.proofs.Emptying.{empties}
use Rattle.bridge_card.proofs.Following.{polled_sound, follows}

-- "A poll takes the lowest line that is pending and enabled, with the card on", and only then
pub record LineExactly (b : List ℕ) : Type 0 where
  pub takes : (line : ℕ) → line_to_take b ≡ some line → Takes b line
  pub taken : (line : ℕ) → Takes b line → line_to_take b ≡ some line
  pub none_takes : line_to_take b ≡ none → (line : ℕ) → Takes b line → ⊥
  pub none_taken : ((line : ℕ) → Takes b line → ⊥) → line_to_take b ≡ none

pub line_exactly : (b : List ℕ) → LineExactly b
line_exactly b =
    record {
      takes = takes_found b;
      taken = found_takes b;
      none_takes = λ e line t. not_found line (sym e ∙ found_takes b line t);
      none_taken = λ none_takes. by none_takes (line_to_take b) refl;
    }
  where
    by : ((line : ℕ) → Takes b line → ⊥) → (o : Option ℕ) → line_to_take b ≡ o → line_to_take b ≡ none
    by none_takes none e = e
    by none_takes (some line) e = absurd (none_takes line (takes_found b line e))

-- what a poll comes to, for every block and every machine, sound or not
pub poll_comes : (is_sound : Bool) (b : List ℕ) (s : State) → Comes is_sound b s (poll_if is_sound b s)
poll_comes is_sound b s = comes is_sound b s

-- a stored machine comes back as sound as it was given
pub poll_sound : (b after : List ℕ) (m : Machine) (r : code.Answered) → Polls b m after r → sound_machine r.machine ≡ sound_machine m
poll_sound b after m r polls = polled_sound b after m r polls

-- a line whose wake is refused stays pending, and holds back those above it: however many of these are raised meanwhile, in any order, the
-- next poll of this machine answers the same
pub held_back : (is_sound : Bool) (b : List ℕ) (s : State) (line number : ℕ) → length b ≡ 12 → Takes b line
    → wake_of is_sound b s line ≡ refused (suc number) s → (above : List ℕ) → Each (λ other. line < other) above
    → (poll_if is_sound (raised_all b above) s ≡ unchanged (suc number) (raised_all b above) s)
    × (is_pending (raised_all b above) line ≡ true)
unfolding raised_all
held_back is_sound b s line number twelve t w [] higher =
    (polled_line is_sound b s line twelve (found_takes b line t) ∙ ap (woken b line) w, t.pending)
held_back is_sound b s line number twelve t w (other ∷ above) higher =
    let thread = ap (λ (n : ℕ). offer_if is_sound (Wake n) s) (raise_thread b other line) in
    let still = still_takes b other line higher.0 t in
    held_back is_sound (raise b other).block s line number (raise_as_long b other ∙ twelve) still (thread ∙ w) above higher.1

-- raising and then polling, where it is the line taken
pub record RaiseThenPoll (is_sound : Bool) (b : List ℕ) (line : ℕ) (s : State) : Type 0 where
  -- the wake's answer, and the machine after it
  pub answer : (poll_if is_sound (raise b line).block s).answer ≡ offer_if is_sound (Wake (thread_of b line)) s
  -- accepted, it leaves the block without the line's bit; refused, the line stays raised
  pub accepted : (offer_if is_sound (Wake (thread_of b line)) s).refusal ≡ 0
      → Cleared b (poll_if is_sound (raise b line).block s).block line
  pub kept : ((offer_if is_sound (Wake (thread_of b line)) s).refusal ≡ 0 → ⊥)
      → (poll_if is_sound (raise b line).block s).block ≡ (raise b line).block

pub raise_then_poll : (is_sound : Bool) (b : List ℕ) (line : ℕ) (s : State) → length b ≡ 12 → Takes (raise b line).block line
    → RaiseThenPoll is_sound b line s
raise_then_poll is_sound b line s twelve t =
    record {
      answer = ap (λ (p : Polled). p.answer) polled;
      accepted = λ e. raised_cleared b line (poll_if is_sound raised s).block
          (subst (λ (l : List ℕ). Cleared raised l line) (sym (block ∙ ap (λ (k : ℕ). block_after k raised line) e))
          (cleared raised line long t.one_of_eight));
      kept = λ given. block ∙ by wake.refusal given;
    }
  where
    raised : List ℕ
    raised = (raise b line).block

    wake : Answered
    wake = offer_if is_sound (Wake (thread_of b line)) s

    long : length raised ≡ 12
    long = raise_as_long b line ∙ twelve

    polled : poll_if is_sound raised s ≡ woken raised line wake
    polled =
        polled_line is_sound raised s line long (found_takes raised line t)
        ∙ ap (λ (n : ℕ). woken raised line (offer_if is_sound (Wake n) s)) (raise_thread b line line)

    block : (poll_if is_sound raised s).block ≡ block_after wake.refusal raised line
    block = ap (λ (p : Polled). p.block) polled

    by : (k : ℕ) → (k ≡ 0 → ⊥) → block_after k raised line ≡ raised
    by zero given = absurd (given refl)
    by (suc k) given = refl

-- the code's poll then keeps the promise of the code's wake, on every stored machine
pub as_the_wake : (b after : List ℕ) (line : ℕ) (m : Machine) (r : code.Answered) → length b ≡ 12 → Takes (raise b line).block line
    → Polls (raise b line).block m after r → Answers (answer_to (Wake (thread_of b line)) m) m r
as_the_wake b after line m r twelve t polls =
    subst (λ (a : Answered). Answers a m r) (raise_then_poll (sound_machine m) b line (shown m) twelve t).answer polls.1

-- as the event in a list would: with any events before it and behind it
pub as_in_a_list : (b : List ℕ) (line : ℕ) (before behind : List Event) (s : State) → length b ≡ 12 → Takes (raise b line).block line
    → run (before ++ (Wake (thread_of b line) ∷ behind)) s
    ≡ run before s
    ++ ((poll (raise b line).block (after before s)).answer ∷ run behind (poll (raise b line).block (after before s)).answer.state)
unfolding run
as_in_a_list b line before behind s twelve t =
    let there = after before s in
    let e = Wake (thread_of b line) in
    let offered : offer e there ≡ (poll (raise b line).block there).answer =
    sym ((raise_then_poll (sound there) b line there twelve t).answer ∙ as_offered (sound there) e there refl) in
    run_append before (e ∷ behind) s ∙ ap (λ (a : Answered). run before s ++ (a ∷ run behind a.state)) offered

-- "the other bits are stored": a register but 1 and 3 holds what was written
pub reads_back : (b : List ℕ) (register byte : ℕ) → length b ≡ 12 → register ≤ 11 → (register ≡ 1 → ⊥) → (register ≡ 3 → ⊥)
    → read (write b register byte).block register ≡ record { refusal = 0; byte = byte }
reads_back b register byte twelve small other three =
    let stored = set b register byte in
    let none_given : ltb 11 register ≡ false = le-ltb 11 register small in
    let may : not_written register ≡ false = rw (none_given, ne_eqb register 3 three) refl in
    let is : stored ≡ written b register byte = rw (ne_eqb register 1 other) refl in
    let wrote = sym (write_done b register byte (not_refused b twelve (not_written register) may) stored is) in
    let held : byte ≡ cond (eqb register 3) 0 (get_or stored register 0) =
    rw (ne_eqb register 3 three) (sym (get_or-set_same b register byte 0 (omega arith))) in
    let tested = not_refused stored (length-set b register byte ∙ twelve) (ltb 11 register) none_given in
    ap (λ (c : Changed). read c.block register) wrote ∙ sym (read_done stored register tested byte held)

-- "and mean nothing": whatever control is, raise, write and read are alike; so is a poll if its bit 0 is the same
pub record ControlAlike (is_sound : Bool) (b : List ℕ) (control : ℕ) (s : State) : Type 0 where
  pub polls : bit 0 control ≡ is_on b → poll_if is_sound (set b 0 control) s
      ≡ record { block = set (poll_if is_sound b s).block 0 control; answer = (poll_if is_sound b s).answer }
  pub raises : (line : ℕ) → raise (set b 0 control) line
      ≡ record { refusal = (raise b line).refusal; block = set (raise b line).block 0 control }
  pub writes : (register byte : ℕ) → (register ≡ 0 → ⊥) → write (set b 0 control) register byte
      ≡ record { refusal = (write b register byte).refusal; block = set (write b register byte).block 0 control }
  pub reads : (register : ℕ) → (register ≡ 0 → ⊥) → read (set b 0 control) register ≡ read b register

pub control_alike : (is_sound : Bool) (b : List ℕ) (control : ℕ) (s : State) → ControlAlike is_sound b control s
control_alike is_sound b control s =
    record {
      polls = polls_alike b control is_sound s;
      raises = raises_alike b control;
      writes = writes_alike b control;
      reads = reads_alike b control;
    }

-- no operation but raise sets a pending bit
pub only_raise_sets : (o : Operation) (is_sound : Bool) (b : List ℕ) (s : State) → is_raise o ≡ false → (line : ℕ) → line < 8
    → is_pending (block_after_one o is_sound b s) line ≡ true → is_pending b line ≡ true
only_raise_sets (Read register) is_sound b s other line small pending = pending
only_raise_sets (Write register byte) is_sound b s other line small pending = write_sets_none b register byte line small pending
only_raise_sets (Raise raised) is_sound b s other line small pending = clash true refl other
only_raise_sets Poll is_sound b s other line small pending = poll_sets_none is_sound b s line small pending

-- and an accepted raise sets that of its line alone
pub raise_sets : (b : List ℕ) (line : ℕ) → (raise b line).refusal ≡ 0 → (other : ℕ) → other < 8
    → is_pending (raise b line).block other ≡ is_pending b other || eqb other line
raise_sets b line accepted other small = raised_pending b line accepted other small

-- polls until the first refusal, which comes after at most eight that are accepted: they clear exactly the lines whose wakes were accepted,
-- lowest first, and leave the machine of these wakes
pub record Drains (is_sound : Bool) (b : List ℕ) (s : State) (d : Drained) : Type 0 where
  pub refused : d.refusal ≡ 0 → ⊥
  pub lowest_first : Rising 0 d.lines
  pub taken : Each (λ line. (line < 8) × (is_pending b line ≡ true) × (is_enabled b line ≡ true) × (is_on b ≡ true)) d.lines
  pub cleared : (line : ℕ) → line < 8 → is_pending d.block line ≡ is_pending b line && not (member line d.lines)
  pub other_bytes : (at : ℕ) → (at ≡ 1 → ⊥) → get_or d.block at 0 ≡ get_or b at 0
  -- the next poll is the refused one
  pub last : poll_if is_sound d.block d.state ≡ unchanged d.refusal d.block d.state
  -- the wakes in a list: all accepted, and the machine after them. A sound machine that is not rightly stored accepts none
  pub wakes : (is_sound ≡ true → sound s ≡ true) → (numbers_of (run (wakes_of b d.lines) s) ≡ replicate (length d.lines) 0)
      × (d.state ≡ after (wakes_of b d.lines) s)

pub drains : (is_sound : Bool) (b : List ℕ) (s : State) → Drains is_sound b s (drain 9 is_sound b s)
drains is_sound b s =
    let d = empties 9 0 is_sound b s (omega arith) (omega arith) (none_below_0 b) in
    record {
      refused = d.refused;
      lowest_first = d.lowest_first;
      taken = d.taken;
      cleared = d.cleared;
      other_bytes = d.other_bytes;
      last = d.last;
      wakes = d.wakes;
    }

-- the code's polls are these, on every stored machine
pub record CodeDrains (b : List ℕ) (m : Machine) (lines after : List ℕ) (last : code.Answered) : Type 0 where
  pub lines_taken : lines ≡ (drain 9 (sound_machine m) b (shown m)).lines
  pub block : after ≡ (drain 9 (sound_machine m) b (shown m)).block
  pub state : shown last.machine ≡ (drain 9 (sound_machine m) b (shown m)).state
  pub refusal : last.refusal ≡ (drain 9 (sound_machine m) b (shown m)).refusal

pub code_drains : {b lines after : List ℕ} {m : Machine} {last : code.Answered} → Until b m lines after last
    → CodeDrains b m lines after last
code_drains {b} u =
    let is = follows u 9 0 (omega arith, omega arith) (none_below_0 b) in
    record {
      lines_taken = ap (λ (d : Drained). d.lines) is;
      block = ap (λ (d : Drained). d.block) is;
      state = ap (λ (d : Drained). d.state) is;
      refusal = ap (λ (d : Drained). d.refusal) is;
    }
