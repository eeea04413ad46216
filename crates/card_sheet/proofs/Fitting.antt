-- Whatever the commands are, the block keeps its length and holds bytes, the machine stays sound, and what a command prints is short.
use Prim.Native.Nat.{ℕ, zero, suc, ◌+◌, ◌*◌, ◌^◌, ◌≤◌, ◌<◌}
use native.Mathlib.Nat.{pow-suc}
use native.Mathlib.Omega.{arith}
use mathlib.Core.Path.{◌≡◌, refl, sym, ap, ◌∙◌, subst}
use mathlib.Core.List.{List, [], ◌∷◌}
use mathlib.Core.Bool.{Bool, true, false, cond, not, ◌&&◌, ◌||◌}
use mathlib.Core.Option.{Option, none, some}
use lib.Dec.{ltb, eqb}
use lib.ListN.{length, get_or, set, length-set}
use lib.Seq.{get_or-set_same, get_or-set_other, set_out}
use borrow.Author.Tests.{ltb-true, ltb-false}
use Rattle.rules.specs.declared.Event.{Event}
use Rattle.rules.specs.declared.Event.TheVariants.{Wake}
use Rattle.rules.specs.State.{State}
use Rattle.rules.specs.Sound.{sound}
use Rattle.rules.specs.Events.{Answered, refused, offer_if, offer}
use Rattle.rules.specs.Lists.{Ranged, AllRanged, run}
use Rattle.rules.specs.EventFile.{Bytes}
use Rattle.rules.proofs.Basics.Views.{Two, yes_true, no_false, two, Same, equal, different, same}
use Rattle.rules.proofs.Bounds.{most, offer_most, run_narrow}
use Rattle.rules.proofs.Demands.{accepted_sound}
use Rattle.rules.proofs.Soundness.Places.{sound_of}
use Rattle.replay.proofs.Within.{run_within}
use Rattle.bits.specs.Bits.{bit, number_of}
use Rattle.bridge_card.specs.Card.{byte_of, is_block, is_pending, thread_of, read_refusal, write_refusal, raise_refusal, read_after, read}
use Rattle.bridge_card.specs.Card.{changed_after, written, write, raised, raise, line_to_take, line_cleared, unchanged, block_after}
use Rattle.bridge_card.specs.Card.{polled_with, poll_if, poll}
use Rattle.bridge_card.proofs.Waking.{wake_ranged, as_offered}
use Rattle.card_sheet.specs.declared.Command.{Command}
use Rattle.card_sheet.specs.Sheet.{Stand, Done, after_read, after_change, after_poll, after_events, done, stand_after}

-- a block of so many bytes
pub record Block (n : ℕ) (b : List ℕ) : Type 0 where
  pub size : length b ≡ n
  pub narrow : Bytes b

bits_small : (k : ℕ) (f : ℕ → Bool) → number_of k f < 2 ^ k
unfolding number_of
bits_small zero f = omega arith
bits_small (suc k) f = by (f 0) (bits_small k (λ i. f (suc i)))
  where
    by : (b : Bool) → number_of k (λ i. f (suc i)) < 2 ^ k → cond b 1 0 + 2 * number_of k (λ i. f (suc i)) < 2 ^ suc k
    by true h = omega (arith, pow-suc 2 k)
    by false h = omega (arith, pow-suc 2 k)

module _ {n : ℕ} {b : List ℕ} (x : Block n b) where
  -- one byte set anew
  stored : (at byte : ℕ) → byte < 256 → Block n (set b at byte)
  stored at byte small = record { size = length-set b at byte ∙ x.size; narrow = λ i. by i (same i at) (two (ltb at (length b))) }
    where
      by : (i : ℕ) → Same i at → Two (ltb at (length b)) → get_or (set b at byte) i 0 < 256
      by i (equal e _) (yes_true inside) =
          omega (arith, small, ap (λ (k : ℕ). get_or (set b at byte) k 0) e, get_or-set_same b at byte 0 (ltb-true at (length b) inside))
      by i (equal e _) (no_false outside) =
          omega (arith, x.narrow i, ap (λ (l : List ℕ). get_or l i 0) (set_out b at byte (ltb-false at (length b) outside)))
      by i (different e _) inside = omega (arith, x.narrow i, get_or-set_other b at i byte 0 e)

  pending : (f : ℕ → Bool) → Block n (set b 1 (byte_of f))
  pending f = stored 1 (byte_of f) (bits_small 8 f)

  changed : (number : ℕ) (l : List ℕ) → Block n l → Block n (changed_after number l b).block
  changed zero l y = y
  changed (suc number) l y = x

  written_block : (register byte : ℕ) → byte < 256 → Block n (write b register byte).block
  unfolding write
  written_block register byte small = changed (write_refusal b register) (written b register byte) (by (eqb register 1))
    where
      by : (q : Bool) → Block n (cond q (set b 1 (byte_of (λ line. is_pending b line && not (bit line byte)))) (set b register byte))
      by true = pending (λ line. is_pending b line && not (bit line byte))
      by false = stored register byte small

  raised_block : (line : ℕ) → Block n (raise b line).block
  unfolding raise
  raised_block line = changed (raise_refusal b line) (raised b line) (pending (λ other. is_pending b other || eqb other line))

  polled_block : (isSound : Bool) (s : State) → Block n (poll_if isSound b s).block
  unfolding poll_if line_cleared
  polled_block isSound s = by (is_block b) (line_to_take b)
    where
      cleared : (number line : ℕ) → Block n (block_after number b line)
      cleared zero line = pending (λ other. is_pending b other && not (eqb other line))
      cleared (suc number) line = x

      by : (q : Bool) (o : Option ℕ) → Block n (cond q (polled_with o isSound b s) (unchanged 20 b s)).block
      by true none = x
      by true (some line) = cleared (offer_if isSound (Wake (thread_of b line)) s).refusal line
      by false o = x

-- numbers of refusals
changed_number : (number : ℕ) (l b : List ℕ) → (changed_after number l b).refusal ≡ number
changed_number zero l b = refl
changed_number (suc number) l b = refl

write_small : (b : List ℕ) (register byte : ℕ) → (write b register byte).refusal ≤ 21
unfolding write write_refusal
write_small b register byte =
    rw (changed_number (write_refusal b register) (written b register byte) b)
    (most (not (is_block b)) 20 tt (most (ltb 11 register || eqb register 3) 21 tt (omega arith)))

raise_small : (b : List ℕ) (line : ℕ) → (raise b line).refusal ≤ 21
unfolding raise raise_refusal
raise_small b line =
    rw (changed_number (raise_refusal b line) (raised b line) b)
    (most (not (is_block b)) 20 tt (most (ltb 7 line) 21 tt (omega arith)))

read_small : (b : List ℕ) (register : ℕ) → Bytes b → ((read b register).refusal ≤ 21) × ((read b register).byte < 256)
unfolding read read_refusal
read_small b register narrow =
    by (read_refusal b register) (most (not (is_block b)) 20 tt (most (ltb 11 register) 21 tt (omega arith)))
  where
    shown : (q : Bool) → cond q 0 (get_or b register 0) < 256
    shown true = omega arith
    shown false = narrow register

    by : (number : ℕ) → number ≤ 21 → ((read_after number b register).refusal ≤ 21) × ((read_after number b register).byte < 256)
    by zero h = (h, shown (eqb register 3))
    by (suc number) h = (h, omega arith)

-- the links of one event
few_links : (e : Event) (s : State) → Ranged e → sound s ≡ true → (offer e s).links < 65536
unfolding run
few_links e s f h = (run_narrow (e ∷ []) s (f, tt) (sound_of s h)).0.links

-- a poll's answer: a sound machine, and narrow numbers
pub record Fine (a : Answered) : Type 0 where
  pub sound_after_lem : sound a.state ≡ true
  pub refusal : a.refusal < 100
  pub links : a.links < 65536

poll_fine : (b : List ℕ) (s : State) → sound s ≡ true → Fine (poll b s).answer
unfolding poll_if
poll_fine b s h = by (is_block b) (line_to_take b)
  where
    kept : (number : ℕ) → number < 100 → Fine (refused number s)
    kept number small = record { sound_after_lem = h; refusal = small; links = omega arith }

    woke : (n : ℕ) → Fine (offer_if (sound s) (Wake n) s)
    woke n =
        subst Fine (sym (as_offered (sound s) (Wake n) s refl))
        (record {
          sound_after_lem = accepted_sound (Wake n) s (wake_ranged n) h;
          refusal = omega (arith, offer_most (Wake n) s);
          links = few_links (Wake n) s (wake_ranged n) h;
        })

    by : (q : Bool) (o : Option ℕ) → Fine (cond q (polled_with o (sound s) b s) (unchanged 20 b s)).answer
    by true none = kept 22 (omega arith)
    by true (some line) = woke (thread_of b line)
    by false o = kept 20 (omega arith)

-- between two commands
pub record Steady (n : ℕ) (w : Stand) : Type 0 where
  pub block : Block n w.block
  pub sound_now : sound w.state ≡ true
  pub ranged : AllRanged w.events

-- after one
pub record Short (n : ℕ) (d : Done) : Type 0 where
  pub steady : Steady n (stand_after d)
  pub refusal : d.answer.refusal < 100
  pub links : d.answer.links < 100000000
  pub byte : d.byte < 256

pub short : {n : ℕ} (c : Command) (w : Stand) → c.a < 256 → c.b < 256 → Steady n w → Short n (done c w)
unfolding done
short {n} c w small-a small_b x = by (eqb c.op 0) (eqb c.op 1) (eqb c.op 2) (eqb c.op 3)
  where
    unmoved : (number byte : ℕ) (b : List ℕ) → number ≤ 21 → byte < 256 → Block n b
        → Short n (record { block = b; answer = record { state = w.state; refusal = number; links = 0 }; events = w.events; byte = byte })
    unmoved number byte b few narrow y =
        record {
          steady = record { block = y; sound_now = x.sound_now; ranged = x.ranged };
          refusal = omega arith;
          links = omega arith;
          byte = narrow;
        }

    reads : Short n (after_read (read w.block c.a) w)
    reads =
        let small = read_small w.block c.a x.block.narrow in
        unmoved (read w.block c.a).refusal (read w.block c.a).byte w.block small.0 small.1 x.block

    polls : Short n (after_poll (poll w.block w.state) w)
    polls =
        let fine = poll_fine w.block w.state x.sound_now in
        record {
          steady =
              record {
                block = polled_block x.block (sound w.state) w.state;
                sound_now = fine.sound_after_lem;
                ranged = x.ranged;
              };
          refusal = fine.refusal;
          links = omega (arith, fine.links);
          byte = omega arith;
        }

    runs : Short n (after_events c.a w)
    runs =
        let ran = run_within c.a w.events w.state small-a x.ranged x.sound_now in
        record {
          steady = record { block = x.block; sound_now = ran.sound_after_lem; ranged = ran.ranged };
          refusal = omega arith;
          links = ran.links;
          byte = omega arith;
        }

    by : (q0 q1 q2 q3 : Bool) → Short n
        (cond q0 (after_read (read w.block c.a) w)
        (cond q1 (after_change (write w.block c.a c.b) w)
        (cond q2 (after_change (raise w.block c.a) w)
        (cond q3 (after_poll (poll w.block w.state) w) (after_events c.a w)))))
    by true q1 q2 q3 = reads
    by false true q2 q3 =
        unmoved (write w.block c.a c.b).refusal 0 (write w.block c.a c.b).block
        (write_small w.block c.a c.b) (omega arith) (written_block x.block c.a c.b small_b)
    by false false true q3 =
        unmoved (raise w.block c.a).refusal 0 (raise w.block c.a).block (raise_small w.block c.a) (omega arith)
        (raised_block x.block c.a)
    by false false false true = polls
    by false false false false = runs
