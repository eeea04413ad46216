-- THE THEOREM of the reason's buffer: the reason of every input of bytes has room in 4,096 bytes, because a chain has at most 129 numbers
-- and at most 128 timeslices stand above the current one, and in a sound machine all their numbers have at most three digits.
use Prim.Native.Nat.{ℕ, zero, suc, ◌+◌, ◌*◌, ◌≤◌, ◌<◌}
use native.Mathlib.Omega.{arith}
use mathlib.Core.Path.{◌≡◌, refl, sym, ap, ◌∙◌}
use mathlib.Core.List.{List, [], ◌∷◌}
use mathlib.Core.Bool.{Bool, true, false, cond}
use lib.Dec.{ltb}
use lib.ListN.{length, length-append}
use Rattle.rules.specs.declared.Hold.{Hold}
use Rattle.rules.specs.declared.Hold.TheVariants.{Ready, Idle, Blocked, Calling, Helping}
use Rattle.rules.specs.declared.Thread.{Thread}
use Rattle.rules.specs.declared.Chain.{Chain}
use Rattle.rules.specs.declared.Running.{Running}
use Rattle.rules.specs.declared.Running.TheVariants.{Nothing, Runs}
use Rattle.rules.specs.declared.Cause.TheVariants.{Waits, Loops, Spent}
use Rattle.rules.specs.Tests.{member}
use Rattle.rules.specs.State.{State, hold_at, live_at, place_at, live_thread_count}
use Rattle.rules.specs.Walk.{link_of, walk, chain_of}
use Rattle.rules.specs.Release.{is_spent}
use Rattle.rules.specs.Sound.{sound}
use Rattle.rules.specs.EventFile.{Bytes, file_refusal}
use Rattle.rules.specs.Key.{bytes}
use Rattle.rules.specs.Reason.{over_link, threads_from, threads_on, above_current, above, cause_by, cause, spaced}
use Rattle.rules.specs.Reason.{numbers_line, chain_line, cause_words, cause_line, cause_lines, reason_of, number_in, file_in, no_such_event}
use Rattle.rules.specs.Reason.{reason_refusal_after, reason_refusal, machine_after, reason_after, reason}
use Rattle.rules.proofs.Basics.Views.{and_true_left}
use Rattle.rules.proofs.Basics.Members.{member_here, member_there}
use Rattle.rules.proofs.Bounds.{most, refusal_small, sound_live_most, distinct_below}
use Rattle.rules.proofs.Reasons.{reason_true, machine_sound, file_bytes}
use Rattle.rules.proofs.Events.Hands.{active, comes_live}
use Rattle.rules.proofs.Links.Chains.{LinksLive, Found, ends, loops, found}
use Rattle.rules.proofs.Soundness.Places.{Sound, sound_of, owner, owner_live}
use Rattle.rules.proofs.Soundness.Shapes.{Sane}
use Rattle.rules.proofs.Soundness.Standings.{links_live}
use Rattle.rules.proofs.Tables.Writes.{within}
use Rattle.text.proofs.DigitCounts.{three_long, file_line_length}

-- EACH NUMBER of a list has a property
abbrev Each : (ℕ → Type 0) → List ℕ → Type 0
Each P [] = Unit {0}
Each P (n ∷ ns) = P n × Each P ns

-- so if every member has it
each_member : (P : ℕ → Type 0) (l : List ℕ) → ((n : ℕ) → member n l ≡ true → P n) → Each P l
each_member P [] f = tt
each_member P (x ∷ xs) f = (f x (member_here x x xs refl), each_member P xs (λ n h. f n (member_there n x xs h)))

-- THE CHAIN'S LINE. A number below 128
abbrev Small : ℕ → Type 0
Small n = n < 128

-- has three digits at most, and a space before it; the line feed is one byte more
spaced_length : (ns : List ℕ) → Each Small ns → length (spaced ns) ≤ 4 * length ns + 1
unfolding spaced bytes
spaced_length [] small = omega arith
spaced_length (n ∷ ns) small =
    simp length-append (omega (arith, three_long n (omega (arith, small.0)), spaced_length ns small.1))

-- the line's first number has no space before it
numbers_length : (ns : List ℕ) → Each Small ns → length (numbers_line ns) ≤ 4 * length ns + 1
unfolding bytes
numbers_length [] small = omega arith
numbers_length (n ∷ ns) small =
    simp length-append (omega (arith, three_long n (omega (arith, small.0)), spaced_length ns small.1))

-- over a link there are no more numbers than from where it leads
over_most : (next : ℕ → List ℕ) (k : ℕ) → ((m : ℕ) → length (next m) ≤ k) → (h : Hold) → length (over_link next h) ≤ k
over_most next k f Ready = omega arith
over_most next k f Idle = omega arith
over_most next k f Blocked = omega arith
over_most next k f (Calling server) = f server
over_most next k f (Helping server) = f server

-- so a chain has at most one number more than it may follow links
threads_most : (ts : List Thread) (left n : ℕ) → length (threads_from left ts n) ≤ left + 1
unfolding threads_from
threads_most ts zero n = omega arith
threads_most ts (suc left) n =
    omega (arith, over_most (threads_from left ts) (left + 1) (threads_most ts left) (hold_at ts n))

-- a live thread's number is below 128
live_small : {ts : List Thread} → Sane ts → (n : ℕ) → live_at ts n ≡ true → Small n
live_small {ts} x n live = omega (arith, within ts n live, x.full)

-- a link goes to a live thread
over_small : {ts : List Thread} → LinksLive ts → (n : ℕ) (next : ℕ → List ℕ)
    → ((m : ℕ) → live_at ts m ≡ true → Each Small (next m)) → (h : Hold) → hold_at ts n ≡ h → Each Small (over_link next h)
over_small links n next f Ready e = tt
over_small links n next f Idle e = tt
over_small links n next f Blocked e = tt
over_small links n next f (Calling server) e = f server (links.calls n server (ap link_of e))
over_small links n next f (Helping server) e = f server (links.helps n server (ap link_of e))

-- so every number on the chain of a live thread is below 128
threads_small : (ts : List Thread) → Sane ts → (left n : ℕ) → live_at ts n ≡ true → Each Small (threads_from left ts n)
unfolding threads_from
threads_small ts x zero n live = (live_small x n live, tt)
threads_small ts x (suc left) n live =
    (live_small x n live, over_small (links_live x) n (threads_from left ts) (threads_small ts x left) (hold_at ts n) refl)

-- the line has at most 129 numbers, so at most 4 × 129 + 1 bytes
chain_length : (s : State) → Sound s → (r : Running) → s.running ≡ r → length (chain_line s r) ≤ 517
unfolding threads_on bytes
chain_length s x Nothing e = omega arith
chain_length s x (Runs n t count) e =
    let sane = x.mid.shape.sane in
    let live = owner_live s x.mid.shape t (active s x n t count e).listed in
    let small = threads_small s.threads sane (live_thread_count s.threads) (owner s t) live in
    omega (
      arith,
      numbers_length (threads_from (live_thread_count s.threads) s.threads (owner s t)) small,
      threads_most s.threads (live_thread_count s.threads) (owner s t),
      sound_live_most s x,
    )

-- THE LINE OF A TIMESLICE. Its walk ends at a live thread, or is a loop, which has end 0.
end_small : (ts : List Thread) → Sane ts → (n : ℕ) → live_at ts n ≡ true → Small (walk ts n).end
end_small ts x n live = by (found ts (links_live x) n live)
  where
    by : Found ts n → Small (walk ts n).end
    by (ends m d p e) = rw e (live_small x m (comes_live (links_live x) live p.path))
    by (loops h e never) = rw e (omega arith)

-- the cause by its chain: `thread` and a space are 7 bytes, and three digits at most follow
by_length : (c : Chain) → Small c.end → length (cause_words (cause_by c)) ≤ 10
unfolding bytes
by_length c small = by c.looped
  where
    by : (b : Bool) → length (cause_words (cond b Loops (Waits c.end))) ≤ 10
    by true = omega arith
    by false = simp length-append (omega (arith, three_long c.end (omega (arith, small))))

-- `spent` is shorter
cause_length : (s : State) → Sane s.threads → (t : ℕ) → live_at s.threads (owner s t) ≡ true
    → length (cause_words (cause s t)) ≤ 10
unfolding cause bytes
cause_length s x t live = by (is_spent (place_at s.places t))
  where
    by : (b : Bool) → length (cause_words (cond b Spent (cause_by (chain_of s.threads s.slices t)))) ≤ 10
    by true = omega arith
    by false = by_length (chain_of s.threads s.slices t) (end_small s.threads x (owner s t) live)

-- a line of 15 bytes at most
abbrev Short : State → ℕ → Type 0
Short s t = length (cause_line t (cause s t)) ≤ 15

-- a listed timeslice has one: three digits at most, a space, the cause, and the line feed
line_short : (s : State) → Sound s → (t : ℕ) → member t s.order ≡ true → Short s t
unfolding cause_line bytes
line_short s x t listed =
    let shape = x.mid.shape in
    simp length-append
    (omega (
      arith,
      three_long t (omega (arith, shape.turns.small t listed)),
      cause_length s shape.sane t (owner_live s shape t listed),
    ))

-- THE LINES TOGETHER are as many as the timeslices above.
lines_short : (s : State) (ts : List ℕ) → Each (Short s) ts → length (cause_lines s ts) ≤ 15 * length ts
unfolding cause_lines
lines_short s [] short = omega arith
lines_short s (t ∷ ts) short = rw length-append (omega (arith, short.0, lines_short s ts short.1))

-- THE REASON OF A SOUND MACHINE: at most 517 bytes for the chain, and 128 lines of 15, because those above are different timeslices
pub reason_of_fits : (s : State) → sound s ≡ true → length (reason_of s) ≤ 4096
unfolding reason_of
reason_of_fits s h =
    let x = sound_of s h in
    let true_of = reason_true s h in
    let live : (t : ℕ) → member t (above s) ≡ true → member t s.order ≡ true =
    λ t m. and_true_left (member t s.order) (above_current s s.running t) (sym (true_of.listed t) ∙ m) in
    rw length-append
    (omega (
      arith,
      chain_length s x s.running refl,
      lines_short s (above s) (each_member (Short s) (above s) (λ t m. line_short s x t (live t m))),
      distinct_below 128 (above s) true_of.once (λ t m. x.mid.shape.turns.small t (live t m)),
    ))

-- THE REASON OF AN INPUT, refused or not. An input is refused with 14, 15, 16 or 19,
refusal_after_small : (n : ℕ) (input : List ℕ) → n ≤ 19 → reason_refusal_after n input ≤ 19
refusal_after_small zero input h = most (no_such_event (number_in input) (file_in input)) 19 tt (omega arith)
refusal_after_small (suc n) input h = h

-- so with a number of two digits
reason_refusal_small : (input : List ℕ) → reason_refusal input ≤ 19
unfolding reason_refusal
reason_refusal_small input =
    most (ltb (length input) 4) 14 tt
    (refusal_after_small (file_refusal (file_in input)) input (omega (arith, refusal_small (file_in input))))

-- by what the input is refused for
fits_after : (n : ℕ) (input : List ℕ) → Bytes input → reason_refusal input ≡ n → length (reason_after n input) ≤ 4096
fits_after zero input bs h =
    reason_of_fits (machine_after (number_in input) (file_in input)) (machine_sound (number_in input) (file_in input) (file_bytes input bs))
fits_after (suc n) input bs h = omega (arith, file_line_length (suc n) (omega (arith, reason_refusal_small input)))

-- so whatever the input, 4,096 bytes have room for what the program prints
pub reason_fits : (input : List ℕ) → Bytes input → length (reason input) ≤ 4096
unfolding reason
reason_fits input bs = fits_after (reason_refusal input) input bs refl
