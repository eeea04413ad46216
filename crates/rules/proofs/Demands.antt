-- THE THEOREMS about document 01's definitions: demands 1 and 3 and the link bound. Every name is defined in specs/ or a few lines above.
use Prim.Native.Nat.{ℕ, zero, suc, ◌≤◌, ◌*◌, ◌+◌}
use mathlib.Core.Path.{◌≡◌, refl, sym, ap, ◌∙◌}
use mathlib.Core.List.{List, [], ◌∷◌, ◌++◌, map}
use mathlib.Core.Bool.{Bool, true, false}
use lib.ListN.{length}
use Rattle.rules.specs.declared.Event.{Event}
use Rattle.rules.specs.State.{State, Plain, forget, empty, live_thread_count}
use Rattle.rules.specs.Sound.{sound}
use Rattle.rules.specs.Refusals.{refusal}
use Rattle.rules.specs.Events.{Answered, dispatch_after, dispatch, offer_if, offer}
use Rattle.rules.specs.Plain.{PlainAnswered, empty_plain, plain_offer}
use Rattle.rules.specs.Lists.{Ranged, AllRanged, run, after, plain_run, Seen, seen, plain_seen, links_of}
use Rattle.rules.specs.EventFile.{Bytes, file_refusal, events_of}
use Rattle.rules.specs.Key.{bytes, columns, short_lines, short_key_after, short_key, plain_lines, plain_key_after, plain_key}
use Rattle.rules.proofs.Computing.{computing}
use Rattle.rules.proofs.Soundness.Places.{sound_of, of_sound}
use Rattle.rules.proofs.Agreement.{Agrees, agrees}
use Rattle.rules.proofs.Files.Records.{all_ranged}
use Rattle.rules.proofs.Files.Inverse.{events_fit}

-- DEMAND 1, accepted. From every sound machine every accepted event gives a sound machine.
pub accepted_sound : (e : Event) (s : State) → Ranged e → sound s ≡ true → sound (offer e s).state ≡ true
accepted_sound e s f h = of_sound (offer e s).state (agrees e s (sound_of s h) f).sound

-- so every list leaves a sound machine
pub after_sound : (es : List Event) (s : State) → AllRanged es → sound s ≡ true → sound (after es s) ≡ true
unfolding after
after_sound [] s f h = h
after_sound (e ∷ es) s f h = after_sound es (offer e s).state f.1 (accepted_sound e s f.0 h)

-- DEMAND 1, refused. On every machine, sound or not, a refused event gives the machine as it was, and no link is followed.
refused_after : (k : ℕ) (e : Event) (s : State) → ((dispatch_after k e s).refusal ≡ 0 → ⊥)
    → ((dispatch_after k e s).state ≡ s) × ((dispatch_after k e s).links ≡ 0)
refused_after zero e s n = absurd (n refl)
refused_after (suc k) e s n = (refl, refl)

refused_if : (b : Bool) (e : Event) (s : State) → ((offer_if b e s).refusal ≡ 0 → ⊥) → ((offer_if b e s).state ≡ s) × ((offer_if b e s).links ≡ 0)
unfolding dispatch
refused_if true e s n = refused_after (refusal e (forget s)) e s n
refused_if false e s n = (refl, refl)

pub refused_same : (e : Event) (s : State) → ((offer e s).refusal ≡ 0 → ⊥) → ((offer e s).state ≡ s) × ((offer e s).links ≡ 0)
unfolding offer
refused_same e s n = refused_if (sound s) e s n

-- DEMAND 3. For every list of events of all kinds, refused ones included, from every sound machine, after each event the refusal
-- number, the running thread, the paying timeslice, the donation count and all links are the plain machine's.
seen_same : (e : Event) (s : State) → Agrees s (offer e s) (plain_offer e (forget s))
    → seen (offer e s) ≡ plain_seen (plain_offer e (forget s))
seen_same e s a =
    λ i. record { refusal = a.refusal i; running = (a.plain i).running; links = links_of (a.plain i).threads }

pub equal_from : (es : List Event) (s : State) → AllRanged es → sound s ≡ true
    → map seen (run es s) ≡ map plain_seen (plain_run es (forget s))
unfolding run plain_run
equal_from [] s f h = refl
equal_from (e ∷ es) s f h =
    let fe = f.0 in
    let a = agrees e s (sound_of s h) fe in
    let rest = equal_from es (offer e s).state f.1 (accepted_sound e s fe h) in
    λ i. seen_same e s a i ∷ (rest ∙ ap (λ (p : Plain). map plain_seen (plain_run es p)) a.plain) i

-- from the empty machine
pub empty_sound : sound empty ≡ true
unfolding computing
empty_sound = refl

pub equal : (es : List Event) → AllRanged es → map seen (run es empty) ≡ map plain_seen (plain_run es empty_plain)
equal es f = equal_from es empty f empty_sound

-- THE LINK BOUND. In each event at most L × (T + 2) links are followed, L and T counted on the plain machine before it.
abbrev pub WithinLimits : List Event → State → Plain → Type 0
WithinLimits [] s p = Unit {0}
WithinLimits (e ∷ es) s p =
    ((offer e s).links ≤ live_thread_count p.threads * (length p.order + 2)) × WithinLimits es (offer e s).state (plain_offer e p).plain

pub within_from : (es : List Event) (s : State) → AllRanged es → sound s ≡ true → WithinLimits es s (forget s)
within_from [] s f h = tt
within_from (e ∷ es) s f h =
    let fe = f.0 in
    let a = agrees e s (sound_of s h) fe in
    (a.links, rw (← a.plain) (within_from es (offer e s).state f.1 (accepted_sound e s fe h)))

pub within : (es : List Event) → AllRanged es → WithinLimits es empty empty_plain
within es f = within_from es empty f empty_sound

-- THE KEY'S COLUMNS. Of every string of bytes, accepted or refused, every column of the key but the last is the plain machine's.
seen_lines : ℕ → List Seen → List ℕ
seen_lines number [] = []
seen_lines number (a ∷ rest) = columns number a.refusal a.running ++ bytes "\n" ++ seen_lines (number + 1) rest

short_lines_lem : (number : ℕ) (l : List Answered) → short_lines number l ≡ seen_lines number (map seen l)
unfolding short_lines seen_lines
short_lines_lem number [] = refl
short_lines_lem number (a ∷ rest) = rw (short_lines_lem (number + 1) rest)

plain_lines_lem : (number : ℕ) (l : List PlainAnswered) → plain_lines number l ≡ seen_lines number (map plain_seen l)
unfolding plain_lines seen_lines
plain_lines_lem number [] = refl
plain_lines_lem number (a ∷ rest) = rw (plain_lines_lem (number + 1) rest)

columns_after : (k : ℕ) (file : List ℕ) → Bytes file → short_key_after k file ≡ plain_key_after k file
columns_after zero file bytes =
    short_lines_lem 1 (run (events_of file) empty)
    ∙ ap (seen_lines 1) (equal (events_of file) (all_ranged (events_of file) (events_fit file bytes)))
    ∙ sym (plain_lines_lem 1 (plain_run (events_of file) empty_plain))
columns_after (suc k) file bytes = refl

pub columns_plain : (file : List ℕ) → Bytes file → short_key file ≡ plain_key file
unfolding short_key plain_key
columns_plain file bytes = columns_after (file_refusal file) file bytes
