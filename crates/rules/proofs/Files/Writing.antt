-- Writing: what an append answers, by the test of document 01 that decides it.
use Prim.Native.Nat.{ℕ, zero, suc, ◌+◌, ◌-◌, ◌<◌, ◌≤◌}
use mathlib.Core.Path.{◌≡◌, refl, ap, sym, ◌∙◌}
use mathlib.Core.List.{List, [], ◌∷◌}
use lib.ListN.{length, take}
use lib.Seq.{sets}
use borrow.Author.Tests.{le-ltb, lt-ltb}
use Rattle.rules.specs.declared.Event.{Event}
use Rattle.rules.specs.EventFile.{record_of, records_of, four_bytes, file_of, file_refusal}
use Rattle.rules.specs.EventFile.{started, room_refusal, append_refusal_after, append_refusal, appended_as, appended}

-- starting a file, in a buffer that is too small and in another
pub started_refused :
    (buffer : List ℕ) → length buffer < 5 → record { refusal = 17; filled = 0; buffer = buffer } ≡ started buffer
unfolding started
started_refused buffer h = simp (lt-ltb _ _ h)

pub started_accepted :
    (buffer out : List ℕ) → 5 ≤ length buffer → out ≡ sets buffer 0 (0 ∷ 0 ∷ 0 ∷ 1 ∷ 1 ∷ []) →
    record { refusal = 0; filled = 5; buffer = out } ≡ started buffer
unfolding started file_of records_of
started_accepted buffer out h e = rw (e, le-ltb _ _ h)

-- the refusals of a write, in their order
pub refused_filled : (buffer : List ℕ) (filled : ℕ) (e : Event) → length buffer < filled → 14 ≡ append_refusal buffer filled e
unfolding append_refusal
refused_filled buffer filled e h = simp (lt-ltb _ _ h)

file_first : (n : ℕ) (buffer : List ℕ) (filled : ℕ) (e : Event) → (n ≡ 0 → ⊥) → n ≡ append_refusal_after n buffer filled e
file_first zero buffer filled e h = absurd (h refl)
file_first (suc n) buffer filled e h = refl

pub refused_file :
    (buffer : List ℕ) (filled : ℕ) (e : Event) (n : ℕ) →
    filled ≤ length buffer → n ≡ file_refusal (take filled buffer) → (n ≡ 0 → ⊥) → n ≡ append_refusal buffer filled e
unfolding append_refusal
refused_file buffer filled e n within file h =
    file_first n buffer filled e h ∙ rw (le-ltb _ _ within, file)

-- then the room decides
pub refused_room :
    (buffer : List ℕ) (filled : ℕ) (e : Event) (n k : ℕ) →
    filled ≤ length buffer → n ≡ file_refusal (take filled buffer) → n ≡ 0 → k ≡ length (record_of e) →
    room_refusal (filled + k) (length buffer) ≡ append_refusal buffer filled e
unfolding append_refusal
refused_room buffer filled e n k within file h size =
    let good : file_refusal (take filled buffer) ≡ 0 = sym file ∙ h in
    rw (le-ltb _ _ within, good, size)

-- what a write answers
refused_appends :
    (n : ℕ) (buffer : List ℕ) (filled : ℕ) (e : Event) → (n ≡ 0 → ⊥) →
    record { refusal = n; filled = filled; buffer = buffer } ≡ appended_as n buffer filled e
refused_appends zero buffer filled e h = absurd (h refl)
refused_appends (suc n) buffer filled e h = refl

pub appended_refused :
    (buffer : List ℕ) (filled : ℕ) (e : Event) (n : ℕ) →
    n ≡ append_refusal buffer filled e → (n ≡ 0 → ⊥) →
    record { refusal = n; filled = filled; buffer = buffer } ≡ appended buffer filled e
unfolding appended
appended_refused buffer filled e n r h =
    refused_appends n buffer filled e h ∙ ap (λ (x : ℕ). appended_as x buffer filled e) r

pub appended_accepted :
    (buffer out : List ℕ) (filled : ℕ) (e : Event) (n k : ℕ) →
    n ≡ append_refusal buffer filled e → n ≡ 0 → k ≡ length (record_of e) →
    out ≡ sets (sets buffer filled (record_of e)) 0 (four_bytes (filled + k - 4)) →
    record { refusal = 0; filled = filled + k; buffer = out } ≡ appended buffer filled e
unfolding appended
appended_accepted buffer out filled e n k r h size stored =
    rw (stored, size) (ap (λ (x : ℕ). appended_as x buffer filled e) (sym h ∙ r))
