-- A scan finds the first part of a text; the other parts begin after it.
use Prim.Native.Nat.{ℕ, suc, ◌+◌, ◌-◌, ◌≤◌, ◌<◌}
use native.Mathlib.Omega.{arith}
use native.Mathlib.Numerals.{add-one}
use mathlib.Core.Path.{◌≡◌, refl, sym, ap, ap₂, ◌∙◌}
use mathlib.Core.Bool.{Bool, true, false, cond, not}
use mathlib.Core.List.{List, [], ◌∷◌}
use lib.ListN.{length, get_or, take, drop, length-drop, drop_of_length-le}
use lib.Seq.{drop-cons, drop-drop}
use Rattle.rules.proofs.Basics.Views.{Two, yes_true, no_false, two}
use Rattle.list_line.specs.Reading.{parts, hash, first_of, uncommented, blank, not_empty, words_of}
use Rattle.list_line.specs.Scanning.{end_of}

-- at a place: the scan stops here, or goes on, or the text is over
module _ (test : ℕ → Bool) (l : List ℕ) (i : ℕ) where
  pub stops_here : i < length l → test (get_or l i 0) ≡ true → end_of test (drop i l) ≡ 0
  unfolding end_of
  stops_here h e = rw (drop-cons l i 0 h, e) refl

  pub goes_on : i < length l → test (get_or l i 0) ≡ false → end_of test (drop i l) ≡ suc (end_of test (drop (i + 1) l))
  unfolding end_of
  goes_on h e = rw (drop-cons l i 0 h, e, add-one) refl

  pub is_over : length l ≤ i → end_of test (drop i l) ≡ 0
  unfolding end_of
  is_over h = rw (drop_of_length-le l h) refl

end_by : (test : ℕ → Bool) (b : ℕ) (rest : List ℕ) → end_of test rest ≤ length rest → Two (test b)
    → end_of test (b ∷ rest) ≤ length (b ∷ rest)
unfolding end_of
end_by test b rest ih (yes_true e) = rw e (omega arith)
end_by test b rest ih (no_false e) = rw e (omega arith)

pub end_within : (test : ℕ → Bool) (l : List ℕ) → end_of test l ≤ length l
unfolding end_of
end_within test [] = omega arith
end_within test (b ∷ rest) = end_by test b rest (end_within test rest) (two (test b))

-- a scan from a place inside the text ends inside it
pub scan_within : (test : ℕ → Bool) (l : List ℕ) (at : ℕ) → at ≤ length l → at + end_of test (drop at l) ≤ length l
scan_within test l at h = omega (arith, end_within test (drop at l), length-drop at l)

-- the parts after the first
unfoldable pub later : (ℕ → Bool) → List ℕ → List (List ℕ)
later test [] = []
later test (b ∷ rest) = cond (test b) (parts test rest) (later test rest)

first_by : (test : ℕ → Bool) (b : ℕ) (rest : List ℕ) → parts test rest ≡ take (end_of test rest) rest ∷ later test rest → Two (test b)
    → parts test (b ∷ rest) ≡ take (end_of test (b ∷ rest)) (b ∷ rest) ∷ later test (b ∷ rest)
unfolding parts end_of later
first_by test b rest ih (yes_true e) = rw e refl
first_by test b rest ih (no_false e) = rw (e, ih) refl

pub parts_first : (test : ℕ → Bool) (l : List ℕ) → parts test l ≡ take (end_of test l) l ∷ later test l
unfolding parts end_of later
parts_first test [] = refl
parts_first test (b ∷ rest) = first_by test b rest (parts_first test rest) (two (test b))

-- a line without its comment
pub uncommented_is : (l : List ℕ) → uncommented l ≡ take (end_of hash l) l
unfolding uncommented
uncommented_is l = ap first_of (parts_first hash l)

-- a word begins at a byte that is no blank
abbrev pub begins : ℕ → Bool
begins b = not (blank b)

-- blanks before a word
blank_skipped : (b : ℕ) (rest : List ℕ) → blank b ≡ true → words_of (b ∷ rest) ≡ words_of rest
unfolding words_of not_empty parts
blank_skipped b rest e = rw e refl

words_by : (b : ℕ) (rest : List ℕ) → not_empty (later blank rest) ≡ words_of (drop (end_of blank rest) rest) → Two (blank b)
    → not_empty (later blank (b ∷ rest)) ≡ words_of (drop (end_of blank (b ∷ rest)) (b ∷ rest))
unfolding words_of not_empty parts end_of later
words_by b rest ih (yes_true e) = rw e (sym (blank_skipped b rest e))
words_by b rest ih (no_false e) = rw e ih

later_words : (l : List ℕ) → not_empty (later blank l) ≡ words_of (drop (end_of blank l) l)
unfolding words_of not_empty parts end_of later
later_words [] = refl
later_words (b ∷ rest) = words_by b rest (later_words rest) (two (blank b))

word_begins : (b : ℕ) (rest : List ℕ) → blank b ≡ false
    → words_of (b ∷ rest) ≡ take (end_of blank (b ∷ rest)) (b ∷ rest) ∷ words_of (drop (end_of blank (b ∷ rest)) (b ∷ rest))
unfolding words_of not_empty parts end_of
word_begins b rest e =
    rw (e, parts_first blank rest) (ap (λ (ws : List (List ℕ)). (b ∷ take (end_of blank rest) rest) ∷ ws) (later_words rest))

abbrev after_blanks : List ℕ → List ℕ
after_blanks l = drop (end_of begins l) l

skip_by : (b : ℕ) (rest : List ℕ) → words_of rest ≡ words_of (after_blanks rest) → Two (blank b)
    → words_of (b ∷ rest) ≡ words_of (after_blanks (b ∷ rest))
unfolding end_of
skip_by b rest ih (yes_true e) = blank_skipped b rest e ∙ rw e ih
skip_by b rest ih (no_false e) = rw e refl

skipped : (l : List ℕ) → words_of l ≡ words_of (after_blanks l)
unfolding end_of
skipped [] = refl
skipped (b ∷ rest) = skip_by b rest (skipped rest) (two (blank b))

no_blank_by : (b : ℕ) (rest : List ℕ) → (end_of begins rest < length rest → blank (get_or rest (end_of begins rest) 0) ≡ false)
    → Two (blank b) → end_of begins (b ∷ rest) < length (b ∷ rest)
    → blank (get_or (b ∷ rest) (end_of begins (b ∷ rest)) 0) ≡ false
unfolding end_of
no_blank_by b rest ih (yes_true e) h = let shorter : suc (end_of begins rest) < suc (length rest) = rw e at h in rw e
    (ih (omega arith))
no_blank_by b rest ih (no_false e) h = rw e e

no_blank : (l : List ℕ) → end_of begins l < length l → blank (get_or l (end_of begins l) 0) ≡ false
unfolding end_of
no_blank [] h = absurd (omega arith)
no_blank (b ∷ rest) h = no_blank_by b rest (no_blank rest) (two (blank b)) h

nothing_left : (l : List ℕ) → length l ≤ end_of begins l → words_of l ≡ []
unfolding words_of not_empty parts
nothing_left l h = skipped l ∙ rw (drop_of_length-le l h) refl

first_word : (l : List ℕ) (s : ℕ) → s ≡ end_of begins l → s < length l
    → words_of l ≡ take (end_of blank (drop s l)) (drop s l) ∷ words_of (drop (end_of blank (drop s l)) (drop s l))
first_word l s e h =
    let found : blank (get_or l s 0) ≡ false = rw (← e) at (no_blank l (omega arith)) in
    skipped l ∙ ap (λ (k : ℕ). words_of (drop k l)) (sym e)
    ∙ rw (drop-cons l s 0 h) (word_begins (get_or l s 0) (drop (suc s) l) found)

-- the words from a place on: none, or one between two scans
module _ (line : List ℕ) (at start : ℕ) (starts : start ≡ at + end_of begins (drop at line)) where
  pub no_word : length line ≤ start → words_of (drop at line) ≡ []
  no_word h = nothing_left (drop at line) (omega (arith, length-drop at line))

  pub word_there : (end : ℕ) → start < length line → end ≡ start + end_of blank (drop start line)
      → words_of (drop at line) ≡ take (end - start) (drop start line) ∷ words_of (drop end line)
  word_there end h ends =
      let s = end_of begins (drop at line) in
      let there : drop s (drop at line) ≡ drop start line = drop-drop s at line ∙ ap (λ (k : ℕ). drop k line) (sym starts) in
      let size : end - start ≡ end_of blank (drop start line) = omega arith in
      first_word (drop at line) s refl (omega (arith, length-drop at line))
      ∙ ap (λ (l : List ℕ). take (end_of blank l) l ∷ words_of (drop (end_of blank l) l)) there
      ∙ ap₂ (λ (k : ℕ) (l : List ℕ). take k (drop start line) ∷ words_of l) (sym size)
      (drop-drop (end_of blank (drop start line)) start line ∙ ap (λ (k : ℕ). drop k line) (sym ends))

  pub word_within : (end : ℕ) → start < length line → end ≡ start + end_of blank (drop start line)
      → (start ≤ end) × (end ≤ length line)
  word_within end h ends = (omega arith, omega (arith, scan_within blank line start (omega arith)))
