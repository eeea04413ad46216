-- What is written is in the written form: an event's words are plain, and no decimal begins with a zero but that of 0.
use Prim.Native.Nat.{ℕ, zero, suc, ◌/◌, ◌%◌, ◌≤◌, ◌<◌}
use native.Mathlib.Omega.{arith}
use mathlib.Core.Path.{◌≡◌, refl, ap, ◌∙◌}
use mathlib.Core.Bool.{true, false}
use mathlib.Core.List.{List, [], ◌∷◌, ◌++◌}
use lib.Dec.{ltb, eqb}
use borrow.Author.Tests.{ltb-true, ltb-false, ne_eqb}
use Rattle.rules.specs.declared.Role.{Role}
use Rattle.rules.specs.declared.Role.TheVariants.{Client, Server}
use Rattle.rules.specs.declared.Event.{Event}
use Rattle.rules.specs.declared.Event.TheVariants.{Create, Give, Call, Reply, Block, Wake, Charge, Abort, Refill, Remove, Rank}
use Rattle.rules.specs.Tests.{all}
use Rattle.rules.specs.Key.{bytes, digit, decimal}
use Rattle.rules.proofs.Basics.Views.{Two, yes_true, no_false, two, and_true_both}
use Rattle.text.proofs.Decimals.{one_digit, last_digit}
use Rattle.list_line.specs.Reading.{parts}
use Rattle.list_writer.specs.Writing.{role_word, event_words}
use Rattle.list_text.specs.Form.{leading_zero, plain_word, space, all_plain, plain_line, plain_lines}
use Rattle.list_text.proofs.Joining.{joined, parts_between, parts_alone, Some, some_part}
use Rattle.list_text.proofs.Spelling.{word_list, Word, AllWords, words_joined, word_free, decimal_word, event_words_lem}

-- a decimal above 0 begins with another digit than 0
abbrev Begins : List ℕ → Type 0
Begins [] = ⊥
Begins (b ∷ rest) = eqb b 48 ≡ false

begins_longer : (a : List ℕ) (b : ℕ) → Begins a → Begins (a ++ (b ∷ []))
begins_longer [] b h = absurd h
begins_longer (x ∷ a) b h = h

begins_by : (k n : ℕ) → ((m : ℕ) → m < k → 1 ≤ m → Begins (decimal m)) → n < suc k → 1 ≤ n → Two (ltb n 10) → Begins (decimal n)
begins_by k n shorter h some (yes_true t) =
    let small = ltb-true n 10 t in
    rw (one_digit n small) (ne_eqb (digit (n % 10)) 48 (omega arith))
begins_by k n shorter h some (no_false t) =
    let large = ltb-false n 10 t in
    rw (last_digit n large) (begins_longer (decimal (n / 10)) (digit (n % 10)) (shorter (n / 10) (omega arith) (omega arith)))

begins_below : (k n : ℕ) → n < k → 1 ≤ n → Begins (decimal n)
begins_below zero n h some = absurd (omega arith)
begins_below (suc k) n h some = begins_by k n (begins_below k) h some (two (ltb n 10))

no_zero_first : (l : List ℕ) → Begins l → leading_zero l ≡ false
no_zero_first [] h = refl
no_zero_first (b ∷ []) h = refl
no_zero_first (b ∷ c ∷ rest) h = rw h refl

no_leading_zero : (n : ℕ) → leading_zero (decimal n) ≡ false
no_leading_zero n = by (two (ltb n 10))
  where
    by : Two (ltb n 10) → leading_zero (decimal n) ≡ false
    by (yes_true t) = rw (one_digit n (ltb-true n 10 t)) refl
    by (no_false t) =
        let large = ltb-false n 10 t in
        no_zero_first (decimal n) (begins_below (suc n) n (omega arith) (omega arith))

-- plain words
plain : (w : List ℕ) → Word w → leading_zero w ≡ false → plain_word w ≡ true
plain w x e = rw (x.some, x.plain, e) refl

decimal_plain : (n : ℕ) → plain_word (decimal n) ≡ true
decimal_plain n = plain (decimal n) (decimal_word n) (no_leading_zero n)

role_plain : (r : Role) → plain_word (role_word r) ≡ true
unfolding bytes all
role_plain Client = refl
role_plain Server = refl

cons : (w : List ℕ) (ws : List (List ℕ)) → plain_word w ≡ true → all_plain ws ≡ true → all_plain (w ∷ ws) ≡ true
unfolding all_plain
cons w ws p q = and_true_both (plain_word w) (all_plain ws) p q

none : all_plain [] ≡ true
unfolding all_plain
none = refl

words_plain : (e : Event) → all_plain (word_list e) ≡ true
unfolding bytes all
words_plain (Create n r) = cons _ _ refl (cons _ _ (decimal_plain n) (cons _ _ (role_plain r) none))
words_plain (Give t n priority quantum) =
    cons _ _ refl (cons _ _ (decimal_plain t) (cons _ _ (decimal_plain n)
    (cons _ _ (decimal_plain priority) (cons _ _ (decimal_plain quantum) none))))
words_plain (Call n) = cons _ _ refl (cons _ _ (decimal_plain n) none)
words_plain Reply = cons _ _ refl none
words_plain Block = cons _ _ refl none
words_plain (Wake n) = cons _ _ refl (cons _ _ (decimal_plain n) none)
words_plain (Charge units) = cons _ _ refl (cons _ _ (decimal_plain units) none)
words_plain (Abort n) = cons _ _ refl (cons _ _ (decimal_plain n) none)
words_plain (Refill t) = cons _ _ refl (cons _ _ (decimal_plain t) none)
words_plain (Remove n) = cons _ _ refl (cons _ _ (decimal_plain n) none)
words_plain (Rank t priority) = cons _ _ refl (cons _ _ (decimal_plain t) (cons _ _ (decimal_plain priority) none))

-- the parts of a line of words between its spaces
spaces : (w : List ℕ) (ws : List (List ℕ)) → AllWords (w ∷ ws) → parts space (joined 32 (w ∷ ws)) ≡ w ∷ ws
unfolding joined
spaces w [] a = parts_alone space w (word_free 32 (omega arith) w a.0)
spaces w (next ∷ rest) a =
    parts_between space w 32 (joined 32 (next ∷ rest)) (word_free 32 (omega arith) w a.0) refl
    ∙ ap (λ (l : List (List ℕ)). w ∷ l) (spaces next rest a.1)

line_plain : (ws : List (List ℕ)) → Some ws → AllWords ws → all_plain ws ≡ true → plain_line (joined 32 ws) ≡ true
line_plain ws (some_part w rest e) a p =
    let words : AllWords (w ∷ rest) = rw e at a in
    rw (e, spaces w rest words) (rw e at p)

first_word : (e : Event) → Some (word_list e)
first_word (Create n r) = some_part _ _ refl
first_word (Give t n priority quantum) = some_part _ _ refl
first_word (Call n) = some_part _ _ refl
first_word Reply = some_part _ _ refl
first_word Block = some_part _ _ refl
first_word (Wake n) = some_part _ _ refl
first_word (Charge units) = some_part _ _ refl
first_word (Abort n) = some_part _ _ refl
first_word (Refill t) = some_part _ _ refl
first_word (Remove n) = some_part _ _ refl
first_word (Rank t priority) = some_part _ _ refl

pub event_plain : (e : Event) → plain_line (event_words e) ≡ true
event_plain e = rw (words_joined e) (line_plain (word_list e) (first_word e) (event_words_lem e) (words_plain e))

-- a plain line before plain lines
pub line_first : (line : List ℕ) (lines : List (List ℕ)) → Some lines → plain_line line ≡ true → plain_lines lines ≡ true
    → plain_lines (line ∷ lines) ≡ true
unfolding plain_lines
line_first line lines (some_part next rest e) p q =
    rw e (and_true_both (plain_line line) (plain_lines (next ∷ rest)) p (rw e at q))
