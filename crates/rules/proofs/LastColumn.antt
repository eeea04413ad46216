-- The plain machine's key is the key, each line without its last column: no line feed stands within a line and no space within a number,
-- so of every line the space in front of the links is the last, and leaving it out with what follows leaves the other columns.
use Prim.Native.Nat.{ℕ, zero, suc, ◌+◌, ◌/◌, ◌%◌, ◌<◌}
use native.Mathlib.Omega.{arith}
use mathlib.Core.Path.{◌≡◌, refl, sym, ap, ◌∙◌}
use mathlib.Core.Bool.{Bool, true, false, not}
use mathlib.Core.List.{List, [], ◌∷◌, ◌++◌, append_assoc}
use lib.Dec.{ltb, eqb}
use borrow.Author.Tests.{ne_eqb}
use Rattle.rules.specs.declared.Running.{Running}
use Rattle.rules.specs.declared.Running.TheVariants.{Nothing, Runs}
use Rattle.rules.specs.State.{empty}
use Rattle.rules.specs.Events.{Answered}
use Rattle.rules.specs.Lists.{run}
use Rattle.rules.specs.EventFile.{Bytes, file_refusal, events_of}
use Rattle.rules.specs.Key.{bytes, digit, digits, decimal, verdict_word, running_columns, columns, line, lines, key_after, key}
use Rattle.rules.specs.Key.{short_lines, short_key_after, short_key, plain_key, no_space_left, without_last_from, without_last, but_last}
use Rattle.rules.proofs.Basics.Views.{and_false_right}
use Rattle.rules.proofs.Demands.{columns_plain}

-- a key of two lines, computed
two_lines_lem : without_last (bytes "1 ok 0 - - 0 0\n12 no 9 3 5 1 16\n") ≡ bytes "1 ok 0 - - 0\n12 no 9 3 5 1\n"
unfolding bytes no_space_left without_last_from
two_lines_lem = refl

-- THE BYTES THAT DO NOT STAND IN A LIST. c is a line feed (10) or a space (32).
data Without (c : ℕ) : List ℕ → Type 0 where
  none : Without c []
  other : {b : ℕ} {l : List ℕ} → eqb b c ≡ false → Without c l → Without c (b ∷ l)

infixl 65 ◌joins◌
◌joins◌ : {c : ℕ} {a b : List ℕ} → Without c a → Without c b → Without c (a ++ b)
none joins g = g
other e h joins g = other e (h joins g)

-- every byte of a decimal is 48 or more
one_digit : (c : ℕ) → c < 48 → (n : ℕ) → Without c (digit n ∷ [])
one_digit c h n = other (ne_eqb (digit n) c (λ e. omega arith)) none

all_digits : (c : ℕ) → c < 48 → (k n : ℕ) (last : Bool) → Without c (digits k n last)
unfolding digits
all_digits c h zero n last = none
all_digits c h (suc k) n true = one_digit c h n
all_digits c h (suc k) n false = all_digits c h k (n / 10) (ltb (n / 10) 10) joins one_digit c h (n % 10)

in_decimal : (c : ℕ) → c < 48 → (n : ℕ) → Without c (decimal n)
unfolding decimal
in_decimal c h n = all_digits c h (suc n) n (ltb n 10)

-- the columns before the last
space : Without 10 (bytes " ")
unfolding bytes
space = other refl none

number_column : (n : ℕ) → Without 10 (decimal n)
number_column n = in_decimal 10 (omega arith) n

verdict_column : (n : ℕ) → Without 10 (verdict_word n)
unfolding bytes
verdict_column zero = other refl (other refl none)
verdict_column (suc n) = other refl (other refl none)

running_part : (r : Running) → Without 10 (running_columns r)
unfolding bytes
running_part Nothing = other refl (other refl (other refl (other refl (other refl none))))
running_part (Runs n t count) = number_column n joins space joins number_column t joins space joins number_column count

in_columns : (n k : ℕ) (r : Running) → Without 10 (columns n k r)
unfolding columns
in_columns n k r =
    number_column n joins space joins verdict_column k joins space joins number_column k joins space joins running_part r

-- WHAT STAYS OF A LINE. A space that another follows on its line is not the last,
another_space : {l : List ℕ} (r : List ℕ) → Without 10 l → no_space_left (l ++ (32 ∷ r)) ≡ false
unfolding no_space_left
another_space r none = refl
another_space r (other {b} e h) = rw (e, another_space r h) (and_false_right (not (eqb b 32)) false refl)

-- so what stands before it stays;
before_stays : {l : List ℕ} (r : List ℕ) → Without 10 l → without_last_from false (l ++ (32 ∷ r)) ≡ l ++ without_last_from false (32 ∷ r)
unfolding without_last_from
before_stays r none = refl
before_stays r (other {b} e h) =
    rw (e, another_space r h, and_false_right (eqb b 32) false refl) (ap (λ (x : List ℕ). b ∷ x) (before_stays r h))

-- a number up to the line feed holds no space,
no_space : {d : List ℕ} (r : List ℕ) → Without 10 d → Without 32 d → no_space_left (d ++ (10 ∷ r)) ≡ true
unfolding no_space_left
no_space r none none = refl
no_space r (other e h) (other f g) = rw (e, f) (no_space r h g)

-- and is left out
number_goes : {d : List ℕ} (r : List ℕ) → Without 10 d → without_last_from true (d ++ (10 ∷ r)) ≡ 10 ∷ without_last_from false r
unfolding without_last_from
number_goes r none = refl
number_goes r (other e h) = rw e (number_goes r h)

last_goes : {d : List ℕ} (r : List ℕ) → Without 10 d → Without 32 d
    → without_last_from false (32 ∷ (d ++ (10 ∷ r))) ≡ 10 ∷ without_last_from false r
unfolding without_last_from
last_goes r h g = rw (no_space r h g) (number_goes r h)

-- THE KEY, line by line: the columns stay, the space and the links behind them go
line_cut : {l d : List ℕ} (r : List ℕ) → Without 10 l → Without 10 d → Without 32 d
    → without_last (l ++ bytes " " ++ d ++ bytes "\n" ++ r) ≡ l ++ bytes "\n" ++ without_last r
unfolding bytes
line_cut {l} {d} r front number word =
    simp append_assoc (before_stays (d ++ (10 ∷ r)) front ∙ ap (λ (x : List ℕ). l ++ x) (last_goes r number word))

pub short_cut : (number : ℕ) (l : List Answered) → without_last (lines number l) ≡ short_lines number l
unfolding without_last_from line lines short_lines
short_cut number [] = refl
short_cut number (a ∷ rest) =
    line_cut (lines (number + 1) rest)
    (in_columns number a.refusal a.state.running)
    (number_column a.links)
    (in_decimal 32 (omega arith) a.links)
    ∙ ap (λ (x : List ℕ). columns number a.refusal a.state.running ++ bytes "\n" ++ x) (short_cut (number + 1) rest)

cut_after : (k : ℕ) (file : List ℕ) → but_last k (key_after k file) ≡ short_key_after k file
cut_after zero file = short_cut 1 (run (events_of file) empty)
cut_after (suc k) file = refl

pub but_last_lem : (file : List ℕ) → but_last (file_refusal file) (key file) ≡ short_key file
unfolding key short_key
but_last_lem file = cut_after (file_refusal file) file

-- THE BYTES. For every string of bytes the plain machine's key is the key, each line without its last column.
pub plain_but_last : (file : List ℕ) → Bytes file → plain_key file ≡ but_last (file_refusal file) (key file)
plain_but_last file h = sym (but_last_lem file ∙ columns_plain file h)
