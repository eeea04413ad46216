-- The words of an event, and that a line of words is read as them: no word has a blank, a line feed or `#` in it.
use Prim.Native.Nat.{ℕ, ◌≤◌, ◌<◌}
use native.Mathlib.Omega.{arith}
use mathlib.Core.Path.{◌≡◌, refl, ap, ◌∙◌}
use mathlib.Core.Bool.{Bool, true, false, not, ◌&&◌}
use mathlib.Core.List.{List, [], ◌∷◌, append_assoc}
use lib.Dec.{leb, eqb}
use borrow.Author.Tests.{le-leb, leb-true, ne_eqb}
use Rattle.rules.specs.declared.Role.{Role}
use Rattle.rules.specs.declared.Role.TheVariants.{Client, Server}
use Rattle.rules.specs.declared.Event.{Event}
use Rattle.rules.specs.declared.Event.TheVariants.{Create, Give, Call, Reply, Block, Wake, Charge, Abort, Refill, Remove, Rank}
use Rattle.rules.specs.Tests.{all}
use Rattle.rules.specs.Key.{bytes, decimal}
use Rattle.rules.proofs.Basics.Views.{Two, yes_true, no_false, two, Either, first, second, or_true_cases, and_true_left, and_true_right}
use Rattle.rules.proofs.Basics.Views.{and_true_both}
use Rattle.list_line.specs.Reading.{Line}
use Rattle.list_line.specs.Reading.{One}
use Rattle.list_line.specs.Reading.{parts, hash, first_of, uncommented, blank, if_some, not_empty, words_of, digit_byte, number}
use Rattle.list_line.specs.Reading.{event_named, line_of_words, line_of}
use Rattle.list_line.specs.Reading as words
use Rattle.list_writer.specs.Writing.{role_word, event_words}
use Rattle.list_writer.proofs.Fitting.{Small}
use Rattle.list_text.specs.Form.{letter_or_digit, is_empty}
use Rattle.list_text.proofs.Joining.{joined, none_pass, parts_between, parts_alone}
use Rattle.list_text.proofs.Digits.{all_append, decimal_some, decimal_digits, decimal_value, digit_bounds}

-- the words of an event
abbrev pub word_list : Event → List (List ℕ)
word_list (Create n r) = bytes "create" ∷ decimal n ∷ role_word r ∷ []
word_list (Give t n priority quantum) = bytes "give" ∷ decimal t ∷ decimal n ∷ decimal priority ∷ decimal quantum ∷ []
word_list (Call n) = bytes "call" ∷ decimal n ∷ []
word_list Reply = bytes "reply" ∷ []
word_list Block = bytes "block" ∷ []
word_list (Wake n) = bytes "wake" ∷ decimal n ∷ []
word_list (Charge units) = bytes "charge" ∷ decimal units ∷ []
word_list (Abort n) = bytes "abort" ∷ decimal n ∷ []
word_list (Refill t) = bytes "refill" ∷ decimal t ∷ []
word_list (Remove n) = bytes "remove" ∷ decimal n ∷ []
word_list (Rank t priority) = bytes "rank" ∷ decimal t ∷ decimal priority ∷ []

pub words_joined : (e : Event) → event_words e ≡ joined 32 (word_list e)
unfolding event_words joined bytes
words_joined (Create n r) = simp append_assoc
words_joined (Give t n priority quantum) = simp append_assoc
words_joined (Call n) = refl
words_joined Reply = refl
words_joined Block = refl
words_joined (Wake n) = refl
words_joined (Charge units) = refl
words_joined (Abort n) = refl
words_joined (Refill t) = refl
words_joined (Remove n) = refl
words_joined (Rank t priority) = simp append_assoc

-- a word of letters and digits, and the bytes of a line of them
pub record Word (word : List ℕ) : Type 0 where
  pub some : is_empty word ≡ false
  pub plain : all letter_or_digit word ≡ true

abbrev pub AllWords : List (List ℕ) → Type 0
AllWords [] = Unit {0}
AllWords (word ∷ rest) = Word word × AllWords rest

all_implies : (f g : ℕ → Bool) → ((b : ℕ) → f b ≡ true → g b ≡ true) → (l : List ℕ) → all f l ≡ true → all g l ≡ true
unfolding all
all_implies f g h [] e = refl
all_implies f g h (b ∷ rest) e =
    and_true_both (g b) (all g rest) (h b (and_true_left (f b) (all f rest) e))
    (all_implies f g h rest (and_true_right (f b) (all f rest) e))

-- letters and digits are from 48 on, `#` is the only other mark from there down to 33
letter_bounds : (b : ℕ) → letter_or_digit b ≡ true → 48 ≤ b
letter_bounds b e = by (or_true_cases (leb 97 b && leb b 122) (digit_byte b) e)
  where
    by : Either (leb 97 b && leb b 122) (digit_byte b) → 48 ≤ b
    by (first h) = omega (arith, leb-true 97 b (and_true_left (leb 97 b) (leb b 122) h))
    by (second _ h) = (digit_bounds b h).0

no_blank : (b : ℕ) → letter_or_digit b ≡ true → not (blank b) ≡ true
no_blank b e =
    let low = letter_bounds b e in
    simp (ne_eqb b 32 (omega arith), ne_eqb b 9 (omega arith), ne_eqb b 13 (omega arith))

-- a mark below the digits stands in no word; if it is no space, in no line of words
module _ (mark : ℕ) (low : mark < 48) where
  abbrev test : ℕ → Bool
  test b = eqb b mark

  no_mark : (b : ℕ) → letter_or_digit b ≡ true → not (test b) ≡ true
  no_mark b e = simp (ne_eqb b mark (omega (arith, letter_bounds b e)))

  pub word_free : (w : List ℕ) → Word w → none_pass (λ b. eqb b mark) w
  word_free w x = all_implies letter_or_digit (λ b. not (test b)) no_mark w x.plain

  pub mark_free : (32 ≡ mark → ⊥) → (ws : List (List ℕ)) → AllWords ws → none_pass (λ b. eqb b mark) (joined 32 ws)
  unfolding joined all
  mark_free other [] a = refl
  mark_free other (w ∷ []) a = word_free w a.0
  mark_free other (w ∷ next ∷ rest) a =
      all_append (λ b. not (test b)) w (32 ∷ joined 32 (next ∷ rest)) (word_free w a.0)
      (and_true_both (not (test 32)) (all (λ b. not (test b)) (joined 32 (next ∷ rest))) (ap not (ne_eqb 32 mark other))
      (mark_free other (next ∷ rest) a.1))

-- the words of a line of words
some_kept : (w : List ℕ) (rest : List (List ℕ)) → is_empty w ≡ false → if_some w rest ≡ w ∷ rest
some_kept [] rest e = let z : ◌≡◌ {A = ℕ} 0 1 = cc in absurd (omega arith)
some_kept (b ∷ w) rest e = refl

no_blanks : (w : List ℕ) → Word w → none_pass blank w
no_blanks w x = all_implies letter_or_digit (λ b. not (blank b)) no_blank w x.plain

pub words_of_joined : (w : List ℕ) (ws : List (List ℕ)) → AllWords (w ∷ ws) → words_of (joined 32 (w ∷ ws)) ≡ w ∷ ws
unfolding words_of not_empty joined
words_of_joined w [] a = rw (parts_alone blank w (no_blanks w a.0)) (some_kept w [] a.0.some)
words_of_joined w (next ∷ rest) a =
    rw (parts_between blank w 32 (joined 32 (next ∷ rest)) (no_blanks w a.0) refl)
    (some_kept w (not_empty (parts blank (joined 32 (next ∷ rest)))) a.0.some
    ∙ ap (λ (l : List (List ℕ)). w ∷ l) (words_of_joined next rest a.1))

pub line_of_joined : (w : List ℕ) (ws : List (List ℕ)) → AllWords (w ∷ ws) → line_of (joined 32 (w ∷ ws)) ≡ line_of_words (w ∷ ws)
unfolding line_of uncommented
line_of_joined w ws a =
    ap (λ (l : List (List ℕ)). line_of_words (words_of (first_of l)))
    (parts_alone hash (joined 32 (w ∷ ws)) (mark_free 35 (omega arith) (omega arith) (w ∷ ws) a))
    ∙ ap line_of_words (words_of_joined w ws a)

-- every word of an event is one
digit_letter : (b : ℕ) → digit_byte b ≡ true → letter_or_digit b ≡ true
digit_letter b e = by (two (leb 97 b && leb b 122))
  where
    by : Two (leb 97 b && leb b 122) → letter_or_digit b ≡ true
    by (yes_true h) = rw h refl
    by (no_false h) = rw h e

pub decimal_word : (n : ℕ) → Word (decimal n)
decimal_word n =
    record { some = decimal_some n; plain = all_implies digit_byte letter_or_digit digit_letter (decimal n) (decimal_digits n) }

role_is_word : (r : Role) → Word (role_word r)
unfolding bytes all
role_is_word Client = record { some = refl; plain = refl }
role_is_word Server = record { some = refl; plain = refl }

pub event_words_lem : (e : Event) → AllWords (word_list e)
unfolding bytes all
event_words_lem (Create n r) = (record { some = refl; plain = refl }, (decimal_word n, (role_is_word r, tt)))
event_words_lem (Give t n priority quantum) =
    (record { some = refl; plain = refl }, (decimal_word t, (decimal_word n, (decimal_word priority, (decimal_word quantum, tt)))))
event_words_lem (Call n) = (record { some = refl; plain = refl }, (decimal_word n, tt))
event_words_lem Reply = (record { some = refl; plain = refl }, tt)
event_words_lem Block = (record { some = refl; plain = refl }, tt)
event_words_lem (Wake n) = (record { some = refl; plain = refl }, (decimal_word n, tt))
event_words_lem (Charge units) = (record { some = refl; plain = refl }, (decimal_word units, tt))
event_words_lem (Abort n) = (record { some = refl; plain = refl }, (decimal_word n, tt))
event_words_lem (Refill t) = (record { some = refl; plain = refl }, (decimal_word t, tt))
event_words_lem (Remove n) = (record { some = refl; plain = refl }, (decimal_word n, tt))
event_words_lem (Rank t priority) = (record { some = refl; plain = refl }, (decimal_word t, (decimal_word priority, tt)))

-- a decimal is read as its number
number_back : (most above n : ℕ) (rest : List (List ℕ)) (next : ℕ → List (List ℕ) → Line) → n ≤ most
    → number most above (decimal n ∷ rest) next ≡ next n rest
number_back most above n rest next h = rw (decimal_digits n, decimal_value n, le-leb n most h) refl

role_back : (r : Role) (rest : List (List ℕ)) (next : Role → List (List ℕ) → Line) → words.role (role_word r ∷ rest) next ≡ next r rest
unfolding bytes words.same
role_back Client rest next = refl
role_back Server rest next = refl

pub event_back : (e : Event) → Small e → line_of_words (word_list e) ≡ One e
unfolding event_named words.same bytes
event_back (Create n r) h =
    number_back 255 4 n (role_word r ∷ []) (λ n ws. words.role ws (λ r. words.last (Create n r))) (omega arith)
    ∙ role_back r [] (λ r. words.last (Create n r))
event_back (Give t n priority quantum) h =
    let last : ℕ → List (List ℕ) → Line = λ q. words.last (Give t n priority q) in
    let third : ℕ → List (List ℕ) → Line = λ p ws. number 65535 5 ws (λ q. words.last (Give t n p q)) in
    let second : ℕ → List (List ℕ) → Line = λ n ws. number 255 4 ws (λ p ws. number 65535 5 ws (λ q. words.last (Give t n p q))) in
    let whole : ℕ → List (List ℕ) → Line =
    λ t ws. number 255 4 ws (λ n ws. number 255 4 ws (λ p ws. number 65535 5 ws (λ q. words.last (Give t n p q)))) in
    number_back 255 4 t (decimal n ∷ decimal priority ∷ decimal quantum ∷ []) whole (omega arith)
    ∙ number_back 255 4 n (decimal priority ∷ decimal quantum ∷ []) second (omega arith)
    ∙ number_back 255 4 priority (decimal quantum ∷ []) third (omega arith)
    ∙ number_back 65535 5 quantum [] last (omega arith)
event_back (Call n) h = number_back 255 4 n [] (λ n. words.last (Call n)) (omega arith)
event_back Reply h = refl
event_back Block h = refl
event_back (Wake n) h = number_back 255 4 n [] (λ n. words.last (Wake n)) (omega arith)
event_back (Charge units) h = number_back 65535 5 units [] (λ units. words.last (Charge units)) (omega arith)
event_back (Abort n) h = number_back 255 4 n [] (λ n. words.last (Abort n)) (omega arith)
event_back (Refill t) h = number_back 255 4 t [] (λ t. words.last (Refill t)) (omega arith)
event_back (Remove n) h = number_back 255 4 n [] (λ n. words.last (Remove n)) (omega arith)
event_back (Rank t priority) h =
    number_back 255 4 t (decimal priority ∷ []) (λ t ws. number 255 4 ws (λ p. words.last (Rank t p))) (omega arith)
    ∙ number_back 255 4 priority [] (λ p. words.last (Rank t p)) (omega arith)
