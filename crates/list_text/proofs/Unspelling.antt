-- The other way: words without a leading zero that are read as an event are the event's own words, because a number is its value's decimal.
use Prim.Native.Nat.{ℕ}
use Prim.Native.String.{String}
use native.Mathlib.Omega.{arith}
use mathlib.Core.Path.{◌≡◌, refl, sym, ap, ap₂, ◌∙◌}
use mathlib.Core.Bool.{Bool, true, false, cond, not}
use mathlib.Core.List.{List, [], ◌∷◌}
use lib.Dec.{leb, eqb}
use borrow.Author.Tests.{eqb-true}
use Rattle.rules.specs.declared.Role.{Role}
use Rattle.rules.specs.declared.Role.TheVariants.{Client, Server}
use Rattle.rules.specs.declared.Event.{Event}
use Rattle.rules.specs.declared.Event.TheVariants.{Create, Give, Call, Reply, Block, Wake, Charge, Abort, Refill, Remove, Rank}
use Rattle.rules.specs.Tests.{all}
use Rattle.rules.specs.Key.{bytes, decimal}
use Rattle.rules.proofs.Basics.Views.{and_true_left, and_true_right, and3}
use Rattle.list_line.specs.Reading.{Line}
use Rattle.list_line.specs.Reading.{Empty, One, Wrong}
use Rattle.list_line.specs.Reading.{digit_byte, value, number, event_named}
use Rattle.list_line.specs.Reading as words
use Rattle.list_writer.specs.Writing.{role_word}
use Rattle.list_text.specs.Form.{letter_or_digit, leading_zero, is_empty, plain_word, all_plain}
use Rattle.list_text.proofs.Digits.{value_decimal}
use Rattle.list_text.proofs.Spelling.{word_list, Word, AllWords}

-- words that are equal byte for byte
pub same_true : (a b : List ℕ) → words.same a b ≡ true → a ≡ b
unfolding words.same
same_true [] [] e = refl
same_true [] (c ∷ d) e = let z : ◌≡◌ {A = ℕ} 0 1 = cc in absurd (omega arith)
same_true (a ∷ b) [] e = let z : ◌≡◌ {A = ℕ} 0 1 = cc in absurd (omega arith)
same_true (a ∷ b) (c ∷ d) e =
    ap₂ (λ (x : ℕ) (l : List ℕ). x ∷ l) (eqb-true a c (and_true_left (eqb a c) (words.same b d) e))
    (same_true b d (and_true_right (eqb a c) (words.same b d) e))

-- plain words
not_empty_lem : (w : List ℕ) → not (is_empty w) ≡ true → is_empty w ≡ false
not_empty_lem [] e = sym e
not_empty_lem (b ∷ w) e = refl

some_word : (w : List ℕ) → is_empty w ≡ false → w ≡ [] → ⊥
some_word w e h = let t : is_empty w ≡ true = rw h refl in let z : ◌≡◌ {A = ℕ} 0 1 = cc in omega arith

pub record Plain (w : List ℕ) : Type 0 where
  pub word : Word w
  pub no_zero : not (leading_zero w) ≡ true

plain_is : (w : List ℕ) → plain_word w ≡ true → Plain w
plain_is w e =
    let x = and3 (not (is_empty w)) (all letter_or_digit w) (not (leading_zero w)) e in
    record { word = record { some = not_empty_lem w x.0; plain = x.1 }; no_zero = x.2 }

abbrev pub AllPlain : List (List ℕ) → Type 0
AllPlain [] = Unit {0}
AllPlain (w ∷ ws) = Plain w × AllPlain ws

pub all_plain_lem : (ws : List (List ℕ)) → all_plain ws ≡ true → AllPlain ws
unfolding all_plain
all_plain_lem [] e = tt
all_plain_lem (w ∷ ws) e =
    (plain_is w (and_true_left (plain_word w) (all_plain ws) e), all_plain_lem ws (and_true_right (plain_word w) (all_plain ws) e))

pub all_words : (ws : List (List ℕ)) → AllPlain ws → AllWords ws
all_words [] a = tt
all_words (w ∷ ws) a = (a.0.word, all_words ws a.1)

-- a line that is read as an event has that event's words, before which `front` stood
abbrev pub Read : (List (List ℕ) → List (List ℕ)) → List (List ℕ) → Line → Type 0
Read front ws Empty = ⊥
Read front ws (Wrong fault) = Unit {0}
Read front ws (One e) = front ws ≡ word_list e

either : (front : List (List ℕ) → List (List ℕ)) (ws : List (List ℕ)) (b : Bool) (x y : Line)
    → (b ≡ true → Read front ws x) → Read front ws y → Read front ws (cond b x y)
either front ws true x y f g = f refl
either front ws false x y f g = g

read_last : (front : List (List ℕ) → List (List ℕ)) (e : Event) → front [] ≡ word_list e → (ws : List (List ℕ))
    → Read front ws (words.last e ws)
read_last front e h [] = h
read_last front e h (w ∷ ws) = tt

-- a word put back before the others
moved : (front : List (List ℕ) → List (List ℕ)) (w known : List ℕ) (ws : List (List ℕ)) (line : Line) → known ≡ w
    → Read (λ ws. front (known ∷ ws)) ws line → Read front (w ∷ ws) line
moved front w known ws Empty e r = r
moved front w known ws (Wrong fault) e r = tt
moved front w known ws (One event) e r = ap (λ (x : List ℕ). front (x ∷ ws)) (sym e) ∙ r

-- the first of the words is the decimal of its value
read_number : (front : List (List ℕ) → List (List ℕ)) (most above : ℕ) (next : ℕ → List (List ℕ) → Line)
    → ((n : ℕ) (ws : List (List ℕ)) → AllPlain ws → Read (λ ws. front (decimal n ∷ ws)) ws (next n ws))
    → (ws : List (List ℕ)) → AllPlain ws → Read front ws (number most above ws next)
read_number front most above next h [] a = tt
read_number front most above next h (w ∷ ws) a =
    either front (w ∷ ws) (all digit_byte w) _ _
    (λ digits. either front (w ∷ ws) (leb (value w) most) _ _
    (λ small. moved front w (decimal (value w)) ws (next (value w) ws)
    (value_decimal w (some_word w a.0.word.some) digits a.0.no_zero) (h (value w) ws a.1)) tt)
    tt

read_role : (front : List (List ℕ) → List (List ℕ)) (next : Role → List (List ℕ) → Line)
    → ((r : Role) (ws : List (List ℕ)) → Read (λ ws. front (role_word r ∷ ws)) ws (next r ws))
    → (ws : List (List ℕ)) → Read front ws (words.role ws next)
read_role front next h [] = tt
read_role front next h (w ∷ ws) =
    either front (w ∷ ws) (words.same w (bytes "client")) _ _
    (λ e. moved front w (bytes "client") ws (next Client ws) (sym (same_true w (bytes "client") e)) (h Client ws))
    (either front (w ∷ ws) (words.same w (bytes "server")) _ _
    (λ e. moved front w (bytes "server") ws (next Server ws) (sym (same_true w (bytes "server") e)) (h Server ws)) tt)

-- each kind, after its name
abbrev after : String → List (List ℕ) → List (List ℕ)
after name ws = bytes name ∷ ws

read_one : (front : List (List ℕ) → List (List ℕ)) (make : ℕ → Event) (most above : ℕ)
    → ((n : ℕ) → front (decimal n ∷ []) ≡ word_list (make n))
    → (ws : List (List ℕ)) → AllPlain ws → Read front ws (number most above ws (λ n. words.last (make n)))
read_one front make most above h =
    read_number front most above (λ n. words.last (make n)) (λ n ws a. read_last (λ ws. front (decimal n ∷ ws)) (make n) (h n) ws)

read_create : (ws : List (List ℕ)) → AllPlain ws → Read (after "create") ws (words.create ws)
read_create =
    read_number (after "create") 255 4 (λ n ws. words.role ws (λ r. words.last (Create n r)))
    (λ n ws a. read_role (λ ws. after "create" (decimal n ∷ ws)) (λ r. words.last (Create n r))
    (λ r ws. read_last (λ ws. after "create" (decimal n ∷ role_word r ∷ ws)) (Create n r) refl ws) ws)

read_give : (ws : List (List ℕ)) → AllPlain ws → Read (after "give") ws (words.give ws)
read_give =
    read_number (after "give") 255 4
    (λ t ws. number 255 4 ws (λ n ws. number 255 4 ws (λ p ws. number 65535 5 ws (λ q. words.last (Give t n p q)))))
    (λ t ws a. read_number (λ ws. after "give" (decimal t ∷ ws)) 255 4
    (λ n ws. number 255 4 ws (λ p ws. number 65535 5 ws (λ q. words.last (Give t n p q))))
    (λ n ws a. read_number (λ ws. after "give" (decimal t ∷ decimal n ∷ ws)) 255 4
    (λ p ws. number 65535 5 ws (λ q. words.last (Give t n p q)))
    (λ p. read_one (λ ws. after "give" (decimal t ∷ decimal n ∷ decimal p ∷ ws)) (Give t n p) 65535 5 (λ q. refl)) ws a) ws a)

read_rank : (ws : List (List ℕ)) → AllPlain ws → Read (after "rank") ws (words.rank ws)
read_rank =
    read_number (after "rank") 255 4 (λ t ws. number 255 4 ws (λ p. words.last (Rank t p)))
    (λ t. read_one (λ ws. after "rank" (decimal t ∷ ws)) (Rank t) 255 4 (λ p. refl))

pub read_named : (w : List ℕ) (ws : List (List ℕ)) → AllPlain ws → Read (λ ws. ws) (w ∷ ws) (event_named w ws)
unfolding event_named
read_named w ws a =
    is "create" (words.create ws) _ (read_create ws a)
    (is "give" (words.give ws) _ (read_give ws a)
    (is "call" (words.call ws) _ (read_one (after "call") Call 255 4 (λ n. refl) ws a)
    (is "reply" (words.last Reply ws) _ (read_last (after "reply") Reply refl ws)
    (is "block" (words.last Block ws) _ (read_last (after "block") Block refl ws)
    (is "wake" (words.wake ws) _ (read_one (after "wake") Wake 255 4 (λ n. refl) ws a)
    (is "charge" (words.charge ws) _ (read_one (after "charge") Charge 65535 5 (λ n. refl) ws a)
    (is "abort" (words.abort ws) _ (read_one (after "abort") Abort 255 4 (λ n. refl) ws a)
    (is "refill" (words.refill ws) _ (read_one (after "refill") Refill 255 4 (λ n. refl) ws a)
    (is "remove" (words.remove ws) _ (read_one (after "remove") Remove 255 4 (λ n. refl) ws a)
    (is "rank" (words.rank ws) (Wrong 1) (read_rank ws a) tt))))))))))
  where
    is : (name : String) (x y : Line) → Read (after name) ws x → Read (λ ws. ws) (w ∷ ws) y
        → Read (λ ws. ws) (w ∷ ws) (cond (words.same w (bytes name)) x y)
    is name x y f g =
        either (λ ws. ws) (w ∷ ws) (words.same w (bytes name)) x y
        (λ e. moved (λ ws. ws) w (bytes name) ws x (sym (same_true w (bytes name) e)) f) g
