-- What is read fits: a number is taken only up to the most there can be.
use Prim.Native.Nat.{ℕ, ◌+◌, ◌/◌, ◌%◌, ◌≤◌}
use native.Mathlib.Omega.{arith}
use mathlib.Core.Path.{◌≡◌, refl}
use mathlib.Core.Bool.{Bool, true, false, cond}
use mathlib.Core.List.{List, [], ◌∷◌}
use lib.ListN.{length}
use lib.Dec.{leb, ltb}
use borrow.Author.Tests.{le-leb, leb-true}
use Rattle.rules.specs.declared.Role.{Role}
use Rattle.rules.specs.declared.Role.TheVariants.{Client, Server}
use Rattle.rules.specs.declared.Event.{Event}
use Rattle.rules.specs.declared.Event.TheVariants.{Create, Give, Call, Reply, Block, Wake, Charge, Abort, Refill, Remove, Rank}
use Rattle.rules.specs.Tests.{all}
use Rattle.rules.specs.EventFile.{byte, role_byte, fits, all_fit, record_of}
use Rattle.rules.specs.Key.{bytes}
use Rattle.rules.proofs.Basics.Views.{and_true_both}
use Rattle.rules.proofs.Basics.Members.{all_cons}
use Rattle.list_line.specs.Reading.{Line}
use Rattle.list_line.specs.Reading.{Empty, One, Wrong}
use Rattle.list_line.specs.Reading.{parts, line_feed, words_of, uncommented, digit_byte, value, number, event_named, line_of_words, line_of}
use Rattle.list_line.specs.Reading as words
use Rattle.list_text.specs.Reading.{Answer, read, refused, with_event, after_line, read_lines, read_text}

-- bytes in a row
none : all byte [] ≡ true
unfolding all
none = refl

and_byte : (n : ℕ) (l : List ℕ) → n ≤ 255 → all byte l ≡ true → all byte (n ∷ l) ≡ true
and_byte n l h e = all_cons byte n l (le-leb n 255 h) e

role_small : (r : Role) → role_byte r ≤ 255
role_small Client = omega arith
role_small Server = omega arith

-- a line that is read holds an event that fits
abbrev Bounded : Line → Type 0
Bounded Empty = Unit {0}
Bounded (Wrong fault) = Unit {0}
Bounded (One e) = fits e ≡ true

either : (b : Bool) (x y : Line) → (b ≡ true → Bounded x) → Bounded y → Bounded (cond b x y)
either true x y f g = f refl
either false x y f g = g

bounded_last : (e : Event) → fits e ≡ true → (ws : List (List ℕ)) → Bounded (words.last e ws)
bounded_last e h [] = h
bounded_last e h (w ∷ ws) = tt

bounded_number : (most above : ℕ) (next : ℕ → List (List ℕ) → Line) → ((n : ℕ) → n ≤ most → (ws : List (List ℕ)) → Bounded (next n ws))
    → (ws : List (List ℕ)) → Bounded (number most above ws next)
bounded_number most above next h [] = tt
bounded_number most above next h (w ∷ ws) =
    either (all digit_byte w) _ _
    (λ digits. either (leb (value w) most) _ _ (λ small. h (value w) (leb-true (value w) most small) ws) tt) tt

bounded_role : (next : Role → List (List ℕ) → Line) → ((r : Role) (ws : List (List ℕ)) → Bounded (next r ws))
    → (ws : List (List ℕ)) → Bounded (words.role ws next)
bounded_role next h [] = tt
bounded_role next h (w ∷ ws) =
    either (words.same w (bytes "client")) _ _ (λ e. h Client ws) (either (words.same w (bytes "server")) _ _ (λ e. h Server ws) tt)

bounded_one : (make : ℕ → Event) → ((n : ℕ) → n ≤ 255 → fits (make n) ≡ true) → (ws : List (List ℕ))
    → Bounded (number 255 4 ws (λ n. words.last (make n)))
bounded_one make h = bounded_number 255 4 (λ n. words.last (make n)) (λ n small. bounded_last (make n) (h n small))

one_byte_lem : (n : ℕ) → n ≤ 255 → all byte (n ∷ []) ≡ true
one_byte_lem n h = and_byte n [] h none

two_bytes_lem : (n : ℕ) → n ≤ 65535 → all byte (n / 256 ∷ n % 256 ∷ []) ≡ true
two_bytes_lem n h = and_byte (n / 256) _ (omega arith) (and_byte (n % 256) [] (omega arith) none)

bounded_named : (w : List ℕ) (ws : List (List ℕ)) → Bounded (event_named w ws)
unfolding event_named
bounded_named w ws =
    either (words.same w (bytes "create")) _ _
    (λ e. bounded_number 255 4 (λ n ws. words.role ws (λ r. words.last (Create n r)))
    (λ n small. bounded_role (λ r. words.last (Create n r))
    (λ r. bounded_last (Create n r) (and_byte n _ small (and_byte (role_byte r) [] (role_small r) none)))) ws)
    (either (words.same w (bytes "give")) _ _
    (λ e. bounded_number 255 4
    (λ t ws. number 255 4 ws (λ n ws. number 255 4 ws (λ p ws. number 65535 5 ws (λ q. words.last (Give t n p q)))))
    (λ t first. bounded_number 255 4 (λ n ws. number 255 4 ws (λ p ws. number 65535 5 ws (λ q. words.last (Give t n p q))))
    (λ n second. bounded_number 255 4 (λ p ws. number 65535 5 ws (λ q. words.last (Give t n p q)))
    (λ p third. bounded_number 65535 5 (λ q. words.last (Give t n p q))
    (λ q fourth. bounded_last (Give t n p q) (and_byte t _ first (and_byte n _ second (and_byte p _ third (two_bytes_lem q
    fourth)))))))) ws)
    (either (words.same w (bytes "call")) _ _ (λ e. bounded_one Call one_byte_lem ws)
    (either (words.same w (bytes "reply")) _ _ (λ e. bounded_last Reply none ws)
    (either (words.same w (bytes "block")) _ _ (λ e. bounded_last Block none ws)
    (either (words.same w (bytes "wake")) _ _ (λ e. bounded_one Wake one_byte_lem ws)
    (either (words.same w (bytes "charge")) _ _
    (λ e. bounded_number 65535 5 (λ units. words.last (Charge units)) (λ n small. bounded_last (Charge n) (two_bytes_lem n small)) ws)
    (either (words.same w (bytes "abort")) _ _ (λ e. bounded_one Abort one_byte_lem ws)
    (either (words.same w (bytes "refill")) _ _ (λ e. bounded_one Refill one_byte_lem ws)
    (either (words.same w (bytes "remove")) _ _ (λ e. bounded_one Remove one_byte_lem ws)
    (either (words.same w (bytes "rank")) _ _
    (λ e. bounded_number 255 4 (λ t ws. number 255 4 ws (λ p. words.last (Rank t p)))
    (λ t first. bounded_one (Rank t) (λ p second. and_byte t _ first (one_byte_lem p second))) ws) tt))))))))))

bounded_words : (ws : List (List ℕ)) → Bounded (line_of_words ws)
bounded_words [] = tt
bounded_words (w ∷ ws) = bounded_named w ws

bounded_line : (line : List ℕ) → Bounded (line_of line)
unfolding line_of
bounded_line line = bounded_words (words_of (uncommented line))

-- and so does the list
abbrev pub AllBounded : Answer → Type 0
AllBounded (read es) = all_fit es ≡ true
AllBounded (refused line fault) = Unit {0}

with_bounded : (e : Event) (a : Answer) → fits e ≡ true → AllBounded a → AllBounded (with_event e a)
unfolding all_fit
with_bounded e (read es) h g = and_true_both (fits e) (all_fit es) h g
with_bounded e (refused line fault) h g = tt

either_answer : (b : Bool) (x y : Answer) → AllBounded x → AllBounded y → AllBounded (cond b x y)
either_answer true x y f g = f
either_answer false x y f g = g

after_bounded : (line filled : ℕ) (l : Line) (next : ℕ → Answer) → Bounded l → ((k : ℕ) → AllBounded (next k))
    → AllBounded (after_line line filled l next)
after_bounded line filled Empty next b h = h filled
after_bounded line filled (Wrong fault) next b h = tt
after_bounded line filled (One e) next b h =
    either_answer (ltb 65536 (filled + length (record_of e))) (refused line 7) (with_event e (next (filled + length (record_of e)))) tt
    (with_bounded e (next (filled + length (record_of e))) b (h (filled + length (record_of e))))

lines_bounded : (lines : List (List ℕ)) (line filled : ℕ) → AllBounded (read_lines line filled lines)
unfolding read_lines all_fit
lines_bounded [] line filled = refl
lines_bounded (l ∷ rest) line filled =
    after_bounded line filled (line_of l) (λ filled. read_lines (line + 1) filled rest) (bounded_line l) (lines_bounded rest (line + 1))

pub text_bounded : (text : List ℕ) → AllBounded (read_text text)
unfolding read_text
text_bounded text =
    either_answer (ltb 1048576 (length text)) (refused _ 7) (read_lines 1 5 (parts line_feed text)) tt
    (lines_bounded (parts line_feed text) 1 5)
