-- Laws of `Put`: a text after another is one text, because what the first leaves without room the second leaves too.
use Prim.Native.Nat.{ℕ, zero, suc, ◌+◌, ◌-◌, ◌≤◌, ◌<◌}
use native.Mathlib.Nat.{add-zero, zero-add}
use native.Mathlib.Numerals.{unary_clauses}
use native.Mathlib.Omega.{arith}
use mathlib.Core.Path.{◌≡◌, refl, sym, ap, ◌∙◌}
use mathlib.Core.List.{List, [], ◌∷◌, ◌++◌, append_assoc, append-nil}
use lib.Dec.{ltb}
use lib.ListN.{length, take, drop, length-append, length-take, length-drop, take-append-drop}
use lib.Seq.{take_at, drop_at, drop-drop, length-take-le, take-nil, take_all}
use borrow.Author.Tests.{ltb-true, ltb-false}
use Rattle.rules.proofs.Basics.Views.{Two, yes_true, no_false, two}
use Rattle.text.specs.Put.{fitting, Put}

-- where there is room, the text stands at the buffer's front, and every other byte stays
pub at_front : {before after : List ℕ} {to : ℕ} {text : List ℕ} → length text ≤ length before → Put before after 0 to text
    → (to ≡ length text) × (after ≡ text ++ drop (length text) before)
at_front {before} {after} {to} {text} room p =
    let whole : fitting before 0 text ≡ text = take_all (length before - 0) text (omega arith) in
    let end : to ≡ length text = rw zero-add at (p.end ∙ ap (λ (l : List ℕ). 0 + length l) whole) in (
      end,
      p.bytes ∙ ap (λ (l : List ℕ). l ++ drop to before) whole ∙ ap (λ (n : ℕ). text ++ drop n before) end,
    )

-- a put by what has room
written : {before after : List ℕ} {at to : ℕ} {text : List ℕ} (part : List ℕ) → fitting before at text ≡ part
    → after ≡ take at before ++ part ++ drop to before → to ≡ at + length part → Put before after at to text
written {before} {after} {at} {to} part e bytes end =
    record {
      bytes = bytes ∙ ap (λ (l : List ℕ). take at before ++ l ++ drop to before) (sym e);
      end = end ∙ ap (λ (l : List ℕ). at + length l) (sym e);
    }

-- nothing put
nothing : (before : List ℕ) (at : ℕ) (text : List ℕ) → fitting before at text ≡ [] → Put before before at at text
nothing before at text e = written [] e (sym (simp (append-nil, take-append-drop))) (sym (add-zero at))

pub put_none : (before : List ℕ) (at : ℕ) → Put before before at at []
put_none before at = nothing before at [] (take-nil (length before - at))

-- past the end nothing is put
pub put_past : (before : List ℕ) (at : ℕ) (text : List ℕ) → length before ≤ at → Put before before at at text
put_past before at text past =
    let none : length before - at ≡ 0 = omega arith in
    nothing before at text (ap (λ (n : ℕ). take n text) none)

-- the buffer keeps its length
pub keeps : {a b : List ℕ} {i j : ℕ} {xs : List ℕ} → Put a b i j xs → length b ≡ length a
keeps {a} {b} {i} {j} {xs} p =
    ap length p.bytes
    ∙ simp (length-append, length-take, length-drop) (omega (arith, p.end, length-take (length a - i) xs))

-- one text and then another, cut off: the second has what room the first leaves
cut : (n : ℕ) (xs ys : List ℕ) → take n (xs ++ ys) ≡ take n xs ++ take (n - length (take n xs)) ys
cut zero xs ys = refl
cut (suc n) [] ys = simp unary_clauses
cut (suc n) (x ∷ xs) ys = simp unary_clauses (ap (λ (l : List ℕ). x ∷ l) (cut n xs ys))

-- the bytes up to its end, and those from any place after it on
module _ {a b : List ℕ} {i j : ℕ} {xs : List ℕ} (inside : i ≤ length a) (p : Put a b i j xs) where
  ends : length (take i a ++ fitting a i xs) ≡ j
  ends = length-append (take i a) (fitting a i xs) ∙ omega (arith, length-take-le i a inside, p.end)

  front : take j b ≡ take i a ++ fitting a i xs
  front = rw p.bytes (take_at (take i a ++ fitting a i xs) (drop j a) j ends)

  rest : (n : ℕ) → drop (j + n) b ≡ drop (j + n) a
  rest n =
      sym (drop-drop n j b)
      ∙ ap (λ (l : List ℕ). drop n l) (ap (λ (l : List ℕ). drop j l) p.bytes ∙ drop_at (take i a ++ fitting a i xs) (drop j a) j ends)
      ∙ drop-drop n j a

-- a put past the end changes nothing
stays : {a b : List ℕ} {i j : ℕ} {xs : List ℕ} → length a ≤ i → Put a b i j xs → (b ≡ a) × (j ≡ i)
stays {a} {b} {i} {j} {xs} past p =
    let none : length a - i ≡ 0 = omega arith in
    let cut_off : fitting a i xs ≡ [] = ap (λ (n : ℕ). take n xs) none in
    let end : j ≡ i = p.end ∙ ap (λ (l : List ℕ). i + length l) cut_off ∙ add-zero i in (
      p.bytes ∙ ap (λ (l : List ℕ). take i a ++ l ++ drop j a) cut_off ∙ ap (λ (n : ℕ). take i a ++ [] ++ drop n a) end
          ∙ simp (append-nil, take-append-drop),
      end,
    )

-- one text and then another
infixl 40 ◌then◌
pub ◌then◌ : {a b c : List ℕ} {i j k : ℕ} {xs ys : List ℕ} → Put a b i j xs → Put b c j k ys → Put a c i k (xs ++ ys)
◌then◌ {a} {b} {c} {i} {j} {k} {xs} {ys} p q = by (two (ltb (length a) i))
  where
    by : Two (ltb (length a) i) → Put a c i k (xs ++ ys)
    by (yes_true test) =
        let past : length a < i = ltb-true (length a) i test in
        let first = stays (omega arith) p in
        let second = stays (omega (arith, ap length first.0, first.1)) q in
        rw (second.0, first.0, second.1, first.1) (put_past a i (xs ++ ys) (omega arith))
    by (no_false test) =
        let inside : i ≤ length a = ltb-false (length a) i test in
        let here = fitting a i xs in
        let there = fitting b j ys in
        let left : length b - j ≡ length a - i - length here = omega (arith, keeps p, p.end) in
        written (here ++ there) (cut (length a - i) xs ys ∙ ap (λ (n : ℕ). here ++ take n ys) (sym left))
        (q.bytes
        ∙ ap (λ (l : List ℕ). l ++ there ++ drop k b) (front inside p)
        ∙ ap (λ (l : List ℕ). take i a ++ here ++ there ++ l) (rw q.end (rest inside p (length there)))
        ∙ ap (λ (l : List ℕ). l ++ drop k a) (append_assoc (take i a) here there))
        (omega (arith, p.end, q.end, length-append here there))

-- the same text in other words
pub reading : {a b : List ℕ} {i j : ℕ} {xs ys : List ℕ} → xs ≡ ys → Put a b i j xs → Put a b i j ys
reading e p = rw e at p

-- `then` by a name that a tactic's list takes
pub joined : {a b c : List ℕ} {i j k : ℕ} {xs ys : List ℕ} → Put a b i j xs → Put b c j k ys → Put a c i k (xs ++ ys)
joined p q = p then q
