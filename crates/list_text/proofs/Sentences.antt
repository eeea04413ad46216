-- THE THEOREM of the sentence's buffer: the sentence of every fault in a line of any number has room in 64 bytes.
use Prim.Native.Nat.{ℕ, ◌≤◌, ◌<◌}
use native.Mathlib.Omega.{arith}
use mathlib.Core.Bool.{Bool, true, false, cond}
use mathlib.Core.List.{List}
use lib.ListN.{length, length-append}
use lib.Dec.{eqb}
use Rattle.rules.specs.Key.{bytes}
use Rattle.text.proofs.DigitCounts.{twenty_long}
use Rattle.list_text.specs.Answers.{fault_words, sentence}

-- either of two short texts is short
either : {k : ℕ} (b : Bool) (xs ys : List ℕ) → length xs ≤ k → length ys ≤ k → length (cond b xs ys) ≤ k
either true xs ys x y = x
either false xs ys x y = y

fault_length : (fault : ℕ) → length (fault_words fault) ≤ 25
unfolding fault_words bytes
fault_length fault =
    either (eqb fault 1) _ _ (omega arith)
    (either (eqb fault 2) _ _ (omega arith)
    (either (eqb fault 3) _ _ (omega arith)
    (either (eqb fault 4) _ _ (omega arith)
    (either (eqb fault 5) _ _ (omega arith)
    (either (eqb fault 6) _ _ (omega arith)
    (either (eqb fault 7) _ _ (omega arith) (omega arith)))))))

pub sentence_fits : (line fault : ℕ) → line < 18446744073709551616 → length (sentence line fault) ≤ 64
unfolding sentence bytes
sentence_fits line fault h = simp length-append (omega (arith, twenty_long line h, fault_length fault))
