-- The lines put so far and those of the intervals that are left make the whole.
use Prim.Native.Nat.{ℕ, suc, ◌+◌, ◌-◌, ◌*◌, ◌/◌, ◌≤◌, ◌<◌}
use native.Mathlib.Omega.{arith}
use mathlib.Core.Path.{◌≡◌, sym, ap, ◌∙◌}
use mathlib.Core.List.{List, ◌++◌}
use lib.ListN.{length}
use Rattle.std.proofs.Common.{rules}
use Rattle.std.specs.Prelude.{⊤, Result}
use Rattle.ranking_table.specs.declared.Row.{Row}
use Rattle.ranking_table.specs.declared.Refused.{Refused}
use Rattle.ranking_table.specs.Ranking.{Answer, AnswersBy, answer_of, judged_of, fault, lookup}
use Rattle.text.specs.Put.{Put}
use Rattle.text.proofs.Putting.{Going, begin, same_left, more, done}
use Rattle.ranking_sheet.specs.Sheet.{word_at, intervals_at, intervals_from, intervals_in, input_refusal, answer_line, answer_lines}
use Rattle.ranking_sheet.proofs.Inputs.{not_long, not_short}

-- of n intervals, from start on, k are looked up
pub record Answering (b : List ℕ) (rows : List Row) (before now : List ℕ) (start n k at : ℕ) : Type 0 where
  pub room : start + 2 * n ≤ 65536
  pub inside : k ≤ n
  pub going :
      Going before now 0 at (answer_lines rows (intervals_from b (start + 2 * k) (n - k))) (answer_lines rows (intervals_in b))

pub answer_none : (b : List ℕ) (rows : List Row) (out : List ℕ) {start n : ℕ} → input_refusal b ≡ 0 → start ≡ intervals_at b
    → n ≡ (length b - start) / 2 → Answering b rows out out start n 0 0
answer_none b rows out {start} {n} accepted p e =
    let lines : ℕ → ℕ → List ℕ = λ at m. answer_lines rows (intervals_from b at m) in
    let none : start + 2 * 0 ≡ intervals_at b = omega (arith, p) in
    let all : n - 0 ≡ (length b - intervals_at b) / 2 = omega (arith, e, p) in
    record {
      room = omega (arith, not_long b accepted, not_short b accepted);
      inside = omega arith;
      going = same_left (begin out 0 (lines (intervals_at b) ((length b - intervals_at b) / 2)))
          (ap (lines (intervals_at b)) (sym all) ∙ ap (λ (at : ℕ). lines at (n - 0)) (sym none));
    }

-- a judged table's answer is the lookup's
pub by_lookup : (rows : List Row) (i : ℕ) (judged : Result ⊤ Refused) (a : Result ℕ Refused) → judged_of judged ≡ fault rows
    → AnswersBy (λ x y. y ≡ x) judged rows i a → answer_of a ≡ lookup rows i
unfolding lookup
by_lookup rows i judged a j h = search rules

module _ {b : List ℕ} {rows : List Row} {before now : List ℕ} {start n k at : ℕ} (a : Answering b rows before now start n k at) where
  pub answer_one : k < n → {answer : Answer} {i : ℕ} {next : List ℕ} {to : ℕ} → i ≡ word_at b (start + 2 * k) → answer ≡ lookup rows i
      → Put now next at to (answer_line answer) → Answering b rows before next start n (k + 1) to
  unfolding intervals_from answer_lines
  answer_one some {answer} {i} is looked-up p =
      let one : n - k ≡ suc (n - (k + 1)) = omega arith in
      let place : start + 2 * k + 2 ≡ start + 2 * (k + 1) = omega arith in
      let rest = answer_lines rows (intervals_from b (start + 2 * (k + 1)) (n - (k + 1))) in
      let first = answer_line (lookup rows (word_at b (start + 2 * k))) in
      let line : answer ≡ lookup rows (word_at b (start + 2 * k)) = looked-up ∙ ap (lookup rows) is in
      record {
        room = a.room;
        inside = omega arith;
        going = more a.going (answer_line answer) {rest = rest} p
            (ap (λ (m : ℕ). answer_lines rows (intervals_from b (start + 2 * k) m)) one
            ∙ ap (λ (at : ℕ). first ++ answer_lines rows (intervals_from b at (n - (k + 1)))) place
            ∙ ap (λ (x : Answer). answer_line x ++ rest) (sym line));
      }

  pub answer_all : n ≤ k → Put before now 0 at (answer_lines rows (intervals_in b))
  unfolding intervals_from answer_lines
  answer_all out =
      let none : n - k ≡ 0 = omega arith in
      done a.going (ap (λ (m : ℕ). answer_lines rows (intervals_from b (start + 2 * k) m)) none)
