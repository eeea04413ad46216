-- The shares of a file by cases. The lines of an accepted file are those of the numbers with units, since only who has paid has units.
use Prim.Native.Nat.{ℕ, suc, ◌+◌, ◌<◌, ◌≤◌}
use native.Mathlib.Numerals.{add-one}
use native.Mathlib.Omega.{arith}
use mathlib.Core.Path.{◌≡◌, refl, ap, ◌∙◌}
use mathlib.Core.List.{List, [], ◌∷◌, ◌++◌, map}
use mathlib.Core.Bool.{cond}
use lib.Dec.{ltb}
use lib.ListN.{length, get_or, drop, drop_of_length-le}
use lib.Seq.{drop-cons}
use borrow.Author.Tests.{lt-ltb, le-ltb}
use Rattle.std.specs.Prelude.{Result, Err}
use Rattle.rules.specs.declared.refusal.Refusal.{Refusal}
use Rattle.rules.specs.RefusalNumbers.{number_of, number_in}
use Rattle.rules.specs.State.{empty}
use Rattle.rules.specs.Tests.{filter}
use Rattle.rules.specs.EventFile.{Bytes, file_refusal, events_of}
use Rattle.rules.specs.Key.{file_line}
use Rattle.rules.specs.Shares.{Payment, payments_of, units_of, total, has_paid, numbers_from, payers}
use Rattle.rules.specs.Shares.{Share, share, shares_in, share_line, share_lines, shares_after, shares}
use Rattle.rules.proofs.Basics.Filters.{filter-cases}
use Rattle.rules.proofs.Soundness.Places.{sound_of}
use Rattle.rules.proofs.Files.Records.{all_ranged}
use Rattle.rules.proofs.Files.Inverse.{events_fit}
use Rattle.rules.proofs.Demands.{empty_sound}
use Rattle.rules.proofs.Payments.{AllBounded, all_bounded}
use Rattle.rules.proofs.Shares.{has_units, has_none, units_most, printed}
use Rattle.text.proofs.Refused.{refused_answer}
use Rattle.shares_sheet.specs.declared.tally.Tally.{Tally}
use Rattle.shares_sheet.specs.Tallies.{Tallied, Within, tally_lines}

-- a refused file
pub refused_shares : (file : List ℕ) {A : Type 0} {answer : Result A Refusal} {why : Refusal} → number_in answer ≡ file_refusal file
    → answer ≡ Err why → file_line (number_of why) ≡ shares file
unfolding shares
refused_shares file asked is = refused_answer (λ k. shares_after k file) (λ _. refl) asked is

abbrev share_of : List Payment → ℕ → Share
share_of ps t = share (total ps) t (units_of t ps)

module _ (ps : List Payment) (bounded : AllBounded ps) where
  -- from number t on
  lines_from : (t : ℕ) (us : List ℕ) → ((i : ℕ) → get_or us i 0 ≡ units_of (t + i) ps)
      → tally_lines (total ps) t us ≡ share_lines (map (share_of ps) (filter (has_paid ps) (numbers_from t (length us))))
  unfolding tally_lines numbers_from share_lines filter
  lines_from t [] f = refl
  lines_from t (u ∷ us) f =
      let xs = numbers_from (suc t) (length us) in
      let is : u ≡ units_of t ps = f 0 ∙ ap (λ (n : ℕ). units_of n ps) (omega arith) in
      let rest = lines_from (suc t) us (λ i. f (suc i) ∙ ap (λ (n : ℕ). units_of n ps) (omega arith)) in
      filter-cases (has_paid ps) (λ l. tally_lines (total ps) t (u ∷ us) ≡ share_lines (map (share_of ps) l)) t xs
      (λ h. rw (lt-ltb 0 u (omega (arith, has_units t ps bounded h)), is) (ap (λ (l : List ℕ). share_line (share_of ps t) ++ l) rest))
      (λ h. rw (le-ltb 0 u (omega (arith, has_none t ps h))) rest)

-- at a number of the array: its line and those of the numbers after it; without units no line; after the last no lines
module _ (all i : ℕ) (us : List ℕ) (inside : i < length us) where
  front : tally_lines all i (drop i us)
      ≡ cond (ltb 0 (get_or us i 0)) (share_line (share all i (get_or us i 0))) [] ++ tally_lines all (i + 1) (drop (i + 1) us)
  unfolding tally_lines
  front = rw (add-one, drop-cons us i 0)

  pub a_line : 0 < get_or us i 0
      → tally_lines all i (drop i us) ≡ share_line (share all i (get_or us i 0)) ++ tally_lines all (i + 1) (drop (i + 1) us)
  a_line h = rw (lt-ltb 0 (get_or us i 0) h) at front

  pub no_line : get_or us i 0 ≤ 0 → tally_lines all i (drop i us) ≡ tally_lines all (i + 1) (drop (i + 1) us)
  no_line h = rw (le-ltb 0 (get_or us i 0) h) at front

pub no_lines : (all i : ℕ) (us : List ℕ) → length us ≤ i → tally_lines all i (drop i us) ≡ []
unfolding tally_lines
no_lines all i us past = rw (drop_of_length-le us past)

-- an accepted file
module _ (file : List ℕ) (bytes : Bytes file) (accepted : file_refusal file ≡ 0) {r : Tally}
    (x : Tallied (payments_of (events_of file)) r) where
  pub within : Within r
  within =
      let ps = payments_of (events_of file) in
      record {
        size = x.size;
        each = λ t. omega (arith, x.each t, x.sum, units_most t ps);
        bound = omega (arith, x.sum, (printed file bytes accepted).bound);
      }

  pub accepted_shares : tally_lines r.total 0 r.units ≡ shares file
  unfolding shares shares_in payers
  accepted_shares =
      let es = events_of file in
      let ps = payments_of es in
      let bounded = all_bounded es empty (all_ranged es (events_fit file bytes)) (sound_of empty empty_sound) in
      let lines = lines_from ps bounded 0 r.units (λ i. x.each i ∙ ap (λ (n : ℕ). units_of n ps) (omega arith)) in
      rw (accepted, x.sum) (lines ∙ ap (λ (n : ℕ). share_lines (map (share_of ps) (filter (has_paid ps) (numbers_from 0 n)))) x.size)
