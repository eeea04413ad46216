-- An input by the tests that it is put to: too long, cut short, half an interval left over, or none of these.
use Prim.Native.Nat.{ℕ, ◌-◌, ◌%◌, ◌≤◌, ◌<◌}
use native.Mathlib.Omega.{arith}
use mathlib.Core.Path.{◌≡◌, refl, sym, ◌∙◌}
use mathlib.Core.List.{List}
use mathlib.Core.Bool.{Bool, true, ◌||◌}
use lib.Dec.{ltb, eqb}
use lib.ListN.{length}
use borrow.Author.Tests.{lt-ltb, le-ltb, eq-eqb, ne_eqb, ltb-true, ltb-false}
use Rattle.rules.proofs.Basics.Views.{Two, yes_true, no_false, two, or_true_right}
use Rattle.std.proofs.Common.{rules}
use Rattle.rules.specs.declared.refusal.Refusal.{Refusal}
use Rattle.rules.specs.RefusalNumbers.{number_of}
use Rattle.rules.specs.Key.{file_line}
use Rattle.text.proofs.Refused.{refused_line}
use Rattle.ranking_table.specs.declared.Row.{Row}
use Rattle.ranking_sheet.specs.Sheet.{rows_in, intervals_at, intervals_in, input_refusal, answer_lines, ranking_after, ranking}

number_some : (r : Refusal) → number_of r ≡ 0 → ⊥
number_some r e = search rules

module _ (b : List ℕ) where
  abbrev long : Bool
  long = ltb 65536 (length b)

  abbrev short : Bool
  short = ltb (length b) (intervals_at b)

  abbrev half : Bool
  half = eqb ((length b - intervals_at b) % 2) 1

  pub too_long : 65536 < length b → input_refusal b ≡ 14
  unfolding input_refusal
  too_long h = rw (lt-ltb 65536 (length b) h) refl

  pub cut_short : length b < intervals_at b → input_refusal b ≡ 14
  unfolding input_refusal
  cut_short h =
      let cut : (long || short) ≡ true = or_true_right long short (lt-ltb (length b) (intervals_at b) h) in
      rw cut refl

  pub half_left : (length b - intervals_at b) % 2 ≡ 1 → input_refusal b ≡ 14
  unfolding input_refusal
  half_left h =
      let any : (long || short || half) ≡ true = or_true_right (long || short) half (eq-eqb ((length b - intervals_at b) % 2) 1 h) in
      rw any refl

  pub whole : length b ≤ 65536 → intervals_at b ≤ length b → ((length b - intervals_at b) % 2 ≡ 1 → ⊥) → input_refusal b ≡ 0
  unfolding input_refusal
  whole l s h =
      rw (
        le-ltb 65536 (length b) l,
        le-ltb (length b) (intervals_at b) s,
        ne_eqb ((length b - intervals_at b) % 2) 1 h,
      ) refl

  -- what an accepted input is known by
  module _ (accepted : input_refusal b ≡ 0) where
    pub not_long : length b ≤ 65536
    not_long = by (two long)
      where
        by : Two long → length b ≤ 65536
        by (yes_true e) = absurd (omega (arith, accepted, too_long (ltb-true 65536 (length b) e)))
        by (no_false e) = ltb-false 65536 (length b) e

    pub not_short : intervals_at b ≤ length b
    not_short = by (two short)
      where
        by : Two short → intervals_at b ≤ length b
        by (yes_true e) = absurd (omega (arith, accepted, cut_short (ltb-true (length b) (intervals_at b) e)))
        by (no_false e) = ltb-false (length b) (intervals_at b) e

  -- a refused input
  pub refused_ranking : (r : Refusal) (n : ℕ) → n ≡ number_of r → number_of r ≡ input_refusal b → file_line n ≡ ranking b
  unfolding ranking
  refused_ranking r n is e = refused_line (λ k. ranking_after k b) (λ _. refl) (is ∙ e) (λ none. number_some r (sym is ∙ none))

  -- an accepted one
  pub accepted_ranking : {rows : List Row} → input_refusal b ≡ 0 → rows ≡ rows_in b → answer_lines rows (intervals_in b) ≡ ranking b
  unfolding ranking
  accepted_ranking e is = rw (e, is) refl
