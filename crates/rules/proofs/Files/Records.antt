-- A record is its length, its kind and its operands, so what holds of every record needs no case for each kind.
use Prim.Native.Nat.{ℕ, ◌*◌, ◌≤◌}
use mathlib.Core.Path.{◌≡◌, sym, ap, ◌∙◌}
use mathlib.Core.List.{List, [], ◌∷◌}
use mathlib.Core.Bool.{true}
use native.Mathlib.Omega.{arith}
use lib.ListN.{length, length-append}
use borrow.Author.Tests.{leb-true}
use Rattle.rules.specs.declared.Event.{Event}
use Rattle.rules.specs.declared.Event.TheVariants.{Give, Rank}
use Rattle.rules.specs.EventFile.{kind_of, high_byte, record_of, records_of, byte, fits, all_fit}
use Rattle.rules.specs.Lists.{Ranged, AllRanged}
use Rattle.rules.proofs.Basics.Views.{and_true_left, and_true_right}
use Rattle.rules.proofs.Basics.Members.{all_head, all_tail}

-- a record has two bytes or more
pub record_length : (e : Event) → 2 ≤ length (record_of e)
record_length e = omega arith

pub records_length : (es : List Event) → 2 * length es ≤ length (records_of es)
unfolding records_of
records_length [] = omega arith
records_length (e ∷ es) = rw length-append (omega (arith, record_length e, records_length es))

-- a number in two bytes, of which the high one is a byte
word_fits : (n : ℕ) → byte (high_byte n) ≡ true → n ≤ 65535
word_fits n h = omega (arith, leb-true (high_byte n) 255 h)

-- the ranges of a Give that fits
pub give_fits : (t n priority quantum : ℕ) → fits (Give t n priority quantum) ≡ true → (priority ≤ 255) × (quantum ≤ 65535)
give_fits t n priority quantum f =
    let from-priority = all_tail byte n _ (all_tail byte t _ f) in
    let from-quantum = all_tail byte priority _ from-priority in
    (leb-true priority 255 (all_head byte priority _ from-priority), word_fits quantum (all_head byte (high_byte quantum) _ from-quantum))

-- and of a Rank that does
rank_fits : (t priority : ℕ) → fits (Rank t priority) ≡ true → priority ≤ 255
rank_fits t priority f = leb-true priority 255 (all_head byte priority _ (all_tail byte t _ f))

-- so events whose operands fit are in range
pub ranged : (e : Event) → fits e ≡ true → Ranged e
ranged e f =
    record {
      give = λ t n priority quantum is. give_fits t n priority quantum (sym (ap fits is) ∙ f);
      rank = λ t priority is. rank_fits t priority (sym (ap fits is) ∙ f);
    }

-- and so is an event of another kind than give and rank, whatever it holds
pub other_kind : (e : Event) → (kind_of e ≡ 2 → ⊥) → (kind_of e ≡ 11 → ⊥) → Ranged e
other_kind e no-give no-rank =
    record {
      give = λ t n priority quantum is. absurd (no-give (ap kind_of is));
      rank = λ t priority is. absurd (no-rank (ap kind_of is));
    }

pub all_ranged : (es : List Event) → all_fit es ≡ true → AllRanged es
unfolding all_fit
all_ranged [] f = tt
all_ranged (e ∷ es) f = (ranged e (and_true_left (fits e) (all_fit es) f), all_ranged es (and_true_right (fits e) (all_fit es) f))
