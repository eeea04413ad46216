-- THE THEOREMS of the shares, document 02, [13]. Every payment is of one unit or more, by a number below 128: so every number that has paid
-- is among those gone through and has units, at most the total, and all their units are the total.
use Prim.Native.Nat.{ℕ, zero, suc, ◌+◌, ◌*◌, ◌≤◌, ◌<◌}
use native.Mathlib.Nat.{div-add-mod', mod-lt}
use native.Mathlib.Omega.{arith}
use mathlib.Core.Path.{◌≡◌, refl, sym, ap, ◌∙◌, subst}
use mathlib.Core.List.{List, [], ◌∷◌, map}
use mathlib.Core.Bool.{Bool, true, false}
use lib.ListN.{length, length-map}
use Rattle.rules.specs.declared.Event.{Event}
use Rattle.rules.specs.Tests.{member, filter}
use Rattle.rules.specs.State.{empty, limit}
use Rattle.rules.specs.Lists.{AllRanged}
use Rattle.rules.specs.EventFile.{Bytes, file_refusal, events_of}
use Rattle.rules.specs.Shares.{Payment, payments_of, units_of, total, has_paid, numbers_from, payers}
use Rattle.rules.specs.Shares.{Share, share, shares_in, share_lines, shares}
use Rattle.rules.proofs.Basics.Views.{clash, is_false, Same, equal, different, same}
use Rattle.rules.proofs.Basics.Views.{and_true_left, and_true_right, and_true_both}
use Rattle.rules.proofs.Basics.Members.{member_here, member_there, member_none, member_tail, not_listed, each}
use Rattle.rules.proofs.Basics.Filters.{filter-cases, member_filter}
use Rattle.rules.proofs.Soundness.Places.{sound_of}
use Rattle.rules.proofs.Files.Records.{all_ranged}
use Rattle.rules.proofs.Files.Accepting.{accepted}
use Rattle.rules.proofs.Files.Inverse.{events_fit, events_most}
use Rattle.rules.proofs.Demands.{empty_sound}
use Rattle.rules.proofs.Payments.{Charged, charged_of, of_charged, AllBounded, all_bounded, total_bound}

-- what is true of a share: "Parts times total plus remainder equals 1,000 times units, the remainder below the total", its units are part
-- of the total, and its number is one that a timeslice can have
pub record TrueShare (all : ℕ) (x : Share) : Type 0 where
  pub whole : x.parts * all + x.remainder ≡ 1000 * x.units
  pub below : x.remainder < all
  pub within : x.units ≤ all
  pub number : x.timeslice < limit

abbrev pub AllTrue : ℕ → List Share → Type 0
AllTrue all [] = Unit {0}
AllTrue all (x ∷ xs) = TrueShare all x × AllTrue all xs

-- the first column, and the sum of the second
abbrev pub numbers : List Share → List ℕ
numbers xs = map (λ x. x.timeslice) xs

unfoldable pub units_in_all : List Share → ℕ
units_in_all [] = 0
units_in_all (x ∷ xs) = x.units + units_in_all xs

-- each number is below all that follow it
abbrev pub Rising : List ℕ → Type 0
Rising [] = Unit {0}
Rising (t ∷ ts) = ((u : ℕ) → member u ts ≡ true → t < u) × Rising ts

-- THE STATEMENT, of a list of events from the empty machine
pub record Shared (es : List Event) : Type 0 where
  pub lines : AllTrue (total (payments_of es)) (shares_in es)
  pub summed : units_in_all (shares_in es) ≡ total (payments_of es)
  -- "each timeslice number with accepted charges", and no other
  pub charged : (t : ℕ) → member t (numbers (shares_in es)) ≡ true → Charged t es empty
  pub listed : (t : ℕ) → Charged t es empty → member t (numbers (shares_in es)) ≡ true
  -- "lines go by rising timeslice number"
  pub rising : Rising (numbers (shares_in es))
  -- "A total of 0 prints no line"
  pub none : total (payments_of es) ≡ 0 → shares_in es ≡ []
  -- how many lines, and how large their figures can be
  pub few : length (shares_in es) ≤ limit
  pub most : total (payments_of es) ≤ 65535 * length es

-- THE NUMBERS gone through rise
from_least : (t k u : ℕ) → member u (numbers_from t k) ≡ true → t ≤ u
unfolding numbers_from
from_least t zero u h = clash (member u []) h (not_listed u)
from_least t (suc k) u h =
    each (λ m. t ≤ m) u t (numbers_from (suc t) k) (omega arith) (λ later. omega (arith, from_least (suc t) k u later)) h

rising_from : (t k : ℕ) → Rising (numbers_from t k)
unfolding numbers_from
rising_from t zero = tt
rising_from t (suc k) = ((λ u h. omega (arith, from_least (suc t) k u h)), rising_from (suc t) k)

-- and none is left out
from_all : (t k u : ℕ) → t ≤ u → u < t + k → member u (numbers_from t k) ≡ true
unfolding numbers_from
from_all t zero u low high = absurd (omega arith)
from_all t (suc k) u low high = by (same u t) (from_all (suc t) k u)
  where
    by : Same u t → (suc t ≤ u → u < suc t + k → member u (numbers_from (suc t) k) ≡ true) → member u (t ∷ numbers_from (suc t) k) ≡ true
    by (equal e _) r = member_here u t (numbers_from (suc t) k) e
    by (different d _) r = member_there u t (numbers_from (suc t) k) (r (omega (arith, d)) (omega arith))

from_length : (t k : ℕ) → length (numbers_from t k) ≡ k
unfolding numbers_from
from_length t zero = refl
from_length t (suc k) = ap suc (from_length (suc t) k)

-- those that a test takes are no more, and rise too
filter-length : (f : ℕ → Bool) (l : List ℕ) → length (filter f l) ≤ length l
unfolding filter
filter-length f [] = omega arith
filter-length f (x ∷ xs) =
    let rest = filter-length f xs in
    filter-cases f (λ l. length l ≤ length (x ∷ xs)) x xs (λ _. omega (arith, rest)) (λ _. omega (arith, rest))

rising_filter : (f : ℕ → Bool) (l : List ℕ) → Rising l → Rising (filter f l)
unfolding filter
rising_filter f [] r = tt
rising_filter f (x ∷ xs) r =
    let rest = rising_filter f xs r.1 in
    filter-cases f Rising x xs
    (λ _. ((λ u h. r.0 u (and_true_left (member u xs) (f u) (sym (member_filter f u xs) ∙ h))), rest))
    (λ _. rest)

-- WHO HAS PAID has units, and no more than the total
pub has_units : (t : ℕ) (ps : List Payment) → AllBounded ps → has_paid ps t ≡ true → 0 < units_of t ps
unfolding units_of
has_units t [] x h = clash (member t []) h (not_listed t)
has_units t (p ∷ ps) x h = by (same t p.timeslice) (has_units t ps x.1)
  where
    by : Same t p.timeslice → (has_paid ps t ≡ true → 0 < units_of t ps) → 0 < units_of t (p ∷ ps)
    by (equal _ q) r = rw q (omega (arith, x.0.some))
    by (different d q) r = rw q (r (member_tail t p.timeslice (map (λ u. u.timeslice) ps) (λ e. d (sym e)) h))

pub has_none : (t : ℕ) (ps : List Payment) → has_paid ps t ≡ false → units_of t ps ≡ 0
unfolding units_of
has_none t [] h = refl
has_none t (p ∷ ps) h = by (same t p.timeslice) (has_none t ps (member_none t p.timeslice _ h))
  where
    by : Same t p.timeslice → units_of t ps ≡ 0 → units_of t (p ∷ ps) ≡ 0
    by (equal e _) r = clash (has_paid (p ∷ ps) t) (member_here t p.timeslice (map (λ u. u.timeslice) ps) e) h
    by (different _ q) r = rw q r

pub units_most : (t : ℕ) (ps : List Payment) → units_of t ps ≤ total ps
unfolding units_of total
units_most t [] = omega arith
units_most t (p ∷ ps) = by (same t p.timeslice) (units_most t ps)
  where
    by : Same t p.timeslice → units_of t ps ≤ total ps → units_of t (p ∷ ps) ≤ p.units + total ps
    by (equal _ q) r = rw q (omega arith)
    by (different _ q) r = rw q (omega arith)

-- THE SUM over numbers
sum_of : List ℕ → List Payment → ℕ
sum_of [] ps = 0
sum_of (t ∷ ts) ps = units_of t ps + sum_of ts ps

-- nobody has paid
sum_none : (ts : List ℕ) → sum_of ts [] ≡ 0
unfolding units_of sum_of
sum_none [] = refl
sum_none (t ∷ ts) = omega (arith, sum_none ts)

-- a payment by none of them
sum_other : (ts : List ℕ) (p : Payment) (ps : List Payment) → member p.timeslice ts ≡ false → sum_of ts (p ∷ ps) ≡ sum_of ts ps
unfolding units_of sum_of
sum_other [] p ps h = refl
sum_other (t ∷ ts) p ps h = by (same t p.timeslice) (sum_other ts p ps (member_none p.timeslice t ts h))
  where
    by : Same t p.timeslice → sum_of ts (p ∷ ps) ≡ sum_of ts ps → sum_of (t ∷ ts) (p ∷ ps) ≡ sum_of (t ∷ ts) ps
    by (equal e _) r = clash (member p.timeslice (t ∷ ts)) (member_here p.timeslice t ts (sym e)) h
    by (different _ q) r = rw (q, r)

-- a payment by one of them, and by no other, since they rise
sum_more : (ts : List ℕ) (p : Payment) (ps : List Payment) → Rising ts → member p.timeslice ts ≡ true
    → sum_of ts (p ∷ ps) ≡ p.units + sum_of ts ps
unfolding units_of sum_of
sum_more [] p ps r h = clash (member p.timeslice []) h (not_listed p.timeslice)
sum_more (t ∷ ts) p ps r h = by (same t p.timeslice) (sum_more ts p ps r.1)
  where
    past : t ≡ p.timeslice → member p.timeslice ts ≡ false
    past e = is_false (member p.timeslice ts) (λ m. omega (arith, r.0 p.timeslice m))

    by : Same t p.timeslice → (member p.timeslice ts ≡ true → sum_of ts (p ∷ ps) ≡ p.units + sum_of ts ps)
        → sum_of (t ∷ ts) (p ∷ ps) ≡ p.units + sum_of (t ∷ ts) ps
    by (equal e q) s = rw q (omega (arith, sum_other ts p ps (past e)))
    by (different d q) s = rw q (omega (arith, s (member_tail p.timeslice t ts d h)))

-- so numbers that rise, and leave out none below 128, have the total
sum_total : (ts : List ℕ) → Rising ts → ((t : ℕ) → t < limit → member t ts ≡ true) → (ps : List Payment) → AllBounded ps
    → sum_of ts ps ≡ total ps
unfolding total
sum_total ts r f [] x = sum_none ts
sum_total ts r f (p ∷ ps) x =
    sum_more ts p ps r (f p.timeslice x.0.number) ∙ ap (λ (n : ℕ). p.units + n) (sum_total ts r f ps x.1)

-- and without those that have not paid the same
sum_filter : (ps : List Payment) (ts : List ℕ) → sum_of (filter (has_paid ps) ts) ps ≡ sum_of ts ps
unfolding filter sum_of
sum_filter ps [] = refl
sum_filter ps (t ∷ ts) =
    let rest = sum_filter ps ts in
    filter-cases (has_paid ps) (λ l. sum_of l ps ≡ sum_of (t ∷ ts) ps) t ts
    (λ _. ap (λ (n : ℕ). units_of t ps + n) rest) (λ e. omega (arith, has_none t ps e))

-- THE SHARES are those of the numbers that have paid
module _ (ps : List Payment) where
  abbrev share_of : ℕ → Share
  share_of t = share (total ps) t (units_of t ps)

  its_numbers : (ts : List ℕ) → numbers (map share_of ts) ≡ ts
  its_numbers [] = refl
  its_numbers (t ∷ ts) = ap (λ (l : List ℕ). t ∷ l) (its_numbers ts)

  its_units : (ts : List ℕ) → units_in_all (map share_of ts) ≡ sum_of ts ps
  unfolding units_in_all sum_of
  its_units [] = refl
  its_units (t ∷ ts) = ap (λ (n : ℕ). units_of t ps + n) (its_units ts)

  -- the division, where there is something to divide by
  divided : 0 < total ps → (t : ℕ) → t < limit → TrueShare (total ps) (share_of t)
  divided h t small =
      let thousandfold = 1000 * units_of t ps in
      record { whole = div-add-mod' thousandfold (total ps); below = mod-lt thousandfold h; within = units_most t ps; number = small }

-- they have paid
payer_paid : (ps : List Payment) (t : ℕ) → member t (payers ps) ≡ true → has_paid ps t ≡ true
unfolding payers
payer_paid ps t h =
    and_true_right (member t (numbers_from 0 limit)) (has_paid ps t) (sym (member_filter (has_paid ps) t (numbers_from 0 limit)) ∙ h)

-- where somebody has, the total is not 0
paid_total : (ps : List Payment) → AllBounded ps → (t : ℕ) → has_paid ps t ≡ true → 0 < total ps
paid_total ps x t h = omega (arith, has_units t ps x h, units_most t ps)

-- and whoever has paid is one of them
pub paid_below : (t : ℕ) (ps : List Payment) → AllBounded ps → has_paid ps t ≡ true → t < limit
paid_below t [] x h = clash (member t []) h (not_listed t)
paid_below t (p ∷ ps) x h = each (λ u. u < limit) t p.timeslice (map (λ q. q.timeslice) ps) x.0.number (paid_below t ps x.1) h

paid_payer : (ps : List Payment) → AllBounded ps → (t : ℕ) → has_paid ps t ≡ true → member t (payers ps) ≡ true
unfolding payers
paid_payer ps x t h =
    member_filter (has_paid ps) t (numbers_from 0 limit)
    ∙ and_true_both (member t (numbers_from 0 limit)) (has_paid ps t)
    (from_all 0 limit t (omega arith) (omega (arith, paid_below t ps x h))) h

-- so their shares are true
true_shares : (ps : List Payment) → AllBounded ps → (ts : List ℕ) → ((t : ℕ) → member t ts ≡ true → has_paid ps t ≡ true)
    → AllTrue (total ps) (map (share_of ps) ts)
true_shares ps x [] f = tt
true_shares ps x (t ∷ ts) f =
    let has = f t (member_here t t ts refl) in
    (divided ps (paid_total ps x t has) t (paid_below t ps x has), true_shares ps x ts (λ u h. f u (member_there u t ts h)))

payers_none : (ps : List Payment) → AllBounded ps → total ps ≡ 0 → (ts : List ℕ) → payers ps ≡ ts → payers ps ≡ []
payers_none ps x h [] e = e
payers_none ps x h (t ∷ ts) e =
    absurd (omega (arith, paid_total ps x t (payer_paid ps t (ap (member t) e ∙ member_here t t ts refl))))

payers_sum : (ps : List Payment) → AllBounded ps → sum_of (payers ps) ps ≡ total ps
unfolding payers
payers_sum ps x =
    sum_filter ps (numbers_from 0 limit)
    ∙ sum_total (numbers_from 0 limit) (rising_from 0 limit) (λ t h. from_all 0 limit t (omega arith) (omega arith)) ps x

payers_few : (ps : List Payment) → length (payers ps) ≤ limit
unfolding payers
payers_few ps = omega (arith, filter-length (has_paid ps) (numbers_from 0 limit), from_length 0 limit)

payers_rise : (ps : List Payment) → Rising (payers ps)
unfolding payers
payers_rise ps = rising_filter (has_paid ps) (numbers_from 0 limit) (rising_from 0 limit)

-- of every list of events in range
pub shares_true : (es : List Event) → AllRanged es → Shared es
unfolding shares_in
shares_true es f =
    let ps = payments_of es in
    let bounded = all_bounded es empty f (sound_of empty empty_sound) in
    let of-payers = its_numbers ps (payers ps) in
    record {
      lines = true_shares ps bounded (payers ps) (payer_paid ps);
      summed = its_units ps (payers ps) ∙ payers_sum ps bounded;
      charged = λ t h. charged_of t es empty (payer_paid ps t (sym (ap (member t) of-payers) ∙ h));
      listed = λ t c. ap (member t) of-payers ∙ paid_payer ps bounded t (of_charged t es empty c);
      rising = subst Rising (sym of-payers) (payers_rise ps);
      none = λ h. ap (map (share_of ps)) (payers_none ps bounded h (payers ps) refl);
      few = omega (arith, length-map (payers ps) (share_of ps), payers_few ps);
      most = total_bound es empty bounded;
    }

-- OF EVERY FILE of bytes that is not refused: what is printed is true, and 1,000 times the total, the largest number that is met,
-- fits in eight bytes
pub record Printed (file : List ℕ) : Type 0 where
  pub bytes : shares file ≡ share_lines (shares_in (events_of file))
  pub true_of : Shared (events_of file)
  pub bound : total (payments_of (events_of file)) < 2147483648

pub printed : (file : List ℕ) → Bytes file → file_refusal file ≡ 0 → Printed file
unfolding shares
printed file b h =
    let es = events_of file in
    let true_of = shares_true es (all_ranged es (events_fit file b)) in
    record {
      bytes = rw h;
      true_of = true_of;
      bound = omega (arith, true_of.most, events_most file b h, (accepted file h).head.small);
    }
