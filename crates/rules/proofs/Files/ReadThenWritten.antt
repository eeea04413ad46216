-- What is read is what the writer writes: an accepted file of bytes is the file of its events.
use Prim.Native.Nat.{ℕ, zero, suc, ◌+◌, ◌/◌, ◌%◌, ◌<◌}
use mathlib.Core.Path.{◌≡◌, refl, ap, ap₂, sym, subst, subst⁻¹, ◌∙◌}
use mathlib.Core.List.{List, [], ◌∷◌, ◌++◌}
use mathlib.Core.Bool.{Bool, true, false, cond}
use mathlib.Core.Option.{Option, none, some}
use native.Mathlib.Omega.{arith}
use lib.ListN.{length, take, drop, take-append-drop}
use lib.Seq.{length-take-le, get_or-drop}
use lib.Dec.{leb, eqb}
use borrow.Author.Tests.{le-leb, leb-true, eqb-true}
use Rattle.rules.specs.declared.Event.{Event}
use Rattle.rules.specs.declared.Event.TheVariants.{Call, Reply, Block, Wake, Abort, Refill, Remove}
use Rattle.rules.specs.Tests.{all}
use Rattle.rules.specs.EventFile.{Bytes, word_of, high_byte, low_byte, kind_of, operands_of, record_of, records_of, four_bytes, file_of}
use Rattle.rules.specs.EventFile.{no_operand, one_byte, two_bytes, create_with, charge_with, rank_with, give_from, event_of, body_of}
use Rattle.rules.specs.EventFile.{record_at, byte, fits, all_fit, joined, events_after, records_in}
use Rattle.rules.proofs.Basics.Views.{Two, yes_true, no_false, two, and_true_both}
use Rattle.rules.proofs.Basics.Members.{all_cons}
use Rattle.rules.proofs.Files.Reading.{events_after_cons, some_joined}
use Rattle.rules.proofs.Files.Accepting.{Headed}

-- where bytes are read as an event, they are its kind and its operands
abbrev Good : List ℕ → Option Event → Type 0
Good body none = Unit {0}
Good body (some e) = body ≡ kind_of e ∷ operands_of e

-- good by either way of a test
either : (body : List ℕ) (b : Bool) (x y : Option Event) → (b ≡ true → Good body x) → Good body y → Good body (cond b x y)
either body true x y f g = f refl
either body false x y f g = g

-- a number of two bytes is written as them
high_back : (a b : ℕ) → b < 256 → high_byte (word_of a b) ≡ a
high_back a b h = omega arith

low_back : (a b : ℕ) → b < 256 → low_byte (word_of a b) ≡ b
low_back a b h = omega arith

-- each shape of operands, after its kind byte
no_operand_good : (k : ℕ) (e : Event) → k ∷ [] ≡ kind_of e ∷ operands_of e → (l : List ℕ) → Good (k ∷ l) (no_operand e l)
no_operand_good k e h [] = h
no_operand_good k e h (a ∷ rest) = tt

one_byte_good :
    (k : ℕ) (f : ℕ → Event) → ((a : ℕ) → k ∷ a ∷ [] ≡ kind_of (f a) ∷ operands_of (f a)) →
    (l : List ℕ) → Good (k ∷ l) (one_byte f l)
one_byte_good k f h [] = tt
one_byte_good k f h (a ∷ []) = h a
one_byte_good k f h (a ∷ b ∷ rest) = tt

two_bytes_good :
    (k : ℕ) (f : ℕ → ℕ → Option Event) → ((a b : ℕ) → b < 256 → Good (k ∷ a ∷ b ∷ []) (f a b)) →
    (l : List ℕ) → Bytes l → Good (k ∷ l) (two_bytes f l)
two_bytes_good k f h [] bs = tt
two_bytes_good k f h (a ∷ []) bs = tt
two_bytes_good k f h (a ∷ b ∷ []) bs = h a b (bs 1)
two_bytes_good k f h (a ∷ b ∷ c ∷ rest) bs = tt

charge_good : (a b : ℕ) → b < 256 → Good (7 ∷ a ∷ b ∷ []) (charge_with a b)
charge_good a b h = ap₂ (λ (x y : ℕ). 7 ∷ x ∷ y ∷ []) (sym (high_back a b h)) (sym (low_back a b h))

create_good : (a b : ℕ) → Good (1 ∷ a ∷ b ∷ []) (create_with a b)
create_good a b =
    either (1 ∷ a ∷ b ∷ []) (eqb b 0) _ _ (λ zero-role. ap (λ (x : ℕ). 1 ∷ a ∷ x ∷ []) (eqb-true b 0 zero-role))
    (either (1 ∷ a ∷ b ∷ []) (eqb b 1) _ _ (λ one-role. ap (λ (x : ℕ). 1 ∷ a ∷ x ∷ []) (eqb-true b 1 one-role)) tt)

give_good : (l : List ℕ) → Bytes l → Good (2 ∷ l) (give_from l)
give_good [] bs = tt
give_good (a ∷ []) bs = tt
give_good (a ∷ b ∷ []) bs = tt
give_good (a ∷ b ∷ c ∷ []) bs = tt
give_good (a ∷ b ∷ c ∷ d ∷ []) bs = tt
give_good (a ∷ b ∷ c ∷ d ∷ e ∷ []) bs =
    ap₂ (λ (x y : ℕ). 2 ∷ a ∷ b ∷ c ∷ x ∷ y ∷ []) (sym (high_back d e (bs 4))) (sym (low_back d e (bs 4)))
give_good (a ∷ b ∷ c ∷ d ∷ e ∷ f ∷ rest) bs = tt

-- the kinds, one line each
kind_good : (kind : ℕ) (l : List ℕ) → Bytes l → Good (kind ∷ l) (event_of kind l)
kind_good kind l bs =
    is 1 (two_bytes create_with l) _ (two_bytes_good 1 create_with (λ a b _. create_good a b) l bs)
    (is 2 (give_from l) _ (give_good l bs)
    (is 3 (one_byte Call l) _ (one_byte_good 3 Call (λ a. refl) l)
    (is 4 (no_operand Reply l) _ (no_operand_good 4 Reply refl l)
    (is 5 (no_operand Block l) _ (no_operand_good 5 Block refl l)
    (is 6 (one_byte Wake l) _ (one_byte_good 6 Wake (λ a. refl) l)
    (is 7 (two_bytes charge_with l) _ (two_bytes_good 7 charge_with charge_good l bs)
    (is 8 (one_byte Abort l) _ (one_byte_good 8 Abort (λ a. refl) l)
    (is 9 (one_byte Refill l) _ (one_byte_good 9 Refill (λ a. refl) l)
    (is 10 (one_byte Remove l) _ (one_byte_good 10 Remove (λ a. refl) l)
    (is 11 (two_bytes rank_with l) none (two_bytes_good 11 rank_with (λ a b _. refl) l bs) tt))))))))))
  where
    is : (k : ℕ) (x y : Option Event) → Good (k ∷ l) x → Good (kind ∷ l) y → Good (kind ∷ l) (cond (eqb kind k) x y)
    is k x y f g = either (kind ∷ l) (eqb kind k) x y (λ e. subst⁻¹ (λ (n : ℕ). Good (n ∷ l) x) (eqb-true kind k e) f) g

body_good : (body : List ℕ) → Bytes body → Good body (body_of body)
body_good [] bs = tt
body_good (kind ∷ l) bs = kind_good kind l (λ i. bs (suc i))

-- parts of a byte string are byte strings
pub bytes_take : (n : ℕ) (l : List ℕ) → Bytes l → Bytes (take n l)
bytes_take zero l bs i = omega arith
bytes_take (suc n) [] bs i = omega arith
bytes_take (suc n) (x ∷ xs) bs zero = bs 0
bytes_take (suc n) (x ∷ xs) bs (suc i) = bytes_take n xs (λ j. bs (suc j)) i

pub bytes_drop : (n : ℕ) (l : List ℕ) → Bytes l → Bytes (drop n l)
bytes_drop n l bs i = rw get_or-drop (bs (n + i))

all_bytes : (l : List ℕ) → Bytes l → all byte l ≡ true
unfolding all
all_bytes [] bs = refl
all_bytes (x ∷ xs) bs = all_cons byte x xs (le-leb x 255 (omega (arith, bs 0))) (all_bytes xs (λ i. bs (suc i)))

-- a good record of bytes is the writer's, and it fits
record Written (n : ℕ) (rest : List ℕ) (e : Event) : Type 0 where
  bytes : n ∷ rest ≡ record_of e ++ drop n rest
  fitting : fits e ≡ true

record_written : (n : ℕ) (rest : List ℕ) (e : Event) → Bytes (n ∷ rest) → record_at (n ∷ rest) ≡ some e → Written n rest e
unfolding record_at
record_written n rest e bs r = go (two (leb n (length rest)))
  where
    go : Two (leb n (length rest)) → Written n rest e
    go (no_false out) =
        let missing : none ≡ some e = rw out at r in
        let z : ◌≡◌ {A = ℕ} 0 1 = cc in
        absurd (omega arith)
    go (yes_true inside) =
        let read : body_of (take n rest) ≡ some e = rw inside at r in
        let bytes = bytes_take n rest (λ i. bs (suc i)) in
        let good : take n rest ≡ kind_of e ∷ operands_of e =
        subst (λ (o : Option Event). Good (take n rest) o) read (body_good (take n rest) bytes) in
        record {
          bytes =
              ap₂ (λ (k : ℕ) (l : List ℕ). k ∷ l)
              (sym (length-take-le n rest (leb-true _ _ inside)))
              (sym (take-append-drop n rest))
              ∙ ap (λ (l : List ℕ). (length l ∷ l) ++ drop n rest) good;
          fitting = all_bytes (operands_of e) (λ i. subst Bytes good bytes (suc i));
        }

pub record_fits : (l : List ℕ) (e : Event) → Bytes l → record_at l ≡ some e → fits e ≡ true
unfolding record_at
record_fits [] e bs r = let z : ◌≡◌ {A = ℕ} 0 1 = cc in absurd (omega arith)
record_fits (n ∷ rest) e bs r = (record_written n rest e bs r).fitting

-- a list that is read of bytes that are there begins with the event of their first record
joined_some :
    (o : Option Event) (left : Option (List Event)) (e : Event) (es : List Event) →
    joined o left ≡ some (e ∷ es) → (o ≡ some e) × (left ≡ some es)
joined_some o left e es j =
    let x = some_joined o left (e ∷ es) j in
    let split = x.split in
    let here = x.here in
    let reads = x.reads in
    (cc, cc)

joined_never_empty : (o : Option Event) (left : Option (List Event)) → joined o left ≡ some [] → ⊥
joined_never_empty o left j =
    let split = (some_joined o left [] j).split in
    let z : ◌≡◌ {A = ℕ} 0 1 = cc in
    omega arith

-- the records of a byte string are the writer's
records_written :
    (es : List Event) (l : List ℕ) → Bytes l → events_after 0 l ≡ some es → (l ≡ records_of es) × (all_fit es ≡ true)
unfolding records_of all_fit events_after
records_written [] [] bs r = (refl, refl)
records_written [] (n ∷ rest) bs r =
    absurd (joined_never_empty (record_at (n ∷ rest)) (events_after 0 (drop n rest)) (sym (events_after_cons n rest) ∙ r))
records_written (e ∷ es) [] bs r = let z : ◌≡◌ {A = ℕ} 0 1 = cc in absurd (omega arith)
records_written (e ∷ es) (n ∷ rest) bs r =
    let parts = joined_some (record_at (n ∷ rest)) (events_after 0 (drop n rest)) e es (sym (events_after_cons n rest) ∙ r) in
    let first = record_written n rest e bs parts.0 in
    let others = records_written es (drop n rest) (bytes_drop n rest (λ i. bs (suc i))) parts.1 in
    (first.bytes ∙ ap (λ (l : List ℕ). record_of e ++ l) others.0, and_true_both _ _ first.fitting others.1)

-- four bytes that hold a number are the writer's for it
four_written :
    (a b c d n : ℕ) → a < 256 → b < 256 → c < 256 → d < 256 →
    word_of (word_of (word_of a b) c) d ≡ n → a ∷ b ∷ c ∷ d ∷ [] ≡ four_bytes n
four_written a b c d n ha hb hc hd e =
    let first : a ≡ n / 16777216 = omega arith in
    let second : b ≡ n / 65536 % 256 = omega arith in
    let third : c ≡ n / 256 % 256 = omega arith in
    let fourth : d ≡ n % 256 = omega arith in
    cc

pub file_written : (file : List ℕ) (es : List Event) → Bytes file → Headed file → records_in file ≡ some es → file ≡ file_of es
unfolding file_of
file_written [] es bs h r = absurd (omega arith)
file_written (a ∷ []) es bs h r = absurd (omega arith)
file_written (a ∷ b ∷ []) es bs h r = absurd (omega arith)
file_written (a ∷ b ∷ c ∷ []) es bs h r = absurd (omega arith)
file_written (a ∷ b ∷ c ∷ d ∷ []) es bs h r = absurd (omega arith)
file_written (a ∷ b ∷ c ∷ d ∷ version ∷ rest) es bs h r =
    let records : rest ≡ records_of es = (records_written es rest (λ i. bs (suc (suc (suc (suc (suc i)))))) r).0 in
    let counted : word_of (word_of (word_of a b) c) d ≡ 1 + length rest = omega arith in
    rw (← records)
    (ap₂ (λ (field : List ℕ) (v : ℕ). field ++ (v ∷ rest))
    (four_written a b c d (1 + length rest) (bs 0) (bs 1) (bs 2) (bs 3) counted)
    h.version)

pub all_fit_lem : (file : List ℕ) (es : List Event) → Bytes file → records_in file ≡ some es → all_fit es ≡ true
all_fit_lem file es bs r = (records_written es (drop 5 file) (bytes_drop 5 file bs) r).1
