-- The refusals that several events share are the first of document 01's numbers, and past them the number is that of a live one.
use Prim.Native.Nat.{ℕ, suc, ◌-◌}
use mathlib.Core.Path.{◌≡◌, refl, sym, ◌∙◌, ap}
use mathlib.Core.List.{List}
use mathlib.Core.Bool.{Bool, true, false, cond, not}
use native.Mathlib.Omega.{arith}
use lib.Dec.{ltb}
use borrow.Author.Tests.{ltb-false}
use Rattle.std.specs.Prelude.{Result, Ok, Err}
use Rattle.rules.specs.declared.Thread.{Thread}
use Rattle.rules.specs.declared.refusal.Refusal.{Refusal}
use Rattle.rules.specs.declared.refusal.Refusal.TheVariants.{AboveLimit, NotLive}
use Rattle.rules.specs.RefusalNumbers.{number_of, number_in}
use Rattle.rules.specs.State.{thread_at}
use Rattle.rules.specs.Tests.{member}
use Rattle.rules.proofs.Basics.Views.{Two, yes_true, no_false, two}
use Rattle.neighbours.specs.Reading.{is_listed}
use Rattle.dispatcher.specs.declared.Machine.{Machine}
use Rattle.dispatcher.specs.Shown.{shown, stored}
use Rattle.dispatcher.specs.Refusing.{live_thread, unlisted}
use Rattle.dispatcher.proofs.Answering.{numbered}
use Rattle.dispatcher.proofs.Stored.{says_listed}

-- a live thread with that number
pub record Found (n : ℕ) (threads : List Thread) (thread : Thread) : Type 0 where
  pub within : ltb 127 n ≡ false
  pub live : (thread_at threads n).live ≡ true
  pub read : thread ≡ thread_at threads n

found_by : (above live : Bool) (there thread : Thread) → cond above (Err AboveLimit) (cond live (Ok there) (Err NotLive)) ≡ Ok thread
    → (above ≡ false) × (live ≡ true) × (thread ≡ there)
found_by true live there thread e = (cc, cc, cc)
found_by false true there thread e = (refl, refl, cc)
found_by false false there thread e = (cc, cc, cc)

pub found : (n : ℕ) (threads : List Thread) (thread : Thread) → live_thread n threads ≡ Ok thread → Found n threads thread
found n threads thread e =
    let all = found_by (ltb 127 n) (thread_at threads n).live (thread_at threads n) thread e in
    record { within = all.0; live = all.1; read = all.2 }

refused_by : (above live : Bool) (there : Thread) (x : Refusal) (rest : ℕ)
    → cond above (Err AboveLimit) (cond live (Ok there) (Err NotLive)) ≡ Err x → cond above 2 (cond (not live) 4 rest) ≡ number_of x
refused_by true live there x rest e = ap (λ (r : Result Thread Refusal). number_in r) e
refused_by false true there x rest e = cc
refused_by false false there x rest e = ap (λ (r : Result Thread Refusal). number_in r) e

pub none_live : (n : ℕ) (threads : List Thread) (x : Refusal) (rest : ℕ) → live_thread n threads ≡ Err x
    → cond (ltb 127 n) 2 (cond (not (thread_at threads n).live) 4 rest) ≡ number_of x
none_live n threads x rest e = refused_by (ltb 127 n) (thread_at threads n).live (thread_at threads n) x rest e

pub none_within : (n : ℕ) (threads : List Thread) (x : Refusal) (rest : ℕ) → ltb 127 n ≡ false → live_thread n threads ≡ Err x
    → cond (not (thread_at threads n).live) 4 rest ≡ number_of x
none_within n threads x rest within e = rw within at (none_live n threads x rest e)

-- a timeslice of the turn order likewise
inside_by : (above listed : Bool) → ◌≡◌ {A = ℕ} 0 (cond above 2 (cond listed 0 4)) → (above ≡ false) × (listed ≡ true)
inside_by true listed e = absurd (omega (arith, e))
inside_by false true e = (refl, refl)
inside_by false false e = absurd (omega (arith, e))

outside_by : (listed : Bool) (k rest : ℕ) → suc k ≡ cond listed 0 4 → cond (not listed) 4 rest ≡ suc k
outside_by true k rest e = absurd (omega (arith, e))
outside_by false k rest e = sym e

module _ (m : Machine) (ok : stored m ≡ true) (t : ℕ) where
  listed_is : ltb 127 t ≡ false → member t (shown m).order ≡ is_listed m.after t
  listed_is within = says_listed m ok t _ _ (let few = ltb-false 127 t within in omega (arith, few)) refl refl

  pub listed_there : {A : Type 0} (r : Result A Refusal) (a : A) → number_in r ≡ unlisted t m.after → r ≡ Ok a
      → (ltb 127 t ≡ false) × (member t (shown m).order ≡ true)
  listed_there r a e is =
      let both = inside_by (ltb 127 t) (is_listed m.after t) (sym (ap (λ z. number_in z) is) ∙ e) in
      (both.0, listed_is both.0 ∙ both.1)

  pub none_listed : {A : Type 0} (r : Result A Refusal) (x : Refusal) (rest : ℕ) → number_in r ≡ unlisted t m.after → r ≡ Err x
      → cond (ltb 127 t) 2 (cond (not (member t (shown m).order)) 4 rest) ≡ number_of x
  none_listed r x rest e is = by (two (ltb 127 t))
    where
      number : number_of x ≡ unlisted t m.after
      number = sym (ap (λ z. number_in z) is) ∙ e

      by : Two (ltb 127 t) → cond (ltb 127 t) 2 (cond (not (member t (shown m).order)) 4 rest) ≡ number_of x
      by (yes_true h) = rw h (sym (rw h at number))
      by (no_false h) =
          let past = outside_by (is_listed m.after t) (number_of x - 1) rest (sym (numbered x) ∙ rw h at number) in
          rw (h, listed_is h) (past ∙ sym (numbered x))
