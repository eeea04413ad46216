-- "A thread is Calling a server exactly when that server serves it": who is whose partner, and what a change may do to it.
use Prim.Native.Nat.{ℕ}
use mathlib.Core.Path.{◌≡◌, sym, ap, ◌∙◌}
use mathlib.Core.List.{List}
use mathlib.Core.Option.{Option, none, some}
use Rattle.rules.specs.declared.Hold.{Hold}
use Rattle.rules.specs.declared.Hold.TheVariants.{Calling}
use Rattle.rules.specs.declared.Service.{Service}
use Rattle.rules.specs.declared.Service.TheVariants.{Nobody, Serving, Orphan}
use Rattle.rules.specs.declared.Thread.{Thread}
use Rattle.rules.specs.State.{hold_at, service_at}
use Rattle.rules.specs.Walk.{Link, unlinked, donation, helping, link_of}
use Rattle.rules.proofs.Basics.Views.{Same, equal, different, same}
use Rattle.rules.proofs.Links.Chains.{link_at}
use Rattle.rules.proofs.Soundness.Shapes.{Sane}
use Rattle.rules.proofs.Soundness.Standings.{donation_is}

-- whom a thread is Calling, by its link, and whom it serves
abbrev pub donee : Link → Option ℕ
donee unlinked = none
donee (donation s) = some s
donee (helping s) = none

abbrev pub patron : Service → Option ℕ
patron Nobody = none
patron (Serving n) = some n
patron Orphan = none

-- and back
donee_is : (l : Link) (s : ℕ) → donee l ≡ some s → l ≡ donation s
donee_is unlinked s e = cc
donee_is (donation m) s e = cc
donee_is (helping m) s e = cc

donee_calls : (h : Hold) (s : ℕ) → donee (link_of h) ≡ some s → h ≡ Calling s
donee_calls h s e = donation_is h s (donee_is (link_of h) s e)

patron_serves : (v : Service) (n : ℕ) → patron v ≡ some n → v ≡ Serving n
patron_serves Nobody n e = cc
patron_serves (Serving m) n e = cc
patron_serves Orphan n e = cc

-- whom each calls and whom each serves say the same
pub record Partners (c d : ℕ → Option ℕ) : Type 0 where
  pub forth : (n s : ℕ) → c n ≡ some s → d s ≡ some n
  pub back : (s n : ℕ) → d s ≡ some n → c n ≡ some s

abbrev pub Matched : List Thread → Type 0
Matched ts = Partners (λ n. donee (link_at ts n)) (λ s. patron (service_at ts s))

pub matched : {ts : List Thread} → Sane ts → Matched ts
matched {ts} x =
    record {
      forth = λ n s e. ap patron (x.served n s (donee_calls (hold_at ts n) s e));
      back = λ s n e. ap (λ h. donee (link_of h)) (x.calling n s (patron_serves (service_at ts s) n e));
    }

pub matched_served : (ts : List Thread) → Matched ts → (n s : ℕ) → hold_at ts n ≡ Calling s → service_at ts s ≡ Serving n
matched_served ts x n s e = patron_serves (service_at ts s) n (x.forth n s (ap (λ h. donee (link_of h)) e))

pub matched_calling : (ts : List Thread) → Matched ts → (n s : ℕ) → service_at ts s ≡ Serving n → hold_at ts n ≡ Calling s
matched_calling ts x n s e = donee_calls (hold_at ts n) s (x.back s n (ap patron e))

-- partners stay so where nobody's partner changes
pub same_partners : {c d c' d' : ℕ → Option ℕ} → ((m : ℕ) → c' m ≡ c m) → ((m : ℕ) → d' m ≡ d m) → Partners c d → Partners c' d'
same_partners p q x =
    record {
      forth = λ n s e. q s ∙ x.forth n s (sym (p n) ∙ e);
      back = λ s n e. p n ∙ x.back s n (sym (q s) ∙ e);
    }

-- and where two threads, each other's partners or without one, become partners or lose each other
pub data Bond (a b : ℕ) (x y : Option ℕ) : Type 0 where
  apart : x ≡ none → y ≡ none → Bond a b x y
  bound : x ≡ some b → y ≡ some a → Bond a b x y

turn_bond : {a b : ℕ} {x y : Option ℕ} → Bond a b x y → Bond b a y x
turn_bond (apart p q) = apart q p
turn_bond (bound p q) = bound q p

one_way : {c d c' d' : ℕ → Option ℕ} (a b : ℕ) → ((m : ℕ) → (m ≡ a → ⊥) → c' m ≡ c m) → ((m : ℕ) → (m ≡ b → ⊥) → d' m ≡ d m)
    → Bond a b (c a) (d b) → Bond a b (c' a) (d' b)
    → ((n s : ℕ) → c n ≡ some s → d s ≡ some n) → (n s : ℕ) → c' n ≡ some s → d' s ≡ some n
one_way {c} {d} {c'} {d'} a b p q old new forth n s e = by (same n a)
  where
    here : n ≡ a → Bond a b (c' a) (d' b) → d' s ≡ some n
    here z (apart f g) = cc (ap c' z)
    here z (bound f g) = cc (ap c' z)

    there : (n ≡ a → ⊥) → d s ≡ some n → Same s b → Bond a b (c a) (d b) → d' s ≡ some n
    there o f (equal z _) (apart g k) = cc (ap d z)
    there o f (equal z _) (bound g k) = absurd (o (cc (ap d z)))
    there o f (different z _) _ = q s z ∙ f

    by : Same n a → d' s ≡ some n
    by (equal z _) = here z new
    by (different o _) = there o (forth n s (sym (p n o) ∙ e)) (same s b) old

pub turned_partners : {c d c' d' : ℕ → Option ℕ} (a b : ℕ)
    → ((m : ℕ) → (m ≡ a → ⊥) → c' m ≡ c m) → ((m : ℕ) → (m ≡ b → ⊥) → d' m ≡ d m)
    → Bond a b (c a) (d b) → Bond a b (c' a) (d' b) → Partners c d → Partners c' d'
turned_partners a b p q old new x =
    record {
      forth = one_way a b p q old new x.forth;
      back = one_way b a q p (turn_bond old) (turn_bond new) x.back;
    }
