-- The chain's line, thread by thread: after the first, each thread that is left has a space before it.
use Prim.Native.Nat.{ℕ, zero, suc, ◌<◌}
use mathlib.Core.Path.{◌≡◌, refl, sym, ap, ◌∙◌}
use mathlib.Core.List.{List, [], ◌∷◌, ◌++◌}
use mathlib.Core.Bool.{true, false}
use Rattle.std.specs.Prelude.{Option, Some, None, is_some, unwrap_or, cond}
use Rattle.rules.specs.declared.Hold.{Hold}
use Rattle.rules.specs.declared.Hold.TheVariants.{Ready, Idle, Blocked, Calling, Helping}
use Rattle.rules.specs.declared.Thread.{Thread}
use Rattle.rules.specs.State.{hold_at}
use Rattle.rules.specs.Holds.{linked}
use Rattle.rules.specs.Key.{bytes, decimal}
use Rattle.rules.specs.Reason.{over_link, threads_from, spaced, numbers_line}
use Rattle.rules.proofs.Basics.Views.{clash}
use Rattle.reason_sheet.specs.Later.{linked_thread, later}

threads_later : (left : ℕ) (ts : List Thread) (n : ℕ) → threads_from left ts n ≡ n ∷ later left ts n
unfolding threads_from later
threads_later zero ts n = refl
threads_later (suc left) ts n = refl

-- the line is the first thread and those after it
pub line_begins : (left : ℕ) (ts : List Thread) (n : ℕ) → decimal n ++ spaced (later left ts n) ≡ numbers_line (threads_from left ts n)
line_begins left ts n = rw (threads_later left ts n)

-- where no link is left to follow, the line ends
pub line_out : (left : ℕ) (ts : List Thread) (n : ℕ) → left ≡ 0 → spaced (later left ts n) ≡ bytes "\n"
unfolding later spaced
line_out left ts n e = rw e

-- a thread without a link is the last
over_none : (next : ℕ → List ℕ) (h : Hold) → linked h ≡ false → over_link next h ≡ []
over_none next Ready e = refl
over_none next Idle e = refl
over_none next Blocked e = refl
over_none next (Calling s) e = clash true refl e
over_none next (Helping s) e = clash true refl e

-- a link leads to the next
over_one : (next : ℕ → List ℕ) (h : Hold) → linked h ≡ true → over_link next h ≡ next (linked_thread h)
over_one next Ready e = clash false e refl
over_one next Idle e = clash false e refl
over_one next Blocked e = clash false e refl
over_one next (Calling s) e = refl
over_one next (Helping s) e = refl

-- with a link to follow, and one fewer after it
module _ (left rest : ℕ) (one_of : left ≡ suc rest) (ts : List Thread) (n : ℕ) where
  over_is : later left ts n ≡ over_link (threads_from rest ts) (hold_at ts n)
  unfolding later
  over_is = rw one_of

  pub line_ends : {h : Hold} → h ≡ hold_at ts n → linked h ≡ false → spaced (later left ts n) ≡ bytes "\n"
  unfolding spaced
  line_ends {h} e none =
      ap spaced (over_is ∙ ap (over_link (threads_from rest ts)) (sym e) ∙ over_none (threads_from rest ts) h none)

  pub line_goes_on : {h : Hold} → h ≡ hold_at ts n → linked h ≡ true → {next : ℕ} → next ≡ linked_thread h
      → spaced (later left ts n) ≡ bytes " " ++ decimal next ++ spaced (later rest ts next)
  unfolding spaced
  line_goes_on {h} e one {next} is =
      ap spaced
      (over_is
      ∙ ap (over_link (threads_from rest ts)) (sym e)
      ∙ over_one (threads_from rest ts) h one
      ∙ ap (threads_from rest ts) (sym is)
      ∙ threads_later rest ts next)

-- what a search for a link finds
pub found_none : (h : Hold) → {o : Option ℕ} → o ≡ cond (linked h) (Some (linked_thread h)) None → o ≡ None → linked h ≡ false
found_none Ready e is = refl
found_none Idle e is = refl
found_none Blocked e is = refl
found_none (Calling s) e is = clash true refl (ap is_some (sym e ∙ is))
found_none (Helping s) e is = clash true refl (ap is_some (sym e ∙ is))

pub found_one : (h : Hold) → {o : Option ℕ} → o ≡ cond (linked h) (Some (linked_thread h)) None → {next : ℕ} → o ≡ Some next
    → (linked h ≡ true) × (next ≡ linked_thread h)
found_one Ready e is = clash true refl (ap is_some (sym is ∙ e))
found_one Idle e is = clash true refl (ap is_some (sym is ∙ e))
found_one Blocked e is = clash true refl (ap is_some (sym is ∙ e))
found_one (Calling s) e {next} is = (refl, ap (λ (o : Option ℕ). unwrap_or o 0) (sym is ∙ e))
found_one (Helping s) e {next} is = (refl, ap (λ (o : Option ℕ). unwrap_or o 0) (sym is ∙ e))
