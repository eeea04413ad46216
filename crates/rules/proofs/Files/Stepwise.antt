-- Stepping from an offset to the end collects the events that are left to read.
use Prim.Native.Nat.{ℕ, zero, suc, ◌+◌, ◌<◌, ◌≤◌}
use mathlib.Core.Path.{◌≡◌, refl, ap, sym, ◌∙◌}
use mathlib.Core.List.{List, []}
use mathlib.Core.Option.{Option, none, some}
use native.Mathlib.Omega.{arith}
use lib.ListN.{length, get_or, drop}
use lib.Dec.{eqb}
use borrow.Author.Tests.{eqb-true, eqb-false}
use Rattle.rules.specs.declared.Event.{Event}
use Rattle.rules.specs.EventFile.{record_at, joined, events_after, Stepped, stepped_to, stepped}
use Rattle.rules.specs.Steps.{collected, events_in}
use Rattle.rules.proofs.Basics.Views.{Two, yes_true, no_false, two}
use Rattle.rules.proofs.Files.Reading.{events_after_drop, events_after_end, record_inside}
use Rattle.rules.proofs.Files.Stepping.{stepped_end, stepped_at}

-- what a step's answer collects, with a way to go on from any offset
abbrev goes_on_lem : (ℕ → Option (List Event)) → Stepped → Option (List Event)
goes_on_lem further s = collected s.found (further s.offset)

-- a step at a record, by what stands there
at_record :
    (further : ℕ → Option (List Event)) (o : Option Event) (at next : ℕ) (left : Option (List Event)) →
    ((e : Event) → o ≡ some e → further next ≡ left) → goes_on_lem further (stepped_to at next o) ≡ joined o left
at_record further none at next left h = refl
at_record further (some e) at next left h = ap (λ (l : Option (List Event)). joined (some e) l) (h e refl)

-- one step, where going on from every later offset collects what is left there
one_step :
    (further : ℕ → Option (List Event)) (file : List ℕ) (at : ℕ) → 5 ≤ at → at ≤ length file →
    ((next : ℕ) → at < next → next ≤ length file → further next ≡ events_after 0 (drop next file)) →
    Two (eqb at (length file)) → goes_on_lem further (stepped file at) ≡ events_after 0 (drop at file)
one_step further file at low inside go_on (yes_true same) =
    let e : at ≡ length file = eqb-true _ _ same in
    ap (goes_on_lem further) (sym (stepped_end file at low e)) ∙ sym (events_after_end file at (omega arith))
one_step further file at low inside go_on (no_false other) =
    let apart : at ≡ length file → ⊥ = eqb-false _ _ other in
    let h : at < length file = omega arith in
    ap (goes_on_lem further) (sym (stepped_at file at low h))
    ∙ at_record further (record_at (drop at file)) at (at + 1 + get_or file at 0)
    (events_after 0 (drop (at + 1 + get_or file at 0) file))
    (λ e r. go_on (at + 1 + get_or file at 0) (omega arith) (record_inside file at e h r))
    ∙ sym (events_after_drop file at h)

-- enough fuel for every byte that is left
pub steps_collect :
    (fuel : ℕ) (file : List ℕ) (at : ℕ) → 5 ≤ at → at ≤ length file → length file < fuel + at →
    events_in fuel file at ≡ events_after 0 (drop at file)
unfolding events_in
steps_collect zero file at low inside enough = absurd (omega arith)
steps_collect (suc fuel) file at low inside enough =
    one_step (λ next. events_in fuel file next) file at low inside
    (λ next later within. steps_collect fuel file next (omega arith) within (omega arith))
    (two (eqb at (length file)))
