-- Nothing, a refused file, a number with which no event is refused: the line of each. Else the shorter file.
use Prim.Native.Nat.{ℕ, ◌≤◌}
use native.Mathlib.Omega.{arith}
use Rattle.std.proofs.Common.{rules}
use Rattle.std.specs.Prelude.{is_some}
use mathlib.Core.Path.{◌≡◌, sym, ap, ◌∙◌}
use mathlib.Core.Bool.{Bool, true, false}
use mathlib.Core.List.{List}
use lib.ListN.{length, get_or}
use Rattle.rules.specs.EventFile.{Bytes, file_refusal, events_of}
use Rattle.rules.specs.Key.{file_line}
use Rattle.rules.specs.Shorten.{refused_from, refused_in, shorter_if, shorter}
use Rattle.dispatcher.specs.declared.Machine.{Machine}
use Rattle.dispatcher.specs.Shown.{sound_machine, empty_machine, shown}
use Rattle.dispatcher.proofs.Runs.{shows_empty, empty_machine_sound}
use Rattle.text.proofs.Puts.{at_front, reading}
use Rattle.event_file.specs.Left.{events_at}
use Rattle.shorten_sheet.proofs.Room.{shorter_fits}
use Rattle.shorten_sheet.proofs.Sheet.{file_behind, file_narrow, number_and_file, file_read, file_events}
use Rattle.shorten_sheet.proofs.Sheet.{no_input, refused_shorter, accepted_shorter}
use Rattle.shorten_sheet.proofs.write_shorter.Goals as goal

-- whether some event of an accepted file is refused with the number
asked : (input : List ℕ) (m : Machine) (found : Bool) → Bytes input → file_refusal (file_behind input) ≡ 0 → m ≡ empty_machine
    → found ≡ refused_from (get_or input 0 0) (events_at 5 (file_behind input)) (shown m)
    → refused_in (get_or input 0 0) (events_of (file_behind input)) ≡ found
asked input m found narrow accepted none is =
    let k = get_or input 0 0 in
    let file = file_behind input in
    sym (is ∙ ap (refused_from k (events_at 5 file)) (shows_empty m none)
    ∙ ap (refused_in k) (file_events file (file_narrow input narrow) accepted))

-- what is written then, and that it has room
written : (input : List ℕ) (b : Bool) → Bytes input → (length input ≡ 0 → ⊥) → file_refusal (file_behind input) ≡ 0
    → refused_in (get_or input 0 0) (events_of (file_behind input)) ≡ b
    → (shorter_if b (get_or input 0 0) (events_of (file_behind input)) ≡ shorter input) × (length (shorter input) ≤ 65536)
written input b narrow some accepted is = (
  accepted_shorter (get_or input 0 0) (file_behind input) accepted is ∙ ap shorter (number_and_file input some),
  shorter_fits input narrow,
)

pub returns-then-input-eq0 : goal.returns-then-input-eq0
returns-then-input-eq0 c =
    let input = c.args.input.now in
    let fits = shorter_fits input (λ i. (c.type_inv.input i).fits) in
    at_front (omega (arith, fits)) (reading (no_input input c.if-input-eq0.true) c.put_file_line.ensures)

pub returns-in-Err : goal.returns-in-Err
returns-in-Err c =
    let input = c.args.input.now in
    let fits = shorter_fits input (λ i. (c.type_inv.input i).fits) in
    let line = ap file_line c.from.ensures
    ∙ refused_shorter (get_or input 0 0) (file_behind input) c.check_file.ensures c.in-Err.is in
    at_front (omega (arith, fits))
    (reading (line ∙ ap shorter (number_and_file input c.if-input-eq0.false)) c.put_file_line-in-Err.ensures)

pub ask-requires : goal.ask-requires
ask-requires c =
    let input = c.args.input.now in (
      file_read (file_behind input) (file_narrow input (λ i. (c.type_inv.input i).fits))
          (sym c.in_default.ensures),
      ap sound_machine c.empty.ensures ∙ empty_machine_sound,
    )

pub returns-then-is_none : goal.returns-then-is_none
returns-then-is_none c =
    let input = c.args.input.now in
    let narrow : Bytes input = λ i. (c.type_inv.input i).fits in
    let accepted : file_refusal (file_behind input) ≡ 0 = sym c.in_default.ensures in
    let tested : is_some c.ask.result ≡ false = search rules in
    let is = asked input _ (is_some c.ask.result) narrow accepted c.empty.ensures c.ask.ensures.found in
    let w = written input _ narrow c.if-input-eq0.false accepted (is ∙ tested) in
    at_front (omega (arith, w.1)) (reading (ap file_line c.from-then-is_none.ensures ∙ w.0) c.put_file_line-then-is_none.ensures)

pub put_shortened-requires : goal.put_shortened-requires
put_shortened-requires c =
    let input = c.args.input.now in
    let narrow : Bytes input = λ i. (c.type_inv.input i).fits in
    let accepted : file_refusal (file_behind input) ≡ 0 = sym c.in_default.ensures in
    let tested : is_some c.ask.result ≡ true = search rules in
    let is = asked input _ (is_some c.ask.result) narrow accepted c.empty.ensures c.ask.ensures.found in
    (accepted, is ∙ tested)

pub returns : goal.returns
returns c =
    let input = c.args.input.now in
    let narrow : Bytes input = λ i. (c.type_inv.input i).fits in
    let accepted : file_refusal (file_behind input) ≡ 0 = sym c.in_default.ensures in
    let tested : is_some c.ask.result ≡ true = search rules in
    let is = asked input _ (is_some c.ask.result) narrow accepted c.empty.ensures c.ask.ensures.found in
    let w = written input _ narrow c.if-input-eq0.false accepted (is ∙ tested) in
    at_front (omega (arith, w.1)) (reading w.0 c.put_shortened.ensures)
