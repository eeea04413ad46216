-- COMMAND BY COMMAND: the lines put so far and those of the commands that are left make the whole.
use Prim.Native.Nat.{ℕ, suc, ◌+◌, ◌*◌, ◌≤◌}
use native.Mathlib.Omega.{arith}
use mathlib.Core.Path.{◌≡◌, sym, ap, ◌∙◌, subst}
use mathlib.Core.List.{List, ◌∷◌, ◌++◌, append_assoc}
use Rattle.std.specs.Result.{result_unwrap_or}
use Rattle.rules.specs.RefusalNumbers.{number_in, links_in}
use Rattle.rules.specs.EventFile.{Bytes, or_none, file_refusal, events_of}
use Rattle.rules.specs.Key.{decimal, line}
use Rattle.event_file.specs.Left.{events_at, Left}
use Rattle.event_file.proofs.Steps.{all_left}
use Rattle.dispatcher.specs.declared.Machine.{Machine}
use Rattle.dispatcher.specs.Shown.{shown, sound_machine, empty_machine}
use Rattle.dispatcher.proofs.Runs.{shows_empty, empty_machine_sound}
use Rattle.replay.specs.Running.{Ready}
use Rattle.replay.proofs.Inputs.{file_accepted}
use Rattle.replay.proofs.Turns.{links_said}
use Rattle.text.specs.Line.{line_bytes}
use Rattle.text.specs.Put.{Put}
use Rattle.text.proofs.Puts.{◌then◌, reading}
use Rattle.text.proofs.Putting.{Going, begin, more}
use Rattle.text.proofs.Putting as putting
use Rattle.card_sheet.specs.declared.Command.{Command}
use Rattle.card_sheet.specs.declared.commands.Obeyed.{Obeyed}
use Rattle.card_sheet.specs.Sheet.{block_in, count_at, command_count, command_from, commands_from, commands_in, file_at, file_in}
use Rattle.card_sheet.specs.Sheet.{input_refusal}
use Rattle.card_sheet.specs.Sheet.{Done, done, stand_after, block_text, two_lines, command_lines, at_first}
use Rattle.card_sheet.specs.Promises.{stand_of, Obeys}
use Rattle.card_sheet.proofs.Inputs.{file_early}

-- the lines of what a command did
pub its_lines : {d : Done} {file after : List ℕ} {r : Obeyed} (number : ℕ) → Obeys d file after r
    → line_bytes number (number_in r.answer) r.machine.running (links_in r.answer) ++ (decimal r.byte ++ block_text after)
    ≡ two_lines number d
unfolding line_bytes line two_lines
its_lines {d} {after = after} {r = r} number o =
    let answer : record { state = shown r.machine; refusal = number_in r.answer; links = links_in r.answer } ≡ d.answer =
    λ i. record { state = o.state i; refusal = o.refusal i; links = o.links i } in
    let first = line_bytes number (number_in r.answer) r.machine.running (links_in r.answer) in
    sym (append_assoc first (decimal r.byte) (block_text after))
    ∙ (λ i. line number (answer i) ++ decimal (o.byte i) ++ block_text (o.block i))

-- and where it leaves the code
pub next_stand : {d : Done} {file after : List ℕ} {r : Obeyed} → Obeys d file after r
    → stand_of after file r.offset r.machine ≡ stand_after d
next_stand o =
    let block = o.block in
    let state = o.state in
    let events = ap or_none o.left.reads in
    λ i. record { block = block i; state = state i; events = events i }

pub next_ready : {d : Done} {file after : List ℕ} {r : Obeyed} → Obeys d file after r → Ready file r.offset r.machine
next_ready {file = file} {r = r} o =
    record { left = subst (Left file r.offset) (sym (ap or_none o.left.reads)) o.left; sound = o.sound }

pub record Commanding (input file before now block : List ℕ) (m : Machine) (offset place left number at : ℕ) : Type 0 where
  pub inside : place + 3 * left ≤ 1022
  pub ready : Ready file offset m
  pub going : Going before now 0 at (command_lines number (commands_from input place left) (stand_of block file offset m))
      (command_lines 1 (commands_in input) (at_first input))

-- before the first command
pub command_none : (input out : List ℕ) {file block : List ℕ} {m : Machine} {place left : ℕ} → Bytes input → input_refusal input ≡ 0
    → file ≡ file_in input → block ≡ block_in input → m ≡ empty_machine → place ≡ count_at input → left ≡ command_count input
    → Commanding input file out out block m 5 (place + 1) left 1 0
unfolding events_of
command_none input out {file} {block} {m} {place} {left} narrow accepted is-file is_Block is-empty at count =
    let early = file_early input narrow in
    let shows = shows_empty m is-empty in
    let stand : stand_of block file 5 m ≡ at_first input =
    λ i. record { block = is_Block i; state = shows i; events = events_at 5 (is-file i) } in
    let whole : command_lines 1 (commands_from input (place + 1) left) (stand_of block file 5 m)
    ≡ command_lines 1 (commands_in input) (at_first input) =
    λ i. command_lines 1 (commands_from input (at i + 1) (count i)) (stand i) in
    record {
      inside = omega (arith, early, at, count);
      ready =
          record {
            left = all_left file (ap file_refusal is-file ∙ file_accepted (file_at input) input accepted);
            sound = ap sound_machine is-empty ∙ empty_machine_sound;
          };
      going = putting.same_left (begin out 0 (command_lines 1 (commands_in input) (at_first input))) (sym whole);
    }

module _ {input file before now block : List ℕ} {m : Machine} {offset place left number at : ℕ}
    (x : Commanding input file before now block m offset place left number at) where
  -- one command, and its two lines
  pub command_one : (fewer : ℕ) → left ≡ suc fewer → {c : Command} {after middle next : List ℕ} {refusal links second to : ℕ} {r : Obeyed}
      → c ≡ command_from input place → Obeys (done c (stand_of block file offset m)) file after r
      → refusal ≡ number_in r.answer → links ≡ result_unwrap_or r.answer 0
      → Put now middle at second (line_bytes number refusal r.machine.running links)
      → Put middle next second to (decimal r.byte ++ block_text after)
      → Commanding input file before next after r.machine r.offset (place + 3) fewer (number + 1) to
  unfolding commands_from command_lines
  command_one fewer one {c} {after} {r = r} is o said followed p q =
      let d = done c (stand_of block file offset m) in
      let cs = commands_from input (place + 3) fewer in
      let rest : List ℕ = command_lines (number + 1) cs (stand_of after file r.offset r.machine) in
      let later : command_lines (number + 1) cs (stand_after d) ≡ rest = ap (command_lines (number + 1) cs) (sym (next_stand o)) in
      let first : command_lines number (commands_from input place left) (stand_of block file offset m)
      ≡ command_lines number (c ∷ cs) (stand_of block file offset m) =
      ap (λ (n : ℕ). command_lines number (commands_from input place n) (stand_of block file offset m)) one
      ∙ ap (λ (z : Command). command_lines number (z ∷ cs) (stand_of block file offset m)) (sym is) in
      let put = rw (said, followed, links_said r.answer) at p in
      record {
        inside = omega (arith, x.inside);
        ready = next_ready o;
        going = more x.going (two_lines number d) {rest = rest} (reading (its_lines number o) (put then q))
            (first ∙ ap (λ (l : List ℕ). two_lines number d ++ l) later);
      }

  pub command_all : left ≡ 0 → Put before now 0 at (command_lines 1 (commands_in input) (at_first input))
  unfolding commands_from command_lines
  command_all none_left =
      putting.done x.going (ap (λ (n : ℕ). command_lines number (commands_from input place n) (stand_of block file offset m)) none_left)
