-- Two columns, the interval and the line feed, one after the other.
use mathlib.Core.Path.{◌≡◌, ap}
use mathlib.Core.List.{append_assoc}
use Rattle.std.proofs.Common.{rules}
use Rattle.rules.specs.Key.{bytes}
use Rattle.text.specs.Put.{Put}
use Rattle.text.proofs.Puts.{◌then◌, reading}
use Rattle.ranking_table.specs.Ranking.{Answer, answer_of}
use Rattle.ranking_sheet.specs.Sheet.{answer_line}
use Rattle.ranking_sheet.proofs.answers.put_answer.Goals as goal
use Rattle.ranking_sheet.proofs.answers.put_answer.Goals.{in-Ok, in-Err}

pub returns : goal.returns
unfolding answer_line bytes
returns c =
    let figures : Answer = record { refusal = c.from-2.result; priority = c.from-3.result; interval = c.from-4.result } in
    let is : figures ≡ answer_of c.args.answer =
    elim c.match-answer.branch [ in-Ok w ↦ search rules | in-Err w ↦ search rules ] in
    let line : Put c.args.out.now c.put_byte.new.out c.args.at c.put_byte.result (answer_line figures) =
    reading (simp append_assoc)
    (c.put_column-second.ensures then c.put_column-third.ensures then c.put_decimal-end.ensures then c.put_byte.ensures) in
    reading (ap answer_line is) line
