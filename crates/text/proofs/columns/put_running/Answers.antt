-- What runs is two columns, each with its space, and the last.
use mathlib.Core.List.{append_assoc}
use Rattle.text.proofs.Puts.{◌then◌, reading}
use Rattle.text.proofs.columns.put_running.Goals as goal

pub returns-in-Runs : goal.returns-in-Runs
returns-in-Runs c =
    let thread = rw c.from.ensures at c.put_column-first.ensures in
    let timeslice = rw c.from-in-Runs.ensures at c.put_column-second.ensures in
    let count = rw c.from-in-Runs-2.ensures at c.put_decimal.ensures in
    rw c.in-Runs.is (reading (simp append_assoc) (thread then timeslice then count))
