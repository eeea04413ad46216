-- An event that still has room.
use Rattle.std.proofs.Common.{rules, ◌≡◌}
use Rattle.list_line.specs.Reading.{One, line_of}
use Rattle.list_text.proofs.Counting.{counts_one}
use Rattle.list_text.proofs.filing.count_line.Goals as goal

pub returns-clause-counts : goal.returns-clause-counts
returns-clause-counts c =
    let told : line_of c.args.line.now ≡ One c.in-Some.event = search rules in
    counts_one c.args.filled told c.record_length.ensures.value c.if-after-gt65536.false
