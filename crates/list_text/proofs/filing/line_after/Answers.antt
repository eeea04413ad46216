-- One more than the line feeds.
use mathlib.Core.Path.{ap, ◌∙◌}
use Rattle.std.proofs.Common.{rules, ℕ, ◌+◌, ◌≡◌, count_by}
use Rattle.list_line.specs.Reading.{line_feed}
use Rattle.list_text.proofs.Counting.{line_after_is}
use Rattle.list_text.proofs.filing.line_after.Goals as goal

pub returns : goal.returns
returns c =
    let feeds : c.count.result ≡ count_by line_feed c.args.text.now = search rules in
    ap (λ (n : ℕ). 1 + n) feeds ∙ line_after_is c.args.text.now
