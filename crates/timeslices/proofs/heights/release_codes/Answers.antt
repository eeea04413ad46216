-- Only the codes of the set change.
use Rattle.std.proofs.Common.{rules}
use Rattle.timeslices.specs.Codes.{released_code}
use Rattle.timeslices.proofs.heights.release_codes.Goals as goal

pub returns : goal.returns
returns c = c.recode.ensures (released_code c.args.set c.args.first c.args.behind) (λ t d r gives. search rules)
