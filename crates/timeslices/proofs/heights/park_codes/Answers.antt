-- Only the parked timeslice gets another code.
use Rattle.std.proofs.Common.{rules}
use Rattle.timeslices.specs.Codes.{parked_code}
use Rattle.timeslices.proofs.heights.park_codes.Goals as goal

pub returns : goal.returns
returns c = c.recode.ensures (parked_code c.args.t c.args.to) (λ t d r gives. search rules)
