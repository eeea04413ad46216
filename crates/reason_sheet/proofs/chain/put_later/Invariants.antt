-- The threads written and those that are left make the whole; the line ends at a thread without a link, or where no link may be followed.
use Prim.Native.Nat.{◌-◌}
use Rattle.rules.specs.Reason.{spaced}
use Rattle.reason_sheet.specs.Later.{later}
use Rattle.text.proofs.Putting.{Going}
use Rattle.reason_sheet.proofs.chain.put_later.Given as goal

abbrev pub invariant-loop : goal.invariant-loop
invariant-loop l =
    Going l.initial.out l.out l.at l.place (spaced (later (l.links - l.counter) l.threads l.n)) (spaced (later l.links l.threads l.from))
