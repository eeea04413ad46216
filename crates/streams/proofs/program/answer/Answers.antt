-- A failure is handed on as it was; what was sent is the front of what the sheet wrote.
use Rattle.std.proofs.Common.{sym, subst}
use Rattle.streams.specs.Program.{IsFrontOf}
use Rattle.streams.proofs.Printing.{front, unread, printed, cut_off}
use Rattle.streams.proofs.program.answer.Goals as goal

pub returns-in_err-n : goal.returns-in_err-n
returns-in_err-n g c = unread _ _ _ _ _ _ _ c.from_residual.ensures.1

pub returns-in_err-send : goal.returns-in_err-send
returns-in_err-send g c =
    let read = subst (IsFrontOf _ _) (sym c.front.ensures) (front _ _ _ _ c.in_ok-n.ensures.counts c.in_ok-n.ensures.bytes) in
    let within = c.requires.within _ _ _ _ c.sheet-written.ensures in
    cut_off _ _ _ _ _ _ _ _ _ _ _ read c.sheet-written.ensures within c.as_bytes.ensures _ _
    c.from_residual-in_err-send.ensures.1 c.in_err-send.ensures.counts c.in_err-send.ensures.bytes

pub returns : goal.returns
returns g c =
    let read = subst (IsFrontOf _ _) (sym c.front.ensures) (front _ _ _ _ c.in_ok-n.ensures.counts c.in_ok-n.ensures.bytes) in
    let within = c.requires.within _ _ _ _ c.sheet-written.ensures in
    printed _ _ _ _ _ _ _ _ _ _ _ read c.sheet-written.ensures within c.as_bytes.ensures _
    c.in_ok-send.ensures.counts c.in_ok-send.ensures.bytes
