-- One timeslice less is listed, and the followers are released.
use Rattle.dispatcher.specs.Shown.{shown}
use Rattle.dispatcher.proofs.Stored.{turns_linked}
use Rattle.dispatcher.proofs.TimesliceChanges.{some_live, fewer_exact, struck_shown}
use Rattle.dispatcher.proofs.Machine.struck_out.Goals as goal

pub overflow_sub-self : goal.overflow_sub-self
overflow_sub-self c = some_live c.args.self.now c.args.t c.requires.choosable.exact c.requires.listed

pub returns : goal.returns
returns c =
    let m = c.args.self.now in
    let ok = c.requires.choosable.exact in
    let out = c.strike_out.ensures.turned (shown m).order (turns_linked m ok) c.requires.listed in
    record {
      state = struck_shown m c.args.t ok c.requires.listed _ out _ c.from.ensures _ c.release-self.ensures;
      exact = fewer_exact m c.args.t ok c.requires.listed _ out _;
    }
