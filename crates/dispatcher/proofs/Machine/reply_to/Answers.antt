-- The service and the count decide whether the caller runs or a choice follows.
use mathlib.Core.Path.{refl}
use borrow.Author.Tests.{lt-ltb}
use Rattle.dispatcher.proofs.Answering.{stands}
use Rattle.dispatcher.proofs.ThreadChanges.{running_exact}
use Rattle.dispatcher.proofs.Machine.reply_to.Goals as goal

pub returns-in-Serving : goal.returns-in-Serving
returns-in-Serving c =
    rw (c.in-Serving.is, lt-ltb _ _ c.if-count-gt0.true)
    (stands refl (running_exact c.args.self.now _ _ _ c.requires.exact refl refl))
