-- Each refusal is the first that fits; past them the running server replies.
use Prim.Native.Nat.{ℕ}
use mathlib.Core.Path.{◌≡◌, refl, sym, ◌∙◌, ap}
use mathlib.Core.Bool.{true, false}
use native.Mathlib.Omega.{arith}
use Rattle.std.proofs.Common.{rules}
use Rattle.rules.specs.declared.Event.TheVariants.{Reply}
use Rattle.rules.specs.declared.refusal.Refusal.TheVariants.{NothingRuns, RunsAClient}
use Rattle.rules.specs.State.{thread_at, with_threads}
use Rattle.rules.specs.Sound.{is_server}
use Rattle.rules.specs.Threads.{replied}
use Rattle.rules.specs.Events.{reply, reply_by, reply_to}
use Rattle.rules.proofs.Tables.Writes.{replied_relabels}
use Rattle.dispatcher.specs.Shown.{shown}
use Rattle.dispatcher.proofs.Stored.{sound_stored, sound_shown}
use Rattle.dispatcher.proofs.Answering.{refuse, accept, said_of}
use Rattle.dispatcher.proofs.Current.{running_fits}
use Rattle.dispatcher.proofs.ThreadChanges.{choosable, threads_to, threads_shown, threads_exact}
use Rattle.dispatcher.proofs.Machine.dispatch_reply.Goals as goal

pub returns-in_default : goal.returns-in_default
returns-in_default c = refuse _ _ NothingRuns (rw c.in_default.is refl)

pub bounds-self-from : goal.bounds-self-from
bounds-self-from c = omega (arith, c.from.ensures, running_fits _ _ _ _ (sound_shown _ c.requires) c.in-Runs.is)

pub returns-then-ne : goal.returns-then-ne
returns-then-ne c =
    let m = c.args.self.now in
    let other : is_server (thread_at m.threads c.from.result).role ≡ false = search rules in
    let client = ap (λ (k : ℕ). is_server (thread_at m.threads k).role) (sym c.from.ensures) ∙ other in
    refuse _ _ RunsAClient (rw (c.in-Runs.is, client) refl)

pub reply_to-requires : goal.reply_to-requires
reply_to-requires c =
    choosable _ (threads_exact c.args.self.now _ _ (sound_stored _ c.requires) c.replied-self.ensures (replied_relabels _ _).count)

pub returns : goal.returns
unfolding reply
returns c =
    let m = c.args.self.now in
    let t = c.in-Runs.t in
    let count = c.in-Runs.count in
    let same : is_server (thread_at m.threads c.from.result).role ≡ true = search rules in
    let server = ap (λ (k : ℕ). is_server (thread_at m.threads k).role) (sym c.from.ensures) ∙ same in
    let after = with_threads (replied c.in-Runs.server m.threads) (shown m) in
    let read = (thread_at m.threads c.from.result).service in
    let service = ap (λ (k : ℕ). (thread_at m.threads k).service) c.from.ensures in
    accept Reply m c.requires (rw (c.in-Runs.is, server) refl)
    (reply_to t count after read)
    (ap (reply_to t count after) service ∙ sym (ap (reply_by (shown m)) c.in-Runs.is)) _
    (said_of (λ u. reply_to t count u read) (threads_to _ m) _ _
    (threads_shown m _ _ c.replied-self.ensures) c.reply_to.ensures)
