-- Block: the running thread was Ready, so nothing waited at it and no loop passes it.
use Prim.Native.Nat.{ℕ}
use mathlib.Core.Path.{◌≡◌, refl}
use mathlib.Core.Bool.{true, false}
use native.Mathlib.Omega.{arith}
use Rattle.rules.specs.declared.Hold.TheVariants.{Blocked}
use Rattle.rules.specs.declared.Running.{Running}
use Rattle.rules.specs.declared.Running.TheVariants.{Nothing, Runs}
use Rattle.rules.specs.declared.Event.TheVariants.{Block}
use Rattle.rules.specs.State.{State, forget, nothing_runs}
use Rattle.rules.specs.Refusals.{refusal}
use Rattle.rules.specs.Events.{block, block_by}
use Rattle.rules.specs.Plain.{update, plain_block}
use Rattle.rules.proofs.Basics.Views.{clash}
use Rattle.rules.proofs.Tables.Updates.{hold_update, ready_free, blocked_free}
use Rattle.rules.proofs.Soundness.Places.{Sound}
use Rattle.rules.proofs.Choosing.Changes.{ready_change, change_mid}
use Rattle.rules.proofs.Events.Hands.{Handed, same_limit, active}
use Rattle.rules.proofs.Basics.Accepting.{passes}

block_by_lem : (s : State) → Sound s → (r : Running) → s.running ≡ r → nothing_runs r ≡ false → Handed s (block_by s r) (plain_block (forget s) r)
block_by_lem s x Nothing e f = clash true refl f
block_by_lem s x (Runs n t count) e f =
    let a = active s x n t count e in
    let sane = x.mid.shape.sane in
    let u = hold_update s.threads n Blocked sane a.live (rw a.runs.ready ready_free) blocked_free
    (λ k q. let z : ◌≡◌ {A = ℕ} 0 1 = cc in absurd (omega arith)) in
    record {
      mid = change_mid (ready_change x.mid u.update a.runs.ready u.others);
      plain = refl;
      settled = λ q. clash true refl q;
      unwalked = λ q. refl;
      links = λ q. same_limit s 0 (plain_block (forget s) (Runs n t count)) (omega arith) u.update.count refl;
    }

pub block_handed : (s : State) → Sound s → refusal Block (forget s) ≡ 0 → Handed s (block s) (update Block (forget s))
unfolding block
block_handed s x e = block_by_lem s x s.running refl (passes (nothing_runs s.running) 4 0 e).0
