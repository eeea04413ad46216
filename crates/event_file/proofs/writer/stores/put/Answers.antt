-- `put`: the bytes stand where they were copied to, and before and behind them what stood there.
use Prim.Native.Nat.{ℕ, ◌+◌, ◌≤◌}
use mathlib.Core.Path.{◌≡◌, refl, sym, ◌∙◌}
use mathlib.Core.List.{List, ◌++◌}
use native.Mathlib.Omega.{arith}
use lib.ListN.{length, take, drop}
use Rattle.std.proofs.Common.{append_assoc}
use Rattle.std.proofs.lemmas.List.Edits.{sets, sets-eq, paste_all}
use Rattle.std.proofs.lemmas.Slice.{put_mid-paste}
use Rattle.event_file.proofs.writer.stores.put.Goals as goal

between : (l vs : List ℕ) (at : ℕ) → at + length vs ≤ length l → take at l ++ (vs ++ drop (at + length vs) l) ≡ sets l at vs
between l vs at h = sym (sets-eq vs l at h ∙ append_assoc (take at l) vs (drop (at + length vs) l))

pub returns : goal.returns
returns c =
    put_mid-paste c.args.at _ c.args.buffer.now _ c.args.bytes.now _ c.copy_from_slice.ensures.after (omega arith) refl
    ∙ paste_all c.args.buffer.now c.args.at c.args.bytes.now _ refl
    ∙ between c.args.buffer.now c.args.bytes.now c.args.at c.requires
