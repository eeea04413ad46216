-- The name with the number, a space, the role.
use Prim.Native.Nat.{ℕ}
use mathlib.Core.Path.{ap}
use Rattle.text.proofs.Puts.{◌then◌, reading}
use Rattle.rules.specs.declared.Event.TheVariants.{Create}
use Rattle.rules.specs.Key.{bytes}
use Rattle.list_writer.specs.Writing.{event_words}
use Rattle.list_writer.proofs.writer.put_create.Goals as goal

pub returns : goal.returns
unfolding event_words bytes
returns c =
    reading (ap (λ (n : ℕ). event_words (Create n c.args.role)) c.from.ensures)
    (c.put_named-space.ensures then c.put_byte-word.ensures then c.put_role.ensures)
