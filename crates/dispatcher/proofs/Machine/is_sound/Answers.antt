-- The test over the parts is the test of the machine.
use Rattle.soundness.specs.Parts.{sound_parts}
use Rattle.dispatcher.specs.Shown.{stored, sound_machine}
use Rattle.dispatcher.proofs.Machine.is_sound.Goals as goal

pub returns : goal.returns
unfolding sound_machine stored sound_parts
returns c = c.is_sound.ensures
