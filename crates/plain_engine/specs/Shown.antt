-- How the plain engine's machine shows the plain machine that document 01's rules speak of.
use Rattle.std.specs.Prelude.{replicate, take}
use Rattle.rules.specs.declared.Running.TheVariants.{Nothing}
use Rattle.rules.specs.State.{Plain, limit, free_thread, free_slice}
use Rattle.plain_engine.specs.declared.PlainMachine.{PlainMachine}

-- "The empty machine has no thread, no timeslice and nothing running."
abbrev pub empty_machine : PlainMachine
empty_machine =
    record {
      threads = replicate limit free_thread;
      slices = replicate limit free_slice;
      order = replicate limit 0;
      live = 0;
      running = Nothing;
    }

-- its turn order is the live entries
abbrev pub plain_shown : PlainMachine → Plain
plain_shown m = record { threads = m.threads; slices = m.slices; order = take m.live m.order; running = m.running }
