-- What a chain's end says of its timeslice, as the code's enum and as the definitions' type.
use Rattle.rules.specs.Walk.{runs, retries, waits, stalls}
use Rattle.rules.specs.Walk as walks
use Rattle.tables.specs.declared.ends.Verdict.{Verdict}
use Rattle.tables.specs.declared.ends.Verdict.TheVariants.{Runs, Retries, Waits, Stalls}

abbrev pub verdict_of : Verdict → walks.Verdict
verdict_of Runs = runs
verdict_of Retries = retries
verdict_of Waits = waits
verdict_of Stalls = stalls
