-- The search decides: of an empty set nothing changes, of a set of one the one moves, and a larger set is released to its topmost.
use mathlib.Core.Path.{refl, ◌∙◌, ap}
use mathlib.Core.List.{map}
use Rattle.tables.specs.Timeslices.{slice_of, place_of}
use Rattle.tables.specs.Sets.{set_of}
use Rattle.neighbours.specs.Reading.{turns_read}
use Rattle.timeslices.proofs.Alone.{found_none, found_one, found_several}
use Rattle.timeslices.proofs.Detaching.{replaced}
use Rattle.timeslices.proofs.release.release.Goals as goal

pub returns-in-None : goal.returns-in-None
returns-in-None c =
    let turns = turns_read c.args.after.now c.args.live in
    record {
      slices = refl;
      places = found_none (set_of c.args.set) _ turns (map place_of c.args.timeslices) _ c.members_of.ensures
          c.in-None.is;
    }

pub returns-in-One : goal.returns-in-One
returns-in-One c =
    let turns = turns_read c.args.after.now c.args.live in
    let r = replaced c.args.timeslices _ _ _ c.timeslice_at-x.ensures in
    record {
      slices = ap (map slice_of) c.with_entry.ensures ∙ r.slices;
      places = ap (map place_of) c.with_entry.ensures ∙ r.places
          ∙ found_one (set_of c.args.set) _ turns (map place_of c.args.timeslices) _ c.members_of.ensures _ c.in-One.is;
    }

pub returns-in-Several : goal.returns-in-Several
returns-in-Several c =
    let turns = turns_read c.args.after.now c.args.live in
    record {
      slices = c.released.ensures.slices;
      places = c.released.ensures.places
          ∙ found_several (set_of c.args.set) _ turns (map place_of c.args.timeslices) _ c.members_of.ensures _
          c.in-Several.is;
    }
