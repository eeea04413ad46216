-- A word that is no number, one that is taken, or one too large.
use mathlib.Core.Path.{◌≡◌, refl}
use mathlib.Core.List.{◌∷◌}
use native.Mathlib.Omega.{arith}
use Rattle.std.proofs.Common.{rules}
use Rattle.list_line.proofs.Taking.{takes_no_number, takes_above, takes}
use Rattle.list_line.proofs.words.Words.number.Goals as goal

pub returns-in-None-clause-takes : goal.returns-in-None-clause-takes
returns-in-None-clause-takes c =
    let there : c.args.self.now ≡ c.in_ok-word.word.now ∷ c.word.new.self = search rules in
    takes_no_number c.in_ok-word.word.now _ _ there c.in-None.ensures

pub returns-in-Some-clause-takes : goal.returns-in-Some-clause-takes
returns-in-Some-clause-takes c =
    let there : c.args.self.now ≡ c.in_ok-word.word.now ∷ c.word.new.self = search rules in
    takes c.in_ok-word.word.now _ _ there c.in-Some.n c.in-Some.ensures.0
    (omega (arith, c.in-Some.ensures.1, c.if-n-from.true, c.from.ensures, c.ranges.most.fits))
    (omega (arith, c.if-n-from.true, c.from.ensures))

pub returns-in-Some-2-clause-takes : goal.returns-in-Some-2-clause-takes
returns-in-Some-2-clause-takes c =
    let there : c.args.self.now ≡ c.in_ok-word.word.now ∷ c.word.new.self = search rules in
    takes_above c.in_ok-word.word.now _ _ there c.args.above refl c.in-Some.ensures.0
    (omega (arith, c.in-Some.ensures.1, c.if-n-from.false, c.from.ensures, c.ranges.most.fits))
