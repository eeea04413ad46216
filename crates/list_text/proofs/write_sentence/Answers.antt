-- The sentence, put at the front of a buffer that has room for every one.
use native.Mathlib.Omega.{arith}
use Rattle.text.proofs.Puts.{at_front}
use Rattle.list_text.proofs.Sentences.{sentence_fits}
use Rattle.list_text.proofs.write_sentence.Goals as goal

pub returns : goal.returns
returns c =
    let fits = sentence_fits c.args.line c.args.fault c.ranges.line.fits in
    at_front (omega (arith, fits)) c.put_sentence.ensures
