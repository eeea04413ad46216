-- What a write took goes on behind what was written before.
use Rattle.std.proofs.Common.{rules, take, ◌++◌, subst, ap, sym, ◌∙◌}
use Rattle.std.proofs.lemmas.List.{take_rest}
use Rattle.std.specs.Io.KnownBytes.{Appends}
use Rattle.std.proofs.KnownBytes.{Appends-trans}
use lib.Seq.{take-add}
use Rattle.streams.proofs.output.send.Goals as goal

pub loop-at-preserved : goal.loop-at-preserved
loop-at-preserved g c =
    let at = c.loop-at.at in
    let text = c.args.text.now in
    let taken = ap (λ l. take at text ++ take c.in-Ok.n l) (take_rest text at) ∙ sym (take-add at c.in-Ok.n text) in
    (search rules, subst (Appends _ _) taken (Appends-trans _ _ _ _ _ c.loop-at.invariant.1 c.in-Ok.ensures.bytes))
