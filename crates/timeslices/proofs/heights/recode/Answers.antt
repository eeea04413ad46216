-- Every live entry is looked at once, and its code is changed as the closure says.
use Rattle.timeslices.proofs.Searches.{recode_none, recode_one, recoded}
use Rattle.timeslices.proofs.heights.recode.Goals as goal

pub loop-i-init : goal.loop-i-init
loop-i-init g c = λ f gives. recode_none _ _ _ _ _ c.entries-i-end.ensures

pub loop-i-preserved : goal.loop-i-preserved
loop-i-preserved g c = λ f gives.
    recode_one _ _ _ _ _ _ _ _ (c.loop-i.invariant f gives) c.loop-i-test.true (gives _ _ _ c.change.ensures)

pub returns : goal.returns
returns g c = λ f gives. recoded _ _ _ _ _ _ _ (c.loop-i.invariant f gives) c.loop-i-test.false
