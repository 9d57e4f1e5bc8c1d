use Rattle.curp_words.proofs.Begins.{begins_more, wrong_at}
use Rattle.curp_words.proofs.blame.blamed.Goals as goal

pub returns-then-not-branch : goal.returns-then-not-branch
returns-then-not-branch c =
    wrong_at c.args.words.now c.loop-place.place c.in_ok-is_beginning.field-0 c.loop-place-test.true c.loop-place.invariant
    c.in_ok-is_beginning.ensures c.if-not-branch.true

pub loop-place-preserved : goal.loop-place-preserved
loop-place-preserved c =
    begins_more c.args.words.now c.loop-place.place c.in_ok-is_beginning.field-0 c.loop-place.invariant c.in_ok-is_beginning.ensures
    c.if-not-branch.false
