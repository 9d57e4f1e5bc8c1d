use Rattle.curp_told.proofs.Pending.{counts_on}
use Rattle.curp_told.proofs.greeting.invoked.Goals as goal

pub loop-item-preserved : goal.loop-item-preserved
loop-item-preserved c =
    let l = c.loop-item in
    counts_on c.args.items.now l.item-index c.item-item.result l.count c.counted-count.result c.loop-item-test.true c.item-item.is l.invariant c.counted-count.ensures
