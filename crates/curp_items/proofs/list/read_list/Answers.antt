use Rattle.curp_items.proofs.More.{more_read}
use Rattle.curp_items.proofs.list.read_list.Goals as goal

pub loop-preserved : goal.loop-preserved
loop-preserved g c =
    rw c.in_ok-push.ensures.items (more_read (λ before. g.T.Item.format) c.loop.items.items c.in_ok-count.count c.loop.counter c.loop.reader _ c.loop.invariant c.in_ok-read.field-0 c.read-in-loop.new.reader c.loop-test.true c.in_ok-read.ensures)
