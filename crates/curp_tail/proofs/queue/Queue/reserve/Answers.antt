use Rattle.std.proofs.Common.{arith}
use Rattle.curp_tail.proofs.Waits.{ids_counted, waits_counted}
use Rattle.curp_tail.proofs.queue.Queue.reserve.Goals as goal

pub returns-in_err-reserve-clause-no_more : goal.returns-in_err-reserve-clause-no_more
returns-in_err-reserve-clause-no_more c =
    let ids = ids_counted c.self.inside.order.items c.self.inside.waits.items in
    rw (← c.self.view_is) (omega (arith, c.reserve.ensures.no_more, ids))

pub returns-clause-no_more : goal.returns-clause-no_more
returns-clause-no_more c =
    let ids = ids_counted c.self.inside.order.items c.self.inside.waits.items in
    let waits = waits_counted c.self.inside.order.items c.self.inside.waits.items c.self.invariant in
    rw (← c.self.view_is) (omega (arith, c.reserve.ensures.no_more, c.reserve-2.ensures.no_more, ids, waits))
