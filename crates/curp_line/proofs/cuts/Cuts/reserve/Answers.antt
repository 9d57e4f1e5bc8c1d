use Rattle.std.proofs.Common.{arith}
use Rattle.curp_line.proofs.Found.{epochs_counted}
use Rattle.curp_line.proofs.cuts.Cuts.reserve.Goals as goal

pub invariant_of-self : goal.invariant_of-self
invariant_of-self c = rw c.reserve.ensures.items c.self.invariant

pub invariant_of-self-2 : goal.invariant_of-self-2
invariant_of-self-2 c = rw (c.reserve.ensures.items, c.reserve-2.ensures.epochs) c.self.invariant

pub returns-clause-no_more : goal.returns-clause-no_more
returns-clause-no_more c =
    let epochs = epochs_counted c.self.inside.epochs.epochs c.self.inside.list.items c.self.invariant in
    rw (← c.self.view_is) (omega (arith, c.reserve.ensures.no_more, c.reserve-2.ensures.no_more, epochs))
