use Rattle.std.proofs.Common.{arith}
use Rattle.curp_rifl.proofs.Marks.{raised, raised_gone}
use Rattle.curp_rifl.proofs.clients.raise_first.Goals as goal

pub returns-then-first-gt0-clause-firsts : goal.returns-then-first-gt0-clause-firsts
returns-then-first-gt0-clause-firsts c =
    rw (c.put.ensures.items, c.max.ensures, c.mark_of-mark.ensures.mark)
    (raised c.args.clients.now.items c.mark_of-mark.ensures.ascend c.args.client c.args.first (omega arith))

pub returns-then-first-gt0-clause-gone : goal.returns-then-first-gt0-clause-gone
returns-then-first-gt0-clause-gone c =
    rw (c.put.ensures.items, c.mark_of-mark.ensures.mark)
    (raised_gone c.args.clients.now.items c.mark_of-mark.ensures.ascend c.args.client c.max.result)
