use Rattle.curp_rifl.proofs.Marks.{left_gone, left_firsts}
use Rattle.curp_rifl.proofs.clients.mark_gone.Goals as goal

pub returns-clause-firsts : goal.returns-clause-firsts
returns-clause-firsts c = rw (c.put.ensures.items, c.mark_of-mark.ensures.mark) (left_firsts c.args.clients.now.items c.mark_of-mark.ensures.ascend c.args.client)

pub returns-clause-gone : goal.returns-clause-gone
returns-clause-gone c = rw (c.put.ensures.items, c.mark_of-mark.ensures.mark) (left_gone c.args.clients.now.items c.mark_of-mark.ensures.ascend c.args.client)
