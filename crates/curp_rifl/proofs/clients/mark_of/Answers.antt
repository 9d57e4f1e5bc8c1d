use Rattle.curp_rifl.proofs.Marks.{marked_first, marked_gone}
use Rattle.curp_rifl.proofs.clients.mark_of.Goals as goal

pub returns-clause-first : goal.returns-clause-first
returns-clause-first c = rw (c.unwrap_or.ensures, c.value_of.ensures.value) (marked_first c.args.clients.now.items c.value_of.ensures.ascend c.args.client)

pub returns-clause-gone : goal.returns-clause-gone
returns-clause-gone c = rw (c.unwrap_or.ensures, c.value_of.ensures.value) (marked_gone c.args.clients.now.items c.value_of.ensures.ascend c.args.client)
