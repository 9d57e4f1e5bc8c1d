use Rattle.curp_changes.proofs.Spread.{left_once}
use Rattle.curp_changes.proofs.moved.leave.Goals as goal

pub returns : goal.returns
returns c = left_once c.args.ranges.now.spans _ _ c.args.lo c.args.hi _ c.spans-before.ensures.ascend c.spans-after.ensures.ascend c.requires.ordered c.unite.ensures.owned c.take_out.ensures.not_owned c.take_out.ensures.ok
