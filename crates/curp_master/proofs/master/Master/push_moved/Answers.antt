use Rattle.std.proofs.Common.{false, ap}
use Rattle.curp_model.specs.Master.{MasterState}
use Rattle.curp_msg.specs.Moved.{Node}
use Rattle.curp_master.proofs.Begun.{next_of}
use Rattle.curp_master.proofs.KeptUp.{later, pushed}
use Rattle.curp_master.proofs.master.Master.push_moved.Goals as goal

pub invariant_of-self-2 : goal.invariant_of-self-2
invariant_of-self-2 c =
    later (pushed c.self.invariant c.args.entry false c.push.ensures.pushed c.in_ok-reserve.ensures.kept) (next_of c.args.self.now c.from_ref.result.now c.in_ok-round.ensures c.in-Some.is (ap (λ (n : Node MasterState). n.state.round) c.self.view_is))
