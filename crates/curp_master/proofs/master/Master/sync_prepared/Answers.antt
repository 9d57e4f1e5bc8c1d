use Rattle.std.proofs.Common.{[], ap}
use Rattle.curp_model.specs.Master.{MasterState}
use Rattle.curp_msg.specs.Moved.{Node}
use Rattle.curp_master.proofs.Begun.{next_of}
use Rattle.curp_master.proofs.KeptUp.{later}
use Rattle.curp_master.proofs.master.Master.sync_prepared.Goals as goal

pub invariant_of-self : goal.invariant_of-self
invariant_of-self c =
    later c.self.invariant (next_of c.args.self.now [] c.in_ok-round.ensures c.in-Some.is (ap (λ (n : Node MasterState). n.state.round) c.self.view_is))
