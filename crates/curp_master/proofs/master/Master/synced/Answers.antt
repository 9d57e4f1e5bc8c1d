use Rattle.std.proofs.Common.{ap, ◌∙◌}
use Rattle.curp_model.specs.Master as master
use Rattle.curp_model.specs.Master.{MasterState}
use Rattle.curp_msg.specs.Moved.{Node}
use Rattle.curp_master.proofs.KeptUp.{synced_of}
use Rattle.curp_master.proofs.master.Master.synced.Goals as goal

pub returns : goal.returns
returns c = c.synced.ensures ∙ synced_of c.self.invariant ∙ ap (λ (m : Node MasterState). master.synced m.state) c.self.view_is
