use Rattle.curp_durable.proofs.Stopping.{stopped_leaves}
use Rattle.curp_durable.proofs.laws.a_stopped_batch_leaves_what_was.Goals as goal

pub returns : goal.returns
returns g c = stopped_leaves g.N.Core.machine
