use Rattle.curp_durable.proofs.Stopping.{stopped_holds}
use Rattle.curp_durable.proofs.laws.a_stopped_batch_is_kept_or_lost.Goals as goal

pub returns : goal.returns
returns g c = stopped_holds g.N.Core.machine
