use Rattle.curp_told.proofs.Joining.{parcels_told_join}
use Rattle.curp_told.proofs.laws.batches_do_not_show.Goals as goal

pub returns : goal.returns
returns c = parcels_told_join
