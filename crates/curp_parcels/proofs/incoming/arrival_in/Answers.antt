use Rattle.curp_parcels.proofs.Found.{no_arrival_so}
use Rattle.curp_parcels.proofs.incoming.arrival_in.Goals as goal

pub returns-in-Err : goal.returns-in-Err
returns-in-Err c = no_arrival_so c.args.content.now c.in-Err.why c.no_arrival.result c.in-Err.ensures c.no_arrival.ensures
