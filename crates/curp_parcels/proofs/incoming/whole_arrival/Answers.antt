use Rattle.curp_parcels.proofs.Formats.{arrival_longer}
use Rattle.curp_parcels.proofs.incoming.whole_arrival.Goals as goal

pub returns-else-length-content : goal.returns-else-length-content
returns-else-length-content c = arrival_longer c.args.content.now c.args.arrived c.args.length c.requires c.if-length-content.false
