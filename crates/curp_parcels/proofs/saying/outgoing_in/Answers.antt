use Rattle.curp_parcels.proofs.Formats.{nothing_said}
use Rattle.curp_parcels.proofs.saying.outgoing_in.Goals as goal

pub returns-in-empty : goal.returns-in-empty
returns-in-empty c = nothing_said c.args.content.now c.in-empty.len_below
