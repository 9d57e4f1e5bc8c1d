use Rattle.curp_batches.proofs.Encodings.{prefix_within}
use Rattle.curp_parcels.specs.Outgoing.{name}
use Rattle.curp_parcels.proofs.Found.{nameless_so}
use Rattle.curp_parcels.proofs.saying.sent_in.Goals as goal

pub sent_behind-requires : goal.sent_behind-requires
sent_behind-requires c = record { begins = c.in-Ok.ensures; within = prefix_within name c.args.bytes.now c.in-Ok.name c.in-Ok.at c.in-Ok.ensures }

pub returns-in-Err : goal.returns-in-Err
returns-in-Err c = nameless_so c.args.bytes.now c.in-Err.why c.no_message.result c.in-Err.ensures c.no_message.ensures
