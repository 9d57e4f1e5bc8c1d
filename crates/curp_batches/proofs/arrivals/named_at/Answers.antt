use Rattle.curp_batches.specs.Arrivals.{name}
use Rattle.curp_batches.proofs.Encodings.{prefix_within, nameless}
use Rattle.curp_batches.proofs.arrivals.named_at.Goals as goal

pub named_behind-requires : goal.named_behind-requires
named_behind-requires c = record { begins = c.in-Ok.ensures; within = prefix_within name c.args.bytes.now c.in-Ok.name c.in-Ok.at c.in-Ok.ensures }

pub returns-in-Err : goal.returns-in-Err
returns-in-Err c = nameless c.args.bytes.now c.in-Err.why c.in-Err.ensures
