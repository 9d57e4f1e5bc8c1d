use Rattle.curp_batches.proofs.Encodings.{frame_fails, frame_prefix}
use Rattle.curp_batches.proofs.arrivals.frame_at.Goals as goal

pub returns-in-Ok : goal.returns-in-Ok
returns-in-Ok c = frame_prefix c.args.bytes.now (c.in-Ok.message, c.in-Ok.length) c.in-Ok.ensures.found c.in-Ok.ensures.within

pub returns-in-Err : goal.returns-in-Err
returns-in-Err c = frame_fails c.args.bytes.now c.decode.result c.in-Err.why c.error_of.result c.in-Err.is c.error_of.ensures c.decode.ensures.exact
