use Rattle.std.proofs.Common.{arith}
use Rattle.curp_wire.proofs.Frames.{made_frame}
use Rattle.curp_wire.proofs.writing.encode.Goals as goal

pub returns-clause-frame : goal.returns-clause-frame
returns-clause-frame c =
    rw c.with_length.ensures (made_frame c.args.message.now c.in_ok-frame.frame.items c.in_ok-frame.ensures.length c.in_ok-frame.ensures.content c.in_ok-frame.ensures.message (omega (arith, c.in_ok-frame.ensures.length)))
