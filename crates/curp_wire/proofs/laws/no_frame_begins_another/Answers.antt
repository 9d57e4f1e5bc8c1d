use Rattle.curp_wire.proofs.Frames.{one_frame}
use Rattle.curp_wire.proofs.laws.no_frame_begins_another.Goals as goal

pub returns : goal.returns
returns c = one_frame
