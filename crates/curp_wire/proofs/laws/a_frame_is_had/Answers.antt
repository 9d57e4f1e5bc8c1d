use Rattle.curp_wire.proofs.Frames.{frame_had}
use Rattle.curp_wire.proofs.laws.a_frame_is_had.Goals as goal

pub returns : goal.returns
returns c = frame_had
