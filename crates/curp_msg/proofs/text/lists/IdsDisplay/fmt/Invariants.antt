use Rattle.std.proofs.Common.{take}
use Rattle.std.specs.List.{flat_map}
use Rattle.std.specs.Fmt.{HasWritten, IsPlainFormatter}
use Rattle.curp_msg.specs.Text.{spaced_id}
use Rattle.curp_msg.proofs.text.lists.IdsDisplay.fmt.Given as goal

-- the numbers so far are written
abbrev pub invariant-loop-id : goal.invariant-loop-id
invariant-loop-id g l =
    IsPlainFormatter l.initial.f → HasWritten g.W.Write.write_str_gives l.initial.f (flat_map spaced_id (take l.id-index l.id-items)) l.f
